-- What of a page is needed: what stands in the places of what is built, at any depth.
use Rattle.std.specs.Prelude.{ℕ, zero, suc, List, [], ◌∷◌, ◌≡◌, ◌==◌, Bool, true, false, Option, Some, None}
use Rattle.std.specs.List.{flat_map}
use Rattle.cacheability.specs.declared.tag.Tag.{Tag}
use Rattle.content_state.specs.declared.element.Fragment.{Fragment}
use Rattle.content_state.specs.declared.element.Fragment.TheVariants as fragment
use Rattle.content_state.specs.declared.element.Hole.{Hole}
use Rattle.content_state.specs.declared.element.Hole.TheVariants as hole
use Rattle.content_state.specs.Context.{Visit}
use Rattle.content_state.specs.Plan.{Plan, Done as Gives, ◌>>◌}
use Rattle.content_state.specs.Met.{Met, met_nothing, met_tags, met_both, met, result_of}
use Rattle.content_state.specs.Places.{open_places}
use Rattle.cache_entries.specs.declared.entry.Entry.{Entry}
use Rattle.cache_entries.specs.declared.key.Subject.TheVariants as subject
use Rattle.cache_entries.specs.declared.kept.Bin.TheVariants as bin
use Rattle.cache_entries.specs.Entries.{IsHere}
use Rattle.page_meaning.specs.Lazy.{is_lazy}
use Rattle.page_meaning.specs.Meaning.{meaning}
use Rattle.render_canvas.specs.Board.{pieces_of}
use Rattle.render_array.specs.declared.element.Element.{Element}
use Rattle.render_array.specs.declared.element.Element.TheVariants as element
use Rattle.render_array.specs.Built.{fragment_shown, plan_of}
use Rattle.render_array.specs.Whole.{level, fragment_level, element_level}
use Rattle.kept_pages.specs.Went.{Went, Done, OfElement, OneThen}

-- what stands in these places, in their order, where this says what is needed in a place
abbrev pub Visits : (Hole → Went → Type 0) → List Hole → Went → Type 0
Visits At [] t = t ≡ Done
Visits At (h ∷ hs) t = OneThen (At h) (Visits At hs) t

-- what stands in the places that a plan leaves open
abbrev pub InPlaces : (Hole → Went → Type 0) → Visit → Plan (Option ℕ) → Went → Type 0
InPlaces At v p t = Visits At (met p v).places t

-- what is met where a fragment is built
abbrev pub met_fragment : Fragment → Visit → Met
met_fragment f v = met {A = Option ℕ} (fragment_shown f >> Gives None) v

-- a fragment, found by an entry, or built by it, of what stands in its places
abbrev pub FragmentBy : (Hole → Went → Type 0) → Visit → Fragment → Entry → Went → Type 0
FragmentBy At v f entry t =
    OfElement v (met_fragment f v) (InPlaces At v (fragment_shown f >> Gives None)) bin.Fragments (subject.Fragment f) entry t

-- in the place of the libraries nothing is needed; in that of a fragment the fragment, found, or built of what stands in its
-- places
pub record OfFragment (At : Hole → Went → Type 0) (v : Visit) (f : Fragment) (t : Went) : Type 0 where
  pub entry : Entry
  pub element : FragmentBy At v f entry t

abbrev pub OfPlace : (Hole → Went → Type 0) → Visit → Hole → Went → Type 0
OfPlace At v hole.Meta t = t ≡ Done
OfPlace At v (hole.Fragment f) t = OfFragment At v f t

abbrev pub either_shape : Bool → (Went → Type 0) → (Went → Type 0) → Went → Type 0
either_shape true one other t = one t
either_shape false one other t = other t

-- what is needed in a place of an element of a level, where that of the place is lower
abbrev pub NeededBelow : ℕ → Visit → Hole → Went → Type 0
NeededBelow zero v h t = t ≡ Done
NeededBelow (suc k) v h t = either_shape (level h == k) (OfPlace (NeededBelow k v) v h) (NeededBelow k v h) t

-- what is needed for a fragment that is built
abbrev pub InFragment : Visit → Fragment → Went → Type 0
InFragment v f t = InPlaces (NeededBelow (fragment_level f) v) v (fragment_shown f >> Gives None) t

-- what is needed for an element that is built where this path is asked for
abbrev pub NeededFor : List ℕ → Visit → Element → Went → Type 0
NeededFor path v e t = InPlaces (NeededBelow (element_level e) v) v (plan_of path e) t

-- ---- what is needed for the page of a request

-- whether the place of a fragment stays open in the page that is kept for whoever views it, and the tags that this depends on
abbrev pub stays_lazy : Visit → Fragment → Bool
stays_lazy v (fragment.Block name) = result_of (is_lazy name) v
stays_lazy v (fragment.Menu name) = false
stays_lazy v (fragment.Listing name where_placed) = false
stays_lazy v (fragment.TermListing t) = false
stays_lazy v (fragment.Node n mode) = false

abbrev pub tags_of_lazy : Visit → Fragment → List Tag
tags_of_lazy v (fragment.Block name) = (met (is_lazy name) v).tags
tags_of_lazy v (fragment.Menu name) = []
tags_of_lazy v (fragment.Listing name where_placed) = []
tags_of_lazy v (fragment.TermListing t) = []
tags_of_lazy v (fragment.Node n mode) = []

-- in a place of the page that is kept for whoever views it: nothing where it stays open, and else the fragment
abbrev pub NeededInFrame : Visit → Hole → Went → Type 0
NeededInFrame v hole.Meta t = t ≡ Done
NeededInFrame v (hole.Fragment f) t =
    either_shape (stays_lazy v f) (λ u. u ≡ Done) (OfFragment (NeededBelow (fragment_level f) v) v f) t

-- what stands in the places of the page of a path that is built as it is kept for whoever views it
abbrev pub InFrame : List ℕ → Visit → Went → Type 0
InFrame path v t = InPlaces (NeededInFrame v) v (plan_of path element.Page) t

-- the tags that it depends on which places stay open in it
abbrev pub tags_asked : Visit → Hole → List Tag
tags_asked v hole.Meta = []
tags_asked v (hole.Fragment f) = tags_of_lazy v f

-- what is met where it is built: what its plan meets, and which places stay open
abbrev pub met_in_frame : List ℕ → Visit → Met
met_in_frame path v = met_both (met_tags (flat_map (tags_asked v) (met (plan_of path element.Page) v).places)) (met (plan_of path element.Page) v)

-- the page of a path as it is kept for whoever views it, found or built
abbrev pub OfFrame : List ℕ → Visit → Entry → Went → Type 0
OfFrame path v page t = OfElement v (met_in_frame path v) (InFrame path v) bin.Dynamic (subject.Page path) page t

-- what stands in the places that it leaves open, which were filled in then
abbrev pub InHoles : Visit → Entry → Went → Type 0
InHoles v page t = Visits (NeededBelow (element_level element.Page) v) (open_places (pieces_of page.segments)) t

-- a whole page: that of its path, which may be shown on the visit, and then what stands in the places that this leaves open
pub record OfWhole (path : List ℕ) (v : Visit) (t : Went) : Type 0 where
  pub page : Entry
  pub here : IsHere meaning (subject.Page path) v page
  pub both : OneThen (OfFrame path v page) (InHoles v page) t

-- what is needed for a viewer without a session: the whole page of the target, found, or put together of its entries, where
-- nothing is met besides
pub record OfTarget (v : Visit) (t : Went) : Type 0 where
  pub entry : Entry
  pub element : OfElement v met_nothing (OfWhole v.ask.path v) bin.Anonymous (subject.Target v.ask.target) entry t

-- what is needed for the page of a request: for whoever has a session, whose token this is, the whole page of the path is put together
abbrev pub ForSession : Option (List ℕ) → Visit → Went → Type 0
ForSession None v t = OfTarget v t
ForSession (Some token) v t = OfWhole v.ask.path v t

abbrev pub OfRequest : Visit → Went → Type 0
OfRequest v t = ForSession v.viewer.session v t
