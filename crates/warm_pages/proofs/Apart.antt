-- What the page of one target needs leaves alone what is kept of the page of another.
use Rattle.std.proofs.Common.{ℕ, zero, suc, List, [], ◌∷◌, ◌≡◌, Bool, true, false, inl, inr, sym, subst, None}
use Rattle.std.specs.Prelude.{◌==◌}
use Rattle.content_state.specs.declared.element.Fragment.{Fragment}
use Rattle.content_state.specs.declared.element.Hole.{Hole}
use Rattle.content_state.specs.declared.element.Hole.TheVariants as hole
use Rattle.content_state.specs.Context.{Visit}
use Rattle.content_state.specs.Met.{Met, met}
use Rattle.content_state.specs.Plan.{Done as Gives, ◌>>◌}
use Rattle.content_state.specs.Places.{open_places}
use Rattle.cache_entries.specs.declared.entry.Entry.{Entry}
use Rattle.cache_entries.specs.declared.key.Subject.{Subject}
use Rattle.cache_entries.specs.declared.key.Subject.TheVariants as subject
use Rattle.cache_entries.specs.declared.kept.Bin.{Bin}
use Rattle.cache_entries.specs.declared.kept.Bin.TheVariants as bin
use Rattle.render_canvas.specs.Board.{pieces_of}
use Rattle.render_array.specs.declared.element.Element.TheVariants as element
use Rattle.render_array.specs.Built.{fragment_shown, plan_of}
use Rattle.render_array.specs.Whole.{level, fragment_level, element_level}
use Rattle.kept_pages.specs.Needed.{Visits, InPlaces, met_fragment, OfFragment, OfPlace, either_shape, NeededBelow, stays_lazy, NeededInFrame, InFrame, met_in_frame, OfFrame, InHoles, OfWhole}
use Rattle.kept_pages.specs.Went.{Went, Done, Found, Built, then_went, OfElement, OneThen}

not_fragments : bin.Anonymous ≡ bin.Fragments → ⊥
not_fragments is = cc

not_dynamic : bin.Anonymous ≡ bin.Dynamic → ⊥
not_dynamic is = cc

-- nothing of this subject was built for the anonymous bin
abbrev pub LeavesAlone : Subject → Went → Type 0
LeavesAlone x Done = Unit {0}
LeavesAlone x (Found b s e rest) = LeavesAlone x rest
LeavesAlone x (Built b s e inner rest) = ((bin.Anonymous ≡ b) × (x ≡ s) → ⊥) × LeavesAlone x inner × LeavesAlone x rest

module _ (x : Subject) where
  leaves_none : (t : Went) → t ≡ Done → LeavesAlone x t
  leaves_none t is = subst (λ u. LeavesAlone x u) (sym is) tt

  leaves_then : (t u : Went) → LeavesAlone x t → LeavesAlone x u → LeavesAlone x (then_went t u)
  leaves_then Done u first second = second
  leaves_then (Found b s e rest) u first second = leaves_then rest u first second
  leaves_then (Built b s e inner rest) u first second = (first.0, first.1, leaves_then rest u first.2 second)

  leaves_both : (One Rest : Went → Type 0) → ((t : Went) → One t → LeavesAlone x t) → ((t : Went) → Rest t → LeavesAlone x t) → (t : Went) → OneThen One Rest t → LeavesAlone x t
  leaves_both One Rest one rest t both =
      subst (λ u. LeavesAlone x u) (sym both.is) (leaves_then both.one both.rest (one both.one both.first) (rest both.rest both.others))

  leaves_visits : (At : Hole → Went → Type 0) → ((h : Hole) (t : Went) → At h t → LeavesAlone x t) → (hs : List Hole) (t : Went) → Visits At hs t → LeavesAlone x t
  leaves_visits At leaves [] t is = leaves_none t is
  leaves_visits At leaves (h ∷ hs) t v = leaves_both (At h) (Visits At hs) (leaves h) (λ u others. leaves_visits At leaves hs u others) t v

  pub leaves_element : (v : Visit) (own : Met) (Inner : Went → Type 0) (b : Bin) (s : Subject) (e : Entry) → ((bin.Anonymous ≡ b) × (x ≡ s) → ⊥) → ((t : Went) → Inner t → LeavesAlone x t)
      → (t : Went) → OfElement v own Inner b s e t → LeavesAlone x t
  leaves_element v own Inner b s e apart leaves t (inl is) = subst (λ u. LeavesAlone x u) (sym is) tt
  leaves_element v own Inner b s e apart leaves t (inr k) = subst (λ u. LeavesAlone x u) (sym k.is) (apart, leaves k.inner k.of_places, tt)

  leaves_fragment : (At : Hole → Went → Type 0) → ((h : Hole) (t : Went) → At h t → LeavesAlone x t) → (v : Visit) (f : Fragment) (t : Went) → OfFragment At v f t → LeavesAlone x t
  leaves_fragment At leaves v f t of =
      leaves_element v (met_fragment f v) (InPlaces At v (fragment_shown f >> Gives None)) bin.Fragments (subject.Fragment f) of.entry (λ k. not_fragments k.0)
      (λ u places. leaves_visits At leaves (met (fragment_shown f >> Gives None) v).places u places) t of.element

  leaves_place : (At : Hole → Went → Type 0) → ((h : Hole) (t : Went) → At h t → LeavesAlone x t) → (v : Visit) (h : Hole) (t : Went) → OfPlace At v h t → LeavesAlone x t
  leaves_place At leaves v hole.Meta t is = leaves_none t is
  leaves_place At leaves v (hole.Fragment f) t of = leaves_fragment At leaves v f t of

  leaves_either : (b : Bool) (One Other : Went → Type 0) (t : Went) → (One t → LeavesAlone x t) → (Other t → LeavesAlone x t) → either_shape b One Other t → LeavesAlone x t
  leaves_either true One Other t one other shape = one shape
  leaves_either false One Other t one other shape = other shape

  leaves_below : (k : ℕ) (v : Visit) (h : Hole) (t : Went) → NeededBelow k v h t → LeavesAlone x t
  leaves_below zero v h t is = leaves_none t is
  leaves_below (suc k) v h t needed =
      leaves_either (level h == k) (OfPlace (NeededBelow k v) v h) (NeededBelow k v h) t
      (leaves_place (NeededBelow k v) (λ g u of. leaves_below k v g u of) v h t) (leaves_below k v h t) needed

  leaves_in_frame : (v : Visit) (h : Hole) (t : Went) → NeededInFrame v h t → LeavesAlone x t
  leaves_in_frame v hole.Meta t is = leaves_none t is
  leaves_in_frame v (hole.Fragment f) t needed =
      leaves_either (stays_lazy v f) (λ u. u ≡ Done) (OfFragment (NeededBelow (fragment_level f) v) v f) t
      (leaves_none t) (leaves_fragment (NeededBelow (fragment_level f) v) (leaves_below (fragment_level f) v) v f t) needed

  leaves_frame : (path : List ℕ) (v : Visit) (page : Entry) (t : Went) → OfFrame path v page t → LeavesAlone x t
  leaves_frame path v page t of =
      leaves_element v (met_in_frame path v) (InFrame path v) bin.Dynamic (subject.Page path) page (λ k. not_dynamic k.0)
      (λ u places. leaves_visits (NeededInFrame v) (leaves_in_frame v) (met (plan_of path element.Page) v).places u places) t of

  -- what stands in the places of a page is of other bins
  pub leaves_whole : (path : List ℕ) (v : Visit) (t : Went) → OfWhole path v t → LeavesAlone x t
  leaves_whole path v t w =
      leaves_both (OfFrame path v w.page) (InHoles v w.page) (leaves_frame path v w.page)
      (λ u places. leaves_visits (NeededBelow (element_level element.Page) v) (leaves_below (element_level element.Page) v) (open_places (pieces_of w.page.segments)) u places) t w.both
