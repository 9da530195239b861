-- The laws of the plans of menus that proofs of their builders apply.
use Rattle.std.proofs.Common.{ℕ, zero, suc, List, [], ◌∷◌, ◌≡◌, ◌+◌, ◌<◌, refl, sym, ◌∙◌, ap, subst, arith, Bool, Option, Some, None, Bor, length, get_or, drop, drop-cons}
use Rattle.std.specs.Prelude.{slice_get}
use Rattle.std.specs.Option.{option_copied}
use Rattle.std.specs.Slice.{IsItemAt}
use Rattle.std.proofs.lemmas.Option.{slice_get_past, slice_get_read}
use Rattle.content_rows.specs.declared.row.Link.{Link}
use Rattle.content_state.specs.declared.route.Route.{Route}
use Rattle.content_state.specs.declared.route.Route.TheVariants as route
use Rattle.content_state.specs.Plan.{Done, write, folded, ◌>>=◌, ◌>>◌}
use Rattle.site_access.specs.Routes.{route_access}
use Rattle.site_lists.specs.declared.tree.MenuPlace.{MenuPlace}
use Rattle.render_canvas.specs.Canvas.{Sheet, Renders}
use Rattle.render_canvas.specs.Decision.{is_allowed}
use Rattle.render_array.specs.Pieces as pieces
use Rattle.render_array.specs.Menus.{may_follow_to, may_follow_link, Shown, none_shown, with_shown, lists_end, link_at, link_closed, depth_after, links_shown}
use Rattle.render_canvas.proofs.Run.{next, done}

-- where a path leads somewhere, access to it decides
pub followed : (to : Route) (b : Bool) {old new : Sheet} → (to ≡ route.Nothing → ⊥) → Renders (route_access to >>= λ access. Done (is_allowed access)) old b new → Renders (may_follow_to to) old b new
followed (route.Node n) b there run = run
followed (route.Term t) b there run = run
followed (route.User u) b there run = run
followed (route.Listing name) b there run = run
followed (route.Json it) b there run = run
followed route.Login b there run = run
followed route.Nothing b there run = absurd (there refl)

-- what is looked up in a list
pub got : {X : Type 0} (xs : List X) (i : ℕ) (r : Option (Bor X)) → IsItemAt xs i r → option_copied r ≡ slice_get xs i
got xs i None at = sym (slice_get_past xs i at.3)
got xs i (Some x) at = sym (slice_get_read xs (length xs) i x.now refl at.3.0 at.1)

pub follows_by : (links : List Link) (i : ℕ) (r : Option (Bor Link)) {b : Bool} {old new : Sheet} → IsItemAt links i r → Renders (may_follow_link (option_copied r)) old b new → Renders (may_follow_link (slice_get links i)) old b new
follows_by links i r {b = b} {old = old} {new = new} at run = subst (λ o. Renders (may_follow_link o) old b new) (got links i r at) run

-- links and places that are told by equations
pub shown_by : {links links' : List Link} {places places' : List MenuPlace} {found : Shown} {old new : Sheet} → links ≡ links' → places ≡ places' → Renders (folded (with_shown links) none_shown places) old found new → Renders (folded (with_shown links') none_shown places') old found new
shown_by {links' = links'} {places = places} {found = found} {old = old} {new = new} same_links same_places run =
    subst (λ ps. Renders (folded (with_shown links') none_shown ps) old found new) same_places
    (subst (λ ls. Renders (folded (with_shown ls) none_shown places) old found new) same_links run)

pub links_by : {trail trail' : List (List ℕ)} {links links' : List Link} {places places' : List MenuPlace} {old new : Sheet} → trail ≡ trail' → links ≡ links' → places ≡ places' → Renders (links_shown trail links places) old tt new → Renders (links_shown trail' links' places') old tt new
links_by {trail' = trail'} {links = links} {links' = links'} {places = places} {old = old} {new = new} same_trail same_links same_places run =
    subst (λ ps. Renders (links_shown trail' links' ps) old tt new) same_places
    (subst (λ ls. Renders (links_shown trail' ls places) old tt new) same_links
    (subst (λ t. Renders (links_shown t links places) old tt new) same_trail run))

-- the end of one more list
lists_end-more : (n : ℕ) → lists_end (suc n) ≡ (lists_end n >> write pieces.submenu_end)
unfolding write
lists_end-more zero = refl
lists_end-more (suc n) = ap (λ q. write pieces.submenu_end >> q) (lists_end-more n)

pub ended_more : (n : ℕ) {old mid new : Sheet} → Renders (lists_end n) old tt mid → Renders (write pieces.submenu_end) mid tt new → Renders (lists_end (n + 1)) old tt new
ended_more n {old = old} {new = new} first second =
    subst (λ m. Renders (lists_end m) old tt new) one_more
    (subst (λ p. Renders p old tt new) (sym (lists_end-more n)) (next (λ _. write pieces.submenu_end) first second))
  where
    one_more : suc n ≡ n + 1
    one_more = omega arith

-- the depth of a place that may be there
abbrev pub depth_of : Option MenuPlace → ℕ
depth_of None = 1
depth_of (Some place) = place.depth

pub depth_from : (places : List MenuPlace) (at : ℕ) → depth_of (slice_get places at) ≡ depth_after (drop at places)
depth_from [] zero = refl
depth_from [] (suc at) = refl
depth_from (place ∷ places) zero = refl
depth_from (place ∷ places) (suc at) = depth_from places at

-- What is left of the links of places: once it is written behind what was, all is.
abbrev pub LeadsOn : List (List ℕ) → List Link → List MenuPlace → Sheet → List MenuPlace → Sheet → Type 0
LeadsOn trail links places old left mid = (new : Sheet) → Renders (links_shown trail links left) mid tt new → Renders (links_shown trail links places) old tt new

pub leads_begin : (trail : List (List ℕ)) (links : List Link) (places : List MenuPlace) (old : Sheet) → LeadsOn trail links places old (drop 0 places) old
leads_begin trail links places old new run = run

from_place : (places : List MenuPlace) (i : ℕ) (d : MenuPlace) → i < length places → drop i places ≡ get_or places i d ∷ drop (i + 1) places
from_place places i d below =
    let one_more : suc i ≡ i + 1 = omega arith in
    drop-cons places i d below ∙ ap (λ n. get_or places i d ∷ drop n places) one_more

pub leads_next : (trail : List (List ℕ)) (links : List Link) (places : List MenuPlace) (i : ℕ) (d : MenuPlace) (r : Option (Bor Link)) (depth : ℕ) {old mid after new : Sheet} → i < length places → IsItemAt links (get_or places i d).link r → depth ≡ depth_after (drop (i + 1) places) → LeadsOn trail links places old (drop i places) mid → Renders (link_at trail (option_copied r)) mid tt after → Renders (link_closed (get_or places i d).depth depth) after tt new → LeadsOn trail links places old (drop (i + 1) places) new
unfolding links_shown
leads_next trail links places i d r depth {mid = mid} {after = after} {new = new} below at same on first second last run =
    let place = get_or places i d in
    let left = drop (i + 1) places in
    on last
    (subst (λ ps. Renders (links_shown trail links ps) mid tt last) (sym (from_place places i d below))
    (next _ (subst (λ o. Renders (link_at trail o) mid tt after) (got links place.link r at) first)
    (next _ (subst (λ n. Renders (link_closed place.depth n) after tt new) same second) run)))

pub leads_end : (trail : List (List ℕ)) (links : List Link) (places : List MenuPlace) (i : ℕ) {old mid : Sheet} → drop i places ≡ [] → LeadsOn trail links places old (drop i places) mid → Renders (links_shown trail links places) old tt mid
unfolding links_shown
leads_end trail links places i {mid = mid} none on = on mid (subst (λ ps. Renders (links_shown trail links ps) mid tt mid) (sym none) done)
