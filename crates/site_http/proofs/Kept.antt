-- What became of what is kept, from one reply to the next.
use Rattle.std.proofs.Common.{◌≡◌, ◌∙◌, ◌++◌, ℕ, List, [], ◌∷◌, Option, Some, None, is_some, option_map, refl, sym, ap, subst}
use Rattle.element_entries.specs.Readers.{Reader}
use Rattle.fragment_cache.specs.Bins.{Bins}
use Rattle.kept_pages.specs.Went.{Went}
use Rattle.kept_pages.specs.Held.{Shelves, IsTold, Goes, GoesTo}
use Rattle.site_house.specs.House.{HouseView, KeepsAll, Moves}
use Rattle.site_http.specs.Kept.{Need, Needing, GoesThrough, KeepsFor, shelves_with, shelves_of}

-- nothing was needed
pub keeps_nothing : (old new : Option Shelves) → new ≡ old → KeepsFor [] old new
keeps_nothing None new same = same
keeps_nothing (Some s) new same = subst (KeepsFor [] (Some s)) (sym same) refl

pub same_shelves : (old new : HouseView) → KeepsAll old new → shelves_of new ≡ shelves_of old
same_shelves old new keeps i = option_map (shelves_with (keeps.unkept i)) (keeps.bins i)

-- some pages, and then others
through_more : (first second : List (Option Need)) (old mid new : Shelves) → GoesThrough first old mid → GoesThrough second mid new → GoesThrough (first ++ second) old new
through_more [] second old mid new a b = subst (λ (s : Shelves). GoesThrough second s new) a b
through_more (need ∷ needs) second old mid new a b = (a.0, a.1, through_more needs second a.0 mid new a.2 b)

pub keeps_more : (first second : List (Option Need)) (old mid new : Option Shelves) → KeepsFor first old mid → KeepsFor second mid new → KeepsFor (first ++ second) old new
keeps_more first second None mid new a b = subst (λ (o : Option Shelves). KeepsFor second o new) a b
keeps_more first second (Some old) None new a b = absurd a
keeps_more first second (Some old) (Some mid) None a b = absurd b
keeps_more first second (Some old) (Some mid) (Some new) a b = through_more first second old mid new a b

-- ---- one page

told_by : (unkept : ℕ) (bins : Option Bins) → is_some (option_map (shelves_with unkept) bins) ≡ is_some bins
told_by unkept None = refl
told_by unkept (Some bins) = refl

unknown : (old new : Option Shelves) → is_some new ≡ is_some old → KeepsFor (None ∷ []) old new
unknown None None same = refl
unknown None (Some new) same = absurd cc
unknown (Some old) None same = absurd cc
unknown (Some old) (Some new) same = (new, tt, refl)

-- memory was wanting for it
pub keeps_unknown : {old new : HouseView} → Moves old new → KeepsFor (None ∷ []) (shelves_of old) (shelves_of new)
keeps_unknown {old} {new} moves =
    unknown (shelves_of old) (shelves_of new) (told_by new.unkept new.bins ∙ moves.told ∙ sym (told_by old.unkept old.bins))

-- what is told of one page
Tells : Reader → Went → Option Bins → ℕ → Option Bins → ℕ → Type 0
Tells r t bins unkept bins' unkept' =
    (s : Shelves) → bins ≡ Some s.bins → unkept ≡ s.unkept → (after : Shelves) × (bins' ≡ Some after.bins) × (unkept' ≡ after.unkept) × Goes r s t after

page_by : (r : Reader) (t : Went) (bins bins' : Option Bins) (unkept unkept' : ℕ) → is_some bins' ≡ is_some bins → Tells r t bins unkept bins' unkept' → KeepsFor (Some (record { reader = r; went = t }) ∷ []) (option_map (shelves_with unkept) bins) (option_map (shelves_with unkept') bins')
unfolding Tells
page_by r t None None unkept unkept' same tells = refl
page_by r t None (Some bins') unkept unkept' same tells = absurd cc
page_by r t (Some bins) bins' unkept unkept' same tells =
    let old : Shelves = shelves_with unkept bins in
    let told = tells old refl refl in
    subst (λ (o : Option Bins). KeepsFor (Some (record { reader = r; went = t }) ∷ []) (Some old) (option_map (shelves_with unkept') o)) (sym told.1)
    (told.0, told.3, ap (λ (n : ℕ). shelves_with n told.0.bins) told.2)

pub keeps_page : {old new : HouseView} (r : Reader) (t : Went) → Moves old new → ((s : Shelves) → IsTold old s → GoesTo r s t new) → KeepsFor (Some (record { reader = r; went = t }) ∷ []) (shelves_of old) (shelves_of new)
unfolding Tells
keeps_page {old} {new} r t moves goes =
    page_by r t old.bins new.bins old.unkept new.unkept moves.told
    (λ s bins unkept. let g = goes s (record { bins = bins; unkept = unkept }) in (g.after, g.is.bins, g.is.unkept, g.goes))

-- nothing was needed
pub needs_nothing : (house : HouseView) (Holds : List (Option Need) → Type 0) → Holds [] → Needing house house Holds
needs_nothing house Holds holds = record { needs = []; holds = holds; kept = keeps_nothing (shelves_of house) (shelves_of house) refl }
