-- One step of the walk from a link to the top.
use Rattle.std.proofs.Common.{◌≡◌, ◌-◌, ℕ, zero, suc, List, Bool, true, false, Option, refl, ◌∙◌, ap, arith}
use native.Mathlib.Numerals.{unary_clauses}
use Rattle.std.specs.Prelude.{Some, None}
use Rattle.std.specs.Option.{option_map_or}
use Rattle.content_rows.specs.MenuTree.{link_at, reaches_top}
use Rattle.content_rows.specs.declared.row.Link.{Link}

-- where the walk goes on from a link that stands under this one, or under none
abbrev above : ℕ → List Link → Option (List ℕ) → Bool
above more links parent = option_map_or (λ id. option_map_or (reaches_top more links) (link_at links id) false) parent true

step : (n : ℕ) (links : List Link) (at : Link) → ¬ (n ≡ 0) → reaches_top n links at ≡ above (n - 1) links at.parent
unfolding reaches_top
step zero links at some = absurd (some refl)
step (suc more) links at some = simp unary_clauses refl

pub at_top : (n : ℕ) (links : List Link) (at : Link) → ¬ (n ≡ 0) → at.parent ≡ None → reaches_top n links at ≡ true
at_top n links at some e = step n links at some ∙ ap (above (n - 1) links) e

pub lost : (n : ℕ) (links : List Link) (at : Link) (id : List ℕ) → ¬ (n ≡ 0) → at.parent ≡ Some id → link_at links id ≡ None
    → reaches_top n links at ≡ false
lost n links at id some e none =
    step n links at some ∙ ap (above (n - 1) links) e ∙ ap (λ o. option_map_or (reaches_top (n - 1) links) o false) none

pub goes_up : (n : ℕ) (links : List Link) (at up : Link) (id : List ℕ) → ¬ (n ≡ 0) → at.parent ≡ Some id → link_at links id ≡ Some up
    → reaches_top n links at ≡ reaches_top (n - 1) links up
goes_up n links at up id some e found =
    step n links at some ∙ ap (above (n - 1) links) e ∙ ap (λ o. option_map_or (reaches_top (n - 1) links) o false) found

pub spent : (n : ℕ) (links : List Link) (at : Link) → n ≡ 0 → reaches_top n links at ≡ false
unfolding reaches_top
spent zero links at e = refl
spent (suc more) links at e = absurd (omega arith)
