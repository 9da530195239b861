-- The first items of a list, as items are read one by one.
use Rattle.std.proofs.Common.{◌≡◌, ℕ, zero, suc, ◌-◌, ◌<◌, List, [], ◌∷◌, ◌++◌, Option, Some, None, refl, ap, ◌∙◌, arith}
use Rattle.json.specs.Token.{Token}
use Rattle.json.specs.Json.{parse_map}
use Rattle.serde_json.specs.Data.{Data, Items, no_items, item}
use Rattle.serde_json.specs.View.{view, items_view}
use Rattle.serde_json.specs.declared.value.Value.{Value}
use Rattle.sent_objects.specs.Brief.{in_list, first_so_many}
use Rattle.sent_objects.proofs.Reading.{items_before, items_before-no_items, items_push}

-- those that were kept, and as many of the others as may still be
abbrev pub kept_before : List Value → ℕ → Items → Items
kept_before vs more ds = items_before vs (first_so_many more ds)

pub one_more : (vs : List Value) (v : Value) (d : Data) (more : ℕ) → 0 < more → in_list d ≡ view v → (o : Option (Items × List Token))
    → parse_map (kept_before vs more) (parse_map (item d) o) ≡ parse_map (kept_before (vs ++ v ∷ []) (more - 1)) o
one_more vs v d zero some e o = let never : ⊥ = omega arith in absurd never
one_more vs v d (suc m) some e None = refl
one_more vs v d (suc m) some e (Some p) =
    let less : m ≡ suc m - 1 = omega arith in
    ap (λ ds. Some (ds, p.1)) (ap (λ x. items_before vs (item x (first_so_many m p.0))) e ∙ items_push vs v (first_so_many m p.0) ∙ ap (λ k. kept_before (vs ++ v ∷ []) k p.0) less)

pub no_more : (vs : List Value) (d : Data) (more : ℕ) → more ≡ 0 → (o : Option (Items × List Token)) → parse_map (kept_before vs more) (parse_map (item d) o) ≡ parse_map (kept_before vs more) o
no_more vs d zero e None = refl
no_more vs d zero e (Some p) = refl
no_more vs d (suc m) e o = let never : ⊥ = omega arith in absurd never

pub all_kept : (vs : List Value) (more : ℕ) → kept_before vs more no_items ≡ items_view vs
all_kept vs zero = items_before-no_items vs
all_kept vs (suc m) = items_before-no_items vs
