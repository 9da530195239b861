-- Machine names, by the test and by the fact.
use Rattle.std.proofs.Common.{◌≡◌, ℕ, List, length, true, false, refl}
use Rattle.std.specs.Prelude.{Some, None, ◌&&◌, nat_le, if◌then◌else◌}
use Rattle.std.specs.List.{list_all}
use Rattle.std.proofs.lemmas.Bool.{and_parts, le-leb, leb-true}
use Rattle.std.proofs.lemmas.List.Sums.{list_all-from_AllPass, AllPass-from_list_all}
use Rattle.cacheability.specs.Name.{IsName, is_name_byte}
use Rattle.content_rows.specs.LiteralName.{is_name, name_of}

pub name_passes : (t : List ℕ) → IsName t → is_name t ≡ true
name_passes t h =
    rw (le-leb 1 (length t) h.not_empty, le-leb (length t) 64 h.short, list_all-from_AllPass is_name_byte t h.of_name_bytes) refl

pub passes_name : (t : List ℕ) → is_name t ≡ true → IsName t
passes_name t h =
    let (lengths, bytes) = and_parts (nat_le 1 (length t) && nat_le (length t) 64) (list_all is_name_byte t) h in
    let (least, most) = and_parts (nat_le 1 (length t)) (nat_le (length t) 64) lengths in
    record {
      not_empty = leb-true 1 (length t) least;
      short = leb-true (length t) 64 most;
      of_name_bytes = AllPass-from_list_all is_name_byte t bytes;
    }

pub name_told : (t name : List ℕ) → IsName t → name ≡ t → Some name ≡ name_of t
name_told t name is same = rw (name_passes t is, same) refl

pub name_none : (t : List ℕ) → (IsName t → ⊥) → None ≡ name_of t
name_none t wrong =
    elim (is_name t) as (λ b. is_name t ≡ b → None ≡ (if b then Some t else None)) [
      | true ↦ λ is. absurd (wrong (passes_name t is))
      | false ↦ λ is. refl
    ] refl
