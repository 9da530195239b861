use Rattle.std.proofs.Common.{◌≡◌, ◌∷◌, [], List, ℕ, Bool, true, false, not, ◌&&◌, ◌==◌, if◌then◌else◌, codes, refl, ap, ◌∙◌}
use Rattle.std.specs.List.{list_all, flat_map}
use Rattle.std.proofs.lemmas.List.Folds.{list_all-append}
use Rattle.html_out.specs.Escape.{escaped, escaped_byte, is_inert}

-- by the five tests on the byte
inert_by_tests : (and less greater quote single : Bool) (byte : ℕ) → is_inert byte ≡ (not less && not greater && not quote && not single) → list_all is_inert (if and then codes "&amp;" else if less then codes "&lt;" else if greater then codes "&gt;" else if quote then codes "&quot;" else if single then codes "&#039;" else byte ∷ []) ≡ true
inert_by_tests true less greater quote single byte is = refl
inert_by_tests false true greater quote single byte is = refl
inert_by_tests false false true quote single byte is = refl
inert_by_tests false false false true single byte is = refl
inert_by_tests false false false false true byte is = refl
inert_by_tests false false false false false byte is = ap (λ inert. inert && true) is

inert_byte : (byte : ℕ) → list_all is_inert (escaped_byte byte) ≡ true
inert_byte byte = inert_by_tests (byte == 38) (byte == 60) (byte == 62) (byte == 34) (byte == 39) byte refl

pub escaped_inert : (text : List ℕ) → list_all is_inert (escaped text) ≡ true
unfolding escaped
escaped_inert [] = refl
escaped_inert (byte ∷ text) =
    list_all-append is_inert (escaped_byte byte) (flat_map escaped_byte text)
    ∙ ap (λ inert. inert && list_all is_inert (flat_map escaped_byte text)) (inert_byte byte) ∙ escaped_inert text
