-- Machine names, as the element MachineName of Drupal's Form API has them.
use Rattle.std.specs.Prelude.{ℕ, List, length, ◌≤◌, Bool, ◌||◌, ◌&&◌, ◌==◌, nat_le, IsTrue, All}

-- a lower-case letter, a digit or `_`
abbrev pub is_name_byte : ℕ → Bool
is_name_byte b = (nat_le 97 b && nat_le b 122) || (nat_le 48 b && nat_le b 57) || b == 95

-- 1 to 64 bytes of a to z, 0 to 9 and _
pub record IsName (bytes : List ℕ) : Type 0 where
  pub not_empty : 1 ≤ length bytes
  pub short : length bytes ≤ 64
  pub of_name_bytes : All (λ b. IsTrue (is_name_byte b)) bytes
