-- The value that guards the forms of a session.
-- https://api.drupal.org/api/drupal/core!lib!Drupal!Core!Access!CsrfTokenGenerator.php/class/CsrfTokenGenerator/10
use Rattle.std.specs.Prelude.{ℕ, List, take}
use Rattle.sha2.specs.Sha256.{sha256}
use Rattle.hex.specs.Hex.{encode_lower}

-- the first half of the SHA-256 of a session's token, as 32 hex digits
abbrev pub csrf_value : List ℕ → List ℕ
csrf_value token = encode_lower (take 16 (sha256 token))
