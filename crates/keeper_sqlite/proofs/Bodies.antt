-- The value of JSON that a body is.
use Rattle.std.proofs.Common.{◌≡◌, ℕ, List, Bool, true, false, Some, None, refl, sym}
use Rattle.std.specs.Prelude.{if◌then◌else◌}
use Rattle.std.specs.Str.{is_utf8, IsUtf8}
use Rattle.std.proofs.lemmas.Str.{is_utf8-from_IsUtf8, IsUtf8-from_is_utf8}
use Rattle.serde_json.specs.Data.{Data}
use Rattle.serde_json.specs.Read.{read}
use Rattle.keeper_sqlite.specs.Bodies.{value_of}

pub a_value : (body : List ℕ) (d : Data) → IsUtf8 body → read body ≡ Some d → Some d ≡ value_of body
a_value body d utf8 is = rw (is_utf8-from_IsUtf8 body utf8) (sym is)

none_at : (b : Bool) (body : List ℕ) → is_utf8 body ≡ b → (IsUtf8 body → read body ≡ None) → None ≡ (if b then read body else None)
none_at true body is h = sym (h (IsUtf8-from_is_utf8 body is))
none_at false body is h = refl

pub no_value : (body : List ℕ) → (IsUtf8 body → read body ≡ None) → None ≡ value_of body
no_value body h = none_at (is_utf8 body) body refl h
