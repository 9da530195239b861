-- A path names an edit only where it is UTF-8.
use Rattle.std.proofs.Common.{◌≡◌, ℕ, List, refl}
use Rattle.std.specs.Prelude.{None}
use Rattle.std.specs.Str.{IsUtf8, is_utf8}
use Rattle.std.proofs.lemmas.Bool.{false_from_ne_true}
use Rattle.std.proofs.lemmas.Str.{IsUtf8-from_is_utf8, is_utf8-from_IsUtf8}
use Rattle.edit_paths.specs.Paired.{first_edit, forms_of, paired}

pub text_paired : (method path : List ℕ) → IsUtf8 path → paired method path ≡ first_edit (forms_of method) path
text_paired method path text = rw (is_utf8-from_IsUtf8 path text) refl

pub no_text_paired : (method path : List ℕ) → (IsUtf8 path → ⊥) → paired method path ≡ None
no_text_paired method path wrong = rw (false_from_ne_true (is_utf8 path) (λ yes. wrong (IsUtf8-from_is_utf8 path yes))) refl
