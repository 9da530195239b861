-- A name is a text.
use Rattle.std.proofs.Common.{ℕ, List, length, IsTrue, refl}
use Rattle.std.specs.Prelude.{◌&&◌, nat_le}
use Rattle.std.specs.List.{list_all}
use Rattle.std.specs.Str.{IsUtf8, IsAscii}
use Rattle.std.proofs.lemmas.Str.{IsUtf8-from_ascii}
use Rattle.std.proofs.lemmas.Bool.{and_parts, le-leb}
use Rattle.std.proofs.lemmas.List.Sums.{list_all-from_AllPass}
use Rattle.cacheability.specs.Name.{IsName, is_name_byte}
use Rattle.content_rows.specs.LiteralName.{is_name}
use Rattle.row_kinds.proofs.Utf8.{ascii_bytes, name_byte}

pub name_passes : (t : List ℕ) → IsName t → IsTrue (is_name t)
name_passes t h =
    rw (le-leb 1 (length t) h.not_empty, le-leb (length t) 64 h.short, list_all-from_AllPass is_name_byte t h.of_name_bytes) refl

pub name_is_ascii : (t : List ℕ) → IsTrue (is_name t) → IsAscii t
name_is_ascii t h =
    ascii_bytes is_name_byte name_byte t (and_parts (nat_le 1 (length t) && nat_le (length t) 64) (list_all is_name_byte t) h).1

pub name_is_text : (t : List ℕ) → IsTrue (is_name t) → IsUtf8 t
name_is_text t h = IsUtf8-from_ascii t (name_is_ascii t h)
