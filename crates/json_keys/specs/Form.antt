-- What makes a text right, cut into the stages that are told apart: its length, its bytes, and whether it is reserved.
use Rattle.std.specs.Prelude.{ℕ, List, [], ◌∷◌, length, Bool, true, false, ◌&&◌, ◌||◌, ◌==◌, not, nat_le, Option, None, Some, if◌then◌else◌, codes}
use Rattle.std.specs.List.{list_all, list_any}
use Rattle.std.specs.Str.{is_utf8, bytes_eq}
use Rattle.cacheability.specs.Name.{is_name_byte}
use Rattle.content_rows.specs.Kinds.{is_line_byte, is_text_byte, is_uuid_byte, is_hex_digit, is_target, is_reserved, is_block_path}
use Rattle.json_keys.specs.declared.rule.Rule.{Rule}
use Rattle.json_keys.specs.declared.rule.Rule.TheVariants as rule
use Rattle.json_keys.specs.declared.shape.Form.{Form}
use Rattle.json_keys.specs.declared.shape.Form.TheVariants as form

-- the words for what a block shows
abbrev pub block_kinds : List (List ℕ)
block_kinds = codes "text" ∷ codes "menu" ∷ codes "listing" ∷ codes "greeting" ∷ codes "csrf" ∷ codes "clock" ∷ []

-- the words for the parts of the page
abbrev pub regions : List (List ℕ)
regions = codes "header" ∷ codes "aside" ∷ codes "footer" ∷ []

abbrev pub is_among : List (List ℕ) → List ℕ → Bool
is_among words t = list_any (bytes_eq t) words

-- 1 to so many bytes
abbrev pub has_up_to : ℕ → List ℕ → Bool
has_up_to most t = nat_le 1 (length t) && nat_le (length t) most

-- as long as a path is
abbrev pub has_path_length : List ℕ → Bool
has_path_length t = nat_le 2 (length t) && nat_le (length t) 256

abbrev pub is_bare : List ℕ → Bool
is_bare t = bytes_eq t (codes "/")

-- whether a text is as long as it may be
abbrev pub is_long : Form → List ℕ → Bool
is_long form.Name t = has_up_to 64 t
is_long (form.Line most) t = has_up_to most t
is_long (form.Heading most) t = nat_le (length t) most
is_long form.Body t = nat_le (length t) 65536
is_long form.Comment t = has_up_to 65536 t
is_long form.Uuid t = has_up_to 64 t
is_long (form.Hex count) t = length t == count
is_long (form.HexOrEmpty count) t = length t == count || bytes_eq t []
is_long form.Target t = has_path_length t
is_long form.Front t = has_path_length t || is_bare t
is_long form.Path t = has_path_length t
is_long form.ListingPath t = has_path_length t
is_long form.BlockPath t = has_path_length t || is_bare t
is_long form.BlockKind t = true
is_long form.Region t = true

-- whether a text has the bytes that it may have
abbrev pub is_written : Form → List ℕ → Bool
is_written form.Name t = list_all is_name_byte t
is_written (form.Line most) t = list_all is_line_byte t && is_utf8 t
is_written (form.Heading most) t = list_all is_line_byte t && is_utf8 t
is_written form.Body t = list_all is_text_byte t && is_utf8 t
is_written form.Comment t = list_all is_text_byte t && is_utf8 t
is_written form.Uuid t = list_all is_uuid_byte t
is_written (form.Hex count) t = list_all is_hex_digit t
is_written (form.HexOrEmpty count) t = list_all is_hex_digit t
is_written form.Target t = is_target t
is_written form.Front t = is_target t || is_bare t
is_written form.Path t = is_target t
is_written form.ListingPath t = is_target t
is_written form.BlockPath t = is_block_path t
is_written form.BlockKind t = is_among block_kinds t
is_written form.Region t = is_among regions t

-- whether a text is kept for the site's own use
abbrev pub is_kept : Form → List ℕ → Bool
is_kept form.Front t = is_bare t
is_kept form.Path t = is_reserved t
is_kept form.ListingPath t = is_reserved t && not (bytes_eq t (codes "/node"))
is_kept _ t = false

-- the first rule that a text breaks
abbrev pub text_fault : Form → List ℕ → Option Rule
text_fault f t =
    if not (is_long f t) then Some rule.Length else (if not (is_written f t) then Some rule.Bytes else (if is_kept f t then Some rule.Reserved else None))
