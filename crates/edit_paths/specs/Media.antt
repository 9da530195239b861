-- What the bodies of edits are, by the field Content-Type (RFC 9110, section 8.3).
use Rattle.std.specs.Prelude.{ℕ, List, Option, Some, None, Bool, true, false, ◌==◌, codes}
use Rattle.std.specs.List.{before_first}
use Rattle.std.specs.Str.{str_eq_ignore_ascii_case}
use Rattle.edit_paths.specs.declared.edit.Edit.{Edit}
use Rattle.edit_paths.specs.declared.edit.Edit.TheVariants as edit
use Rattle.edit_paths.specs.declared.media.Reads.{Reads}
use Rattle.edit_paths.specs.declared.media.Reads.TheVariants as reads

-- what an edit reads: deletes, logging out and rebuilding nothing, logging in a form, the others JSON
abbrev pub reads_of : Edit → Reads
reads_of edit.CreateNode = reads.Json
reads_of (edit.ChangeNode id) = reads.Json
reads_of (edit.RemoveNode id) = reads.Nothing
reads_of edit.CreateTerm = reads.Json
reads_of (edit.ChangeTerm id) = reads.Json
reads_of (edit.RemoveTerm id) = reads.Nothing
reads_of edit.CreateUser = reads.Json
reads_of (edit.ChangeUser id) = reads.Json
reads_of (edit.Set kind name) = reads.Json
reads_of (edit.Remove kind name) = reads.Nothing
reads_of edit.SetSite = reads.Json
reads_of edit.Login = reads.Form
reads_of edit.Logout = reads.Nothing
reads_of edit.Rebuild = reads.Nothing
reads_of (edit.CreateComment id) = reads.Json
reads_of (edit.ChangeComment id) = reads.Json
reads_of (edit.RemoveComment id) = reads.Nothing

unfoldable pub json_type : List ℕ
json_type = codes "application/json"

unfoldable pub form_type : List ℕ
form_type = codes "application/x-www-form-urlencoded"

abbrev pub is_semicolon : ℕ → Bool
is_semicolon b = b == 59

-- what stands before the first `;` of a value is this name, in any case; a space before the `;` is compared too, and fits none
abbrev pub is_of_type : List ℕ → List ℕ → Bool
is_of_type name value = str_eq_ignore_ascii_case (before_first is_semicolon value) name

-- there is a value, and it names this media type
abbrev pub has_type : List ℕ → Option (List ℕ) → Bool
has_type name None = false
has_type name (Some value) = is_of_type name value

-- a body whose Content-Type field has this value, or that has no such field, is of the media type that is read
abbrev pub media_fits : Reads → Option (List ℕ) → Bool
media_fits reads.Nothing value = true
media_fits reads.Json value = has_type json_type value
media_fits reads.Form value = has_type form_type value
