-- What rows have that no two rows may have.
use Rattle.std.specs.Prelude.{ℕ, List, Bool, false, Option, Some, None}
use Rattle.std.specs.Str.{bytes_eq}
use Rattle.content_rows.specs.declared.row.Row.{Row}
use Rattle.content_rows.specs.declared.row.Row.TheVariants as row
use Rattle.indexed_rows.specs.declared.unique.Unique.{Unique}
use Rattle.indexed_rows.specs.declared.unique.Unique.TheVariants as unique

-- what a row has that no other row may have
abbrev pub text_of : Unique → Row → Option (List ℕ)
text_of unique.NodeUuid (row.Node r) = Some r.uuid
text_of unique.TermUuid (row.Term r) = Some r.uuid
text_of unique.UserUuid (row.User r) = Some r.uuid
text_of unique.UserName (row.User r) = Some r.name
text_of unique.Path (row.Node r) = r.path
text_of unique.Path (row.Listing r) = r.path
text_of unique.CommentUuid (row.Comment r) = Some r.uuid
text_of _ _ = None

abbrev pub is_text : List ℕ → Option (List ℕ) → Bool
is_text text None = false
is_text text (Some own) = bytes_eq own text
