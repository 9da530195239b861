-- The keys of texts that no two rows may have in common.
use Rattle.std.specs.Prelude.{ℕ, ◌+◌, ◌*◌, ◌%◌, List, [], ◌∷◌, ◌++◌, Option, Some, None, fold}
use Rattle.std.specs.declared.cmp.Ordering.{Ordering}
use Rattle.content_rows.specs.declared.cell.Cell.{Cell}
use Rattle.content_rows.specs.declared.row.Row.{Row}
use Rattle.indexed_rows.specs.Texts.{text_of}
use Rattle.indexed_rows.specs.declared.unique.Unique.{Unique}
use Rattle.indexed_rows.specs.declared.unique.Unique.TheVariants as unique
use Rattle.indexed_rows.specs.declared.text_mark.TextMark.{TextMark}
use Rattle.indexed_rows.specs.declared.text_mark.TextKey.{TextKey}
use Rattle.indexed_rows.specs.contracts.text_mark.TextMarkOrd.TheImpl as marks

-- A digest of a text. Nothing rests on how good it is but the time that a search takes.
abbrev pub digested : ℕ → ℕ → ℕ
digested d b = (d * 65599 + b) % 4294967291

abbrev pub digest : List ℕ → ℕ
digest text = fold digested 5381 text

abbrev pub mark_of : Unique → List ℕ → TextMark
mark_of what text = record { what = what; digest = digest text }

abbrev pub mark_cmp : TextMark → TextMark → Ordering
mark_cmp = marks.ghosts.cmp

-- the key of a text, where there is one
abbrev pub key_of : Unique → Cell → Option (List ℕ) → List TextKey
key_of what c None = []
key_of what c (Some text) = record { mark = mark_of what text; cell = c } ∷ []

abbrev pub text_key : Unique → Cell × Row → List TextKey
text_key what e = key_of what e.0 (text_of what e.1)

-- the keys of all texts of a row
abbrev pub text_keys : Cell × Row → List TextKey
text_keys e = text_key unique.NodeUuid e ++ text_key unique.TermUuid e ++ text_key unique.UserUuid e ++ text_key unique.UserName e ++ text_key unique.Path e ++ text_key unique.CommentUuid e
