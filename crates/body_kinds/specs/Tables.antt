-- The keys that the bodies of edits have, in the order of their bytes: of each whether it is to be there, and the kind and
-- the limits of its value. No constant of the code is named here but those of the objects in lists, which rows have too.
use Rattle.std.specs.Prelude.{ℕ, List, [], ◌∷◌, true, false, codes}
use Rattle.json_keys.specs.declared.shape.Form.TheVariants as form
use Rattle.json_keys.specs.declared.shape.Plain.TheVariants as plain
use Rattle.json_keys.specs.declared.shape.Entry.{Entry}
use Rattle.json_keys.specs.declared.shape.Entry.TheVariants as entry
use Rattle.json_keys.specs.declared.shape.Columns.TheVariants as columns
use Rattle.json_keys.specs.declared.shape.Shape.{Shape}
use Rattle.json_keys.specs.declared.shape.Shape.TheVariants as shape
use Rattle.json_keys.specs.declared.shape.Ask.{Ask}
use Rattle.json_keys.specs.declared.shape.Ask.TheVariants as ask

-- ---- kinds of value

abbrev pub a_flag : Shape
a_flag = shape.Of (entry.One plain.Flag)

abbrev pub a_number : ℕ → ℕ → Shape
a_number low high = shape.Of (entry.One (plain.Whole low high))

-- seconds since 1970, to the year 2100
abbrev pub a_moment : Shape
a_moment = a_number 0 4102444800

-- 1 to so many bytes
abbrev pub a_line : ℕ → Shape
a_line most = shape.Of (entry.One (plain.Text (form.Line most)))

abbrev pub a_text : Shape
a_text = shape.Of (entry.One (plain.Text form.Body))

-- what a comment says: 1 to 65,536 bytes
abbrev pub a_comment : Shape
a_comment = shape.Of (entry.One (plain.Text form.Comment))

abbrev pub a_uuid : Shape
a_uuid = shape.Of (entry.One (plain.Text form.Uuid))

abbrev pub a_name : Shape
a_name = shape.Of (entry.One (plain.Text form.Name))

abbrev pub path_or_null : Shape
path_or_null = shape.Of (entry.NullOr (plain.Text form.Path))

abbrev pub id_or_null : Shape
id_or_null = shape.Of (entry.NullOr (plain.Whole 1 4294967294))

abbrev pub ids : ℕ → Shape
ids most = shape.Each most (entry.One (plain.Whole 1 4294967294))

abbrev pub names : ℕ → Shape
names most = shape.Each most (entry.One (plain.Text form.Name))

-- ---- bodies

abbrev pub new_node_keys : List (List ℕ × Ask)
new_node_keys =
    (codes "created", ask.May a_moment)
    ∷ (codes "fields", ask.May (shape.Texts false))
    ∷ (codes "grants", ask.May (shape.Table 64 columns.GrantRow))
    ∷ (codes "path", ask.May path_or_null)
    ∷ (codes "promote", ask.May a_flag)
    ∷ (codes "refs", ask.May (ids 8))
    ∷ (codes "status", ask.May a_flag)
    ∷ (codes "sticky", ask.May a_flag)
    ∷ (codes "terms", ask.May (ids 32))
    ∷ (codes "title", ask.Must (a_line 255))
    ∷ (codes "type", ask.Must a_name)
    ∷ (codes "uid", ask.May (a_number 0 4294967294))
    ∷ (codes "uuid", ask.Must a_uuid)
    ∷ []

-- null takes the value of a field away
abbrev pub node_patch_keys : List (List ℕ × Ask)
node_patch_keys =
    (codes "created", ask.May a_moment)
    ∷ (codes "fields", ask.May (shape.Texts true))
    ∷ (codes "grants", ask.May (shape.Table 64 columns.GrantRow))
    ∷ (codes "path", ask.May path_or_null)
    ∷ (codes "promote", ask.May a_flag)
    ∷ (codes "refs", ask.May (ids 8))
    ∷ (codes "status", ask.May a_flag)
    ∷ (codes "sticky", ask.May a_flag)
    ∷ (codes "terms", ask.May (ids 32))
    ∷ (codes "title", ask.May (a_line 255))
    ∷ (codes "uid", ask.May (a_number 0 4294967294))
    ∷ (codes "vid", ask.Must (a_number 1 4294967295))
    ∷ []

abbrev pub new_term_keys : List (List ℕ × Ask)
new_term_keys =
    (codes "description", ask.May a_text)
    ∷ (codes "name", ask.Must (a_line 255))
    ∷ (codes "parent", ask.May id_or_null)
    ∷ (codes "status", ask.May a_flag)
    ∷ (codes "uuid", ask.Must a_uuid)
    ∷ []

-- null takes the parent away
abbrev pub term_patch_keys : List (List ℕ × Ask)
term_patch_keys =
    (codes "description", ask.May a_text)
    ∷ (codes "name", ask.May (a_line 255))
    ∷ (codes "parent", ask.May id_or_null)
    ∷ (codes "status", ask.May a_flag)
    ∷ []

abbrev pub new_user_keys : List (List ℕ × Ask)
new_user_keys =
    (codes "grants", ask.May (shape.Table 64 columns.Grant))
    ∷ (codes "name", ask.Must (a_line 60))
    ∷ (codes "pass", ask.May (a_line 128))
    ∷ (codes "roles", ask.May (names 32))
    ∷ (codes "status", ask.May a_flag)
    ∷ (codes "uuid", ask.Must a_uuid)
    ∷ []

abbrev pub user_patch_keys : List (List ℕ × Ask)
user_patch_keys =
    (codes "grants", ask.May (shape.Table 64 columns.Grant))
    ∷ (codes "name", ask.May (a_line 60))
    ∷ (codes "pass", ask.May (a_line 128))
    ∷ (codes "roles", ask.May (names 32))
    ∷ (codes "status", ask.May a_flag)
    ∷ []

abbrev pub new_comment_keys : List (List ℕ × Ask)
new_comment_keys =
    (codes "body", ask.Must a_comment) ∷ (codes "parent", ask.May id_or_null) ∷ (codes "uuid", ask.Must a_uuid) ∷ []

abbrev pub comment_patch_keys : List (List ℕ × Ask)
comment_patch_keys = (codes "body", ask.May a_comment) ∷ (codes "status", ask.May a_flag) ∷ []
