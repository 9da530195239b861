-- The entries that the rows of the two tables are told as, and a database that holds these tables and nothing else.
use Rattle.std.specs.Prelude.{ℕ, Bool, true, List, Option, Some, None, map, ◌≡◌}
use Rattle.sqlite.specs.Effect.{Database, IsDatabase}
use Rattle.sqlite.specs.Order.{Row, column}
use Rattle.sqlite.specs.Tree.{rowid, Trees}
use Rattle.sqlite.specs.View.{is_int}
use Rattle.sqlite.specs.declared.types.Value.{Value}
use Rattle.sqlite.specs.declared.types.Value.TheVariants.{Text, Blob}
use Rattle.sqlite_rules.specs.Lists.{Has}
use Rattle.store_six.specs.Tables.{Entry, Entries, Tables, entry_of}
use Rattle.table_laws.specs.Schema.{two_tables}

-- ---- a row

abbrev pub text_of : Value → Option (List ℕ)
text_of (Text text) = Some text
text_of _ = None

abbrev pub bytes_of : Value → Option (List ℕ)
bytes_of (Blob bytes) = Some bytes
bytes_of _ = None

-- of a row of the table, which has its rowid first
abbrev pub stored_entry : (Value → Option (List ℕ)) → Row → Option Entry
stored_entry beside row = entry_of (text_of (column row 1)) (beside (column row 2))

-- of a row of an answer
abbrev pub shown_entry : (Value → Option (List ℕ)) → Row → Option Entry
shown_entry beside row = entry_of (text_of (column row 0)) (beside (column row 1))

-- ---- the tables, which are the first and the third tree

abbrev pub cells_of : Trees → Entries
cells_of db = map (stored_entry text_of) (db 0)

abbrev pub tags_of : Trees → Entries
tags_of db = map (stored_entry bytes_of) (db 2)

abbrev pub tables_of : Trees → Tables
tables_of db = record { cells = cells_of db; tags = tags_of db }

-- each rowid is a number, and none comes twice
pub record HasIds (rows : List Row) : Type 0 where
  pub numbers : (r : Row) → Has rows r → is_int (rowid r) ≡ true
  pub once : (a b : Row) → Has rows a → Has rows b → rowid a ≡ rowid b → a ≡ b

-- a database of these two tables and nothing else
pub record IsStore (db : Database) : Type 0 where
  pub schema : db.schema ≡ two_tables
  pub sound : IsDatabase db
  pub cells : HasIds (db.trees 0)
  pub tags : HasIds (db.trees 2)
