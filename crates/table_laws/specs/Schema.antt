-- The two tables as a database lists them, and the texts of the statements on them.
use Rattle.std.specs.Prelude.{ℕ, Bool, List, [], ◌∷◌, None, true, false, codes}
use Rattle.sqlite.specs.Change.{created}
use Rattle.sqlite.specs.Collation.TheVariants.{Binary}
use Rattle.sqlite_schema.specs.declared.schema.Column.{Column}
use Rattle.sqlite_schema.specs.declared.schema.Index.{Index}
use Rattle.sqlite.specs.Kind.{Kind}
use Rattle.sqlite.specs.Kind.TheVariants.{Text, Any}
use Rattle.sqlite.specs.Schema.{Schema}
use Rattle.sqlite.specs.Table.{Table}
use Rattle.sqlite.specs.declared.types.Value.TheVariants.{Null}

-- ---- the texts

abbrev pub make_rows : List ℕ
make_rows = codes "CREATE TABLE IF NOT EXISTS cell_row(cell TEXT PRIMARY KEY, body TEXT NOT NULL)"

abbrev pub make_tags : List ℕ
make_tags = codes "CREATE TABLE IF NOT EXISTS cachetags(tag TEXT PRIMARY KEY, invalidations BLOB NOT NULL)"

abbrev pub all_rows : List ℕ
all_rows = codes "SELECT cell, body FROM cell_row ORDER BY cell"

abbrev pub all_tags : List ℕ
all_tags = codes "SELECT tag, invalidations FROM cachetags ORDER BY tag"

abbrev pub one_row : List ℕ
one_row = codes "SELECT body FROM cell_row WHERE cell = ?1"

abbrev pub set_row : List ℕ
set_row = codes "INSERT INTO cell_row (cell, body) VALUES (?1, ?2) ON CONFLICT (cell) DO UPDATE SET body = excluded.body"

abbrev pub remove_row : List ℕ
remove_row = codes "DELETE FROM cell_row WHERE cell = ?1"

abbrev pub set_tag : List ℕ
set_tag = codes "INSERT INTO cachetags (tag, invalidations) VALUES (?1, ?2) ON CONFLICT (tag) DO UPDATE SET invalidations = excluded.invalidations"

abbrev pub row_ids : List ℕ
row_ids = codes "SELECT rowid FROM cell_row ORDER BY rowid"

abbrev pub tag_ids : List ℕ
tag_ids = codes "SELECT rowid FROM cachetags ORDER BY rowid"

abbrev pub begin : List ℕ
begin = codes "BEGIN"

abbrev pub commit : List ℕ
commit = codes "COMMIT"

abbrev pub rollback : List ℕ
rollback = codes "ROLLBACK"

-- ---- the tables

abbrev pub column_of : List ℕ → Kind → Bool → Column
column_of name kind not_null = record { name = name; kind = kind; is_strict = false; not_null = not_null; default = Null; collation = Binary }

-- a table of two columns, the first a text that comes once, before it has a place
abbrev pub pairs : List ℕ → List ℕ → List ℕ → Kind → Table
pairs name key beside kind = record {
  name = name;
  tree = 0;
  columns = column_of key Text false ∷ column_of beside kind true ∷ [];
  key = None;
  primary = 1 ∷ [];
  uniques = (1 ∷ []) ∷ [];
  orders = (record { digits = 0 }) ∷ [];
  checks = [];
  references = [];
  computed = [];
  stamps = record { places = []; terms = []; formats = [] };
  is_counted = false;
}

-- the index that comes with the key of such a table
abbrev pub index_of : List ℕ → ℕ → ℕ → Index
index_of name tree table = record { name = name; tree = tree; table = table; columns = 1 ∷ []; order = record { digits = 0 }; is_unique = true }

abbrev pub cell_row : Table
cell_row = pairs (codes "cell_row") (codes "cell") (codes "body") Text

-- the second column is declared as BLOB, which is no affinity
abbrev pub cachetags : Table
cachetags = pairs (codes "cachetags") (codes "tag") (codes "invalidations") Any

abbrev pub no_tables : Schema
no_tables = record { tables = []; indexes = []; views = [] }

abbrev pub one_table : Schema
one_table = created no_tables cell_row

-- just these two, in this order
abbrev pub two_tables : Schema
two_tables = created one_table cachetags

-- the indexes that come with their keys
abbrev pub by_cell : Index
by_cell = index_of (codes "sqlite_autoindex_cell_row_1") 1 0

abbrev pub by_tag : Index
by_tag = index_of (codes "sqlite_autoindex_cachetags_1") 3 2
