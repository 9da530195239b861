-- How the texts are understood where a database holds the two tables, or none of them, or the first. Each is computed.
use Rattle.std.proofs.Common.{ℕ, List, [], ◌∷◌, length, ◌≤◌, Result, Ok, Err, arith, Some, None, true, false, pos, negsuc, codes, ◌≡◌, refl, sym, ap, ◌∙◌}
use Rattle.sqlite.proofs.Callers.{IsPlain, command_of, statement_of}
use Rattle.sqlite.specs.Command.TheVariants.{CreateTable, InsertOr, Delete, Select, Begin, Commit, Rollback}
use Rattle.sqlite.specs.Compile.{table_defined_by}
use Rattle.sqlite.specs.Listing.{understood, reads_listing}
use Rattle.sqlite.specs.Query.{Query, inner, end}
use Rattle.sqlite.specs.Schema.{Schema}
use Rattle.sqlite.specs.Source.{Source}
use Rattle.sqlite.specs.Source.TheVariants.{Values}
use Rattle.sqlite.specs.Term.{Term, lit, col}
use Rattle.sqlite.specs.declared.types.Value.TheVariants.{Null, Int}
use Rattle.sqlite_schema.specs.declared.command.Conflict.TheVariants.{Abort}
use Rattle.sqlite_schema.specs.declared.command.Upsert.{Upsert}
use Rattle.sqlite_resolve.specs.declared.compiled.Compiled.{Compiled}
use Rattle.sqlite_resolve.specs.declared.error.CompileError.{CompileError}
use Rattle.sqlite_schema.specs.declared.program.Program.{Program}
use Rattle.sqlite_sql.specs.Term.{op2}
use Rattle.sqlite_sql.specs.declared.ops.BinaryOp.TheVariants.{Compare}
use Rattle.sqlite_sql.specs.declared.ops.CompareOp.TheVariants.{Eq}
use Rattle.sqlite_tied.specs.Compute.{everything}
use Rattle.sqlite_value.specs.declared.keys.Collation.TheVariants.{Binary}
use Rattle.sqlite_value.specs.declared.keys.Key.{Key}
use Rattle.table_laws.specs.Schema.{make_rows, make_tags, all_rows, all_tags, one_row, set_row, remove_row, set_tag, row_ids, tag_ids, begin, commit, rollback, cell_row, cachetags, no_tables, one_table, two_tables, by_cell, by_tag}

-- ---- the parts of a command

-- a query of one tree
abbrev pub from_tree : ℕ → List Term → List Term → List (Term × Key) → Program
from_tree tree filter project order = record {
  lets = [];
  body = record {
    from = inner tree end;
    filter = filter;
    group = None;
    project = project;
    distinct = false;
    collations = [];
    order = order;
    limit = lit (Int (negsuc 0));
    offset = lit (Int (pos 0));
  };
}

-- the key of the row is the first parameter
abbrev pub has_key : List Term
has_key = op2 (Compare Eq Binary) (col 1 1) (col 0 0) ∷ []

-- the rowid of the row is the third
abbrev pub has_id : List Term
has_id = op2 (Compare Eq Binary) (col 1 0) (col 0 2) ∷ []

abbrev pub id_alone : List Term
id_alone = col 1 0 ∷ []

abbrev pub both_columns : List Term
both_columns = col 1 1 ∷ col 1 2 ∷ []

abbrev pub by_key : List (Term × Key)
by_key = (col 1 1, record { collation = Binary; descending = false }) ∷ []

abbrev pub by_id : List (Term × Key)
by_id = (col 1 0, record { collation = Binary; descending = false }) ∷ []

-- the row that an upsert puts in place of one: its rowid, then its rowid and its key again and the other new value
abbrev pub updated : List Term
updated = col 1 0 ∷ col 1 0 ∷ col 1 1 ∷ col 0 5 ∷ []

abbrev pub source : Source
source = Values (lit Null ∷ col 0 0 ∷ col 0 1 ∷ []) 3

abbrev pub on_key : ℕ → Upsert
on_key tree = record { target = Some (1 ∷ []); update = Some (from_tree tree has_id updated []) }

-- ---- the tables

indexes_are : two_tables.indexes ≡ by_cell ∷ by_tag ∷ []
unfolding everything
indexes_are = refl

pub schema_is : (s : Schema) → s.tables ≡ two_tables.tables → s.indexes ≡ by_cell ∷ by_tag ∷ [] → s.views ≡ [] → s ≡ two_tables
schema_is s tables indexes views =
    let same : record { tables = s.tables; indexes = s.indexes; views = s.views } ≡ record { tables = two_tables.tables; indexes = by_cell ∷ by_tag ∷ []; views = [] } = rw (tables, indexes, views) refl in
    same ∙ ap (λ l. record { tables = two_tables.tables; indexes = l; views = [] }) (sym indexes_are)

-- ---- the writes

pub set_row_is : command_of (understood two_tables set_row) ≡ InsertOr 0 Abort source (on_key 0 ∷ [])
unfolding understood everything
set_row_is = refl

pub set_row_plain : IsPlain (understood two_tables set_row)
unfolding understood everything
set_row_plain = (refl, refl)

pub remove_row_is : command_of (understood two_tables remove_row) ≡ Delete 0 (from_tree 0 has_key id_alone [])
unfolding understood everything
remove_row_is = refl

pub remove_row_plain : IsPlain (understood two_tables remove_row)
unfolding understood everything
remove_row_plain = (refl, refl)

pub set_tag_is : command_of (understood two_tables set_tag) ≡ InsertOr 1 Abort source (on_key 2 ∷ [])
unfolding understood everything
set_tag_is = refl

pub set_tag_plain : IsPlain (understood two_tables set_tag)
unfolding understood everything
set_tag_plain = (refl, refl)

-- ---- the reads

-- it is no query of the list of tables
abbrev pub IsPlainQuery : List ℕ → Type 0
IsPlainQuery sql = IsPlain (understood two_tables sql) × (reads_listing two_tables sql ≡ false)

pub all_rows_is : command_of (understood two_tables all_rows) ≡ Select (from_tree 0 [] both_columns by_key) (codes "cell" ∷ codes "body" ∷ [])
unfolding understood everything
all_rows_is = refl

pub all_rows_plain : IsPlainQuery all_rows
unfolding understood everything
all_rows_plain = ((refl, refl), refl)

pub all_tags_is : command_of (understood two_tables all_tags) ≡ Select (from_tree 2 [] both_columns by_key) (codes "tag" ∷ codes "invalidations" ∷ [])
unfolding understood everything
all_tags_is = refl

pub all_tags_plain : IsPlainQuery all_tags
unfolding understood everything
all_tags_plain = ((refl, refl), refl)

pub one_row_is : command_of (understood two_tables one_row) ≡ Select (from_tree 0 has_key (col 1 2 ∷ []) []) (codes "body" ∷ [])
unfolding understood everything
one_row_is = refl

pub one_row_plain : IsPlainQuery one_row
unfolding understood everything
one_row_plain = ((refl, refl), refl)

pub row_ids_is : command_of (understood two_tables row_ids) ≡ Select (from_tree 0 [] id_alone by_id) (codes "rowid" ∷ [])
unfolding understood everything
row_ids_is = refl

pub row_ids_plain : IsPlainQuery row_ids
unfolding understood everything
row_ids_plain = ((refl, refl), refl)

pub tag_ids_is : command_of (understood two_tables tag_ids) ≡ Select (from_tree 2 [] id_alone by_id) (codes "rowid" ∷ [])
unfolding understood everything
tag_ids_is = refl

pub tag_ids_plain : IsPlainQuery tag_ids
unfolding understood everything
tag_ids_plain = ((refl, refl), refl)

-- ---- the making of the tables

pub make_rows_is : command_of (understood no_tables make_rows) ≡ CreateTable
unfolding understood everything
make_rows_is = refl

pub make_rows_plain : IsPlain (understood no_tables make_rows)
unfolding understood everything
make_rows_plain = (refl, refl)

pub make_rows_text : statement_of make_rows (understood no_tables make_rows) ≡ make_rows
unfolding understood everything
make_rows_text = refl

pub make_rows_defines : table_defined_by make_rows ≡ Ok cell_row
unfolding understood everything
make_rows_defines = refl

pub make_tags_is : command_of (understood one_table make_tags) ≡ CreateTable
unfolding understood everything
make_tags_is = refl

pub make_tags_plain : IsPlain (understood one_table make_tags)
unfolding understood everything
make_tags_plain = (refl, refl)

pub make_tags_text : statement_of make_tags (understood one_table make_tags) ≡ make_tags
unfolding understood everything
make_tags_text = refl

pub make_tags_defines : table_defined_by make_tags ≡ Ok cachetags
unfolding understood everything
make_tags_defines = refl

-- ---- the transaction, whatever tables there are

pub begin_is : (schema : Schema) → command_of (understood schema begin) ≡ Begin
unfolding understood everything
begin_is schema = refl

pub begin_plain : (schema : Schema) → IsPlain (understood schema begin)
unfolding understood everything
begin_plain schema = (refl, refl)

pub commit_is : (schema : Schema) → command_of (understood schema commit) ≡ Commit
unfolding understood everything
commit_is schema = refl

pub commit_plain : (schema : Schema) → IsPlain (understood schema commit)
unfolding understood everything
commit_plain schema = (refl, refl)

pub rollback_is : (schema : Schema) → command_of (understood schema rollback) ≡ Rollback
unfolding understood everything
rollback_is schema = refl

pub rollback_plain : (schema : Schema) → IsPlain (understood schema rollback)
unfolding understood everything
rollback_plain schema = (refl, refl)

-- the text is one statement without parameters, and reads no clock
abbrev pub IsAlone : List ℕ → Result Compiled CompileError → Type 0
IsAlone sql (Ok c) = (length sql ≤ c.tail) × (c.names ≡ []) × (c.formats ≡ [])
IsAlone sql (Err e) = ⊥

pub rollback_alone : (schema : Schema) → IsAlone rollback (understood schema rollback)
unfolding understood everything
rollback_alone schema = (omega arith, refl, refl)
