-- What the statements that write do to a database of the two tables.
use Rattle.std.proofs.Common.{inl, inr, ◌≡◌, ℕ, ℤ, List, [], ◌∷◌, map, Bool, true, false, cond, Some, None, Ok, refl, sym, ap, subst, ◌∙◌}
use Rattle.std.proofs.lemmas.Bool.{cases_Bool}
use Rattle.sqlite.proofs.Callers.{statement_of, runs_as, one_step}
use Rattle.sqlite.specs.Cast.{cast}
use Rattle.sqlite.specs.Command.{Command}
use Rattle.sqlite.specs.Command.TheVariants.{InsertOr, Delete, CreateTable}
use Rattle.sqlite.specs.Change.{created, next_tree, KeepsRows}
use Rattle.sqlite.specs.Does.{lacks_sequence, Tally, Does}
use Rattle.sqlite.specs.Edit.{Edit, edit_of, with_rowid, next_rowid}
use Rattle.sqlite.specs.Effect.{Database, IsDatabase}
use Rattle.sqlite.specs.Kind.TheVariants.{Integer}
use Rattle.sqlite.specs.Listing.{understood}
use Rattle.sqlite.specs.Order.{Row}
use Rattle.sqlite.specs.Program.{overlay}
use Rattle.sqlite.specs.Rowids.TheVariants.{Chosen, Given}
use Rattle.sqlite.specs.Rows.{Task, Tries, TriesEach, Written, count_of, nothing}
use Rattle.sqlite.specs.State.{State, mode_of, Writes, Executes, Shows}
use Rattle.sqlite.specs.Table.{Table}
use Rattle.sqlite.specs.Tree.{Trees}
use Rattle.sqlite.specs.declared.types.Value.{Value}
use Rattle.sqlite.specs.declared.types.Value.TheVariants.{Null, Int, Text, Blob}
use Rattle.sqlite_rules.specs.Calls.{ids_of}
use Rattle.sqlite_schema.specs.declared.command.Conflict.TheVariants.{Abort}
use Rattle.sqlite_schema.specs.declared.schema.Keys.TheVariants.{Enforced}
use Rattle.sqlite_sql.specs.Ops.{is_null}
use Rattle.store_six.specs.Tables.{Tables, IsSet, IsRemoved, OnCells, OnTags}
use Rattle.table_laws.proofs.Edits.{no_ids}
use Rattle.table_laws.proofs.Pairs.{cells_pair, tags_pair, tag_table}
use Rattle.table_laws.proofs.Picks.{picked}
use Rattle.table_laws.proofs.Texts.{from_tree, has_key, id_alone, source, on_key, set_row_is, set_row_plain, remove_row_is, remove_row_plain, set_tag_is, set_tag_plain, make_rows_is, make_rows_plain, make_rows_text, make_rows_defines, make_tags_is, make_tags_plain, make_tags_text, make_tags_defines}
use Rattle.table_laws.proofs.Upserts.{on, value_is, Rewrites, task, row_is_set, key_is_removed}
use Rattle.table_laws.specs.Schema.{make_rows, make_tags, set_row, remove_row, set_tag, cell_row, cachetags, no_tables, one_table, two_tables}
use Rattle.table_laws.specs.Stored.{text_of, bytes_of, stored_entry, tables_of, HasIds, IsStore}

-- what a statement that writes does where it isn't refused: the tables are changed so, and outside a transaction that is kept
pub record Wrote (Change : Tables → Tables → Type 0) (old new : State) : Type 0 where
  pub store : IsStore new.now
  pub change : Change (tables_of old.now.trees) (tables_of new.now.trees)
  pub shown : Shows old new new.now (cond old.in_transaction old.committed new.now) old.in_transaction

-- ---- a database whose one table is rewritten

module _ (db : Database) (store : IsStore db) (next : Trees) (sound : IsDatabase (record { schema = two_tables; trees = next })) where
  cells_rewritten : {Change : _} → Rewrites cell_row text_of Change db.trees next → IsStore (record { schema = two_tables; trees = next }) × OnCells Change (tables_of db.trees) (tables_of next)
  cells_rewritten {Change} r =
      let other : next 2 ≡ db.trees 2 = r.others.1.0 (λ e. absurd (let is = e in cc)) in (
        record { schema = refl; sound = sound; cells = r.ids; tags = subst HasIds (sym other) store.tags },
        record { cells = r.change; tags = ap (map (stored_entry bytes_of)) other },
      )

  tags_rewritten : {Change : _} → Rewrites tag_table bytes_of Change db.trees next → IsStore (record { schema = two_tables; trees = next }) × OnTags Change (tables_of db.trees) (tables_of next)
  tags_rewritten {Change} r =
      let other : next 0 ≡ db.trees 0 = r.others.0 (λ e. absurd (let is = e in cc)) in (
        record { schema = refl; sound = sound; cells = subst HasIds (sym other) store.cells; tags = r.ids },
        record { tags = r.change; cells = ap (map (stored_entry text_of)) other },
      )

-- a row that has no rowid is given one
numbered : (rows : List Row) (v x y : Value) → (id : Value) × (with_rowid Chosen rows (v ∷ x ∷ y ∷ []) ≡ id ∷ x ∷ y ∷ [])
numbered rows v x y = elim (cases_Bool (is_null v)) [ inl e ↦ (Int (next_rowid rows), rw e refl) | inr e ↦ (v, rw e refl) ]

-- ---- the upserts

module _ (key value : List ℕ) (old new : State) (count : ℕ) (store : IsStore old.now) where
  abbrev db : Trees
  db = old.now.trees

  pub row_is : Executes set_row (Text key ∷ Text value ∷ []) old new (Ok count) → Wrote (OnCells (IsSet key value)) old new
  row_is h =
      let params = Text key ∷ Text value ∷ [] in
      let command = InsertOr 0 Abort source (on_key 0 ∷ []) in
      let text = statement_of set_row (understood two_tables set_row) in
      let w = runs_as set_row params old new two_tables store.schema command set_row_is set_row_plain count h in
      let done = on (subst (λ s. Does old.step_limit (mode_of old) params (record old.now { schema = s }) text None command (Ok (w.tally, new.now))) store.schema w.changed) in
      let given = on done.1 in
      let counter = on given.2 in
      let all = on counter.2 in
      let job = task cell_row Text text_of cells_pair old.now store.sound store.schema store.cells old.step_limit key value in
      let one = on (subst (λ rows. TriesEach job Abort (on_key 0 ∷ []) rows (count_of counter.0) (nothing db) (Ok all.0)) given.1.1 all.1) in
      let last = on all.2 in
      let trees : done.0.trees ≡ one.0.trees = ap (λ (it : Written). it.trees) (value_is last.2) ∙ value_is last.1 ∙ ap (λ (p : Written × ℤ). p.0.trees) (value_is one.2) in
      let is : new.now ≡ record { schema = two_tables; trees = one.0.trees } =
      ap (λ (p : Tally × Database). p.1) (value_is (on (on done.2).2).2) ∙ ap (λ t. record { schema = two_tables; trees = t }) trees in
      let row = numbered (db 0) (cast Integer Null) (Text key) (Text value) in
      let set = row_is_set cell_row Text text_of cells_pair old.now store.sound store.schema store.cells old.step_limit key value row.0 one.0
      (subst (λ r. Tries job Abort (on_key 0 ∷ []) r db (Ok one.0)) row.1 one.1) in
      let both = cells_rewritten old.now store one.0.trees (subst IsDatabase is w.sound) set in
      record { store = subst IsStore (sym is) both.0; change = subst (λ (d : Database). OnCells (IsSet key value) (tables_of db) (tables_of d.trees)) (sym is) both.1; shown = w.shown }

  pub tag_is : Executes set_tag (Text key ∷ Blob value ∷ []) old new (Ok count) → Wrote (OnTags (IsSet key value)) old new
  tag_is h =
      let params = Text key ∷ Blob value ∷ [] in
      let command = InsertOr 1 Abort source (on_key 2 ∷ []) in
      let text = statement_of set_tag (understood two_tables set_tag) in
      let w = runs_as set_tag params old new two_tables store.schema command set_tag_is set_tag_plain count h in
      let done = on (subst (λ s. Does old.step_limit (mode_of old) params (record old.now { schema = s }) text None command (Ok (w.tally, new.now))) store.schema w.changed) in
      let given = on done.1 in
      let counter = on given.2 in
      let all = on counter.2 in
      let job = task tag_table Blob bytes_of tags_pair old.now store.sound store.schema store.tags old.step_limit key value in
      let one = on (subst (λ rows. TriesEach job Abort (on_key 2 ∷ []) rows (count_of counter.0) (nothing db) (Ok all.0)) given.1.1 all.1) in
      let last = on all.2 in
      let trees : done.0.trees ≡ one.0.trees = ap (λ (it : Written). it.trees) (value_is last.2) ∙ value_is last.1 ∙ ap (λ (p : Written × ℤ). p.0.trees) (value_is one.2) in
      let is : new.now ≡ record { schema = two_tables; trees = one.0.trees } =
      ap (λ (p : Tally × Database). p.1) (value_is (on (on done.2).2).2) ∙ ap (λ t. record { schema = two_tables; trees = t }) trees in
      let row = numbered (db 2) (cast Integer Null) (Text key) (Blob value) in
      let set = row_is_set tag_table Blob bytes_of tags_pair old.now store.sound store.schema store.tags old.step_limit key value row.0 one.0
      (subst (λ r. Tries job Abort (on_key 2 ∷ []) r db (Ok one.0)) row.1 one.1) in
      let both = tags_rewritten old.now store one.0.trees (subst IsDatabase is w.sound) set in
      record { store = subst IsStore (sym is) both.0; change = subst (λ (d : Database). OnTags (IsSet key value) (tables_of db) (tables_of d.trees)) (sym is) both.1; shown = w.shown }

-- ---- the removal

pub row_is_removed : (key : List ℕ) (old new : State) (count : ℕ) → IsStore old.now → Executes remove_row (Text key ∷ []) old new (Ok count) → Wrote (OnCells (IsRemoved key)) old new
row_is_removed key old new count store h =
    let params = Text key ∷ [] in
    let db = old.now.trees in
    let command = Delete 0 (from_tree 0 has_key id_alone []) in
    let text = statement_of remove_row (understood two_tables remove_row) in
    let w = runs_as remove_row params old new two_tables store.schema command remove_row_is remove_row_plain count h in
    let done = on (subst (λ s. Does old.step_limit (mode_of old) params (record old.now { schema = s }) text None command (Ok (w.tally, new.now))) store.schema w.changed) in
    let query = on done.1 in
    let step = on query.2 in
    let is : new.now ≡ record { schema = two_tables; trees = step.0 } =
    ap (λ (p : Tally × Database). p.1) (value_is (on (on done.2).2).2) ∙ ap (λ (it : Written). record { schema = two_tables; trees = it.trees }) (value_is step.2) in
    let shows = picked 0 has_key id_alone [] (overlay db []) params query.0 (query.1.answer Null) in
    let applies = one_step two_tables Enforced db step.0 (edit_of db cell_row (ids_of query.0) Given 0 []) refl step.1 in
    let removed = key_is_removed cell_row Text text_of cells_pair old.now store.sound store.schema store.cells key query.0 step.0 shows applies in
    let both = cells_rewritten old.now store step.0 (subst IsDatabase is w.sound) removed in
    record { store = subst IsStore (sym is) both.0; change = subst (λ (d : Database). OnCells (IsRemoved key) (tables_of db) (tables_of d.trees)) (sym is) both.1; shown = w.shown }

-- ---- the making of the tables

-- a database of the first table alone, which is empty
pub record IsHalf (db : Database) : Type 0 where
  pub schema : db.schema ≡ one_table
  pub cells : db.trees 0 ≡ []

pub rows_are_made : (old new : State) (count : ℕ) → old.now.schema ≡ no_tables → Executes make_rows [] old new (Ok count)
    → IsHalf new.now × Shows old new new.now (cond old.in_transaction old.committed new.now) old.in_transaction
rows_are_made old new count has h =
    let w = subst (λ t. Writes old new None CreateTable t [] count) make_rows_text (runs_as make_rows [] old new no_tables has CreateTable make_rows_is make_rows_plain count h) in
    let all = on w.changed in
    let first = on all.1 in
    let made = first.1 in
    let table : made.table ≡ cell_row = let is = sym made.defined ∙ make_rows_defines in cc in
    let schema : first.0.schema ≡ one_table = made.is ∙ ap (λ s. created s made.table) has ∙ ap (created no_tables) table in
    let plain : lacks_sequence first.0.schema ≡ false = ap lacks_sequence schema in
    let now : new.now ≡ first.0 = ap (λ (p : Tally × Database). p.1) (value_is all.2) ∙ value_is (rw plain at first.2) in (
      record { schema = ap (λ (d : Database). d.schema) now ∙ schema; cells = ap (λ (d : Database). d.trees 0) now ∙ subst (λ s. first.0.trees (next_tree s) ≡ []) has made.empty },
      w.shown,
    )

-- both tables, which are empty
pub record IsMade (db : Database) : Type 0 where
  pub store : IsStore db
  pub empty : tables_of db.trees ≡ record { cells = []; tags = [] }

pub tags_are_made : (old new : State) (count : ℕ) → IsHalf old.now → Executes make_tags [] old new (Ok count)
    → IsMade new.now × Shows old new new.now (cond old.in_transaction old.committed new.now) old.in_transaction
tags_are_made old new count half h =
    let has = half.schema in
    let w = subst (λ t. Writes old new None CreateTable t [] count) make_tags_text (runs_as make_tags [] old new one_table has CreateTable make_tags_is make_tags_plain count h) in
    let all = on w.changed in
    let first = on all.1 in
    let made = first.1 in
    let table : made.table ≡ cachetags = let is = sym made.defined ∙ make_tags_defines in cc in
    let schema : first.0.schema ≡ two_tables = made.is ∙ ap (λ s. created s made.table) has ∙ ap (created one_table) table in
    let plain : lacks_sequence first.0.schema ≡ false = ap lacks_sequence schema in
    let now : new.now ≡ first.0 = ap (λ (p : Tally × Database). p.1) (value_is all.2) ∙ value_is (rw plain at first.2) in
    let kept : KeepsRows one_table.tables old.now.trees first.0.trees = subst (λ s. KeepsRows s.tables old.now.trees first.0.trees) has made.others in
    let cells : new.now.trees 0 ≡ [] = ap (λ (d : Database). d.trees 0) now ∙ kept.0 ∙ half.cells in
    let tags : new.now.trees 2 ≡ [] = ap (λ (d : Database). d.trees 2) now ∙ subst (λ s. first.0.trees (next_tree s) ≡ []) has made.empty in (
      record {
        store = record { schema = ap (λ (d : Database). d.schema) now ∙ schema; sound = w.sound; cells = no_ids _ cells; tags = no_ids _ tags };
        empty = rw (cells, tags) refl;
      },
      w.shown,
    )
