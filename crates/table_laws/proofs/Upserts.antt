-- What a write does to a table of pairs, each a key that comes once with what stands beside it.
use Rattle.std.proofs.Common.{inl, inr, ◌≡◌, ◌≢◌, ◌⊎◌, ℕ, ℤ, List, [], ◌∷◌, map, drop, Bool, true, false, Option, Some, None, Ok, Err, Result, refl, sym, ap, subst, ◌∙◌}
use Rattle.std.proofs.lemmas.Bool.{and_parts, and_from}
use Rattle.std.specs.List.{AllByRecursion}
use Rattle.sqlite.proofs.Callers.{one_step}
use Rattle.sqlite.specs.Cast.{cast_row}
use Rattle.sqlite.specs.Edit.{Applies, Edit, edit_of, numbered, with_rowid, next_rowid}
use Rattle.sqlite.specs.Effect.{Database, IsDatabase}
use Rattle.sqlite.specs.Order.{Row, column}
use Rattle.sqlite.specs.Program.{overlay}
use Rattle.sqlite.specs.Rowids.TheVariants.{Chosen, Given}
use Rattle.sqlite.specs.Rows.{Task, Tries, Judged, Upserts, Meets, Clears as ClearsConflicts, Puts, Updates, Written, shown}
use Rattle.sqlite.specs.Table.{Table}
use Rattle.sqlite.specs.Term.{eval_all}
use Rattle.sqlite.specs.Tree.{Trees, rowid, put_row}
use Rattle.sqlite.specs.declared.types.Value.{Value}
use Rattle.sqlite.specs.declared.types.Value.TheVariants.{Null, Int, Text}
use Rattle.sqlite_rules.proofs.ProbeLemmas.{has_mapped, mapped_has}
use Rattle.sqlite_rules.proofs.TableLemmas.{int_is}
use Rattle.sqlite_rules.specs.Action.{works}
use Rattle.sqlite_rules.specs.Calls.{ids_of}
use Rattle.sqlite_rules.specs.Edit.{id_in, without_all, taken_by}
use Rattle.sqlite_rules.specs.Keys.{AreConflicts, conflicts}
use Rattle.sqlite_rules.specs.Lists.{Has}
use Rattle.sqlite_rules.specs.declared.error.Refusal.{Refusal}
use Rattle.sqlite_schema.specs.Rules.{equal}
use Rattle.sqlite_schema.specs.declared.command.Conflict.TheVariants.{Abort}
use Rattle.sqlite_schema.specs.declared.schema.Keys.TheVariants.{Enforced}
use Rattle.sqlite_value.specs.declared.keys.Collation.TheVariants.{Binary}
use Rattle.store_six.specs.Tables.{Entries, IsSet, IsRemoved}
use Rattle.table_laws.proofs.Edits.{Clears, left_ids, all_have_ids, is_set, is_removed}
use Rattle.table_laws.proofs.Picks.{ArePicked, picked, passes}
use Rattle.table_laws.proofs.Texts.{from_tree, has_key, has_id, id_alone, updated, on_key}
use Rattle.table_laws.proofs.Values.{text_equal, text_itself, int_equal, int_itself}
use Rattle.table_laws.specs.Schema.{two_tables}
use Rattle.table_laws.specs.Stored.{text_of, stored_entry, HasIds}

-- ---- the parts of a statement

-- a part that gave a value did not stop on the way
pub on : {B E R : Type 0} {b : B} {Stops : E → Type 0} → ((stop : E) × Stops stop × (Ok b ≡ Err stop)) ⊎ R → R
on (inl stopped) = absurd (let is = stopped.2 in cc)
on (inr rest) = rest

pub value_is : {B E : Type 0} {a b : B} → ◌≡◌ {A = Result B E} (Ok a) (Ok b) → a ≡ b
value_is same = cc

given_ids : (news rows : List Row) → numbered Given rows news ≡ news
given_ids [] rows = refl
given_ids (new ∷ news) rows = ap (λ l. new ∷ l) (given_ids news (put_row new rows))

-- ---- a table of pairs

-- what is so of each of the two tables, where its other column is of this kind
pub record HasPairs (table : Table) (wrap : List ℕ → Value) (beside : Value → Option (List ℕ)) : Type 0 where
  -- rows conflict just where they have the same key
  pub meets : (new r : Row) (key : List ℕ) → column new 1 ≡ Text key → column r 1 ≡ Text key → conflicts (Some (1 ∷ [])) two_tables.indexes table new r ≡ true
  pub met : (new r : Row) (key : List ℕ) → column new 1 ≡ Text key → conflicts (Some (1 ∷ [])) two_tables.indexes table new r ≡ true → column r 1 ≡ Text key
  pub once : (db : Database) → IsDatabase db → db.schema ≡ two_tables → HasIds (db.trees table.tree) → (a b : Row) (key : List ℕ) → Has (db.trees table.tree) a → Has (db.trees table.tree) b
      → column a 1 ≡ Text key → column b 1 ≡ Text key → a ≡ b
  -- a row is stored as it is given, and read so
  pub stored : (id : Value) (key value : List ℕ) → stored_entry beside (cast_row table (id ∷ Text key ∷ wrap value ∷ [])) ≡ Some (key, value)
  pub reads : (r : Row) → shown table r ≡ rowid r ∷ column r 1 ∷ column r 2 ∷ []
  -- no write of it leads to another
  pub alone : (gone news : List Row) → works two_tables Enforced 0 table.tree gone news ≡ []
  -- a query of it reads its rows
  pub read : (db : Trees) → overlay db [] table.tree ≡ db table.tree

-- what a write makes of the table, and that the others stay
pub record Rewrites (table : Table) (beside : Value → Option (List ℕ)) (Change : Entries → Entries → Type 0) (db next : Trees) : Type 0 where
  pub ids : HasIds (next table.tree)
  pub change : Change (map (stored_entry beside) (db table.tree)) (map (stored_entry beside) (next table.tree))
  pub others : AllByRecursion (λ (t : Table). t.tree ≢ table.tree → next t.tree ≡ db t.tree) two_tables.tables

module _ (table : Table) (wrap : List ℕ → Value) (beside : Value → Option (List ℕ)) (pairs : HasPairs table wrap beside)
    (db : Database) (sound : IsDatabase db) (schema : db.schema ≡ two_tables) (ids : HasIds (db.trees table.tree)) where
  abbrev rows : List Row
  rows = db.trees table.tree

  -- ---- the edit

  module _ (key : List ℕ) (gone : List ℤ) (clears : Clears key rows gone) (news : List Row) (next : Trees)
      (applies : Applies two_tables Enforced db.trees (record { table = table; gone = gone; news = news }) next) where
    next_ids : HasIds (next table.tree)
    next_ids = subst HasIds (sym applies.rows) (all_have_ids news _ (left_ids key rows gone ids clears) applies.keyed applies.fresh)

    removed_by : news ≡ [] → Rewrites table beside (IsRemoved key) db.trees next
    removed_by none = record {
      ids = next_ids;
      change = subst (λ l. IsRemoved key (map (stored_entry beside) rows) (map (stored_entry beside) l)) (sym applies.rows) (is_removed key rows gone ids clears beside news applies.fresh none);
      others = applies.tables;
    }

    set_by : (value : List ℕ) → ((r : Row) × Has news r) → ((r : Row) → Has news r → stored_entry beside r ≡ Some (key, value)) → Rewrites table beside (IsSet key value) db.trees next
    set_by value some each = record {
      ids = next_ids;
      change = subst (λ l. IsSet key value (map (stored_entry beside) rows) (map (stored_entry beside) l)) (sym applies.rows) (is_set key rows gone ids clears beside news applies.fresh value some each);
      others = applies.tables;
    }

  -- ---- the removal of a key

  key_clears : (key : List ℕ) (found : List Row) → ArePicked has_key id_alone rows (Text key ∷ []) found → Clears key rows (ids_of found)
  key_clears key found shows = record {
    all = λ r h same. mapped_has (λ x. id_in (rowid x)) found _ (shows.complete r h (and_from (equal Binary (column r 1) (Text key)) true (rw same (text_itself key)) refl));
    only = λ id h.
        let x = has_mapped (λ x. id_in (rowid x)) found id h in
        let r = shows.sound x.0 x.1 in
        (r.0, r.1, text_equal _ key (and_parts (equal Binary (column r.0 1) (Text key)) true r.2).0, x.2 ∙ ap (λ z. id_in (rowid z)) r.3);
  }

  -- ---- the row of an upsert that meets none

  module _ (limit : Option ℕ) (key value : List ℕ) where
    abbrev pub task : Task
    task = record { limit = limit; keys = Enforced; schema = two_tables; table = table; params = Text key ∷ wrap value ∷ [] }

    module _ (id : Value) (one : Written) where
      abbrev new_row : Row
      new_row = id ∷ Text key ∷ wrap value ∷ []

      abbrev IsDone : Type 0
      IsDone = Rewrites table beside (IsSet key value) db.trees one.trees

      put_new : AreConflicts (Some (1 ∷ [])) two_tables.indexes table rows new_row [] → Puts task new_row db.trees (Ok one) → IsDone
      put_new none puts =
          let step = on puts in
          let is : one.trees ≡ step.0 = ap (λ (w : Written). w.trees) (value_is step.2) in
          let edit : Edit = edit_of db.trees table [] Given 0 (new_row ∷ []) in
          let applies = one_step two_tables Enforced db.trees step.0 edit (pairs.alone [] edit.news) step.1 in
          let clears : Clears key rows [] = record { all = λ r h same. absurd (none.complete r h (pairs.meets new_row r key refl same)); only = λ n h. absurd h } in
          subst (λ t. Rewrites table beside (IsSet key value) db.trees t) (sym is)
          (set_by key [] clears (cast_row table new_row ∷ []) step.0 applies value (_, inl refl) (λ r h. elim h [ inl e ↦ ap (stored_entry beside) e ∙ pairs.stored id key value | inr more ↦ absurd more ]))

      -- ---- the row that is put in place of another

      module _ (old : Row) (listed : Has rows old) (keyed : column old 1 ≡ Text key) where
        abbrev given : Row
        given = Text key ∷ wrap value ∷ rowid old ∷ id ∷ Text key ∷ wrap value ∷ []

        is_old : (r : Row) → Has rows r → passes has_id given r ≡ true → r ≡ old
        is_old r h same =
            let own = int_is (rowid old) (ids.numbers old listed) in
            let e : equal Binary (rowid r) (rowid old) ≡ true = (and_parts (equal Binary (rowid r) (rowid old)) true same).0 in
            ids.once r old h listed (int_equal (rowid r) (id_in (rowid old)) (ids.numbers r h) (subst (λ v. equal Binary (rowid r) v ≡ true) own e) ∙ sym own)

        old_passes : passes has_id given old ≡ true
        old_passes =
            let own = int_is (rowid old) (ids.numbers old listed) in
            and_from (equal Binary (rowid old) (rowid old)) true (subst (λ v. equal Binary v v ≡ true) (sym own) (int_itself (id_in (rowid old)))) refl

        module _ (found : List Row) (shows : ArePicked has_id updated rows given found) where
          id_clears : Clears key rows (ids_of found)
          id_clears = record {
            all = λ r h same. let is = pairs.once db sound schema ids r old key h listed same keyed in
                subst (λ x. Has (ids_of found) (id_in (rowid x))) (sym is) (mapped_has (λ x. id_in (rowid x)) found _ (shows.complete old listed old_passes));
            only = λ n h.
                let x = has_mapped (λ x. id_in (rowid x)) found n h in
                let r = shows.sound x.0 x.1 in
                (old, listed, keyed, x.2 ∙ ap (λ z. id_in (rowid z)) (r.3 ∙ ap (λ z. eval_all updated (given ∷ z ∷ [])) (is_old r.0 r.1 r.2)));
          }

          abbrev placed : List Row
          placed = map (λ x. cast_row table (drop 1 x)) found

          placed_each : (r : Row) → Has placed r → stored_entry beside r ≡ Some (key, value)
          placed_each r h =
              let x = has_mapped (λ x. cast_row table (drop 1 x)) found r h in
              let o = shows.sound x.0 x.1 in
              let is : x.0 ≡ rowid old ∷ rowid old ∷ Text key ∷ wrap value ∷ [] =
              o.3 ∙ ap (λ z. eval_all updated (given ∷ z ∷ [])) (is_old o.0 o.1 o.2) ∙ ap (λ v. rowid old ∷ rowid old ∷ v ∷ wrap value ∷ []) keyed in
              ap (stored_entry beside) x.2 ∙ ap (λ z. stored_entry beside (cast_row table (drop 1 z))) is ∙ pairs.stored (rowid old) key value

          placed_some : (r : Row) × Has placed r
          placed_some = (_, mapped_has (λ x. cast_row table (drop 1 x)) found _ (shows.complete old listed old_passes))

        update_old : Updates task (from_tree table.tree has_id updated []) given db.trees (Ok one) → IsDone
        update_old updates =
            let query = on updates in
            let step = on query.2 in
            let found = query.0 in
            let is : one.trees ≡ step.0 = ap (λ (w : Written). w.trees) (value_is step.2) in
            let shows = subst (λ l. ArePicked has_id updated l given found) (pairs.read db.trees) (picked table.tree has_id updated [] (overlay db.trees []) given found (query.1.answer Null)) in
            let edit : Edit = edit_of db.trees table (ids_of found) Given 1 found in
            let applies = one_step two_tables Enforced db.trees step.0 edit (pairs.alone (taken_by db.trees edit) edit.news) step.1 in
            let news = given_ids (placed found shows) (without_all rows (ids_of found)) in
            subst (λ t. Rewrites table beside (IsSet key value) db.trees t) (sym is)
            (set_by key (ids_of found) (id_clears found shows) (placed found shows) step.0
            (subst (λ l. Applies two_tables Enforced db.trees (record { table = table; gone = ids_of found; news = l }) step.0) news applies)
            value (placed_some found shows) (placed_each found shows))

      -- ---- the upsert

      no_conflict : (found : List Row) → ClearsConflicts task Abort new_row db.trees found (Ok one) → Puts task new_row db.trees (Ok one)
      no_conflict [] h = h
      no_conflict (x ∷ more) h = h

      met_by : (found : List Row) → AreConflicts (Some (1 ∷ [])) two_tables.indexes table rows new_row found
          → Meets task (Upserts task Abort new_row db.trees []) new_row db.trees (on_key table.tree) found (Ok one) → IsDone
      met_by [] none h = put_new none (no_conflict h.0 h.2)
      met_by (it ∷ more) conflict h =
          let old = conflict.sound it (inl refl) in
          let given_as = λ (x : Row). Updates task (from_tree table.tree has_id updated []) (Text key ∷ wrap value ∷ rowid x ∷ shown table new_row) db.trees (Ok one) in
          update_old old.0 old.1 (pairs.met new_row old.0 key refl old.2)
          (subst (λ l. Updates task (from_tree table.tree has_id updated []) (Text key ∷ wrap value ∷ rowid old.0 ∷ l) db.trees (Ok one)) (pairs.reads new_row) (subst given_as old.3 h))

      judged : (verdict : Option Refusal) → Judged task Abort (on_key table.tree ∷ []) new_row db.trees verdict (Ok one) → IsDone
      judged None h = met_by h.0 h.1 h.2
      judged (Some why) h = absurd (let is = h in cc)

      pub row_is_set : Tries task Abort (on_key table.tree ∷ []) new_row db.trees (Ok one) → IsDone
      row_is_set (inl unfit) = absurd (let is = unfit.1 in cc)
      row_is_set (inr h) = judged h.0 h.2

  pub key_is_removed : (key : List ℕ) (found : List Row) (next : Trees) → ArePicked has_key id_alone rows (Text key ∷ []) found
      → Applies two_tables Enforced db.trees (record { table = table; gone = ids_of found; news = [] }) next → Rewrites table beside (IsRemoved key) db.trees next
  key_is_removed key found next shows applies = removed_by key (ids_of found) (key_clears key found shows) [] next applies refl
