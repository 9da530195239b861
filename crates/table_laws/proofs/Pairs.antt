-- Each of the two tables is a table of pairs, as a database of them has it.
use Rattle.std.proofs.Common.{inl, inr, ◌≡◌, ℕ, List, [], ◌∷◌, true, false, Some, refl, sym, subst, true≢false}
use Rattle.std.proofs.lemmas.Bool.{and_parts, not-true, cases_Bool}
use Rattle.sqlite.specs.Effect.{Database, IsDatabase}
use Rattle.sqlite.specs.Order.{Row, column}
use Rattle.sqlite.specs.Table.{Table}
use Rattle.sqlite.specs.declared.types.Value.TheVariants.{Text, Blob}
use Rattle.sqlite_rules.proofs.ListLemmas.{all_has}
use Rattle.sqlite_rules.specs.Keys.{conflicts}
use Rattle.sqlite_rules.specs.Lists.{Has}
use Rattle.sqlite_schema.specs.Rules.{equal, Keeps}
use Rattle.sqlite_schema.specs.declared.schema.Constraint.TheVariants.{Unique}
use Rattle.sqlite_value.specs.Keys.{first_key}
use Rattle.sqlite_value.specs.declared.keys.Collation.TheVariants.{Binary}
use Rattle.table_laws.proofs.Upserts.{HasPairs}
use Rattle.table_laws.proofs.Values.{text_equal, text_itself, same_rowid, fails_at}
use Rattle.table_laws.specs.Schema.{cell_row, cachetags, two_tables}
use Rattle.table_laws.specs.Stored.{text_of, bytes_of, HasIds}

-- ---- the cells

cell_meets : (new r : Row) (key : List ℕ) → column new 1 ≡ Text key → column r 1 ≡ Text key → conflicts (Some (1 ∷ [])) two_tables.indexes cell_row new r ≡ true
unfolding first_key
cell_meets new r key a b = rw (a, b, text_itself key) refl

cell_met : (new r : Row) (key : List ℕ) → column new 1 ≡ Text key → conflicts (Some (1 ∷ [])) two_tables.indexes cell_row new r ≡ true → column r 1 ≡ Text key
unfolding first_key
cell_met new r key a h = elim (cases_Bool (equal Binary (column r 1) (Text key))) [
  | inl e ↦ text_equal _ key e
  | inr e ↦ absurd (true≢false (sym (rw (a, e) at h)))
]

cell_once : (db : Database) → IsDatabase db → db.schema ≡ two_tables → HasIds (db.trees 0) → (a b : Row) (key : List ℕ) → Has (db.trees 0) a → Has (db.trees 0) b → column a 1 ≡ Text key → column b 1 ≡ Text key → a ≡ b
unfolding first_key
cell_once db sound has ids a b key p q x y =
    let kept = subst (λ s. Keeps Unique s db.trees) has (sound.obeys.rules Unique) in
    let alone = not-true _ (and_parts _ _ (all_has _ (db.trees 0) b kept.0 q)).0 in
    let apart = fails_at _ (db.trees 0) a alone p in
    ids.once a b p q (same_rowid a b (ids.numbers a p) (ids.numbers b q) (rw (x, y, text_itself key) at apart))

pub cells_pair : HasPairs cell_row Text text_of
cells_pair = record {
  meets = cell_meets;
  met = cell_met;
  once = cell_once;
  stored = λ id key value. refl;
  reads = λ r. refl;
  alone = λ gone news. refl;
  read = λ db. refl;
}

-- ---- the tags

-- the table, where it lies
abbrev pub tag_table : Table
tag_table = record cachetags { tree = 2 }

tag_meets : (new r : Row) (key : List ℕ) → column new 1 ≡ Text key → column r 1 ≡ Text key → conflicts (Some (1 ∷ [])) two_tables.indexes tag_table new r ≡ true
unfolding first_key
tag_meets new r key a b = rw (a, b, text_itself key) refl

tag_met : (new r : Row) (key : List ℕ) → column new 1 ≡ Text key → conflicts (Some (1 ∷ [])) two_tables.indexes tag_table new r ≡ true → column r 1 ≡ Text key
unfolding first_key
tag_met new r key a h = elim (cases_Bool (equal Binary (column r 1) (Text key))) [
  | inl e ↦ text_equal _ key e
  | inr e ↦ absurd (true≢false (sym (rw (a, e) at h)))
]

tag_once : (db : Database) → IsDatabase db → db.schema ≡ two_tables → HasIds (db.trees 2) → (a b : Row) (key : List ℕ) → Has (db.trees 2) a → Has (db.trees 2) b → column a 1 ≡ Text key → column b 1 ≡ Text key → a ≡ b
unfolding first_key
tag_once db sound has ids a b key p q x y =
    let kept = subst (λ s. Keeps Unique s db.trees) has (sound.obeys.rules Unique) in
    let alone = not-true _ (and_parts _ _ (all_has _ (db.trees 2) b kept.1.0 q)).0 in
    let apart = fails_at _ (db.trees 2) a alone p in
    ids.once a b p q (same_rowid a b (ids.numbers a p) (ids.numbers b q) (rw (x, y, text_itself key) at apart))

pub tags_pair : HasPairs tag_table Blob bytes_of
tags_pair = record {
  meets = tag_meets;
  met = tag_met;
  once = tag_once;
  stored = λ id key value. refl;
  reads = λ r. refl;
  alone = λ gone news. refl;
  read = λ db. refl;
}
