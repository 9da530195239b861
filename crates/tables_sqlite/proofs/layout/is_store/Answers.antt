use Rattle.std.proofs.Common.{◌≡◌, [], ◌∷◌, refl, sym, ap, ◌∙◌, true≢false}
use Rattle.sqlite.specs.Schema.{Schema}
use Rattle.table_laws.proofs.Texts.{schema_is}
use Rattle.table_laws.specs.Schema.{two_tables, by_cell, by_tag}
use Rattle.tables_sqlite.proofs.layout.is_store.Goals as goal
use Rattle.tables_sqlite.proofs.layout.is_store.Goals.{then-not-are_tables-via-then-not-are_tables, then-not-are_tables-via-else-not-are_tables+then-not-are_indexes}

two_tables_are : (s : Schema) → s ≡ two_tables → (s.tables ≡ two_tables.tables) × (s.indexes ≡ by_cell ∷ by_tag ∷ []) × (s.views ≡ [])
two_tables_are s is =
    let same : record { tables = two_tables.tables; indexes = by_cell ∷ by_tag ∷ []; views = [] } ≡ two_tables = schema_is _ refl refl refl in
    (ap (λ (x : Schema). x.tables) is, ap (λ (x : Schema). x.indexes) is ∙ sym (ap (λ (x : Schema). x.indexes) same), ap (λ (x : Schema). x.views) is)

pub returns : goal.returns
returns c = (
  λ none. schema_is c.args.schema.now (c.are_tables.ensures.0 c.if-not-are_tables.false) (c.are_indexes.ensures.0 c.if-not-are_indexes.false) (c.is_empty.ensures.0 none),
  λ is. c.is_empty.ensures.1 (two_tables_are c.args.schema.now is).2,
)

pub returns-then-not-are_tables : goal.returns-then-not-are_tables
returns-then-not-are_tables c = (
  λ no. absurd (true≢false (sym no)),
  λ is. absurd (let them = two_tables_are c.args.schema.now is in elim c.then-not-are_tables.branch [
    | then-not-are_tables-via-then-not-are_tables w ↦ true≢false (sym (c.are_tables.ensures.1 them.0) ∙ w.if-not-are_tables.true)
    | then-not-are_tables-via-else-not-are_tables+then-not-are_indexes w ↦ true≢false (sym (w.are_indexes.ensures.1 them.1) ∙ w.if-not-are_indexes.true)
  ]),
)
