-- What a batch does to the site that the table of cells stands for.
use Rattle.std.proofs.Common.{◌≡◌, ◌≢◌, ◌⊎◌, inl, inr, ℕ, List, [], ◌∷◌, Bool, true, false, cond, Option, Some, None, refl, sym, ap, subst, ◌∙◌, codes}
use Rattle.std.specs.List.{fold}
use Rattle.std.specs.Map.{lookup}
use Rattle.std.specs.BTreeMap.{is_at}
use Rattle.std.specs.Ordering.{is_eq}
use Rattle.std.specs.declared.cmp.Ordering.{Ordering}
use Rattle.std.specs.declared.cmp.Ordering.TheVariants.{Less, Equal, Greater}
use Rattle.std.proofs.lemmas.List.Elements.{All-head, All-tail}
use Rattle.bucket_map.proofs.Entries.{same_or_not, found_put_same, found_put_other, found_cut_same, found_cut_other, ordered_put, ordered_cut}
use Rattle.content_rows.proofs.CellLemmas.{cell_cmp_exact, cell_cmp_total}
use Rattle.content_rows.specs.CellOrder.{cell_cmp}
use Rattle.content_rows.specs.CellText.{cell_text}
use Rattle.content_rows.specs.ValidRow.{IsValidRow}
use Rattle.content_rows.specs.declared.cell.Cell.{Cell}
use Rattle.content_rows.specs.declared.row.Row.{Row}
use Rattle.indexed_rows.specs.Rows.{InOrder, AreValidRows, row_at, with_row, without_row}
use Rattle.indexed_rows.specs.Write.{Write, with_row_or_none, written}
use Rattle.keeper_sqlite.proofs.CellNames.{cells_apart, sound_number, no_head, row_is_of}
use Rattle.keeper_sqlite.specs.Batches.{IsBody, SetsRow, MakesWrite, InTurn}
use Rattle.keeper_sqlite.specs.Bodies.{row_of}
use Rattle.keeper_sqlite.specs.Cells.{HasTypedNumber}
use Rattle.keeper_sqlite.specs.Numbers.{head_in}
use Rattle.keeper_sqlite.specs.Standing.{SaysRow, HasRows}
use Rattle.sqlite_rules.specs.Lists.{Has}
use Rattle.store_six.specs.Tables.{Entry, Entries, Tables, IsSet, IsRemoved}

-- ---- while a batch is kept

-- an entry is that of a row, as which it is read where the row is right
pub record Stores (e : Entry) (c : Cell) (r : Row) : Type 0 where
  pub key_is : e.0 ≡ cell_text c
  pub small : HasTypedNumber c
  pub read : IsValidRow c r → row_of e.0 e.1 ≡ Some (c, r)

pub record Tracks (table : Entries) (rows : List (Cell × Row)) : Type 0 where
  pub only : (e : Entry) → Has table (Some e) → ((c : Cell) × (r : Row) × Stores e c r × (row_at rows c ≡ Some r)) ⊎ (e.0 ≡ codes "head")
  pub all : (c : Cell) (r : Row) → row_at rows c ≡ Some r → (e : Entry) × Has table (Some e) × Stores e c r
  pub readable : Has table None → ⊥
  pub ordered : InOrder rows

says_stores : (e : Entry) (c : Cell) (r : Row) → SaysRow e c r → Stores e c r
says_stores e c r says =
    let of = row_is_of e.0 e.1 (c, r) says in record { key_is = of.key_is; small = sound_number c of.sound; read = λ right. says }

pub tracked : (table : Entries) (rows : List (Cell × Row)) (number : ℕ) → HasRows table rows number → Tracks table rows
tracked table rows number have = record {
  only = λ e there. elim (have.only e there) [
    | inl row ↦ inl (row.0, row.1, says_stores e row.0 row.1 row.2, row.3)
    | inr says ↦ inr says.0
  ];
  all = λ c r found. let it = have.all c r found in (it.0, it.1, says_stores it.0 c r it.2);
  readable = have.readable;
  ordered = have.ordered;
}

-- ---- one write

some_same : {X : Type 0} (a b : X) → Some a ≡ Some b → a ≡ b
some_same a b h = cc

none_some : {X : Type 0} (x : X) (o : Option X) → o ≡ None → o ≡ Some x → ⊥
none_some x o none some = cc

module _ (old new : Entries) (rows : List (Cell × Row)) (c : Cell) (small : HasTypedNumber c) where
  module _ (r : Row) (body : List ℕ) (is : IsBody c r body) (set : IsSet (cell_text c) body old new) where
    here : Stores (cell_text c, body) c r
    here = record { key_is = refl; small = small; read = is }

    put_only : Tracks old rows → (e : Entry) → Has new (Some e) → ((k : Cell) × (q : Row) × Stores e k q × (row_at (with_row rows c r) k ≡ Some q)) ⊎ (e.0 ≡ codes "head")
    put_only t e there = elim (set.only e there) [
      | inl same ↦ inl (c, r, subst (λ (x : Entry). Stores x c r) (sym same) here, found_put_same cell_cmp cell_cmp_total cell_cmp_exact rows c r)
      | inr other ↦ elim (t.only e other.0) [
        | inl row ↦ inl (row.0, row.1, row.2, found_put_other cell_cmp cell_cmp_total cell_cmp_exact rows c r row.0 (λ same. other.1 (row.2.key_is ∙ ap (λ (k : Cell). cell_text k) same)) ∙ row.3)
        | inr head ↦ inr head
      ]
    ]

    put_all : Tracks old rows → (k : Cell) (q : Row) → row_at (with_row rows c r) k ≡ Some q → (e : Entry) × Has new (Some e) × Stores e k q
    put_all t k q found = elim (same_or_not cell_cmp cell_cmp_total cell_cmp_exact k c) [
      | inl same ↦
          let now : Some r ≡ Some q = sym (found_put_same cell_cmp cell_cmp_total cell_cmp_exact rows c r) ∙ sym (ap (λ (x : Cell). row_at (with_row rows c r) x) same) ∙ found in
          ((cell_text c, body), set.there, subst (λ (x : Cell). Stores (cell_text c, body) x q) (sym same) (subst (λ (x : Row). Stores (cell_text c, body) c x) (some_same r q now) here))
      | inr other ↦
          let it = t.all k q (sym (found_put_other cell_cmp cell_cmp_total cell_cmp_exact rows c r k other) ∙ found) in
          (it.0, set.others it.0 (λ key. other (cells_apart k c it.2.small small (sym it.2.key_is ∙ key))) it.1, it.2)
    ]

    pub row_put : Tracks old rows → Tracks new (with_row rows c r)
    row_put t = record {
      only = put_only t;
      all = put_all t;
      readable = λ none. t.readable (set.unread none);
      ordered = ordered_put cell_cmp cell_cmp_total cell_cmp_exact rows c r t.ordered;
    }

  module _ (cut : IsRemoved (cell_text c) old new) where
    cut_only : Tracks old rows → (e : Entry) → Has new (Some e) → ((k : Cell) × (q : Row) × Stores e k q × (row_at (without_row rows c) k ≡ Some q)) ⊎ (e.0 ≡ codes "head")
    cut_only t e there =
        let other = cut.only e there in
        elim (t.only e other.0) [
          | inl row ↦ inl (row.0, row.1, row.2, found_cut_other cell_cmp cell_cmp_total cell_cmp_exact rows c row.0 t.ordered (λ same. other.1 (row.2.key_is ∙ ap (λ (k : Cell). cell_text k) same)) ∙ row.3)
          | inr head ↦ inr head
        ]

    cut_all : Tracks old rows → (k : Cell) (q : Row) → row_at (without_row rows c) k ≡ Some q → (e : Entry) × Has new (Some e) × Stores e k q
    cut_all t k q found = elim (same_or_not cell_cmp cell_cmp_total cell_cmp_exact k c) [
      | inl same ↦ absurd (none_some q (row_at (without_row rows c) c) (found_cut_same cell_cmp cell_cmp_total cell_cmp_exact rows c t.ordered) (sym (ap (λ (x : Cell). row_at (without_row rows c) x) same) ∙ found))
      | inr other ↦
          let it = t.all k q (sym (found_cut_other cell_cmp cell_cmp_total cell_cmp_exact rows c k t.ordered other) ∙ found) in
          (it.0, cut.others it.0 (λ key. other (cells_apart k c it.2.small small (sym it.2.key_is ∙ key))) it.1, it.2)
    ]

    pub row_cut : Tracks old rows → Tracks new (without_row rows c)
    row_cut t = record {
      only = cut_only t;
      all = cut_all t;
      readable = λ none. t.readable (cut.unread none);
      ordered = ordered_cut cell_cmp cell_cmp_total cell_cmp_exact (is_at (cell_cmp c)) rows t.ordered;
    }

-- ---- all writes

row_set : (old new : Tables) (rows : List (Cell × Row)) (c : Cell) (o : Option Row) → HasTypedNumber c → SetsRow c o old new → Tracks old.cells rows → Tracks new.cells (with_row_or_none rows c o)
row_set old new rows c (Some r) small sets t = row_put old.cells new.cells rows c small r sets.0 sets.1 sets.2.cells t
row_set old new rows c None small sets t = row_cut old.cells new.cells rows c small sets.cells t

pub writes_made : (writes : List Write) (old new : Tables) (rows : List (Cell × Row)) → InTurn MakesWrite writes old new → Tracks old.cells rows → Tracks new.cells (fold written rows writes)
writes_made [] old new rows same t = subst (λ (x : Tables). Tracks x.cells rows) (sym same) t
writes_made (w ∷ ws) old new rows made t =
    writes_made ws made.0 new (written rows w) made.2 (row_set old made.0 rows w.cell w.row made.1.0 made.1.1 t)

row_keeps_tags : (old new : Tables) (c : Cell) (o : Option Row) → SetsRow c o old new → new.tags ≡ old.tags
row_keeps_tags old new c (Some r) sets = sets.2.tags
row_keeps_tags old new c None sets = sets.tags

pub writes_keep_tags : (writes : List Write) (old new : Tables) → InTurn MakesWrite writes old new → new.tags ≡ old.tags
writes_keep_tags [] old new same = ap (λ (x : Tables). x.tags) same
writes_keep_tags (w ∷ ws) old new made = writes_keep_tags ws made.0 new made.2 ∙ row_keeps_tags old made.0 w.cell w.row made.1.1

-- ---- the number, once all is written

right_here : (o : Ordering) (c : Cell) (e : Cell × Row) (rest : Option Row) (r : Row) → cell_cmp c e.0 ≡ o → IsValidRow e.0 e.1 → (rest ≡ Some r → IsValidRow c r) → cond (is_eq o) (Some e.1) rest ≡ Some r → IsValidRow c r
right_here Less c e rest r is own more h = more h
right_here Greater c e rest r is own more h = more h
right_here Equal c e rest r is own more h =
    subst (λ (x : Row). IsValidRow c x) (some_same e.1 r h) (subst (λ (k : Cell). IsValidRow k e.1) (sym (cell_cmp_exact c e.0 is)) own)

pub right_at : (rows : List (Cell × Row)) (c : Cell) (r : Row) → AreValidRows rows → row_at rows c ≡ Some r → IsValidRow c r
right_at [] c r right h = absurd cc
right_at (e ∷ es) c r right h =
    right_here (cell_cmp c e.0) c e (row_at es c) r refl (All-head (λ x. IsValidRow x.0 x.1) e es right) (right_at es c r (All-tail (λ x. IsValidRow x.0 x.1) e es right)) h

module _ (old new : Entries) (rows : List (Cell × Row)) (number : ℕ) (text : List ℕ) (is : head_in text ≡ Some number) (set : IsSet (codes "head") text old new) where
  pub number_set : Tracks old rows → AreValidRows rows → HasRows new rows number
  number_set t right = record {
    only = λ e there. elim (set.only e there) [
      | inl same ↦ inr (ap (λ (x : Entry). x.0) same, ap (λ (x : Entry). head_in x.1) same ∙ is)
      | inr other ↦ elim (t.only e other.0) [
        | inl row ↦ inl (row.0, row.1, row.2.read (right_at rows row.0 row.1 right row.3), row.3)
        | inr head ↦ absurd (other.1 head)
      ]
    ];
    all = λ c r found.
        let it = t.all c r found in
        let says = it.2.read (right_at rows c r right found) in
        (it.0, set.others it.0 (λ key. no_head c (row_is_of it.0.0 it.0.1 (c, r) says).sound (sym it.2.key_is ∙ key)) it.1, says);
    numbered = inr ((codes "head", text), set.there, (refl, is));
    readable = λ none. t.readable (set.unread none);
    ordered = t.ordered;
  }
