-- The tables stand for what is read of them: the rows and the number.
use Rattle.std.proofs.Common.{◌≡◌, ◌≢◌, ◌⊎◌, inl, inr, ℕ, List, [], ◌∷◌, Bool, true, false, Option, Some, None, option_map, refl, sym, ap, subst, ◌∙◌, codes}
use Rattle.std.specs.Prelude.{if◌then◌else◌}
use Rattle.std.specs.List.{fold}
use Rattle.std.specs.List.Sorted.{IsStrictlySortedBy}
use Rattle.std.specs.Str.{bytes_eq}
use Rattle.std.proofs.lemmas.Slice.Eq.{bytes_eq-Decides}
use Rattle.bucket_map.proofs.Entries.{same_or_not, found_put_same, found_put_other, ordered_put}
use Rattle.content_rows.proofs.CellLemmas.{cell_cmp_exact, cell_cmp_total}
use Rattle.content_rows.specs.CellOrder.{cell_cmp}
use Rattle.content_rows.specs.declared.cell.Cell.{Cell}
use Rattle.content_rows.specs.declared.row.Row.{Row}
use Rattle.indexed_rows.specs.Rows.{InOrder, row_at, with_row}
use Rattle.keeper_sqlite.proofs.CellNames.{row_is_of, no_head}
use Rattle.keeper_sqlite.proofs.Lines.{no_rows}
use Rattle.keeper_sqlite.specs.Bodies.{row_of, with_entry_of}
use Rattle.keeper_sqlite.specs.Found.{with_line, with_rows, nothing_held, AreRows}
use Rattle.keeper_sqlite.specs.Numbers.{head_in}
use Rattle.keeper_sqlite.specs.Standing.{SaysRow, SaysNumber, IsOfSite, HasRows}
use Rattle.site_keeper.specs.declared.stored.Stored.{Stored}
use Rattle.sqlite_rules.specs.Lists.{Has}
use Rattle.store_six.specs.Tables.{Entry, Entries, AreKeyed}

some_same : {X : Type 0} (a b : X) → Some a ≡ Some b → a ≡ b
some_same a b h = cc

no_some : {X : Type 0} (x : X) → None ≡ Some x → ⊥
no_some x h = cc

-- ---- one line

-- an entry is read as the number, or as a row
abbrev Step : Stored → Entry → Stored → Type 0
Step before e after =
    ((n : ℕ) × SaysNumber e n × (after ≡ record before { head = n }))
    ⊎ ((c : Cell) × (r : Row) × SaysRow e c r × (after ≡ record before { rows = with_row before.rows c r }))

module _ (before : Stored) (e : Entry) (after : Stored) where
  as_number : (o : Option ℕ) → e.0 ≡ codes "head" → head_in e.1 ≡ o → option_map (λ (n : ℕ). record before { head = n }) o ≡ Some after → Step before e after
  as_number None key is h = absurd (no_some after h)
  as_number (Some n) key is h = inl (n, (key, is), sym (some_same _ after h))

  as_row : (o : Option (Cell × Row)) → row_of e.0 e.1 ≡ o → option_map (λ (row : Cell × Row). record before { rows = with_row before.rows row.0 row.1 }) o ≡ Some after → Step before e after
  as_row None is h = absurd (no_some after h)
  as_row (Some row) is h = inr (row.0, row.1, is, sym (some_same _ after h))

  by_key : (b : Bool) → bytes_eq e.0 (codes "head") ≡ b
      → (if b then option_map (λ (n : ℕ). record before { head = n }) (head_in e.1) else option_map (λ (row : Cell × Row). record before { rows = with_row before.rows row.0 row.1 }) (row_of e.0 e.1)) ≡ Some after
      → Step before e after
  by_key true is h = as_number (head_in e.1) ((bytes_eq-Decides e.0 (codes "head")).0 is) refl h
  by_key false is h = as_row (row_of e.0 e.1) refl h

  step_of : with_entry_of before e.0 e.1 ≡ Some after → Step before e after
  step_of h = by_key (bytes_eq e.0 (codes "head")) refl h

pub record Taken (before : Stored) (line : Option Entry) (lines : Entries) (after : Stored) : Type 0 where
  pub entry : Entry
  pub mid : Stored
  pub is : line ≡ Some entry
  pub step : Step before entry mid
  pub rest : with_rows mid lines ≡ Some after

taken_by : (before : Stored) (e : Entry) (lines : Entries) (after : Stored) (o : Option Stored) → with_entry_of before e.0 e.1 ≡ o → fold with_line o lines ≡ Some after → Taken before (Some e) lines after
taken_by before e lines after None is h = absurd (no_some after (sym (no_rows lines) ∙ h))
taken_by before e lines after (Some mid) is h = record { entry = e; mid = mid; is = refl; step = step_of before e mid is; rest = h }

taken : (before : Stored) (line : Option Entry) (lines : Entries) (after : Stored) → with_rows before (line ∷ lines) ≡ Some after → Taken before line lines after
taken before None lines after h = absurd (no_some after (sym (no_rows lines) ∙ h))
taken before (Some e) lines after h = taken_by before e lines after (with_entry_of before e.0 e.1) refl h

-- ---- the rows at a cell

-- those before a step, and those after it
row_before : (before : Stored) (e : Entry) (mid : Stored) (c : Cell) (r : Row) → Step before e mid → row_at mid.rows c ≡ Some r → (row_at before.rows c ≡ Some r) ⊎ SaysRow e c r
row_before before e mid c r step found = elim step [
  | inl number ↦ inl (sym (ap (λ (s : Stored). row_at s.rows c) number.2) ∙ found)
  | inr row ↦
      let now : row_at (with_row before.rows row.0 row.1) c ≡ Some r = sym (ap (λ (s : Stored). row_at s.rows c) row.3) ∙ found in
      elim (same_or_not cell_cmp cell_cmp_total cell_cmp_exact c row.0) [
        | inl same ↦
            let put : Some row.1 ≡ Some r = sym (found_put_same cell_cmp cell_cmp_total cell_cmp_exact before.rows row.0 row.1) ∙ sym (ap (λ (x : Cell). row_at (with_row before.rows row.0 row.1) x) same) ∙ now in
            inr (row.2 ∙ ap (λ (x : Cell). Some (x, row.1)) (sym same) ∙ ap (λ (x : Row). Some (c, x)) (some_same row.1 r put))
        | inr other ↦ inl (sym (found_put_other cell_cmp cell_cmp_total cell_cmp_exact before.rows row.0 row.1 c other) ∙ now)
      ]
]

row_after : (before : Stored) (e : Entry) (mid : Stored) (c : Cell) (r : Row) → Step before e mid → row_at before.rows c ≡ Some r → ((q : Row) → SaysRow e c q → q ≡ r) → row_at mid.rows c ≡ Some r
row_after before e mid c r step found only = elim step [
  | inl number ↦ ap (λ (s : Stored). row_at s.rows c) number.2 ∙ found
  | inr row ↦
      ap (λ (s : Stored). row_at s.rows c) row.3
      ∙ elim (same_or_not cell_cmp cell_cmp_total cell_cmp_exact c row.0) as (λ _. row_at (with_row before.rows row.0 row.1) c ≡ Some r) [
        | inl same ↦
            let is : row.1 ≡ r = only row.1 (row.2 ∙ ap (λ (x : Cell). Some (x, row.1)) (sym same)) in
            ap (λ (x : Cell). row_at (with_row before.rows row.0 row.1) x) same ∙ found_put_same cell_cmp cell_cmp_total cell_cmp_exact before.rows row.0 row.1 ∙ ap Some is
        | inr other ↦ found_put_other cell_cmp cell_cmp_total cell_cmp_exact before.rows row.0 row.1 c other ∙ found
      ]
]

row_from : (lines : Entries) (before after : Stored) → with_rows before lines ≡ Some after → (c : Cell) (r : Row) → row_at after.rows c ≡ Some r → (row_at before.rows c ≡ Some r) ⊎ ((e : Entry) × Has lines (Some e) × SaysRow e c r)
row_from [] before after h c r found = inl (ap (λ (s : Stored). row_at s.rows c) (some_same before after h) ∙ found)
row_from (line ∷ lines) before after h c r found =
    let it = taken before line lines after h in
    elim (row_from lines it.mid after it.rest c r found) [
      | inl mid ↦ elim (row_before before it.entry it.mid c r it.step mid) [ inl was ↦ inl was | inr says ↦ inr (it.entry, inl (sym it.is), says) ]
      | inr later ↦ inr (later.0, inr later.1, later.2)
    ]

row_stays : (lines : Entries) (before after : Stored) → with_rows before lines ≡ Some after → (c : Cell) (r : Row) → row_at before.rows c ≡ Some r → ((e : Entry) → Has lines (Some e) → (q : Row) → SaysRow e c q → q ≡ r) → row_at after.rows c ≡ Some r
row_stays [] before after h c r found only = sym (ap (λ (s : Stored). row_at s.rows c) (some_same before after h)) ∙ found
row_stays (line ∷ lines) before after h c r found only =
    let it = taken before line lines after h in
    row_stays lines it.mid after it.rest c r (row_after before it.entry it.mid c r it.step found (only it.entry (inl (sym it.is)))) (λ e there. only e (inr there))

-- ---- the number

number_before : (before : Stored) (e : Entry) (mid : Stored) → Step before e mid → (mid.head ≡ before.head) ⊎ SaysNumber e mid.head
number_before before e mid step = elim step [
  | inl number ↦ inr (number.1.0, number.1.1 ∙ ap Some (sym (ap (λ (s : Stored). s.head) number.2)))
  | inr row ↦ inl (ap (λ (s : Stored). s.head) row.3)
]

number_from : (lines : Entries) (before after : Stored) → with_rows before lines ≡ Some after → (after.head ≡ before.head) ⊎ ((e : Entry) × Has lines (Some e) × SaysNumber e after.head)
number_from [] before after h = inl (ap (λ (s : Stored). s.head) (sym (some_same before after h)))
number_from (line ∷ lines) before after h =
    let it = taken before line lines after h in
    elim (number_from lines it.mid after it.rest) [
      | inl same ↦ elim (number_before before it.entry it.mid it.step) [
        | inl was ↦ inl (same ∙ was)
        | inr says ↦ inr (it.entry, inl (sym it.is), (says.0, says.1 ∙ ap Some (sym same)))
      ]
      | inr later ↦ inr (later.0, inr later.1, later.2)
    ]

number_stays : (lines : Entries) (before after : Stored) → with_rows before lines ≡ Some after → (n : ℕ) → before.head ≡ n → ((e : Entry) → Has lines (Some e) → (m : ℕ) → SaysNumber e m → m ≡ n) → after.head ≡ n
number_stays [] before after h n is only = ap (λ (s : Stored). s.head) (sym (some_same before after h)) ∙ is
number_stays (line ∷ lines) before after h n is only =
    let it = taken before line lines after h in
    number_stays lines it.mid after it.rest n
    (elim (number_before before it.entry it.mid it.step) [ inl was ↦ was ∙ is | inr says ↦ only it.entry (inl (sym it.is)) it.mid.head says ])
    (λ e there. only e (inr there))

-- ---- each entry

-- one body stands under a key
one_row : (lines : Entries) → AreKeyed lines → (a b : Entry) → Has lines (Some a) → Has lines (Some b) → (c : Cell) (q r : Row) → SaysRow a c q → SaysRow b c r → q ≡ r
one_row lines keyed a b here there c q r first second =
    let key : a.0 ≡ b.0 = (row_is_of a.0 a.1 (c, q) first).key_is ∙ sym (row_is_of b.0 b.1 (c, r) second).key_is in
    let body : a.1 ≡ b.1 = keyed b.0 a.1 b.1 (subst (λ k. Has lines (Some (k, a.1))) key here) there in
    let both : Some (c, q) ≡ Some (c, r) = sym first ∙ ap (λ k. row_of k a.1) key ∙ ap (λ t. row_of b.0 t) body ∙ second in
    ap (λ (x : Cell × Row). x.1) (some_same (c, q) (c, r) both)

one_number : (lines : Entries) → AreKeyed lines → (a b : Entry) → Has lines (Some a) → Has lines (Some b) → (m n : ℕ) → SaysNumber a m → SaysNumber b n → m ≡ n
one_number lines keyed a b here there m n first second =
    let key : a.0 ≡ b.0 = first.0 ∙ sym second.0 in
    let body : a.1 ≡ b.1 = keyed b.0 a.1 b.1 (subst (λ k. Has lines (Some (k, a.1))) key here) there in
    some_same m n (sym first.1 ∙ ap (λ t. head_in t) body ∙ second.1)

keyed_rest : (line : Option Entry) (lines : Entries) → AreKeyed (line ∷ lines) → AreKeyed lines
keyed_rest line lines keyed key a b here there = keyed key a b (inr here) (inr there)

module _ (line : Option Entry) (lines : Entries) (before after : Stored) (it : Taken before line lines after) (keyed : AreKeyed (line ∷ lines)) where
  first_in : IsOfSite after.rows after.head it.entry
  first_in = elim it.step [
    | inl number ↦
        let stays = number_stays lines it.mid after it.rest number.0 (ap (λ (s : Stored). s.head) number.2) (λ e there m says. one_number (line ∷ lines) keyed e it.entry (inr there) (inl (sym it.is)) m number.0 says number.1) in
        inr (number.1.0, number.1.1 ∙ ap Some (sym stays))
    | inr row ↦
        let put : row_at it.mid.rows row.0 ≡ Some row.1 = ap (λ (s : Stored). row_at s.rows row.0) row.3 ∙ found_put_same cell_cmp cell_cmp_total cell_cmp_exact before.rows row.0 row.1 in
        inl (row.0, row.1, row.2, row_stays lines it.mid after it.rest row.0 row.1 put (λ e there q says. one_row (line ∷ lines) keyed e it.entry (inr there) (inl (sym it.is)) row.0 q row.1 says row.2))
  ]

each_in : (lines : Entries) (before after : Stored) → with_rows before lines ≡ Some after → AreKeyed lines → (e : Entry) → Has lines (Some e) → IsOfSite after.rows after.head e
each_in [] before after h keyed e there = absurd there
each_in (line ∷ lines) before after h keyed e there =
    let it = taken before line lines after h in
    elim there [
      | inl here ↦ subst (λ (x : Entry). IsOfSite after.rows after.head x) (sym (some_same e it.entry (here ∙ it.is))) (first_in line lines before after it keyed)
      | inr later ↦ each_in lines it.mid after it.rest (keyed_rest line lines keyed) e later
    ]

all_read : (lines : Entries) (before after : Stored) → with_rows before lines ≡ Some after → Has lines None → ⊥
all_read [] before after h there = there
all_read (line ∷ lines) before after h there =
    let it = taken before line lines after h in
    elim there [ inl here ↦ no_some it.entry (here ∙ it.is) | inr later ↦ all_read lines it.mid after it.rest later ]

-- ---- the order, and the counts

step_ordered : (before : Stored) (e : Entry) (mid : Stored) → Step before e mid → InOrder before.rows → InOrder mid.rows
step_ordered before e mid step ordered = elim step [
  | inl number ↦ subst (λ (s : Stored). InOrder s.rows) (sym number.2) ordered
  | inr row ↦ subst (λ (s : Stored). InOrder s.rows) (sym row.3) (ordered_put cell_cmp cell_cmp_total cell_cmp_exact before.rows row.0 row.1 ordered)
]

stays_ordered : (lines : Entries) (before after : Stored) → with_rows before lines ≡ Some after → InOrder before.rows → InOrder after.rows
stays_ordered [] before after h ordered = subst (λ (s : Stored). InOrder s.rows) (some_same before after h) ordered
stays_ordered (line ∷ lines) before after h ordered =
    let it = taken before line lines after h in stays_ordered lines it.mid after it.rest (step_ordered before it.entry it.mid it.step ordered)

step_counts : (before : Stored) (e : Entry) (mid : Stored) → Step before e mid → mid.counts ≡ before.counts
step_counts before e mid step = elim step [ inl number ↦ ap (λ (s : Stored). s.counts) number.2 | inr row ↦ ap (λ (s : Stored). s.counts) row.3 ]

pub same_counts : (lines : Entries) (before after : Stored) → with_rows before lines ≡ Some after → after.counts ≡ before.counts
same_counts [] before after h = ap (λ (s : Stored). s.counts) (sym (some_same before after h))
same_counts (line ∷ lines) before after h =
    let it = taken before line lines after h in same_counts lines it.mid after it.rest ∙ step_counts before it.entry it.mid it.step

-- ---- the table

pub no_order : InOrder []
unfolding IsStrictlySortedBy
no_order = tt

pub rows_stand : (table : Entries) (after : Stored) → AreRows table nothing_held (Some after) → HasRows table after.rows after.head
rows_stand table after read = record {
  only = λ e there. each_in read.lines nothing_held after read.are keyed e (read.all.complete (Some e) there);
  all = λ c r found. elim (row_from read.lines nothing_held after read.are c r found) [
    | inl none ↦ absurd (no_some r none)
    | inr it ↦ (it.0, read.all.sound (Some it.0) it.1, it.2)
  ];
  numbered = elim (number_from read.lines nothing_held after read.are) [
    | inl same ↦ inl same
    | inr it ↦ inr (it.0, read.all.sound (Some it.0) it.1, it.2)
  ];
  readable = λ none. all_read read.lines nothing_held after read.are (read.all.complete None none);
  ordered = stays_ordered read.lines nothing_held after read.are no_order;
}
  where
    keyed : AreKeyed read.lines
    keyed key a b here there = read.all.keyed key a b (read.all.sound (Some (key, a)) here) (read.all.sound (Some (key, b)) there)

-- ---- a table that can't be read

abbrev IsReadable : Entry → Type 0
IsReadable e = ((n : ℕ) × SaysNumber e n) ⊎ ((c : Cell) × (r : Row) × SaysRow e c r)

if_true : {X : Type 0} (b : Bool) (x y : X) → b ≡ true → (if b then x else y) ≡ x
if_true true x y h = refl
if_true false x y h = absurd cc

if_false : {X : Type 0} (b : Bool) (x y : X) → (b ≡ true → ⊥) → (if b then x else y) ≡ y
if_false true x y h = absurd (h refl)
if_false false x y h = refl

reads_on : (before : Stored) (e : Entry) → IsReadable e → (mid : Stored) × (with_entry_of before e.0 e.1 ≡ Some mid)
reads_on before e readable = elim readable [
  | inl number ↦ (
    record before { head = number.0 },
    if_true (bytes_eq e.0 (codes "head")) (option_map (λ (n : ℕ). record before { head = n }) (head_in e.1)) (option_map (λ (row : Cell × Row). record before { rows = with_row before.rows row.0 row.1 }) (row_of e.0 e.1)) ((bytes_eq-Decides e.0 (codes "head")).1 number.1.0)
        ∙ ap (option_map (λ (n : ℕ). record before { head = n })) number.1.1,
  )
  | inr row ↦ (
    record before { rows = with_row before.rows row.0 row.1 },
    if_false (bytes_eq e.0 (codes "head")) (option_map (λ (n : ℕ). record before { head = n }) (head_in e.1)) (option_map (λ (row : Cell × Row). record before { rows = with_row before.rows row.0 row.1 }) (row_of e.0 e.1))
        (λ is. let of = row_is_of e.0 e.1 (row.0, row.1) row.2 in no_head row.0 of.sound (sym of.key_is ∙ (bytes_eq-Decides e.0 (codes "head")).0 is))
        ∙ ap (option_map (λ (row : Cell × Row). record before { rows = with_row before.rows row.0 row.1 })) row.2,
  )
]

never_none : (lines : Entries) (before : Stored) → ((line : Option Entry) → Has lines line → (e : Entry) × (line ≡ Some e) × IsReadable e) → with_rows before lines ≡ None → ⊥
never_none [] before each h = no_some before (sym h)
never_none (line ∷ lines) before each h =
    let it = each line (inl refl) in
    let on = reads_on before it.0 it.2 in
    never_none lines on.0 (λ later there. each later (inr there))
    (sym (ap (λ o. fold with_line o lines) on.1) ∙ sym (ap (λ (l : Option Entry). fold with_line (with_line (Some before) l) lines) it.1) ∙ h)

readable_line : (table : Entries) (rows : List (Cell × Row)) (number : ℕ) → HasRows table rows number → (line : Option Entry) → Has table line → (e : Entry) × (line ≡ Some e) × IsReadable e
readable_line table rows number have None there = absurd (have.readable there)
readable_line table rows number have (Some e) there =
    (e, refl, elim (have.only e there) [ inl row ↦ inr (row.0, row.1, row.2) | inr says ↦ inl (number, says) ])

pub rows_are_read : (table : Entries) (rows : List (Cell × Row)) (number : ℕ) → HasRows table rows number → (before : Stored) → AreRows table before None → ⊥
rows_are_read table rows number have before read =
    never_none read.lines before (λ line there. readable_line table rows number have line (read.all.sound line there)) read.are
