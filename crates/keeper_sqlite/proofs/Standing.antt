-- The laws of what tables stand for.
use Rattle.std.proofs.Common.{◌≡◌, ◌≢◌, ◌⊎◌, inl, inr, ℕ, List, [], ◌∷◌, ◌++◌, Option, Some, None, refl, sym, ap, subst, ◌∙◌, codes}
use Rattle.std.specs.List.{fold}
use Rattle.std.proofs.lemmas.List.Sums.{fold-append}
use Rattle.content_rows.proofs.CellLemmas.{cell_cmp_exact, cell_cmp_total}
use Rattle.content_rows.specs.CellOrder.{cell_cmp}
use Rattle.content_rows.specs.declared.cell.Cell.{Cell}
use Rattle.content_rows.specs.declared.row.Row.{Row}
use Rattle.cacheability.specs.Tag.{tag_text, tag_cmp}
use Rattle.cacheability.specs.declared.tag.Tag.{Tag}
use Rattle.indexed_rows.specs.Rows.{AreValidRows, InOrder, row_at}
use Rattle.indexed_rows.specs.Write.{written}
use Rattle.keeper_sqlite.proofs.CellNames.{row_is_of, no_head}
use Rattle.keeper_sqlite.proofs.CountsStand.{total, counts_set, counts_keep_cells}
use Rattle.keeper_sqlite.proofs.ReadCounts.{counts_stand, counts_are_read}
use Rattle.keeper_sqlite.proofs.ReadCounts.{no_order as no_tags}
use Rattle.keeper_sqlite.proofs.ReadStand.{rows_stand, rows_are_read, same_counts, no_order}
use Rattle.keeper_sqlite.proofs.SameEntries.{same_entries}
use Rattle.keeper_sqlite.proofs.RowsStand.{Tracks, tracked, writes_made, writes_keep_tags, number_set}
use Rattle.keeper_sqlite.specs.Batches.{KeepsBatch}
use Rattle.keeper_sqlite.specs.Bodies.{row_of}
use Rattle.keeper_sqlite.specs.Found.{nothing_held, AreReadAs, AreUnreadable, HaveHead, head_of, AreRows, AreCounts}
use Rattle.keeper_sqlite.specs.Numbers.{head_in, count_in}
use Rattle.keeper_sqlite.specs.Standing.{SaysRow, SaysNumber, IsOfSite, HasRows, HasCounts, StandFor, StandForNothing, StandWith, StandForOne, NewStandForNone, BatchesStand, KeptStands, StandForWhatIsRead, NumberIsRead, count_at}
use Rattle.keeper_sqlite.specs.Tags.{tag_of}
use Rattle.site_keeper.specs.Batch.{Batch}
use Rattle.site_keeper.specs.Keeper.{Kept, held_of, with_batch, with_entry}
use Rattle.site_keeper.specs.declared.stored.Stored.{Stored}
use Rattle.sqlite_rules.specs.Lists.{Has}
use Rattle.store_six.specs.Tables.{Entry, Entries, Tables, entry_of}
use Rattle.table_laws.specs.Moments.{no_entries}
use Rattle.tag_counts.proofs.Tags.{tag_cmp_exact}
use Rattle.tag_counts.specs.Counts.{IsInOrder}

some_same : {X : Type 0} (a b : X) → Some a ≡ Some b → a ≡ b
some_same a b h = cc

no_some : {X : Type 0} (x : X) → None ≡ Some x → ⊥
no_some x h = cc

-- two look-ups that find the same are equal
same_found : {X : Type 0} (o p : Option X) → ((x : X) → o ≡ Some x → p ≡ Some x) → ((x : X) → p ≡ Some x → o ≡ Some x) → o ≡ p
same_found None None to from = refl
same_found (Some x) p to from = sym (to x refl)
same_found None (Some x) to from = from x refl

-- ---- one site

-- an entry that is a row is not the number
row_is_no_number : (e : Entry) (c : Cell) (r : Row) (n : ℕ) → SaysRow e c r → SaysNumber e n → ⊥
row_is_no_number e c r n row number = let of = row_is_of e.0 e.1 (c, r) row in no_head c of.sound (sym of.key_is ∙ number.0)

row_in_both : (table : Entries) (xs ys : List (Cell × Row)) (m n : ℕ) → HasRows table xs m → HasRows table ys n → (c : Cell) (r : Row) → row_at xs c ≡ Some r → row_at ys c ≡ Some r
row_in_both table xs ys m n a b c r found =
    let it = a.all c r found in
    elim (b.only it.0 it.1) [
      | inl row ↦
          let both : (row.0, row.1) ≡ (c, r) = some_same (row.0, row.1) (c, r) (sym row.2 ∙ it.2) in
          subst (λ (p : Cell × Row). row_at ys p.0 ≡ Some p.1) both row.3
      | inr number ↦ absurd (row_is_no_number it.0 c r n it.2 number)
    ]

same_rows : (table : Entries) (xs ys : List (Cell × Row)) (m n : ℕ) → HasRows table xs m → HasRows table ys n → xs ≡ ys
same_rows table xs ys m n a b =
    same_entries cell_cmp cell_cmp_total cell_cmp_exact xs ys a.ordered b.ordered
    (λ c. same_found (row_at xs c) (row_at ys c) (row_in_both table xs ys m n a b c) (row_in_both table ys xs n m b a c))

number_in_both : (table : Entries) (ys : List (Cell × Row)) (m n : ℕ) (e : Entry) → Has table (Some e) → SaysNumber e m → HasRows table ys n → m ≡ n
number_in_both table ys m n e there says b = elim (b.only e there) [
  | inl row ↦ absurd (row_is_no_number e row.0 row.1 m row.2 says)
  | inr number ↦ some_same m n (sym says.1 ∙ number.1)
]

same_number : (table : Entries) (xs ys : List (Cell × Row)) (m n : ℕ) → HasRows table xs m → HasRows table ys n → m ≡ n
same_number table xs ys m n a b = elim a.numbered [
  | inr it ↦ number_in_both table ys m n it.0 it.1 it.2 b
  | inl here ↦ elim b.numbered [
    | inr it ↦ sym (number_in_both table xs n m it.0 it.1 it.2 a)
    | inl there ↦ here ∙ sym there
  ]
]

count_in_both : (table : Entries) (xs ys : List (Tag × ℕ)) → HasCounts table xs → HasCounts table ys → (t : Tag) (n : ℕ) → count_at xs t ≡ Some n → count_at ys t ≡ Some n
count_in_both table xs ys a b t n found =
    let it = a.all t n found in
    let other = b.only it.0 it.1 in
    let tag : other.0 ≡ t = some_same other.0 t (sym other.2.0 ∙ it.2.0) in
    let count : other.1 ≡ n = some_same other.1 n (sym other.2.1 ∙ it.2.1) in
    ap (λ (x : Tag). count_at ys x) (sym tag) ∙ other.3 ∙ ap Some count

same_counted : (table : Entries) (xs ys : List (Tag × ℕ)) → HasCounts table xs → HasCounts table ys → xs ≡ ys
same_counted table xs ys a b =
    same_entries tag_cmp total tag_cmp_exact xs ys a.ordered b.ordered
    (λ t. same_found (count_at xs t) (count_at ys t) (count_in_both table xs ys a b t) (count_in_both table ys xs b a t))

of_parts : List (Cell × Row) → List (Tag × ℕ) → ℕ → Stored
of_parts rows counts head = record { rows = rows; counts = counts; head = head }

same_parts : (a b : Stored) → a.rows ≡ b.rows → a.counts ≡ b.counts → a.head ≡ b.head → a ≡ b
unfolding of_parts
same_parts a b rows counts head =
    ap (λ x. of_parts x a.counts a.head) rows ∙ ap (λ x. of_parts b.rows x a.head) counts ∙ ap (λ x. of_parts b.rows b.counts x) head

pub stand_for_one : StandForOne
stand_for_one t a b first second =
    same_parts a b
    (same_rows t.cells a.rows b.rows a.head b.head first.cells second.cells)
    (same_counted t.tags a.counts b.counts first.tags second.tags)
    (same_number t.cells a.rows b.rows a.head b.head first.cells second.cells)

-- ---- new tables

pub new_stand_for_none : NewStandForNone
new_stand_for_none = record {
  cells = record {
    only = λ e there. absurd there;
    all = λ c r found. absurd (no_some r found);
    numbered = inl refl;
    readable = λ none. none;
    ordered = no_order;
  };
  tags = record {
    only = λ e there. absurd there;
    all = λ t n found. absurd (no_some n found);
    readable = λ none. none;
    ordered = no_tags;
  };
}

-- ---- a batch

pub batches_stand : BatchesStand
unfolding with_batch
batches_stand batch old new keeps held stands right =
    let between = keeps.0 in
    let counted = keeps.2.0 in
    let head = keeps.2.2 in
    let tracks : Tracks between.cells (fold written held.rows batch.commit.writes) =
    writes_made batch.commit.writes old between held.rows keeps.1 (tracked old.cells held.rows held.head stands.cells) in
    let tracks_on : Tracks counted.cells (fold written held.rows batch.commit.writes) =
    subst (λ (x : Entries). Tracks x (fold written held.rows batch.commit.writes)) (sym (counts_keep_cells batch.counts between counted keeps.2.1)) tracks in
    let counts : HasCounts between.tags held.counts =
    subst (λ (x : Entries). HasCounts x held.counts) (sym (writes_keep_tags batch.commit.writes old between keeps.1)) stands.tags in
    let counts_on : HasCounts counted.tags (fold with_entry held.counts batch.counts) =
    counts_set batch.counts between counted held.counts keeps.2.1 counts in
    record {
      cells = number_set counted.cells new.cells (fold written held.rows batch.commit.writes) batch.head head.0 head.1 head.2.cells tracks_on right;
      tags = subst (λ (x : Entries). HasCounts x (fold with_entry held.counts batch.counts)) (sym head.2.tags) counts_on;
    }

pub kept_stands : KeptStands
kept_stands kept batch old new stands keeps right =
    subst (λ (s : Stored). StandFor new s) (sym (fold-append with_batch kept.made_of kept.batches (batch ∷ []))) (batches_stand batch old new keeps (held_of kept) stands right)

-- ---- what is read

read_stands : (t : Tables) (held : Stored) → AreReadAs t held → StandFor t held
read_stands t held read =
    let rows = rows_stand t.cells read.half read.rows in
    let counts = subst (λ (c : List (Tag × ℕ)). AreCounts t.tags c (Some held.counts)) (same_counts read.rows.lines nothing_held read.half read.rows.are) read.counts in
    record {
      cells = subst (λ (n : ℕ). HasRows t.cells held.rows n) (sym read.same.1) (subst (λ (rs : List (Cell × Row)). HasRows t.cells rs read.half.head) (sym read.same.0) rows);
      tags = counts_stand t.tags held.counts counts;
    }

unread_stand : (t : Tables) → AreUnreadable t → StandForNothing t
unread_stand t unread held stands = elim unread [
  | inl rows ↦ rows_are_read t.cells held.rows held.head stands.cells nothing_held rows
  | inr counts ↦ counts_are_read t.tags held.counts stands.tags counts.0.counts counts.2
]

pub stand_for_what_is_read : StandForWhatIsRead
stand_for_what_is_read t = (read_stands t, unread_stand t)

number_of_site : (table : Entries) (rows : List (Cell × Row)) (number : ℕ) (text : List ℕ) → HasRows table rows number → Has table (Some (codes "head", text)) → head_in text ≡ Some number
number_of_site table rows number text have there = elim (have.only (codes "head", text) there) [
  | inl row ↦ absurd (row_is_no_number (codes "head", text) row.0 row.1 number row.2 (refl, absurd (no_head row.0 (row_is_of (codes "head") text (row.0, row.1) row.2).sound (sym (row_is_of (codes "head") text (row.0, row.1) row.2).key_is))))
  | inr says ↦ says.1
]

no_number : (table : Entries) (rows : List (Cell × Row)) (number : ℕ) → HasRows table rows number → ((text : List ℕ) → Has table (Some (codes "head", text)) → ⊥) → number ≡ 0
no_number table rows number have none = elim have.numbered [
  | inl is ↦ is
  | inr it ↦ absurd (none it.0.1 (subst (λ k. Has table (Some (k, it.0.1))) it.2.0 it.1))
]

head_stands : (t : Tables) (held : Stored) (bodies : List (Option (List ℕ))) → StandFor t held → ((text : List ℕ) → Has t.cells (Some (codes "head", text)) → Has bodies (Some text)) → ((beside : Option (List ℕ)) → Has bodies beside → Has t.cells (entry_of (Some (codes "head")) beside))
    → head_of bodies ≡ Some held.head
head_stands t held [] stands complete sound = ap Some (sym (no_number t.cells held.rows held.head stands.cells (λ text there. complete text there)))
head_stands t held (None ∷ more) stands complete sound = absurd (stands.cells.readable (sound None (inl refl)))
head_stands t held (Some text ∷ more) stands complete sound = number_of_site t.cells held.rows held.head text stands.cells (sound (Some text) (inl refl))

pub number_is_read : NumberIsRead
number_is_read t held stands = (
  λ n read. some_same n held.head (sym read.is ∙ head_stands t held read.bodies stands read.beside.complete read.beside.sound),
  λ read. no_some held.head (sym read.is ∙ head_stands t held read.bodies stands read.beside.complete read.beside.sound),
)
