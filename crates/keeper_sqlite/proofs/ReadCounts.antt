-- The tables stand for what is read of them: the counts.
use Rattle.std.proofs.Common.{◌≡◌, ◌≢◌, ◌⊎◌, inl, inr, ℕ, List, [], ◌∷◌, Option, Some, None, refl, sym, ap, subst, ◌∙◌}
use Rattle.std.specs.Cmp.{IsTotalOrder}
use Rattle.std.specs.Cmp.Lexicographic.{on_texts}
use Rattle.std.specs.List.{fold}
use Rattle.std.specs.List.Sorted.{IsStrictlySortedBy}
use Rattle.bucket_map.proofs.Entries.{same_or_not, found_put_same, found_put_other, ordered_put}
use Rattle.cacheability.specs.Tag.{tag_text, tag_cmp}
use Rattle.cacheability.specs.declared.tag.Tag.{Tag}
use Rattle.keeper_sqlite.proofs.Lines.{no_counts}
use Rattle.keeper_sqlite.proofs.TagTexts.{tag_told}
use Rattle.keeper_sqlite.specs.Bodies.{with_count_told, with_tag_of}
use Rattle.keeper_sqlite.specs.Found.{with_tag_line, with_tags, AreCounts}
use Rattle.keeper_sqlite.specs.Numbers.{count_in}
use Rattle.keeper_sqlite.specs.Standing.{SaysCount, IsOfCounts, HasCounts, count_at}
use Rattle.keeper_sqlite.specs.Tags.{tag_of}
use Rattle.sqlite_rules.specs.Lists.{Has}
use Rattle.store_six.specs.Tables.{Entry, Entries, AreKeyed}
use Rattle.tag_counts.proofs.Tags.{tag_cmp_exact}
use Rattle.tag_counts.specs.Counts.{IsInOrder, with_count}

total : IsTotalOrder tag_cmp
total = on_texts tag_text

abbrev Counts : Type 0
Counts = List (Tag × ℕ)

some_same : {X : Type 0} (a b : X) → Some a ≡ Some b → a ≡ b
some_same a b h = cc

no_some : {X : Type 0} (x : X) → None ≡ Some x → ⊥
no_some x h = cc

-- ---- one line

pub record Step (before : Counts) (e : Entry) (after : Counts) : Type 0 where
  pub tag : Tag
  pub n : ℕ
  pub says : SaysCount e tag n
  pub is : after ≡ with_count before tag n

step_by : (before : Counts) (e : Entry) (after : Counts) (tag : Option Tag) (n : Option ℕ) → tag_of e.0 ≡ tag → count_in e.1 ≡ n → with_count_told before tag n ≡ Some after → Step before e after
step_by before e after (Some tag) (Some n) named counted h = record { tag = tag; n = n; says = (named, counted); is = sym (some_same _ after h) }
step_by before e after (Some tag) None named counted h = absurd (no_some after h)
step_by before e after None n named counted h = absurd (no_some after h)

pub record Taken (before : Counts) (line : Option Entry) (lines : Entries) (after : Counts) : Type 0 where
  pub entry : Entry
  pub mid : Counts
  pub is : line ≡ Some entry
  pub step : Step before entry mid
  pub rest : with_tags mid lines ≡ Some after

taken_by : (before : Counts) (e : Entry) (lines : Entries) (after : Counts) (o : Option Counts) → with_tag_of before e.0 e.1 ≡ o → fold with_tag_line o lines ≡ Some after → Taken before (Some e) lines after
taken_by before e lines after None is h = absurd (no_some after (sym (no_counts lines) ∙ h))
taken_by before e lines after (Some mid) is h =
    record { entry = e; mid = mid; is = refl; step = step_by before e mid (tag_of e.0) (count_in e.1) refl refl is; rest = h }

taken : (before : Counts) (line : Option Entry) (lines : Entries) (after : Counts) → with_tags before (line ∷ lines) ≡ Some after → Taken before line lines after
taken before None lines after h = absurd (no_some after (sym (no_counts lines) ∙ h))
taken before (Some e) lines after h = taken_by before e lines after (with_tag_of before e.0 e.1) refl h

-- ---- the counts of a tag

count_before : (before : Counts) (e : Entry) (mid : Counts) (t : Tag) (n : ℕ) → Step before e mid → count_at mid t ≡ Some n → (count_at before t ≡ Some n) ⊎ SaysCount e t n
count_before before e mid t n step found =
    let now : count_at (with_count before step.tag step.n) t ≡ Some n = sym (ap (λ (c : Counts). count_at c t) step.is) ∙ found in
    elim (same_or_not tag_cmp total tag_cmp_exact t step.tag) [
      | inl same ↦
          let put : Some step.n ≡ Some n = sym (found_put_same tag_cmp total tag_cmp_exact before step.tag step.n) ∙ sym (ap (λ (x : Tag). count_at (with_count before step.tag step.n) x) same) ∙ now in
          inr (step.says.0 ∙ ap Some (sym same), step.says.1 ∙ put)
      | inr other ↦ inl (sym (found_put_other tag_cmp total tag_cmp_exact before step.tag step.n t other) ∙ now)
    ]

count_after : (before : Counts) (e : Entry) (mid : Counts) (t : Tag) (n : ℕ) → Step before e mid → count_at before t ≡ Some n → ((m : ℕ) → SaysCount e t m → m ≡ n) → count_at mid t ≡ Some n
count_after before e mid t n step found only =
    ap (λ (c : Counts). count_at c t) step.is
    ∙ elim (same_or_not tag_cmp total tag_cmp_exact t step.tag) as (λ _. count_at (with_count before step.tag step.n) t ≡ Some n) [
      | inl same ↦
          let is : step.n ≡ n = only step.n (step.says.0 ∙ ap Some (sym same), step.says.1) in
          ap (λ (x : Tag). count_at (with_count before step.tag step.n) x) same ∙ found_put_same tag_cmp total tag_cmp_exact before step.tag step.n ∙ ap Some is
      | inr other ↦ found_put_other tag_cmp total tag_cmp_exact before step.tag step.n t other ∙ found
    ]

count_from : (lines : Entries) (before after : Counts) → with_tags before lines ≡ Some after → (t : Tag) (n : ℕ) → count_at after t ≡ Some n → (count_at before t ≡ Some n) ⊎ ((e : Entry) × Has lines (Some e) × SaysCount e t n)
count_from [] before after h t n found = inl (ap (λ (c : Counts). count_at c t) (some_same before after h) ∙ found)
count_from (line ∷ lines) before after h t n found =
    let it = taken before line lines after h in
    elim (count_from lines it.mid after it.rest t n found) [
      | inl mid ↦ elim (count_before before it.entry it.mid t n it.step mid) [ inl was ↦ inl was | inr says ↦ inr (it.entry, inl (sym it.is), says) ]
      | inr later ↦ inr (later.0, inr later.1, later.2)
    ]

count_stays : (lines : Entries) (before after : Counts) → with_tags before lines ≡ Some after → (t : Tag) (n : ℕ) → count_at before t ≡ Some n → ((e : Entry) → Has lines (Some e) → (m : ℕ) → SaysCount e t m → m ≡ n) → count_at after t ≡ Some n
count_stays [] before after h t n found only = sym (ap (λ (c : Counts). count_at c t) (some_same before after h)) ∙ found
count_stays (line ∷ lines) before after h t n found only =
    let it = taken before line lines after h in
    count_stays lines it.mid after it.rest t n (count_after before it.entry it.mid t n it.step found (only it.entry (inl (sym it.is)))) (λ e there. only e (inr there))

-- ---- each entry

-- one count stands under a key
one_count : (lines : Entries) → AreKeyed lines → (a b : Entry) → Has lines (Some a) → Has lines (Some b) → (t : Tag) (m n : ℕ) → SaysCount a t m → SaysCount b t n → m ≡ n
one_count lines keyed a b here there t m n first second =
    let key : a.0 ≡ b.0 = sym (tag_told a.0 t first.0) ∙ tag_told b.0 t second.0 in
    let bytes : a.1 ≡ b.1 = keyed b.0 a.1 b.1 (subst (λ k. Has lines (Some (k, a.1))) key here) there in
    some_same m n (sym first.1 ∙ ap (λ x. count_in x) bytes ∙ second.1)

keyed_rest : (line : Option Entry) (lines : Entries) → AreKeyed (line ∷ lines) → AreKeyed lines
keyed_rest line lines keyed key a b here there = keyed key a b (inr here) (inr there)

first_in : (line : Option Entry) (lines : Entries) (before after : Counts) (it : Taken before line lines after) → AreKeyed (line ∷ lines) → IsOfCounts after it.entry
first_in line lines before after it keyed =
    let put : count_at it.mid it.step.tag ≡ Some it.step.n = ap (λ (c : Counts). count_at c it.step.tag) it.step.is ∙ found_put_same tag_cmp total tag_cmp_exact before it.step.tag it.step.n in
    (it.step.tag, it.step.n, it.step.says, count_stays lines it.mid after it.rest it.step.tag it.step.n put (λ e there m says. one_count (line ∷ lines) keyed e it.entry (inr there) (inl (sym it.is)) it.step.tag m it.step.n says it.step.says))

each_in : (lines : Entries) (before after : Counts) → with_tags before lines ≡ Some after → AreKeyed lines → (e : Entry) → Has lines (Some e) → IsOfCounts after e
each_in [] before after h keyed e there = absurd there
each_in (line ∷ lines) before after h keyed e there =
    let it = taken before line lines after h in
    elim there [
      | inl here ↦ subst (λ (x : Entry). IsOfCounts after x) (sym (some_same e it.entry (here ∙ it.is))) (first_in line lines before after it keyed)
      | inr later ↦ each_in lines it.mid after it.rest (keyed_rest line lines keyed) e later
    ]

all_read : (lines : Entries) (before after : Counts) → with_tags before lines ≡ Some after → Has lines None → ⊥
all_read [] before after h there = there
all_read (line ∷ lines) before after h there =
    let it = taken before line lines after h in
    elim there [ inl here ↦ no_some it.entry (here ∙ it.is) | inr later ↦ all_read lines it.mid after it.rest later ]

stays_ordered : (lines : Entries) (before after : Counts) → with_tags before lines ≡ Some after → IsInOrder before → IsInOrder after
stays_ordered [] before after h ordered = subst (λ (c : Counts). IsInOrder c) (some_same before after h) ordered
stays_ordered (line ∷ lines) before after h ordered =
    let it = taken before line lines after h in
    stays_ordered lines it.mid after it.rest (subst (λ (c : Counts). IsInOrder c) (sym it.step.is) (ordered_put tag_cmp total tag_cmp_exact before it.step.tag it.step.n ordered))

-- ---- the table

pub no_order : IsInOrder []
unfolding IsStrictlySortedBy
no_order = tt

pub counts_stand : (table : Entries) (after : Counts) → AreCounts table [] (Some after) → HasCounts table after
counts_stand table after read = record {
  only = λ e there. each_in read.lines [] after read.are keyed e (read.all.complete (Some e) there);
  all = λ t n found. elim (count_from read.lines [] after read.are t n found) [
    | inl none ↦ absurd (no_some n none)
    | inr it ↦ (it.0, read.all.sound (Some it.0) it.1, it.2)
  ];
  readable = λ none. all_read read.lines [] after read.are (read.all.complete None none);
  ordered = stays_ordered read.lines [] after read.are no_order;
}
  where
    keyed : AreKeyed read.lines
    keyed key a b here there = read.all.keyed key a b (read.all.sound (Some (key, a)) here) (read.all.sound (Some (key, b)) there)

-- ---- a table that can't be read

never_none : (lines : Entries) (before : Counts) → ((line : Option Entry) → Has lines line → (e : Entry) × (line ≡ Some e) × ((t : Tag) × (n : ℕ) × SaysCount e t n)) → with_tags before lines ≡ None → ⊥
never_none [] before each h = no_some before (sym h)
never_none (line ∷ lines) before each h =
    let it = each line (inl refl) in
    let on : with_tag_of before it.0.0 it.0.1 ≡ Some (with_count before it.2.0 it.2.1) =
    ap (λ t. with_count_told before t (count_in it.0.1)) it.2.2.0 ∙ ap (λ n. with_count_told before (Some it.2.0) n) it.2.2.1 in
    never_none lines (with_count before it.2.0 it.2.1) (λ later there. each later (inr there))
    (sym (ap (λ o. fold with_tag_line o lines) on) ∙ sym (ap (λ (l : Option Entry). fold with_tag_line (with_tag_line (Some before) l) lines) it.1) ∙ h)

readable_line : (table : Entries) (counts : Counts) → HasCounts table counts → (line : Option Entry) → Has table line → (e : Entry) × (line ≡ Some e) × ((t : Tag) × (n : ℕ) × SaysCount e t n)
readable_line table counts have None there = absurd (have.readable there)
readable_line table counts have (Some e) there = let it = have.only e there in (e, refl, (it.0, it.1, it.2))

pub counts_are_read : (table : Entries) (counts : Counts) → HasCounts table counts → (before : Counts) → AreCounts table before None → ⊥
counts_are_read table counts have before read =
    never_none read.lines before (λ line there. readable_line table counts have line (read.all.sound line there)) read.are
