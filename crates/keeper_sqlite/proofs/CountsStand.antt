-- What a batch does to the counts that the table of tags stands for.
use Rattle.std.proofs.Common.{◌≡◌, ◌≢◌, ◌⊎◌, inl, inr, ℕ, List, [], ◌∷◌, Option, Some, None, refl, sym, ap, subst, ◌∙◌}
use Rattle.std.specs.Cmp.{IsTotalOrder}
use Rattle.std.specs.Cmp.Lexicographic.{on_texts}
use Rattle.std.specs.List.{fold}
use Rattle.bucket_map.proofs.Entries.{same_or_not, found_put_same, found_put_other, ordered_put}
use Rattle.cacheability.specs.Tag.{tag_text, tag_cmp}
use Rattle.cacheability.specs.declared.tag.Tag.{Tag}
use Rattle.keeper_sqlite.proofs.TagTexts.{tag_told}
use Rattle.keeper_sqlite.specs.Batches.{SetsCount, InTurn}
use Rattle.keeper_sqlite.specs.Numbers.{count_in}
use Rattle.keeper_sqlite.specs.Standing.{SaysCount, IsOfCounts, HasCounts, count_at}
use Rattle.keeper_sqlite.specs.Tags.{tag_of}
use Rattle.site_keeper.specs.Keeper.{with_entry}
use Rattle.sqlite_rules.specs.Lists.{Has}
use Rattle.store_six.specs.Tables.{Entry, Entries, Tables, IsSet}
use Rattle.tag_counts.proofs.Tags.{tag_cmp_exact}
use Rattle.tag_counts.specs.Counts.{with_count}

pub total : IsTotalOrder tag_cmp
total = on_texts tag_text

some_same : {X : Type 0} (a b : X) → Some a ≡ Some b → a ≡ b
some_same a b h = cc

module _ (old new : Entries) (counts : List (Tag × ℕ)) (tag : Tag) (n : ℕ) (bytes : List ℕ) (back : tag_of (tag_text tag) ≡ Some tag) (is : count_in bytes ≡ Some n)
    (set : IsSet (tag_text tag) bytes old new) where
  put_only : HasCounts old counts → (e : Entry) → Has new (Some e) → IsOfCounts (with_count counts tag n) e
  put_only have e there = elim (set.only e there) [
    | inl same ↦ (tag, n, (ap (λ (x : Entry). tag_of x.0) same ∙ back, ap (λ (x : Entry). count_in x.1) same ∙ is), found_put_same tag_cmp total tag_cmp_exact counts tag n)
    | inr other ↦
        let it = have.only e other.0 in
        (it.0, it.1, it.2, found_put_other tag_cmp total tag_cmp_exact counts tag n it.0 (λ same. other.1 (sym (tag_told e.0 it.0 it.2.0) ∙ ap (λ (t : Tag). tag_text t) same)) ∙ it.3)
  ]

  put_all : HasCounts old counts → (t : Tag) (m : ℕ) → count_at (with_count counts tag n) t ≡ Some m → (e : Entry) × Has new (Some e) × SaysCount e t m
  put_all have t m found = elim (same_or_not tag_cmp total tag_cmp_exact t tag) [
    | inl same ↦
        let now : Some n ≡ Some m = sym (found_put_same tag_cmp total tag_cmp_exact counts tag n) ∙ sym (ap (λ (x : Tag). count_at (with_count counts tag n) x) same) ∙ found in
        ((tag_text tag, bytes), set.there, (back ∙ ap Some (sym same), is ∙ now))
    | inr other ↦
        let it = have.all t m (sym (found_put_other tag_cmp total tag_cmp_exact counts tag n t other) ∙ found) in
        (it.0, set.others it.0 (λ key. other (some_same t tag (sym it.2.0 ∙ ap (λ (x : List ℕ). tag_of x) key ∙ back))) it.1, it.2)
  ]

  pub count_put : HasCounts old counts → HasCounts new (with_count counts tag n)
  count_put have = record {
    only = put_only have;
    all = put_all have;
    readable = λ none. have.readable (set.unread none);
    ordered = ordered_put tag_cmp total tag_cmp_exact counts tag n have.ordered;
  }

pub counts_set : (entries : List (Tag × ℕ)) (old new : Tables) (counts : List (Tag × ℕ)) → InTurn SetsCount entries old new → HasCounts old.tags counts → HasCounts new.tags (fold with_entry counts entries)
counts_set [] old new counts same have = subst (λ (x : Tables). HasCounts x.tags counts) (sym same) have
counts_set (e ∷ es) old new counts set have =
    counts_set es set.0 new (with_entry counts e) set.2 (count_put old.tags set.0.tags counts e.0 e.1 set.1.0 set.1.1 set.1.2 set.1.3.tags have)

pub counts_keep_cells : (entries : List (Tag × ℕ)) (old new : Tables) → InTurn SetsCount entries old new → new.cells ≡ old.cells
counts_keep_cells [] old new same = ap (λ (x : Tables). x.cells) same
counts_keep_cells (e ∷ es) old new set = counts_keep_cells es set.0 new set.2 ∙ set.1.3.cells
