-- The count of a tag that was set, and those of the others.
use Rattle.std.proofs.Common.{List, ℕ, ◌≡◌, ◌≢◌, ◌∙◌, ap, subst, sym}
use Rattle.std.specs.Prelude.{unwrap_or}
use Rattle.std.specs.Cmp.{IsTotalOrder}
use Rattle.std.specs.Cmp.Lexicographic.{on_texts}
use Rattle.bucket_map.proofs.Entries.{found_put_same, found_put_other, ordered_put}
use Rattle.cacheability.specs.declared.tag.Tag.{Tag}
use Rattle.cacheability.specs.Tag.{tag_text, tag_cmp}
use Rattle.tag_counts.specs.Counts.{count_of, with_count, IsInOrder}
use Rattle.tag_counts.specs.Key.{same_tags}

total : IsTotalOrder tag_cmp
total = on_texts tag_text

pub count_set : (counts new : List (Tag × ℕ)) (k : Tag) (v : ℕ) → new ≡ with_count counts k v → count_of new k ≡ v
count_set counts new k v is = ap (λ l. count_of l k) is ∙ ap (λ o. unwrap_or o 0) (found_put_same tag_cmp total same_tags counts k v)

pub count_kept : (counts new : List (Tag × ℕ)) (k : Tag) (v : ℕ) → new ≡ with_count counts k v → (q : Tag) → q ≢ k → count_of new q ≡ count_of counts q
count_kept counts new k v is q other = ap (λ l. count_of l q) is ∙ ap (λ o. unwrap_or o 0) (found_put_other tag_cmp total same_tags counts k v q other)

pub order_kept : (counts new : List (Tag × ℕ)) (k : Tag) (v : ℕ) → new ≡ with_count counts k v → IsInOrder counts → IsInOrder new
order_kept counts new k v is ordered = subst (λ l. IsInOrder l) (sym is) (ordered_put tag_cmp total same_tags counts k v ordered)
