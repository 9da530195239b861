-- How often each cache tag was invalidated: a finite map from tags to numbers, in the order of the tags' texts. What it
-- does not name was never invalidated.
-- https://www.drupal.org/docs/drupal-apis/cache-api/cache-tags
use Rattle.std.specs.Prelude.{ℕ, List, ◌+◌, unwrap_or, sum_by}
use Rattle.std.specs.Map.{lookup, keys_of}
use Rattle.std.specs.BTreeMap.{is_at, insert_entry}
use Rattle.std.specs.List.Sorted.{IsStrictlySortedBy}
use Rattle.cacheability.specs.declared.tag.Tag.{Tag}
use Rattle.cacheability.specs.Tag.{tag_cmp}

-- the count of a tag, 0 where it is absent
abbrev pub count_of : List (Tag × ℕ) → Tag → ℕ
count_of counts tag = unwrap_or (lookup (is_at (tag_cmp tag)) counts) 0

-- the sum of the counts of some tags; a tag that is named twice counts twice
abbrev pub sum_of : List (Tag × ℕ) → List Tag → ℕ
sum_of counts tags = sum_by (count_of counts) tags

-- the counts with one more of a tag
abbrev pub bumped : List (Tag × ℕ) → Tag → List (Tag × ℕ)
bumped counts tag = insert_entry tag_cmp counts tag (count_of counts tag + 1)

-- the counts with that of a tag set
abbrev pub with_count : List (Tag × ℕ) → Tag → ℕ → List (Tag × ℕ)
with_count counts tag count = insert_entry tag_cmp counts tag count

-- each tag stands once, in the order of the tags' texts
abbrev pub IsInOrder : List (Tag × ℕ) → Type 0
IsInOrder counts = IsStrictlySortedBy tag_cmp (keys_of counts)
