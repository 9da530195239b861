-- In which bucket the count of a tag stands.
use Rattle.std.specs.Prelude.{ℕ, ◌≡◌, ◌<◌, ◌%◌, sum}
use Rattle.std.specs.declared.cmp.Ordering.TheVariants.{Equal}
use Rattle.std.proofs.Common.{rules}
use Rattle.std.proofs.lemmas.Map.Lookups.{exact_bytes}
use Rattle.cacheability.specs.declared.tag.Tag.{Tag}
use Rattle.cacheability.specs.Tag.{tag_text, tag_cmp}
use Rattle.cacheability.proofs.Texts.{tags_apart}

-- the sum of the bytes of its text, modulo 1,024
abbrev pub tag_place : Tag → ℕ
tag_place tag = sum (tag_text tag) % 1024

pub tag_place_within : (t : Tag) → tag_place t < 1024
tag_place_within t = search rules

-- tags that are level are the same
pub same_tags : (a b : Tag) → tag_cmp a b ≡ Equal → a ≡ b
same_tags a b level = tags_apart a b (exact_bytes (tag_text a) (tag_text b) level)
