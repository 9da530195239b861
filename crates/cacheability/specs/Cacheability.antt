-- What a piece of a page says about keeping it (Drupal's Cache API, "Cacheability metadata").
use Rattle.std.specs.Prelude.{[], Contains, ◌≡◌, ◌⊎◌}
use Rattle.std.specs.List.Sorted.{IsStrictlySortedBy}
use Rattle.cacheability.specs.declared.cacheability.Cacheability.{Cacheability}
use Rattle.cacheability.specs.declared.max_age.MaxAge.TheVariants.{Permanent, Seconds}
use Rattle.cacheability.specs.declared.context.Context.TheVariants as context
use Rattle.cacheability.specs.Tag.{tag_cmp}
use Rattle.cacheability.specs.Context.{context_cmp}
use Rattle.cacheability.specs.MaxAge.{least}
use Rattle.cacheability.specs.InOrder.{union}

-- what was made from nothing, varies by nothing and may be kept for ever
abbrev pub always_same : Cacheability
always_same = record { tags = []; contexts = []; max_age = Permanent }

-- the tags of both, the contexts of both, and the lesser age
abbrev pub merged : Cacheability → Cacheability → Cacheability
merged a b = record { tags = union tag_cmp a.tags b.tags; contexts = union context_cmp a.contexts b.contexts; max_age = least a.max_age b.max_age }

-- the tags of both and the contexts of both, and the age of the first
abbrev pub joined : Cacheability → Cacheability → Cacheability
joined a b = record { tags = union tag_cmp a.tags b.tags; contexts = union context_cmp a.contexts b.contexts; max_age = a.max_age }

-- tags and contexts stand in the order of their texts, each once
pub record IsInOrder (c : Cacheability) : Type 0 where
  pub tags : IsStrictlySortedBy tag_cmp c.tags
  pub contexts : IsStrictlySortedBy context_cmp c.contexts

-- what is not kept at all, or is for one viewer or one session alone, is left out as a placeholder (Drupal's Render API, "Auto-placeholdering")
abbrev pub MustPlacehold : Cacheability → Type 0
MustPlacehold c = (c.max_age ≡ Seconds 0) ⊎ (Contains c.contexts context.User ⊎ Contains c.contexts context.Session)
