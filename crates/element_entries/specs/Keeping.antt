-- What may be kept, and where it stands then.
-- https://www.drupal.org/docs/drupal-apis/render-api/auto-placeholdering
use Rattle.std.specs.Prelude.{List, ◌≡◌, Bool, Option, Some, None, if◌then◌else◌}
use Rattle.std.specs.List.{list_all}
use Rattle.cacheability.specs.declared.cacheability.Cacheability.{Cacheability}
use Rattle.cacheability.specs.declared.context.Context.{Context}
use Rattle.cacheability.specs.declared.max_age.MaxAge.TheVariants.{Seconds}
use Rattle.cacheability.specs.Cacheability.{MustPlacehold}
use Rattle.cacheability.specs.Context.{context_cmp}
use Rattle.cacheability.specs.InOrder.{union}
use Rattle.cache_contexts.specs.Optimised.{has}
use Rattle.cache_entries.specs.declared.kept.Bin.{Bin}
use Rattle.cache_entries.specs.declared.kept.Bin.TheVariants as bin

-- A fragment may be kept where its age isn't 0; so may the page of a target. The page of a path may be where besides it is
-- for no one viewer or session.
abbrev pub MayKeep : Bin → Cacheability → Type 0
MayKeep bin.Fragments c = c.max_age ≡ Seconds 0 → ⊥
MayKeep bin.Dynamic c = MustPlacehold c → ⊥
MayKeep bin.Anonymous c = c.max_age ≡ Seconds 0 → ⊥

-- every context is one of the first key's
abbrev pub all_first : List Context → List Context → Bool
all_first first contexts = list_all (has first) contexts

-- The contexts of the second key, where there is one: those that a redirect told and these, or these where more than those of the
-- first key are among them.
abbrev pub second_contexts : List Context → Option (List Context) → List Context → Option (List Context)
second_contexts first None contexts = if all_first first contexts then None else Some contexts
second_contexts first (Some told) contexts = Some (union context_cmp told contexts)
