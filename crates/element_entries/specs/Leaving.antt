-- Contexts that are left out of what is said.
use Rattle.std.specs.Prelude.{List, ◌≡◌}
use Rattle.cacheability.specs.InOrder.{HasBoth}
use Rattle.cacheability.specs.declared.cacheability.Cacheability.{Cacheability}
use Rattle.cacheability.specs.declared.tag.Tag.{Tag}
use Rattle.content_state.specs.Context.{Visit}
use Rattle.cache_contexts.specs.LeftOut.{LeavesOut}

-- The contexts are left out that others make redundant, the tags that stand in for them are added, and the age stays.
pub record SaysAsMuch (v : Visit) (all said : Cacheability) : Type 0 where
  pub stand_ins : List Tag
  pub leaves_out : LeavesOut v all.contexts said.contexts stand_ins
  pub tags_are : HasBoth all.tags stand_ins said.tags
  pub age : said.max_age ≡ all.max_age
