-- A batch, as contracts see it: an accepted edit, the new count of each tag that it invalidates, and the number of the
-- state that it makes.
use Rattle.std.specs.Prelude.{ℕ, List}
use Rattle.cacheability.specs.declared.tag.Tag.{Tag}
use Rattle.content_state.specs.declared.commit.Commit.{Commit}

pub record Batch : Type 0 where
  pub commit : Commit
  pub counts : List (Tag × ℕ)
  pub head : ℕ
