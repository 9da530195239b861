use Rattle.std.proofs.Common.{◌≡◌, [], take, flat_map}
use Rattle.cacheability.specs.InOrder.{union}
use Rattle.cacheability.specs.Tag.{tag_cmp}
use Rattle.content_state.specs.Replay.{tags_of_write}
use Rattle.state_commits.proofs.tags.tags_of_commit.Given as goal

-- so far it has the tags of the writes so far
abbrev pub invariant-writes : goal.invariant-writes
invariant-writes l = l.tags ≡ union tag_cmp [] (flat_map (tags_of_write l.rows) (take l.write-index l.write-items))
