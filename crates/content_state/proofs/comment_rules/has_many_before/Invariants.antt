use Rattle.std.proofs.Common.{◌≡◌, ◌+◌, ◌<◌, length}
use Rattle.content_state.specs.SiteRules.{comments_before}
use Rattle.content_state.proofs.comment_rules.has_many_before.Given as goal

-- as many as were gone past, fewer than 1,000, and those that are left
abbrev pub invariant-keys : goal.invariant-keys
invariant-keys l = record {
  all : length (comments_before l.state.rows l.node l.cid) ≡ l.count + length l._key-iterator;
  few : l.count < 1000;
}
