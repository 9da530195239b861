use Rattle.std.proofs.Common.{◌≡◌, take}
use Rattle.cacheability.specs.InOrder.{union}
use Rattle.cacheability.specs.Tag.{tag_cmp}
use Rattle.element_entries.proofs.leaving.add_all.Given as goal

-- so far it has the tags so far
abbrev pub invariant-more : goal.invariant-more
invariant-more l = l.tags ≡ union tag_cmp l.initial.tags (take l.tag-index l.more)
