use Rattle.std.proofs.Common.{◌≡◌, take}
use Rattle.site_keeper.specs.Steps.{raised}
use Rattle.site_keeper.proofs.making.raised.Given as goal

-- the tags so far have their entries
abbrev pub invariant-tags : goal.invariant-tags
invariant-tags l = l.entries.items ≡ raised l.counts (take l.tag-index l.tags)
