use Rattle.std.proofs.Common.{◌≡◌, take}
use Rattle.std.specs.List.{fold}
use Rattle.site_keeper.specs.Keeper.{with_entry}
use Rattle.site_keeper.proofs.stored.set_counts.Given as goal

-- the counts that were named so far are set
abbrev pub invariant-entries : goal.invariant-entries
invariant-entries l = l.counts ≡ fold with_entry l.initial.counts (take l.entry-index l.entries)
