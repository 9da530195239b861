use Rattle.std.proofs.Common.{◌≡◌, take}
use Rattle.std.specs.List.{flat_map}
use Rattle.site_targets.specs.Targets.{target_line}
use Rattle.site_targets.proofs.gathered.targets_text.Given as goal

-- the lines of the targets so far
abbrev pub invariant-targets : goal.invariant-targets
invariant-targets l = l.text.items ≡ flat_map target_line (take l.target-index l.target-items)
