use Rattle.std.proofs.Common.{◌≡◌, ◌∷◌, ◌++◌}
use Rattle.std.specs.List.{filter_map}
use Rattle.indexed_rows.specs.Rows.{InOrder}
use Rattle.content_state.specs.Route.{root_path}
use Rattle.site_targets.specs.Canonical.{row_target}
use Rattle.site_targets.proofs.canonical.canonical.Given as goal

-- with those of the rows that are left they are the targets of all rows, after `/`
abbrev pub invariant-rows : goal.invariant-rows
invariant-rows l = record {
  ordered : InOrder l.state.rows;
  so_far : l.targets.items ++ filter_map row_target l.cell-iterator ≡ root_path ∷ filter_map row_target l.state.rows;
}
