-- What several elements read, as plans.
use Rattle.std.specs.Prelude.{ℕ, List, Bool}
use Rattle.std.specs.List.{filter}
use Rattle.cacheability.specs.declared.context.Context.TheVariants as context
use Rattle.cacheability.specs.declared.op.Op.TheVariants as op
use Rattle.content_rows.specs.declared.row.Region.{Region}
use Rattle.content_state.specs.Read.{AllBlocks}
use Rattle.content_state.specs.Plan.{Plan, Done, reading, asking, ◌>>=◌}
use Rattle.site_access.specs.Plans.{node_access}
use Rattle.site_access.specs.Viewing.{is_allowed}
use Rattle.site_lists.specs.Blocks.{is_region, names_in_order}

-- the names of a region's blocks, by weight, then by name
unfoldable pub region_names : Region → Plan (List (List ℕ))
region_names where_placed =
    reading AllBlocks >>= λ blocks. Done (names_in_order (filter (λ e. is_region where_placed e.1.region) blocks))

-- a listing varies by who views it, whatever nodes it has
unfoldable pub by_viewer : Plan (Unit {0})
by_viewer = asking context.UserPermissions >>= λ permissions. asking context.NodeGrantsView >>= λ grants. Done tt

-- whether the viewer may view a node
unfoldable pub may_view_node : ℕ → Plan Bool
may_view_node n = node_access op.View n >>= λ access. Done (is_allowed access)
