-- Published nodes in the order of listings, the blocks of a region in theirs, and terms by the terms above them.
use Rattle.std.specs.Prelude.{ℕ, List, Bool, false, Some, ◌==◌, ◌&&◌, map}
use Rattle.std.specs.Option.{option_map_or}
use Rattle.std.specs.List.{filter, list_any}
use Rattle.std.specs.Str.{bytes_eq}
use Rattle.content_rows.specs.declared.cell.Cell.{Cell}
use Rattle.content_rows.specs.declared.row.Row.{Row}
use Rattle.content_rows.specs.declared.row.Node.{Node}
use Rattle.content_rows.specs.declared.row.Term.{Term}
use Rattle.content_rows.specs.declared.row.Region.{Region}
use Rattle.index_law.specs.Index.{in_order}
use Rattle.row_keys.specs.declared.rank.NodeRank.{NodeRank}
use Rattle.row_keys.specs.declared.rank.TypeKey.{TypeKey}
use Rattle.row_keys.specs.declared.rank.TermKey.{TermKey}
use Rattle.row_keys.specs.declared.rank.ParentKey.{ParentKey}
use Rattle.row_keys.specs.declared.rank.BlockKey.{BlockKey}
use Rattle.row_keys.specs.Keys.{region_place}
use Rattle.row_keys.specs.Ranks.{rank_of, rank_cmp, parent_cmp, block_rank, block_cmp}
use Rattle.indexed_rows.specs.Rows.{nodes_of, terms_of, blocks_of}

-- the ranks of some nodes, in their order
abbrev pub ranks_in_order : List (ℕ × Node) → List NodeRank
ranks_in_order nodes = in_order rank_cmp (map rank_of nodes)

-- all published nodes; those of a type; those with a term
abbrev pub published : List (Cell × Row) → List NodeRank
published rows = ranks_in_order (filter (λ e. e.1.status) (nodes_of rows))

abbrev pub published_of : List (Cell × Row) → List ℕ → List TypeKey
published_of rows type = map (λ r. record { node_type = type; rank = r }) (ranks_in_order (filter (λ e. e.1.status && bytes_eq e.1.node_type type) (nodes_of rows)))

abbrev pub published_with : List (Cell × Row) → ℕ → List TermKey
published_with rows term = map (λ r. record { term = term; rank = r }) (ranks_in_order (filter (λ e. e.1.status && list_any (λ t. t == term) e.1.terms) (nodes_of rows)))

-- the terms right under a term, in the order of their ids
abbrev pub is_under : ℕ → Term → Bool
is_under above term = option_map_or (λ a. a == above) term.parent false

abbrev pub children : List (Cell × Row) → ℕ → List ParentKey
children rows above = map (λ e. record { parent = Some above; id = e.0 }) (filter (λ e. is_under above e.1) (terms_of rows))

-- all terms, by the terms above them
abbrev pub terms_placed : List (Cell × Row) → List ParentKey
terms_placed rows = in_order parent_cmp (map (λ e. record { parent = e.1.parent; id = e.0 }) (terms_of rows))

-- the blocks of a region, in their order
abbrev pub blocks_within : List (Cell × Row) → Region → List BlockKey
blocks_within rows where_placed = map (λ r. record { region = region_place where_placed; rank = r }) (in_order block_cmp (map block_rank (filter (λ e. region_place where_placed == region_place e.1.region) (blocks_of rows))))
