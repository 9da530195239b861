-- Which blocks stand in a region, and in which order.
-- https://www.drupal.org/docs/user_guide/en/block-regions.html
use Rattle.std.specs.Prelude.{ℕ, List, Bool, true, false, map}
use Rattle.std.specs.List.{filter}
use Rattle.std.specs.declared.cmp.Ordering.{Ordering}
use Rattle.content_rows.specs.declared.cell.Cell.{Cell}
use Rattle.content_rows.specs.declared.row.Row.{Row}
use Rattle.content_rows.specs.declared.row.Block.{Block}
use Rattle.content_rows.specs.declared.row.Region.{Region}
use Rattle.content_rows.specs.declared.row.Region.TheVariants as region
use Rattle.indexed_rows.specs.Rows.{blocks_of}
use Rattle.row_keys.specs.declared.rank.BlockRank.{BlockRank}
use Rattle.row_keys.specs.contracts.rank.BlockRankOrd.TheImpl as block_ranks
use Rattle.site_lists.specs.Listed.{in_order}

abbrev pub is_region : Region → Region → Bool
is_region region.Header region.Header = true
is_region region.Aside region.Aside = true
is_region region.Footer region.Footer = true
is_region _ _ = false

-- what places a block among others: the lesser weight comes first, then the lesser name
abbrev pub block_rank : (List ℕ × Block) → BlockRank
block_rank e = record { weight = e.1.weight; name = e.0 }

abbrev pub block_cmp : BlockRank → BlockRank → Ordering
block_cmp = block_ranks.ghosts.cmp

-- the names of blocks, in their order
abbrev pub names_in_order : List (List ℕ × Block) → List (List ℕ)
names_in_order blocks = map (λ r. r.name) (in_order block_cmp (map block_rank blocks))

-- the blocks of a region: all blocks, filtered, then ordered
abbrev pub region_blocks : List (Cell × Row) → Region → List (List ℕ)
region_blocks rows where_placed = names_in_order (filter (λ e. is_region where_placed e.1.region) (blocks_of rows))
