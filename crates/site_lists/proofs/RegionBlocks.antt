-- The blocks of a region are those that its index has.
use Rattle.std.proofs.Common.{ℕ, List, [], ◌∷◌, ◌≡◌, ◌∙◌, refl, ap, map}
use Rattle.std.proofs.Math.Path.{fun_ext}
use Rattle.std.specs.Prelude.{◌==◌, Bool}
use Rattle.std.specs.List.{filter}
use Rattle.content_rows.specs.declared.cell.Cell.{Cell}
use Rattle.content_rows.specs.declared.row.Row.{Row}
use Rattle.content_rows.specs.declared.row.Block.{Block}
use Rattle.content_rows.specs.declared.row.Region.{Region}
use Rattle.content_rows.specs.declared.row.Region.TheVariants as region
use Rattle.row_keys.specs.declared.rank.BlockRank.{BlockRank}
use Rattle.row_keys.specs.declared.rank.BlockKey.{BlockKey}
use Rattle.row_keys.specs.Keys.{region_place}
use Rattle.indexed_rows.specs.Rows.{blocks_of}
use Rattle.content_state.specs.Ranked.{blocks_within}
use Rattle.site_lists.specs.Listed.{in_order}
use Rattle.site_lists.specs.Blocks.{is_region, block_rank, block_cmp, region_blocks}

same_region : (a b : Region) → (region_place a == region_place b) ≡ is_region a b
same_region region.Header region.Header = refl
same_region region.Header region.Aside = refl
same_region region.Header region.Footer = refl
same_region region.Aside region.Header = refl
same_region region.Aside region.Aside = refl
same_region region.Aside region.Footer = refl
same_region region.Footer region.Header = refl
same_region region.Footer region.Aside = refl
same_region region.Footer region.Footer = refl

names : (place : ℕ) (ranks : List BlockRank) → map (λ (k : BlockKey). k.rank.name) (map (λ (r : BlockRank). record { region = place; rank = r }) ranks) ≡ map (λ (r : BlockRank). r.name) ranks
names place [] = refl
names place (r ∷ rs) = ap (λ l. r.name ∷ l) (names place rs)

pub names_within : (rows : List (Cell × Row)) (where_placed : Region) → map (λ (k : BlockKey). k.rank.name) (blocks_within rows where_placed) ≡ region_blocks rows where_placed
names_within rows where_placed =
    names (region_place where_placed) (in_order block_cmp (map block_rank (filter (λ e. region_place where_placed == region_place e.1.region) (blocks_of rows))))
    ∙ ap (λ (p : (List ℕ × Block) → Bool). map (λ (r : BlockRank). r.name) (in_order block_cmp (map block_rank (filter p (blocks_of rows))))) (fun_ext (λ e. same_region where_placed e.1.region))
