use Rattle.std.proofs.Common.{rules, ◌≡◌, ◌∙◌, ap, map}
use Rattle.content_state.specs.Ranked.{blocks_within}
use Rattle.site_lists.specs.Blocks.{region_blocks}
use Rattle.site_lists.proofs.RegionBlocks.{names_within}
use Rattle.site_lists.proofs.blocks.blocks_of.Goals as goal

pub returns : goal.returns
returns c =
    let all : c.keys.names.items ≡ map (λ k. k.rank.name) (blocks_within c.args.state.now.rows c.args.region) = search rules in
    all ∙ names_within c.args.state.now.rows c.args.region
