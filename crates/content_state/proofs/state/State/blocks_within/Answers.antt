use Rattle.std.proofs.Common.{◌≡◌, ◌∙◌, ap, true}
use Rattle.std.specs.List.{filter}
use Rattle.std.specs.Ordering.{is_eq, nat_cmp}
use Rattle.row_keys.specs.declared.rank.BlockKey.{BlockKey}
use Rattle.row_keys.specs.Keys.{region_place}
use Rattle.content_state.proofs.RankedLaws.{blocks_placed}
use Rattle.content_state.proofs.state.State.blocks_within.Goals as goal

pub returns : goal.returns
returns c = c.within.ensures ∙ ap (filter (λ (k : BlockKey). is_eq (nat_cmp (region_place c.args.region) k.region))) c.indexes.ensures.blocks ∙ blocks_placed c.args.region c.args.self.now.rows
