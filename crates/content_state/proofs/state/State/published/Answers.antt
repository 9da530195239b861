use Rattle.std.proofs.Common.{◌≡◌, ◌∙◌, ap, true}
use Rattle.std.specs.List.{filter}
use Rattle.row_keys.specs.declared.rank.NodeRank.{NodeRank}
use Rattle.content_state.proofs.RankedLaws.{all_published}
use Rattle.content_state.proofs.state.State.published.Goals as goal

pub returns : goal.returns
returns c = c.within.ensures ∙ ap (filter (λ (k : NodeRank). true)) c.indexes.ensures.nodes ∙ all_published c.args.self.now.rows
