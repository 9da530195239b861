use Rattle.std.proofs.Common.{◌≡◌, ◌∙◌, ap, true}
use Rattle.std.specs.List.{filter}
use Rattle.std.specs.Ordering.{is_eq, nat_cmp}
use Rattle.std.specs.Cmp.Lexicographic.{slice_cmp}
use Rattle.row_keys.specs.declared.rank.TypeKey.{TypeKey}
use Rattle.content_state.proofs.RankedLaws.{published_typed}
use Rattle.content_state.proofs.state.State.published_of.Goals as goal

pub returns : goal.returns
returns c = c.within.ensures ∙ ap (filter (λ (k : TypeKey). is_eq (slice_cmp nat_cmp c.args.node_type k.node_type))) c.indexes.ensures.types ∙ published_typed c.args.node_type c.args.self.now.rows
