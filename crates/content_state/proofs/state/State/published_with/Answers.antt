use Rattle.std.proofs.Common.{◌≡◌, ◌∙◌, ap, true}
use Rattle.std.specs.List.{filter}
use Rattle.std.specs.Ordering.{is_eq, nat_cmp}
use Rattle.row_keys.specs.declared.rank.TermKey.{TermKey}
use Rattle.content_state.proofs.RankedLaws.{published_termed}
use Rattle.content_state.proofs.state.State.published_with.Goals as goal

pub returns : goal.returns
returns c = c.within.ensures ∙ ap (filter (λ (k : TermKey). is_eq (nat_cmp c.args.term k.term))) c.indexes.ensures.terms ∙ published_termed c.args.term c.args.self.now.rows
