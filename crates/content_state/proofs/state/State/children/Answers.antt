use Rattle.std.proofs.Common.{◌≡◌, ◌∙◌, ap, true, Some}
use Rattle.std.specs.List.{filter}
use Rattle.std.specs.Option.{option_cmp}
use Rattle.std.specs.Ordering.{is_eq, nat_cmp}
use Rattle.row_keys.specs.declared.rank.ParentKey.{ParentKey}
use Rattle.content_state.proofs.TermsPlaced.{children_placed}
use Rattle.content_state.proofs.state.State.children.Goals as goal

pub returns : goal.returns
returns c = c.within.ensures ∙ ap (filter (λ (k : ParentKey). is_eq (option_cmp nat_cmp (Some c.args.parent) k.parent))) c.indexes.ensures.parents ∙ children_placed c.args.parent c.args.self.now.rows c.stands_in_order.ensures.rows
