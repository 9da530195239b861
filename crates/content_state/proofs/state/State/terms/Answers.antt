use Rattle.std.proofs.Common.{◌≡◌, ◌∙◌, ap, true}
use Rattle.std.specs.List.{filter, list_any}
use Rattle.row_keys.specs.declared.rank.ParentKey.{ParentKey}
use Rattle.content_state.proofs.TermsPlaced.{all_placed, any_placed}
use Rattle.content_state.proofs.state.State.terms.Goals as goal

pub returns-clause-placed : goal.returns-clause-placed
returns-clause-placed c = c.within.ensures ∙ ap (filter (λ (k : ParentKey). true)) c.indexes.ensures.parents ∙ all_placed c.args.self.now.rows

pub returns-clause-each : goal.returns-clause-each
returns-clause-each c p =
    ap (list_any (λ (k : ParentKey). p k.id)) (c.within.ensures ∙ ap (filter (λ (k : ParentKey). true)) c.indexes.ensures.parents ∙ all_placed c.args.self.now.rows)
    ∙ any_placed c.args.self.now.rows p
