use Rattle.std.proofs.Common.{◌∙◌, ap}
use Rattle.std.proofs.lemmas.Result.{IfOk-weaker}
use Rattle.tag_counts.specs.Counts.{count_of}
use Rattle.tag_counts.proofs.Put.{count_set, count_kept, order_kept}
use Rattle.tag_counts.proofs.Counts.set.Goals as goal

pub returns-clause-this : goal.returns-clause-this
returns-clause-this c = IfOk-weaker c.put_from.result _ _ (λ _ e. count_set c.self.inside.table c.put_from.new.table c.args.tag.now c.args.count e) c.put_from.ensures.ok

pub returns-clause-others : goal.returns-clause-others
returns-clause-others c =
    IfOk-weaker c.put_from.result _ _
    (λ _ e q other. count_kept c.self.inside.table c.put_from.new.table c.args.tag.now c.args.count e q other ∙ ap (λ l. count_of l q) c.self.view_is) c.put_from.ensures.ok

pub returns-clause-ordered : goal.returns-clause-ordered
returns-clause-ordered c =
    IfOk-weaker c.put_from.result _ _ (λ _ e. order_kept c.self.inside.table c.put_from.new.table c.args.tag.now c.args.count e c.stands_in_order.ensures) c.put_from.ensures.ok
