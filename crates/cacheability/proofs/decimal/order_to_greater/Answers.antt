use Rattle.std.proofs.Common.{ap, ◌∙◌}
use Rattle.std.specs.declared.cmp.Ordering.TheVariants.{Less}
use Rattle.std.specs.Ordering.{ordering_then}
use Rattle.cacheability.proofs.Decimals.{not_shorter, to_cut}
use Rattle.cacheability.proofs.decimal.order_to_greater.Goals as goal

pub order_to_cut-requires-clause-longer : goal.order_to_cut-requires-clause-longer
order_to_cut-requires-clause-longer c = not_shorter c.args.number c.args.greater c.requires

pub returns : goal.returns
returns c = c.then.ensures ∙ ap (λ o. ordering_then o Less) c.order_to_cut.ensures ∙ to_cut c.args.number c.args.greater c.requires
