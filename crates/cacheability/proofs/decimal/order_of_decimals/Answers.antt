use Rattle.std.proofs.Common.{ap, sym, ◌∙◌}
use Rattle.std.specs.declared.cmp.Ordering.TheVariants.{Equal}
use Rattle.std.specs.Ordering.{ordering_reverse}
use Rattle.std.specs.Cmp.{ranked}
use Rattle.cacheability.specs.Decimal.{decimal}
use Rattle.cacheability.proofs.Ranks.{bytes_turned, same_bytes}
use Rattle.cacheability.proofs.decimal.order_of_decimals.Goals as goal

pub returns-in-Equal : goal.returns-in-Equal
returns-in-Equal c = same_bytes (decimal c.args.one) (decimal c.args.other) (ap decimal (ranked c.args.one c.args.other Equal (sym c.in-Equal.is ∙ c.cmp.ensures)))

pub returns-in-Greater : goal.returns-in-Greater
returns-in-Greater c = c.reverse.ensures ∙ ap ordering_reverse c.order_to_greater-in-Greater.ensures ∙ sym (bytes_turned (decimal c.args.one) (decimal c.args.other))
