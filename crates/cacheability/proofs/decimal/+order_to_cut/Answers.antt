use Rattle.std.proofs.Common.{◌<◌, ◌≤◌, ◌^◌, length, ap, ◌∙◌, arith}
use Rattle.std.specs.Ordering.{nat_cmp}
use Rattle.std.specs.Cmp.Lexicographic.{slice_cmp}
use Rattle.cacheability.specs.Decimal.{decimal}
use Rattle.cacheability.proofs.Decimals.{cut_whole, cut_once}
use Rattle.cacheability.proofs.decimal.+order_to_cut.Goals as goal

pub order_to_cut-requires : goal.order_to_cut-requires
order_to_cut-requires t c =
    let reached : 10 ^ length (decimal c.args.number) ≤ c.args.longer = omega (arith, c.if-from-limit.false, c.from.ensures, c.requires.limit) in
    let (less, long, cut) = cut_once c.args.number c.args.longer reached in
    (omega (arith, less, c.decreases), (c.requires.limit, long))

pub returns-then-from-limit : goal.returns-then-from-limit
returns-then-from-limit t c =
    let below : c.args.longer < 10 ^ length (decimal c.args.number) = omega (arith, c.if-from-limit.true, c.from.ensures, c.requires.limit) in
    c.cmp.ensures ∙ cut_whole c.args.number c.args.longer c.requires.longer below

pub returns-else-from-limit : goal.returns-else-from-limit
returns-else-from-limit t c =
    let reached : 10 ^ length (decimal c.args.number) ≤ c.args.longer = omega (arith, c.if-from-limit.false, c.from.ensures, c.requires.limit) in
    c.order_to_cut.ensures ∙ ap (λ xs. slice_cmp nat_cmp (decimal c.args.number) xs) ((cut_once c.args.number c.args.longer reached).2)
