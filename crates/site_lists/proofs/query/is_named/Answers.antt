use Rattle.std.proofs.Common.{◌≡◌, [], sym, ◌∙◌, arith, rules}
use Rattle.site_lists.proofs.DecodedFirst.{name_left, name_over}
use Rattle.site_lists.proofs.query.is_named.Goals as goal

pub returns-in_default : goal.returns-in_default
returns-in_default c =
    let none : c.name.left.now ≡ [] = search rules in
    sym (c.name.invariant ∙ name_left c.args.name.now c.name.left.now c.name.wanted-index (omega arith) none)

pub returns : goal.returns
returns c = c.is_empty.ensures ∙ sym (c.name.invariant ∙ name_over c.args.name.now c.name.left.now c.name.wanted-index (omega arith))
