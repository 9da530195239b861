use Rattle.std.proofs.Common.{◌≡◌, [], sym, ◌∙◌, rules}
use Rattle.site_lists.proofs.DecodedFirst.{nothing_left}
use Rattle.site_lists.proofs.query.decoded.Goals as goal

pub returns : goal.returns
returns c =
    let none : c.bytes.left.now ≡ [] = search rules in
    sym (nothing_left c.bytes.out.items c.bytes.left.now none) ∙ c.bytes.invariant
