use Rattle.std.proofs.Common.{rules, arith, ◌≡◌, ◌∙◌, [], ap, length}
use Rattle.std.proofs.lemmas.Bool.Decides.{nat_tests}
use Rattle.std.proofs.lemmas.List.{nil_from_length}
use Rattle.shared_set.specs.Keys.{flat}
use Rattle.shared_set.proofs.Splits.{replaced_none}
use Rattle.shared_set.proofs.splice.replace.Goals as goal

pub returns-then-is_empty : goal.returns-then-is_empty
returns-then-is_empty g c =
    let none : c.args.keys.now ≡ [] = nil_from_length c.args.keys.now (grind (arith, nat_tests)) in
    ap flat c.remove.ensures.items ∙ replaced_none c.args.chunks.now.items c.args.place c.args.keys.now none
