use Rattle.std.proofs.Common.{◌∙◌, ◌++◌, ap, arith}
use Rattle.std.specs.Map.{keys_of}
use Rattle.std.proofs.lemmas.List.{take_all}
use Rattle.bucket_map.proofs.map.add_keys.Goals as goal

pub returns : goal.returns
returns g c =
    c.entries.invariant ∙ ap (λ l. c.args.keys.now.items ++ keys_of l) (take_all c.entries.key-index c.args.entries.now (omega arith))
