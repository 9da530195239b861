use Rattle.std.proofs.Common.{◌≡◌, drop}
use Rattle.std.specs.List.{find}
use Rattle.std.specs.Str.{bytes_eq}
use Rattle.render_array.proofs.nodes.value_named.Given as goal

abbrev pub invariant-loop-value : goal.invariant-loop-value
invariant-loop-value l =
    find (λ value. bytes_eq value.name l.name) (drop l.value-index l.values) ≡ find (λ value. bytes_eq value.name l.name) l.values
