use Rattle.std.proofs.Common.{◌≡◌, ◌++◌, take}
use Rattle.std.specs.Prelude.{map}
use Rattle.late_out.specs.Marks.{names_behind}
use Rattle.late_out.proofs.marks.add_names_behind.Given as goal

abbrev pub invariant-loop-name : goal.invariant-loop-name
invariant-loop-name l = l.text.items ≡ l.fn.text.items ++ names_behind (map (λ name. name.now) (take l.name-index l.names))
