use Rattle.std.proofs.Common.{◌≡◌, drop}
use Rattle.edit_machine.specs.Places.{further, place_in}
use Rattle.edit_machine.proofs.fields.place_in.Given as goal

-- the place among the values that are left is so much further on among all
abbrev pub invariant-values : goal.invariant-values
invariant-values l = place_in l.values l.name ≡ further l.place (place_in (drop l.place l.values) l.name)
