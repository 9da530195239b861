use Rattle.std.proofs.Common.{◌≡◌, ◌+◌, drop, option_map}
use Rattle.edit_machine.specs.Places.{place_of}
use Rattle.edit_machine.proofs.fields.place_of.Given as goal

-- the place among the values that are left is so much further on among all
abbrev pub invariant-values : goal.invariant-values
invariant-values l = place_of l.values l.name ≡ option_map (λ place. l.place + place) (place_of (drop l.place l.values) l.name)
