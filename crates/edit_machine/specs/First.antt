-- The first of some causes that is there.
use Rattle.std.specs.Prelude.{List, [], ◌∷◌, Option, None}
use Rattle.std.specs.Option.{option_or}
use Rattle.site_commands.specs.declared.answer.Refusal.{Refusal}

abbrev pub first_cause : List (Option Refusal) → Option Refusal
first_cause [] = None
first_cause (cause ∷ causes) = option_or cause (first_cause causes)
