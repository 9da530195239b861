-- That every plan shows something.
use Rattle.std.specs.Prelude.{ℕ, List, Option}
use Rattle.content_state.specs.declared.element.Library.{Library}
use Rattle.content_state.specs.Context.{Visit}
use Rattle.content_state.specs.Met.{result_of}
use Rattle.content_state.specs.Plan.{Piece, Plan, Shows}

-- On each visit a plan shows some pieces and attaches some libraries, and gives what it gives where each reading of the clock gives
-- the visit's moment.
abbrev pub EveryPlanShows : Type 0
EveryPlanShows = (p : Plan (Option ℕ)) (v : Visit) → (shown : List Piece) × (libraries : List Library) × Shows p v (result_of p v) shown libraries
