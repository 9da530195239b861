-- Values that are given in the turn of a list.
use Rattle.std.proofs.Common.{◌∙◌, refl, ℕ, List, Option}
use Rattle.site_io.specs.Series.{GivesInTurn}

-- none is given
pub turn_same : {greatest : ℕ} (values given : Option (List ℕ)) → GivesInTurn greatest values values given given
turn_same values given = record { same = refl; in_turn = λ first. first }

-- some are given, and then more
pub turn_more : {greatest : ℕ} {values values' values'' given given' given'' : Option (List ℕ)} → GivesInTurn greatest values values' given given' → GivesInTurn greatest values' values'' given' given'' → GivesInTurn greatest values values'' given given''
turn_more a b = record { same = b.same ∙ a.same; in_turn = λ first. b.in_turn (a.in_turn first) }
