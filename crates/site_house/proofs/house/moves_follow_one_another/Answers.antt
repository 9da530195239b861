use Rattle.site_house.proofs.Moving.{moves_same, moves_on}
use Rattle.site_house.proofs.house.moves_follow_one_another.Goals as goal

pub returns : goal.returns
returns c = record { same = moves_same; follow = λ first second third a b. moves_on a b }
