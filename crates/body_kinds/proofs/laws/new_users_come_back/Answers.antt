use Rattle.body_kinds.proofs.ComesBack.{new_user_back}
use Rattle.body_kinds.proofs.laws.new_users_come_back.Goals as goal

pub returns : goal.returns
returns c = new_user_back
