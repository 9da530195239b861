use Rattle.body_kinds.proofs.ComesBack.{new_term_back}
use Rattle.body_kinds.proofs.laws.new_terms_come_back.Goals as goal

pub returns : goal.returns
returns c = new_term_back
