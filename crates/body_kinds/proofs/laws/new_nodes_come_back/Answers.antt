use Rattle.body_kinds.proofs.ComesBack.{new_node_back}
use Rattle.body_kinds.proofs.laws.new_nodes_come_back.Goals as goal

pub returns : goal.returns
returns c = new_node_back
