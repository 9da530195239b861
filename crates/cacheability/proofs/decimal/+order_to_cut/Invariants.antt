use Rattle.cacheability.proofs.decimal.+order_to_cut.Given as goal

abbrev pub decreases-order_to_cut : goal.decreases-order_to_cut
decreases-order_to_cut l = l.longer
