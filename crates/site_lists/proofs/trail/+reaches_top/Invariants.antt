use Rattle.site_lists.proofs.trail.+reaches_top.Given as goal

abbrev pub decreases-reaches_top : goal.decreases-reaches_top
decreases-reaches_top l = l.heights
