use Rattle.late_pages.proofs.Cuts.{next_front, cut_off}
use Rattle.late_pages.proofs.cutting.without_end.Goals as goal

pub loop-piece-preserved : goal.loop-piece-preserved
loop-piece-preserved c =
    next_front c.as_slice-pieces.result.now c.loop-piece.piece-index c.piece-item.result _ _ _ _ _ c.loop-piece-test.true c.piece-item.is c.loop-piece.invariant c.in_ok-left.ensures

pub returns : goal.returns
returns c =
    cut_off c.as_slice-pieces.result.now c.loop-piece.piece-index c.loop-piece.left _ c.requires.0 _ c.loop-piece-test.false c.loop-piece.invariant c.requires.1
