use Rattle.std.proofs.Common.{◌∙◌}
use Rattle.render_canvas.proofs.BoardLaws.{finished}
use Rattle.render_canvas.proofs.board.Board.finish.Goals as goal

pub returns : goal.returns
returns c = finished _ _ _ _ c.in_ok-push.ensures.ok (c.in_ok-shared.ensures.ok ∙ c.new.ensures) ∙ c.self.view_is
