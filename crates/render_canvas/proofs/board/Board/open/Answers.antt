use Rattle.std.proofs.Common.{ap, ◌∙◌}
use Rattle.render_canvas.proofs.BoardLaws.{more_place}
use Rattle.render_canvas.proofs.board.Board.open.Goals as goal

pub returns : goal.returns
returns c = rw (← c.self.view_is)
    (more_place c.self.inside.segments _ _ c.args.hole.now c.self.inside.text.items _ _ c.in_ok-push.ensures.ok c.in_ok-push_hole.ensures
    (c.in_ok-shared.ensures.ok ∙ c.new-2.ensures ∙ ap (λ v. v.items) c.replace-text.ensures.value)
    (ap (λ v. v.items) c.replace-text.ensures.after ∙ c.new.ensures.items))
