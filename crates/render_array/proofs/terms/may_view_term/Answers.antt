use Rattle.std.proofs.Common.{sym, ◌∙◌}
use Rattle.render_array.specs.Nodes.{may_view_term}
use Rattle.render_canvas.proofs.Run.{next, given_by, allowed_is}
use Rattle.render_array.proofs.terms.may_view_term.Goals as goal

pub returns : goal.returns
unfolding may_view_term
returns c = next _ c.term_access.ensures (given_by (allowed_is c.term_access.result ∙ sym c.is_ok.ensures.value))
