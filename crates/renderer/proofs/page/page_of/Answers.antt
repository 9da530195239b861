use Rattle.std.proofs.Common.{subst}
use Rattle.render_array.specs.Shown.{IsPageStatus}
use Rattle.render_array.proofs.Statuses.{page_status}
use Rattle.renderer.proofs.OfPage.{page_is, status_of}
use Rattle.renderer.proofs.page.page_of.Goals as goal

pub unreachable-requires : goal.unreachable-requires
unreachable-requires c = subst IsPageStatus c.in-None.is (page_status _ _ _ _ _ _ c.in_ok-page.ensures.makes.made)

pub returns-clause-page : goal.returns-clause-page
returns-clause-page c =
    page_is c.args.state.now.rows c.args.viewer.now c.args.ask.now c.args.now _ c.requires _ _ _ c.in_ok-page.ensures c.in-Some.is c.parts.ensures
    (rw c.as_slice.ensures.value at c.in_ok-body.ensures)

pub returns-clause-status : goal.returns-clause-status
returns-clause-status c = status_of c.args.state.now.rows c.args.viewer.now c.args.ask.now c.args.now _ c.requires _ c.in_ok-page.ensures c.in-Some.is
