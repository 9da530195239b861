use Rattle.site_rehearsal.specs.Visitors.{visit}
use Rattle.page_meaning.proofs.Frames.{page_filled}
use Rattle.site_rehearsal.proofs.Frames.{page_of_frame, fills_frame}
use Rattle.site_rehearsal.proofs.framing.whole_page.Goals as goal

pub returns-clause-makes : goal.returns-clause-makes
returns-clause-makes c =
    let r = c.args.visitor.now in
    page_of_frame page_filled r.ask.now.path (visit r) c.args.frame.now c.in_ok-page.page _ c.requires c.in_ok-page.ensures
    (rw c.element_level.ensures at (rw c.parts.ensures at c.in_ok-add_parts.ensures))

pub returns-clause-fills : goal.returns-clause-fills
returns-clause-fills c =
    let r = c.args.visitor.now in
    fills_frame (visit r) c.args.frame.now c.in_ok-page.page _ c.in_ok-page.ensures
    (rw c.element_level.ensures at (rw c.parts.ensures at c.in_ok-add_parts.ensures))
