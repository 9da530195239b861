use Rattle.std.proofs.Common.{refl, sym, subst}
use Rattle.render_array.specs.Shown.{IsPageStatus}
use Rattle.renderer.proofs.Texts.{filled_parts}
use Rattle.kept_pages.specs.Wholes.{parts_in}
use Rattle.kept_pages.proofs.Pages.{status_there, status_is, page_is, page_lasts}
use Rattle.kept_pages.proofs.page.page_of.Goals as goal

pub unreachable-requires : goal.unreachable-requires
unreachable-requires c = subst IsPageStatus (sym c.in-None.ensures) (status_there c.args.reader.now _ _ _ _ c.requires.makes)

pub returns-clause-page : goal.returns-clause-page
returns-clause-page c =
    page_is c.args.reader.now _ _ _ _ c.requires.makes _ _ c.requires.viewer (sym c.in-Some.ensures)
    (filled_parts _ _ (parts_in c.args.pieces) _ refl c.in_ok-parts.ensures)

pub returns-clause-status : goal.returns-clause-status
returns-clause-status c = status_is c.args.reader.now _ _ _ _ c.requires.makes _ (sym c.in-Some.ensures)

pub returns-clause-lasts : goal.returns-clause-lasts
returns-clause-lasts c =
    rw c.last-last.ensures (page_lasts c.args.reader.now _ _ _ _ c.requires.makes _ _ c.requires.viewer (sym c.in-Some.ensures)
    (filled_parts _ _ (parts_in c.args.pieces) _ refl c.in_ok-parts.ensures))
