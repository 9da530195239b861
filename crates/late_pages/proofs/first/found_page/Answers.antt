use Rattle.std.proofs.Common.{◌∙◌, ap, sym, inr}
use Rattle.content_state.specs.declared.ask.Viewer.{Viewer}
use Rattle.late_pages.proofs.Frame.{whole_first}
use Rattle.late_pages.proofs.first.found_page.Goals as goal

pub returns-clause-first : goal.returns-clause-first
returns-clause-first c =
    whole_first c.args.reader.now.state.rows c.args.reader.now.ask c.args.reader.now.moment c.in_ok-page.page.status c.at_once.result.status c.in_ok-page.page.parts c.at_once.result.parts c.at_once.result.holes.items
    c.at_once.ensures.status c.at_once.ensures.parts c.at_once.ensures.holes (inr (ap (λ (w : Viewer). w.session) (sym c.requires.viewer) ∙ c.requires.nobody)) c.in_ok-page.ensures.page
