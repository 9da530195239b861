use Rattle.std.proofs.Common.{◌∙◌, ap, sym, inl}
use Rattle.std.proofs.lemmas.Result.{IfOk-weaker}
use Rattle.content_state.specs.Entities.{is_json as is_told}
use Rattle.late_pages.proofs.Frame.{whole_first}
use Rattle.late_pages.proofs.Told.{first_at_most}
use Rattle.late_pages.proofs.first.late_first.Goals as goal

pub returns-then-is_json-clause-first : goal.returns-then-is_json-clause-first
returns-then-is_json-clause-first g c =
    whole_first c.args.state.now.rows c.args.ask.now c.args.now c.in_ok-page.page.status c.at_once.result.status c.in_ok-page.page.parts c.at_once.result.parts c.at_once.result.holes.items
    c.at_once.ensures.status c.at_once.ensures.parts c.at_once.ensures.holes (inl (ap is_told (sym c.as_slice.ensures) ∙ sym c.is_json.ensures ∙ c.if-is_json.true)) c.in_ok-page.ensures.page

pub returns-clause-first : goal.returns-clause-first
returns-clause-first g c = rw c.in_ok-reader.ensures at c.first_of_page.ensures.first

pub returns-clause-at_most : goal.returns-clause-at_most
returns-clause-at_most g c =
    IfOk-weaker c.first_of_page.result _ _
    (λ l told. first_at_most _ _ _ _ c.args.state.now.rows c.args.viewer.now c.args.ask.now c.args.now l.built c.requires.viewer (rw (c.in_ok-reader.ensures, c.in_ok-account.ensures.viewer_is) at told))
    c.first_of_page.ensures.told
