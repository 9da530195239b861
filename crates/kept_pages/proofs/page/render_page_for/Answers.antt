use Rattle.std.proofs.lemmas.Result.{IfOk-weaker}
use Rattle.kept_pages.proofs.Most.{page_at_most}
use Rattle.kept_pages.proofs.page.render_page_for.Goals as goal

pub returns-clause-at_most : goal.returns-clause-at_most
returns-clause-at_most g c =
    IfOk-weaker c.request_page.result _ _
    (λ p told. page_at_most _ _ _ c.args.state.now.rows c.args.standing.now.account.viewer c.args.ask.now c.args.now p.built c.requires.viewer (rw c.in_ok-reader.ensures at told))
    c.request_page.ensures.told

pub returns-clause-lasts : goal.returns-clause-lasts
returns-clause-lasts g c =
    IfOk-weaker c.request_page.result _ _ (λ p lasts. rw c.in_ok-reader.ensures at lasts) c.request_page.ensures.lasts
