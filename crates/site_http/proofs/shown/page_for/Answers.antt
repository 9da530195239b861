use Rattle.std.proofs.Common.{◌≡◌, ◌∙◌, sym, subst, None, rules}
use Rattle.std.proofs.lemmas.Result.{IfOk-weaker}
use Rattle.content_state.specs.declared.ask.Viewer.{Viewer}
use Rattle.content_state.specs.Viewer.{nobody}
use Rattle.cache_contexts.specs.Values.{visit_on}
use Rattle.element_entries.specs.Standing.{IsStandingOf}
use Rattle.kept_pages.specs.Needed.{OfRequest}
use Rattle.kept_pages.specs.Held.{Tells}
use Rattle.kept_pages.proofs.Current.{nobody_by}
use Rattle.site_http.proofs.Again.{recent_stay, stands_own}
use Rattle.site_http.proofs.shown.page_for.Goals as goal

pub render_page_for-requires-clause-standing : goal.render_page_for-requires-clause-standing
render_page_for-requires-clause-standing g c =
    let house = g.H.House.sees c.args.house.now in
    stands_own c.args.state.now c.in-Some.standing.now
    (c.in-Some.ensures house c.args.state.now (c.meet.ensures house c.requires.seen c.requires.recent) c.requires.seen (sym c.number.ensures))

pub render_page_for-requires-clause-viewer : goal.render_page_for-requires-clause-viewer
render_page_for-requires-clause-viewer g c =
    let house = g.H.House.sees c.args.house.now in
    let stands : IsStandingOf c.args.state.now nobody c.in-Some.standing.now = c.in-Some.ensures house c.args.state.now (c.meet.ensures house c.requires.seen c.requires.recent) c.requires.seen (sym c.number.ensures) in
    let none : c.args.viewer.now.session ≡ None = search rules in
    stands.account.viewer_is ∙ sym (nobody_by c.args.state.now.rows c.args.ask.now.cookie c.args.now c.args.viewer.now c.requires.viewer none) ∙ c.requires.viewer

pub returns-in-Some-clause-built : goal.returns-in-Some-clause-built
returns-in-Some-clause-built g c =
    let house = g.H.House.sees c.args.house.now in
    let state = c.args.state.now in
    let ask = c.args.ask.now in
    let moment = c.args.now in
    let stands : IsStandingOf state nobody c.in-Some.standing.now = c.in-Some.ensures house state (c.meet.ensures house c.requires.seen c.requires.recent) c.requires.seen (sym c.number.ensures) in
    let none : c.args.viewer.now.session ≡ None = search rules in
    let same : c.in-Some.standing.now.account.viewer ≡ c.args.viewer.now = stands.account.viewer_is ∙ sym (nobody_by state.rows ask.cookie moment c.args.viewer.now c.requires.viewer none) in
    IfOk-weaker c.render_page_for.result _ _
    (λ p told. subst (λ (w : Viewer). Tells (record { state = state; viewer = w; ask = ask; moment = moment }) (OfRequest (visit_on state w ask moment)) house (g.H.House.sees c.render_page_for.new.house) 0 p.built) same told)
    c.render_page_for.ensures.built

pub returns-in-Some-clause-recent : goal.returns-in-Some-clause-recent
returns-in-Some-clause-recent g c =
    recent_stay c.meet.new.self c.render_page_for.ensures.moves (c.meet.ensures (g.H.House.sees c.args.house.now) c.requires.seen c.requires.recent)

pub returns-then-is_some-clause-recent : goal.returns-then-is_some-clause-recent
returns-then-is_some-clause-recent g c = recent_stay c.args.recent.now c.render_page.ensures.moves c.requires.recent

pub returns-in-None-clause-recent : goal.returns-in-None-clause-recent
returns-in-None-clause-recent g c =
    recent_stay c.meet.new.self c.render_page-in-None.ensures.moves (c.meet.ensures (g.H.House.sees c.args.house.now) c.requires.seen c.requires.recent)
