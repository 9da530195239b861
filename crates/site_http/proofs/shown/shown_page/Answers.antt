use Rattle.std.proofs.Common.{ℕ, ◌≡◌, ◌∙◌, ◌+◌, [], ◌∷◌, Option, Some, ap, arith, refl, subst}
use Rattle.std.specs.Prelude.{min}
use Rattle.content_state.specs.declared.ask.Viewer.{Viewer}
use Rattle.content_state.specs.Viewer.{viewer_of}
use Rattle.cache_contexts.specs.Values.{visit_on}
use Rattle.element_entries.specs.Readers.{Reader}
use Rattle.kept_pages.specs.Needed.{OfRequest}
use Rattle.kept_pages.specs.Went.{number_built}
use Rattle.site_http.specs.Kept.{Need, KeepsFor, shelves_of}
use Rattle.site_http.proofs.Kept.{keeps_page}
use Rattle.site_late.proofs.Statuses.{page_replies}
use Rattle.site_http.proofs.shown.shown_page.Goals as goal

pub returns-clause-status : goal.returns-clause-status
returns-clause-status g c = page_replies c.in_ok-page.page.status c.in_ok-page.ensures.status

pub returns-clause-built_for : goal.returns-clause-built_for
returns-clause-built_for g c =
    let told = c.in_ok-page.ensures.built in
    let none : 0 + number_built told.tree ≡ number_built told.tree = omega arith in
    let state = c.args.state.now in
    let ask = c.args.ask.now in
    let moment = c.args.now in
    let reader : Viewer → Reader = λ v. record { state = state; viewer = v; ask = ask; moment = moment } in
    let need : Viewer → Option Need = λ v. Some (record { reader = reader v; went = told.tree }) in
    record {
      needs = need (viewer_of state.rows ask.cookie moment) ∷ [];
      holds = record {
        went = told.tree;
        needed = subst (λ (v : Viewer). OfRequest (visit_on state v ask moment) told.tree) c.viewer_of-viewer.ensures told.shape;
        counted = told.counted 0 refl ∙ ap (λ (n : ℕ). min n 18446744073709551615) none;
        told = refl;
      };
      kept = subst (λ (v : Viewer). KeepsFor (need v ∷ []) (shelves_of (g.H.House.sees c.args.house.now)) (shelves_of (g.H.House.sees c.page_for.new.house))) c.viewer_of-viewer.ensures
          (keeps_page (reader c.viewer_of-viewer.result) told.tree c.in_ok-page.ensures.moves told.goes);
    }
