use Rattle.std.proofs.Common.{refl, ap, ◌∙◌, rules, ◌≡◌, ◌++◌, ◌+◌, List, ℕ, codes}
use Rattle.drill_input.specs.Draws.{drawn, next}
use Rattle.drill_input.specs.Asked.{Asked, and_listing_page, get_text}
use Rattle.drill_input.specs.SiteDrawn.{numbered}
use Rattle.drill_input.proofs.asked.Requests.add_listing_page.Goals as goal

one_more : (so_far : Asked) (text : List ℕ) (edited : List ℕ) (first second page viewer : ℕ) (request : List ℕ)
    → edited ≡ so_far.edited → first ≡ next so_far.seed → page ≡ drawn 21 (next so_far.seed) → second ≡ next first → viewer ≡ drawn 9 (next first)
    → request ≡ get_text (numbered (codes "/node?page=") page) (2 + viewer) → text ≡ so_far.text ++ request
    → record { text = text; edited = edited; seed = second } ≡ and_listing_page so_far
one_more so_far text edited first second page viewer request e f p s v r t = cc

pub returns : goal.returns
returns c =
    let so_far : Asked = record { text = c.self.inside.text.items; edited = c.self.inside.edited.items; seed = c.self.inside.draws } in
    let same : so_far ≡ c.args.self.now = c.self.view_is in
    let one : record { text = c.extend_from_slice.new.self.items; edited = c.self.inside.edited.items; seed = c.draw-viewer.new.self } ≡ and_listing_page so_far =
    one_more so_far _ _ c.draw-page.new.self _ c.draw-page.result c.draw-viewer.result c.in_ok-request.request.items refl c.draw-page.ensures.moves c.draw-page.ensures.number c.draw-viewer.ensures.moves c.draw-viewer.ensures.number c.in_ok-request.ensures (search rules) in
    one ∙ ap and_listing_page same
