-- The pages of two states that look alike are the same.
use Rattle.std.proofs.Common.{◌≡◌, ℕ, List, refl, sym, subst}
use Rattle.std.specs.Prelude.{Some, ◌↔◌}
use Rattle.content_rows.specs.declared.cell.Cell.{Cell}
use Rattle.content_rows.specs.declared.row.Row.{Row}
use Rattle.content_state.specs.declared.ask.Ask.{Ask}
use Rattle.content_state.specs.declared.ask.Viewer.{Viewer}
use Rattle.indexed_rows.specs.Rows.{row_at, InOrder}
use Rattle.content_state.specs.Context.{Visit}
use Rattle.content_state.specs.Viewer.{viewer_of}
use Rattle.render_array.specs.declared.element.Element.TheVariants as element
use Rattle.render_array.specs.Shown.{IsPage, visit_of}
use Rattle.render_array.specs.Whole.{whole}
use Rattle.page_secrets.proofs.Likeness.{LookAlikeAt}
use Rattle.page_secrets.proofs.Settled.{settled, shows_same}
use Rattle.page_secrets.proofs.SamePages.{same_whole}
use Rattle.page_secrets.proofs.SameReads.{same_viewer, visits_alike}

-- a visit of a viewer that is named
abbrev visit_by : List (Cell × Row) → Ask → ℕ → Viewer → Visit
visit_by rows ask now viewer = record { rows = rows; viewer = viewer; ask = ask; moment = now }

-- the page of a request is one plan on both, once what it reads is read
same_left : (rows rows' : List (Cell × Row)) (ask : Ask) (now : ℕ) → InOrder rows → InOrder rows'
    → ((c : Cell) → LookAlikeAt (viewer_of rows ask.cookie now) rows rows' c (row_at rows c) (row_at rows' c))
    → settled (visit_of rows ask now) (whole ask.path element.Page) ≡ settled (visit_of rows' ask now) (whole ask.path element.Page)
same_left rows rows' ask now one other alike =
    let viewer = viewer_of rows ask.cookie now in
    subst (λ w. settled (visit_of rows ask now) (whole ask.path element.Page) ≡ settled (visit_by rows' ask now w) (whole ask.path element.Page)) (same_viewer viewer rows rows' alike ask.cookie now)
    (same_whole (visit_of rows ask now) (visit_by rows' ask now viewer) (visits_alike viewer rows rows' alike one other ask now) ask.path)

page_there : (rows rows' : List (Cell × Row)) (ask : Ask) (now status : ℕ) (body : List ℕ)
    → settled (visit_of rows ask now) (whole ask.path element.Page) ≡ settled (visit_of rows' ask now) (whole ask.path element.Page)
    → IsPage rows ask now status body → IsPage rows' ask now status body
page_there rows rows' ask now status body same page = record {
  shown = page.shown;
  libraries = page.libraries;
  shows = shows_same (whole ask.path element.Page) (whole ask.path element.Page) (visit_of rows ask now) (visit_of rows' ask now) (Some status) page.shown page.libraries refl same page.shows;
  filled = page.filled;
}

-- a status and a body are those of a page on both or on neither
pub same_pages : (rows rows' : List (Cell × Row)) (ask : Ask) (now : ℕ) → InOrder rows → InOrder rows'
    → ((c : Cell) → LookAlikeAt (viewer_of rows ask.cookie now) rows rows' c (row_at rows c) (row_at rows' c))
    → (status : ℕ) (body : List ℕ) → IsPage rows ask now status body ↔ IsPage rows' ask now status body
same_pages rows rows' ask now one other alike status body =
    let same = same_left rows rows' ask now one other alike in
    (page_there rows rows' ask now status body same, page_there rows' rows ask now status body (sym same))
