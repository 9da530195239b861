-- The whole page is the page of the request.
use Rattle.std.proofs.Common.{ℕ, ◌≡◌, List, sym, ◌∙◌, ap, subst, min}
use Rattle.std.specs.Prelude.{Some, IsTrue, Option}
use Rattle.content_rows.specs.declared.cell.Cell.{Cell}
use Rattle.content_rows.specs.declared.row.Row.{Row}
use Rattle.html_out.specs.declared.part.Segment.{Segment}
use Rattle.html_out.specs.Segment.{parts_of}
use Rattle.content_state.specs.declared.ask.Ask.{Ask}
use Rattle.content_state.specs.declared.ask.Viewer.{Viewer}
use Rattle.content_state.specs.declared.element.Hole.{Hole}
use Rattle.content_state.specs.Context.{Visit}
use Rattle.content_state.specs.Viewer.{viewer_of}
use Rattle.content_state.specs.Plan.{Made}
use Rattle.content_state.specs.Places.{MakesWhole}
use Rattle.render_array.specs.declared.element.Element.TheVariants as element
use Rattle.render_canvas.specs.Board.{pieces_of}
use Rattle.render_array.specs.Whole.{whole, element_count}
use Rattle.render_array.specs.Shown.{meta_text, OnlyMeta, IsFilled, IsPageStatus, is_page_status, IsPage, page_count}
use Rattle.render_array.proofs.Statuses.{page_status}
use Rattle.render_array.proofs.Leaves.{page_closed}
use Rattle.renderer.specs.declared.filled.Filled.{Filled}
use Rattle.renderer.specs.Filled.{needs_of, IsWhole}
use Rattle.renderer.proofs.Texts.{same_meta}

module _ (rows : List (Cell × Row)) (viewer : Viewer) (ask : Ask) (moment : ℕ) (f : Filled) (named : viewer ≡ viewer_of rows ask.cookie moment) where
  abbrev here : Viewer → Visit
  here w = record { rows = rows; viewer = w; ask = ask; moment = moment }

  pub page_is : (status : ℕ) (parts : List (Segment Hole)) (body : List ℕ)
      → IsWhole (whole ask.path element.Page) (here viewer) (element_count ask.path (here viewer) element.Page) f
      → f.status ≡ Some status → parts_of parts ≡ f.segments
      → (OnlyMeta (pieces_of (parts_of parts)) → IsFilled (meta_text f.libraries.items) (pieces_of (parts_of parts)) body)
      → IsPage rows ask moment status body
  page_is status parts body is status_is same text = record {
    shown = pieces_of f.segments;
    libraries = made.attached;
    shows = record {
      needs = needs_of f;
      not_over = is.not_over;
      made = subst (λ (w : Viewer). Made (whole ask.path element.Page) (here w) (Some status) (pieces_of f.segments) made.attached (needs_of f)) named
          (subst (λ (s : Option ℕ). Made (whole ask.path element.Page) (here viewer) s (pieces_of f.segments) made.attached (needs_of f)) status_is made.made);
    };
    filled = subst (λ m. IsFilled m (pieces_of f.segments) body) (sym (same_meta made.attached f.libraries.items made.same))
        (subst (λ p. OnlyMeta (pieces_of p) → IsFilled (meta_text f.libraries.items) (pieces_of p) body) same text
        (page_closed ask.path (here viewer) f.status (pieces_of f.segments) made.attached (needs_of f) made.made));
  }
    where
      made : MakesWhole (whole ask.path element.Page) (here viewer) f.status (pieces_of f.segments) f.libraries.items (needs_of f)
      made = is.makes

  pub status_of : (status : ℕ) → IsWhole (whole ask.path element.Page) (here viewer) (element_count ask.path (here viewer) element.Page) f → f.status ≡ Some status → IsTrue (is_page_status status)
  status_of status is status_is =
      subst IsPageStatus status_is (page_status ask.path (here viewer) f.status (pieces_of f.segments) is.makes.attached (needs_of f) is.makes.made)

  pub count_of : IsWhole (whole ask.path element.Page) (here viewer) (element_count ask.path (here viewer) element.Page) f → f.built ≡ min (page_count rows ask moment) 18446744073709551615
  count_of is = is.counted ∙ ap (λ w. min (element_count ask.path (here w) element.Page) 18446744073709551615) named
