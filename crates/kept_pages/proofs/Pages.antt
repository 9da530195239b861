-- The whole page is the page of the request.
use Rattle.std.proofs.Common.{ℕ, ◌≡◌, ◌∙◌, List, ap, sym, subst, arith}
use Rattle.std.specs.Prelude.{Some, IsTrue, Option}
use Rattle.content_state.specs.declared.ask.Viewer.{Viewer}
use Rattle.content_state.specs.Context.{Visit}
use Rattle.content_state.specs.Viewer.{viewer_of}
use Rattle.content_state.specs.declared.element.Library.{Library}
use Rattle.content_state.specs.Plan.{Piece, Made}
use Rattle.render_array.specs.declared.element.Element.TheVariants as element
use Rattle.render_array.specs.Whole.{whole}
use Rattle.render_array.specs.Shown.{meta_text, OnlyMeta, IsFilled, IsPageStatus, is_page_status, IsPage}
use Rattle.render_array.proofs.Statuses.{page_status}
use Rattle.render_array.proofs.Leaves.{page_closed}
use Rattle.renderer.proofs.Texts.{same_meta}
use Rattle.element_entries.specs.Readers.{Reader}
use Rattle.element_entries.specs.Keys.{visit}
use Rattle.kept_pages.specs.Joins.{MakesPage}
use Rattle.kept_pages.specs.Lasting.{Lasts}
use Rattle.kept_pages.proofs.Lasting.{made_later}

module _ (r : Reader) (status : Option ℕ) (pieces : List Piece) (libraries : List Library) (last : ℕ) (is : MakesPage (visit r) status pieces libraries last) where
  abbrev here : Viewer → Visit
  here w = record { rows = r.state.rows; viewer = w; ask = r.ask; moment = r.moment }

  abbrev then : ℕ → Viewer → Visit
  then moment w = record { rows = r.state.rows; viewer = w; ask = r.ask; moment = moment }

  pub status_there : IsPageStatus status
  status_there = page_status r.ask.path (visit r) status pieces is.makes.attached is.needs is.makes.made

  pub status_is : (number : ℕ) → status ≡ Some number → IsTrue (is_page_status number)
  status_is number same = subst IsPageStatus same status_there

  pub page_is : (number : ℕ) (body : List ℕ) → r.viewer ≡ viewer_of r.state.rows r.ask.cookie r.moment → status ≡ Some number
      → (OnlyMeta pieces → IsFilled (meta_text libraries) pieces body) → IsPage r.state.rows r.ask r.moment number body
  page_is number body named same text = record {
    shown = pieces;
    libraries = is.makes.attached;
    shows = record {
      needs = is.needs;
      not_over = is.not_over;
      made = subst (λ (w : Viewer). Made (whole r.ask.path element.Page) (here w) (Some number) pieces is.makes.attached is.needs) named
          (subst (λ (s : Option ℕ). Made (whole r.ask.path element.Page) (visit r) s pieces is.makes.attached is.needs) same is.makes.made);
    };
    filled = subst (λ m. IsFilled m pieces body) (sym (same_meta is.makes.attached libraries is.makes.same))
        (text (page_closed r.ask.path (visit r) status pieces is.makes.attached is.needs is.makes.made));
  }

  -- and at a later moment, for whom no cookie names
  pub page_lasts : (number : ℕ) (body : List ℕ) → r.viewer ≡ viewer_of r.state.rows r.ask.cookie r.moment → status ≡ Some number
      → (OnlyMeta pieces → IsFilled (meta_text libraries) pieces body) → Lasts r.state r.ask r.moment last number body
  page_lasts number body named same text nobody_asks later after until = record {
    shown = pieces;
    libraries = is.makes.attached;
    shows = record {
      needs = is.needs;
      not_over = (let same_last = is.until in omega arith);
      made = subst (λ (w : Viewer). Made (whole r.ask.path element.Page) (then later w) (Some number) pieces is.makes.attached is.needs)
          (named ∙ ap (λ (cookie : Option (List ℕ)). viewer_of r.state.rows cookie r.moment) nobody_asks ∙ ap (λ (cookie : Option (List ℕ)). viewer_of r.state.rows cookie later) (sym nobody_asks))
          (subst (λ (s : Option ℕ). Made (whole r.ask.path element.Page) (then later r.viewer) s pieces is.makes.attached is.needs) same
          (made_later (whole r.ask.path element.Page) (visit r) later status pieces is.makes.attached is.needs after is.makes.made));
    };
    filled = subst (λ m. IsFilled m pieces body) (sym (same_meta is.makes.attached libraries is.makes.same))
        (text (page_closed r.ask.path (visit r) status pieces is.makes.attached is.needs is.makes.made));
  }
