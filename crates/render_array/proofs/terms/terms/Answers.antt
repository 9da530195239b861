use Rattle.std.proofs.Common.{[], List, ℕ, length, sym, ◌∙◌}
use Rattle.std.specs.Prelude.{◌==◌, if◌then◌else◌}
use Rattle.content_state.specs.Plan.{Plan, Done, folded}
use Rattle.render_array.specs.Nodes.{terms, with_viewable_term, terms_shown}
use Rattle.render_canvas.proofs.Run.{next, done, if_true, if_false, over_text}
use Rattle.render_array.proofs.terms.terms.Goals as goal

-- a list of what was found, where there is some
shown_if : List ℕ → Plan (Unit {0})
shown_if found = if length found == 0 then Done tt else terms_shown found

pub returns-then-not-is_empty : goal.returns-then-not-is_empty
unfolding terms shown_if
returns-then-not-is_empty c =
    next _ (over_text (folded with_viewable_term []) c.viewable_terms-viewable.ensures c.as_slice.ensures)
    (over_text shown_if (if_false _ (sym c.is_empty.ensures ∙ c.if-not-is_empty.true) c.terms_shown.ensures) c.as_slice-found.ensures.value)

pub returns : goal.returns
unfolding terms shown_if
returns c =
    next _ (over_text (folded with_viewable_term []) c.viewable_terms-viewable.ensures c.as_slice.ensures)
    (over_text shown_if (if_true _ (sym c.is_empty.ensures ∙ c.if-not-is_empty.false) done) c.as_slice-found.ensures.value)
