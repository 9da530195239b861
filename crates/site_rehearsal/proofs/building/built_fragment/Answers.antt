use Rattle.std.proofs.Common.{sym, subst}
use Rattle.std.specs.Arc.{arc_value}
use Rattle.render_array.specs.declared.element.Element.{Element}
use Rattle.render_array.specs.declared.element.Element.TheVariants as element
use Rattle.site_rehearsal.specs.Building.{IsKeptOf}
use Rattle.site_rehearsal.proofs.Builds.{kept_fragment, whole_makes, shown_as, fragment_text, text_of_draft}
use Rattle.site_rehearsal.proofs.building.built_fragment.Goals as goal

pub draft_of-requires-clause-kept : goal.draft_of-requires-clause-kept
draft_of-requires-clause-kept c =
    subst (λ (e : Element). IsKeptOf e (arc_value c.args.state.now) c.viewer_of-viewer.result c.args.ask.now c.args.now c.in_ok-filled.filled) (sym c.element_of-2.ensures)
    (kept_fragment c.args.fragment.now (arc_value c.args.state.now) c.viewer_of-viewer.result c.args.ask.now c.args.now _ c.in_ok-filled.filled
    (rw c.deref-2.ensures at (rw c.element_of.ensures at c.in_ok-filled.ensures)))

pub returns-clause-shown : goal.returns-clause-shown
returns-clause-shown c =
    shown_as (element.Fragment c.args.fragment.now) (arc_value c.args.state.now) c.viewer_of-viewer.result c.args.ask.now c.args.now c.in_ok-filled.filled c.in_ok-text.text
    (rw c.deref.ensures at c.viewer_of-viewer.ensures) (whole_makes (rw c.deref-2.ensures at (rw c.element_of.ensures at c.in_ok-filled.ensures))) c.in_ok-text.ensures

pub returns-clause-text : goal.returns-clause-text
returns-clause-text c =
    let state = arc_value c.args.state.now in
    let viewer = c.viewer_of-viewer.result in
    text_of_draft (element.Fragment c.args.fragment.now) state viewer c.args.ask.now c.args.now c.in_ok-filled.filled c.in_ok-draft.draft c.in_ok-text.text
    (rw c.deref.ensures at c.viewer_of-viewer.ensures) (rw c.element_of-2.ensures at c.in_ok-draft.ensures.built) c.in_ok-draft.ensures.has
    (fragment_text c.args.fragment.now c.args.ask.now state viewer c.args.now c.in_ok-filled.filled c.in_ok-text.text
    (whole_makes (rw c.deref-2.ensures at (rw c.element_of.ensures at c.in_ok-filled.ensures))) c.in_ok-text.ensures)
