use Rattle.std.proofs.lemmas.Result.{IfOk-weaker}
use Rattle.render_array.specs.declared.element.Element.TheVariants as element
use Rattle.site_rehearsal.proofs.Builds.{shown_as, page_text_of}
use Rattle.site_rehearsal.proofs.building.page_text.Goals as goal

pub returns-clause-shown : goal.returns-clause-shown
returns-clause-shown c =
    let r = c.args.visitor.now in
    IfOk-weaker c.text_of.result _ _ (λ text filled. shown_as element.Page r.state.now r.viewer.now r.ask.now r.moment c.in_ok-page.page text c.requires.viewer c.in_ok-page.ensures.makes filled) c.text_of.ensures

pub returns-clause-filled : goal.returns-clause-filled
returns-clause-filled c =
    let r = c.args.visitor.now in
    IfOk-weaker c.text_of.result _ _ (λ text filled. page_text_of r.ask.now r.state.now r.viewer.now r.moment c.args.frame.now c.in_ok-page.page text c.in_ok-page.ensures.makes c.in_ok-page.ensures.fills filled) c.text_of.ensures
