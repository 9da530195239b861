use Rattle.content_state.specs.Forms.{form_rows}
use Rattle.content_state.proofs.forms.router_of_forms.Goals as goal

pub returns : goal.returns
unfolding form_rows
returns c =
    c.with_form.ensures _
    (c.with_form-router-3.ensures _
    (c.with_form-router-2.ensures _
    (c.with_form-router.ensures _
    c.new.ensures)))
