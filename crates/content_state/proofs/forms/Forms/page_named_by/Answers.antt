use Rattle.std.proofs.Common.{Some, subst, ◌∙◌}
use Rattle.content_state.specs.Forms.{IsFormOf}
use Rattle.content_state.proofs.Named.{named_as_found}
use Rattle.content_state.proofs.forms.Forms.page_named_by.Goals as goal

pub returns-in-Some : goal.returns-in-Some
returns-in-Some c =
    c.named_as.ensures
    ∙ named_as_found c.args.path.now (Some c.in-Some.form) (subst (λ found. IsFormOf c.args.path.now found) c.in-Some.is c.form_of.ensures)
