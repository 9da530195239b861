use Rattle.std.proofs.Common.{◌≡◌, sym, subst, ◌∙◌, ap}
use Rattle.content_state.specs.Forms.{form_found, IsFormOf}
use Rattle.content_state.proofs.Named.{is_found, no_text}
use Rattle.content_state.proofs.forms.Forms.form_of.Goals as goal

pub returns-in-Ok : goal.returns-in-Ok
returns-in-Ok c =
    let is : c.find.result ≡ form_found c.args.path.now = c.find.ensures ∙ ap form_found c.in-Ok.ensures.cases.0 in
    subst (λ found. IsFormOf c.args.path.now found) (sym is) (is_found c.args.path.now)

pub returns-in-Err : goal.returns-in-Err
returns-in-Err c = no_text c.args.path.now c.in-Err.ensures.cases.0
