use Rattle.std.proofs.Common.{◌∙◌, ap, ℕ, List}
use Rattle.std.specs.Prelude.{Some, None}
use Rattle.edit_paths.specs.Routes.{post_of}
use Rattle.edit_paths.proofs.Alone.{post_chosen}
use Rattle.edit_paths.proofs.paths.post_edit.Goals as goal

pub returns-in_err-about_of : goal.returns-in_err-about_of
returns-in_err-about_of c =
    c.from_residual.ensures ∙ post_chosen c.args.router.now c.args.path.now None c.requires c.type_inv.path c.in_err-about_of.ensures

pub returns : goal.returns
returns c =
    c.post_of.ensures ∙ ap (λ (p : List ℕ). post_of c.in_ok-about_of.field-0 p) c.as_bytes.ensures.value
    ∙ post_chosen c.args.router.now c.args.path.now (Some c.in_ok-about_of.field-0) c.requires c.type_inv.path c.in_ok-about_of.ensures
