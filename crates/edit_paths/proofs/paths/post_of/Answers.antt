use Rattle.std.proofs.Common.{◌∙◌, ap, sym}
use Rattle.edit_paths.specs.declared.paths.Subject.{Subject}
use Rattle.edit_paths.specs.Routes.{post_of}
use Rattle.edit_paths.proofs.paths.post_of.Goals as goal

pub returns-in-Site : goal.returns-in-Site
returns-in-Site c = c.fixed-in-Site.ensures ∙ ap (λ (s : Subject). post_of s c.args.path.now) (sym c.in-Site.is)

pub returns-in-Login : goal.returns-in-Login
returns-in-Login c = c.fixed-in-Login.ensures ∙ ap (λ (s : Subject). post_of s c.args.path.now) (sym c.in-Login.is)

pub returns-in-Cache : goal.returns-in-Cache
returns-in-Cache c = c.fixed-in-Cache.ensures ∙ ap (λ (s : Subject). post_of s c.args.path.now) (sym c.in-Cache.is)
