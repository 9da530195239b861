use Rattle.std.proofs.Common.{◌∙◌, ap, subst, List}
use Rattle.cacheability.specs.InOrder.{AddsItem}
use Rattle.cacheability.specs.declared.cacheability.Cacheability.{Cacheability}
use Rattle.cacheability.specs.declared.context.Context.{Context}
use Rattle.cacheability.specs.declared.context.Context.TheVariants as context
use Rattle.element_entries.proofs.Adding.{three_added}
use Rattle.element_entries.proofs.making.add_required.Goals as goal

pub returns-clause-tags : goal.returns-clause-tags
returns-clause-tags c =
    rw (ap (λ (x : Cacheability). x.tags) c.in_ok-add_context-3.ensures.ok ∙ ap (λ (x : Cacheability). x.tags) c.in_ok-add_context-2.ensures.ok ∙ ap (λ (x : Cacheability). x.tags) c.in_ok-add_context.ensures.ok)
    c.in_ok-add_tag.ensures.exactly

pub returns-clause-contexts : goal.returns-clause-contexts
returns-clause-contexts c =
    three_added _ _ _ _ context.Language context.Theme context.UserPermissions
    (subst (λ (l : List Context). AddsItem l context.Language c.add_context.new.self.contexts) (ap (λ (x : Cacheability). x.contexts) c.in_ok-add_tag.ensures.ok) c.in_ok-add_context.ensures.exactly)
    c.in_ok-add_context-2.ensures.exactly c.in_ok-add_context-3.ensures.exactly
