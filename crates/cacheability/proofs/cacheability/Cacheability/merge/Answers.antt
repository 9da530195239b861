use Rattle.std.proofs.Common.{ap}
use Rattle.cacheability.specs.declared.cacheability.Cacheability.{Cacheability}
use Rattle.cacheability.specs.Tag.{tag_cmp}
use Rattle.cacheability.specs.Context.{context_cmp}
use Rattle.cacheability.proofs.InOrder.{Contains-union}
use Rattle.cacheability.proofs.Texts.{exact_tags, exact_contexts}
use Rattle.cacheability.proofs.cacheability.Cacheability.merge.Goals as goal

pub returns-clause-tags : goal.returns-clause-tags
returns-clause-tags c =
    λ x. rw (ap (λ (both : Cacheability). both.tags) c.in_ok-join.ensures.ok) (Contains-union tag_cmp exact_tags c.args.self.now.tags c.args.other.now.tags x)

pub returns-clause-contexts : goal.returns-clause-contexts
returns-clause-contexts c =
    λ x. rw (ap (λ (both : Cacheability). both.contexts) c.in_ok-join.ensures.ok) (Contains-union context_cmp exact_contexts c.args.self.now.contexts c.args.other.now.contexts x)
