use Rattle.std.proofs.lemmas.Result.{on_ok_weaker}
use Rattle.cacheability.specs.Context.{context_cmp}
use Rattle.cacheability.proofs.InOrder.{Contains-insert_key}
use Rattle.cacheability.proofs.Texts.{exact_contexts}
use Rattle.cacheability.proofs.cacheability.Cacheability.add_context.Goals as goal

pub returns-clause-exactly : goal.returns-clause-exactly
returns-clause-exactly c =
    on_ok_weaker c.insert.result (λ e. rw e (λ x. Contains-insert_key context_cmp exact_contexts c.args.self.now.contexts c.args.context x)) c.insert.ensures.ok
