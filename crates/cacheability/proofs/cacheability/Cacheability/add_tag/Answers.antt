use Rattle.std.proofs.lemmas.Result.{on_ok_weaker}
use Rattle.cacheability.specs.Tag.{tag_cmp}
use Rattle.cacheability.proofs.InOrder.{Contains-insert_key}
use Rattle.cacheability.proofs.Texts.{exact_tags}
use Rattle.cacheability.proofs.cacheability.Cacheability.add_tag.Goals as goal

pub returns-clause-exactly : goal.returns-clause-exactly
returns-clause-exactly c =
    on_ok_weaker c.insert.result (λ e. rw e (λ x. Contains-insert_key tag_cmp exact_tags c.args.self.now.tags c.args.tag x)) c.insert.ensures.ok
