use Rattle.std.proofs.Common.{sym, ◌∙◌, ap, subst, false, Option}
use Rattle.std.proofs.lemmas.Result.{IfOk-weaker}
use Rattle.std.specs.Option.{option_copied}
use Rattle.content_rows.specs.declared.row.Block.{Block}
use Rattle.indexed_rows.specs.Rows.{block_of}
use Rattle.page_meaning.specs.Lazy.{is_lazy_block, Tells}
use Rattle.page_meaning.proofs.Answering.{adds_tag, tells_nothing, block_told}
use Rattle.page_meaning.proofs.lazy.is_lazy.Goals as goal

pub returns-in-None : goal.returns-in-None
returns-in-None c = λ v on.
    block_told c.args.name v (option_copied c.block-tag.result.0) _ c.add_tag.new.self _ _ (c.block-tag.ensures.row ∙ ap (λ rows. block_of rows c.args.name) (sym on))
    (adds_tag _ _ _ _ _ c.block-tag.ensures.tag c.in_ok-add_tag.ensures.exactly c.in_ok-add_tag.ensures.ok)
    (subst (λ (o : Option Block). Tells (is_lazy_block o) v c.add_tag.new.self false c.add_tag.new.self) (sym (ap option_copied c.in-None.is)) (tells_nothing false v c.add_tag.new.self))

pub returns-in-Some : goal.returns-in-Some
returns-in-Some c =
    IfOk-weaker c.of_kind.result _ _
    (λ lazy of v on.
    block_told c.args.name v (option_copied c.block-tag.result.0) _ c.add_tag.new.self _ _ (c.block-tag.ensures.row ∙ ap (λ rows. block_of rows c.args.name) (sym on))
    (adds_tag _ _ _ _ _ c.block-tag.ensures.tag c.in_ok-add_tag.ensures.exactly c.in_ok-add_tag.ensures.ok)
    (subst (λ (o : Option Block). Tells (is_lazy_block o) v c.add_tag.new.self lazy c.of_kind.new.cacheability) (sym (ap option_copied c.in-Some.is)) (of v on)))
    c.of_kind.ensures
