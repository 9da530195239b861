use Rattle.std.proofs.Common.{◌≡◌, subst, sym, ◌∙◌, rules}
use Rattle.cacheability.specs.Tag.{tag_text}
use Rattle.keeper_sqlite.proofs.Turns.{memory_at_once, makes_by}
use Rattle.keeper_sqlite.proofs.keeping.set_count.Goals as goal
use Rattle.keeper_sqlite.specs.Batches.{SetsCount}
use Rattle.store_six.specs.At.{at}
use Rattle.store_six.specs.Tables.{IsSet, OnTags}

pub returns-in_default : goal.returns-in_default
returns-in_default g c = memory_at_once (at g.X.Six c.args.six.now) (SetsCount c.args.entry.now)

pub returns : goal.returns
returns g c =
    let text : c.as_slice.result.now ≡ tag_text c.args.entry.now.0 = search rules in
    makes_by (at g.X.Six c.args.six.now) (at g.X.Six c.set_tag.new.self) (OnTags (IsSet c.as_slice.result.now c.count_bytes.result)) (SetsCount c.args.entry.now)
    (λ x y set. (c.count_bytes.result, c.is_read_back.ensures, c.count_bytes.ensures, subst (λ t. OnTags (IsSet t c.count_bytes.result) x y) text set)) c.set_tag.result c.set_tag.ensures
