use Rattle.std.proofs.Common.{rules, ◌≡◌, ◌∙◌, subst}
use Rattle.std.specs.Prelude.{OnOk}
use Rattle.index_law.specs.Index.{keys_at}
use Rattle.indexed_rows.specs.Rows.{row_at, InOrder}
use Rattle.indexed_rows.proofs.IndexLaws.{followed}
use Rattle.indexed_rows.proofs.indexes.follow.Goals as goal

pub returns : goal.returns
returns g c =
    let keys = g.K.Key.keys in
    let rows = c.args.rows.now in
    let write = c.args.write.now in
    let ordered : InOrder rows = search rules in
    let is_old : c.as_slice.result.now ≡ keys_at keys write.cell (row_at rows write.cell) = search rules in
    let is_new : c.as_slice-2.result.now ≡ keys_at keys write.cell write.row = c.as_slice-2.ensures.value ∙ c.in_ok-new.ensures in
    let kept = followed g.met.K.Ord.total g.met.K.Key.exact keys g.K.Key.owner g.met.K.Key.named rows ordered write c.args.set.now c.as_slice.result.now c.as_slice-2.result.now c.requires is_old is_new in
    subst (λ l. OnOk c.exchange.result (c.exchange.new.self ≡ l)) kept c.exchange.ensures.ok
