use Rattle.std.proofs.Common.{rules, ◌≡◌, ◌∙◌, ap, sym}
use Rattle.std.specs.Map.{lookup}
use Rattle.std.specs.BTreeMap.{is_at}
use Rattle.bucket_map.proofs.Search.{found_at, not_found}
use Rattle.bucket_map.proofs.bucket.Bucket.get.Goals as goal

pub returns-in-Ok : goal.returns-in-Ok
returns-in-Ok g c =
    let es = c.as_slice-entries.result.now in
    let k = c.args.key.now in
    let same : es ≡ c.args.self.now = search rules in
    sym (found_at g.K.Ord.cmp g.met.K.Ord.total g.met.K.Placed.exact es k c.in-Ok.at c.index-entries-at.result c.in-Ok.ensures.found)
    ∙ ap (λ l. lookup (is_at (g.K.Ord.cmp k)) l) same

pub returns-in-Err : goal.returns-in-Err
returns-in-Err g c =
    let es = c.as_slice-entries.result.now in
    let k = c.args.key.now in
    let same : es ≡ c.args.self.now = search rules in
    sym (not_found g.K.Ord.cmp g.met.K.Ord.total g.met.K.Placed.exact es k c.in-Err.field-0 c.in-Err.ensures.absent)
    ∙ ap (λ l. lookup (is_at (g.K.Ord.cmp k)) l) same
