use Rattle.std.proofs.Common.{◌∙◌, ap, arith}
use Rattle.atomic_table.specs.Seated.{TableId}
use Rattle.site_claims.specs.Claims.{ClaimerView, as_count}
use Rattle.site_claims.proofs.Moves.{asks}
use Rattle.site_claims.proofs.claims.Claimer.claim.Goals as goal

pub fetch_add-drawn-requires : goal.fetch_add-drawn-requires
fetch_add-drawn-requires c =
    let mine = c.self.invariant in
    let here = ap (λ (v : ClaimerView). v.table) c.self.view_is ∙ c.requires in
    let words = mine.0.0 in
    let same = ap (λ (t : TableId). t.words) here in
    let over = mine.3 ∙ ap as_count c.if-self.false in
    let room = mine.4 in (here, omega arith, asks c.args.room.now.key _ _ _ (omega arith))
