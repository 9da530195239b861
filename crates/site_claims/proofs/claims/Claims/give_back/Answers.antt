use Rattle.std.proofs.Common.{◌∙◌, ap, sym, arith}
use Rattle.atomic_table.specs.Seated.{TableId}
use Rattle.site_claims.specs.Claims.{ClaimsView, ClaimerView}
use Rattle.site_claims.proofs.Moves.{joins}
use Rattle.site_claims.proofs.claims.Claims.give_back.Goals as goal

pub join_seat-requires : goal.join_seat-requires
join_seat-requires c =
    let mine = c.self.invariant in
    let words = mine.1.0 in
    let same = ap (λ (t : TableId). t.words) mine.0 in
    let limit = mine.3 in
    let above = mine.4 in
    let here = ap (λ (v : ClaimerView). v.table) c.claimer.view_is ∙ c.requires ∙ sym (ap (λ (v : ClaimsView). v.table) c.self.view_is) ∙ mine.0 in
    (mine.0, here, c.claimer.invariant.1, omega arith, joins c.self.inside.table.shared.key _ _ _ _ (omega arith))
