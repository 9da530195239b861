use Rattle.std.proofs.Common.{◌∙◌, ap, arith}
use Rattle.atomic_table.specs.Seated.{TableId}
use Rattle.site_claims.specs.Claims.{ClaimsView}
use Rattle.site_claims.proofs.Moves.{parts}
use Rattle.site_claims.proofs.claims.Claims.claimer.Goals as goal

pub split_seat-seat-requires : goal.split_seat-seat-requires
split_seat-seat-requires c =
    let mine = c.self.invariant in
    let words = mine.1.0 in
    let same = ap (λ (t : TableId). t.words) mine.0 in
    let room = ap (λ (v : ClaimsView). v.room) c.self.view_is in
    let some = c.requires.room in
    (mine.0, omega arith, parts c.self.inside.table.shared.key _ _ (omega arith) (ap (λ (v : ClaimsView). v.claims) c.self.view_is ∙ c.requires.none_back.0) (ap (λ (v : ClaimsView). v.over) c.self.view_is ∙ c.requires.none_back.1))
