use Rattle.std.proofs.Common.{◌∙◌, ap, sym, min, arith}
use Rattle.site_claims.specs.Claims.{ClaimsView}
use Rattle.site_claims.proofs.Moves.{closes}
use Rattle.site_claims.proofs.claims.Claims.close.Goals as goal

-- what was drawn, up to the limit, is what was claimed
pub returns-clause-sum : goal.returns-clause-sum
returns-clause-sum c =
    let all = closes c.self.inside.table.shared.key _ _ _ _ c.close_with-closed.ensures.values.2 (ap (λ (v : ClaimsView). v.room) c.self.view_is ∙ c.requires) in
    c.min.ensures ∙ ap (min c.word-drawn.result) (sym c.self.invariant.3) ∙ all.1 c.word-drawn.result c.word-drawn.ensures ∙ ap (λ (v : ClaimsView). v.claims) c.self.view_is

pub returns-clause-all : goal.returns-clause-all
returns-clause-all c =
    λ above.
    let all = closes c.self.inside.table.shared.key _ _ _ _ c.close_with-closed.ensures.values.2 (ap (λ (v : ClaimsView). v.room) c.self.view_is ∙ c.requires) in
    let over = ap (λ (v : ClaimsView). v.over) c.self.view_is in
    c.min.ensures ∙ ap (min c.word-drawn.result) (sym c.self.invariant.3) ∙ all.1 c.word-drawn.result c.word-drawn.ensures ∙ all.2 (omega arith) ∙ c.self.invariant.3 ∙ ap (λ (v : ClaimsView). v.limit) c.self.view_is
