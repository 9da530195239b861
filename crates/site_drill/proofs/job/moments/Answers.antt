-- By hand, since a search takes the moments of the last request apart, one by one.
use Rattle.std.proofs.Common.{◌≡◌, ◌∙◌, ◌++◌, ◌+◌, ◌∷◌, [], List, ℕ, ap, sym, arith}
use Rattle.site_drill.specs.Drill.{moments_to}
use Rattle.site_drill.proofs.Moments.{no_moment, next_moment}
use Rattle.site_drill.proofs.job.moments.Goals as goal

pub requests-init : goal.requests-init
requests-init c = c.new-moments.ensures.items ∙ sym no_moment

pub requests-preserved : goal.requests-preserved
requests-preserved c =
    c.in_ok-push.ensures.items ∙ ap (λ (l : List ℕ). l ++ (1000 + c.requests.index) ∷ []) c.requests.invariant ∙ sym (next_moment c.requests.index)

pub returns : goal.returns
returns c =
    let all : c.requests.index ≡ 900 = omega (arith, c.requests.auto.index-end, c.requests-test.false) in
    c.requests.invariant ∙ ap moments_to all
