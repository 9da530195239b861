-- The order of grants is total, and tells every two grants apart.
use Rattle.std.proofs.Common.{◌≡◌, true, rules, subst, ◌∙◌, ap}
use Rattle.std.specs.Cmp.{IsTotalOrder, tied_itself}
use Rattle.std.specs.Ordering.{is_eq}
use Rattle.std.specs.declared.cmp.Ordering.TheVariants.{Equal}
use Rattle.content_rows.specs.declared.row.Grant.{Grant}
use Rattle.content_rows.specs.GrantOrder.{grant_cmp, TellsGrantsApart}
use Rattle.content_rows.specs.contracts.row.GrantPartialEq.TheImpl as same
use Rattle.content_rows.specs.contracts.row.GrantOrd.TheImpl.Laws as laws

-- `==` answers true at equal grants alone
same_grant : (a b : Grant) → same.ghosts.eq a b ≡ true → a ≡ b
same_grant a b h = search rules

grant_cmp_total : IsTotalOrder grant_cmp
grant_cmp_total = laws.total-law

pub tells_grants_apart : TellsGrantsApart
tells_grants_apart a b = (
  λ level. same_grant a b (laws.matches_eq-law a b ∙ ap is_eq level),
  λ same. subst (λ x. grant_cmp a x ≡ Equal) same (tied_itself grant_cmp_total a),
)
