-- Decisions about access that are noted in what is being put together.
use Rattle.std.specs.Prelude.{ℕ, [], ◌∷◌, Bool, Result, Ok, Err, if◌then◌else◌}
use Rattle.std.specs.List.{list_any}
use Rattle.cacheability.specs.declared.op.Op.{Op}
use Rattle.access_result.specs.declared.reason.Reason.{Reason}
use Rattle.access_result.specs.declared.reason.Reason.TheVariants as reason
use Rattle.site_access.specs.Access.{Access, Allowed, Denied}

-- what code hands on: allowed, or denied for a reason
abbrev pub decision_of : Result (Unit {0}) Reason → Access
decision_of (Ok x) = Allowed
decision_of (Err why) = Denied why

-- what the vote of a node's rules and that of its grants decide
abbrev pub by_two_votes : Bool → Bool → Op → ℕ → Access
by_two_votes ruled granted op n =
    if list_any (λ vote. vote) (ruled ∷ granted ∷ []) then Allowed else Denied (reason.Grant op n)
