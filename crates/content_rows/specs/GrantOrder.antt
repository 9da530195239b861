-- The order of grants.
use Rattle.std.specs.Prelude.{◌≡◌, ◌↔◌}
use Rattle.std.specs.Ordering.{nat_cmp, ordering_then}
use Rattle.std.specs.Cmp.Lexicographic.{slice_cmp}
use Rattle.std.specs.declared.cmp.Ordering.{Ordering}
use Rattle.std.specs.declared.cmp.Ordering.TheVariants.{Equal}
use Rattle.content_rows.specs.declared.row.Grant.{Grant}
use Rattle.content_rows.specs.contracts.row.GrantOrd.TheImpl as order

-- how a set of grants orders them
abbrev pub grant_cmp : Grant → Grant → Ordering
grant_cmp = order.ghosts.cmp

-- by the bytes of the realm, and then by number
abbrev pub order_of_grants : Grant → Grant → Ordering
order_of_grants a b = ordering_then (slice_cmp nat_cmp a.realm b.realm) (nat_cmp a.gid b.gid)

-- no two grants are level: the order tells every grant from every other
abbrev pub TellsGrantsApart : Type 0
TellsGrantsApart = (a b : Grant) → (grant_cmp a b ≡ Equal) ↔ (a ≡ b)
