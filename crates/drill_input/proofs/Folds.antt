-- One user, one node and one request more.
use Rattle.std.proofs.Common.{◌≡◌, ◌+◌, ℕ, ap, add-one, refl}
use Rattle.drill_input.specs.Asked.{and_request, asked}
use Rattle.drill_input.specs.SiteDrawn.{SiteDrawn, and_node, and_nodes, and_user, and_users}

pub no_users : (start : SiteDrawn) → and_users 0 start ≡ start
unfolding and_users
no_users start = refl

pub next_users : (count : ℕ) (start : SiteDrawn) → and_users (count + 1) start ≡ and_user (count + 2) (and_users count start)
unfolding and_users
next_users count start = ap (λ n. and_users n start) (add-one count)

pub no_nodes : (start : SiteDrawn) → and_nodes 0 start ≡ start
unfolding and_nodes
no_nodes start = refl

pub next_nodes : (count : ℕ) (start : SiteDrawn) → and_nodes (count + 1) start ≡ and_node (count + 2) (and_nodes count start)
unfolding and_nodes
next_nodes count start = ap (λ n. and_nodes n start) (add-one count)

pub next_asked : (count seed : ℕ) → asked (count + 1) seed ≡ and_request (asked count seed)
unfolding asked
next_asked count seed = ap (λ n. asked n seed) (add-one count)
