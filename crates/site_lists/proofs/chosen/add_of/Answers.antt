use Rattle.std.proofs.Common.{arith, List, ℕ, ◌+◌, ◌≤◌, sym, subst, length, take, flat_map}
use Rattle.std.proofs.lemmas.List.Folds.{length-flat_map-take}
use Rattle.site_lists.specs.Chosen.{ranks_typed}
use Rattle.site_lists.proofs.chosen.add_of.Goals as goal

pub returns-in_err-add_typed-clause-reads : goal.returns-in_err-add_typed-clause-reads
returns-in_err-add_typed-clause-reads g c =
    let f = ranks_typed c.args.asked.now.state.now.rows in
    let types = c.args.types.now in
    let i = c.types.node_type-index in
    let own = c.node_type-item.result in
    let most : length (flat_map f (take i types)) + length (f own) ≤ length (flat_map f types) =
    subst (λ (t : List ℕ). length (flat_map f (take i types)) + length (f t) ≤ length (flat_map f types)) (sym c.node_type-item.is) (length-flat_map-take f types i own c.types-test.true) in
    omega (arith, most, c.types.invariant.reads, c.add_typed.ensures.reads)
