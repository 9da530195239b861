use Rattle.std.proofs.Common.{subst, sym}
use Rattle.indexed_rows.specs.Rows.{AreValidRows}
use Rattle.site_keeper.specs.Keeper.{held_of, with_batch}
use Rattle.sqlite.specs.Held.{state}
use Rattle.table_places.proofs.Standing.{still_telling}
use Rattle.table_places.proofs.keeper.TellingKeeperKeeper.apply.Goals as goal
use Rattle.table_places.specs.Telling.{Telling}

pub invariant_of-self-in-Ok : goal.invariant_of-self-in-Ok
invariant_of-self-in-Ok g c =
    let right = subst (λ (t : Telling _). AreValidRows (with_batch (held_of t.kept) c.args.batch.now).rows) (sym c.self.view_is) c.requires.right in
    still_telling (state g.S.Store c.self.inside.keeper.0.0) (state g.S.Store c.apply.new.self.0.0) c.self.inside.keeper.0.1 c.apply.new.self.0.1 c.args.batch.now c.in_ok-copy.copy
    (record { made_of = c.self.inside.made_of; batches = c.self.inside.batches.items }) c.self.inside.held c.in-Some.held c.reserve.new.self.items c.push_reserved.new.self.items c.in-Ok.field-0
    c.self.invariant c.in-Some.ensures right c.in_ok-copy.ensures c.reserve.ensures.items c.push_reserved.ensures.items c.in-Ok.ensures.applies
