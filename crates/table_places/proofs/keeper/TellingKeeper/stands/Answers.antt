use Rattle.std.proofs.Common.{◌∙◌, ap, subst}
use Rattle.site_keeper.specs.Keeper.{held_of}
use Rattle.sqlite.specs.Held.{state}
use Rattle.table_laws.specs.Stored.{tables_of}
use Rattle.table_places.proofs.Standing.{holds_by}
use Rattle.table_places.proofs.keeper.TellingKeeper.stands.Goals as goal
use Rattle.table_places.specs.Telling.{StandsIfClean, Telling}

pub returns : goal.returns
returns g c =
    holds_by (state g.S.Store c.args.self.now.conn) (held_of c.args.self.now.kept) (λ clean usable t left. left.2 ∙ ap tables_of (g.met.S.Store.settled c.args.self.now.conn.store left.0 usable left.1))
    (subst (λ (t : Telling _). StandsIfClean (state g.S.Store t.conn) (held_of t.kept)) c.self.view_is c.self.invariant.stands)
