use Rattle.std.proofs.Common.{◌∙◌, ap, subst, sym}
use Rattle.site_keeper.specs.Keeper.{held_of}
use Rattle.sqlite.specs.Held.{Held, state}
use Rattle.table_laws.specs.Stored.{tables_of}
use Rattle.table_places.proofs.Standing.{holds_by}
use Rattle.table_places.proofs.keeper.TellingKeeper.into_connection.Goals as goal
use Rattle.table_places.specs.Telling.{StandsIfClean, Telling}

pub returns-clause-holds : goal.returns-clause-holds
returns-clause-holds g c =
    let stands = subst (λ (t : Telling _). StandsIfClean (state g.S.Store t.conn) (held_of t.kept)) c.self.view_is c.self.invariant.stands in
    let same = c.into_connection.ensures ∙ ap (λ (t : Telling _). t.conn) c.self.view_is in
    holds_by (state g.S.Store c.into_connection.result) (held_of c.args.self.kept) (λ clean usable t left. left.2 ∙ ap tables_of (g.met.S.Store.settled c.into_connection.result.store left.0 usable left.1))
    (subst (λ (h : Held _). StandsIfClean (state g.S.Store h) (held_of c.args.self.kept)) (sym same) stands)
