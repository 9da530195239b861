-- What a router holds once a route is added.
use Rattle.std.proofs.Common.{◌≡◌}
use Rattle.std.specs.Prelude.{Result, Ok, Err}
use Rattle.matchit.specs.Route.{Scan}
use Rattle.matchit.specs.Router.{InsertsRead}
use Rattle.matchit.specs.declared.error.InsertError.{InsertError}
use Rattle.edit_paths.specs.declared.paths.Subject.{Subject}
use Rattle.edit_paths.specs.Routes.{Rows, placed_if}

pub added : (scan : Result Scan InsertError) (about : Subject) (old new : Rows) → InsertsRead scan about old new (Ok tt) → new ≡ placed_if scan about old
added (Ok scan) about old new inserted = inserted.1
added (Err fault) about old new inserted = inserted.0
