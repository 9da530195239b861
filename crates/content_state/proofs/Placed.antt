-- What a route that was taken makes of a router's rows.
use Rattle.std.specs.Prelude.{Result, Ok, Err}
use Rattle.std.proofs.Common.{◌≡◌, ◌∙◌, ap}
use Rattle.matchit.specs.Route.{Scan}
use Rattle.matchit.specs.Router.{RouteOf, InsertsRead}
use Rattle.matchit.specs.Rows.{RowsOf}
use Rattle.matchit.specs.declared.error.InsertError.{InsertError}
use Rattle.content_state.specs.declared.forms.Form.{Form}
use Rattle.content_state.specs.Forms.{placed_if}

pub placed_where_taken : (read : Result Scan InsertError) (form : Form) (old new rows : RowsOf (RouteOf Form)) (u : Unit {0}) →
    old ≡ rows → InsertsRead read form old new (Ok u) → new ≡ placed_if read form rows
placed_where_taken (Ok scan) form old new rows u e h = h.1 ∙ ap (placed_if (Ok scan) form) e
placed_where_taken (Err fault) form old new rows u e h = h.0 ∙ e
