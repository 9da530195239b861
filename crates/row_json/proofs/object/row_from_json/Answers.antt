use Rattle.std.proofs.Common.{◌∙◌, sym}
use Rattle.serde_json.specs.View.{view}
use Rattle.row_json.proofs.Back.{no_row}
use Rattle.row_json.proofs.Told.{told}
use Rattle.row_json.proofs.object.row_from_json.Goals as goal

pub returns-in-Right-clause-right : goal.returns-in-Right-clause-right
returns-in-Right-clause-right c =
    (told (view c.args.value.now) c.in-Right.row.0 c.in-Right.row.1 c.walk.ensures (sym c.in_ok-row.ensures ∙ c.in-Right.is)).0

pub returns-in-Right-clause-same : goal.returns-in-Right-clause-same
returns-in-Right-clause-same c =
    (told (view c.args.value.now) c.in-Right.row.0 c.in-Right.row.1 c.walk.ensures (sym c.in_ok-row.ensures ∙ c.in-Right.is)).1

pub returns-in-Broken-clause-refused : goal.returns-in-Broken-clause-refused
returns-in-Broken-clause-refused c =
    no_row (view c.args.value.now) c.in-Broken.field c.in-Broken.rule (sym c.in_ok-row.ensures ∙ c.in-Broken.is)
