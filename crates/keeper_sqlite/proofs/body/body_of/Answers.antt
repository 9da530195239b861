use Rattle.std.proofs.lemmas.Str.{IsUtf8-string_bytes}
use Rattle.std.proofs.Common.{ap, ◌∙◌, sym, subst, Some, ◌≡◌}
use Rattle.std.specs.Prelude.{string_bytes}
use Rattle.keeper_sqlite.proofs.Bodies.{a_value}
use Rattle.keeper_sqlite.proofs.CellNames.{row_read}
use Rattle.keeper_sqlite.proofs.Depths.{written_depth}
use Rattle.keeper_sqlite.proofs.body.body_of.Goals as goal
use Rattle.serde_json.specs.View.{view}
use Rattle.serde_json.specs.Data.{Data, depth}
use Rattle.serde_json.specs.Read.{read, max_depth}
use Rattle.std.proofs.Common.{◌≤◌}

pub returns : goal.returns
returns c = record {
  back = λ right.
      let d = view c.in_ok-value.value in
      let shallow : depth d ≤ max_depth = subst (λ (x : Data). depth x ≤ max_depth) (sym c.in_ok-value.ensures.written) (written_depth c.args.cell.now c.args.row.now) in
      row_read (string_bytes c.in_ok-body.body) d (c.args.cell.now, c.args.row.now)
      (sym (a_value (string_bytes c.in_ok-body.body) d (IsUtf8-string_bytes c.in_ok-body.body) (c.in_ok-body.ensures.reads_back shallow)))
      (c.in_ok-value.ensures.back right);
}
