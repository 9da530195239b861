use Rattle.std.proofs.Common.{◌≡◌, map, take, drop}
use Rattle.std.specs.List.{AllByRecursion}
use Rattle.serde_json.specs.View.{view}
use Rattle.row_kinds.proofs.field.write_all.Given as goal

abbrev pub invariant-members : goal.invariant-members
invariant-members g l = record {
  written : map view l.written.items ≡ map g.T.Write.shown (take l.member-index l.members);
  of_type : AllByRecursion g.T.Write.typed (drop l.member-index l.members) → AllByRecursion g.T.Write.typed l.members;
}
