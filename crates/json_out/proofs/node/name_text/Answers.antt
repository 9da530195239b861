use Rattle.std.proofs.Common.{subst, sym}
use Rattle.std.specs.Str.{IsUtf8}
use Rattle.row_kinds.proofs.Names.{name_is_text}
use Rattle.json_out.proofs.node.name_text.Goals as goal

pub unreachable-requires : goal.unreachable-requires
unreachable-requires c =
    c.in-Err.ensures.cases.0 (subst IsUtf8 (sym c.name_bytes.ensures.same) (name_is_text c.args.name.now c.name_bytes.ensures.of_name))
