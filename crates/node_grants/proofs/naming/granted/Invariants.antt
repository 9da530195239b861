use Rattle.std.proofs.Common.{◌≡◌, take, false}
use Rattle.content_rows.specs.Permission.{granted as is_granted}
use Rattle.node_grants.proofs.naming.granted.Given as goal

abbrev pub invariant-records : goal.invariant-records
invariant-records l = is_granted l.op (take l.record-index l.records) l.grants ≡ false
