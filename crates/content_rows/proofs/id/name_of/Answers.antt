use Rattle.std.proofs.Common.{refl}
use Rattle.content_rows.proofs.Names.{name_told, name_none}
use Rattle.content_rows.proofs.id.name_of.Goals as goal

pub returns-in-Ok : goal.returns-in-Ok
returns-in-Ok c = name_told c.args.text.now c.in-Ok.name (c.in-Ok.ensures.exact.0 refl) c.in-Ok.ensures.same

pub returns-in-Err : goal.returns-in-Err
returns-in-Err c = name_none c.args.text.now (λ is. cc (c.in-Err.ensures.exact.1 is))
