use Rattle.std.proofs.Common.{rules}
use Rattle.site_http.proofs.Alone.{plain_of}
use Rattle.site_http.proofs.known.plain_bytes.Goals as goal

pub returns-in-Ok : goal.returns-in-Ok
returns-in-Ok c whole = plain_of c.args.bytes.now c.in-Ok.front.items c.args.request.now c.args.size (search rules) (search rules) whole
