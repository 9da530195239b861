use Rattle.std.proofs.Common.{◌≡◌, ◌++◌, length}
use Rattle.form_urlencoded.specs.Form.{decode}
use Rattle.site_lists.proofs.query.decoded.Given as goal

abbrev pub invariant-bytes : goal.invariant-bytes
invariant-bytes l = l.out.items ++ decode l.left ≡ decode l.bytes

abbrev pub decreases-bytes : goal.decreases-bytes
decreases-bytes l = length (decode l.left)
