use Rattle.std.proofs.Common.{◌≡◌, drop}
use Rattle.http_heads.specs.InTarget.{accepts}
use Rattle.http_heads.specs.declared.in_target.Place.TheVariants as place
use Rattle.http_heads.proofs.in_target.scan.Given as goal

-- what is still to be read decides as the whole does
abbrev pub invariant-bytes : goal.invariant-bytes
invariant-bytes l = accepts l.at (drop l.i l.bytes) ≡ accepts place.Start l.bytes
