use Rattle.std.proofs.Common.{◌≡◌, ◌^◌, ◌<◌, take}
use Rattle.std.specs.Str.Parse.{digits_value}
use Rattle.http_heads.proofs.framing.number.Given as goal

-- the number of the digits so far
abbrev pub invariant-digits : goal.invariant-digits
invariant-digits l = (l.n ≡ digits_value 10 (take l.b-index l.value)) × (l.n < 10 ^ l.b-index)
