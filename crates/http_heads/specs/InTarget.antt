-- Where in a request line bytes end, read from the left (RFC 9112, sections 2.2 and 3).
use Rattle.std.specs.Prelude.{ℕ, List, [], ◌∷◌, Bool, true, false, ◌==◌, if◌then◌else◌}
use Rattle.httparse.specs.Grammar.{is_token_byte, is_uri_byte}
use Rattle.http_heads.specs.declared.in_target.Place.{Place}
use Rattle.http_heads.specs.declared.in_target.Place.TheVariants as place

-- one byte further
abbrev pub step : Place → ℕ → Place
step place.Start b =
    if is_token_byte b then place.Method
    else if b == 13 then place.AfterCr
    else if b == 10 then place.Start
    else place.Elsewhere
step place.AfterCr b = if b == 10 then place.Start else place.Elsewhere
step place.Method b =
    if is_token_byte b then place.Method
    else if b == 32 then place.Target
    else place.Elsewhere
step place.Target b = if is_uri_byte b then place.Target else place.Elsewhere
step place.Elsewhere b = place.Elsewhere

-- from a place, the bytes end inside a target
abbrev pub accepts : Place → List ℕ → Bool
accepts place.Target [] = true
accepts p [] = false
accepts p (b ∷ bytes) = accepts (step p b) bytes
