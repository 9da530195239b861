-- A device none of whose calls are to fail.
use Rattle.std.proofs.Common.{◌≡◌, [], false, refl}
use Rattle.site_io.specs.Memory.{Calls, next_fails}

pub never_listed : (calls : Calls) → calls.failing ≡ [] → next_fails calls ≡ false
never_listed calls none = rw none refl
