-- What came of a call of a socket.
use Rattle.std.specs.Prelude.{ℕ, ◌≤◌, ◌<◌}
use Rattle.door_sockets.specs.declared.wire.Moved.{Moved}
use Rattle.door_sockets.specs.declared.wire.Moved.TheVariants.{Bytes, End, Waits, Failed}

-- some bytes, and no more than there was room for
abbrev pub IsWithin : ℕ → Moved → Type 0
IsWithin room (Bytes n) = (0 < n) × (n ≤ room)
IsWithin room End = Unit {0}
IsWithin room Waits = Unit {0}
IsWithin room Failed = Unit {0}
