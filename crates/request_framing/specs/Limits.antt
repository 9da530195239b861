-- For how long a socket may be at what it is at.
use Rattle.std.specs.Prelude.{ℕ, ◌+◌, ◌/◌}
use Rattle.request_framing.specs.declared.limits.Stage.{Stage}
use Rattle.request_framing.specs.declared.limits.Stage.TheVariants.{Idle, Asks, Takes, Lingers}

-- 60 seconds between two requests; 15 for a request, and one more for each 16,384 bytes of its body that came; 15 for a reply; 5 for
-- what is read away
abbrev pub allowed_seconds : Stage → ℕ
allowed_seconds Idle = 60
allowed_seconds (Asks body) = 15 + body / 16384
allowed_seconds (Takes ends) = 15
allowed_seconds Lingers = 5

-- how many sockets a door has charge of at most, and how many bytes they hold
abbrev pub sockets : ℕ
sockets = 8192

abbrev pub held_bytes : ℕ
held_bytes = 67108864

-- how many requests wait at most at a door where others pass them, and how many bytes of memory these take
abbrev pub passed_sockets : ℕ
passed_sockets = 1024

abbrev pub passed_bytes : ℕ
passed_bytes = 33554432
