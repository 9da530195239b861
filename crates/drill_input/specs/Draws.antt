-- A sequence of numbers that look drawn by lot: a linear congruence modulo 2^64, of whose members the upper bits are taken.
-- D. E. Knuth, The Art of Computer Programming, volume 2, section 3.2.1.
use Rattle.std.specs.Prelude.{ℕ, zero, suc, ◌*◌, ◌+◌, ◌/◌, ◌%◌}

-- the member after this one
unfoldable pub next : ℕ → ℕ
next seed = (seed * 6364136223846793005 + 1442695040888963407) % 18446744073709551616

-- the number below a bound that a member draws: what its upper 31 bits leave of it
unfoldable pub drawn : ℕ → ℕ → ℕ
drawn below seed = (seed / 8589934592) % below

-- the member after so many more
abbrev pub after : ℕ → ℕ → ℕ
after zero seed = seed
after (suc count) seed = next (after count seed)
