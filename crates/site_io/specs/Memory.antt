use Rattle.std.specs.Prelude.{ℕ, List, ◌==◌, ◌+◌, ◌-◌, ◌&&◌, Bool, not, min, max, length}
use Rattle.std.specs.List.{list_any}

-- one more, up to the greatest u64
abbrev pub up : ℕ → ℕ
up count = min (count + 1) 18446744073709551615

-- the calls of a device in memory: the numbers, from 1, of those that are to fail; how many were made; how many failed
pub record Calls : Type 0 where
  pub failing : List ℕ
  pub made : ℕ
  pub faults : ℕ

-- no call is made yet
abbrev pub fresh : List ℕ → Calls
fresh failing = record { failing = failing; made = 0; faults = 0 }

-- the next call is listed
abbrev pub next_fails : Calls → Bool
next_fails calls = list_any (λ listed. listed == up calls.made) calls.failing

-- one more call, which didn't fail
abbrev pub passed : Calls → Calls
passed calls = record calls { made = up calls.made }

-- one more call, which failed
abbrev pub failed : Calls → Calls
failed calls = record calls { made = up calls.made; faults = up calls.faults }

-- a source in memory: the bytes that are left, and how many come at most in one call, where 0 counts as 1
pub record Input : Type 0 where
  pub left : List ℕ
  pub piece : ℕ
  pub calls : Calls

-- how many bytes a read into so many places takes
abbrev pub read_size : Input → ℕ → ℕ
read_size input places = min (min (length input.left) places) (max input.piece 1)

-- a sink in memory: the bytes that were written, how many can be in all, and how many are taken at most in one call, where 0
-- counts as 1
pub record Output : Type 0 where
  pub written : List ℕ
  pub capacity : ℕ
  pub piece : ℕ
  pub calls : Calls

-- how many bytes of so many a write takes
abbrev pub write_size : Output → ℕ → ℕ
write_size output bytes = min (min bytes (output.capacity - length output.written)) (max output.piece 1)

-- so many bytes are some, and there is room for none
abbrev pub is_full : Output → ℕ → Bool
is_full output bytes = (output.capacity - length output.written == 0) && not (bytes == 0)
