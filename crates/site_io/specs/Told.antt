use Rattle.std.specs.Prelude.{ℕ, List, [], ◌++◌, ◌≡◌, Option, Some, None, ◌≤◌, ◌+◌, min, length, take}

-- What a device tells of itself is a list, or nothing where it doesn't tell.

-- what was left before these were taken, by what is left after
abbrev pub before : List ℕ → Option (List ℕ) → Option (List ℕ)
before taken None = None
before taken (Some rest) = Some (taken ++ rest)

-- what is told once these are added
abbrev pub after : Option (List ℕ) → List ℕ → Option (List ℕ)
after None more = None
after (Some told) more = Some (told ++ more)

-- where the device tells what is left, nothing is
abbrev pub IsNothingLeft : Option (List ℕ) → Type 0
IsNothingLeft None = Unit {0}
IsNothingLeft (Some rest) = rest ≡ []

-- some front of the bytes was written
pub record AddsFront (written written-after : Option (List ℕ)) (bytes : List ℕ) : Type 0 where
  pub count : ℕ
  pub within : count ≤ length bytes
  pub told : written-after ≡ after written (take count bytes)

-- a count rose; one at the greatest u64 stays there
abbrev pub Rose : ℕ → ℕ → Type 0
Rose old new = min (old + 1) 18446744073709551615 ≤ new
