-- The lines of a file.
use Rattle.std.specs.Prelude.{ℕ, List, [], ◌∷◌, ◌++◌, ◌≡◌, ◌<◌, ◌==◌, Bool, false, not, length, Option, None, Some, IsTrue, if◌then◌else◌}
use Rattle.std.specs.List.{list_all, position_or_len}

-- what stands after the last line end
abbrev pub last_line : List ℕ → List (List ℕ)
last_line [] = []
last_line (b ∷ line) = (b ∷ line) ∷ []

-- of a file whose first line is begun so far
abbrev pub lines_from : List ℕ → List ℕ → List (List ℕ)
lines_from begun [] = last_line begun
lines_from begun (b ∷ bytes) = if b == 10 then begun ∷ lines_from [] bytes else lines_from (begun ++ b ∷ []) bytes

-- what stands before each line end; what stands after the last one is a line, if it isn't empty
abbrev pub lines : List ℕ → List (List ℕ)
lines bytes = lines_from [] bytes

-- how many bytes stand before the first line end
abbrev pub end_of_line : List ℕ → ℕ
end_of_line bytes = position_or_len (λ b. b == 10) bytes

-- whether bytes begin with a line end
abbrev pub is_at_end : List ℕ → Bool
is_at_end [] = false
is_at_end (b ∷ bytes) = b == 10

-- without a line end
abbrev pub is_one_line : List ℕ → Bool
is_one_line bytes = list_all (λ b. not (b == 10)) bytes

-- at most so many bytes are a line
abbrev pub longest : ℕ
longest = 1048576

-- the line that these bytes begin with, and what is left once it is taken: all of it, or more of it than a line may have
pub data IsTaken (bytes line rest : List ℕ) : Type 0 where
  ended : bytes ≡ line ++ 10 ∷ rest → IsTaken bytes line rest
  last : bytes ≡ line → rest ≡ [] → IsTaken bytes line rest
  long : bytes ≡ line ++ rest → longest < length line → IsTaken bytes line rest

-- the same of a source that tells what is left
abbrev pub TakesLine : Option (List ℕ) → List ℕ → Option (List ℕ) → Type 0
TakesLine None line None = Unit {0}
TakesLine (Some bytes) line (Some rest) = IsTrue (is_one_line line) × IsTaken bytes line rest
TakesLine _ line _ = ⊥
