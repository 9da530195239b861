-- Connections that a door gives, and takes back.
use Rattle.std.specs.Prelude.{ℕ, List, [], ◌∷◌, ◌++◌, ◌≡◌, Option, Some, None}
use Rattle.site_io.specs.declared.ended.Ended.{Ended}

-- what the two ends of a connection tell: the bytes that are left to read, and those that were written; and how often reading
-- and writing failed there
pub record Line : Type 0 where
  pub left : Option (List ℕ)
  pub written : Option (List ℕ)
  pub reading : ℕ
  pub writing : ℕ

-- what they told when the connection was given back, and how it had ended
pub record Back : Type 0 where
  pub line : Line
  pub end : Ended

-- A connection that was accepted is the next of those that were to come, where the door tells them.
abbrev pub IsNext : Option (List Line) → Line → Type 0
IsNext None line = Unit {0}
IsNext (Some []) line = ⊥
IsNext (Some (first ∷ later)) line = line ≡ first

-- those after the next one
abbrev pub later_lines : Option (List Line) → Option (List Line)
later_lines None = None
later_lines (Some []) = Some []
later_lines (Some (first ∷ later)) = Some later

-- one more was given back
abbrev pub and_back : Option (List Back) → Back → Option (List Back)
and_back None back = None
and_back (Some backs) back = Some (backs ++ back ∷ [])
