-- What an adapter over a reader or a writer of the standard library tells: what that tells, as long as it did at first.
use Rattle.std.specs.Prelude.{ℕ, List, [], ◌∷◌, ◌++◌, ◌≡◌, Bool, true, map, Option, Some, None}

-- what the first of a history told
abbrev pub told_first : {D B : Type 0} → (D → Option (List ℕ)) → List (D × B) → Option (List ℕ)
told_first tells [] = None
told_first tells (first ∷ later) = tells first.0

-- what is told now, where something was told at first
abbrev pub still_told : Option (List ℕ) → Option (List ℕ) → Option (List ℕ)
still_told None now = None
still_told (Some first) now = now

-- what told at first tells now
abbrev pub StillTells : Option (List ℕ) → Option (List ℕ) → Type 0
StillTells None now = Unit {0}
StillTells (Some first) None = ⊥
StillTells (Some first) (Some now) = Unit {0}

-- over a reader: the bytes that it has left, and the faults
pub record Intake : Type 0 where
  pub left : Option (List ℕ)
  pub faults : ℕ

-- whether each flush of a writer succeeded, of their history
abbrev pub flushes_of : {B : Type 0} → List (Bool × B) → List Bool
flushes_of history = map (λ flush. flush.0) history

-- some flushes were made, and the last of them succeeded
pub record FlushedAtLast (flushes flushes-after : List Bool) : Type 0 where
  pub failed : List Bool
  pub told : flushes-after ≡ flushes ++ (failed ++ true ∷ [])

-- over a writer: the bytes that it holds, whether each flush of it succeeded, and the faults
pub record Outlet : Type 0 where
  pub written : Option (List ℕ)
  pub flushes : List Bool
  pub faults : ℕ
