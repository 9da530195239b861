-- The targets of a site that a visitor without a session gets with status 200.
use Rattle.std.specs.Prelude.{ℕ, List, [], ◌∷◌, ◌++◌, All, Contains, if◌then◌else◌}
use Rattle.std.specs.List.{filter, flat_map, list_any, IsDistinct}
use Rattle.std.specs.Str.{bytes_eq}
use Rattle.content_rows.specs.declared.cell.Cell.{Cell}
use Rattle.content_rows.specs.declared.row.Row.{Row}
use Rattle.content_state.specs.State.{State}
use Rattle.site_targets.specs.Canonical.{canonical}
use Rattle.site_targets.specs.Open.{is_open, IsOpenTo, IsClosedTo}

-- those texts that are not among these, each once: what stands again later is left out
abbrev pub once_after : List (List ℕ) → List (List ℕ) → List (List ℕ)
once_after before [] = []
once_after before (t ∷ ts) =
    if list_any (bytes_eq t) before then once_after before ts else t ∷ once_after (before ++ t ∷ []) ts

abbrev pub each_once : List (List ℕ) → List (List ℕ)
each_once = once_after []

-- the canonical targets that are open, in their order, each once
abbrev pub targets_of : List (Cell × Row) → List (List ℕ)
targets_of rows = each_once (filter (is_open rows) (canonical rows))

-- Each of the targets is canonical and open, each canonical target that isn't among them is closed, and none stands twice.
pub record AreTargets (rows : List (Cell × Row)) (targets : List (List ℕ)) : Type 0 where
  pub among : All (Contains (canonical rows)) targets
  pub opened : All (IsOpenTo rows) targets
  pub closed : (t : List ℕ) → Contains (canonical rows) t → (Contains targets t → ⊥) → IsClosedTo rows t
  pub once : IsDistinct bytes_eq targets

-- so it is on whatever rows
abbrev pub TargetsMean : Type 0
TargetsMean = (rows : List (Cell × Row)) → AreTargets rows (targets_of rows)

-- one target a line
abbrev pub target_line : List ℕ → List ℕ
target_line target = target ++ 10 ∷ []

-- the text of the targets of a state
abbrev pub targets_text : State → List ℕ
targets_text state = flat_map target_line (targets_of state.rows)
