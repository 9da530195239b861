-- What becomes of an edit: it is refused for the first of its causes that is there, else accepted.
use Rattle.std.specs.Prelude.{ℕ, List, [], ◌∷◌, Bool, not, Option, Some, None, option_map, if◌then◌else◌}
use Rattle.std.specs.Arc.{arc_value}
use Rattle.access_result.specs.declared.reason.Reason.TheVariants as reason
use Rattle.content_rows.specs.declared.cell.Cell.{Cell}
use Rattle.content_rows.specs.declared.row.Row.{Row}
use Rattle.content_state.specs.State.{State}
use Rattle.indexed_rows.specs.Write.{Write}
use Rattle.content_state.specs.Viewer.{may}
use Rattle.content_state.specs.declared.ask.Viewer.{Viewer}
use Rattle.content_state.specs.declared.commit.Commit.{Commit}
use Rattle.state_commits.specs.Apply.{full_tag}
use Rattle.json_keys.specs.declared.checked.Checked.{Checked}
use Rattle.json_keys.specs.declared.checked.Checked.TheVariants as checked
use Rattle.json_keys.specs.declared.rule.Rule.{Rule}
use Rattle.site_access.specs.Access.{Access, Allowed, Denied}
use Rattle.site_commands.specs.declared.answer.Done.{Done}
use Rattle.site_commands.specs.declared.answer.Refusal.{Refusal}
use Rattle.site_commands.specs.declared.answer.Refusal.TheVariants as refusal
use Rattle.site_commands.specs.declared.answer.Verdict.{Verdict}
use Rattle.site_commands.specs.declared.answer.Verdict.TheVariants as verdict

-- an edit is accepted, with what is to be kept and what is done then, or refused
pub data Decision : Type 0 where
  Accepted : Commit → Done → Decision
  Refused : Refusal → Decision

-- what a verdict tells; contracts see the edit, and not who shares it
abbrev pub told : Verdict → Decision
told (verdict.Commit commit done) = Accepted (arc_value commit) done
told (verdict.Refused r) = Refused r

-- ---- causes

-- a cause that is there refuses; else it goes on
abbrev pub unless : Option Refusal → Decision → Decision
unless None decision = decision
unless (Some r) decision = Refused r

-- the first of some causes that is there refuses; where none is, it goes on
abbrev pub decided : List (Option Refusal) → Decision → Decision
decided [] decision = decision
decided (cause ∷ causes) decision = unless cause (decided causes decision)

-- a cause, where this is so
abbrev pub where_true : Bool → Refusal → Option Refusal
where_true b r = if b then Some r else None

-- what may not be done is denied
abbrev pub unless_allowed : Access → Option Refusal
unless_allowed Allowed = None
unless_allowed (Denied why) = Some (refusal.Denied why)

-- a permission is needed
abbrev pub needs : List (Cell × Row) → Viewer → List ℕ → Option Refusal
needs rows viewer permission =
    where_true (not (may rows viewer permission)) (refusal.Denied (reason.Permission permission))

-- a permission is needed where a key stands in the body
abbrev pub key_needs : List (Cell × Row) → Viewer → Bool → List ℕ → Option Refusal
key_needs rows viewer stands permission = if stands then needs rows viewer permission else None

-- a key breaks a rule, where this is so
abbrev pub breaks : List ℕ → Rule → Bool → Option Refusal
breaks field rule b = where_true b (refusal.Broken field rule)

-- what follows of a body that breaks no rule by itself
abbrev pub of_body : {X : Type 0} → Checked X → (X → Decision) → Decision
of_body (checked.Broken field rule) next = Refused (refusal.Broken field rule)
of_body (checked.Right x) next = next x

-- what follows of a row that is there
abbrev pub of_target : {X : Type 0} → Option X → (X → Decision) → Decision
of_target None next = Refused refusal.NoTarget
of_target (Some x) next = next x

-- ---- what is kept

abbrev pub set : Cell → Row → Write
set c r = record { cell = c; row = Some r }

abbrev pub removed : Cell → Write
removed c = record { cell = c; row = None }

abbrev pub commit_of : ℕ → List Write → Commit
commit_of pass writes = record { writes = writes; extra = []; pass = pass }

-- a tag that an edit invalidates has a count that cannot be raised
abbrev pub count_full : State → Commit → Option Refusal
count_full state commit = option_map refusal.CountFull (full_tag state commit)

-- an edit is accepted, unless a count is full
abbrev pub accepted : State → Commit → Done → Decision
accepted state commit done = decided (count_full state commit ∷ []) (Accepted commit done)
