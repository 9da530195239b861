-- What becomes of an edit on a log: it is judged on the state that the log makes of its base, for the viewer whom the
-- request's cookie names there. What guards the forms of a session comes before all other causes, and that the log is full
-- after them.
-- https://api.drupal.org/api/drupal/core!lib!Drupal!Core!Access!CsrfTokenGenerator.php/class/CsrfTokenGenerator/10
use Rattle.std.specs.Prelude.{ℕ, List, Bool, not, nat_le, length, Option, Some, None, if◌then◌else◌}
use Rattle.std.specs.Str.{bytes_eq}
use Rattle.user_roles.specs.Csrf.{csrf_value}
use Rattle.content_state.specs.State.{State}
use Rattle.content_state.specs.Viewer.{viewer_of}
use Rattle.content_state.specs.Replay.{replay}
use Rattle.content_state.specs.declared.ask.Ask.{Ask}
use Rattle.content_state.specs.declared.ask.Viewer.{Viewer}
use Rattle.content_state.specs.declared.commit.Commit.{Commit}
use Rattle.site_commands.specs.Causes.{Decision, Accepted, Refused, unless, where_true}
use Rattle.site_commands.specs.Verdict.{verdict}
use Rattle.site_commands.specs.declared.answer.Refusal.{Refusal}
use Rattle.site_commands.specs.declared.answer.Refusal.TheVariants as refusal
use Rattle.site_commands.specs.declared.command.Command.{Command}

-- the value that was sent is the session's
abbrev pub is_guarded : List ℕ → Option (List ℕ) → Bool
is_guarded token None = Bool.false
is_guarded token (Some sent) = bytes_eq sent (csrf_value token)

-- a viewer with a session sends the value that guards its forms
abbrev pub unguarded : Option (List ℕ) → Option (List ℕ) → Option Refusal
unguarded None sent = None
unguarded (Some token) sent = where_true (not (is_guarded token sent)) refusal.Csrf

-- how many edits a log can have
abbrev pub log_limit : ℕ
log_limit = 1000000

-- an accepted edit needs a place in the log
abbrev pub in_log : ℕ → Decision → Decision
in_log count (Refused r) = Refused r
in_log count (Accepted commit done) = if nat_le log_limit count then Refused refusal.LogFull else Accepted commit done

-- an edit on a state, in a log of so many edits
abbrev pub judged_on : State → ℕ → Viewer → Option (List ℕ) → Command → ℕ → ℕ → Decision
judged_on state count viewer csrf command now pass =
    unless (unguarded viewer.session csrf) (in_log count (verdict state viewer command now pass))

-- an edit on a log
unfoldable pub judged : State → List Commit → Ask → Option (List ℕ) → Command → ℕ → ℕ → Decision
judged base log ask csrf command now pass =
    judged_on (replay base log) (length log) (viewer_of (replay base log).rows ask.cookie now) csrf command now pass
