-- An edit that is accepted on a state may follow it, and be kept and published next where that is the newest one.
use Rattle.std.proofs.Common.{◌≡◌, ◌∙◌, ℕ, List, Option, None, length, ap, sym, subst, refl}
use Rattle.content_rows.specs.Kinds.{IsMoment}
use Rattle.content_state.specs.State.{State}
use Rattle.content_state.specs.Replay.{replay}
use Rattle.content_state.specs.Viewer.{viewer_of}
use Rattle.content_state.specs.SiteRules.{IsValidState}
use Rattle.content_state.specs.declared.ask.Ask.{Ask}
use Rattle.content_state.specs.declared.commit.Commit.{Commit}
use Rattle.state_commits.specs.Apply.{full_tag}
use Rattle.site_commands.specs.Causes.{Decision, Accepted, Refused}
use Rattle.site_commands.specs.Judged.{judged}
use Rattle.site_commands.specs.Right.{IsRight, Keeps, VerdictsKeepValid}
use Rattle.site_commands.specs.declared.answer.Done.{Done}
use Rattle.site_commands.specs.declared.command.Command.{Command}
use Rattle.edit_laws.specs.Viewers.{ViewersAreThere}
use Rattle.site_hall.specs.Hall.{HallView}
use Rattle.site_hall.specs.ReadyEdit.{Ready, ready_of}
use Rattle.site_hall.specs.Accepted.{judged_at, MayFollow, IsReadyOn, IsUnreadyOn}
use Rattle.site_hall.specs.Ready.{newest_of_hall, IsReady, IsUnready}
use Rattle.site_hall.specs.declared.stop.Stop.{Stop}
use Rattle.site_hall.specs.declared.stop.Stop.TheVariants as stop
use Rattle.site_hall.proofs.Verdicts.{accepted_at, none_full}

module _ (state : State) (count : ℕ) (ask : Ask) (csrf : Option (List ℕ)) (command : Command) (now pass : ℕ) (commit : Commit) (done : Done) where
  -- no tag that it invalidates has a count that cannot be raised
  pub accepted_raises : judged_at state count ask csrf command now pass ≡ Accepted commit done → full_tag state commit ≡ None
  accepted_raises accepted =
      let it = accepted_at state count ask csrf command now pass commit done accepted in
      none_full state (viewer_of state.rows ask.cookie now) command now pass commit done it.accepts

  pub accepted_ready : VerdictsKeepValid → ViewersAreThere → (ready : Ready) → IsValidState state → IsRight command → IsMoment now
      → judged_at state count ask csrf command now pass ≡ Accepted commit done → ready ≡ ready_of state commit done → IsReadyOn state count ask csrf command now pass ready
  accepted_ready keep_valid are_there ready valid right moment accepted made =
      let viewer = viewer_of state.rows ask.cookie now in
      let it = accepted_at state count ask csrf command now pass commit done accepted in
      let keeps : Keeps state pass commit = keep_valid state viewer command now pass commit done valid (are_there state ask.cookie now valid) right moment it.accepts in
      subst (IsReadyOn state count ask csrf command now pass) (sym made) (record {
        follows = record { of_newest = refl; short = it.short; is_commit = keeps.distinct; valid = keeps.valid };
        accepted = accepted;
        pass_is = keeps.pass_is;
      })

-- ---- on the newest state of a log

-- the judgement on a log is that on its newest state
pub judged_in : (base : State) (log : List Commit) (ask : Ask) (csrf : Option (List ℕ)) (command : Command) (now pass : ℕ)
    → judged base log ask csrf command now pass ≡ judged_at (replay base log) (length log) ask csrf command now pass
unfolding judged judged_at
judged_in base log ask csrf command now pass = refl

module _ (hall : HallView) (ask : Ask) (csrf : Option (List ℕ)) (command : Command) (now pass : ℕ) where
  judged_newest : (state : State) (count : ℕ) (decision : Decision) → state ≡ newest_of_hall hall → count ≡ length hall.log
      → judged_at state count ask csrf command now pass ≡ decision → judged hall.base hall.log ask csrf command now pass ≡ decision
  judged_newest state count decision newest all is =
      judged_in hall.base hall.log ask csrf command now pass
      ∙ ap (λ (s : State). judged_at s (length hall.log) ask csrf command now pass) (sym newest)
      ∙ ap (λ (n : ℕ). judged_at state n ask csrf command now pass) (sym all)
      ∙ is

  pub ready_newest : (state : State) (count : ℕ) (ready : Ready) → state ≡ newest_of_hall hall → count ≡ length hall.log → hall.pending ≡ None
      → IsReadyOn state count ask csrf command now pass ready → IsReady hall ask csrf command now pass ready
  ready_newest state count ready newest all none is = record {
    next = record {
      none_pending = none;
      follows = subst (λ (n : ℕ). MayFollow (newest_of_hall hall) n ready) all (subst (λ (s : State). MayFollow s count ready) newest is.follows);
    };
    accepted = judged_newest state count (Accepted ready.batch.commit ready.done) newest all is.accepted;
    pass_is = is.pass_is;
  }

  pub unready_newest : (state : State) (count : ℕ) (why : Stop) → state ≡ newest_of_hall hall → count ≡ length hall.log
      → IsUnreadyOn why state count ask csrf command now pass → IsUnready why hall ask csrf command now pass
  unready_newest state count (stop.Refused refusal) newest all is = judged_newest state count (Refused refusal) newest all is
  unready_newest state count stop.Failed newest all is = is
  unready_newest state count stop.OutOfMemory newest all is = tt
