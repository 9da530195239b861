-- The states that the edits of a log make, and a log with one edit more.
use Rattle.std.proofs.Common.{◌≡◌, ◌∙◌, ◌≤◌, ◌<◌, ◌++◌, ◌⊎◌, ℕ, List, [], ◌∷◌, Option, None, Some, length, take, ap, sym, subst, refl, inl, inr, arith, length-append}
use Rattle.std.specs.Prelude.{All}
use Rattle.std.proofs.Math.Seq.{take-length, take-append_seam}
use Rattle.std.proofs.lemmas.List.{take-append-le, take_all}
use Rattle.std.proofs.lemmas.List.Elements.{All-push, All-take}
use Rattle.content_state.specs.State.{State}
use Rattle.content_state.specs.Replay.{step, replay, IsCommit}
use Rattle.content_state.specs.SiteRules.{IsValidState}
use Rattle.content_state.specs.declared.commit.Commit.{Commit}
use Rattle.site_keeper.specs.Keeping.{with_pending}
use Rattle.site_keeper.proofs.Keeping.{number_after}
use Rattle.site_house.specs.History.{newest_of}
use Rattle.site_house.specs.House.{AreValid}
use Rattle.site_hall.specs.Log.{Log, Made, IsLog, IsNext}

pub replay_more : (base : State) (log : List Commit) (c : Commit) → replay base (log ++ c ∷ []) ≡ step (replay base log) c
unfolding replay
replay_more base [] c = refl
replay_more base (d ∷ ds) c = replay_more (step base d) ds c

pub number_in : {base : State} {edits : List Commit} {newest : State} → IsLog base edits newest → newest.number ≡ newest_of base edits
number_in {base} {edits} {newest} log = ap (λ (s : State). s.number) log.newest_is ∙ number_after base edits

-- an edit is published
pub log_more : {base : State} {edits : List Commit} {newest : State} (c : Commit) (edits' : List Commit) (state : State)
    → IsLog base edits newest → length edits < 1000000 → edits' ≡ edits ++ c ∷ [] → state ≡ step (replay base edits) c → IsLog base edits' state
log_more {base} {edits} {newest} c edits' state log short more next =
    let size = ap length more ∙ length-append edits (c ∷ []) in
    record {
      newest_is = next ∙ sym (replay_more base edits c) ∙ ap (replay base) (sym more);
      short = omega arith;
      small = log.small;
    }

pub next_in : (log log' : Log) (made made' : Made) → log ≡ log' → made ≡ made' → IsNext log' made' → IsNext log made
next_in log log' made made' same_log same next =
    subst (λ (l : Log). IsNext l made) (sym same_log) (subst (IsNext log') (sym same) next)

-- ---- validity

-- the front of a log with one edit more
front_or_all : (base : State) (log : List Commit) (c : Commit) (count : ℕ) (P : List Commit → Type 0) → P (take count log) → P (log ++ c ∷ [])
    → P (take count (log ++ c ∷ []))
front_or_all base log c count P front all = elim within as (λ _. P (take count (log ++ c ∷ []))) [
  | inl h ↦ subst P (sym (take-append-le count log (c ∷ []) h)) front
  | inr h ↦ subst P (sym (take_all count (log ++ c ∷ []) (omega (arith, length-append log (c ∷ []))))) all
]
  where
    within : (count ≤ length log) ⊎ (length log < count)
    within = grind arith

-- one edit more, which leaves a valid state
pub valid_more : (base : State) (log : List Commit) (c : Commit) → AreValid base log → IsCommit c → IsValidState (step (replay base log) c) → AreValid base (log ++ c ∷ [])
valid_more base log c valid is_commit after = record {
  states = λ count. front_or_all base log c count (λ (l : List Commit). IsValidState (replay base l)) (valid.states count) (subst IsValidState (sym (replay_more base log c)) after);
  commits = All-push IsCommit log c valid.commits is_commit;
}

-- without the last edit
pub valid_front : (base : State) (log : List Commit) (c : Commit) → AreValid base (log ++ c ∷ []) → AreValid base log
valid_front base log c valid = record {
  states = λ count. elim (within count) as (λ _. IsValidState (replay base (take count log))) [
    | inl h ↦ subst (λ (l : List Commit). IsValidState (replay base l)) (take-append-le count log (c ∷ []) h) (valid.states count)
    | inr h ↦ subst (λ (l : List Commit). IsValidState (replay base l)) (take-append_seam log (c ∷ []) ∙ sym (take_all count log (omega arith))) (valid.states (length log))
  ];
  commits = subst (All IsCommit) (take-append_seam log (c ∷ [])) (All-take IsCommit (length log) (log ++ c ∷ []) valid.commits);
}
  where
    within : (count : ℕ) → (count ≤ length log) ⊎ (length log < count)
    within count = grind arith

-- without the edit that is pending, if one is
pub valid_without : (base : State) (log : List Commit) (pending : Option Commit) → AreValid base (with_pending log pending) → AreValid base log
valid_without base log None valid = valid
valid_without base log (Some c) valid = valid_front base log c valid

pub valid_newest : (base : State) (log : List Commit) → AreValid base log → IsValidState (replay base log)
valid_newest base log valid = subst (λ (l : List Commit). IsValidState (replay base l)) (take-length log) (valid.states (length log))
