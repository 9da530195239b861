-- What a house has seen grows, and what is of it stays.
use Rattle.std.proofs.Common.{◌≡◌, ◌∙◌, ◌++◌, ◌+◌, ◌-◌, ◌≤◌, List, [], ◌∷◌, ℕ, take, length, ap, sym, subst, arith, length-append}
use Rattle.std.proofs.Math.Seq.{take-length}
use Rattle.std.proofs.lemmas.List.{take-append-le}
use Rattle.content_state.specs.State.{State}
use Rattle.content_state.specs.declared.commit.Commit.{Commit}
use Rattle.content_state.specs.Replay.{step, replay, state_at}
use Rattle.content_state.specs.SiteRules.{IsValidState}
use Rattle.site_house.specs.House.{HouseView, Moves, AreValid, history_of}
use Rattle.site_house.specs.History.{History, OnLog, longer, log_to, newest, state_of}

-- each edit adds one to the number
pub replay_number : (s : State) (log : List Commit) → (replay s log).number ≡ s.number + length log
unfolding replay step
replay_number s [] = omega arith
replay_number s (c ∷ cs) = let rest = replay_number (step s c) cs in omega arith

-- all edits make the newest state
pub log_to_newest : (history : History) → log_to history (newest history) ≡ history.log
log_to_newest history =
    let all : newest history - history.base.number ≡ length history.log = omega arith in
    ap (λ (n : ℕ). take n history.log) all ∙ take-length history.log

-- the edits up to a number are the same in a longer history
pub log_grows : (history : History) (more : List Commit) (number : ℕ) → number ≤ newest history → log_to (longer history more) number ≡ log_to history number
log_grows history more number within = take-append-le (number - history.base.number) history.log more (omega arith)

pub newest_state : (history : History) → state_of history (newest history) ≡ replay history.base history.log
unfolding state_at
newest_state history =
    let all : newest history - history.base.number ≡ length history.log = omega arith in
    ap (λ (n : ℕ). replay history.base (take n history.log)) all ∙ ap (replay history.base) (take-length history.log)

pub newest_grows : (history : History) (more : List Commit) (number : ℕ) → number ≤ newest history → number ≤ newest (longer history more)
newest_grows history more number within = omega (arith, length-append history.log more)

-- a state of the history is the same in a longer one
pub state_grows : (history : History) (more : List Commit) (number : ℕ) → number ≤ newest history → state_of (longer history more) number ≡ state_of history number
unfolding state_at
state_grows history more number within =
    ap (replay history.base) (take-append-le (number - history.base.number) history.log more (omega arith))

pub on_grows : (history : History) (more : List Commit) (low number : ℕ) → OnLog history low number → OnLog (longer history more) low number
on_grows history more low number o =
    let same = state_grows history more number o.to in
    record {
      from_base = o.from_base;
      from = o.from;
      to = newest_grows history more number o.to;
      number_is = ap (λ (s : State). s.number) same ∙ o.number_is;
      valid = subst IsValidState (sym same) o.valid;
    }

-- where less was seen before
pub on_lower : (history : History) (low lower number : ℕ) → lower ≤ low → OnLog history low number → OnLog history lower number
on_lower history low lower number less o =
    let from = o.from in
    record { from_base = o.from_base; from = omega arith; to = o.to; number_is = o.number_is; valid = o.valid }

-- the newest number, of what is valid
pub on_newest : (history : History) (low : ℕ) → AreValid history.base history.log → low ≤ newest history → OnLog history low (newest history)
unfolding state_at
on_newest history low valid from = record {
  from_base = omega arith;
  from = from;
  to = omega arith;
  number_is = ap (λ (s : State). s.number) (newest_state history) ∙ replay_number history.base history.log;
  valid = valid.states (newest history - history.base.number);
}

abbrev with_all : State → List Commit → ℕ → History
with_all base log pass = record { base = base; log = log; pass = pass }

-- a house that moved has a longer history
pub history_moves : {old new : HouseView} → (m : Moves old new) → history_of new ≡ longer (history_of old) m.grows.0
history_moves {old} {new} m =
    ap (λ (b : State). with_all b new.seen new.number) m.base
    ∙ ap (λ (l : List Commit). with_all old.base l new.number) m.grows.1
    ∙ ap (λ (n : ℕ). with_all old.base (old.seen ++ m.grows.0) n) m.number

pub moves_longer : {old new : HouseView} → Moves old new → newest (history_of old) ≤ newest (history_of new)
moves_longer {old} {new} m =
    let base = ap (λ (s : State). s.number) m.base in
    omega (arith, ap length m.grows.1, length-append old.seen m.grows.0)
