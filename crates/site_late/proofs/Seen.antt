-- What was made on the newest state that a house has seen, which goes on.
use Rattle.std.proofs.Common.{◌≡◌, ◌∙◌, ◌+◌, ℕ, length, ap, sym, refl, subst, arith}
use Rattle.std.specs.Prelude.{min}
use Rattle.std.proofs.Math.Seq.{take-length}
use Rattle.cache_contexts.specs.Values.{visit_on}
use Rattle.content_state.specs.declared.ask.Ask.{Ask}
use Rattle.content_state.specs.declared.ask.Viewer.{Viewer}
use Rattle.content_state.specs.State.{State}
use Rattle.content_state.specs.Replay.{replay}
use Rattle.content_state.specs.SiteRules.{IsValidState}
use Rattle.content_state.specs.Viewer.{viewer_of}
use Rattle.kept_pages.specs.Held.{Tells}
use Rattle.kept_pages.specs.Went.{number_built}
use Rattle.late_pages.specs.Needed.{OfFirst}
use Rattle.site_house.specs.Bins.{IsSeenIn}
use Rattle.site_house.specs.House.{HouseView, AreValid, KeepsAll, Moves, Stays, history_of}
use Rattle.site_house.specs.History.{History, OnLog, newest, state_of}
use Rattle.site_house.proofs.Histories.{history_moves, moves_longer, newest_state, on_grows, on_newest, state_grows}
use Rattle.site_late.specs.Sending.{NeededFirst}

-- the newest state is one that was seen
pub newest_seen : (house : HouseView) (state : State) → state ≡ replay house.base house.seen → AreValid house.base house.seen → IsSeenIn house state
unfolding replay
newest_seen house state is valid = record {
  in_order = (valid.states 0).in_order;
  count = length house.seen;
  within = omega arith;
  state_is = is ∙ ap (replay house.base) (sym (take-length house.seen));
  valid = subst IsValidState (ap (replay house.base) (take-length house.seen) ∙ sym is) (valid.states (length house.seen));
}

-- its number is one that was seen, and isn't below what was seen before
pub seen_number : {old mid new : HouseView} → Moves old mid → AreValid mid.base mid.seen → Moves mid new → OnLog (history_of new) (newest (history_of old)) (newest (history_of mid))
seen_number {old} {mid} {new} before valid behind =
    subst (λ (h : History). OnLog h (newest (history_of old)) (newest (history_of mid))) (sym (history_moves behind))
    (on_grows (history_of mid) behind.grows.0 (newest (history_of old)) (newest (history_of mid)) (on_newest (history_of mid) (newest (history_of old)) valid (moves_longer before)))

pub seen_state : {mid new : HouseView} (state : State) → state ≡ replay mid.base mid.seen → Moves mid new → state ≡ state_of (history_of new) (newest (history_of mid))
seen_state {mid} {new} state is behind =
    is ∙ sym (newest_state (history_of mid)) ∙ sym (state_grows (history_of mid) behind.grows.0 (newest (history_of mid)) (omega arith))
    ∙ ap (λ (h : History). state_of h (newest (history_of mid))) (sym (history_moves behind))

-- what was needed for what is sent first, where nothing was kept or looked for before
pub needed_first : {old mid new : HouseView} (state : State) (viewer : Viewer) (ask : Ask) (moment built : ℕ) → viewer ≡ viewer_of state.rows ask.cookie moment → KeepsAll old mid
    → Tells (record { state = state; viewer = viewer; ask = ask; moment = moment }) (OfFirst (visit_on state viewer ask moment)) mid new 0 built → NeededFirst state ask moment built old new
needed_first {old} {mid} {new} state viewer ask moment built same keeps told =
    let t = subst (λ (v : Viewer). Tells (record { state = state; viewer = v; ask = ask; moment = moment }) (OfFirst (visit_on state v ask moment)) mid new 0 built) same told in
    let none : 0 + number_built t.tree ≡ number_built t.tree = omega arith in
    record {
      went = t.tree;
      needed = t.shape;
      counted = t.counted 0 refl ∙ ap (λ (n : ℕ). min n 18446744073709551615) none;
      goes = λ s is. t.goes s (record { bins = keeps.bins ∙ is.bins; unkept = keeps.unkept ∙ is.unkept });
    }

-- nothing is handed in, and then nothing more
pub stays_on : {first second third : HouseView} → Stays first second → Stays second third → Stays first third
stays_on one two = record { handed = two.handed ∙ one.handed; keepers = two.keepers ∙ one.keepers }
