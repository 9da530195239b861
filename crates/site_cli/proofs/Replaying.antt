-- From what a connection promises to what a replay does.
use Rattle.std.proofs.Common.{◌≡◌, ◌∙◌, ◌⊎◌, List, [], ℕ, Option, Some, None, drop, ap, refl, sym, subst, arith, inl, inr}
use Rattle.content_state.specs.State.{State}
use Rattle.content_state.specs.declared.commit.Commit.{Commit}
use Rattle.site_io.specs.declared.device.Point.{Point}
use Rattle.site_io.specs.declared.ended.Ended.{Ended}
use Rattle.site_io.specs.Series.{AreFirstOf, GivesInTurn, last_moment, last_word}
use Rattle.site_house.specs.History.{History, newest, newest_of}
use Rattle.site_house.specs.House.{HouseView, Moves, CountRose, history_of}
use Rattle.kept_pages.specs.Held.{Shelves}
use Rattle.site_http.specs.Connection.{Around, Connection}
use Rattle.site_http.specs.Kept.{shelves_of}
use Rattle.site_alone.specs.House.{opened_on}
use Rattle.site_places.specs.Place.{next_list, none_given, clock_given, entropy_given, IsNoneReached}
use Rattle.site_cli.specs.Run.{status_of, Replays}
use Rattle.site_cli.specs.Outside.{Outside}

-- what has given nothing has given what its list has first
none_first : (greatest : ℕ) (values : Option (List ℕ)) → AreFirstOf greatest values (none_given values)
none_first greatest None = tt
none_first greatest (Some values) = refl

-- what a list gave, of one that gave nothing before
in_turn : (greatest : ℕ) (list listed listed-after given given-after : Option (List ℕ)) → listed ≡ list → given ≡ none_given list → GivesInTurn greatest listed listed-after given given-after → AreFirstOf greatest list given-after
in_turn greatest list listed listed-after given given-after is begins turn =
    let first = subst (λ (o : Option (List ℕ)). AreFirstOf greatest listed o) (sym begins) (subst (λ (l : Option (List ℕ)). AreFirstOf greatest l (none_given list)) (sym is) (none_first greatest list)) in
    subst (λ (l : Option (List ℕ)). AreFirstOf greatest l given-after) (turn.same ∙ is) (turn.in_turn first)

-- what a connection is over, and what it says of the devices that its place gave
pub record Served (end : Ended) (site : State) (old new : Outside) (listed listed-after given given-after words words-after drawn drawn-after : Option (List ℕ)) (points points-after : Option (List Point)) (house house-after : HouseView) : Type 0 where
  pub list : listed ≡ next_list old.place.moments
  pub clock : given ≡ none_given (next_list old.place.moments)
  pub chances : words ≡ next_list old.place.words
  pub chance : drawn ≡ none_given (next_list old.place.words)
  pub gate : IsNoneReached points
  pub turn : GivesInTurn last_moment listed listed-after given given-after
  pub word_turn : GivesInTurn last_word words words-after drawn drawn-after
  pub house_is : house ≡ opened_on site
  pub moves : Moves house house-after
  pub own : house-after.faults ≡ 0 → house-after.handed ≡ drop house-after.opened house-after.seen
  pub connection :
      Connection end
      (record { left = old.left; out = record { given = given; words = drawn; points = points; written = old.written; handed = house.handed; keepers = house.keepers; kept = shelves_of house } })
      (record { left = new.left; out = record { given = given-after; words = drawn-after; points = points-after; written = new.written; handed = house-after.handed; keepers = house-after.keepers; kept = shelves_of house-after } })
      (history_of house-after) 1000 (newest (history_of house))
  pub place : new.place ≡ entropy_given (clock_given old.place)

-- no answer was that the keeper failed, since it never did
no_keepers : {k k' f f' : ℕ} → f ≡ 0 → f' ≡ f → k ≡ 0 → (k' ≡ k) ⊎ CountRose f f' → k' ≡ 0
no_keepers none same begins cause = elim cause [
  | inl stays ↦ stays ∙ begins
  | inr rose ↦ absurd (omega (arith, none, same))
]

abbrev with_log : State → List Commit → ℕ → History
with_log base log pass = record { base = base; log = log; pass = pass }

abbrev over : Option (List ℕ) → Option (List ℕ) → Option (List ℕ) → Option (List Point) → Option (List ℕ) → List Commit → ℕ → Option Shelves → Around
over left given words points written handed keepers kept = record {
  left = left;
  out = record { given = given; words = words; points = points; written = written; handed = handed; keepers = keepers; kept = kept };
}

-- a connection over a house of a site
pub replays : (end : Ended) (site : State) (old new : Outside) (listed listed-after given given-after words words-after drawn drawn-after : Option (List ℕ)) (points points-after : Option (List Point)) (house house-after : HouseView) (status : ℕ)
    → Served end site old new listed listed-after given given-after words words-after drawn drawn-after points points-after house house-after → status ≡ status_of end → Replays site old new status
replays end site old new listed listed-after given given-after words words-after drawn drawn-after points points-after house house-after status s status_is =
    let m = s.moves in
    let base : house-after.base ≡ site = m.base ∙ ap (λ (h : HouseView). h.base) s.house_is in
    let pass : house-after.number ≡ 0 = m.number ∙ ap (λ (h : HouseView). h.number) s.house_is in
    let opened : house-after.opened ≡ 0 = m.opened ∙ ap (λ (h : HouseView). h.opened) s.house_is in
    let begun : house.faults ≡ 0 = ap (λ (h : HouseView). h.faults) s.house_is in
    let same : house-after.faults ≡ house.faults = m.never_fails (ap (λ (h : HouseView). h.steadfast) s.house_is) in
    let handed : house-after.handed ≡ house-after.seen = s.own (same ∙ begun) ∙ ap (λ (n : ℕ). drop n house-after.seen) opened in
    let keepers : house-after.keepers ≡ 0 = no_keepers begun same (ap (λ (h : HouseView). h.keepers) s.house_is) m.cause in
    let first = subst (λ (h : HouseView). Connection end (over old.left given drawn points old.written h.handed h.keepers (shelves_of h)) (over new.left given-after drawn-after points-after new.written house-after.handed house-after.keepers (shelves_of house-after)) (history_of house-after) 1000 (newest (history_of h))) s.house_is s.connection in
    let second = subst (λ (l : List Commit). Connection end (over old.left given drawn points old.written [] 0 (shelves_of (opened_on site))) (over new.left given-after drawn-after points-after new.written l house-after.keepers (shelves_of house-after)) (history_of house-after) 1000 (newest_of site [])) handed first in
    let third = subst (λ (k : ℕ). Connection end (over old.left given drawn points old.written [] 0 (shelves_of (opened_on site))) (over new.left given-after drawn-after points-after new.written house-after.seen k (shelves_of house-after)) (history_of house-after) 1000 (newest_of site [])) keepers second in
    let fourth = subst (λ (b : State). Connection end (over old.left given drawn points old.written [] 0 (shelves_of (opened_on site))) (over new.left given-after drawn-after points-after new.written house-after.seen 0 (shelves_of house-after)) (with_log b house-after.seen house-after.number) 1000 (newest_of site [])) base third in
    let fifth = subst (λ (n : ℕ). Connection end (over old.left given drawn points old.written [] 0 (shelves_of (opened_on site))) (over new.left given-after drawn-after points-after new.written house-after.seen 0 (shelves_of house-after)) (with_log site house-after.seen n) 1000 (newest_of site [])) pass fourth in
    let sixth = subst (λ (o : Option (List ℕ)). Connection end (over old.left o drawn points old.written [] 0 (shelves_of (opened_on site))) (over new.left given-after drawn-after points-after new.written house-after.seen 0 (shelves_of house-after)) (with_log site house-after.seen 0) 1000 (newest_of site [])) s.clock fifth in
    let seventh = subst (λ (o : Option (List ℕ)). Connection end (over old.left (none_given (next_list old.place.moments)) o points old.written [] 0 (shelves_of (opened_on site))) (over new.left given-after drawn-after points-after new.written house-after.seen 0 (shelves_of house-after)) (with_log site house-after.seen 0) 1000 (newest_of site [])) s.chance sixth in
    record {
      end = end;
      given = given-after;
      drawn = drawn-after;
      points = points;
      points-after = points-after;
      log = house-after.seen;
      kept = shelves_of house-after;
      in_turn = in_turn last_moment (next_list old.place.moments) listed listed-after given given-after s.list s.clock s.turn;
      words_in_turn = in_turn last_word (next_list old.place.words) words words-after drawn drawn-after s.chances s.chance s.word_turn;
      begins = s.gate;
      connection = seventh;
      place = s.place;
      status_is = status_is;
    }
