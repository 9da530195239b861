-- What the crew did, worker by worker.
use Rattle.std.proofs.Common.{◌≡◌, ◌∙◌, ◌+◌, ◌==◌, ◌&&◌, ◌++◌, ◌≤◌, ◌⊎◌, ℕ, List, [], ◌∷◌, Bool, All, map, length, drop, sum_by, option_to_list, refl, ap, sym, subst, arith, inl, inr}
use Rattle.std.proofs.lemmas.Bool.{ne_eqb}
use Rattle.std.proofs.lemmas.List.Sums.{sum_by-cons}
use Rattle.std.proofs.lemmas.List.Elements.{All-nil, All-cons, All-head, All-tail}
use Rattle.std.specs.List.{list_all}
use Rattle.site_hall.specs.Hall.{HallView}
use Rattle.site_house.specs.History.{History}
use Rattle.site_house.specs.House.{CountRose, IsSublist, by_pass}
use Rattle.site_http.specs.Work.{Bench, Serves, Works}
use Rattle.site_http.specs.declared.worker.Worked.{Worked}
use Rattle.site_http.specs.declared.worker.Worked.TheVariants as worked
use Rattle.turn_rule.specs.Steps.{Knows}
use Rattle.content_state.specs.Replay.{Begins}
use Rattle.site_turn.specs.Houses.{house_of}
use Rattle.site_turn.specs.Views.{noted}
use Rattle.site_serve.specs.Stations.{StationView}
use Rattle.site_serve.specs.Serving.{Shift, IsShift, ServesOver, AreNumbered, had_no_more, bench_of, history_in}
use Rattle.site_serve.specs.Working.{Footing, Member, HasServed, AllServed, bench_in, member_at, members, faulted}
use Rattle.site_serve.proofs.Over.{Grows, over}

count_of : (w : Worked) (old new : Bench) (claims-after : ℕ) → Works w old new 0 claims-after → ℕ
count_of worked.NoMore old new claims-after works = works.count
count_of worked.DoorFault old new claims-after works = works.count

served_of : (w : Worked) (old new : Bench) (claims-after : ℕ) (works : Works w old new 0 claims-after) → Serves (count_of w old new claims-after works) old new
unfolding count_of
served_of worked.NoMore old new claims-after works = works.serves
served_of worked.DoorFault old new claims-after works = works.serves

claimed_of : (w : Worked) (old new : Bench) (claims-after : ℕ) (works : Works w old new 0 claims-after) → claims-after ≡ count_of w old new claims-after works + faulted w
unfolding count_of
claimed_of worked.NoMore old new claims-after works = let claimed = works.claimed in omega arith
claimed_of worked.DoorFault old new claims-after works = let claimed = works.claimed in omega arith

-- a count that rose to a front of another rose to that
rose_to : (keepers old middle new : ℕ) → (keepers ≡ 0) ⊎ CountRose old middle → middle ≤ new → (keepers ≡ 0) ⊎ CountRose old new
rose_to keepers old middle new (inl none) below = inl none
rose_to keepers old middle new (inr rose) below = inr (omega arith)

whole_of : (w : Worked) (rest : Bool) (more : ℕ) → rest ≡ (more == 0) → (had_no_more w && rest) ≡ (faulted w + more == 0)
whole_of worked.NoMore rest more same = let all : more ≡ 0 + more = omega arith in same ∙ ap (λ n. n == 0) all
whole_of worked.DoorFault rest more same = sym (ne_eqb (1 + more) 0 (λ e. absurd (omega arith)))

module _ (law : Grows) (old new : HallView) (footing : Footing) (opened : footing.opened ≡ noted old) where
  first_of : (number : ℕ) (station : StationView) → List ℕ → Bench
  first_of number station name = bench_in station (house_of (member_at footing number station).pass.note name 0 0)

  last_of : (member : Member) → List ℕ → ℕ → ℕ → Bench
  last_of member name keepers unkept = bench_in member.station (house_of member.pass.note name keepers unkept)

  connections : (number : ℕ) (station : StationView) (member : Member) → HasServed (member_at footing number station) member → ℕ
  unfolding first_of last_of
  connections number station member has = count_of member.worked (first_of number station has.name) (last_of member has.name has.keepers has.unkept) member.claimer.claims has.did.works

  shift_of : (number : ℕ) (station : StationView) (member : Member) → HasServed (member_at footing number station) member → Shift
  shift_of number station member has = record {
    number = number;
    before = station;
    after = member.station;
    worked = member.worked;
    count = connections number station member has;
    handed = member.pass.note.handed;
    keepers = has.keepers;
    seen = member.pass.note.seen;
  }

  -- it served over the whole log
  serves : (number : ℕ) (station : StationView) (member : Member) (has : HasServed (member_at footing number station) member) → Begins member.pass.note.seen new.log
      → ServesOver (history_in old number new.log) (connections number station member has) (bench_of station [] 0 (history_in old number old.log)) (bench_of member.station member.pass.note.handed has.keepers (history_in old number member.pass.note.seen))
  unfolding connections first_of last_of
  serves number station member has seen =
      let did = has.did in
      let note = member.pass.note in
      let count = connections number station member has in
      let base : note.opened.loaded.base ≡ old.base = did.moves.base ∙ ap (λ hall. hall.loaded.base) opened in
      let number_is : note.number ≡ number = did.moves.number in
      let first : Bench = bench_of station [] 0 (history_in old number old.log) in
      let last : History → Bench = λ history. bench_of member.station note.handed has.keepers history in
      let there : History = record { base = note.opened.loaded.base; log = note.seen; pass = note.number } in
      let here : History = history_in old number note.seen in
      let served : Serves count first (last there) =
      subst (λ hall. Serves count (bench_of station [] 0 (record { base = hall.loaded.base; log = hall.log; pass = number })) (last there)) opened
      (served_of member.worked (first_of number station has.name) (last_of member has.name has.keepers has.unkept) member.claimer.claims did.works) in
      let served-here : Serves count first (last here) =
      subst (λ history. Serves count first (last history)) (λ i. record { base = base i; log = note.seen; pass = number_is i }) served in
      over law count (history_in old number new.log) first (last here) served-here (record { base = refl; pass = refl; grows = seen })

  is_shift : (number : ℕ) (station : StationView) (member : Member) (has : HasServed (member_at footing number station) member) → Knows (noted new) member.pass.note → IsShift old new (shift_of number station member has)
  unfolding shift_of
  is_shift number station member has knows =
      let did = has.did in
      let note = member.pass.note in
      let length_is : length note.opened.log ≡ length old.log = did.moves.opened ∙ ap (λ hall. length hall.log) opened in
      let number_is : note.number ≡ number = did.moves.number in
      record {
        serves = serves number station member has knows.seen;
        seen = knows.seen;
        door = did.door;
        none_out = did.none_out;
        moments = did.moments;
        words = did.words;
        cause = rose_to has.keepers old.faults note.faults new.faults (subst (λ hall. (has.keepers ≡ 0) ⊎ CountRose hall.faults note.faults) opened did.moves.cause) knows.faults;
        own = subst (λ n. IsSublist (by_pass n (drop (length old.log) new.log ++ option_to_list new.pending)) note.handed) number_is
            (subst (λ n. IsSublist (by_pass note.number (drop n new.log ++ option_to_list new.pending)) note.handed) length_is knows.own);
      }

  -- what all members did
  pub record Summed (number : ℕ) (stations : List StationView) (crew : List Member) : Type 0 where
    pub shifts : List Shift
    pub numbered : AreNumbered number shifts
    pub before_are : map (λ shift. shift.before) shifts ≡ stations
    pub after_are : map (λ shift. shift.after) shifts ≡ map (λ member. member.station) crew
    pub each : All (IsShift old new) shifts
    pub claims : sum_by (λ member. member.claimer.claims) crew ≡ sum_by (λ shift. shift.count) shifts + sum_by (λ member. faulted member.worked) crew
    pub whole : list_all (λ shift. had_no_more shift.worked) shifts ≡ (sum_by (λ member. faulted member.worked) crew == 0)

  pub summed : (number : ℕ) (stations : List StationView) (crew : List Member) → AllServed (members footing number stations) crew → All (λ member. Knows (noted new) member.pass.note) crew → Summed number stations crew
  unfolding shift_of connections first_of last_of
  summed number [] [] served knows = record {
    shifts = [];
    numbered = tt;
    before_are = refl;
    after_are = refl;
    each = All-nil (IsShift old new);
    claims = refl;
    whole = refl;
  }
  summed number [] (member ∷ crew) served knows = absurd served
  summed number (station ∷ stations) [] served knows = absurd served
  summed number (station ∷ stations) (member ∷ crew) served knows =
      let rest = summed (number + 1) stations crew served.1 (All-tail (λ (m : Member). Knows (noted new) m.pass.note) member crew knows) in
      let has = served.0 in
      let shift = shift_of number station member has in
      let claimed : member.claimer.claims ≡ shift.count + faulted member.worked =
      claimed_of member.worked (first_of number station has.name) (last_of member has.name has.keepers has.unkept) member.claimer.claims has.did.works in
      let claims-rest = rest.claims in
      let failed-sum = sum_by-cons (λ (m : Member). faulted m.worked) member crew in
      let claims-sum = sum_by-cons (λ (m : Member). m.claimer.claims) member crew in
      let count-sum = sum_by-cons (λ (s : Shift). s.count) shift rest.shifts in
      record {
        shifts = shift ∷ rest.shifts;
        numbered = (refl, rest.numbered);
        before_are = ap (λ xs. station ∷ xs) rest.before_are;
        after_are = ap (λ xs. member.station ∷ xs) rest.after_are;
        each = All-cons (IsShift old new) shift rest.shifts (is_shift number station member has (All-head (λ (m : Member). Knows (noted new) m.pass.note) member crew knows)) rest.each;
        claims = omega arith;
        whole = whole_of member.worked (list_all (λ (s : Shift). had_no_more s.worked) rest.shifts) (sum_by (λ (m : Member). faulted m.worked) crew) rest.whole ∙ ap (λ n. n == 0) (sym failed-sum);
      }
