-- The crew, before and after its work.
use Rattle.std.proofs.Common.{◌≡◌, ◌∙◌, ◌+◌, ◌==◌, ◌<◌, ◌≤◌, ◌||◌, ℕ, suc, List, [], ◌∷◌, ◌++◌, Bool, true, false, All, map, length, sum_by, refl, ap, sym, arith}
use Rattle.std.proofs.lemmas.Bool.{eqb-false}
use Rattle.std.proofs.lemmas.List.Sums.{sum_by-cons}
use Rattle.std.proofs.lemmas.List.Elements.{All-nil, All-cons, All-head, All-tail}
use Rattle.atomic_table.specs.Seated.{TableId}
use Rattle.site_claims.specs.Claims.{as_count, name_of}
use Rattle.site_http.specs.Work.{Bench, Works}
use Rattle.site_http.specs.declared.worker.Worked.{Worked}
use Rattle.site_http.specs.declared.worker.Worked.TheVariants as worked
use Rattle.site_turn.specs.Closing.{has_number}
use Rattle.site_turn.specs.Houses.{house_of}
use Rattle.site_serve.specs.Stations.{StationView}
use Rattle.site_serve.specs.Working.{Footing, Member, AllServed, IsReady, bench_in, member_at, members, faulted}

-- tables with one name are the same
table_of : List ℕ → TableId
table_of (words ∷ slots ∷ views_name ∷ atom ∷ block ∷ offset ∷ slot_names) = record { words = words; slots = slots; views_name = views_name; atom = atom; block = block; offset = offset; slot_names = slot_names }
table_of names = record { words = 0; slots = 0; views_name = 0; atom = 0; block = 0; offset = 0; slot_names = [] }

same_table : (one other : TableId) → name_of one ≡ name_of other → one ≡ other
unfolding table_of
same_table one other same = ap table_of same

-- a new crew may begin where no door has a connection out
pub ready : (footing : Footing) (number : ℕ) (stations : List StationView) → All (λ station. station.is_out ≡ false) stations → All (IsReady footing.room footing.claims) (members footing number stations)
ready footing number [] none_out = All-nil (IsReady footing.room footing.claims)
ready footing number (station ∷ stations) none_out =
    All-cons (IsReady footing.room footing.claims) (member_at footing number station) (members footing (number + 1) stations)
    (record { none_out = All-head (λ (s : StationView). s.is_out ≡ false) station stations none_out; here = refl; claims_here = refl })
    (ready footing (number + 1) stations (All-tail (λ (s : StationView). s.is_out ≡ false) station stations none_out))

pub members_length : (footing : Footing) (number : ℕ) (stations : List StationView) → length (members footing number stations) ≡ length stations
members_length footing number [] = refl
members_length footing number (station ∷ stations) = ap suc (members_length footing (number + 1) stations)

pub members_push : (footing : Footing) (number : ℕ) (stations : List StationView) (station : StationView) → members footing number (stations ++ station ∷ []) ≡ members footing number stations ++ member_at footing (number + length stations) station ∷ []
members_push footing number [] station = ap (λ n. member_at footing n station ∷ []) (omega arith)
members_push footing number (other ∷ stations) station = ap (λ ms. member_at footing number other ∷ ms) (members_push footing (number + 1) stations station ∙ ap (λ n. members footing (number + 1) stations ++ member_at footing n station ∷ []) (omega arith))

above : (number k : ℕ) → number ≤ k → (number ≡ k → ⊥) → number + 1 ≤ k
above number k from other = omega arith

-- one failed only where leave was given
faulted_below : (w : Worked) (old new : Bench) (claims-after : ℕ) → Works w old new 0 claims-after → faulted w ≤ claims-after
faulted_below worked.NoMore old new claims-after works = omega arith
faulted_below worked.DoorFault old new claims-after works = let claimed = works.claimed in omega arith

-- one that didn't fail was refused a number
over_of : (w : Worked) (is_over : Bool) (more rest count : ℕ) → (w ≡ worked.NoMore → is_over ≡ true) → (more ≡ 0 → rest ≡ count) → faulted w + more ≡ 0 → as_count is_over + rest ≡ suc count
over_of worked.NoMore is_over more rest count refused others none =
    let one : as_count is_over ≡ 1 = ap as_count (refused refl) in
    let no_more : more ≡ 0 = omega arith in
    let all = others no_more in
    omega arith
over_of worked.DoorFault is_over more rest count refused others none = absurd (omega arith)

-- What holds of a crew that has served.
pub record Back (footing : Footing) (number : ℕ) (stations : List StationView) (crew : List Member) : Type 0 where
  pub length_is : length crew ≡ length stations
  pub here : All (λ member. member.pass.table ≡ footing.room) crew
  pub claims_here : All (λ member. member.claimer.table ≡ footing.claims) crew
  pub within : sum_by (λ member. faulted member.worked) crew ≤ sum_by (λ member. member.claimer.claims) crew
  pub over : sum_by (λ member. faulted member.worked) crew ≡ 0 → sum_by (λ member. as_count member.claimer.is_over) crew ≡ length crew
  pub numbers : (k : ℕ) → number ≤ k → k < number + length stations → has_number k (map (λ member. member.pass) crew) ≡ true

by_test : (k n : ℕ) (test rest : Bool) → (n == k) ≡ test → ((n ≡ k → ⊥) → rest ≡ true) → (test || rest) ≡ true
by_test k n true rest same others = refl
by_test k n false rest same others = others (eqb-false n k same)

number_in : (number k n : ℕ) → n ≡ number → (crew : List Member) → number ≤ k → (number + 1 ≤ k → has_number k (map (λ member. member.pass) crew) ≡ true) → ((n == k) || has_number k (map (λ member. member.pass) crew)) ≡ true
number_in number k n number_is crew from others = by_test k n (n == k) (has_number k (map (λ member. member.pass) crew)) refl (λ other. others (above number k from (λ e. other (number_is ∙ e))))

pub back : (footing : Footing) (number : ℕ) (stations : List StationView) (crew : List Member) → AllServed (members footing number stations) crew → Back footing number stations crew
back footing number [] [] served = record { length_is = refl; here = All-nil (λ (m : Member). m.pass.table ≡ footing.room); claims_here = All-nil (λ (m : Member). m.claimer.table ≡ footing.claims); within = omega arith; over = λ none. refl; numbers = λ k from below. absurd (omega arith) }
back footing number [] (member ∷ crew) served = absurd served
back footing number (station ∷ stations) [] served = absurd served
back footing number (station ∷ stations) (member ∷ crew) served =
    let rest = back footing (number + 1) stations crew served.1 in
    let has = served.0 in
    let did = has.did in
    let first : Bench = bench_in station (house_of (member_at footing number station).pass.note has.name 0 0) in
    let last : Bench = bench_in member.station (house_of member.pass.note has.name has.keepers has.unkept) in
    let below : faulted member.worked ≤ member.claimer.claims = faulted_below member.worked first last member.claimer.claims did.works in
    let within-rest = rest.within in
    let failed-sum = sum_by-cons (λ (m : Member). faulted m.worked) member crew in
    let claims-sum = sum_by-cons (λ (m : Member). m.claimer.claims) member crew in
    let over-sum = sum_by-cons (λ (m : Member). as_count m.claimer.is_over) member crew in
    record {
      length_is = ap suc rest.length_is;
      here = All-cons (λ (m : Member). m.pass.table ≡ footing.room) member crew has.table rest.here;
      claims_here = All-cons (λ (m : Member). m.claimer.table ≡ footing.claims) member crew (same_table member.claimer.table footing.claims did.same) rest.claims_here;
      within = omega arith;
      over = λ none. over-sum ∙ over_of member.worked member.claimer.is_over (sum_by (λ (m : Member). faulted m.worked) crew) (sum_by (λ (m : Member). as_count m.claimer.is_over) crew) (length crew) did.over rest.over (sym failed-sum ∙ none);
      numbers = λ k from upto. number_in number k member.pass.note.number did.moves.number crew from (λ above. rest.numbers k above (omega arith));
    }
