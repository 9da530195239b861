-- What the edits of a log keep.
use Rattle.std.proofs.Common.{ℕ, zero, suc, List, [], ◌∷◌, ◌≡◌, ◌≤◌, ◌⊎◌, refl, sym, ◌∙◌, subst, arith, inl, inr, Option, Contains, take, sum_by}
use Rattle.std.specs.List.{filter_map}
use Rattle.std.proofs.lemmas.List.Sums.{sum_by-cons, sum_by-le-sum_by}
use Rattle.cacheability.specs.declared.tag.Tag.{Tag}
use Rattle.tag_counts.specs.Counts.{count_of, sum_of}
use Rattle.content_rows.specs.declared.cell.Cell.{Cell}
use Rattle.content_rows.specs.declared.row.Row.{Row}
use Rattle.content_state.specs.State.{State}
use Rattle.content_state.specs.declared.commit.Commit.{Commit}
use Rattle.indexed_rows.specs.Rows.{row_at, InOrder}
use Rattle.content_state.specs.Replay.{step, replay}
use Rattle.state_commits.specs.Edits.{after, AreInOrder, SameCounts, StepsKeepOrder, LogsKeepOrder, StepsLowerNoCount, LogsLowerNoCount, SumsTellCounts}
use Rattle.state_commits.proofs.Steps.{step_ordered, step_in_order, step_up, Names, step_keeps_row, Tells, step_gathers_same}

-- the second state comes from the first one by edits
pub data Leads : State → State → Type 0 where
  nowhere : {s : State} → Leads s s
  on : {s t : State} (commit : Commit) → Leads (step s commit) t → Leads s t

take_none : (n : ℕ) → take {A = Commit} n [] ≡ []
take_none zero = refl
take_none (suc n) = refl

pub leads_from : (base : State) (log : List Commit) (k : ℕ) → Leads base (after base log k)
unfolding replay
leads_from base [] k = subst (λ l. Leads base (replay base l)) (sym (take_none k)) nowhere
leads_from base (c ∷ log) zero = nowhere
leads_from base (c ∷ log) (suc k) = on c (leads_from (step base c) log k)

pub leads_on : (base : State) (log : List Commit) (j k : ℕ) → j ≤ k → Leads (after base log j) (after base log k)
unfolding replay
leads_on base [] zero k l = leads_from base [] k
leads_on base (c ∷ log) zero k l = leads_from base (c ∷ log) k
leads_on base [] (suc j) k l = subst (λ m. Leads (replay base []) (replay base m)) (sym (take_none k)) nowhere
leads_on base (c ∷ log) (suc j) zero l = absurd (omega arith)
leads_on base (c ∷ log) (suc j) (suc k) l = leads_on (step base c) log j k (omega arith)

-- along the way
pub never_down : {s t : State} → Leads s t → (g : Tag) → count_of s.counts g ≤ count_of t.counts g
never_down nowhere g = omega arith
never_down (on {s = s} {t = t} commit rest) g =
    let one = step_up s commit g in
    let more = never_down rest g in
    omega arith

pub ordered_on : {s t : State} → Leads s t → InOrder s.rows → InOrder t.rows
ordered_on nowhere sorted = sorted
ordered_on (on {s = s} commit rest) sorted = ordered_on rest (step_ordered s commit sorted)

in_order_on : {s t : State} → Leads s t → AreInOrder s → AreInOrder t
in_order_on nowhere sorted = sorted
in_order_on (on {s = s} commit rest) sorted = in_order_on rest (step_in_order s commit sorted)

-- where a count is the same at both ends, it is so after the first edit
first_same : (s t : State) (commit : Commit) → Leads (step s commit) t → (g : Tag) → count_of s.counts g ≡ count_of t.counts g → count_of s.counts g ≡ count_of (step s commit).counts g
first_same s t commit rest g same =
    let one = step_up s commit g in
    let more = never_down rest g in
    omega arith

keeps_row : {s t : State} → Leads s t → InOrder s.rows → (c : Cell) (g : Tag) → Names c g → count_of s.counts g ≡ count_of t.counts g → row_at s.rows c ≡ row_at t.rows c
keeps_row nowhere sorted c g names same = refl
keeps_row (on {s = s} {t = t} commit rest) sorted c g names same =
    let one : count_of s.counts g ≡ count_of (step s commit).counts g = first_same s t commit rest g same in
    step_keeps_row s commit sorted c g names one
    ∙ keeps_row rest (step_ordered s commit sorted) c g names (sym one ∙ same)

gathers_same : {Y : Type 0} (f : Cell × Row → Option Y) {s t : State} → Leads s t → InOrder s.rows → (g : Tag) → Tells f g → count_of s.counts g ≡ count_of t.counts g → filter_map f s.rows ≡ filter_map f t.rows
gathers_same f nowhere sorted g tells same = refl
gathers_same f (on {s = s} {t = t} commit rest) sorted g tells same =
    let one : count_of s.counts g ≡ count_of (step s commit).counts g = first_same s t commit rest g same in
    step_gathers_same f s commit sorted g tells one
    ∙ gathers_same f rest (step_ordered s commit sorted) g tells (sym one ∙ same)

-- two states of one log, the one before the other or after it
abbrev pub Kin : State → State → Type 0
Kin s t = Leads s t ⊎ Leads t s

in_turn : (j k : ℕ) → (j ≤ k) ⊎ (k ≤ j)
in_turn zero k = inl (omega arith)
in_turn (suc j) zero = inr (omega arith)
in_turn (suc j) (suc k) = elim (in_turn j k) [ inl l ↦ inl (omega arith) | inr l ↦ inr (omega arith) ]

pub kin : (base : State) (log : List Commit) (j k : ℕ) → Kin (after base log j) (after base log k)
kin base log j k = elim (in_turn j k) [ inl l ↦ inl (leads_on base log j k l) | inr l ↦ inr (leads_on base log k j l) ]

pub same_row : {s t : State} → Kin s t → InOrder s.rows → InOrder t.rows → (c : Cell) (g : Tag) → Names c g → count_of s.counts g ≡ count_of t.counts g → row_at s.rows c ≡ row_at t.rows c
same_row (inl way) sorted sorted' c g names same = keeps_row way sorted c g names same
same_row (inr way) sorted sorted' c g names same = sym (keeps_row way sorted' c g names (sym same))

pub same_gathered : {Y : Type 0} (f : Cell × Row → Option Y) {s t : State} → Kin s t → InOrder s.rows → InOrder t.rows → (g : Tag) → Tells f g → count_of s.counts g ≡ count_of t.counts g → filter_map f s.rows ≡ filter_map f t.rows
same_gathered f (inl way) sorted sorted' g tells same = gathers_same f way sorted g tells same
same_gathered f (inr way) sorted sorted' g tells same = sym (gathers_same f way sorted' g tells (sym same))

-- equal sums, where no count falls
head_equal : (f g : Tag → ℕ) → ((h : Tag) → f h ≤ g h) → (x : Tag) (tags : List Tag) → sum_by f (x ∷ tags) ≡ sum_by g (x ∷ tags) → (f x ≡ g x) × (sum_by f tags ≡ sum_by g tags)
head_equal f g below x tags sums =
    let first = below x in
    let others = sum_by-le-sum_by f g tags below in
    (omega (arith, sum_by-cons f x tags, sum_by-cons g x tags), omega (arith, sum_by-cons f x tags, sum_by-cons g x tags))

each_equal : (f g : Tag → ℕ) → ((h : Tag) → f h ≤ g h) → (tags : List Tag) → sum_by f tags ≡ sum_by g tags → (h : Tag) → Contains tags h → f h ≡ g h
each_equal f g below [] sums h held = absurd (let l = held.1 in omega arith)
each_equal f g below (x ∷ tags) sums h (zero, l, is) = subst (λ y. f y ≡ g y) is (head_equal f g below x tags sums).0
each_equal f g below (x ∷ tags) sums h (suc k, l, is) =
    each_equal f g below tags (head_equal f g below x tags sums).1 h (k, omega arith, is)

told_by_sums : {s t : State} → Kin s t → (tags : List Tag) → sum_of s.counts tags ≡ sum_of t.counts tags → SameCounts tags s t
told_by_sums {s} {t} (inl way) tags sums g held = each_equal (count_of s.counts) (count_of t.counts) (never_down way) tags sums g held
told_by_sums {s} {t} (inr way) tags sums g held = sym (each_equal (count_of t.counts) (count_of s.counts) (never_down way) tags (sym sums) g held)

-- the laws
pub steps_keep_order : StepsKeepOrder
steps_keep_order = step_in_order

pub logs_keep_order : LogsKeepOrder
logs_keep_order base log count sorted = in_order_on (leads_from base log count) sorted

pub steps_lower_no_count : StepsLowerNoCount
steps_lower_no_count = step_up

pub logs_lower_no_count : LogsLowerNoCount
logs_lower_no_count base log j k l g = never_down (leads_on base log j k l) g

pub sums_tell_counts : SumsTellCounts
sums_tell_counts base log j k tags sums = told_by_sums (kin base log j k) tags sums
