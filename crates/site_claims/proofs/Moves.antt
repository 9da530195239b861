-- Each kind of step keeps the rule.
use Rattle.std.proofs.Common.{◌≡◌, ◌≢◌, ℕ, ◌+◌, ◌%◌, ◌^◌, ◌<◌, ◌≤◌, min, List, [], ◌∷◌, ◌++◌, set, Bool, true, false, ◌⊎◌, inl, inr, ⊎_elim, refl, sym, ap, ◌∙◌, subst, arith, mod-eq_of_lt}
use Rattle.std.specs.Prelude.{nat_lt, slice_index, slice_set, if◌then◌else◌}
use borrow.Author.Tests.{ltb-true, ltb-false}
use Rattle.std.proofs.lemmas.List.Sums.{sum_by_push}
use mathlib.Core.Option.{some, some-injective}
use lib.ListN.{get_elem?}
use Rattle.atomic_table.proofs.Lists.{set_else}
use Rattle.atomic_table.specs.Table.{State, Me, keeps, stepped, Allows, Splits, Joins, Final, Seen}
use Rattle.site_claims.specs.declared.rule.ClaimNote.{ClaimNote}
use Rattle.site_claims.specs.Rule.{KeepsRule, Counts, all_claims, all_over, all_room, spent}
use Rattle.site_claims.specs.Steps.{Asks, claimed, refused, joined, without_worker, worker_of}
use Rattle.site_claims.proofs.Sums.{sum_changed, set_note, more_notes, all_over_in_room, all_idle}

-- a seat with room isn't spent
with_room : (v : ClaimNote) → 0 < v.room → v ≢ spent
with_room v room is = let none = ap (λ (n : ClaimNote). n.room) is in omega arith

with_limit : (v : ClaimNote) → 0 < v.limit → v ≢ spent
with_limit v above is = let none = ap (λ (n : ClaimNote). n.limit) is in omega arith

-- one number more was drawn: it was claimed, or all were
abbrev Draws : ℕ → ℕ → ClaimNote → ClaimNote → Type 0
Draws drawn limit v w = ((drawn < limit) × (w.claims ≡ v.claims + 1) × (w.over ≡ v.over)) ⊎ ((limit ≤ drawn) × (w.claims ≡ v.claims) × (w.over ≡ v.over + 1))

-- what is claimed in all stays what it is to be
goes_on : (limit claims over claims' over' : ℕ) (v w : ClaimNote) → claims ≡ min (claims + over) limit → claims' + v.claims ≡ claims + w.claims → over' + v.over ≡ over + w.over
    → Draws (claims + over) limit v w → (claims' ≡ min (claims' + over') limit) × (claims' + over' ≡ claims + over + 1)
goes_on limit claims over claims' over' v w before c o (inl draws) = let below = draws.0 in let one = draws.1 in let same = draws.2 in (omega arith, omega arith)
goes_on limit claims over claims' over' v w before c o (inr draws) = let above = draws.0 in let same = draws.1 in let one = draws.2 in (omega arith, omega arith)

both_count : (limit : ℕ) (v w : ClaimNote) → Counts limit v → (w ≡ spent) ⊎ Counts limit w → Counts limit (joined v w)
both_count limit v w counts (inl is) =
    let claims = ap (λ (n : ClaimNote). n.claims) is in
    let over = ap (λ (n : ClaimNote). n.over) is in
    let room = ap (λ (n : ClaimNote). n.room) is in
    let mine = counts.over in
    record { limit_is = counts.limit_is; over = omega arith; idle = λ none. (let idle = counts.idle (omega arith) in omega arith) }
both_count limit v w counts (inr others) =
    let mine = counts.over in
    let other = others.over in
    record { limit_is = counts.limit_is; over = omega arith; idle = λ none. (let idle = counts.idle (omega arith) in let rest = others.idle (omega arith) in omega arith) }

module _ {S : Type 0} (limit : ℕ) where
  -- a seat that isn't spent counts
  counting : (s : State S ClaimNote) (id : ℕ) (v : ClaimNote) → KeepsRule limit s → get_elem? s.views id ≡ some v → v ≢ spent → Counts limit v
  counting s id v k at not_spent = ⊎_elim (λ (is : v ≡ spent). absurd (not_spent is)) (λ (c : Counts limit v). c) (k.each id v at)

  -- ---- a number is asked for

  -- the word goes on by one, as the seat does
  asked : (s : State S ClaimNote) (id : ℕ) (v w : ClaimNote) (c : List (ℕ × S)) → KeepsRule limit s → get_elem? s.views id ≡ some v → Counts limit w → w.room ≡ v.room
      → Draws (all_claims s.views + all_over s.views) limit v w
      → KeepsRule limit (stepped s 0 ((slice_index s.words 0 + 1) % 2 ^ 64) id c w keeps)
  asked s id v w c k at counts room draws =
      let few = k.few in
      let before = k.claimed in
      let all_room = k.room in
      let over = all_over_in_room limit s.views k.each in
      let sum = sum_changed (λ (n : ClaimNote). n.room) s.views id v w at in
      let goes = goes_on limit (all_claims s.views) (all_over s.views) (all_claims (set s.views id w)) (all_over (set s.views id w)) v w before
      (sum_changed (λ (n : ClaimNote). n.claims) s.views id v w at) (sum_changed (λ (n : ClaimNote). n.over) s.views id v w at) draws in
      let here : (all_claims s.views + all_over s.views + 1) % 2 ^ 64 ≡ all_claims s.views + all_over s.views + 1 = mod-eq_of_lt (omega arith) in
      record {
        few = k.few;
        word = subst (λ (ws : List ℕ). slice_set ws 0 ((slice_index ws 0 + 1) % 2 ^ 64) ≡ (all_claims (set s.views id w) + all_over (set s.views id w)) ∷ []) (sym k.word) (ap (λ (n : ℕ). n ∷ []) (here ∙ sym goes.1));
        claimed = goes.0;
        room = omega arith;
        each = set_note limit s.views id w k.each (inr counts);
      }

  asks_by : (s : State S ClaimNote) (id : ℕ) (v : ClaimNote) (c : List (ℕ × S)) (b : Bool) → nat_lt (slice_index s.words 0) v.limit ≡ b → KeepsRule limit s → get_elem? s.views id ≡ some v → v.over < v.room
      → KeepsRule limit (stepped s 0 ((slice_index s.words 0 + 1) % 2 ^ 64) id c (if b then claimed v else refused v) keeps)
  asks_by s id v c true e k at room =
      let counts = counting s id v k at (with_room v (omega arith)) in
      let is = counts.limit_is in
      let found : slice_index s.words 0 ≡ all_claims s.views + all_over s.views = ap (λ (ws : List ℕ). slice_index ws 0) k.word in
      let below : slice_index s.words 0 < v.limit = ltb-true _ _ e in
      asked s id v (claimed v) c k at (record { limit_is = counts.limit_is; over = counts.over; idle = λ none. absurd (omega arith) }) refl (inl (omega arith, refl, refl))
  asks_by s id v c false e k at room =
      let counts = counting s id v k at (with_room v (omega arith)) in
      let is = counts.limit_is in
      let found : slice_index s.words 0 ≡ all_claims s.views + all_over s.views = ap (λ (ws : List ℕ). slice_index ws 0) k.word in
      let above : v.limit ≤ slice_index s.words 0 = ltb-false _ _ e in
      asked s id v (refused v) c k at (record { limit_is = counts.limit_is; over = omega arith; idle = λ none. absurd (omega arith) }) refl (inr (omega arith, refl, refl))

  pub asks : (slots id : ℕ) (me : Me S ClaimNote) → me.0.over < me.0.room → Allows (KeepsRule limit) slots id me 0 (λ n. (n + 1) % 2 ^ 64) (Asks me)
  asks slots id me room s k count at small = (
    (if nat_lt (slice_index s.words 0) me.0.limit then claimed me.0 else refused me.0),
    keeps,
    tt,
    asks_by s id me.0 me.1 (nat_lt (slice_index s.words 0) me.0.limit) refl k at room,
    record { note = refl; slots = refl },
  )

  -- ---- workers come and are given back

  pub parts : (id : ℕ) (v : ClaimNote) → 0 < v.room → v.claims ≡ 0 → v.over ≡ 0 → Splits {S = S} (KeepsRule limit) id v (without_worker v) (worker_of v)
  parts id v room none never s k at =
      let counts = counting s id v k at (with_room v room) in
      let left = without_worker v in
      let right = worker_of v in
      let before = k.claimed in
      let all_room = k.room in
      let c1 = sum_changed (λ (n : ClaimNote). n.claims) s.views id v left at in
      let c2 = sum_changed (λ (n : ClaimNote). n.over) s.views id v left at in
      let c3 = sum_changed (λ (n : ClaimNote). n.room) s.views id v left at in
      let d1 = sum_by_push (λ (n : ClaimNote). n.claims) (set s.views id left) right in
      let d2 = sum_by_push (λ (n : ClaimNote). n.over) (set s.views id left) right in
      let d3 = sum_by_push (λ (n : ClaimNote). n.room) (set s.views id left) right in
      let same : all_claims (set s.views id left ++ right ∷ []) ≡ all_claims s.views = omega arith in
      let same_over : all_over (set s.views id left ++ right ∷ []) ≡ all_over s.views = omega arith in
      record {
        few = k.few;
        word = k.word ∙ ap (λ (n : ℕ). n ∷ []) (omega arith);
        claimed = omega arith;
        room = omega arith;
        each = more_notes limit (set s.views id left) right (set_note limit s.views id left k.each (inr (record { limit_is = counts.limit_is; over = omega arith; idle = λ _. none }))) (inr (record { limit_is = counts.limit_is; over = omega arith; idle = λ _. refl }));
      }

  pub joins : (id : ℕ) (v : ClaimNote) (other : ℕ) (w : ClaimNote) → 0 < v.limit → Joins {S = S} (KeepsRule limit) id v other w (joined v w) spent
  joins id v other w above s k at ne there =
      let counts = counting s id v k at (with_limit v above) in
      let both = joined v w in
      let middle = set s.views id both in
      let before = k.claimed in
      let all_room = k.room in
      let c1 = sum_changed (λ (n : ClaimNote). n.claims) s.views id v both at in
      let c2 = sum_changed (λ (n : ClaimNote). n.over) s.views id v both at in
      let c3 = sum_changed (λ (n : ClaimNote). n.room) s.views id v both at in
      let d1 = sum_changed (λ (n : ClaimNote). n.claims) middle other w spent there in
      let d2 = sum_changed (λ (n : ClaimNote). n.over) middle other w spent there in
      let d3 = sum_changed (λ (n : ClaimNote). n.room) middle other w spent there in
      let old : get_elem? s.views other ≡ some w = sym (set_else s.views id other both ne) ∙ there in
      let same : all_claims (set middle other spent) ≡ all_claims s.views = omega arith in
      let same_over : all_over (set middle other spent) ≡ all_over s.views = omega arith in
      record {
        few = k.few;
        word = k.word ∙ ap (λ (n : ℕ). n ∷ []) (omega arith);
        claimed = omega arith;
        room = omega arith;
        each = set_note limit middle other spent (set_note limit s.views id both k.each (inr (both_count limit v w counts (k.each other w old)))) (inl refl);
      }

  -- ---- the end

  -- with all room on one seat, what it knows is all that was claimed
  pub closes : (id : ℕ) (v : ClaimNote) (words : List ℕ) (xs : List S) → Final (Seen (KeepsRule limit) id v) words xs → v.room ≡ 16
      → (v.limit ≡ limit) × ((n : ℕ) → get_elem? words 0 ≡ some n → min n v.limit ≡ v.claims) × (0 < v.over → v.claims ≡ v.limit)
  closes id v words xs final room =
      let s = final.0 in
      let k = final.1.0 in
      let at = final.1.1 in
      let counts = counting s id v k at (with_room v (omega arith)) in
      let is = counts.limit_is in
      let before = k.claimed in
      let all_room_is = k.room in
      let rest = set s.views id spent in
      let c1 = sum_changed (λ (n : ClaimNote). n.claims) s.views id v spent at in
      let c2 = sum_changed (λ (n : ClaimNote). n.over) s.views id v spent at in
      let c3 = sum_changed (λ (n : ClaimNote). n.room) s.views id v spent at in
      let are = set_note limit s.views id spent k.each (inl refl) in
      let none : all_room rest ≡ 0 = omega arith in
      let idle = all_idle limit rest are none in
      let over = all_over_in_room limit rest are in
      let claims : all_claims s.views ≡ v.claims = omega arith in
      let refusals : all_over s.views ≡ v.over = omega arith in (
        is,
        (λ n e. (let word : all_claims s.views + all_over s.views ≡ n = some-injective _ _ (ap (λ (ws : List ℕ). get_elem? ws 0) (sym k.word ∙ final.2) ∙ e) in omega arith)),
        (λ some_over. omega arith),
      )
