-- The rule between any two steps of those who claim: a fact about the word that they draw from, and about what each seat knows.
use Rattle.std.specs.Prelude.{◌≡◌, ◌+◌, ◌≤◌, ◌⊎◌, ℕ, List, [], ◌∷◌, min}
use Rattle.std.specs.List.{sum_by}
use mathlib.Core.Option.{some}
use lib.ListN.{get_elem?}
use Rattle.atomic_table.specs.Table.{State}
use Rattle.site_claims.specs.declared.rule.ClaimNote.{ClaimNote}

abbrev pub all_claims : List ClaimNote → ℕ
all_claims notes = sum_by (λ note. note.claims) notes

abbrev pub all_over : List ClaimNote → ℕ
all_over notes = sum_by (λ note. note.over) notes

abbrev pub all_room : List ClaimNote → ℕ
all_room notes = sum_by (λ note. note.room) notes

-- a seat that was given back, and counts nothing
abbrev pub spent : ClaimNote
spent = record { claims = 0; over = 0; room = 0; limit = 0 }

-- the first seat, which has all room
abbrev pub founding : ℕ → ClaimNote
founding limit = record { claims = 0; over = 0; room = 16; limit = limit }

-- A seat that counts: it was refused no more often than it has room, and without room it claimed nothing.
pub record Counts (limit : ℕ) (note : ClaimNote) : Type 0 where
  pub limit_is : note.limit ≡ limit
  pub over : note.over ≤ note.room
  pub idle : note.room ≡ 0 → note.claims ≡ 0

-- The word says how many numbers were drawn: those that were claimed and those that were refused. As many were claimed as there
-- are numbers, and no more. In all there is room for 16 refusals, so the word can't wrap.
pub record KeepsRule {S : Type 0} (limit : ℕ) (state : State S ClaimNote) : Type 0 where
  pub few : limit ≤ 9223372036854775808
  pub word : state.words ≡ (all_claims state.views + all_over state.views) ∷ []
  pub claimed : all_claims state.views ≡ min (all_claims state.views + all_over state.views) limit
  pub room : all_room state.views ≡ 16
  pub each : (seat : ℕ) (note : ClaimNote) → get_elem? state.views seat ≡ some note → (note ≡ spent) ⊎ Counts limit note
