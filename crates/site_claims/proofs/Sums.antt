-- Sums over what all seats know.
use Rattle.std.proofs.Common.{◌≡◌, ◌≢◌, ℕ, zero, suc, ◌+◌, ◌<◌, ◌≤◌, List, [], ◌∷◌, ◌++◌, length, set, ◌⊎◌, inl, inr, ⊎_elim, refl, sym, ap, subst, arith}
use Rattle.std.specs.List.{sum_by}
use Rattle.std.proofs.lemmas.List.Sums.{sum_by-cons, sum_by-set}
use mathlib.Core.Option.{some, some-injective, some-ne-none}
use lib.ListN.{get_elem?, get_or}
use Rattle.atomic_table.proofs.Lists.{at_set, at_snoc}
use Rattle.site_claims.specs.declared.rule.ClaimNote.{ClaimNote}
use Rattle.site_claims.specs.Rule.{all_claims, all_over, all_room, spent, Counts}

pub at_below : {A : Type 0} (xs : List A) (i : ℕ) (x : A) → get_elem? xs i ≡ some x → i < length xs
at_below [] i x e = absurd (some-ne-none x (sym e))
at_below (y ∷ ys) zero x e = omega arith
at_below (y ∷ ys) (suc i) x e = let r = at_below ys i x e in omega arith

at_get : {A : Type 0} (xs : List A) (i : ℕ) (x d : A) → get_elem? xs i ≡ some x → get_or xs i d ≡ x
at_get [] i x d e = absurd (some-ne-none x (sym e))
at_get (y ∷ ys) zero x d e = some-injective y x e
at_get (y ∷ ys) (suc i) x d e = at_get ys i x d e

-- the sum after a change of one note
pub sum_changed : (f : ClaimNote → ℕ) (notes : List ClaimNote) (i : ℕ) (old new : ClaimNote) → get_elem? notes i ≡ some old → sum_by f (set notes i new) + f old ≡ sum_by f notes + f new
sum_changed f notes i old new at =
    subst (λ (note : ClaimNote). sum_by f (set notes i new) + f note ≡ sum_by f notes + f new) (at_get notes i old old at) (sum_by-set f notes i new old (at_below notes i old at))

-- each seat is spent, or counts
abbrev pub AreNotes : ℕ → List ClaimNote → Type 0
AreNotes limit notes = (seat : ℕ) (note : ClaimNote) → get_elem? notes seat ≡ some note → (note ≡ spent) ⊎ Counts limit note

pub set_note : (limit : ℕ) (notes : List ClaimNote) (i : ℕ) (new : ClaimNote) → AreNotes limit notes → (new ≡ spent) ⊎ Counts limit new → AreNotes limit (set notes i new)
set_note limit notes i new all one seat note e =
    ⊎_elim (λ (h : (seat ≡ i) × (new ≡ note)). subst (λ (n : ClaimNote). (n ≡ spent) ⊎ Counts limit n) h.1 one) (λ (h : (seat ≢ i) × (get_elem? notes seat ≡ some note)). all seat note h.1) (at_set notes i seat new note e)

pub more_notes : (limit : ℕ) (notes : List ClaimNote) (new : ClaimNote) → AreNotes limit notes → (new ≡ spent) ⊎ Counts limit new → AreNotes limit (notes ++ new ∷ [])
more_notes limit notes new all one seat note e =
    ⊎_elim (λ (h : get_elem? notes seat ≡ some note). all seat note h) (λ (h : new ≡ note). subst (λ (n : ClaimNote). (n ≡ spent) ⊎ Counts limit n) h one) (at_snoc notes new note seat e)

over_in_room : (limit : ℕ) (note : ClaimNote) → (note ≡ spent) ⊎ Counts limit note → note.over ≤ note.room
over_in_room limit note (inl is) = let over = ap (λ (n : ClaimNote). n.over) is in let room = ap (λ (n : ClaimNote). n.room) is in omega arith
over_in_room limit note (inr counts) = counts.over

idle_without_room : (limit : ℕ) (note : ClaimNote) → (note ≡ spent) ⊎ Counts limit note → note.room ≡ 0 → note.claims ≡ 0
idle_without_room limit note (inl is) none = ap (λ (n : ClaimNote). n.claims) is
idle_without_room limit note (inr counts) none = counts.idle none

-- no more were refused than there is room for
pub all_over_in_room : (limit : ℕ) (notes : List ClaimNote) → AreNotes limit notes → all_over notes ≤ all_room notes
all_over_in_room limit [] all = omega arith
all_over_in_room limit (note ∷ notes) all =
    let here = over_in_room limit note (all 0 note refl) in
    let rest = all_over_in_room limit notes (λ seat n e. all (suc seat) n e) in
    let over = sum_by-cons (λ (n : ClaimNote). n.over) note notes in
    let room = sum_by-cons (λ (n : ClaimNote). n.room) note notes in
    omega arith

-- without room nothing was claimed
pub all_idle : (limit : ℕ) (notes : List ClaimNote) → AreNotes limit notes → all_room notes ≡ 0 → all_claims notes ≡ 0
all_idle limit [] all none = refl
all_idle limit (note ∷ notes) all none =
    let room = sum_by-cons (λ (n : ClaimNote). n.room) note notes in
    let here = idle_without_room limit note (all 0 note refl) (omega arith) in
    let rest = all_idle limit notes (λ seat n e. all (suc seat) n e) (omega arith) in
    let claims = sum_by-cons (λ (n : ClaimNote). n.claims) note notes in
    omega arith
