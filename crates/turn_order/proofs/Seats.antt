-- Where passes stand after a step, and what they have seen then.
use Rattle.std.proofs.Common.{◌≡◌, ℕ, List, [], ◌∷◌, ◌++◌, length, set, map, Some, inl, inr, refl, sym, ap, ◌∙◌, subst}
use mathlib.Core.Option.{some}
use lib.ListN.{get_elem?}
use mathlib.Core.Logic.{dite}
use native.Mathlib.Decide.{ℕ_discrete}
use Rattle.atomic_table.proofs.Lists.{set_else, set_here, at_longer, at_last}
use Rattle.content_state.specs.Replay.{Begins}
use Rattle.turn_rule.specs.declared.notes.PassNote.{PassNote}
use Rattle.turn_rule.specs.declared.notes.FounderNote.{FounderNote}
use Rattle.turn_rule.specs.declared.notes.Note.{Note}
use Rattle.turn_rule.specs.Rule.{IsAmong, Stands}
use Rattle.turn_rule.specs.Steps.{bearing, longer, seeing, met, AreMet, first_of, others_of, left_of, right_of, joined, spent}
use Rattle.turn_rule.proofs.Edits.{begins_same, begins_then}
use Rattle.turn_rule.proofs.Accounts.{none_some}
use Rattle.turn_rule.proofs.Claims.{at_below, at_one}
use Rattle.turn_order.specs.Order.{IsLater}

pub later_same : (p : PassNote) → IsLater p p
later_same p = record { number = refl; opened = refl; seen = begins_same p.seen }

pub later_of : (p q : PassNote) → Begins p.seen q.seen → q.number ≡ p.number → q.opened ≡ p.opened → IsLater p q
later_of p q seen number opened = record { number = number; opened = opened; seen = seen }

pub later_then : (p q r : PassNote) → IsLater p q → IsLater q r → IsLater p r
later_then p q r f g = record { number = g.number ∙ f.number; opened = g.opened ∙ f.opened; seen = begins_then p.seen q.seen r.seen f.seen g.seen }

-- each of these passes is among those, and has seen no less
abbrev pub GoOn : List PassNote → List PassNote → Type 0
GoOn old new = (p : PassNote) → IsAmong p old → (q : PassNote) × IsAmong q new × IsLater p q

pub same_go_on : (ps : List PassNote) → GoOn ps ps
same_go_on ps p a = (p, a, later_same p)

pub map_goes_on : (f : PassNote → PassNote) (ps : List PassNote) → ((p : PassNote) → IsAmong p ps → IsLater p (f p)) → GoOn ps (map f ps)
map_goes_on f [] each p a = absurd a
map_goes_on f (x ∷ xs) each p (inl e) = (f p, inl (ap f e), each p (inl e))
map_goes_on f (x ∷ xs) each p (inr a) = let t = map_goes_on f xs (λ q b. each q (inr b)) p a in (t.0, inr t.1, t.2)

pub met_go_on : (ps : List PassNote) → AreMet ps → GoOn ps (met ps)
met_go_on [] m p a = absurd a
met_go_on (x ∷ []) m p a = (p, a, later_same p)
met_go_on (x ∷ y ∷ ys) m p (inl e) = (seeing (longer x.seen y.seen) x, inl refl, subst (λ (z : PassNote). IsLater z (seeing (longer x.seen y.seen) x)) (sym e) (record { number = refl; opened = refl; seen = m.0 }))
met_go_on (x ∷ y ∷ ys) m p (inr (inl e)) = (seeing (longer x.seen y.seen) y, inr (inl refl), subst (λ (z : PassNote). IsLater z (seeing (longer x.seen y.seen) y)) (sym e) (record { number = refl; opened = refl; seen = m.1 }))
met_go_on (x ∷ y ∷ ys) m p (inr (inr a)) = (p, inr (inr a), later_same p)

-- each pass that stands on some seat stands on some later, and has seen no less
abbrev pub AllGoOn : List Note → List Note → Type 0
AllGoOn old new = (seat : ℕ) (p : PassNote) → Stands old seat p → (other : ℕ) × (q : PassNote) × Stands new other q × IsLater p q

pub all_then : (a b c : List Note) → AllGoOn a b → AllGoOn b c → AllGoOn a c
all_then a b c f g seat p s = let t = f seat p s in let u = g t.0 t.1 t.2 in (u.0, u.1, u.2, later_then p t.1 u.1 t.3 u.3)

-- one seat says something else
pub seat_goes_on : (notes : List Note) (seat : ℕ) (v w : Note) → get_elem? notes seat ≡ some v → GoOn v.passes w.passes → AllGoOn notes (set notes seat w)
seat_goes_on notes seat v w at go j p s = dite (ℕ_discrete j seat)
    (λ e. let same : s.0 ≡ v = at_one notes seat s.0 v (ap (get_elem? notes) (sym e) ∙ s.1) at in
    let t = go p (subst (λ (n : Note). IsAmong p n.passes) same s.2) in (seat, t.0, (w, set_here notes seat w (at_below notes seat v at), t.1), t.2))
    (λ ne. (j, p, (s.0, set_else notes seat j w ne ∙ s.1, s.2), later_same p))

-- the first pass of a seat gets a seat of its own
pub split_goes_on : (notes : List Note) (seat : ℕ) (v : Note) → get_elem? notes seat ≡ some v → AllGoOn notes (set notes seat (left_of v) ++ right_of v ∷ [])
split_goes_on notes seat v at j p s = dite (ℕ_discrete j seat)
    (λ e. let same : s.0 ≡ v = at_one notes seat s.0 v (ap (get_elem? notes) (sym e) ∙ s.1) at in parts v.passes refl (subst (λ (n : Note). IsAmong p n.passes) same s.2))
    (λ ne. (j, p, (s.0, at_longer left (right_of v ∷ []) j s.0 (set_else notes seat j (left_of v) ne ∙ s.1), s.2), later_same p))
  where
    left : List Note
    left = set notes seat (left_of v)

    parts : (ps : List PassNote) → v.passes ≡ ps → IsAmong p ps → (other : ℕ) × (q : PassNote) × Stands (left ++ right_of v ∷ []) other q × IsLater p q
    parts [] is a = absurd a
    parts (x ∷ xs) is (inl e) = (length left, p, (right_of v, at_last left (right_of v) (length left) refl, subst (λ (l : List PassNote). IsAmong p (first_of l)) (sym is) (inl e)), later_same p)
    parts (x ∷ xs) is (inr a) = (seat, p, (left_of v, at_longer left (right_of v ∷ []) seat (left_of v) (set_here notes seat (left_of v) (at_below notes seat v at)), subst (λ (l : List PassNote). IsAmong p (others_of l)) (sym is) a), later_same p)

among_more : (p : PassNote) (xs ys : List PassNote) → IsAmong p ys → IsAmong p (xs ++ ys)
among_more p [] ys a = a
among_more p (x ∷ xs) ys a = inr (among_more p xs ys a)

among_front : (p : PassNote) (xs ys : List PassNote) → IsAmong p xs → IsAmong p (xs ++ ys)
among_front p [] ys a = absurd a
among_front p (x ∷ xs) ys (inl e) = inl e
among_front p (x ∷ xs) ys (inr a) = inr (among_front p xs ys a)

-- the passes of another seat come to one
pub join_goes_on : (notes : List Note) (seat other : ℕ) (v u : Note) → get_elem? notes seat ≡ some v → ¬ (other ≡ seat) → get_elem? (set notes seat (joined v u)) other ≡ some u → AllGoOn notes (set (set notes seat (joined v u)) other spent)
join_goes_on notes seat other v u at differ there j p s = dite (ℕ_discrete j other)
    (λ e. let same : s.0 ≡ u = at_one notes other s.0 u (ap (get_elem? notes) (sym e) ∙ s.1) (sym (set_else notes seat other (joined v u) differ) ∙ there) in
    come (among_front p u.passes v.passes (subst (λ (n : Note). IsAmong p n.passes) same s.2)))
    (λ ne. dite (ℕ_discrete j seat)
    (λ e. let same : s.0 ≡ v = at_one notes seat s.0 v (ap (get_elem? notes) (sym e) ∙ s.1) at in
    come (among_more p u.passes v.passes (subst (λ (n : Note). IsAmong p n.passes) same s.2)))
    (λ far. (j, p, (s.0, set_else (set notes seat (joined v u)) other j spent ne ∙ set_else notes seat j (joined v u) far ∙ s.1, s.2), later_same p)))
  where
    come : IsAmong p (u.passes ++ v.passes) → (k : ℕ) × (q : PassNote) × Stands (set (set notes seat (joined v u)) other spent) k q × IsLater p q
    come a = (seat, p, (joined v u, set_else (set notes seat (joined v u)) other seat spent (λ e. differ (sym e)) ∙ set_here notes seat (joined v u) (at_below notes seat v at), a), later_same p)

-- ---- founders

-- a founder that a seat has is there later, with what the site was opened with
abbrev pub Founds : Note → Note → Type 0
Founds old new = (f : FounderNote) → old.founder ≡ Some f → (g : FounderNote) × (new.founder ≡ Some g) × (g.opened ≡ f.opened)

abbrev pub AllFound : List Note → List Note → Type 0
AllFound old new = (seat : ℕ) (v : Note) (f : FounderNote) → get_elem? old seat ≡ some v → v.founder ≡ Some f
    → (other : ℕ) × (w : Note) × (g : FounderNote) × (get_elem? new other ≡ some w) × (w.founder ≡ Some g) × (g.opened ≡ f.opened)

pub found_same : (v w : Note) → w.founder ≡ v.founder → Founds v w
found_same v w same f e = (f, same ∙ e, refl)

pub found_then : (a b c : List Note) → AllFound a b → AllFound b c → AllFound a c
found_then a b c f g seat v k at e = let t = f seat v k at e in let u = g t.0 t.1 t.2 t.3 t.4 in (u.0, u.1, u.2, u.3, u.4, u.5 ∙ t.5)

pub seat_founds : (notes : List Note) (seat : ℕ) (v w : Note) → get_elem? notes seat ≡ some v → Founds v w → AllFound notes (set notes seat w)
seat_founds notes seat v w at founds j u f e is = dite (ℕ_discrete j seat)
    (λ same. let one : u ≡ v = at_one notes seat u v (ap (get_elem? notes) (sym same) ∙ e) at in
    let t = founds f (ap (λ (n : Note). n.founder) (sym one) ∙ is) in (seat, w, t.0, set_here notes seat w (at_below notes seat v at), t.1, t.2))
    (λ ne. (j, u, f, set_else notes seat j w ne ∙ e, is, refl))

pub more_found : (notes more : List Note) → AllFound notes (notes ++ more)
more_found notes more j u f e is = (j, u, f, at_longer notes more j u e, is, refl)

pub join_founds : (notes : List Note) (seat other : ℕ) (v u : Note) (p : PassNote) → u ≡ bearing p → get_elem? notes seat ≡ some v → get_elem? (set notes seat (joined v u)) other ≡ some u → AllFound notes (set (set notes seat (joined v u)) other spent)
join_founds notes seat other v u p is at there = found_then notes (set notes seat (joined v u)) (set (set notes seat (joined v u)) other spent)
    (seat_founds notes seat v (joined v u) at (found_same v (joined v u) refl))
    (seat_founds (set notes seat (joined v u)) other u spent there (λ f e. absurd (none_some f (ap (λ (n : Note). n.founder) (sym is) ∙ e))))
