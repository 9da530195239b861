-- The end: with all passes on one seat, what the hall counted is the sum.
use Rattle.std.proofs.Common.{◌≡◌, ◌≢◌, ℕ, suc, ◌+◌, ◌<◌, List, [], ◌∷◌, length, set, map, ◌⊎◌, inl, inr, ⊎_elim, Option, refl, sym, ap, ◌∙◌, subst, arith}
use Rattle.std.proofs.lemmas.List.{length-map}
use Rattle.std.specs.List.{sum, sum_by}
use Rattle.std.proofs.lemmas.List.Sums.{sum_by-cons, sum-map, sum_by-set}
use mathlib.Core.Option.{some}
use lib.ListN.{get_elem?}
use Rattle.atomic_table.proofs.Lists.{set_else, at_map}
use Rattle.turn_rule.specs.declared.notes.HallNote.{HallNote}
use Rattle.turn_rule.specs.declared.notes.HallPart.{HallPart}
use Rattle.turn_rule.specs.declared.notes.DeskPart.{DeskPart}
use Rattle.turn_rule.specs.declared.notes.DeskNote.{DeskNote}
use Rattle.turn_rule.specs.Logs.{whole_of, Agree}
use Rattle.turn_rule.specs.declared.notes.PassNote.{PassNote}
use Rattle.turn_rule.specs.declared.notes.FounderNote.{FounderNote}
use Rattle.turn_rule.specs.Rule.{Account, AreOthers, Claims, IsOpen, IsFresh, Opened, founder_in, Counted, count_of, capped}
use Rattle.turn_rule.specs.Steps.{HasNumber, AreAll, Closes}
use Rattle.turn_laws.specs.Laws.{SitesClose}
use Rattle.turn_rule.proofs.Claims.{at_below, at_get, each_set}
use Rattle.turn_rule.proofs.Books.{all_know}
use Rattle.turn_laws.proofs.Opened.{is_opened}

all_zero : (ws : List ℕ) → ((n x : ℕ) → get_elem? ws n ≡ some x → x ≡ 0) → sum ws ≡ 0
all_zero [] h = refl
all_zero (x ∷ xs) h =
    let a = h 0 x refl in
    let r = all_zero xs (λ n y e. h (suc n) y e) in
    let c = sum_by-cons (λ (y : ℕ). y) x xs in
    omega arith

-- the weight of each pass stands at its number
abbrev Weighs : (PassNote → ℕ) → List ℕ → List PassNote → Type 0
Weighs g ws [] = Unit {0}
Weighs g ws (p ∷ ps) = (get_elem? ws p.number ≡ some (g p)) × AreOthers p.number ps × Weighs g ws ps

weighs_set : (g : PassNote → ℕ) (ws : List ℕ) (n : ℕ) (ps : List PassNote) → AreOthers n ps → Weighs g ws ps → Weighs g (set ws n 0) ps
weighs_set g ws n [] a w = tt
weighs_set g ws n (p ∷ ps) a w = (set_else ws n p.number 0 a.0 ∙ w.0, w.1, weighs_set g ws n ps a.1 w.2)

-- weights that stand at no number of a pass are 0
abbrev RestIsZero : List ℕ → List PassNote → Type 0
RestIsZero ws ps = (n x : ℕ) → get_elem? ws n ≡ some x → HasNumber n ps ⊎ (x ≡ 0)

all_weighed : (g : PassNote → ℕ) (ps : List PassNote) (ws : List ℕ) → Weighs g ws ps → RestIsZero ws ps → sum ws ≡ sum_by g ps
all_weighed g [] ws w c = all_zero ws (λ n x e. ⊎_elim (λ (h : HasNumber n []). absurd h) (λ (z : x ≡ 0). z) (c n x e))
all_weighed g (p ∷ ps) ws w c =
    let s : sum (set ws p.number 0) + g p ≡ sum ws + 0 = subst (λ (y : ℕ). sum (set ws p.number 0) + y ≡ sum ws + 0) (at_get ws p.number (g p) 0 w.0) (sum_by-set (λ (y : ℕ). y) ws p.number 0 0 (at_below ws p.number (g p) w.0)) in
    let others = λ (n x : ℕ) (ne : n ≢ p.number) (e : get_elem? ws n ≡ some x). rest n x ne (c n x e) in
    let r = all_weighed g ps (set ws p.number 0) (weighs_set g ws p.number ps w.1 w.2) (each_set (λ n x. HasNumber n ps ⊎ (x ≡ 0)) ws p.number 0 others (inr refl)) in
    let t = sum_by-cons g p ps in
    omega (arith, s, r, t)
  where
    rest : (n x : ℕ) → n ≢ p.number → HasNumber n (p ∷ ps) ⊎ (x ≡ 0) → HasNumber n ps ⊎ (x ≡ 0)
    rest n x ne h = ⊎_elim (λ (k : HasNumber n (p ∷ ps)). ⊎_elim (λ (m : p.number ≡ n). absurd (ne (sym m))) (λ (m : HasNumber n ps). inl m) k) (λ (z : x ≡ 0). inr z) h

weighed : (g : PassNote → ℕ) (all : List PassNote) (holder : ℕ → ℕ) (j : ℕ) (ps : List PassNote) → Claims all holder j ps → Weighs g (map g all) ps
weighed g all holder j [] c = tt
weighed g all holder j (p ∷ ps) c = (at_map g all p.number p c.0, c.2, weighed g all holder j ps c.3)

-- the passes of one seat, if they are all, have what all have
same_sum : (g : PassNote → ℕ) (all : List PassNote) (holder : ℕ → ℕ) (j : ℕ) (ps : List PassNote) → Claims all holder j ps → AreAll (length all) ps → sum_by g all ≡ sum_by g ps
same_sum g all holder j ps c covers =
    sym (sum-map g all) ∙ all_weighed g ps (map g all) (weighed g all holder j ps c) (λ n x e. inl (covers n (subst (λ (k : ℕ). n < k) (length-map all g) (at_below (map g all) n x e))))

module _ {S : Type 0} (noted : S → Option HallPart) (noted_desk : S → Option DeskNote) where
  pub sites_closed : SitesClose noted noted_desk
  sites_closed s id v h d f k at old on with by = ⊎_elim (λ (x : IsFresh noted noted_desk s). absurd (is_opened noted noted_desk s id v old at x)) (λ (x : Opened noted noted_desk s). law x.account x.gate x.door x.is_open) k
    where
      law : (a : Account) (gate door : ℕ) → IsOpen noted noted_desk s a gate door → Agree h d × Closes f (whole_of h d) v.passes
      law a gate door o =
          let b = a.books in
          let t = o.fits id v at in
          let hall = (t.hall h on).1 in
          let desk = (t.desk d with).1 in
          let founder = (t.founder f by).1 in
          let weigh = λ (counted : Counted) (p : PassNote). count_of counted p.tally in
          let closes : Closes (founder_in b) b.hall v.passes = record {
            loaded = o.sound.loaded;
            whole = (b.past, o.sound.log);
            know = all_know b a.holder id v.passes o.sound t.passes;
            sums = λ (all : AreAll b.made v.passes) counted. o.sound.sums counted
                ∙ ap (λ (n : ℕ). capped (count_of counted b.opened.tally + n)) (same_sum (weigh counted) b.passes a.holder id v.passes t.passes (subst (λ (n : ℕ). AreAll n v.passes) (sym o.sound.count) all));
          } in (
            subst (λ (z : HallPart × DeskPart). Agree z.0 z.1) (λ i. (sym hall i, sym desk i)) (record { base = refl; log = refl; pending = refl }),
            subst (λ (z : HallNote × FounderNote). Closes z.1 z.0 v.passes) (λ i. (whole_of (sym hall i) (sym desk i), sym founder i)) closes,
          )
