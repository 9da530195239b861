-- Parts that are made, one after the other.
use Rattle.std.proofs.Common.{◌≡◌, ◌∙◌, ◌+◌, ◌++◌, ◌<◌, List, [], ◌∷◌, ℕ, suc, Bool, true, false, refl, sym, ap, subst, arith, take, length, get_or}
use Rattle.std.proofs.Math.Seq.{take-length}
use Rattle.std.proofs.lemmas.List.{take_more}
use Rattle.content_state.specs.declared.element.Hole.{Hole}
use Rattle.element_entries.specs.Readers.{Reader}
use Rattle.site_house.specs.House.{HouseView, Moves}
use Rattle.site_late.specs.Making.{MakesBegun, MakesPart, MakesParts}

makes_then : (r : Reader) (first second : List Hole) (old mid new : HouseView) → MakesParts r first old mid → MakesParts r second mid new → MakesParts r (first ++ second) old new
makes_then r [] second old mid new a b = subst (λ (h : HouseView). MakesParts r second h new) a b
makes_then r (hole ∷ holes) second old mid new a b = (a.0, a.1, makes_then r holes second a.0 mid new a.2 b)

makes_one : (r : Reader) (hole : Hole) (old new : HouseView) → MakesPart r hole old new → MakesParts r (hole ∷ []) old new
makes_one r hole old new part = (new, part, refl)

upto : (holes : List Hole) (i : ℕ) (hole : Hole) → i < length holes → hole ≡ get_or holes i hole → take i holes ++ hole ∷ [] ≡ take (suc i) holes
upto holes i hole within here =
    ap (λ (h : Hole). take i holes ++ h ∷ []) here ∙ sym (take_more holes i hole within) ∙ ap (λ (n : ℕ). take n holes) {x = i + 1} {y = suc i} (omega arith)

-- one more of the places
pub makes_more : (r : Reader) (holes : List Hole) (i : ℕ) (hole : Hole) (old mid new : HouseView) → i < length holes → hole ≡ get_or holes i hole
    → MakesParts r (take i holes) old mid → MakesPart r hole mid new → MakesParts r (take (i + 1) holes) old new
makes_more r holes i hole old mid new within here before part =
    subst (λ (hs : List Hole). MakesParts r hs old new) (upto holes i hole within here ∙ ap (λ (n : ℕ). take n holes) {x = suc i} {y = i + 1} (omega arith))
    (makes_then r (take i holes) (hole ∷ []) old mid new before (makes_one r hole mid new part))

-- the last one that is begun
pub begun_more : (short : Bool) (r : Reader) (holes : List Hole) (i : ℕ) (hole : Hole) (old mid new : HouseView) → i < length holes → hole ≡ get_or holes i hole
    → MakesParts r (take i holes) old mid → MakesBegun short r (hole ∷ []) 1 mid new → MakesBegun short r holes (suc i) old new
begun_more false r holes i hole old mid new within here before m = record {
  made = suc i;
  between = m.between;
  parts = subst (λ (hs : List Hole). MakesParts r hs old m.between) (upto holes i hole within here)
      (makes_then r (take i holes) (hole ∷ []) old mid m.between before
      (subst (λ (n : ℕ). MakesParts r (take n (hole ∷ [])) mid m.between) (sym m.last.0) m.parts));
  last = (refl, m.last.1);
}
begun_more true r holes i hole old mid new within here before m =
    let made = m.last.0 in
    let none : m.made ≡ 0 = omega (arith, made) in
    record {
      made = i;
      between = m.between;
      parts = subst (λ (h : HouseView). MakesParts r (take i holes) old h)
          (sym (subst (λ (n : ℕ). MakesParts r (take n (hole ∷ [])) mid m.between) none m.parts)) before;
      last = (refl, m.last.1);
    }

-- one part was made, and no more was begun
pub begun_one : (r : Reader) (hole : Hole) (old new : HouseView) → MakesPart r hole old new → MakesBegun false r (hole ∷ []) 1 old new
begun_one r hole old new part = record { made = 1; between = new; parts = makes_one r hole old new part; last = (refl, refl) }

-- memory was wanting for it
pub begun_short : (r : Reader) (hole : Hole) (old new : HouseView) → Moves old new → MakesBegun true r (hole ∷ []) 1 old new
begun_short r hole old new moves = record { made = 0; between = old; parts = refl; last = (refl, moves) }

-- all that were begun were made
pub begun_all : (r : Reader) (places : List Hole) (old new : HouseView) → MakesParts r places old new → MakesBegun false r places (length places) old new
begun_all r places old new made = record {
  made = length places;
  between = new;
  parts = subst (λ (hs : List Hole). MakesParts r hs old new) (sym (take-length places)) made;
  last = (refl, refl);
}

-- none was begun
pub begun_none : (r : Reader) (places : List Hole) (house : HouseView) → MakesBegun false r places 0 house house
begun_none r places house = record { made = 0; between = house; parts = refl; last = (refl, refl) }
