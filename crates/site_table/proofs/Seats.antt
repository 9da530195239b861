-- What a seat says and holds after the calls of a turn, as equations.
use Rattle.std.proofs.Common.{◌≡◌, ℕ, List, [], ◌∷◌, Bool, Option, Some, None, map, refl, sym, ap, ◌∙◌, subst}
use Rattle.std.specs.Prelude.{IfSome}
use Rattle.std.specs.List.{All}
use Rattle.std.proofs.lemmas.List.Elements.{All-head}
use Rattle.atomic_table.specs.Table.{rest}
use Rattle.turn_rule.specs.declared.notes.TallyNote.{TallyNote}
use Rattle.turn_rule.specs.declared.notes.HallNote.{HallNote}
use Rattle.turn_rule.specs.declared.notes.HallPart.{HallPart}
use Rattle.turn_rule.specs.declared.notes.DeskPart.{DeskPart}
use Rattle.turn_rule.specs.declared.notes.DeskNote.{DeskNote}
use Rattle.turn_rule.specs.declared.notes.PassNote.{PassNote}
use Rattle.turn_rule.specs.declared.notes.Note.{Note}
use Rattle.turn_rule.specs.Logs.{desk_part, whole_of, StandsFor}
use Rattle.turn_rule.specs.Steps.{zeros, bearing, with_hall, with_desk, with_passes, with_faults, after_look, after_turn, after_forgetting, after_fault, front, Knows, KnowsHall, KnowsDesk, Looks, Follows, FollowsForgetting, TellsFaults, noted_out, desk_out}
use Rattle.site_hall.specs.Sides.{HallSide, DeskSide}
use Rattle.site_table.specs.Turns.{HasBack, HasDeskBack}
use Rattle.site_table.specs.Views.{Lodging, Place, part_of, desk_note, noted_in, desk_in}

-- another value is in the slot
pub exchanged : (old new : Place) (note : Note) (slot : ℕ) (x y : Lodging) (others : List (ℕ × Lodging)) → old ≡ (note, (slot, x) ∷ others) → new ≡ (old.0, (slot, y) ∷ rest old.1) → new ≡ (note, (slot, y) ∷ others)
exchanged old new note slot x y others is e = e ∙ ap (λ (m : Place). (m.0, (slot, y) ∷ rest m.1)) is

some_same : {A : Type 0} (x y : A) → Some x ≡ Some y → x ≡ y
some_same x y e = cc

-- a turn was counted
pub counted : (more : TallyNote) (old new : Place) (pass : PassNote) (desk : Option DeskPart) (out : HallPart) (hall : HallSide) (others : List (ℕ × Lodging))
    → old ≡ (with_hall (Some out) (with_desk desk (bearing pass)), (0, (Some hall, None)) ∷ others) → Looks noted_in desk_in more old new
    → (new ≡ (with_hall (Some (part_of hall)) (with_desk desk (bearing (after_look more out (part_of hall) pass))), (0, (Some hall, None)) ∷ others)) × KnowsHall (part_of hall) (after_look more out (part_of hall) pass)
counted more old new pass desk out hall others is f =
    let before : f.0 ≡ out = some_same f.0 out (sym f.2 ∙ ap (λ (m : Place). m.0.hall) is) in
    let same : f.1 ≡ part_of hall = some_same f.1 (part_of hall) (sym f.3 ∙ ap (λ (m : Place). noted_out noted_in desk_in m.1) is) in
    let me = f.4 ∙ ap (λ (m : Place). (with_hall (Some f.1) (with_passes (map (after_look more f.0 f.1) m.0.passes) m.0), m.1)) is in
    let knows = All-head (KnowsHall f.1) (after_look more f.0 f.1 pass) [] (subst (λ (m : Place). All (KnowsHall f.1) (map (after_look more f.0 f.1) m.0.passes)) is f.5) in
    subst (λ (t : HallPart × HallPart). (new ≡ (with_hall (Some t.1) (with_desk desk (bearing (after_look more t.0 t.1 pass))), (0, (Some hall, None)) ∷ others)) × KnowsHall t.1 (after_look more t.0 t.1 pass))
    (λ i. (before i, same i)) (me, knows)

-- the word has followed the log
pub followed : (hands : Bool) (old new : Place) (pass : PassNote) (part : DeskPart) (out : HallPart) (hall : HallSide) (others : List (ℕ × Lodging))
    → old ≡ (with_hall (Some out) (with_desk (Some part) (bearing pass)), (0, (Some hall, None)) ∷ others) → Follows noted_in desk_in hands old new
    → (new ≡ (with_hall (Some (part_of hall)) (with_desk (Some (desk_part (whole_of (part_of hall) part))) (bearing (after_turn zeros hands (whole_of (part_of hall) part) pass))), (0, (Some hall, None)) ∷ others))
    × Knows (whole_of (part_of hall) part) (after_turn zeros hands (whole_of (part_of hall) part) pass)
followed hands old new pass part out hall others is f =
    let same : f.0 ≡ part_of hall = some_same f.0 (part_of hall) (sym f.2 ∙ ap (λ (m : Place). noted_out noted_in desk_in m.1) is) in
    let with : f.1 ≡ part = some_same f.1 part (sym f.3 ∙ ap (λ (m : Place). m.0.desk) is) in
    let me = f.4 ∙ ap (λ (m : Place). (with_hall (Some f.0) (with_desk (Some (desk_part (whole_of f.0 f.1))) (with_passes (map (after_turn zeros hands (whole_of f.0 f.1)) m.0.passes) m.0)), m.1)) is in
    let knows = All-head (Knows (whole_of f.0 f.1)) (after_turn zeros hands (whole_of f.0 f.1) pass) [] (subst (λ (m : Place). All (Knows (whole_of f.0 f.1)) (map (after_turn zeros hands (whole_of f.0 f.1)) m.0.passes)) is f.5) in
    subst (λ (t : HallPart × DeskPart). (new ≡ (with_hall (Some t.0) (with_desk (Some (desk_part (whole_of t.0 t.1))) (bearing (after_turn zeros hands (whole_of t.0 t.1) pass))), (0, (Some hall, None)) ∷ others)) × Knows (whole_of t.0 t.1) (after_turn zeros hands (whole_of t.0 t.1) pass))
    (λ i. (same i, with i)) (me, knows)

abbrev pub forgetting : HallNote → PassNote → PassNote
forgetting whole pass = after_forgetting (front pass.handed) whole pass

pub followed_forgetting : (old new : Place) (pass : PassNote) (part : DeskPart) (out : HallPart) (hall : HallSide) (others : List (ℕ × Lodging))
    → old ≡ (with_hall (Some out) (with_desk (Some part) (bearing pass)), (0, (Some hall, None)) ∷ others) → FollowsForgetting noted_in desk_in old new
    → (new ≡ (with_hall (Some (part_of hall)) (with_desk (Some (desk_part (whole_of (part_of hall) part))) (bearing (forgetting (whole_of (part_of hall) part) pass))), (0, (Some hall, None)) ∷ others))
    × Knows (whole_of (part_of hall) part) (forgetting (whole_of (part_of hall) part) pass)
followed_forgetting old new pass part out hall others is f =
    let same : f.0 ≡ part_of hall = some_same f.0 (part_of hall) (sym f.2 ∙ ap (λ (m : Place). noted_out noted_in desk_in m.1) is) in
    let with : f.1 ≡ part = some_same f.1 part (sym f.3 ∙ ap (λ (m : Place). m.0.desk) is) in
    let me = f.4 ∙ ap (λ (m : Place). (with_hall (Some f.0) (with_desk (Some (desk_part (whole_of f.0 f.1))) (with_passes (map (forgetting (whole_of f.0 f.1)) m.0.passes) m.0)), m.1)) is in
    let knows = All-head (Knows (whole_of f.0 f.1)) (forgetting (whole_of f.0 f.1) pass) [] (subst (λ (m : Place). All (Knows (whole_of f.0 f.1)) (map (forgetting (whole_of f.0 f.1)) m.0.passes)) is f.5) in
    subst (λ (t : HallPart × DeskPart). (new ≡ (with_hall (Some t.0) (with_desk (Some (desk_part (whole_of t.0 t.1))) (bearing (forgetting (whole_of t.0 t.1) pass))), (0, (Some hall, None)) ∷ others)) × Knows (whole_of t.0 t.1) (forgetting (whole_of t.0 t.1) pass))
    (λ i. (same i, with i)) (me, knows)

pub told : (old new : Place) (pass : PassNote) (part : DeskPart) (desk : DeskSide)
    → old ≡ (with_desk (Some part) (bearing pass), (1, (None, Some desk)) ∷ []) → TellsFaults noted_in desk_in old new
    → (new ≡ (with_desk (Some (with_faults desk.faults part)) (bearing (after_fault desk.faults part pass)), (1, (None, Some desk)) ∷ [])) × KnowsDesk (with_faults desk.faults part) (after_fault desk.faults part pass)
told old new pass part desk is f =
    let same : f.0 ≡ desk_note desk = some_same f.0 (desk_note desk) (sym f.2 ∙ ap (λ (m : Place). desk_out noted_in desk_in m.1) is) in
    let with : f.1 ≡ part = some_same f.1 part (sym f.3 ∙ ap (λ (m : Place). m.0.desk) is) in
    let me = f.4 ∙ ap (λ (m : Place). (with_desk (Some (with_faults f.0.faults f.1)) (with_passes (map (after_fault f.0.faults f.1) m.0.passes) m.0), m.1)) is in
    let knows = All-head (KnowsDesk (with_faults f.0.faults f.1)) (after_fault f.0.faults f.1 pass) [] (subst (λ (m : Place). All (KnowsDesk (with_faults f.0.faults f.1)) (map (after_fault f.0.faults f.1) m.0.passes)) is f.5) in
    subst (λ (t : DeskNote × DeskPart). (new ≡ (with_desk (Some (with_faults t.0.faults t.1)) (bearing (after_fault t.0.faults t.1 pass)), (1, (None, Some desk)) ∷ [])) × KnowsDesk (with_faults t.0.faults t.1) (after_fault t.0.faults t.1 pass))
    (λ i. (same i, with i)) (me, knows)

-- what came out of the slot is the hall that the passes know
pub knows_it : (out : Lodging) (part : HallPart) (ps : List PassNote) → noted_in out ≡ Some part → All (KnowsHall part) ps → IfSome out.0 (λ hall. All (KnowsHall (part_of hall)) ps)
knows_it (None, desk) part ps e all = tt
knows_it (Some hall, desk) part ps e all = subst (λ (p : HallPart). All (KnowsHall p) ps) (sym (some_same (part_of hall) part e)) all

-- the hall lies in its slot again
pub has_back : (me : Place) (hall : HallSide) (desk : Option DeskPart) (pass : PassNote) (others : List (ℕ × Lodging)) → me ≡ (with_hall (Some (part_of hall)) (with_desk desk (bearing pass)), (0, (Some hall, None)) ∷ others) → HasBack me
has_back me hall desk pass others is = record { hall = hall; note = with_desk desk (bearing pass); others = others; me_is = is; old = refl }

-- the desk lies in its slot again
pub desk_back : (me : Place) (desk : DeskSide) (part : DeskPart) (pass : PassNote) (others : List (ℕ × Lodging)) → me ≡ (with_desk (Some part) (bearing pass), (1, (None, Some desk)) ∷ others) → StandsFor (desk_note desk) part → HasDeskBack me
desk_back me desk part pass others is stands = record { desk = desk; part = part; note = bearing pass; others = others; me_is = is; old = refl; stands = stands }
