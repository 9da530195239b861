-- The passes that are handed back, and what the end of the table tells.
use Rattle.std.proofs.Common.{Option, ◌≡◌, ◌<◌, ◌==◌, ◌||◌, ℕ, List, [], ◌∷◌, ◌++◌, Bool, true, false, Some, eqb-true, ◌⊎◌, inl, inr, ⊎_elim, refl, sym, subst, ◌∙◌, ap}
use Rattle.std.specs.List.{All}
use Rattle.std.proofs.lemmas.List.Elements.{All-nil, All-cons, All-head, All-tail}
use mathlib.Core.Option.{some}
use lib.ListN.{get_elem?}
use Rattle.atomic_table.specs.Table.{State}
use Rattle.site_keeper.specs.Keeper.{Kept}
use Rattle.turn_rule.specs.declared.notes.HallNote.{HallNote}
use Rattle.turn_rule.specs.declared.notes.HallPart.{HallPart}
use Rattle.turn_rule.specs.declared.notes.DeskPart.{DeskPart}
use Rattle.turn_rule.specs.declared.notes.PassNote.{PassNote}
use Rattle.turn_rule.specs.declared.notes.FounderNote.{FounderNote}
use Rattle.turn_rule.specs.declared.notes.Note.{Note}
use Rattle.turn_rule.specs.Rule.{IsFresh, KeepsRule}
use Rattle.turn_rule.specs.Steps.{HasNumber, founding, with_hall, with_desk, with_passes}
use Rattle.turn_rule.specs.Logs.{since_in, whole_of, Agree, StandsFor}
use Rattle.turn_laws.specs.Words.{InPlainWords}
use Rattle.turn_laws.proofs.Opened.{is_opened}
use Rattle.turn_laws.proofs.Closing.{sites_closed}
use Rattle.turn_laws.proofs.Words.{plain_words}
use Rattle.site_hall.specs.Sides.{HallSide, DeskSide, Stands, engine_of}
use Rattle.site_table.specs.Views.{Lodging, Place, nothing, part_of, desk_note, noted_in, desk_in, part_in, part_at}
use Rattle.site_turn.specs.Views.{PassView, noted}
use Rattle.site_turn.specs.Closing.{notes_of, has_number, IsClosed, Ends, EndsWith}
use Rattle.site_turn.proofs.Desks.{stands_by}

by_test : (number n : ℕ) (notes : List PassNote) (rest t : Bool) → (n == number) ≡ t → (rest ≡ true → HasNumber number notes) → t || rest ≡ true → (n ≡ number) ⊎ HasNumber number notes
by_test number n notes rest true is more e = inl (eqb-true n number is)
by_test number n notes rest false is more e = inr (more e)

-- one of these has this number
pub has_it : (number : ℕ) (passes : List PassView) → has_number number passes ≡ true → HasNumber number (notes_of passes)
has_it number [] e = absurd (cc)
has_it number (p ∷ passes) e = by_test number p.note.number (notes_of passes) (has_number number passes) (p.note.number == number) refl (has_it number passes) e

-- what the rule tells at the end
pub ends_with : (state : State Lodging Note) (seat : ℕ) (note : Note) → KeepsRule noted_in desk_in state → get_elem? state.views seat ≡ some note → note.fresh ≡ false → EndsWith note
ends_with state seat note keeps at old hall desk founder out there founds =
    let closed = sites_closed noted_in desk_in state seat note hall desk founder keeps at old out there founds in
    record {
      agree = closed.0;
      closes = closed.1;
      numbered = ⊎_elim
          (λ (x : IsFresh noted_in desk_in state). absurd (is_opened noted_in desk_in state seat note old at x))
          (λ (x : (h : HallNote) × InPlainWords noted_in desk_in state h). subst (λ (p : HallPart). All (λ commit. commit.pass < founder.made) (since_in founder.opened p.log p.pending)) (sym (x.1.the_hall.out seat note hall at out).0) (x.1.founder seat note founder at founds).numbered)
          (plain_words noted_in desk_in state keeps);
    }

-- what the end tells of the hall and the desk that the founder's seat has out, with all passes
pub ended : (founder : FounderNote) (first second third last : Place) (hall : HallSide) (passes : List PassView) → first ≡ (founding founder, []) → second ≡ (with_desk (Some (part_in second.0.desk)) first.0, (1, nothing) ∷ first.1)
    → third ≡ (with_hall (Some (part_of hall)) second.0, (0, nothing) ∷ second.1) → last ≡ (with_passes (notes_of passes) third.0, third.1) → EndsWith last.0 → Ends (part_of hall) (part_at second) founder (notes_of passes)
ended founder first second third last hall passes is desk out gathered ends =
    subst EndsWith (ap (λ (m : Place). m.0) last_is) ends (part_of hall) (part_at second) founder refl refl refl
  where
    second_is : second ≡ (with_desk (Some (part_at second)) (founding founder), (1, nothing) ∷ [])
    second_is = desk ∙ ap (λ (m : Place). (with_desk (Some (part_at second)) m.0, (1, nothing) ∷ m.1)) is

    third_is : third ≡ (with_hall (Some (part_of hall)) (with_desk (Some (part_at second)) (founding founder)), (0, nothing) ∷ (1, nothing) ∷ [])
    third_is = out ∙ ap (λ (m : Place). (with_hall (Some (part_of hall)) m.0, (0, nothing) ∷ m.1)) second_is

    last_is : last ≡ (with_passes (notes_of passes) (with_hall (Some (part_of hall)) (with_desk (Some (part_at second)) (founding founder))), (0, nothing) ∷ (1, nothing) ∷ [])
    last_is = gathered ∙ ap (λ (m : Place). (with_passes (notes_of passes) m.0, m.1)) third_is

-- the hall with its desk is the engine that is made of both
pub whole_is : (hall : HallSide) (part : DeskPart) (desk : DeskSide) → Agree (part_of hall) part → StandsFor (desk_note desk) part → whole_of (part_of hall) part ≡ noted (engine_of part.loaded.told hall desk)
whole_is hall part desk agree stands = λ i. record {
  loaded = record { base = sym agree.base i; told = part.loaded.told; steadfast = sym stands.steadfast i };
  log = hall.log;
  pending = hall.pending;
  faults = sym stands.faults i;
  tally = (part_of hall).tally;
  bins = (part_of hall).bins;
}

-- the desk's keeper stands for the hall's log
pub stands_then : (hall : HallSide) (part : DeskPart) (desk : DeskSide) → Agree (part_of hall) part → StandsFor (desk_note desk) part → Stands part.loaded.told hall desk
stands_then hall part desk agree s = stands_by hall part desk agree (record { pending = s.pending; loaded = s.loaded; keeps = s.keeps })

-- so it does in their homes
pub sides_stand : (told : Option Kept) (hall hall' : HallSide) (desk desk' : DeskSide) → hall' ≡ hall → desk' ≡ desk → Stands told hall desk → Stands told hall' desk'
sides_stand told hall hall' desk desk' hall_is desk_is s = subst (λ (t : HallSide × DeskSide). Stands told t.0 t.1) (λ i. (sym hall_is i, sym desk_is i)) s

-- the site is closed
pub is_closed : (founder : FounderNote) (hall : HallSide) (part : DeskPart) (desk : DeskSide) (passes : List PassView) → StandsFor (desk_note desk) part → Ends (part_of hall) part founder (notes_of passes)
    → ((number : ℕ) → number < founder.made → has_number number passes ≡ true) → IsClosed founder (noted (engine_of part.loaded.told hall desk)) (notes_of passes)
is_closed founder hall part desk passes stands ends all = subst (λ (h : HallNote). IsClosed founder h (notes_of passes)) (whole_is hall part desk ends.agree stands) (record {
  all = λ number below. has_it number passes (all number below);
  closes = ends.closes;
  numbered = ends.numbered;
})

-- the last of these is one of the site, and so are the others
pub all_last : (P : PassView → Type 0) (passes : List PassView) (pass : PassView) → All P (passes ++ pass ∷ []) → All P passes × P pass
all_last P [] pass all = (All-nil P, All-head P pass [] all)
all_last P (x ∷ xs) pass all =
    let r = all_last P xs pass (All-tail P x (xs ++ pass ∷ []) all) in
    (All-cons P x xs (All-head P x (xs ++ pass ∷ []) all) r.0, r.1)
