-- A site is opened with a hall and a desk.
use Rattle.std.proofs.Common.{◌≡◌, ◌++◌, ℕ, List, [], ◌∷◌, Option, Some, None, ⊎_elim, refl, sym, ap, ◌∙◌, subst}
use mathlib.Core.Option as maybe
use Rattle.atomic_table.specs.Table.{rest}
use Rattle.content_state.specs.State.{State}
use Rattle.content_state.specs.declared.commit.Commit.{Commit}
use Rattle.site_keeper.specs.Batch.{Batch}
use Rattle.site_keeper.specs.Keeper.{Kept, and_batch}
use Rattle.site_keeper.specs.Keeping.{batches_of, and_batches, HasKept, KeepsFor}
use Rattle.site_hall.specs.Hall.{HallView}
use Rattle.site_hall.specs.Sides.{HallSide, DeskSide, IsHallSide, Stands, hall_side, desk_side, engine_of}
use Rattle.turn_rule.specs.declared.notes.HallNote.{HallNote}
use Rattle.turn_rule.specs.declared.notes.HallPart.{HallPart}
use Rattle.turn_rule.specs.declared.notes.DeskNote.{DeskNote}
use Rattle.turn_rule.specs.declared.notes.Note.{Note}
use Rattle.turn_rule.specs.Logs.{hall_part, desk_part, StandsFor}
use Rattle.turn_rule.specs.Steps.{founding, with_hall, with_desk, Opens, GivesBack, GivesDeskBack}
use Rattle.site_table.specs.Views.{Lodging, Place, part_of, desk_note, noted_in, desk_in}
use Rattle.site_turn.specs.Views.{noted, founder_of}

-- ---- what the keeper told before

front_same : (xs ys : List Batch) (b : Batch) → xs ++ b ∷ [] ≡ ys ++ b ∷ [] → xs ≡ ys
front_same [] [] b e = refl
front_same [] (y ∷ []) b e = absurd (cc)
front_same [] (y ∷ z ∷ ys) b e = absurd (cc)
front_same (x ∷ []) [] b e = absurd (cc)
front_same (x ∷ z ∷ xs) [] b e = absurd (cc)
front_same (x ∷ xs) (y ∷ ys) b e = λ i. first i ∷ front_same xs ys b others i
  where
    first : x ≡ y
    first = cc

    others : xs ++ b ∷ [] ≡ ys ++ b ∷ []
    others = cc

batch_same : (told other : Option Kept) (b : Batch) → and_batch told b ≡ and_batch other b → told ≡ other
batch_same None None b e = refl
batch_same None (Some k) b e = absurd (cc)
batch_same (Some k) None b e = absurd (cc)
batch_same (Some k) (Some l) b e = λ i. Some (record { made_of = made i; batches = front_same k.batches l.batches b batches i })
  where
    same : record k { batches = k.batches ++ b ∷ [] } ≡ record l { batches = l.batches ++ b ∷ [] }
    same = cc

    made : k.made_of ≡ l.made_of
    made = ap (λ (x : Kept). x.made_of) same

    batches : k.batches ++ b ∷ [] ≡ l.batches ++ b ∷ []
    batches = ap (λ (x : Kept). x.batches) same

told_same : (told other : Option Kept) (bs : List Batch) → and_batches told bs ≡ and_batches other bs → told ≡ other
told_same told other [] e = e
told_same told other (b ∷ bs) e = batch_same told other b (told_same (and_batch told b) (and_batch other b) bs e)

kept_just : (base : State) (told kept : Option Kept) (log : List Commit) → KeepsFor base told kept log None → HasKept base told kept log
kept_just base told kept log keeps = ⊎_elim (λ (h : HasKept base told kept log). h) (λ (h : HasKept base told kept log). h) keeps

-- ---- the site's engine

-- both sides of an engine make that engine again
pub engine_back : (engine result : HallView) (hall : HallSide) (desk : DeskSide) → hall ≡ hall_side engine → desk ≡ desk_side engine → Stands engine.opened (hall_side engine) (desk_side engine) → ((told : Option Kept) → Stands told hall desk → result ≡ engine_of told hall desk)
    → result ≡ engine
engine_back engine result hall desk hall_is desk_is stands gives =
    gives engine.opened (subst (λ (t : HallSide × DeskSide). Stands engine.opened t.0 t.1) (λ i. (sym hall_is i, sym desk_is i)) stands)
    ∙ λ i. engine_of engine.opened (hall_is i) (desk_is i)

-- the keeper stands for the log
pub opening_stands : (told : Option Kept) (hall : HallSide) (desk : DeskSide) → Stands told hall desk → IsHallSide hall → StandsFor (desk_note desk) (desk_part (noted (engine_of told hall desk)))
opening_stands told hall desk s is_hall = record { valid = is_hall.valid; pending = s.pending; loaded = s.loaded; faults = refl; steadfast = refl; keeps = s.keeps }

some_same : {A : Type 0} (x y : A) → Some x ≡ Some y → x ≡ y
some_same x y e = cc

-- the engine that the rule has is that of the hall and the desk that were announced
whole_same : (told : Option Kept) (hall : HallSide) (desk : DeskSide) (whole : HallNote) (note : DeskNote) → Stands told hall desk → hall.pending ≡ None → part_of hall ≡ hall_part whole → desk_note desk ≡ note → StandsFor note (desk_part whole) → whole ≡ noted (engine_of told hall desk)
whole_same told hall desk whole note s none part is stands = λ i. record {
  loaded = record { base = base i; told = same i; steadfast = steadfast i };
  log = ap (λ (p : HallPart). p.log) (sym part) i;
  pending = ap (λ (p : HallPart). p.pending) (sym part) i;
  faults = faults i;
  tally = ap (λ (p : HallPart). p.tally) (sym part) i;
  bins = ap (λ (p : HallPart). p.bins) (sym part) i;
}
  where
    base : whole.loaded.base ≡ hall.base
    base = ap (λ (p : HallPart). p.base) (sym part)

    faults : whole.faults ≡ desk.faults
    faults = sym stands.faults ∙ ap (λ (d : DeskNote). d.faults) (sym is)

    steadfast : whole.loaded.steadfast ≡ desk.steadfast
    steadfast = sym stands.steadfast ∙ ap (λ (d : DeskNote). d.steadfast) (sym is)

    here : KeepsFor hall.base whole.loaded.told desk.kept hall.log None
    here = subst (λ (t : State × List Commit × Option Commit). KeepsFor t.0 whole.loaded.told desk.kept t.1 t.2) (λ i. (base i, ap (λ (p : HallPart). p.log) (sym part) i, (ap (λ (p : HallPart). p.pending) (sym part) ∙ none) i))
        (subst (λ (d : DeskNote). KeepsFor whole.loaded.base whole.loaded.told d.kept whole.log whole.pending) (sym is) stands.keeps)

    same : whole.loaded.told ≡ told
    same = told_same whole.loaded.told told (batches_of hall.base hall.log)
        (sym (kept_just hall.base whole.loaded.told desk.kept hall.log here) ∙ kept_just hall.base told desk.kept hall.log (subst (KeepsFor hall.base told desk.kept hall.log) none s.keeps))

-- the founder's seat has the hall and the desk out
abbrev pub opened_note : Option Kept → HallSide → DeskSide → Note
opened_note told hall desk =
    with_hall (Some (part_of hall)) (with_desk (Some (desk_part (noted (engine_of told hall desk)))) (founding (record { made = 0; opened = noted (engine_of told hall desk) })))

pub opened : (told : Option Kept) (old new : Place) (hall : HallSide) (desk : DeskSide) (said : maybe.Option Lodging) → Stands told hall desk → hall.pending ≡ None → old.1 ≡ [] → said ≡ maybe.some (Some hall, Some desk) → Opens noted_in desk_in said old new
    → (empty : Lodging) × (also : Lodging) × (new ≡ (opened_note told hall desk, (0, empty) ∷ (1, also) ∷ []))
opened told old new hall desk said s none empty is o =
    let value : o.0 ≡ (Some hall, Some desk) = maybe.some-injective o.0 (Some hall, Some desk) (sym o.5 ∙ is) in
    let part : part_of hall ≡ hall_part o.1 = some_same (part_of hall) (hall_part o.1) (sym (ap noted_in value) ∙ o.6) in
    let note : desk_note desk ≡ o.2 = some_same (desk_note desk) o.2 (sym (ap desk_in value) ∙ o.7) in
    let whole : o.1 ≡ noted (engine_of told hall desk) = whole_same told hall desk o.1 o.2 s none part note o.8 in (
      o.3,
      o.4,
      o.11 ∙ (λ i. (with_hall (Some (hall_part (whole i))) (with_desk (Some (desk_part (whole i))) (founding (record { made = 0; opened = whole i }))), (0, o.3) ∷ (1, o.4) ∷ empty i)),
    )

-- another value is in the slot
pub exchanged : (old new : Place) (note : Note) (slot : ℕ) (x y : Lodging) (others : List (ℕ × Lodging)) → old ≡ (note, (slot, x) ∷ others) → new ≡ (old.0, (slot, y) ∷ rest old.1) → new ≡ (note, (slot, y) ∷ others)
exchanged old new note slot x y others is e = e ∙ ap (λ (m : Place). (m.0, (slot, y) ∷ rest m.1)) is

-- the steps of the opening
module _ (told : Option Kept) (hall : HallSide) (desk : DeskSide) (s : Stands told hall desk) (none : hall.pending ≡ None) (first second third : Place) (said : maybe.Option Lodging) (empty : first.1 ≡ []) (is : said ≡ maybe.some (Some hall, Some desk)) (o : Opens noted_in desk_in said first second) (e : third ≡ (second.0, (0, (Some hall, None)) ∷ rest second.1)) where
  out : (x : Lodging) × (y : Lodging) × (second ≡ (opened_note told hall desk, (0, x) ∷ (1, y) ∷ []))
  out = opened told first second hall desk said s none empty is o

  -- the hall lies in its slot
  pub hall_in : (y : Lodging) × (third ≡ (opened_note told hall desk, (0, (Some hall, None)) ∷ (1, y) ∷ []))
  hall_in = (out.1, exchanged second third (opened_note told hall desk) 0 out.0 (Some hall, None) ((1, out.1) ∷ []) out.2 e)

  -- and the desk in its own
  pub desk_in_it : (fourth fifth : Place) → GivesBack third fourth → fifth ≡ (fourth.0, (1, (None, Some desk)) ∷ rest fourth.1) → fifth ≡ (with_hall None (opened_note told hall desk), (1, (None, Some desk)) ∷ [])
  desk_in_it fourth fifth given f = exchanged fourth fifth (with_hall None (opened_note told hall desk)) 1 hall_in.0 (None, Some desk) [] (given ∙ ap (λ (m : Place). (with_hall None m.0, rest m.1)) hall_in.1) f

  -- the founder is left
  pub founds_it : (fourth fifth sixth : Place) (notes : List Note) → GivesBack third fourth → fifth ≡ (fourth.0, (1, (None, Some desk)) ∷ rest fourth.1) → GivesDeskBack fifth sixth → notes ≡ sixth.0 ∷ []
      → founder_of notes ≡ record { made = 0; opened = noted (engine_of told hall desk) }
  founds_it fourth fifth sixth notes given f desk_given views =
      ap founder_of (views ∙ ap (λ (m : Place). m.0 ∷ []) (desk_given ∙ ap (λ (m : Place). (with_desk None m.0, rest m.1)) (desk_in_it fourth fifth given f)))
