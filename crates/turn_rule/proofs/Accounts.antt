-- What the account and the seats say after a step.
use Rattle.std.proofs.Common.{◌≡◌, ◌≢◌, ℕ, List, ◌++◌, set, Option, Some, None, refl, sym, ap, ◌∙◌, subst, arith}
use Rattle.std.specs.List.{All}
use mathlib.Core.Option.{some}
use lib.ListN.{get_elem?}
use mathlib.Core.Logic.{dite}
use native.Mathlib.Decide.{ℕ_discrete}
use Rattle.std.proofs.lemmas.List.Elements.{All-weaker}
use Rattle.atomic_table.proofs.Lists.{set_else, set_here, set_again, at_longer}
use Rattle.turn_rule.specs.declared.notes.HallNote.{HallNote}
use Rattle.turn_rule.specs.declared.notes.HallPart.{HallPart}
use Rattle.turn_rule.specs.declared.notes.DeskPart.{DeskPart}
use Rattle.turn_rule.specs.declared.notes.PassNote.{PassNote}
use Rattle.turn_rule.specs.declared.notes.Note.{Note}
use Rattle.turn_rule.specs.Logs.{hall_part, desk_part}
use Rattle.turn_rule.specs.Rule.{Books, Account, AreSound, Claims, IsAmong, Stands, Fits, HasOut}
use Rattle.turn_rule.specs.Steps.{spent, with_passes, Knows, KnowsHall, KnowsDesk}
use Rattle.turn_rule.proofs.Claims.{at_below, at_one, stands_on}
use Rattle.turn_rule.proofs.Books.{of_hall, of_desk}

pub none_some : {A : Type 0} (x : A) → None ≡ Some x → ⊥
none_some x e = cc

pub some_same : {A : Type 0} (x y : A) → Some x ≡ Some y → x ≡ y
some_same x y e = cc

pub one_not_zero : ◌≢◌ {A = ℕ} 1 0
one_not_zero e = omega arith

pub zero_not_one : ◌≢◌ {A = ℕ} 0 1
zero_not_one e = omega arith

pub two_not_zero : ◌≢◌ {A = ℕ} 2 0
two_not_zero e = omega arith

-- a pass stands in the books at its number
pub number_at : (b : Books) (m : ℕ) (x p : PassNote) → AreSound b → get_elem? b.passes m ≡ some x → x ≡ p → m ≡ p.number
number_at b m x p s e same = sym (s.each m x e).number_is ∙ ap (λ (y : PassNote). y.number) same

-- ---- the account after a step

abbrev pub owned : Account → ℕ → Account
owned a owner = record { books = a.books; owner = owner; clerk = a.clerk; head = a.head; holder = a.holder }

abbrev pub clerked : Account → ℕ → Account
clerked a clerk = record { books = a.books; owner = a.owner; clerk = clerk; head = a.head; holder = a.holder }

abbrev pub seated : Account → (ℕ → ℕ) → Account
seated a holder = record { books = a.books; owner = a.owner; clerk = a.clerk; head = a.head; holder = holder }

abbrev pub booked : Account → Books → Account
booked a books = record { books = books; owner = a.owner; clerk = a.clerk; head = a.head; holder = a.holder }

-- ---- what a seat says then

-- a seat without the hall says the same at any gate, whoever has the hall
pub no_hall : (a : Account) (owner gate gate' door j : ℕ) (v : Note) → ((h : HallPart) → v.hall ≡ Some h → ⊥) → Fits a gate door j v → Fits (owned a owner) gate' door j v
no_hall a owner gate gate' door j v off f = record { old = f.old; hall = λ h e. absurd (off h e); desk = f.desk; founder = f.founder; passes = f.passes }

-- and one without the desk, at any door
pub no_desk : (a : Account) (clerk gate door door' j : ℕ) (v : Note) → ((d : DeskPart) → v.desk ≡ Some d → ⊥) → Fits a gate door j v → Fits (clerked a clerk) gate door' j v
no_desk a clerk gate door door' j v off f = record { old = f.old; hall = f.hall; desk = λ d e. absurd (off d e); founder = f.founder; passes = f.passes }

-- a seat that has the hall has it at any gate but 0
pub marked_fits : (a : Account) (gate m door j : ℕ) (u : Note) → m ≢ 0 → Fits a gate door j u → Fits a m door j u
marked_fits a gate m door j u some_gate f = record { old = f.old; hall = λ h e. ((f.hall h e).0, (f.hall h e).1, some_gate); desk = f.desk; founder = f.founder; passes = f.passes }

-- and one that has the desk, at any door but 0
pub door_fits : (a : Account) (gate m door j : ℕ) (u : Note) → m ≢ 0 → Fits a gate door j u → Fits a gate m j u
door_fits a gate m door j u some_door f = record { old = f.old; hall = f.hall; desk = λ h e. ((f.desk h e).0, (f.desk h e).1, some_door); founder = f.founder; passes = f.passes }

-- what a seat says that has neither the hall nor the desk nor the founder
pub plain_fits : (a : Account) (gate door j : ℕ) (ps : List PassNote) → Claims a.books.passes a.holder j ps → Fits a gate door j (with_passes ps spent)
plain_fits a gate door j ps c = record { old = refl; hall = λ h e. absurd (none_some h e); desk = λ h e. absurd (none_some h e); founder = λ f e. absurd (none_some f e); passes = c }

-- nothing changes at a seat
pub unchanged : (notes : List Note) (a : Account) (gate door id : ℕ) (v : Note) → get_elem? notes id ≡ some v → ((j : ℕ) (u : Note) → get_elem? notes j ≡ some u → Fits a gate door j u)
    → (j : ℕ) (u : Note) → get_elem? (set notes id v) j ≡ some u → Fits a gate door j u
unchanged notes a gate door id v at fits = subst (λ (l : List Note). (j : ℕ) (u : Note) → get_elem? l j ≡ some u → Fits a gate door j u) (sym (set_again notes id v at)) fits

-- ---- where the passes stand then

-- each pass stands where the account says
abbrev pub Placed : List Note → Account → Type 0
Placed notes a = (n : ℕ) (p : PassNote) → get_elem? a.books.passes n ≡ some p → Stands notes (a.holder n) p

-- it still does, after a change at one seat that keeps its passes
pub still_placed : (notes : List Note) (a : Account) (id : ℕ) (v w : Note) → Placed notes a → get_elem? notes id ≡ some v → v.passes ≡ w.passes → Placed (set notes id w) a
still_placed notes a id v w placed at same n p e = stands_on notes id v w (a.holder n) p at (subst (IsAmong p) same) (placed n p e)

-- a pass that has come to a seat stands there
pub comes : (notes : List Note) (id : ℕ) (v w : Note) (k : ℕ) (p : PassNote) → get_elem? notes id ≡ some v → k ≡ id → IsAmong p w.passes → Stands (set notes id w) k p
comes notes id v w k p at is among = subst (λ (j : ℕ). Stands (set notes id w) j p) (sym is) (w, set_here notes id w (at_below notes id v at), among)

-- ---- where the hall and the desk are then, which are out

-- a seat that has a part has it after a change at one seat, which has that part if it had it before
pub out_stays : {P : Type 0} (part : Note → Option P) (notes : List Note) (id seat : ℕ) (v w : Note) (held : P) → get_elem? notes id ≡ some v → HasOut part notes seat held
    → (part v ≡ Some held → part w ≡ Some held) → HasOut part (set notes id w) seat held
out_stays part notes id seat v w held at out keep = dite (ℕ_discrete seat id)
    (λ same. (w, ap (get_elem? (set notes id w)) same ∙ set_here notes id w (at_below notes id v at), keep (ap part (at_one notes id v out.0 at (ap (get_elem? notes) (sym same) ∙ out.1)) ∙ out.2)))
    (λ ne. (out.0, set_else notes id seat w ne ∙ out.1, out.2))

-- the seat of a step has a part then
pub out_here : {P : Type 0} (part : Note → Option P) (notes : List Note) (id seat : ℕ) (v w : Note) (held : P) → get_elem? notes id ≡ some v → id ≡ seat → part w ≡ Some held
    → HasOut part (set notes id w) seat held
out_here part notes id seat v w held at is has = (w, ap (get_elem? (set notes id w)) (sym is) ∙ set_here notes id w (at_below notes id v at), has)

-- and it has it where more seats come
pub out_longer : {P : Type 0} (part : Note → Option P) (notes more : List Note) (seat : ℕ) (held : P) → HasOut part notes seat held → HasOut part (notes ++ more) seat held
out_longer part notes more seat held out = (out.0, at_longer notes more seat out.0 out.1, out.2)

-- ---- what the passes of a seat know

pub all_of_hall : (whole : HallNote) (ps : List PassNote) → All (Knows whole) ps → All (KnowsHall (hall_part whole)) ps
all_of_hall whole ps all = All-weaker (Knows whole) (KnowsHall (hall_part whole)) (of_hall whole) ps all

pub all_of_desk : (whole : HallNote) (ps : List PassNote) → All (Knows whole) ps → All (KnowsDesk (desk_part whole)) ps
all_of_desk whole ps all = All-weaker (Knows whole) (KnowsDesk (desk_part whole)) (of_desk whole) ps all
