-- What each step of the rule, and then any number of them, leaves of what passes have seen and of the log.
use Rattle.std.proofs.Common.{◌≡◌, ℕ, zero, suc, ◌+◌, ◌%◌, ◌^◌, ◌<◌, ◌≤◌, List, [], ◌∷◌, ◌++◌, length, set, map, true≢false, inl, inr, ◌⊎◌, Option, Some, None, ⊎_elim, refl, sym, ap, ◌∙◌, subst, arith, append-nil, length-append, mod-eq_of_lt, le_refl}
use Rattle.std.specs.Prelude.{slice_index}
use mathlib.Core.Option.{some, some-injective, some-ne-none}
use lib.ListN.{get_elem?}
use mathlib.Core.Logic.{dite}
use native.Mathlib.Decide.{ℕ_discrete}
use Rattle.atomic_table.specs.Table.{State, Me, Step, rest}
use Rattle.atomic_table.specs.Table as table
use Rattle.atomic_table.proofs.Lists.{set_here}
use Rattle.content_state.specs.Replay.{Begins, replay}
use Rattle.content_state.specs.declared.commit.Commit.{Commit}
use Rattle.site_house.proofs.Histories.{replay_number}
use Rattle.turn_rule.specs.declared.notes.Loaded.{Loaded}
use Rattle.turn_rule.specs.declared.notes.HallNote.{HallNote}
use Rattle.turn_rule.specs.declared.notes.HallPart.{HallPart}
use Rattle.turn_rule.specs.declared.notes.DeskPart.{DeskPart}
use Rattle.turn_rule.specs.declared.notes.DeskNote.{DeskNote}
use Rattle.turn_rule.specs.declared.notes.PassNote.{PassNote}
use Rattle.turn_rule.specs.declared.notes.FounderNote.{FounderNote}
use Rattle.turn_rule.specs.declared.notes.Note.{Note}
use Rattle.turn_rule.specs.Logs.{hall_part, whole_of}
use Rattle.turn_rule.specs.Rule.{IsPass, IsAmong, Stands, Claims, IsFresh, Opened, KeepsRule, unopened}
use Rattle.turn_rule.specs.Steps.{zeros, with_hall, with_desk, after_turn, after_look, after_forgetting, after_fault, front, left_of, right_of, TakesOut, TakesDesk, TellsFaults, Draws}
use Rattle.turn_rule.proofs.Edits.{begins_same, begins_more, begins_then}
use Rattle.turn_rule.proofs.Claims.{at_below}
use Rattle.turn_rule.proofs.Accounts.{some_same, none_some}
use Rattle.turn_order.specs.Steps.{IsMade, IsSplit, IsJoined, IsCounted, IsFollowed, IsForgotten, IsStep, opens, takes_hall, takes_desk, marks_gate, marks_door, counts, follows, forgets, tells_faults, gives_hall, gives_desk, draws, meets, splits, joins, AreSteps, last_state}
use Rattle.turn_laws.proofs.Opened.{hall_is}
use Rattle.turn_order.specs.Order.{StepsAreMade, NumbersNeverFall, IsJustOpened, LogsOnlyGrow, number_seen, newest_number}
use Rattle.turn_order.proofs.Seats.{later_same, later_of, GoOn, same_go_on, map_goes_on, met_go_on, AllGoOn, all_then, seat_goes_on, split_goes_on, join_goes_on, Founds, AllFound, found_same, found_then, seat_founds, more_found, join_founds}

-- the first word
abbrev first_word : List ℕ → ℕ
first_word words = slice_index words 0

-- what any number of steps leave
pub record GoesOn {S : Type 0} (before after : State S Note) : Type 0 where
  pub word : first_word before.words ≤ first_word after.words
  pub passes : AllGoOn before.views after.views
  pub founders : AllFound before.views after.views

-- a seat has the hall out, and a pass on it has seen all of its log
record IsNew {S : Type 0} (state : State S Note) : Type 0 where
  seat : ℕ
  note : Note
  hall : HallPart
  pass : PassNote
  sits : get_elem? state.views seat ≡ some note
  has : note.hall ≡ Some hall
  among : IsAmong pass note.passes
  seen : pass.seen ≡ hall.log

-- what one step says of the log besides: it is as long as before, or a pass on the seat has seen all of it
abbrev Grown : {S : Type 0} → State S Note → State S Note → Type 0
Grown before after = (first_word after.words ≡ first_word before.words) ⊎ IsNew after

module _ {S : Type 0} (noted : S → Option HallPart) (noted_desk : S → Option DeskNote) where
  -- there are three words
  three : (s : State S Note) → Opened noted noted_desk s → (l : ℕ) × (g : ℕ) × (d : ℕ) × (s.words ≡ l ∷ g ∷ d ∷ [])
  three s x = (length x.account.books.hall.log, x.gate, x.door, x.is_open.words)

  -- a seat of a table that isn't opened says nothing
  pub fresh_note : (s : State S Note) (seat : ℕ) (v : Note) → IsFresh noted noted_desk s → get_elem? s.views seat ≡ some v → unopened ≡ v
  fresh_note s seat v f at = here seat (subst (λ (l : List Note). get_elem? l seat ≡ some v) f.views at)
    where
      here : (j : ℕ) → get_elem? (unopened ∷ []) j ≡ some v → unopened ≡ v
      here zero e = some-injective unopened v e
      here (suc j) e = absurd (some-ne-none v (sym e))

  -- what a seat of an open site says of the hall, of the desk, and what its passes have seen
  record Knowing (note : Note) (words : List ℕ) : Type 0 where
    log : List Commit
    word : first_word words ≡ length log
    hall : (h : HallPart) → note.hall ≡ Some h → h.log ≡ log
    desk : (d : DeskPart) → note.desk ≡ Some d → d.log ≡ log
    seen : (p : PassNote) → IsAmong p note.passes → Begins p.seen log

  -- what the books say of a pass that stands on some seat
  booked_pass : (s : State S Note) (x : Opened noted noted_desk s) (seat : ℕ) (p : PassNote) → Stands s.views seat p → IsPass x.account.books p.number p
  booked_pass s x seat p b = x.is_open.sound.each p.number p (among_books x.account.books.passes x.account.holder seat b.0.passes p (x.is_open.fits seat b.0 b.1).passes b.2)
    where
      among_books : (all : List PassNote) (holder : ℕ → ℕ) (j : ℕ) (ps : List PassNote) (q : PassNote) → Claims all holder j ps → IsAmong q ps → get_elem? all q.number ≡ some q
      among_books all holder j [] q c a = absurd a
      among_books all holder j (r ∷ rs) q c (inl e) = subst (λ (z : PassNote). get_elem? all z.number ≡ some z) (sym e) c.0
      among_books all holder j (r ∷ rs) q c (inr a) = among_books all holder j rs q c.3 a

  knows : (s : State S Note) (seat : ℕ) (v : Note) → Opened noted noted_desk s → get_elem? s.views seat ≡ some v → Knowing v s.words
  knows s seat v x at =
      let f = x.is_open.fits seat v at in
      record {
        log = x.account.books.hall.log;
        word = ap first_word x.is_open.words;
        hall = λ h e. ap (λ (q : HallPart). q.log) (f.hall h e).1;
        desk = λ d e. ap (λ (q : DeskPart). q.log) (f.desk d e).1;
        seen = λ p a. (booked_pass s x seat p (v, at, a)).seen;
      }

  -- a step at another word than the first leaves that one, and a step at the first makes it what it says
  word_aside : (words : List ℕ) (l g d i n : ℕ) → words ≡ l ∷ g ∷ d ∷ [] → first_word (set words (suc i) n) ≡ first_word words
  word_aside words l g d i n is = subst (λ (ws : List ℕ). first_word (set ws (suc i) n) ≡ first_word ws) (sym is) refl

  word_at : (words : List ℕ) (l g d n : ℕ) → words ≡ l ∷ g ∷ d ∷ [] → first_word (set words 0 n) ≡ n
  word_at words l g d n is = subst (λ (ws : List ℕ). first_word (set ws 0 n) ≡ n) (sym is) refl

  -- a step at a seat, by what that says then
  at_seat : (s t : State S Note) (seat : ℕ) (me : Me S Note) (i : ℕ) (f : ℕ → ℕ) (tells : ℕ → Me S Note → Type 0) (m : IsMade s t seat me i f tells) (n : ℕ)
      → first_word (set s.words i (f (slice_index s.words i))) ≡ n → first_word s.words ≤ n → GoOn me.0.passes m.note.passes → Founds me.0 m.note → GoesOn s t
  at_seat s t seat me i f tells m n word more go founds = subst (GoesOn s) (sym m.made) (record {
    word = subst (λ (x : ℕ). first_word s.words ≤ x) (sym word) more;
    passes = seat_goes_on s.views seat me.0 m.note m.sits go;
    founders = seat_founds s.views seat me.0 m.note m.sits founds;
  })

  -- the first word then
  word_then : (s t : State S Note) (seat : ℕ) (me : Me S Note) (i : ℕ) (f : ℕ → ℕ) (tells : ℕ → Me S Note → Type 0) (m : IsMade s t seat me i f tells) (n : ℕ)
      → first_word (set s.words i (f (slice_index s.words i))) ≡ n → first_word t.words ≡ n
  word_then s t seat me i f tells m n word = ap (λ (x : State S Note). first_word x.words) m.made ∙ word

  -- a step, and what it says of the log
  abbrev Stepped : State S Note → State S Note → Type 0
  Stepped s t = GoesOn s t × Grown s t

  -- one that leaves the first word
  quiet : (s t : State S Note) (seat : ℕ) (me : Me S Note) (i : ℕ) (f : ℕ → ℕ) (tells : ℕ → Me S Note → Type 0) (m : IsMade s t seat me i f tells)
      → first_word (set s.words i (f (slice_index s.words i))) ≡ first_word s.words → GoOn me.0.passes m.note.passes → Founds me.0 m.note → Stepped s t
  quiet s t seat me i f tells m word go founds =
      (at_seat s t seat me i f tells m (first_word s.words) word (le_refl (first_word s.words)) go founds, inl (word_then s t seat me i f tells m (first_word s.words) word))

  -- one that reads it
  reads : (s t : State S Note) (seat : ℕ) (me : Me S Note) (tells : ℕ → Me S Note → Type 0) → Opened noted noted_desk s → (m : IsMade s t seat me 0 (λ n. n) tells) → GoOn me.0.passes m.note.passes → Founds me.0 m.note → Stepped s t
  reads s t seat me tells rule m go founds =
      let w = three s rule in
      quiet s t seat me 0 (λ n. n) tells m (word_at s.words w.0 w.1 w.2 (first_word s.words) w.3) go founds

  -- one at the gate or at the door, of which the seat keeps its passes and its founder
  at_gate : (s t : State S Note) (seat i : ℕ) (me : Me S Note) (f : ℕ → ℕ) (tells : ℕ → Me S Note → Type 0) → Opened noted noted_desk s → (m : IsMade s t seat me (suc i) f tells)
      → (m.note.passes ≡ me.0.passes) × (m.note.founder ≡ me.0.founder) → Stepped s t
  at_gate s t seat i me f tells rule m is =
      let w = three s rule in
      quiet s t seat me (suc i) f tells m (word_aside s.words w.0 w.1 w.2 i (f (slice_index s.words (suc i))) w.3) (subst (GoOn me.0.passes) (sym is.0) (same_go_on me.0.passes)) (found_same me.0 m.note is.1)

  -- a seat says this, by an equation
  both : (x y : Me S Note) → x ≡ y → (x.0.passes ≡ y.0.passes) × (x.0.founder ≡ y.0.founder)
  both x y e = (ap (λ (z : Me S Note). z.0.passes) e, ap (λ (z : Me S Note). z.0.founder) e)

  of_counted : (s t : State S Note) → Opened noted noted_desk s → IsCounted noted noted_desk s t → Stepped s t
  of_counted s t rule c =
      let m = c.step in
      let k = knows s c.seat c.me.0 rule m.sits in
      let found = m.told.0 in
      let hall = m.told.1 in
      let new_is : c.new ≡ hall = some_same c.new hall (sym c.has ∙ m.told.3) in
      let log_is : hall.log ≡ k.log = ap (λ (h : HallPart). h.log) (sym new_is) ∙ c.counts.log ∙ k.hall c.old c.had in
      let each = λ (p : PassNote) (a : IsAmong p c.me.0.passes). later_of p (after_look c.more found hall p) (subst (Begins p.seen) (sym log_is) (k.seen p a)) refl refl in
      reads s t c.seat c.me _ rule m (subst (GoOn c.me.0.passes) (sym (ap (λ (x : Me S Note). x.0.passes) m.told.4)) (map_goes_on (after_look c.more found hall) c.me.0.passes each))
      (found_same c.me.0 m.note (ap (λ (x : Me S Note). x.0.founder) m.told.4))

  of_followed : (s t : State S Note) → Opened noted noted_desk s → IsFollowed noted noted_desk s t → Stepped s t
  of_followed s t rule c =
      let m = c.step in
      let k = knows s c.seat c.me.0 rule m.sits in
      let w = three s rule in
      let hall = m.told.0 in
      let desk = m.told.1 in
      let n = first_word s.words in
      let new_is : c.new ≡ hall = some_same c.new hall (sym c.has ∙ m.told.2) in
      let old_is : c.old.log ≡ k.log = k.hall c.old c.had in
      let log_is : c.new.log ≡ k.log ++ c.commits = c.turns.turns.log ∙ ap (λ (l : List Commit). l ++ c.commits) old_is in
      let grows : length c.new.log ≡ length k.log + length c.commits = ap length log_is ∙ length-append k.log c.commits in
      let sum : n + c.grown ≡ length c.new.log = (let a = k.word in let b = c.grown_is in omega arith) in
      let fits : n + c.grown < 18446744073709551616 = subst (λ (x : ℕ). x < 18446744073709551616) (sym sum) c.small in
      let word = word_at s.words w.0 w.1 w.2 ((n + c.grown) % 2 ^ 64) w.3 ∙ mod-eq_of_lt fits in
      let after = after_turn zeros c.hands (whole_of hall desk) in
      let each = λ (p : PassNote) (a : IsAmong p c.me.0.passes). later_of p (after p) (subst (Begins p.seen) (sym log_is ∙ ap (λ (h : HallPart). h.log) new_is) (begins_more p.seen k.log c.commits (k.seen p a))) refl refl in
      let passes_are : m.note.passes ≡ map after c.me.0.passes = ap (λ (x : Me S Note). x.0.passes) m.told.4 in
      let among : IsAmong (after c.pass) m.note.passes = subst (IsAmong (after c.pass)) (sym (passes_are ∙ ap (map after) c.bears)) (inl refl) in
      let sits : get_elem? t.views c.seat ≡ some m.note = ap (λ (x : State S Note). get_elem? x.views c.seat) m.made ∙ set_here s.views c.seat m.note (at_below s.views c.seat c.me.0 m.sits) in (
        at_seat s t c.seat c.me 0 (λ x. (x + c.grown) % 2 ^ 64) _ m (n + c.grown) word (omega arith) (subst (GoOn c.me.0.passes) (sym passes_are) (map_goes_on after c.me.0.passes each))
            (found_same c.me.0 m.note (ap (λ (x : Me S Note). x.0.founder) m.told.4)),
        inr (record { seat = c.seat; note = m.note; hall = hall; pass = after c.pass; sits = sits; has = ap (λ (x : Me S Note). x.0.hall) m.told.4; among = among; seen = refl }),
      )

  of_forgotten : (s t : State S Note) → Opened noted noted_desk s → IsForgotten noted noted_desk s t → Stepped s t
  of_forgotten s t rule c =
      let m = c.step in
      let k = knows s c.seat c.me.0 rule m.sits in
      let hall = m.told.0 in
      let desk = m.told.1 in
      let new_is : c.new ≡ hall = some_same c.new hall (sym c.has ∙ m.told.2) in
      let log_is : hall.log ≡ k.log = ap (λ (h : HallPart). h.log) (sym new_is) ∙ ap (λ (h : HallPart). h.log) c.forgets.new_is ∙ k.hall c.old c.had in
      let each = λ (p : PassNote) (a : IsAmong p c.me.0.passes). later_of p (after_forgetting (front p.handed) (whole_of hall desk) p) (subst (Begins p.seen) (sym log_is) (k.seen p a)) refl refl in
      reads s t c.seat c.me _ rule m (subst (GoOn c.me.0.passes) (sym (ap (λ (x : Me S Note). x.0.passes) m.told.4)) (map_goes_on (λ p. after_forgetting (front p.handed) (whole_of hall desk) p) c.me.0.passes each))
      (found_same c.me.0 m.note (ap (λ (x : Me S Note). x.0.founder) m.told.4))

  of_told : (s t : State S Note) (seat : ℕ) (me : Me S Note) → Opened noted noted_desk s → IsMade s t seat me 0 (λ n. n) (λ _ then. TellsFaults noted noted_desk me then) → Stepped s t
  of_told s t seat me rule m =
      let k = knows s seat me.0 rule m.sits in
      let desk = m.told.0 in
      let part = m.told.1 in
      let log_is : part.log ≡ k.log = k.desk part m.told.3 in
      let each = λ (p : PassNote) (a : IsAmong p me.0.passes). later_of p (after_fault desk.faults part p) (subst (Begins p.seen) (sym log_is) (k.seen p a)) refl refl in
      reads s t seat me _ rule m (subst (GoOn me.0.passes) (sym (ap (λ (x : Me S Note). x.0.passes) m.told.4)) (map_goes_on (after_fault desk.faults part) me.0.passes each))
      (found_same me.0 m.note (ap (λ (x : Me S Note). x.0.founder) m.told.4))

  of_taking : (me : Me S Note) (note : Note) (carried : List (ℕ × S)) (gate : ℕ) → TakesOut noted noted_desk me gate (note, carried) → (note.passes ≡ me.0.passes) × (note.founder ≡ me.0.founder)
  of_taking me note carried gate told = dite (ℕ_discrete gate 0) (λ e. let t = told.0 e in both (note, carried) (with_hall (Some t.1) me.0, (0, t.0) ∷ me.1) t.3) (λ ne. both (note, carried) me (told.1 ne))

  of_taking_desk : (me : Me S Note) (note : Note) (carried : List (ℕ × S)) (door : ℕ) → TakesDesk noted noted_desk me door (note, carried) → (note.passes ≡ me.0.passes) × (note.founder ≡ me.0.founder)
  of_taking_desk me note carried door told = dite (ℕ_discrete door 0) (λ e. let t = told.0 e in both (note, carried) (with_desk (Some t.2) me.0, (1, t.0) ∷ me.1) t.5) (λ ne. both (note, carried) me (told.1 ne))

  of_drawing : (s t : State S Note) (seat : ℕ) (me : Me S Note) → Opened noted noted_desk s → IsMade s t seat me 0 (λ n. n) (λ _ then. Draws me then) → Stepped s t
  of_drawing s t seat me rule m =
      let founder = m.told.0 in
      let founds : Founds me.0 m.note = λ f e. (record { made = founder.made + 1; opened = founder.opened }, ap (λ (x : Me S Note). x.0.founder) m.told.2, ap (λ (g : FounderNote). g.opened) (some_same founder f (sym m.told.1 ∙ e))) in
      reads s t seat me _ rule m (subst (GoOn me.0.passes) (sym (ap (λ (x : Me S Note). x.0.passes) m.told.2)) (λ p a. (p, inr a, later_same p))) founds

  of_split : (s t : State S Note) → IsSplit s t → Stepped s t
  of_split s t c =
      let left = set s.views c.seat (left_of c.note) in
      let founders = found_then s.views left (left ++ right_of c.note ∷ []) (seat_founds s.views c.seat c.note (left_of c.note) c.sits (found_same c.note (left_of c.note) refl)) (more_found left (right_of c.note ∷ [])) in (
        subst (GoesOn s) (sym c.made) (record { word = le_refl (first_word s.words); passes = split_goes_on s.views c.seat c.note c.sits; founders = founders }),
        inl (ap (λ (x : State S Note). first_word x.words) c.made),
      )

  of_join : (s t : State S Note) → IsJoined s t → Stepped s t
  of_join s t c = (
    subst (GoesOn s) (sym c.made) (record {
      word = le_refl (first_word s.words);
      passes = join_goes_on s.views c.seat c.other c.note c.more c.sits c.differ c.beside;
      founders = join_founds s.views c.seat c.other c.note c.more c.pass c.more_is c.sits c.beside;
    }),
    inl (ap (λ (x : State S Note). first_word x.words) c.made),
  )

  -- a step of an open site
  stepped : (s t : State S Note) → Opened noted noted_desk s → IsStep noted noted_desk s t → Stepped s t
  stepped s t x (opens seat grown me said is m) = absurd (true≢false (sym (ap (λ (z : Me S Note). z.0.fresh) is) ∙ (x.is_open.fits seat me.0 m.sits).old))
  stepped s t x (takes_hall seat taken me m) = at_gate s t seat 0 me _ _ x m (of_taking me m.note _ (slice_index s.words 1) m.told)
  stepped s t x (takes_desk seat taken me m) = at_gate s t seat 1 me _ _ x m (of_taking_desk me m.note _ (slice_index s.words 2) m.told)
  stepped s t x (marks_gate seat me m) = at_gate s t seat 0 me _ _ x m (both _ _ m.told)
  stepped s t x (marks_door seat me m) = at_gate s t seat 1 me _ _ x m (both _ _ m.told)
  stepped s t x (counts c) = of_counted s t x c
  stepped s t x (follows c) = of_followed s t x c
  stepped s t x (forgets c) = of_forgotten s t x c
  stepped s t x (tells_faults seat me m) = of_told s t seat me x m
  stepped s t x (gives_hall seat me m) = at_gate s t seat 0 me _ _ x m (both _ (with_hall None me.0, rest me.1) m.told)
  stepped s t x (gives_desk seat me m) = at_gate s t seat 1 me _ _ x m (both _ (with_desk None me.0, rest me.1) m.told)
  stepped s t x (draws seat me m) = of_drawing s t seat me x m
  stepped s t x (meets seat me m) = reads s t seat me _ x m (subst (GoOn me.0.passes) (sym (ap (λ (z : Me S Note). z.0.passes) m.told.0)) (met_go_on me.0.passes m.told.1)) (found_same me.0 m.note (ap (λ (z : Me S Note). z.0.founder) m.told.0))
  stepped s t x (splits c) = of_split s t c
  stepped s t x (joins c) = of_join s t c

  -- ---- any number of steps

  fresh_bears : (s : State S Note) (seat : ℕ) (p : PassNote) → IsFresh noted noted_desk s → Stands s.views seat p → ⊥
  fresh_bears s seat p f b = subst (λ (n : Note). IsAmong p n.passes) (sym (fresh_note s seat b.0 f b.1)) b.2

  fresh_founds : (s : State S Note) (seat : ℕ) (v : Note) (k : FounderNote) → IsFresh noted noted_desk s → get_elem? s.views seat ≡ some v → v.founder ≡ Some k → ⊥
  fresh_founds s seat v k f at e = none_some k (ap (λ (n : Note). n.founder) (fresh_note s seat v f at) ∙ e)

  -- of a table that isn't opened there is nothing to say
  from_fresh : (s t : State S Note) → IsFresh noted noted_desk s → GoesOn s t
  from_fresh s t f = record {
    word = (let z : first_word s.words ≡ 0 = ap first_word f.words in omega arith);
    passes = λ seat p b. absurd (fresh_bears s seat p f b);
    founders = λ seat v k at e. absurd (fresh_founds s seat v k f at e);
  }

  all_go_on : (first : State S Note) (others : List (State S Note)) → KeepsRule noted noted_desk first → AreSteps noted noted_desk first others → GoesOn first (last_state first others)
  all_go_on first others (inl f) steps = from_fresh first (last_state first others) f
  all_go_on first [] (inr x) steps = record { word = le_refl (first_word first.words); passes = λ j p s. (j, p, s, later_same p); founders = λ j v k at e. (j, v, k, at, e, refl) }
  all_go_on first (next ∷ others) (inr x) steps =
      let one = (stepped first next x steps.0).0 in
      let rest = all_go_on next others steps.1 steps.2 in
      let a = one.word in
      let b = rest.word in
      let end = last_state next others in
      record { word = omega arith; passes = all_then first.views next.views end.views one.passes rest.passes; founders = found_then first.views next.views end.views one.founders rest.founders }

  last_keeps : (first : State S Note) (others : List (State S Note)) → KeepsRule noted noted_desk first → AreSteps noted noted_desk first others → KeepsRule noted noted_desk (last_state first others)
  last_keeps first [] rule steps = rule
  last_keeps first (next ∷ others) rule steps = last_keeps next others steps.1 steps.2

  -- ---- a pass beside the hall, which is out

  record Beside (hall : HallPart) (pass : PassNote) : Type 0 where
    base : pass.opened.loaded.base ≡ hall.base
    seen : Begins pass.seen hall.log

  beside : (s : State S Note) (seat other : ℕ) (p : PassNote) (note : Note) (hall : HallPart) → KeepsRule noted noted_desk s → Stands s.views seat p → get_elem? s.views other ≡ some note → note.hall ≡ Some hall → Beside hall p
  beside s seat other p note hall (inl f) b at has = absurd (fresh_bears s seat p f b)
  beside s seat other p note hall (inr x) b at has =
      let r = booked_pass s x seat p b in
      let is : hall ≡ hall_part x.account.books.hall = ((x.is_open.fits other note at).hall hall has).1 in
      record {
        base = ap (λ (h : HallNote). h.loaded.base) r.opened ∙ ap (λ (l : Loaded). l.base) (sym x.is_open.sound.loaded) ∙ ap (λ (h : HallPart). h.base) (sym is);
        seen = subst (λ (h : HallPart). Begins p.seen h.log) (sym is) r.seen;
      }

-- a longer log makes no lower number
number_grows : (h k : HallPart) → h.base ≡ k.base → Begins h.log k.log → newest_number h ≤ newest_number k
number_grows h k same begins =
    let base_is : h.base.number ≡ k.base.number = λ i. (same i).number in
    let a = replay_number h.base h.log in
    let b = replay_number k.base k.log in
    let c = ap length begins.1 ∙ length-append h.log begins.0 in
    omega arith

-- what a pass has seen, as a hall
abbrev seen_hall : PassNote → HallPart
seen_hall pass = record { base = pass.opened.loaded.base; log = pass.seen; pending = None; tally = zeros; bins = pass.left.bins }

pub never_falls : {S : Type 0} (noted : S → Option HallPart) (noted_desk : S → Option DeskNote) → NumbersNeverFall noted noted_desk
never_falls {S} noted noted_desk first others rule steps =
    let last = last_state first others in
    let go = all_go_on noted noted_desk first others rule steps in
    let end = last_keeps noted noted_desk first others rule steps in
    let finds : (seat other : ℕ) (pass : PassNote) (note : Note) (hall : HallPart) → Stands first.views seat pass → get_elem? last.views other ≡ some note → note.hall ≡ Some hall → Begins pass.seen hall.log × (number_seen pass ≤ newest_number hall) =
    λ seat other pass note hall b at has. (let t = go.passes seat pass b in
    let here = beside noted noted_desk last t.0 other t.1 note hall end t.2 at has in
    let seen = begins_then pass.seen t.1.seen hall.log t.3.seen here.seen in
    let base = ap (λ (h : HallNote). h.loaded.base) (sym t.3.opened) ∙ here.base in (seen, number_grows (seen_hall pass) hall base seen)) in
    record {
      word = go.word;
      passes = go.passes;
      finds = finds;
      numbers = λ seat other pass also note hall b at has among is. (let here = beside noted noted_desk last other other also note hall end (note, at, among) at has in
          let same : newest_number hall ≡ number_seen also = λ i. (replay (sym here.base i) (sym is i)).number in
          subst (λ (n : ℕ). number_seen pass ≤ n) same (finds seat other pass note hall b at has).1);
    }

-- ---- logs

-- somebody who knows what the site was opened with has seen this log: a pass, or the founder
data HasSeen {S : Type 0} (s : State S Note) (opened : HallNote) (log : List Commit) : Type 0 where
  by_a_pass : (seat : ℕ) (p : PassNote) → Stands s.views seat p → p.opened ≡ opened → p.seen ≡ log → HasSeen s opened log
  by_the_founder : (seat : ℕ) (v : Note) (f : FounderNote) → get_elem? s.views seat ≡ some v → v.founder ≡ Some f → f.opened ≡ opened → opened.log ≡ log → HasSeen s opened log

-- and has seen no less later
seen_on : {S : Type 0} (s t : State S Note) (opened : HallNote) (log : List Commit) → GoesOn s t → HasSeen s opened log → (later : List Commit) × Begins log later × HasSeen t opened later
seen_on s t opened log go (by_a_pass seat p b is seen) =
    let r = go.passes seat p b in
    (r.1.seen, subst (λ (l : List Commit). Begins l r.1.seen) seen r.3.seen, by_a_pass r.0 r.1 r.2 (r.3.opened ∙ is) refl)
seen_on s t opened log go (by_the_founder seat v f at e is seen) =
    let r = go.founders seat v f at e in
    (log, begins_same log, by_the_founder r.0 r.1 r.2 r.3 r.4 (r.5 ∙ is) seen)

-- a front of a log that is as long is all of it
front_is_all : (xs ys : List Commit) → Begins xs ys → length ys ≤ length xs → xs ≡ ys
front_is_all xs ys b less = sym (b.1 ∙ ap (λ (l : List Commit). xs ++ l) (none b.0 (let c = ap length b.1 ∙ length-append xs b.0 in omega arith)) ∙ append-nil xs)
  where
    none : (more : List Commit) → length more ≡ 0 → more ≡ []
    none [] e = refl
    none (c ∷ cs) e = absurd (omega arith)

module _ {S : Type 0} (noted : S → Option HallPart) (noted_desk : S → Option DeskNote) where
  -- what is seen is a front of the log, which began as what the site was opened with
  record IsTrue (opened : HallNote) (log : List Commit) (hall : HallNote) : Type 0 where
    base : opened.loaded.base ≡ hall.loaded.base
    front : Begins log hall.log

  seen_is_true : (s : State S Note) (x : Opened noted noted_desk s) (opened : HallNote) (log : List Commit) → HasSeen s opened log → IsTrue opened log x.account.books.hall
  seen_is_true s x opened log (by_a_pass seat p b is seen) =
      let r = booked_pass noted noted_desk s x seat p b in
      record {
        base = ap (λ (h : HallNote). h.loaded.base) (sym is ∙ r.opened) ∙ ap (λ (l : Loaded). l.base) (sym x.is_open.sound.loaded);
        front = subst (λ (l : List Commit). Begins l x.account.books.hall.log) seen r.seen;
      }
  seen_is_true s x opened log (by_the_founder seat v f at e is seen) =
      let books = x.account.books in
      let same : opened ≡ books.opened = sym is ∙ ap (λ (g : FounderNote). g.opened) ((x.is_open.fits seat v at).founder f e).1 in
      record {
        base = ap (λ (h : HallNote). h.loaded.base) same ∙ ap (λ (l : Loaded). l.base) (sym x.is_open.sound.loaded);
        front = subst (λ (l : List Commit). Begins l books.hall.log) (ap (λ (h : HallNote). h.log) (sym same) ∙ seen) (books.past, x.is_open.sound.log);
      }

  none_fresh : (s : State S Note) (opened : HallNote) (log : List Commit) → IsFresh noted noted_desk s → HasSeen s opened log → ⊥
  none_fresh s opened log f (by_a_pass seat p b is seen) = fresh_bears noted noted_desk s seat p f b
  none_fresh s opened log f (by_the_founder seat v k at e is seen) = fresh_founds noted noted_desk s seat v k f at e

  -- the site is open, and somebody has seen the whole log
  record IsWhole (s : State S Note) : Type 0 where
    site : Opened noted noted_desk s
    opened : HallNote
    seen : HasSeen s opened site.account.books.hall.log

  whole_first : (s : State S Note) → KeepsRule noted noted_desk s → IsJustOpened s → IsWhole s
  whole_first s (inl f) j = absurd (fresh_founds noted noted_desk s j.seat j.note j.founder f j.sits j.founds)
  whole_first s (inr x) j =
      let is = ((x.is_open.fits j.seat j.note j.sits).hall j.hall j.has).1 in
      record { site = x; opened = j.founder.opened; seen = by_the_founder j.seat j.note j.founder j.sits j.founds refl (j.opened ∙ ap (λ (h : HallPart). h.log) is) }

  whole_on : (s t : State S Note) → IsWhole s → IsStep noted noted_desk s t → KeepsRule noted noted_desk t → IsWhole t
  whole_on s t w step (inl f) =
      let r = stepped noted noted_desk s t w.site step in
      let k = seen_on s t w.opened w.site.account.books.hall.log r.0 w.seen in
      absurd (none_fresh t w.opened k.0 f k.2)
  whole_on s t w step (inr y) =
      let r = stepped noted noted_desk s t w.site step in
      let old = w.site.account.books.hall.log in
      let now = y.account.books.hall.log in
      let k = seen_on s t w.opened old r.0 w.seen in
      let truth = seen_is_true t y w.opened k.0 k.2 in
      ⊎_elim
      (λ (same : first_word t.words ≡ first_word s.words). let a : first_word s.words ≡ length old = ap first_word w.site.is_open.words in
      let b : first_word t.words ≡ length now = ap first_word y.is_open.words in
      let c = ap length k.1.1 ∙ length-append old k.1.0 in
      let all : k.0 ≡ now = front_is_all k.0 now truth.front (omega arith) in
      record { site = y; opened = w.opened; seen = subst (HasSeen t w.opened) all k.2 })
      (λ (n : IsNew t). let is = ((y.is_open.fits n.seat n.note n.sits).hall n.hall n.has).1 in
      record { site = y; opened = n.pass.opened; seen = by_a_pass n.seat n.pass (n.note, n.sits, n.among) refl (n.seen ∙ ap (λ (h : HallPart). h.log) is) })
      r.1

  whole_at : (first : State S Note) (others : List (State S Note)) → IsWhole first → AreSteps noted noted_desk first others → IsWhole (last_state first others)
  whole_at first [] w steps = w
  whole_at first (next ∷ others) w steps = whole_at next others (whole_on first next w steps.0 steps.1) steps.2

  pub steps_made : (tells : Step S → Me S Note → ℕ → Me S Note → Type 0) → StepsAreMade noted noted_desk tells
  steps_made tells step slots seat me word becomes allows before rule homes sits small =
      let t = allows before rule homes sits small in
      (table.stepped before word (becomes (slice_index before.words word)) seat me.1 t.0 t.1, record { sits = sits; note = t.0; act = t.1; valid = t.2; made = refl; told = t.4 }, t.3)

  pub logs_grow : LogsOnlyGrow noted noted_desk
  logs_grow first others more hall later rule just steps then_steps is its =
      let s = last_state first others in
      let t = last_state s more in
      let w = whole_at first others (whole_first first rule just) steps in
      let v = whole_at s more w then_steps in
      let old = w.site.account.books.hall in
      let now = v.site.account.books.hall in
      let k = seen_on s t w.opened old.log (all_go_on noted noted_desk s more (inr w.site) then_steps) w.seen in
      let then = seen_is_true t v.site w.opened k.0 k.2 in
      let front = begins_then old.log k.0 now.log k.1 then.front in
      let base = sym (seen_is_true s w.site w.opened old.log w.seen).base ∙ then.base in
      subst (λ (x : HallPart × HallPart). Begins x.0.log x.1.log × (newest_number x.0 ≤ newest_number x.1)) (λ i. (sym (hall_is noted noted_desk s w.site.account w.site.gate w.site.door w.site.is_open hall is) i, sym (hall_is noted noted_desk t v.site.account v.site.gate v.site.door v.site.is_open later its) i))
      (front, number_grows (hall_part old) (hall_part now) base front)
