-- Hall and desk go out and come back, and keep the rule.
use Rattle.std.proofs.Common.{◌≡◌, ◌≢◌, ℕ, List, [], ◌∷◌, length, set, ◌==◌, Option, Some, None, refl, sym, ap, ◌∙◌, subst, arith}
use mathlib.Core.Option.{some}
use lib.ListN.{get_elem?}
use mathlib.Core.Option as maybe
use prog.Atomic.{either}
use Rattle.atomic_table.specs.Table.{State, Me, Act, keeps, takes, gives, Valid, carried_after, stepped}
use Rattle.atomic_table.proofs.Lists.{set_else, set_here, exchanged}
use Rattle.turn_rule.specs.declared.notes.HallNote.{HallNote}
use Rattle.turn_rule.specs.declared.notes.HallPart.{HallPart}
use Rattle.turn_rule.specs.declared.notes.DeskPart.{DeskPart}
use Rattle.turn_rule.specs.declared.notes.DeskNote.{DeskNote}
use Rattle.turn_rule.specs.declared.notes.Note.{Note}
use Rattle.turn_rule.specs.Logs.{hall_part, desk_part, StandsFor}
use Rattle.turn_rule.specs.Rule.{Account, Fits, HasHall, HasDesk, IsOpen}
use Rattle.turn_rule.specs.Steps.{with_hall, with_desk, AgreesWith, TakesOut, TakesDesk, Marks, GivesBack, GivesDeskBack}
use Rattle.turn_laws.specs.Laws.{Stays, Leads, Lets, HallsAreTakenOut, DesksAreTakenOut, GatesAreMarked, DoorsAreMarked, HallsAreGivenBack, DesksAreGivenBack}
use Rattle.turn_rule.proofs.Claims.{each_set}
use Rattle.turn_rule.proofs.Books.{all_know}
use Rattle.turn_rule.proofs.Accounts.{none_some, some_same, one_not_zero, zero_not_one, two_not_zero, owned, clerked, no_hall, no_desk, marked_fits, door_fits, out_stays, out_here, still_placed, unchanged, all_of_hall, all_of_desk}
use Rattle.turn_laws.proofs.Opened.{with_words, Kept, kept_by, Law, in_open, lets, stays_open}

module _ {S : Type 0} (noted : S → Option HallPart) (noted_desk : S → Option DeskNote) where
  -- ---- a slot goes out and comes back, and the other stays as it is

  hall_stays : (homes : List (maybe.Option S)) (whole : HallNote) (x : maybe.Option S) → HasHall noted noted_desk homes whole → HasHall noted noted_desk (set homes 1 x) whole
  hall_stays homes whole x h = (h.0, set_else homes 1 0 x zero_not_one ∙ h.1, h.2)

  desk_stays : (homes : List (maybe.Option S)) (whole : HallNote) (x : maybe.Option S) → HasDesk noted noted_desk homes whole → HasDesk noted noted_desk (set homes 0 x) whole
  desk_stays homes whole x h = (h.0, h.1, set_else homes 0 1 x one_not_zero ∙ h.2, h.3, h.4)

  -- ---- the hall goes out and comes back

  abbrev Ends : ℕ → Me S Note → State S Note → Account → ℕ → ℕ → ℕ → Type 0
  Ends id me s a gate door m = (w : Note) × (x : Act S) × Valid s.homes me.1 x
      × Kept noted noted_desk Stays (with_words s (length a.books.hall.log ∷ gate ∷ door ∷ [])) (stepped (with_words s (length a.books.hall.log ∷ gate ∷ door ∷ [])) 1 m id me.1 w x)
      × TakesOut noted noted_desk me gate (w, carried_after me.1 x)

  agrees : (a : Account) (gate door id : ℕ) (v : Note) (desk : Option DeskPart) → Fits a gate door id v → v.desk ≡ desk → AgreesWith (hall_part a.books.hall) desk
  agrees a gate door id v None f is = tt
  agrees a gate door id v (Some d) f is = let e = (f.desk d is).1 in record { base = ap (λ (x : DeskPart). x.loaded.base) (sym e); log = ap (λ (x : DeskPart). x.log) (sym e); pending = ap (λ (x : DeskPart). x.pending) (sym e) }

  out_hit : (id : ℕ) (me : Me S Note) (s : State S Note) (a : Account) (gate door taken : ℕ) → IsOpen noted noted_desk s a gate door → get_elem? s.views id ≡ some me.0 → taken ≢ 0 → gate ≡ 0 → Ends id me s a gate door taken
  out_hit id me s a gate door taken o at some_gate e =
      let v = me.0 in
      let home = o.home e in
      let f = o.fits id v at in
      let b = owned a id in
      let part = hall_part a.books.hall in
      let w = with_hall (Some part) v in
      let others = λ (j : ℕ) (u : Note) (ne : j ≢ id) (x : get_elem? s.views j ≡ some u). (let g = o.fits j u x in no_hall a id gate taken door j u (λ h y. (g.hall h y).2 e) g) in
      let mine : Fits b taken door id w = record { old = f.old; hall = λ h q. (refl, sym (some_same part h q), some_gate); desk = f.desk; founder = f.founder; passes = f.passes } in (
        w,
        takes 0 home.0,
        home.1,
        kept_by noted noted_desk Stays s _ a gate door o (record {
          account = b;
          gate = taken;
          door = door;
          is_open = record {
            words = refl;
            home = λ z. absurd (some_gate z);
            away = λ _. out_here (λ note. note.hall) s.views id id v w part at refl refl;
            desk = λ z. desk_stays s.homes a.books.hall maybe.none (o.desk z);
            desk_away = λ z. out_stays (λ note. note.desk) s.views id a.clerk v w (desk_part a.books.hall) at (o.desk_away z) (λ e. e);
            sound = o.sound;
            fits = each_set (Fits b taken door) s.views id w others mine;
            placed = still_placed s.views a id v w o.placed at refl;
          };
        }) refl,
        ((λ _. (home.0, part, home.2, refl, agrees a gate door id v v.desk f refl, all_of_hall a.books.hall v.passes (all_know a.books a.holder id v.passes o.sound f.passes))), (λ ne. absurd (ne e))),
      )

  out_miss : (id : ℕ) (me : Me S Note) (s : State S Note) (a : Account) (gate door : ℕ) → IsOpen noted noted_desk s a gate door → get_elem? s.views id ≡ some me.0 → gate ≢ 0 → Ends id me s a gate door gate
  out_miss id me s a gate door o at ne = (
    me.0,
    keeps,
    tt,
    stays_open noted noted_desk s a gate door id me.0 o at,
    ((λ e. absurd (ne e)), (λ _. refl)),
  )

  pub halls_out_leads : HallsAreTakenOut noted noted_desk (Leads noted noted_desk)
  halls_out_leads slots id me taken one some_gate old =
      in_open noted noted_desk Stays slots id me me 1 (λ n. either (n == 0) taken n) (TakesOut noted noted_desk) one refl old
      (λ s a gate door o count at. exchanged gate 0 taken (Ends id me s a gate door) (out_hit id me s a gate door taken o at some_gate) (out_miss id me s a gate door o at))

  -- ---- the desk goes out

  abbrev Leaves : ℕ → Me S Note → State S Note → Account → ℕ → ℕ → ℕ → Type 0
  Leaves id me s a gate door m = (w : Note) × (x : Act S) × Valid s.homes me.1 x
      × Kept noted noted_desk Stays (with_words s (length a.books.hall.log ∷ gate ∷ door ∷ [])) (stepped (with_words s (length a.books.hall.log ∷ gate ∷ door ∷ [])) 2 m id me.1 w x)
      × TakesDesk noted noted_desk me door (w, carried_after me.1 x)

  desk_hit : (id : ℕ) (me : Me S Note) (s : State S Note) (a : Account) (gate door taken : ℕ) → IsOpen noted noted_desk s a gate door → get_elem? s.views id ≡ some me.0 → taken ≢ 0 → door ≡ 0 → Leaves id me s a gate door taken
  desk_hit id me s a gate door taken o at some_gate e =
      let v = me.0 in
      let home = o.desk e in
      let f = o.fits id v at in
      let b = clerked a id in
      let part = desk_part a.books.hall in
      let w = with_desk (Some part) v in
      let others = λ (j : ℕ) (u : Note) (ne : j ≢ id) (x : get_elem? s.views j ≡ some u). (let g = o.fits j u x in no_desk a id gate door taken j u (λ h y. (g.desk h y).2 e) g) in
      let mine : Fits b gate taken id w = record { old = f.old; hall = f.hall; desk = λ h q. (refl, sym (some_same part h q), some_gate); founder = f.founder; passes = f.passes } in (
        w,
        takes 1 home.0,
        home.2,
        kept_by noted noted_desk Stays s _ a gate door o (record {
          account = b;
          gate = gate;
          door = taken;
          is_open = record {
            words = refl;
            home = λ z. hall_stays s.homes a.books.hall maybe.none (o.home z);
            away = λ z. out_stays (λ note. note.hall) s.views id a.owner v w (hall_part a.books.hall) at (o.away z) (λ e. e);
            desk = λ z. absurd (some_gate z);
            desk_away = λ _. out_here (λ note. note.desk) s.views id id v w part at refl refl;
            sound = o.sound;
            fits = each_set (Fits b gate taken) s.views id w others mine;
            placed = still_placed s.views a id v w o.placed at refl;
          };
        }) refl,
        ((λ _. (home.0, home.1, part, home.3, home.4, refl, all_of_desk a.books.hall v.passes (all_know a.books a.holder id v.passes o.sound f.passes))), (λ ne. absurd (ne e))),
      )

  desk_miss : (id : ℕ) (me : Me S Note) (s : State S Note) (a : Account) (gate door : ℕ) → IsOpen noted noted_desk s a gate door → get_elem? s.views id ≡ some me.0 → door ≢ 0 → Leaves id me s a gate door door
  desk_miss id me s a gate door o at ne = (
    me.0,
    keeps,
    tt,
    stays_open noted noted_desk s a gate door id me.0 o at,
    ((λ e. absurd (ne e)), (λ _. refl)),
  )

  pub desks_out_leads : DesksAreTakenOut noted noted_desk (Leads noted noted_desk)
  desks_out_leads slots id me taken one some_gate old =
      in_open noted noted_desk Stays slots id me me 2 (λ n. either (n == 0) taken n) (TakesDesk noted noted_desk) one refl old
      (λ s a gate door o count at. exchanged door 0 taken (Leaves id me s a gate door) (desk_hit id me s a gate door taken o at some_gate) (desk_miss id me s a gate door o at))

  -- ---- the gates are marked

  abbrev Remains : ℕ → Me S Note → State S Note → Account → ℕ → ℕ → ℕ → ℕ → Type 0
  Remains id me s a gate door i m = (w : Note) × (x : Act S) × Valid s.homes me.1 x
      × Kept noted noted_desk Stays (with_words s (length a.books.hall.log ∷ gate ∷ door ∷ [])) (stepped (with_words s (length a.books.hall.log ∷ gate ∷ door ∷ [])) i m id me.1 w x)
      × Marks me (w, carried_after me.1 x)

  pub gates_marked_leads : GatesAreMarked noted noted_desk (Leads noted noted_desk)
  gates_marked_leads slots id me one old =
      in_open noted noted_desk Stays slots id me me 1 (λ n. either (n == 1) 2 n) (λ m _ w. Marks m w) one refl old
      (λ s a gate door o count at. exchanged gate 1 2 (Remains id me s a gate door 1)
      (λ e. (
        me.0,
        keeps,
        tt,
        kept_by noted noted_desk Stays s _ a gate door o (record {
          account = a;
          gate = 2;
          door = door;
          is_open = record {
            words = refl;
            home = λ z. absurd (two_not_zero z);
            away = λ _. out_stays (λ note. note.hall) s.views id a.owner me.0 me.0 (hall_part a.books.hall) at (o.away (λ z. one_not_zero (sym e ∙ z))) (λ e. e);
            desk = o.desk;
            desk_away = λ z. out_stays (λ note. note.desk) s.views id a.clerk me.0 me.0 (desk_part a.books.hall) at (o.desk_away z) (λ e. e);
            sound = o.sound;
            fits = unchanged s.views a 2 door id me.0 at (λ j u x. marked_fits a gate 2 door j u two_not_zero (o.fits j u x));
            placed = still_placed s.views a id me.0 me.0 o.placed at refl;
          };
        }) refl,
        refl,
      ))
      (λ ne. (me.0, keeps, tt, stays_open noted noted_desk s a gate door id me.0 o at, refl)))

  pub doors_marked_leads : DoorsAreMarked noted noted_desk (Leads noted noted_desk)
  doors_marked_leads slots id me one old =
      in_open noted noted_desk Stays slots id me me 2 (λ n. either (n == 1) 2 n) (λ m _ w. Marks m w) one refl old
      (λ s a gate door o count at. exchanged door 1 2 (Remains id me s a gate door 2)
      (λ e. (
        me.0,
        keeps,
        tt,
        kept_by noted noted_desk Stays s _ a gate door o (record {
          account = a;
          gate = gate;
          door = 2;
          is_open = record {
            words = refl;
            home = o.home;
            away = λ z. out_stays (λ note. note.hall) s.views id a.owner me.0 me.0 (hall_part a.books.hall) at (o.away z) (λ e. e);
            desk = λ z. absurd (two_not_zero z);
            desk_away = λ _. out_stays (λ note. note.desk) s.views id a.clerk me.0 me.0 (desk_part a.books.hall) at (o.desk_away (λ z. one_not_zero (sym e ∙ z))) (λ e. e);
            sound = o.sound;
            fits = unchanged s.views a gate 2 id me.0 at (λ j u x. door_fits a gate 2 door j u two_not_zero (o.fits j u x));
            placed = still_placed s.views a id me.0 me.0 o.placed at refl;
          };
        }) refl,
        refl,
      ))
      (λ ne. (me.0, keeps, tt, stays_open noted noted_desk s a gate door id me.0 o at, refl)))

  -- ---- the hall comes back, and the desk

  pub halls_back_leads : HallsAreGivenBack noted noted_desk (Leads noted noted_desk)
  halls_back_leads slots id me v y others h one is old on at_home =
      in_open noted noted_desk Stays slots id me (v, (0, y) ∷ others) 1 (λ _. 0) (λ m _ w. GivesBack m w) one is old law
    where
      law : Law noted noted_desk Stays id (v, (0, y) ∷ others) 1 (λ _. 0) (λ _ w. GivesBack (v, (0, y) ∷ others) w)
      law s a gate door o count at =
          let f = o.fits id v at in
          let mine = f.hall h on in
          let w = with_hall None v in
          let apart = λ (j : ℕ) (u : Note) (ne : j ≢ id) (x : get_elem? s.views j ≡ some u). (let g = o.fits j u x in no_hall a a.owner gate 0 door j u (λ q r. ne ((g.hall q r).0 ∙ sym mine.0)) g) in
          let here : Fits a 0 door id w = record { old = f.old; hall = λ q r. absurd (none_some q r); desk = f.desk; founder = f.founder; passes = f.passes } in (
            w,
            gives,
            tt,
            kept_by noted noted_desk Stays s _ a gate door o (record {
              account = a;
              gate = 0;
              door = door;
              is_open = record {
                words = refl;
                home = λ _. (y, set_here s.homes 0 (some y) (omega (arith, count)), at_home ∙ ap Some mine.1);
                away = λ ne. absurd (ne refl);
                desk = λ z. desk_stays s.homes a.books.hall (some y) (o.desk z);
                desk_away = λ z. out_stays (λ note. note.desk) s.views id a.clerk v w (desk_part a.books.hall) at (o.desk_away z) (λ e. e);
                sound = o.sound;
                fits = each_set (Fits a 0 door) s.views id w apart here;
                placed = still_placed s.views a id v w o.placed at refl;
              };
            }) refl,
            refl,
          )

  pub desks_back_leads : DesksAreGivenBack noted noted_desk (Leads noted noted_desk)
  desks_back_leads slots id me v y others d part one is old on at_home stands =
      in_open noted noted_desk Stays slots id me (v, (1, y) ∷ others) 2 (λ _. 0) (λ m _ w. GivesDeskBack m w) one is old law
    where
      law : Law noted noted_desk Stays id (v, (1, y) ∷ others) 2 (λ _. 0) (λ _ w. GivesDeskBack (v, (1, y) ∷ others) w)
      law s a gate door o count at =
          let f = o.fits id v at in
          let mine = f.desk part on in
          let w = with_desk None v in
          let apart = λ (j : ℕ) (u : Note) (ne : j ≢ id) (x : get_elem? s.views j ≡ some u). (let g = o.fits j u x in no_desk a a.clerk gate door 0 j u (λ q r. ne ((g.desk q r).0 ∙ sym mine.0)) g) in
          let here : Fits a gate 0 id w = record { old = f.old; hall = f.hall; desk = λ q r. absurd (none_some q r); founder = f.founder; passes = f.passes } in (
            w,
            gives,
            tt,
            kept_by noted noted_desk Stays s _ a gate door o (record {
              account = a;
              gate = gate;
              door = 0;
              is_open = record {
                words = refl;
                home = λ z. hall_stays s.homes a.books.hall (some y) (o.home z);
                away = λ z. out_stays (λ note. note.hall) s.views id a.owner v w (hall_part a.books.hall) at (o.away z) (λ e. e);
                desk = λ _. (y, d, set_here s.homes 1 (some y) (omega (arith, count)), at_home, subst (StandsFor d) mine.1 stands);
                desk_away = λ ne. absurd (ne refl);
                sound = o.sound;
                fits = each_set (Fits a gate 0) s.views id w apart here;
                placed = still_placed s.views a id v w o.placed at refl;
              };
            }) refl,
            refl,
          )

  -- ---- what a table asks of these steps

  pub halls_out : HallsAreTakenOut noted noted_desk (Lets noted noted_desk)
  halls_out slots id me taken one some_gate old = lets noted noted_desk Stays slots id me 1 (λ n. either (n == 0) taken n) (TakesOut noted noted_desk me) (halls_out_leads slots id me taken one some_gate old)

  pub desks_out : DesksAreTakenOut noted noted_desk (Lets noted noted_desk)
  desks_out slots id me taken one some_gate old = lets noted noted_desk Stays slots id me 2 (λ n. either (n == 0) taken n) (TakesDesk noted noted_desk me) (desks_out_leads slots id me taken one some_gate old)

  pub gates_marked : GatesAreMarked noted noted_desk (Lets noted noted_desk)
  gates_marked slots id me one old = lets noted noted_desk Stays slots id me 1 (λ n. either (n == 1) 2 n) (λ _ w. Marks me w) (gates_marked_leads slots id me one old)

  pub doors_marked : DoorsAreMarked noted noted_desk (Lets noted noted_desk)
  doors_marked slots id me one old = lets noted noted_desk Stays slots id me 2 (λ n. either (n == 1) 2 n) (λ _ w. Marks me w) (doors_marked_leads slots id me one old)

  pub halls_back : HallsAreGivenBack noted noted_desk (Lets noted noted_desk)
  halls_back slots id me v y others h one is old on at_home = lets noted noted_desk Stays slots id me 1 (λ _. 0) (λ _ w. GivesBack me w) (halls_back_leads slots id me v y others h one is old on at_home)

  pub desks_back : DesksAreGivenBack noted noted_desk (Lets noted noted_desk)
  desks_back slots id me v y others d part one is old on at_home stands = lets noted noted_desk Stays slots id me 2 (λ _. 0) (λ _ w. GivesDeskBack me w) (desks_back_leads slots id me v y others d part one is old on at_home stands)
