-- New passes, passes that meet, and passes that change their seats keep the rule.
use Rattle.std.proofs.Common.{◌≡◌, ◌≢◌, ℕ, ◌+◌, List, [], ◌∷◌, ◌++◌, length, set, false, inl, inr, Option, Some, None, ⊎_elim, refl, sym, ap, ◌∙◌, subst, arith}
use mathlib.Core.Option.{some}
use lib.ListN.{get_elem?}
use mathlib.Core.Logic.{dite}
use native.Mathlib.Decide.{ℕ_discrete}
use Rattle.std.specs.Prelude.{slice_set}
use Rattle.atomic_table.specs.Table.{State, keeps, Joins}
use Rattle.atomic_table.proofs.Lists.{set_else, set_here, at_last}
use Rattle.content_state.specs.Replay.{Begins}
use Rattle.content_state.specs.declared.commit.Commit.{Commit}
use Rattle.turn_rule.specs.declared.notes.HallPart.{HallPart}
use Rattle.turn_rule.specs.declared.notes.DeskNote.{DeskNote}
use Rattle.turn_rule.specs.declared.notes.PassNote.{PassNote}
use Rattle.turn_rule.specs.declared.notes.FounderNote.{FounderNote}
use Rattle.turn_rule.specs.declared.notes.Note.{Note}
use Rattle.turn_rule.specs.Logs.{hall_part, desk_part}
use Rattle.turn_rule.specs.Rule.{Account, Claims, IsAmong, Stands, Fits, IsOpen, IsFresh, Opened, founder_in}
use Rattle.turn_rule.specs.Steps.{bearing, founding, spent, with_passes, new_pass, longer, seeing, first_of, others_of, left_of, right_of, joined, Draws, Meets}
use Rattle.turn_laws.specs.Laws.{Stays, Leads, Lets, PassesAreDrawn, PassesMeet, PassesGetSeats, PassesJoinSeats, HallsStayAtSplits, HallsStayAtJoins}
use Rattle.turn_laws.specs.Words.{home, out}
use Rattle.turn_rule.proofs.Edits.{longer_is, begins_then}
use Rattle.turn_rule.proofs.Claims.{moved, moved_here, moved_else, at_below, at_one, stands_on, stands_longer, each_set, each_more, others_of_claims, claims_moved, claims_changed, claims_left, claims_new}
use Rattle.turn_rule.proofs.Books.{drawn, drawn_sound, seen_to, seeing_sound, own_in}
use Rattle.turn_rule.proofs.Accounts.{out_stays, out_longer, none_some, some_same, number_at, seated, booked, plain_fits, comes}
use Rattle.turn_laws.proofs.Opened.{K, is_opened, kept_by, Law, in_open, lets}

module _ {S : Type 0} (noted : S → Option HallPart) (noted_desk : S → Option DeskNote) where
  -- ---- new passes, and passes that meet

  pub passes_drawn_leads : PassesAreDrawn noted noted_desk (Leads noted noted_desk)
  passes_drawn_leads slots id me f one is = in_open noted noted_desk Stays slots id me (founding f, []) 0 (λ n. n) (λ m _ w. Draws m w) one is refl law
    where
      law : Law noted noted_desk Stays id (founding f, []) 0 (λ n. n) (λ _ w. Draws (founding f, []) w)
      law s a gate door o count at =
          let b = a.books in
          let mine = (o.fits id (founding f) at).founder f refl in
          let new = new_pass (founder_in b) in
          let n = length b.passes in
          let b' = drawn b in
          let a' : Account = record { books = b'; owner = a.owner; clerk = a.clerk; head = a.head; holder = moved a.holder n id } in
          let w : FounderNote → Note = λ k. record { fresh = false; hall = None; desk = None; founder = Some (record { made = k.made + 1; opened = k.opened }); passes = new_pass k ∷ [] } in
          let others = λ (j : ℕ) (u : Note) (ne : j ≢ id) (x : get_elem? s.views j ≡ some u). (let g = o.fits j u x in
          let r : Fits a' gate door j u = record { old = g.old; hall = g.hall; desk = g.desk; founder = λ q r. absurd (ne ((g.founder q r).0 ∙ sym mine.0)); passes = claims_new b.passes a.holder j id new u.passes g.passes } in r) in
          let placed = each_more (λ m x. Stands (set s.views id (w f)) (moved a.holder n id m) x) b.passes new
          (λ m x e. let below = at_below b.passes m x e in
          subst (λ (j : ℕ). Stands (set s.views id (w f)) j x) (sym (moved_else a.holder n id m (λ same. omega arith))) (stands_on s.views id (founding f) (w f) (a.holder m) x at (λ (none : IsAmong x []). absurd none) (o.placed m x e)))
          (comes s.views id (founding f) (w f) (moved a.holder n id n) new at (moved_here a.holder n id) (inl (ap new_pass (sym mine.1)))) in
          let here : Fits a' gate door id (w (founder_in b)) = record {
            old = refl;
            hall = λ q r. absurd (none_some q r);
            desk = λ q r. absurd (none_some q r);
            founder = λ q r. (mine.0, sym (some_same (founder_in b') q r));
            passes = (at_last b.passes new b.made o.sound.count, ap (moved a.holder n id) (sym o.sound.count) ∙ moved_here a.holder n id, tt, tt);
          } in (
            w f,
            keeps,
            tt,
            kept_by noted noted_desk Stays s _ a gate door o (record {
              account = a';
              gate = gate;
              door = door;
              is_open = record {
                words = refl;
                home = o.home;
                away = λ z. out_stays (λ note. note.hall) s.views id a.owner (founding f) (w f) (hall_part a.books.hall) at (o.away z) (λ e. e);
                desk = o.desk;
                desk_away = λ z. out_stays (λ note. note.desk) s.views id a.clerk (founding f) (w f) (desk_part a.books.hall) at (o.desk_away z) (λ e. e);
                sound = drawn_sound b o.sound;
                fits = each_set (Fits a' gate door) s.views id (w f) others (subst (λ (k : FounderNote). Fits a' gate door id (w k)) (sym mine.1) here);
                placed = placed;
              };
            }) refl,
            (f, refl, refl),
          )

  pub passes_met_leads : PassesMeet noted noted_desk (Leads noted noted_desk)
  passes_met_leads slots id me p q one is = in_open noted noted_desk Stays slots id me (with_passes (p ∷ q ∷ []) spent, []) 0 (λ n. n) (λ m _ w. Meets m w) one is refl law
    where
      law : Law noted noted_desk Stays id (with_passes (p ∷ q ∷ []) spent, []) 0 (λ n. n) (λ _ w. Meets (with_passes (p ∷ q ∷ []) spent, []) w)
      law s a gate door o count at =
          let b = a.books in
          let c = (o.fits id (with_passes (p ∷ q ∷ []) spent) at).passes in
          let d = c.3 in
          let l = longer p.seen q.seen in
          let p' = seeing l p in
          let q' = seeing l q in
          let ps = set b.passes p.number p' in
          let of_p = o.sound.each p.number p c.0 in
          let of_q = o.sound.each q.number q d.0 in
          let both = longer_is p.seen q.seen b.hall.log of_p.seen of_q.seen in
          let seen : Begins l b.hall.log = ⊎_elim (λ (e : l ≡ p.seen). subst (λ (z : List Commit). Begins z b.hall.log) (sym e) of_p.seen) (λ (e : l ≡ q.seen). subst (λ (z : List Commit). Begins z b.hall.log) (sym e) of_q.seen) both.one in
          let whole = begins_then b.opened.log p.seen l of_p.whole both.first in
          let there : get_elem? ps q.number ≡ some q = set_else b.passes p.number q.number p' c.2.0 ∙ d.0 in
          let half = seen_to l p b in
          let b' = seen_to l q half in
          let a' = booked a b' in
          let w = with_passes (p' ∷ q' ∷ []) spent in
          let others = λ (j : ℕ) (u : Note) (ne : j ≢ id) (x : get_elem? s.views j ≡ some u). (let g = o.fits j u x in
          let r : Fits a' gate door j u = record {
            old = g.old;
            hall = g.hall;
            desk = g.desk;
            founder = g.founder;
            passes = claims_changed ps a.holder j q.number q' u.passes (λ e. ne (sym e ∙ d.1)) (claims_changed b.passes a.holder j p.number p' u.passes (λ e. ne (sym e ∙ c.1)) g.passes);
          } in r) in
          let v = with_passes (p ∷ q ∷ []) spent in
          let one : (m : ℕ) (x : PassNote) → m ≢ p.number → get_elem? b.passes m ≡ some x → m ≢ q.number → Stands (set s.views id w) (a.holder m) x =
          λ m x ne e nq. stands_on s.views id v w (a.holder m) x at
          (⊎_elim (λ (same : x ≡ p). absurd (ne (number_at b m x p o.sound e same))) (⊎_elim (λ (same : x ≡ q). absurd (nq (number_at b m x q o.sound e same))) (λ (none : IsAmong x []). absurd none))) (o.placed m x e) in
          let first = each_set (λ m x. m ≢ q.number → Stands (set s.views id w) (a.holder m) x) b.passes p.number p' one (λ _. comes s.views id v w (a.holder p.number) p' at c.1 (inl refl)) in
          let placed = each_set (λ m x. Stands (set s.views id w) (a.holder m) x) ps q.number q' (λ m x ne e. first m x e ne) (comes s.views id v w (a.holder q.number) q' at d.1 (inr (inl refl))) in
          let here = plain_fits a' gate door id (p' ∷ q' ∷ []) (
            set_else ps q.number p.number q' (λ e. c.2.0 (sym e)) ∙ set_here b.passes p.number p' (at_below b.passes p.number p c.0),
            c.1,
            c.2,
            (set_here ps q.number q' (at_below ps q.number q there), d.1, tt, tt),
          ) in (
            w,
            keeps,
            tt,
            kept_by noted noted_desk Stays s _ a gate door o (record {
              account = a';
              gate = gate;
              door = door;
              is_open = record {
                words = refl;
                home = o.home;
                away = λ z. out_stays (λ note. note.hall) s.views id a.owner v w (hall_part a.books.hall) at (o.away z) (λ e. e);
                desk = o.desk;
                desk_away = λ z. out_stays (λ note. note.desk) s.views id a.clerk v w (desk_part a.books.hall) at (o.desk_away z) (λ e. e);
                sound = seeing_sound half q l (seeing_sound b p l o.sound c.0 seen whole) there seen whole;
                fits = each_set (Fits a' gate door) s.views id w others here;
                placed = placed;
              };
            }) refl,
            (refl, (both.first, both.second, own_in b p l o.sound c.0 whole seen, own_in b q l o.sound d.0 whole seen)),
          )

  -- what a table asks of these steps
  pub passes_drawn : PassesAreDrawn noted noted_desk (Lets noted noted_desk)
  passes_drawn slots id me f one is = lets noted noted_desk Stays slots id me 0 (λ n. n) (λ _ w. Draws me w) (passes_drawn_leads slots id me f one is)

  pub passes_met : PassesMeet noted noted_desk (Lets noted noted_desk)
  passes_met slots id me p q one is = lets noted noted_desk Stays slots id me 0 (λ n. n) (λ _ w. Meets me w) (passes_met_leads slots id me p q one is)

  -- ---- passes change their seats

  -- what a seat says after a pass of another seat has moved
  moved_other : (a : Account) (gate door j n k : ℕ) (u : Note) → a.holder n ≢ j → Fits a gate door j u → Fits (seated a (moved a.holder n k)) gate door j u
  moved_other a gate door j n k u ne g = record { old = g.old; hall = g.hall; desk = g.desk; founder = g.founder; passes = claims_left a.books.passes a.holder j n k u.passes ne g.passes }

  pub passes_seated : PassesGetSeats noted noted_desk
  passes_seated id v q ls old is s h at = ⊎_elim (λ (x : IsFresh noted noted_desk s). absurd (is_opened noted noted_desk s id v old at x)) (λ (x : Opened noted noted_desk s). law x.account x.gate x.door x.is_open) h
    where
      cut : State S Note
      cut = record { words = s.words; homes = s.homes; views = slice_set s.views id (left_of v) ++ right_of v ∷ [] }

      law : (a : Account) (gate door : ℕ) → IsOpen noted noted_desk s a gate door → K noted noted_desk cut
      law a gate door o =
          let b = a.books in
          let f = o.fits id v at in
          let c = subst (Claims b.passes a.holder id) is f.passes in
          let n = q.number in
          let k = length (set s.views id (left_of v)) in
          let a' = seated a (moved a.holder n k) in
          let left : Fits a' gate door id (with_passes ls v) = record { old = f.old; hall = f.hall; desk = f.desk; founder = f.founder; passes = claims_moved b.passes a.holder id n k ls c.2 c.3 } in
          let right = plain_fits a' gate door k (q ∷ []) (c.0, moved_here a.holder n k, tt, tt) in
          let others = each_set (Fits a' gate door) s.views id (left_of v)
          (λ j u ne x. moved_other a gate door j n k u (λ e. ne (sym e ∙ c.1)) (o.fits j u x))
          (subst (λ (l : List PassNote). Fits a' gate door id (with_passes (others_of l) v)) (sym is) left) in
          let views = set s.views id (left_of v) in
          let gone = λ (m : ℕ) (x : PassNote) (same : m ≡ n) (e : get_elem? b.passes m ≡ some x). (let one : q ≡ x = at_one b.passes n q x c.0 (ap (get_elem? b.passes) (sym same) ∙ e) in
          let among = subst (λ (l : List PassNote). IsAmong q (first_of l)) (sym is) (inl refl) in
          let k_is : k ≡ moved a.holder n k m = sym (ap (moved a.holder n k) same ∙ moved_here a.holder n k) in
          let stands : Stands (views ++ right_of v ∷ []) k q = (right_of v, at_last views (right_of v) k refl, among) in
          subst (λ (t : ℕ × PassNote). Stands (views ++ right_of v ∷ []) t.0 t.1) (λ i. (k_is i, one i)) stands) in
          let left_there = λ (m : ℕ) (x : PassNote) (ne : m ≢ n) (e : get_elem? b.passes m ≡ some x). (let keep = subst (λ (l : List PassNote). IsAmong x l → IsAmong x (others_of l)) (sym is) (⊎_elim (λ (same : x ≡ q). absurd (ne (number_at b m x q o.sound e same))) (λ (r : IsAmong x ls). r)) in
          subst (λ (j : ℕ). Stands (views ++ right_of v ∷ []) j x) (sym (moved_else a.holder n k m ne)) (stands_longer views (right_of v ∷ []) (a.holder m) x (stands_on s.views id v (left_of v) (a.holder m) x at keep (o.placed m x e)))) in
          let placed = λ (m : ℕ) (x : PassNote) (e : get_elem? b.passes m ≡ some x). dite (ℕ_discrete m n) (λ same. gone m x same e) (λ ne. left_there m x ne e) in
          inr (record {
            account = a';
            gate = gate;
            door = door;
            is_open = record {
              words = o.words;
              home = o.home;
              away = λ z. out_longer (λ note. note.hall) views (right_of v ∷ []) a.owner (hall_part b.hall) (out_stays (λ note. note.hall) s.views id a.owner v (left_of v) (hall_part b.hall) at (o.away z) (λ e. e));
              desk = o.desk;
              desk_away = λ z. out_longer (λ note. note.desk) views (right_of v ∷ []) a.clerk (desk_part b.hall) (out_stays (λ note. note.desk) s.views id a.clerk v (left_of v) (desk_part b.hall) at (o.desk_away z) (λ e. e));
              sound = o.sound;
              fits = each_more (Fits a' gate door) (set s.views id (left_of v)) (right_of v) others (subst (λ (l : List PassNote). Fits a' gate door k (with_passes (first_of l) spent)) (sym is) right);
              placed = placed;
            };
          })

  pub passes_joined : PassesJoinSeats noted noted_desk
  passes_joined id v other more q old is = subst (λ (u : Note). Joins (K noted noted_desk) id v other u (joined v u) spent) (sym is) here
    where
      after : State S Note → State S Note
      after s = record { words = s.words; homes = s.homes; views = slice_set (slice_set s.views id (joined v (bearing q))) other spent }

      law : (s : State S Note) (a : Account) (gate door : ℕ) → IsOpen noted noted_desk s a gate door → get_elem? s.views id ≡ some v → other ≢ id → get_elem? (slice_set s.views id (joined v (bearing q))) other ≡ some (bearing q) → K noted noted_desk (after s)
      law s a gate door o at differ there =
          let b = a.books in
          let w = joined v (bearing q) in
          let n = q.number in
          let f = o.fits id v at in
          let c = (o.fits other (bearing q) (sym (set_else s.views id other w differ) ∙ there)).passes in
          let a' = seated a (moved a.holder n id) in
          let apart = others_of_claims b.passes a.holder id n v.passes (λ e. differ (sym c.1 ∙ e)) f.passes in
          let mine : Fits a' gate door id w = record { old = f.old; hall = f.hall; desk = f.desk; founder = f.founder; passes = (c.0, moved_here a.holder n id, apart, claims_moved b.passes a.holder id n id v.passes apart f.passes) } in
          let first = each_set (λ j u. j ≢ other → Fits a' gate door j u) s.views id w (λ j u _ x ne. moved_other a gate door j n id u (λ e. ne (sym e ∙ c.1)) (o.fits j u x)) (λ _. mine) in
          let views = set (set s.views id w) other spent in
          let come = λ (m : ℕ) (x : PassNote) (same : m ≡ n) (e : get_elem? b.passes m ≡ some x). (let one : q ≡ x = at_one b.passes n q x c.0 (ap (get_elem? b.passes) (sym same) ∙ e) in
          let id_is : id ≡ moved a.holder n id m = sym (ap (moved a.holder n id) same ∙ moved_here a.holder n id) in
          let stands : Stands views id q = (w, set_else (set s.views id w) other id spent (λ z. differ (sym z)) ∙ set_here s.views id w (at_below s.views id v at), inl refl) in
          subst (λ (t : ℕ × PassNote). Stands views t.0 t.1) (λ i. (id_is i, one i)) stands) in
          let stay = λ (m : ℕ) (x : PassNote) (ne : m ≢ n) (e : get_elem? b.passes m ≡ some x). subst (λ (j : ℕ). Stands views j x) (sym (moved_else a.holder n id m ne))
          (stands_on (set s.views id w) other (bearing q) spent (a.holder m) x there (⊎_elim (λ (same : x ≡ q). absurd (ne (number_at b m x q o.sound e same))) (λ (none : IsAmong x []). none)) (stands_on s.views id v w (a.holder m) x at (λ (r : IsAmong x v.passes). inr r) (o.placed m x e))) in
          let placed = λ (m : ℕ) (x : PassNote) (e : get_elem? b.passes m ≡ some x). dite (ℕ_discrete m n) (λ same. come m x same e) (λ ne. stay m x ne e) in
          inr (record {
            account = a';
            gate = gate;
            door = door;
            is_open = record {
              words = o.words;
              home = o.home;
              away = λ z. out_stays (λ note. note.hall) (set s.views id w) other a.owner (bearing q) spent (hall_part a.books.hall) there (out_stays (λ note. note.hall) s.views id a.owner v w (hall_part a.books.hall) at (o.away z) (λ e. e)) (λ e. e);
              desk = o.desk;
              desk_away = λ z. out_stays (λ note. note.desk) (set s.views id w) other a.clerk (bearing q) spent (desk_part a.books.hall) there (out_stays (λ note. note.desk) s.views id a.clerk v w (desk_part a.books.hall) at (o.desk_away z) (λ e. e)) (λ e. e);
              sound = o.sound;
              fits = each_set (Fits a' gate door) (set s.views id w) other spent (λ j u ne x. first j u x ne) (plain_fits a' gate door other [] tt);
              placed = placed;
            };
          })

      here : Joins (K noted noted_desk) id v other (bearing q) (joined v (bearing q)) spent
      here s h at differ there = ⊎_elim (λ (x : IsFresh noted noted_desk s). absurd (is_opened noted noted_desk s id v old at x)) (λ (x : Opened noted noted_desk s). law s x.account x.gate x.door x.is_open at differ there) h

  -- ---- the hall stays where passes change their seats

  pub stay_at_splits : HallsStayAtSplits noted noted_desk
  stay_at_splits s id v at hall (home value shut there is) = (hall, home value shut there is, refl)
  stay_at_splits s id v at hall (out j u sits has) =
      let left = set s.views id (left_of v) in
      let held = out_longer (λ note. note.hall) left (right_of v ∷ []) j hall (out_stays (λ note. note.hall) s.views id j v (left_of v) hall at (u, sits, has) (λ e. e)) in
      (hall, out j held.0 held.1 held.2, refl)

  pub stay_at_joins : HallsStayAtJoins noted noted_desk
  stay_at_joins s id other v more q at is there hall (home value shut lies held) = (hall, home value shut lies held, refl)
  stay_at_joins s id other v more q at is there hall (out j u sits has) =
      let one = out_stays (λ note. note.hall) s.views id j v (joined v more) hall at (u, sits, has) (λ e. e) in
      let held = out_stays (λ note. note.hall) (set s.views id (joined v more)) other j more spent hall there one (λ e. absurd (none_some hall (ap (λ (n : Note). n.hall) (sym is) ∙ e))) in
      (hall, out j held.0 held.1 held.2, refl)
