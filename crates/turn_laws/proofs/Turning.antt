-- What a pass does with the hall and the desk that are out keeps the rule.
use Rattle.std.proofs.Common.{◌≡◌, ◌≢◌, ℕ, ◌+◌, ◌%◌, ◌^◌, ◌≤◌, List, [], ◌∷◌, ◌++◌, length, set, map, true, inl, Option, Some, ⊎_elim, refl, sym, ap, ◌∙◌, subst, arith, length-append, mod-eq_of_lt, le_refl}
use Rattle.std.specs.List.{All}
use mathlib.Core.Option.{some}
use lib.ListN.{get_elem?}
use Rattle.std.proofs.lemmas.List.Elements.{All-nil, All-cons}
use Rattle.atomic_table.specs.Table.{State, keeps}
use Rattle.atomic_table.proofs.Lists.{set_here}
use Rattle.content_state.specs.declared.commit.Commit.{Commit}
use Rattle.turn_rule.specs.declared.notes.TallyNote.{TallyNote}
use Rattle.turn_rule.specs.declared.notes.HallNote.{HallNote}
use Rattle.turn_rule.specs.declared.notes.HallPart.{HallPart}
use Rattle.turn_rule.specs.declared.notes.DeskPart.{DeskPart}
use Rattle.turn_rule.specs.declared.notes.DeskNote.{DeskNote}
use Rattle.turn_rule.specs.declared.notes.PassNote.{PassNote}
use Rattle.turn_rule.specs.declared.notes.Note.{Note}
use Rattle.turn_rule.specs.Logs.{hall_part, desk_part, whole_of}
use Rattle.turn_rule.specs.Rule.{Books, Account, AreSound, Claims, IsAmong, Stands, Fits, HasOut, HasHall, HasDesk, IsOpen}
use Rattle.turn_rule.specs.Steps.{bearing, with_hall, with_desk, with_passes, zeros, raised, after_turn, after_look, after_forgetting, after_fault, with_faults, front, Turns, Knows, KnowsHall, KnowsDesk, Looks, Follows, FollowsForgetting, TellsFaults}
use Rattle.turn_laws.specs.Laws.{Stays, Becomes, Leads, Lets, LooksAreCounted, LogsAreFollowed, EditsAreForgotten, FaultsAreTold}
use Rattle.turn_rule.proofs.Edits.{front_snoc}
use Rattle.turn_rule.proofs.Claims.{at_below, stands_on, each_set, claims_changed}
use Rattle.turn_rule.proofs.Books.{turned, Goes, goes_sound, turns_go, still_goes, forgotten, forgets_go, knows, of_hall, of_desk}
use Rattle.turn_rule.proofs.Accounts.{out_stays, out_here, none_some, some_same, number_at, booked, comes}
use Rattle.turn_laws.proofs.Opened.{kept_by, Law, in_open, lets}

module _ {S : Type 0} (noted : S → Option HallPart) (noted_desk : S → Option DeskNote) where
  -- what another seat says after a turn of a pass that has hall and desk
  turn_other : (a : Account) (gate door id j : ℕ) (u : Note) (p p' : PassNote) (h : HallNote) (past : List Commit) → j ≢ id → a.holder p.number ≡ id → id ≡ a.owner → id ≡ a.clerk → Fits a gate door j u
      → Fits (booked a (record { opened = a.books.opened; hall = h; past = past; made = a.books.made; passes = set a.books.passes p.number p' })) gate door j u
  turn_other a gate door id j u p p' h past ne held owns rules g = record {
    old = g.old;
    hall = λ q r. absurd (ne ((g.hall q r).0 ∙ sym owns));
    desk = λ q r. absurd (ne ((g.desk q r).0 ∙ sym rules));
    founder = g.founder;
    passes = claims_changed a.books.passes a.holder j p.number p' u.passes (λ e. ne (sym e ∙ held)) g.passes;
  }

  -- The state once the seat of a pass says these parts and this pass, whose books go so.
  gone : (s : State S Note) (a : Account) (gate door id : ℕ) (v w : Note) (p p' : PassNote) (h : HallNote) (commits : List Commit) (more : TallyNote)
      → IsOpen noted noted_desk s a gate door → get_elem? s.views id ≡ some v → v.passes ≡ p ∷ [] → w.passes ≡ p' ∷ [] → p'.number ≡ p.number → Goes more a.books p p' h commits
      → (gate ≡ 0 → HasHall noted noted_desk s.homes h) → (gate ≢ 0 → HasOut (λ note. note.hall) (set s.views id w) a.owner (hall_part h))
      → (door ≡ 0 → HasDesk noted noted_desk s.homes h) → (door ≢ 0 → HasOut (λ note. note.desk) (set s.views id w) a.clerk (desk_part h))
      → Fits (booked a (turned a.books p p' h commits)) gate door id (with_passes [] w)
      → ((j : ℕ) (u : Note) → j ≢ id → get_elem? s.views j ≡ some u → Fits (booked a (turned a.books p p' h commits)) gate door j u)
      → (n : ℕ) → n ≡ length h.log
      → IsOpen noted noted_desk (record { words = n ∷ gate ∷ door ∷ []; homes = s.homes; views = set s.views id w }) (booked a (turned a.books p p' h commits)) gate door
  gone s a gate door id v w p p' h commits more o at is after number goes home away desk desk_away bare others n word =
      let b = a.books in
      let c = subst (Claims b.passes a.holder id) is (o.fits id v at).passes in
      let there = set_here b.passes p.number p' (at_below b.passes p.number p c.0) in
      let a' = booked a (turned b p p' h commits) in
      let mine : Fits a' gate door id w = record { old = bare.old; hall = bare.hall; desk = bare.desk; founder = bare.founder; passes = subst (Claims (set b.passes p.number p') a.holder id) (sym after) (ap (get_elem? (set b.passes p.number p')) number ∙ there, ap a.holder number ∙ c.1, tt, tt) } in
      record {
        words = ap (λ (m : ℕ). m ∷ gate ∷ door ∷ []) word;
        home = home;
        away = away;
        desk = desk;
        desk_away = desk_away;
        sound = goes_sound more b p p' h commits o.sound c.0 goes;
        fits = each_set (Fits a' gate door) s.views id w others mine;
        placed = each_set (λ m x. Stands (set s.views id w) (a.holder m) x) b.passes p.number p'
            (λ m x ne e. stands_on s.views id v w (a.holder m) x at (λ (t : IsAmong x v.passes). absurd (⊎_elim (λ (same : x ≡ p). ne (number_at b m x p o.sound e same)) (λ (none : IsAmong x []). none) (subst (IsAmong x) is t))) (o.placed m x e))
            (comes s.views id v w (a.holder p.number) p' at c.1 (subst (IsAmong p') (sym after) (inl refl)));
      }

  -- what the pass knows then
  knows_then : (b : Books) (p p' : PassNote) (h : HallNote) (commits : List Commit) (more : TallyNote) → AreSound b → get_elem? b.passes p.number ≡ some p → p'.number ≡ p.number → Goes more b p p' h commits → Knows h p'
  knows_then b p p' h commits more s at number goes =
      knows (turned b p p' h commits) p' (goes_sound more b p p' h commits s at goes) (ap (get_elem? (set b.passes p.number p')) number ∙ set_here b.passes p.number p' (at_below b.passes p.number p at))

  -- a turn that leaves log and pending edit as they were
  pub looks_counted_leads : LooksAreCounted noted noted_desk (Leads noted noted_desk)
  looks_counted_leads more slots id me p dk y others h h' one is at_home turn =
      in_open noted noted_desk (Becomes h h') slots id me (with_hall (Some h) (with_desk dk (bearing p)), (0, y) ∷ others) 0 (λ n. n) (λ m _ w. Looks noted noted_desk more m w) one is refl law
    where
      v : Note
      v = with_hall (Some h) (with_desk dk (bearing p))

      law : Law noted noted_desk (Becomes h h') id (v, (0, y) ∷ others) 0 (λ n. n) (λ _ w. Looks noted noted_desk more (v, (0, y) ∷ others) w)
      law s a gate door o count at =
          let b = a.books in
          let f = o.fits id v at in
          let mine = f.hall h refl in
          let c = f.passes in
          let r = o.sound.each p.number p c.0 in
          let whole : HallNote = record { loaded = b.hall.loaded; log = b.hall.log; pending = b.hall.pending; faults = b.hall.faults; tally = raised more b.hall.tally; bins = h'.bins } in
          let part : h' ≡ hall_part whole = λ i. record {
            base = (turn.base ∙ ap (λ (x : HallPart). x.base) mine.1) i;
            log = (turn.log ∙ ap (λ (x : HallPart). x.log) mine.1) i;
            pending = (turn.pending ∙ ap (λ (x : HallPart). x.pending) mine.1) i;
            tally = (turn.tally ∙ ap (λ (x : HallPart). raised more x.tally) mine.1) i;
            bins = h'.bins;
          } in
          let p' = after_look more h (hall_part whole) p in
          let goes : Goes more b p p' whole [] = still_goes more b p p.faults h (hall_part whole) whole o.sound c.0 refl refl refl (le_refl b.hall.faults) (λ _. refl) refl (le_refl p.faults) r.faults_to in
          let w = with_hall (Some (hall_part whole)) (with_passes (p' ∷ []) v) in
          let a' = booked a (turned b p p' whole []) in
          let bare : Fits a' gate door id (with_passes [] w) = record { old = refl; hall = λ q e. (mine.0, sym (some_same (hall_part whole) q e), mine.2); desk = f.desk; founder = λ q e. absurd (none_some q e); passes = tt } in
          let apart = λ (j : ℕ) (u : Note) (ne : j ≢ id) (x : get_elem? s.views j ≡ some u). (let g = o.fits j u x in
          let t : Fits a' gate door j u = record { old = g.old; hall = λ q e. absurd (ne ((g.hall q e).0 ∙ sym mine.0)); desk = g.desk; founder = g.founder; passes = claims_changed b.passes a.holder j p.number p' u.passes (λ e. ne (sym e ∙ c.1)) g.passes } in t) in
          let knows_it = of_hall whole p' (knows_then b p p' whole [] more o.sound c.0 refl goes) in (
            w,
            keeps,
            tt,
            kept_by noted noted_desk (Becomes h h') s _ a gate door o (record { account = a'; gate = gate; door = door; is_open = gone s a gate door id v w p p' whole [] more o at refl refl refl goes (λ z. absurd (mine.2 z)) (λ _. out_here (λ note. note.hall) s.views id a.owner v w (hall_part whole) at mine.0 refl) o.desk (λ z. out_stays (λ note. note.desk) s.views id a.clerk v w (desk_part a.books.hall) at (o.desk_away z) (λ e. e)) bare apart (length b.hall.log) refl }) (sym mine.1, sym part),
            (h, hall_part whole, refl, at_home ∙ ap Some part, refl, All-cons (KnowsHall (hall_part whole)) p' [] knows_it (All-nil (KnowsHall (hall_part whole)))),
          )

  -- a turn of a pass that has the desk too
  pub logs_follow_leads : LogsAreFollowed noted noted_desk (Leads noted noted_desk)
  logs_follow_leads hands slots id me p d y others h h' commits grown one is at_home turn count_is small =
      in_open noted noted_desk (Becomes h h') slots id me (with_hall (Some h) (with_desk (Some d) (bearing p)), (0, y) ∷ others) 0 (λ n. (n + grown) % 2 ^ 64) (λ m _ w. Follows noted noted_desk hands m w) one is refl law
    where
      v : Note
      v = with_hall (Some h) (with_desk (Some d) (bearing p))

      law : Law noted noted_desk (Becomes h h') id (v, (0, y) ∷ others) 0 (λ n. (n + grown) % 2 ^ 64) (λ _ w. Follows noted noted_desk hands (v, (0, y) ∷ others) w)
      law s a gate door o count at =
          let b = a.books in
          let f = o.fits id v at in
          let mine = f.hall h refl in
          let desk = f.desk d refl in
          let c = f.passes in
          let whole = whole_of h' d in
          let before : whole_of h d ≡ b.hall = λ i. whole_of (mine.1 i) (desk.1 i) in
          let turns = subst (λ (g : HallNote). Turns zeros hands p.number g whole commits) before turn.turns in
          let p' = after_turn zeros hands whole p in
          let goes : Goes zeros b p p' whole commits = turns_go zeros hands b p whole commits o.sound c.0 turns in
          let part : h' ≡ hall_part whole = λ i. record {
            base = (turn.base ∙ ap (λ (x : HallPart). x.base) mine.1 ∙ ap (λ (x : DeskPart). x.loaded.base) (sym desk.1)) i;
            log = h'.log;
            pending = h'.pending;
            tally = h'.tally;
            bins = h'.bins;
          } in
          let w = with_hall (Some h') (with_desk (Some (desk_part whole)) (with_passes (p' ∷ []) v)) in
          let a' = booked a (turned b p p' whole commits) in
          let length_is : length h'.log ≡ length b.hall.log + length commits = ap length turns.log ∙ length-append b.hall.log commits in
          let word : (length b.hall.log + grown) % 2 ^ 64 ≡ length h'.log = ap (λ (n : ℕ). (length b.hall.log + n) % 2 ^ 64) count_is ∙ ap (λ (n : ℕ). n % 2 ^ 64) (sym length_is) ∙ mod-eq_of_lt small in
          let bare : Fits a' gate door id (with_passes [] w) = record { old = refl; hall = λ q e. (mine.0, sym (some_same h' q e) ∙ part, mine.2); desk = λ q e. (desk.0, sym (some_same (desk_part whole) q e), desk.2); founder = λ q e. absurd (none_some q e); passes = tt } in
          let apart = λ (j : ℕ) (u : Note) (ne : j ≢ id) (x : get_elem? s.views j ≡ some u). turn_other a gate door id j u p p' whole (b.past ++ commits) ne c.1 mine.0 desk.0 (o.fits j u x) in (
            w,
            keeps,
            tt,
            kept_by noted noted_desk (Becomes h h') s _ a gate door o (record { account = a'; gate = gate; door = door; is_open = gone s a gate door id v w p p' whole commits zeros o at refl refl refl goes (λ z. absurd (mine.2 z)) (λ _. out_here (λ note. note.hall) s.views id a.owner v w (hall_part whole) at mine.0 (ap Some part)) (λ z. absurd (desk.2 z)) (λ _. out_here (λ note. note.desk) s.views id a.clerk v w (desk_part whole) at desk.0 refl) bare apart ((length b.hall.log + grown) % 2 ^ 64) word }) (sym mine.1, sym part),
            (h', d, at_home, refl, refl, All-cons (Knows whole) p' [] (knows_then b p p' whole commits zeros o.sound c.0 refl goes) (All-nil (Knows whole))),
          )

  -- the edit that was handed in last is forgotten
  pub edits_forgotten_leads : EditsAreForgotten noted noted_desk (Leads noted noted_desk)
  edits_forgotten_leads slots id me p handed commit d y others h h' one is at_home handed_is forgets =
      in_open noted noted_desk (Becomes h h') slots id me (with_hall (Some h) (with_desk (Some d) (bearing p)), (0, y) ∷ others) 0 (λ n. n) (λ m _ w. FollowsForgetting noted noted_desk m w) one is refl law
    where
      v : Note
      v = with_hall (Some h) (with_desk (Some d) (bearing p))

      law : Law noted noted_desk (Becomes h h') id (v, (0, y) ∷ others) 0 (λ n. n) (λ _ w. FollowsForgetting noted noted_desk (v, (0, y) ∷ others) w)
      law s a gate door o count at =
          let b = a.books in
          let f = o.fits id v at in
          let mine = f.hall h refl in
          let desk = f.desk d refl in
          let c = f.passes in
          let whole = whole_of h' d in
          let front_is : handed ≡ front p.handed = sym (ap front handed_is ∙ front_snoc handed commit) in
          let waits : b.hall.pending ≡ Some commit = ap (λ (x : DeskPart). x.pending) (sym desk.1) ∙ forgets.pending in
          let whole_is : forgotten b.hall ≡ whole = λ i. record {
            loaded = (ap (λ (x : DeskPart). x.loaded) (sym desk.1)) i;
            log = (ap (λ (x : HallPart). x.log) (sym mine.1) ∙ ap (λ (x : HallPart). x.log) (sym forgets.new_is)) i;
            pending = ap (λ (x : HallPart). x.pending) (sym forgets.new_is) i;
            faults = (ap (λ (x : DeskPart). x.faults) (sym desk.1)) i;
            tally = (ap (λ (x : HallPart). x.tally) (sym mine.1) ∙ ap (λ (x : HallPart). x.tally) (sym forgets.new_is)) i;
            bins = (ap (λ (x : HallPart). x.bins) (sym mine.1) ∙ ap (λ (x : HallPart). x.bins) (sym forgets.new_is)) i;
          } in
          let p' = after_forgetting (front p.handed) whole p in
          let went = forgets_go b p handed commit o.sound c.0 waits forgets.own handed_is in
          let goes : Goes zeros b p p' whole [] = subst (λ (t : HallNote × List Commit). Goes zeros b p (after_forgetting t.1 t.0 p) t.0 []) (λ i. (whole_is i, front_is i)) went in
          let part : h' ≡ hall_part whole = λ i. record {
            base = (ap (λ (x : HallPart). x.base) forgets.new_is ∙ ap (λ (x : HallPart). x.base) mine.1 ∙ ap (λ (x : DeskPart). x.loaded.base) (sym desk.1)) i;
            log = h'.log;
            pending = h'.pending;
            tally = h'.tally;
            bins = h'.bins;
          } in
          let w = with_hall (Some h') (with_desk (Some (desk_part whole)) (with_passes (p' ∷ []) v)) in
          let a' = booked a (turned b p p' whole []) in
          let word : length b.hall.log ≡ length h'.log = ap (λ (x : HallNote). length x.log) whole_is in
          let bare : Fits a' gate door id (with_passes [] w) = record { old = refl; hall = λ q e. (mine.0, sym (some_same h' q e) ∙ part, mine.2); desk = λ q e. (desk.0, sym (some_same (desk_part whole) q e), desk.2); founder = λ q e. absurd (none_some q e); passes = tt } in
          let apart = λ (j : ℕ) (u : Note) (ne : j ≢ id) (x : get_elem? s.views j ≡ some u). turn_other a gate door id j u p p' whole (b.past ++ []) ne c.1 mine.0 desk.0 (o.fits j u x) in (
            w,
            keeps,
            tt,
            kept_by noted noted_desk (Becomes h h') s _ a gate door o (record { account = a'; gate = gate; door = door; is_open = gone s a gate door id v w p p' whole [] zeros o at refl refl refl goes (λ z. absurd (mine.2 z)) (λ _. out_here (λ note. note.hall) s.views id a.owner v w (hall_part whole) at mine.0 (ap Some part)) (λ z. absurd (desk.2 z)) (λ _. out_here (λ note. note.desk) s.views id a.clerk v w (desk_part whole) at desk.0 refl) bare apart (length b.hall.log) word }) (sym mine.1, sym part),
            (h', d, at_home, refl, refl, All-cons (Knows whole) p' [] (knows_then b p p' whole [] zeros o.sound c.0 refl goes) (All-nil (Knows whole))),
          )

  -- how often the keeper has failed is told
  pub faults_told_leads : FaultsAreTold noted noted_desk (Leads noted noted_desk)
  faults_told_leads slots id me p part y dn one is noted_is rise steady =
      in_open noted noted_desk Stays slots id me (with_desk (Some part) (bearing p), (1, y) ∷ []) 0 (λ n. n) (λ m _ w. TellsFaults noted noted_desk m w) one is refl law
    where
      v : Note
      v = with_desk (Some part) (bearing p)

      law : Law noted noted_desk Stays id (v, (1, y) ∷ []) 0 (λ n. n) (λ _ w. TellsFaults noted noted_desk (v, (1, y) ∷ []) w)
      law s a gate door o count at =
          let b = a.books in
          let f = o.fits id v at in
          let desk = f.desk part refl in
          let c = f.passes in
          let r = o.sound.each p.number p c.0 in
          let whole : HallNote = record { loaded = b.hall.loaded; log = b.hall.log; pending = b.hall.pending; faults = dn.faults; tally = b.hall.tally; bins = b.hall.bins } in
          let before : part.faults ≡ b.hall.faults = ap (λ (x : DeskPart). x.faults) desk.1 in
          let up : b.hall.faults ≤ dn.faults = subst (λ (n : ℕ). n ≤ dn.faults) before rise in
          let calm : b.hall.loaded.steadfast ≡ true → dn.faults ≡ b.hall.faults = λ e. steady (ap (λ (x : DeskPart). x.loaded.steadfast) desk.1 ∙ e) ∙ before in
          let to : p.faults ≤ dn.faults = (let low = r.faults_to in omega arith) in
          let told = with_faults dn.faults part in
          let told_is : told ≡ desk_part whole = λ i. with_faults dn.faults (desk.1 i) in
          let p' = after_fault dn.faults (desk_part whole) p in
          let goes : Goes zeros b p p' whole [] = still_goes zeros b p dn.faults p.found p.left whole o.sound c.0 refl refl refl up calm refl to (le_refl dn.faults) in
          let w = with_desk (Some (desk_part whole)) (with_passes (p' ∷ []) v) in
          let a' = booked a (turned b p p' whole []) in
          let bare : Fits a' gate door id (with_passes [] w) = record { old = refl; hall = λ q e. absurd (none_some q e); desk = λ q e. (desk.0, sym (some_same (desk_part whole) q e), desk.2); founder = λ q e. absurd (none_some q e); passes = tt } in
          let apart = λ (j : ℕ) (u : Note) (ne : j ≢ id) (x : get_elem? s.views j ≡ some u). (let g = o.fits j u x in
          let t : Fits a' gate door j u = record { old = g.old; hall = g.hall; desk = λ q e. absurd (ne ((g.desk q e).0 ∙ sym desk.0)); founder = g.founder; passes = claims_changed b.passes a.holder j p.number p' u.passes (λ e. ne (sym e ∙ c.1)) g.passes } in t) in
          let knows_it = of_desk whole p' (knows_then b p p' whole [] zeros o.sound c.0 refl goes) in (
            w,
            keeps,
            tt,
            kept_by noted noted_desk Stays s _ a gate door o (record { account = a'; gate = gate; door = door; is_open = gone s a gate door id v w p p' whole [] zeros o at refl refl refl goes o.home (λ z. out_stays (λ note. note.hall) s.views id a.owner v w (hall_part a.books.hall) at (o.away z) (λ e. e)) (λ z. absurd (desk.2 z)) (λ _. out_here (λ note. note.desk) s.views id a.clerk v w (desk_part whole) at desk.0 refl) bare apart (length b.hall.log) refl }) refl,
            (
              dn,
              part,
              noted_is,
              refl,
              (λ i. (with_desk (Some (sym told_is i)) (with_passes (after_fault dn.faults (sym desk.1 i) p ∷ []) v), (1, y) ∷ [])),
              subst (λ (x : DeskPart). All (KnowsDesk (with_faults dn.faults x)) (map (after_fault dn.faults x) (p ∷ []))) (sym desk.1) (All-cons (KnowsDesk (desk_part whole)) p' [] knows_it (All-nil (KnowsDesk (desk_part whole)))),
            ),
          )

  -- ---- what a table asks of these steps

  pub looks_counted : LooksAreCounted noted noted_desk (Lets noted noted_desk)
  looks_counted more slots id me p dk y others h h' one is at_home turn =
      lets noted noted_desk (Becomes h h') slots id me 0 (λ n. n) (λ _ w. Looks noted noted_desk more me w) (looks_counted_leads more slots id me p dk y others h h' one is at_home turn)

  pub logs_follow : LogsAreFollowed noted noted_desk (Lets noted noted_desk)
  logs_follow hands slots id me p d y others h h' commits grown one is at_home turn count_is small =
      lets noted noted_desk (Becomes h h') slots id me 0 (λ n. (n + grown) % 2 ^ 64) (λ _ w. Follows noted noted_desk hands me w) (logs_follow_leads hands slots id me p d y others h h' commits grown one is at_home turn count_is small)

  pub edits_forgotten : EditsAreForgotten noted noted_desk (Lets noted noted_desk)
  edits_forgotten slots id me p handed commit d y others h h' one is at_home handed_is forgets =
      lets noted noted_desk (Becomes h h') slots id me 0 (λ n. n) (λ _ w. FollowsForgetting noted noted_desk me w) (edits_forgotten_leads slots id me p handed commit d y others h h' one is at_home handed_is forgets)

  pub faults_told : FaultsAreTold noted noted_desk (Lets noted noted_desk)
  faults_told slots id me p part y dn one is noted_is rise steady =
      lets noted noted_desk Stays slots id me 0 (λ n. n) (λ _ w. TellsFaults noted noted_desk me w) (faults_told_leads slots id me p part y dn one is noted_is rise steady)
