-- What each step does to the books keeps them sound.
use Rattle.std.proofs.Common.{◌≡◌, ◌≢◌, ℕ, ◌+◌, ◌<◌, ◌≤◌, List, [], ◌∷◌, ◌++◌, ◌==◌, length, set, drop, Bool, true, Option, Some, None, option_to_list, refl, sym, ap, ◌∙◌, subst, arith, append_assoc, append-nil, length-append, length-set, le_trans, le_refl}
use mathlib.Core.Option.{some, some-ne-none}
use lib.ListN.{get_elem?}
use Rattle.std.specs.List.{All, sum_by}
use Rattle.std.proofs.lemmas.List.Elements.{All-nil, All-cons, All-append, All-weaker, filter-append}
use Rattle.std.proofs.lemmas.List.Sums.{sum_by-set, sum_by_push, get_or-le-sum_by}
use Rattle.content_state.specs.Replay.{Begins}
use Rattle.content_state.specs.declared.commit.Commit.{Commit}
use Rattle.site_house.specs.House.{IsSublist, by_pass}
use Rattle.turn_rule.specs.declared.notes.TallyNote.{TallyNote}
use Rattle.turn_rule.specs.declared.notes.HallNote.{HallNote}
use Rattle.turn_rule.specs.declared.notes.HallPart.{HallPart}
use Rattle.turn_rule.specs.declared.notes.PassNote.{PassNote}
use Rattle.turn_rule.specs.Logs.{waiting, hall_part, desk_part}
use Rattle.turn_rule.specs.Rule.{Books, IsPass, AreSound, Claims, Counted, looks, found, kept, count_of, capped, IsSum, founder_in}
use Rattle.turn_rule.specs.Steps.{plus, AreOwnIn, Knows, KnowsHall, KnowsDesk, raised, zeros, given, after_turn, after_forgetting, Turns, new_pass, seeing}
use Rattle.turn_rule.proofs.Edits.{sub_same, sub_cancel, sub_left, sub_all, own_all, own_front, own_none, own_goes_on, edits_go_on, begins_same, begins_more, drop_front, capped_on}
use Rattle.turn_rule.proofs.Claims.{at_below, at_get, each_set, each_more}

-- ---- sums

weigh : Counted → PassNote → ℕ
weigh counted pass = count_of counted pass.tally

-- the sum after a change of one pass
sum_changed : (f : PassNote → ℕ) (ps : List PassNote) (n : ℕ) (p w : PassNote) → get_elem? ps n ≡ some p → sum_by f (set ps n w) + f p ≡ sum_by f ps + f w
sum_changed f ps n p w at = subst (λ (x : PassNote). sum_by f (set ps n w) + f x ≡ sum_by f ps + f w) (at_get ps n p p at) (sum_by-set f ps n w p (at_below ps n p at))

one_of_sum : (f : PassNote → ℕ) (ps : List PassNote) (n : ℕ) (p : PassNote) → get_elem? ps n ≡ some p → f p ≤ sum_by f ps
one_of_sum f ps n p at = subst (λ (x : PassNote). f x ≤ sum_by f ps) (at_get ps n p p at) (get_or-le-sum_by f ps n p (at_below ps n p at))

raised_counts : (counted : Counted) (more tally : TallyNote) → count_of counted (raised more tally) ≡ plus (count_of counted tally) (count_of counted more)
raised_counts looks more tally = refl
raised_counts found more tally = refl
raised_counts kept more tally = refl

zero_counts : (counted : Counted) → count_of counted zeros ≡ 0
zero_counts looks = refl
zero_counts found = refl
zero_counts kept = refl

-- what the books say to a pass
pub knows : (b : Books) (p : PassNote) → AreSound b → get_elem? b.passes p.number ≡ some p → Knows b.hall p
knows b p s at =
    let r = s.each p.number p at in
    let log : b.hall.log ≡ p.opened.log ++ b.past = s.log ∙ ap (λ (o : HallNote). o.log ++ b.past) (sym r.opened) in
    record {
      loaded = s.loaded ∙ ap (λ (o : HallNote). o.loaded) (sym r.opened);
      seen = r.seen;
      whole = (b.past, log);
      faults = r.faults_to;
      steady = λ t. let e = s.steady (ap (λ l. l.steadfast) (sym s.loaded) ∙ t) in let low = r.faults_from in let high = r.faults_to in omega arith;
      own = subst (λ (l : List Commit). IsSublist (by_pass p.number (l ++ waiting b.hall)) p.handed) (sym (ap (drop (length p.opened.log)) log ∙ drop_front p.opened.log b.past)) r.handed;
    }

-- what a pass knows of the hall alone, and of the desk alone
pub of_hall : (whole : HallNote) (p : PassNote) → Knows whole p → KnowsHall (hall_part whole) p
of_hall whole p k = record { base = ap (λ l. l.base) k.loaded; seen = k.seen; whole = k.whole; own = k.own }

pub of_desk : (whole : HallNote) (p : PassNote) → Knows whole p → KnowsDesk (desk_part whole) p
of_desk whole p k = record { loaded = k.loaded; seen = k.seen; whole = k.whole; faults = k.faults; steady = k.steady; own = k.own }

-- a pass that knows a hall finds its own edits in the log, without the pending one, as it handed them in
pub own_in_log : (hall : HallPart) (p : PassNote) → KnowsHall hall p → AreOwnIn p hall.log
own_in_log hall p k =
    let log = drop (length p.opened.log) hall.log in
    let left = option_to_list hall.pending in
    sub_left (by_pass p.number log) (by_pass p.number left) p.handed (subst (λ (l : List Commit). IsSublist l p.handed) (filter-append (λ c. c.pass == p.number) log left) k.own)

-- its own edits in a front of the log
pub own_in : (b : Books) (p : PassNote) (log : List Commit) → AreSound b → get_elem? b.passes p.number ≡ some p → Begins b.opened.log log → Begins log b.hall.log → AreOwnIn p log
own_in b p log s at whole seen =
    let r = s.each p.number p at in
    subst (λ (o : HallNote). IsSublist (by_pass p.number (drop (length o.log) log)) p.handed) (sym r.opened)
    (own_front p.number b.opened.log b.past (waiting b.hall) log p.handed whole (subst (Begins log) s.log seen) r.handed)

pub all_know : (b : Books) (holder : ℕ → ℕ) (j : ℕ) (ps : List PassNote) → AreSound b → Claims b.passes holder j ps → All (Knows b.hall) ps
all_know b holder j [] s c = All-nil (Knows b.hall)
all_know b holder j (p ∷ ps) s c = All-cons (Knows b.hall) p ps (knows b p s c.0) (all_know b holder j ps s c.3)

-- ---- what a pass does with the hall

abbrev pub turned : Books → PassNote → PassNote → HallNote → List Commit → Books
turned b p p' h commits = record { opened = b.opened; hall = h; past = b.past ++ commits; made = b.made; passes = set b.passes p.number p' }

-- All that it takes: what the pass does to the whole, what it knows then, and that no other pass is wronged.
pub record Goes (more : TallyNote) (b : Books) (p p' : PassNote) (h : HallNote) (commits : List Commit) : Type 0 where
  pub loaded : h.loaded ≡ b.hall.loaded
  pub log : h.log ≡ b.hall.log ++ commits
  pub faults : b.hall.faults ≤ h.faults
  pub steady : b.hall.loaded.steadfast ≡ true → h.faults ≡ b.hall.faults
  pub tally : h.tally ≡ raised more b.hall.tally
  pub counts : p'.tally ≡ raised more p.tally
  pub numbered : All (λ c. c.pass < b.made) ((b.past ++ commits) ++ waiting h)
  pub others : (m : ℕ) (q : PassNote) → m ≢ p.number → get_elem? b.passes m ≡ some q → IsSublist (by_pass m ((b.past ++ commits) ++ waiting h)) q.handed
  pub pass : IsPass (turned b p p' h commits) p.number p'

turned_sum : (more : TallyNote) (b : Books) (p p' : PassNote) (h : HallNote) (commits : List Commit) (counted : Counted) → h.tally ≡ raised more b.hall.tally → p'.tally ≡ raised more p.tally
    → get_elem? b.passes p.number ≡ some p → IsSum counted b.opened b.hall b.passes → IsSum counted b.opened h (turned b p p' h commits).passes
turned_sum more b p p' h commits counted t t' at was =
    let f : PassNote → ℕ = λ q. count_of counted q.tally in
    let d = count_of counted more in
    let moves = sum_changed f b.passes p.number p p' at ∙ ap (λ (n : ℕ). sum_by f b.passes + n) (ap (count_of counted) t' ∙ raised_counts counted more p.tally) in
    ap (count_of counted) t ∙ raised_counts counted more b.hall.tally
    ∙ capped_on (count_of counted b.hall.tally) (count_of counted b.opened.tally) (sum_by f b.passes) (sum_by f (turned b p p' h commits).passes) (f p) d was (one_of_sum f b.passes p.number p at) moves

pub goes_sound : (more : TallyNote) (b : Books) (p p' : PassNote) (h : HallNote) (commits : List Commit) → AreSound b → get_elem? b.passes p.number ≡ some p → Goes more b p p' h commits → AreSound (turned b p p' h commits)
goes_sound more b p p' h commits s at t =
    record {
      loaded = t.loaded ∙ s.loaded;
      log = t.log ∙ ap (λ (l : List Commit). l ++ commits) s.log ∙ append_assoc b.opened.log b.past commits;
      faults = le_trans s.faults t.faults;
      steady = λ e. t.steady (ap (λ l. l.steadfast) s.loaded ∙ e) ∙ s.steady e;
      count = length-set b.passes p.number p' ∙ s.count;
      numbered = t.numbered;
      sums = λ counted. turned_sum more b p p' h commits counted t.tally t.counts at (s.sums counted);
      each = each_set (IsPass (turned b p p' h commits)) b.passes p.number p' others t.pass;
    }
  where
    others : (m : ℕ) (q : PassNote) → m ≢ p.number → get_elem? b.passes m ≡ some q → IsPass (turned b p p' h commits) m q
    others m q ne e =
        let r = s.each m q e in
        record {
          number_is = r.number_is;
          opened = r.opened;
          seen = subst (Begins q.seen) (sym t.log) (begins_more q.seen b.hall.log commits r.seen);
          whole = r.whole;
          faults_from = r.faults_from;
          faults_to = le_trans r.faults_to t.faults;
          handed = t.others m q ne e;
        }

-- ---- a turn of a pass that has hall and desk

module _ (more : TallyNote) (hands : Bool) (b : Books) (p : PassNote) (h : HallNote) (commits : List Commit) where
  turned_pass : AreSound b → get_elem? b.passes p.number ≡ some p → Turns more hands p.number b.hall h commits → IsPass (turned b p (after_turn more hands h p) h commits) p.number (after_turn more hands h p)
  turned_pass s at t =
      let r = s.each p.number p at in
      record {
        number_is = refl;
        opened = r.opened;
        seen = begins_same h.log;
        whole = (b.past ++ commits, t.log ∙ ap (λ (l : List Commit). l ++ commits) s.log ∙ append_assoc b.opened.log b.past commits);
        faults_from = le_trans s.faults t.faults;
        faults_to = le_refl h.faults;
        handed = subst (λ (l : List Commit). IsSublist (by_pass p.number ((b.past ++ commits) ++ waiting h)) (p.handed ++ l)) (own_all p.number (given hands h) t.own)
            (own_goes_on p.number b.past commits (waiting h) (waiting b.hall) (given hands h) p.handed r.handed t.handed);
      }

  turned_other : AreSound b → Turns more hands p.number b.hall h commits → (m : ℕ) (q : PassNote) → m ≢ p.number → get_elem? b.passes m ≡ some q → IsSublist (by_pass m ((b.past ++ commits) ++ waiting h)) q.handed
  turned_other s t m q ne e =
      let r = s.each m q e in
      let none : by_pass m (given hands h) ≡ [] = own_none m (given hands h) (All-weaker (λ c. c.pass ≡ p.number) (λ c. c.pass ≢ m) (λ c x y. ne (sym y ∙ x)) (given hands h) t.own) in
      subst (IsSublist (by_pass m ((b.past ++ commits) ++ waiting h))) (ap (λ (l : List Commit). q.handed ++ l) none ∙ append-nil q.handed)
      (own_goes_on m b.past commits (waiting h) (waiting b.hall) (given hands h) q.handed r.handed t.handed)

  pub turns_go : AreSound b → get_elem? b.passes p.number ≡ some p → Turns more hands p.number b.hall h commits → Goes more b p (after_turn more hands h p) h commits
  turns_go s at t =
      let below = at_below b.passes p.number p at in
      let count = s.count in
      let P : Commit → Type 0 = λ c. c.pass < b.made in
      record {
        loaded = t.loaded;
        log = t.log;
        faults = t.faults;
        steady = t.steady;
        tally = t.tally;
        counts = refl;
        numbered = sub_all P ((b.past ++ commits) ++ waiting h) ((b.past ++ waiting b.hall) ++ given hands h) (edits_go_on b.past commits (waiting h) (waiting b.hall) (given hands h) t.handed)
            (All-append P (b.past ++ waiting b.hall) (given hands h) s.numbered (All-weaker (λ c. c.pass ≡ p.number) P (λ c x. omega arith) (given hands h) t.own));
        others = turned_other s t;
        pass = turned_pass s at t;
      }

-- ---- a turn that leaves the log and the pending edit

abbrev pub after_still : TallyNote → HallNote → ℕ → HallPart → HallPart → PassNote → PassNote
after_still more h faults before after pass = record {
  number = pass.number;
  opened = pass.opened;
  seen = h.log;
  handed = pass.handed;
  faults = faults;
  tally = raised more pass.tally;
  found = before;
  left = after;
}

pub still_goes : (more : TallyNote) (b : Books) (p : PassNote) (faults : ℕ) (before after : HallPart) (h : HallNote) → AreSound b → get_elem? b.passes p.number ≡ some p → h.loaded ≡ b.hall.loaded → h.log ≡ b.hall.log → h.pending ≡ b.hall.pending
    → b.hall.faults ≤ h.faults → (b.hall.loaded.steadfast ≡ true → h.faults ≡ b.hall.faults) → h.tally ≡ raised more b.hall.tally → p.faults ≤ faults → faults ≤ h.faults → Goes more b p (after_still more h faults before after p) h []
still_goes more b p faults before after h s at loaded log pending rise steady tally from to =
    let r = s.each p.number p at in
    let same : b.past ++ waiting b.hall ≡ (b.past ++ []) ++ waiting h = sym (ap (λ (l : List Commit). l ++ waiting h) (append-nil b.past) ∙ ap (λ (o : Option Commit). b.past ++ option_to_list o) pending) in
    record {
      loaded = loaded;
      log = log ∙ sym (append-nil b.hall.log);
      faults = rise;
      steady = steady;
      tally = tally;
      counts = refl;
      numbered = subst (All (λ (c : Commit). c.pass < b.made)) same s.numbered;
      others = λ m q ne e. subst (λ (l : List Commit). IsSublist (by_pass m l) q.handed) same (s.each m q e).handed;
      pass = record {
        number_is = refl;
        opened = r.opened;
        seen = begins_same h.log;
        whole = (b.past, log ∙ s.log);
        faults_from = le_trans r.faults_from from;
        faults_to = to;
        handed = subst (λ (l : List Commit). IsSublist (by_pass p.number l) p.handed) same r.handed;
      };
    }

-- ---- the edit that was handed in last is forgotten

abbrev pub forgotten : HallNote → HallNote
forgotten h = record { loaded = h.loaded; log = h.log; pending = None; faults = h.faults; tally = h.tally; bins = h.bins }

pub forgets_go : (b : Books) (p : PassNote) (handed : List Commit) (c : Commit) → AreSound b → get_elem? b.passes p.number ≡ some p → b.hall.pending ≡ Some c → c.pass ≡ p.number → p.handed ≡ handed ++ c ∷ []
    → Goes zeros b p (after_forgetting handed (forgotten b.hall) p) (forgotten b.hall) []
forgets_go b p handed c s at waits own is =
    let r = s.each p.number p at in
    let short : b.past ≡ (b.past ++ []) ++ [] = sym (append-nil (b.past ++ []) ∙ append-nil b.past) in
    let split = λ (m : ℕ). filter-append (λ (x : Commit). x.pass == m) b.past (waiting b.hall) in
    let mine : by_pass p.number (b.past ++ waiting b.hall) ≡ by_pass p.number b.past ++ c ∷ [] =
    split p.number ∙ ap (λ (o : Option Commit). by_pass p.number b.past ++ by_pass p.number (option_to_list o)) waits
    ∙ ap (λ (l : List Commit). by_pass p.number b.past ++ l) (own_all p.number (c ∷ []) (All-cons (λ (x : Commit). x.pass ≡ p.number) c [] own (All-nil (λ (x : Commit). x.pass ≡ p.number)))) in
    record {
      loaded = refl;
      log = sym (append-nil b.hall.log);
      faults = le_refl b.hall.faults;
      steady = λ _. refl;
      tally = refl;
      counts = refl;
      numbered = subst (All (λ (x : Commit). x.pass < b.made)) short
          (sub_all (λ (x : Commit). x.pass < b.made) b.past (b.past ++ waiting b.hall) (sub_left b.past (waiting b.hall) (b.past ++ waiting b.hall) (sub_same (b.past ++ waiting b.hall))) s.numbered);
      others = λ m q ne e. subst (λ (l : List Commit). IsSublist (by_pass m l) q.handed) short
          (sub_left (by_pass m b.past) (by_pass m (waiting b.hall)) q.handed (subst (λ (l : List Commit). IsSublist l q.handed) (split m) (s.each m q e).handed));
      pass = record {
        number_is = refl;
        opened = r.opened;
        seen = begins_same b.hall.log;
        whole = (b.past, s.log);
        faults_from = s.faults;
        faults_to = le_refl b.hall.faults;
        handed = subst (λ (l : List Commit). IsSublist (by_pass p.number l) handed) short
            (sub_cancel (by_pass p.number b.past) handed c (subst (λ (t : List Commit × List Commit). IsSublist t.0 t.1) (λ i. (mine i, is i)) r.handed));
      };
    }

-- ---- a new pass

-- the same facts of a pass, in books with other passes
other_passes : (b : Books) (made : ℕ) (ps : List PassNote) (n : ℕ) (p : PassNote) → IsPass b n p → IsPass (record { opened = b.opened; hall = b.hall; past = b.past; made = made; passes = ps }) n p
other_passes b made ps n p r = record { number_is = r.number_is; opened = r.opened; seen = r.seen; whole = r.whole; faults_from = r.faults_from; faults_to = r.faults_to; handed = r.handed }

abbrev pub drawn : Books → Books
drawn b = record { opened = b.opened; hall = b.hall; past = b.past; made = b.made + 1; passes = b.passes ++ new_pass (founder_in b) ∷ [] }

drawn_sum : (b : Books) (counted : Counted) → IsSum counted b.opened b.hall b.passes → IsSum counted b.opened b.hall (drawn b).passes
drawn_sum b counted was =
    let f : PassNote → ℕ = λ q. count_of counted q.tally in
    let zero_is = zero_counts counted in
    let more = sum_by_push f b.passes (new_pass (founder_in b)) in
    let same : sum_by f b.passes ≡ sum_by f (drawn b).passes = omega (arith, more, zero_is) in
    was ∙ ap (λ (n : ℕ). capped (count_of counted b.opened.tally + n)) same

pub drawn_sound : (b : Books) → AreSound b → AreSound (drawn b)
drawn_sound b s =
    let count = s.count in
    let none : by_pass b.made (b.past ++ waiting b.hall) ≡ [] = own_none b.made (b.past ++ waiting b.hall) (All-weaker (λ c. c.pass < b.made) (λ c. c.pass ≢ b.made) (λ c l e. omega arith) (b.past ++ waiting b.hall) s.numbered) in
    let new : IsPass (drawn b) b.made (new_pass (founder_in b)) = record { number_is = refl; opened = refl; seen = (b.past, s.log); whole = begins_same b.opened.log; faults_from = le_refl b.opened.faults; faults_to = s.faults; handed = none } in
    record {
      loaded = s.loaded;
      log = s.log;
      faults = s.faults;
      steady = s.steady;
      count = length-append b.passes (new_pass (founder_in b) ∷ []) ∙ ap (λ (n : ℕ). n + 1) s.count;
      numbered = All-weaker (λ c. c.pass < b.made) (λ c. c.pass < b.made + 1) (λ c l. omega arith) (b.past ++ waiting b.hall) s.numbered;
      sums = λ counted. drawn_sum b counted (s.sums counted);
      each = each_more (IsPass (drawn b)) b.passes (new_pass (founder_in b)) (λ m q e. other_passes b (b.made + 1) (drawn b).passes m q (s.each m q e)) (subst (λ (n : ℕ). IsPass (drawn b) n (new_pass (founder_in b))) (sym s.count) new);
    }

-- ---- a pass sees another front of the log

abbrev pub seen_to : List Commit → PassNote → Books → Books
seen_to log p b = record { opened = b.opened; hall = b.hall; past = b.past; made = b.made; passes = set b.passes p.number (seeing log p) }

pub seeing_sound : (b : Books) (p : PassNote) (log : List Commit) → AreSound b → get_elem? b.passes p.number ≡ some p → Begins log b.hall.log → Begins b.opened.log log → AreSound (seen_to log p b)
seeing_sound b p log s at seen whole = record {
  loaded = s.loaded;
  log = s.log;
  faults = s.faults;
  steady = s.steady;
  count = length-set b.passes p.number (seeing log p) ∙ s.count;
  numbered = s.numbered;
  sums = λ counted. s.sums counted ∙ ap (λ (n : ℕ). capped (count_of counted b.opened.tally + n)) (same counted);
  each = each_set (IsPass (seen_to log p b)) b.passes p.number (seeing log p) (λ m q ne e. other_passes b b.made (seen_to log p b).passes m q (s.each m q e)) mine;
}
  where
    same : (counted : Counted) → sum_by (λ (q : PassNote). count_of counted q.tally) b.passes ≡ sum_by (λ (q : PassNote). count_of counted q.tally) (seen_to log p b).passes
    same counted = let t = sum_changed (λ (q : PassNote). count_of counted q.tally) b.passes p.number p (seeing log p) at in omega (arith, t)

    mine : IsPass (seen_to log p b) p.number (seeing log p)
    mine = let r = s.each p.number p at in record { number_is = r.number_is; opened = r.opened; seen = seen; whole = whole; faults_from = r.faults_from; faults_to = r.faults_to; handed = r.handed }

-- ---- the opening

abbrev pub opening_books : HallNote → Books
opening_books h = record { opened = h; hall = h; past = []; made = 0; passes = [] }

pub opening_sound : (h : HallNote) → h.pending ≡ None → ((counted : Counted) → count_of counted h.tally < 18446744073709551616) → AreSound (opening_books h)
opening_sound h none small = record {
  loaded = refl;
  log = sym (append-nil h.log);
  faults = le_refl h.faults;
  steady = λ _. refl;
  count = refl;
  numbered = subst (λ (o : Option Commit). All (λ c. c.pass < 0) (option_to_list o)) (sym none) (All-nil (λ (c : Commit). c.pass < 0));
  sums = λ counted. let l = small counted in omega arith;
  each = λ n p e. absurd (some-ne-none p (sym e));
}
