-- What a guest's turn is to its house.
use Rattle.std.proofs.Common.{◌≡◌, ◌≤◌, ◌⊎◌, ℕ, List, [], ◌∷◌, ◌++◌, length, Bool, true, false, Option, refl, sym, ap, ◌∙◌, subst, inl, inr, arith, append-nil, le_refl}
use Rattle.std.specs.Prelude.{Result, IfOk}
use Rattle.std.specs.declared.alloc.AllocError.{AllocError}
use Rattle.atomic_table.specs.Seated.{TableId}
use Rattle.cache_entries.specs.declared.key.Key.{Key}
use Rattle.cache_entries.specs.declared.kept.Found.{Found}
use Rattle.cache_entries.specs.declared.kept.Kept.{Kept}
use Rattle.cache_entries.specs.Sound.{IsSoundKept, IsSoundFound}
use Rattle.page_meaning.specs.Meaning.{meaning}
use Rattle.content_state.specs.State.{State}
use Rattle.content_state.specs.declared.ask.Ask.{Ask}
use Rattle.content_state.specs.declared.commit.Commit.{Commit}
use Rattle.site_commands.specs.Judged.{judged}
use Rattle.site_commands.specs.declared.answer.Answer.{Answer}
use Rattle.site_commands.specs.declared.answer.Answer.TheVariants as answer
use Rattle.site_commands.specs.declared.answer.Done.{Done}
use Rattle.site_commands.specs.declared.answer.Refusal.{Refusal}
use Rattle.site_commands.specs.declared.command.Command.{Command}
use Rattle.site_house.specs.History.{newest_of}
use Rattle.site_house.specs.House.{HouseView, AreValid, CountRose, Moves, Stays, up, Accepts, Refuses, Fails, Answers}
use Rattle.site_hall.specs.Hall.{HallView, IsHall}
use Rattle.site_hall.specs.Hall as hall
use Rattle.site_hall.specs.Sides.{HallSide}
use Rattle.site_hall.proofs.Callers.{valid_seen}
use Rattle.site_hall.proofs.Logs.{valid_without}
use Rattle.site_hall.proofs.Stocks.{kept_more}
use Rattle.turn_rule.specs.declared.notes.TallyNote.{TallyNote}
use Rattle.turn_rule.specs.declared.notes.HallNote.{HallNote}
use Rattle.turn_rule.specs.declared.notes.HallPart.{HallPart}
use Rattle.turn_rule.specs.declared.notes.PassNote.{PassNote}
use Rattle.turn_rule.specs.Logs.{hall_part}
use Rattle.turn_rule.specs.Steps.{zeros, given, AreOwnIn, Knows, KnowsHall}
use Rattle.turn_rule.proofs.Edits.{begins_then}
use Rattle.turn_rule.proofs.Books.{of_hall, own_in_log}
use Rattle.site_table.specs.Views.{part_of}
use Rattle.site_turn.specs.Views.{PassView, noted}
use Rattle.site_turn.specs.Turns.{HasLooked, Went, Looks, Commits}
use Rattle.site_turn.specs.Houses.{table_name, house_of, guest_of, keepers_after}
use Rattle.site_turn.proofs.Halls.{settled_is, accepted_given, failed_given}

module _ (more : TallyNote) (hands : Bool) (old new : PassNote) (after : HallNote) (w : Went more hands old new after) where
  seen_is : new.seen ≡ after.log
  seen_is = ap (λ (p : PassNote). p.seen) w.is

  -- its own edits in what it has seen are of those that it handed in
  pub went_own : AreOwnIn new new.seen
  went_own = subst (AreOwnIn new) (sym seen_is) (own_in_log (hall_part after) new (of_hall after new w.knows))

  pub went_moves : (name : List ℕ) (keepers keepers' unkept unkept' : ℕ) → unkept ≤ unkept' → (keepers' ≡ keepers) ⊎ CountRose old.faults new.faults → Moves (house_of old name keepers unkept) (house_of new name keepers' unkept')
  went_moves name keepers keepers' unkept unkept' rose cause = record {
    base = ap (λ (p : PassNote). p.opened.loaded.base) w.is;
    number = ap (λ (p : PassNote). p.number) w.is;
    opened = ap (λ (p : PassNote). length p.opened.log) w.is;
    name = refl;
    grows = w.grows;
    never_falls = w.never_falls;
    steadfast = ap (λ (p : PassNote). p.opened.loaded.steadfast) w.is;
    never_fails = w.steady;
    cause = cause;
    own = λ _. went_own;
    told = refl;
    unkept = rose;
  }

  -- what was handed in
  handed_is : (commits : List Commit) → given hands after ≡ commits → new.handed ≡ old.handed ++ commits
  handed_is commits gave = ap (λ (p : PassNote). p.handed) w.is ∙ ap (λ (l : List Commit). old.handed ++ l) gave

  stays : (name : List ℕ) (keepers unkept unkept' : ℕ) → hands ≡ false → Stays (house_of old name keepers unkept) (house_of new name keepers unkept')
  stays name keepers unkept unkept' none = record { handed = handed_is [] (ap (λ (b : Bool). given b after) none) ∙ append-nil old.handed; keepers = refl }

-- ---- turns that read

module _ (more : TallyNote) (old new : PassNote) (before after : HallPart) (w : HasLooked more old new before after) where
  looked_seen : new.seen ≡ after.log
  looked_seen = ap (λ (p : PassNote). p.seen) w.is

  looked_faults : new.faults ≡ old.faults
  looked_faults = ap (λ (p : PassNote). p.faults) w.is

  looked_own : AreOwnIn new new.seen
  looked_own = subst (AreOwnIn new) (sym looked_seen) (own_in_log after new w.knows)

  looked_moves : (name : List ℕ) (keepers unkept unkept' : ℕ) → unkept ≤ unkept' → Moves (house_of old name keepers unkept) (house_of new name keepers unkept')
  looked_moves name keepers unkept unkept' rose = record {
    base = ap (λ (p : PassNote). p.opened.loaded.base) w.is;
    number = ap (λ (p : PassNote). p.number) w.is;
    opened = ap (λ (p : PassNote). length p.opened.log) w.is;
    name = refl;
    grows = w.grows;
    never_falls = let same = looked_faults in omega arith;
    steadfast = ap (λ (p : PassNote). p.opened.loaded.steadfast) w.is;
    never_fails = λ _. looked_faults;
    cause = inl refl;
    own = λ _. looked_own;
    told = refl;
    unkept = rose;
  }

  looked_stays : (name : List ℕ) (keepers unkept unkept' : ℕ) → Stays (house_of old name keepers unkept) (house_of new name keepers unkept')
  looked_stays name keepers unkept unkept' = record { handed = ap (λ (p : PassNote). p.handed) w.is; keepers = refl }

-- what the pass has seen, of the base that the site was opened with, is what the hall published
seen_there : (more : TallyNote) (old new : PassNote) (before : HallPart) (hall : HallSide) → HasLooked more old new before (part_of hall) → (P : State → List Commit → Type 0) → P hall.base hall.log → P new.opened.loaded.base new.seen
seen_there more old new before hall w P p = subst (λ (t : State × List Commit). P t.0 t.1) (λ i. (w.knows.base i, sym (looked_seen more old new before (part_of hall) w) i)) p

module _ (more : TallyNote) (does : HallSide → HallSide → Type 0) (old new : PassNote) where
  pub looks_valid : Looks more does old new → AreValid new.opened.loaded.base new.seen
  looks_valid l = seen_there more old new (part_of l.before) l.after l.went AreValid (valid_without l.after.base l.after.log l.after.pending l.is_hall.valid)

  pub looks_moves : (name : List ℕ) (keepers unkept unkept' : ℕ) → unkept ≤ unkept' → Looks more does old new → Moves (house_of old name keepers unkept) (house_of new name keepers unkept')
  looks_moves name keepers unkept unkept' rose l = looked_moves more old new (part_of l.before) (part_of l.after) l.went name keepers unkept unkept' rose

  pub looks_stays : (name : List ℕ) (keepers unkept unkept' : ℕ) → Looks more does old new → Stays (house_of old name keepers unkept) (house_of new name keepers unkept')
  looks_stays name keepers unkept unkept' l = looked_stays more old new (part_of l.before) (part_of l.after) l.went name keepers unkept unkept'

  pub looks_own : Looks more does old new → AreOwnIn new new.seen
  looks_own l = looked_own more old new (part_of l.before) (part_of l.after) l.went

-- the same, of a guest whose site is in the same table
pub guest_looks : (more : TallyNote) (does : HallSide → HallSide → Type 0) (old new : PassView) (borrow keepers unkept unkept' : ℕ) → new.table ≡ old.table → unkept ≤ unkept' → Looks more does old.note new.note
    → Moves (guest_of old borrow keepers unkept) (guest_of new borrow keepers unkept')
guest_looks more does old new borrow keepers unkept unkept' same rose l =
    subst (λ (t : TableId). Moves (guest_of old borrow keepers unkept) (house_of new.note (borrow ∷ table_name t) keepers unkept')) (sym same)
    (looks_moves more does old.note new.note (borrow ∷ table_name old.table) keepers unkept unkept' rose l)

-- what was found is sound over what the pass has seen then
pub looks_sound : (more : TallyNote) (old new : PassNote) (before : HallPart) (hall : HallSide) (key : Key) (result : Result Found AllocError) → HasLooked more old new before (part_of hall) → IfOk result (λ f. IsSoundFound meaning hall.base hall.log key f)
    → IfOk result (λ f. IsSoundFound meaning new.opened.loaded.base new.seen key f)
looks_sound more old new before hall key result w sound = seen_there more old new before hall w (λ base log. IfOk result (λ f. IsSoundFound meaning base log key f)) sound

-- what is sound over what a pass has seen is sound over the log of the hall
pub sound_out : (pass : PassNote) (hall : HallSide) (key : Key) (k : Kept) → KnowsHall (part_of hall) pass → IsSoundKept meaning pass.opened.loaded.base pass.seen key k → IsSoundKept meaning hall.base hall.log key k
sound_out pass hall key k knows sound =
    subst (λ (b : State). IsSoundKept meaning b hall.log key k) (sym knows.base)
    (kept_more pass.opened.loaded.base pass.seen hall.log knows.seen key k sound)

-- ---- edits

-- the hall's base is the one that the site was opened with
base_is : (new : PassNote) (hall : HallView) → Knows (noted hall) new → new.opened.loaded.base ≡ hall.base
base_is new hall k = sym (ap (λ l. l.base) k.loaded)

went_valid : (more : TallyNote) (hands : Bool) (old new : PassNote) (after : HallView) → Went more hands old new (noted after) → IsHall after → AreValid new.opened.loaded.base new.seen
went_valid more hands old new after w h =
    subst (λ (t : State × List Commit). AreValid t.0 t.1) (λ i. (sym (base_is new after w.knows) i, sym (seen_is more hands old new (noted after) w) i)) (valid_seen after h)

module _ (old new : PassNote) (ask : Ask) (csrf : Option (List ℕ)) (command : Command) (now : ℕ) where
  pub commits_valid : (a : Answer) → Commits a old new ask csrf command now → AreValid new.opened.loaded.base new.seen
  commits_valid a t = went_valid zeros t.hands old new t.after t.went t.is_hall

  pub commits_own : (a : Answer) → Commits a old new ask csrf command now → AreOwnIn new new.seen
  commits_own a t = went_own zeros t.hands old new (noted t.after) t.went

  rose : (k : Commits answer.Keeper old new ask csrf command now) → CountRose old.faults new.faults
  rose k =
      let less = k.knows.faults in
      let more = k.answers.rose in
      subst (λ (n : ℕ). CountRose old.faults n) (sym (ap (λ (p : PassNote). p.faults) k.went.is)) (omega arith)

  pub commits_moves : (name : List ℕ) (keepers unkept : ℕ) (a : Answer) → Commits a old new ask csrf command now → Moves (house_of old name keepers unkept) (house_of new name (keepers_after a keepers) unkept)
  commits_moves name keepers unkept (answer.Done done number) t = went_moves zeros t.hands old new (noted t.after) t.went name keepers keepers unkept unkept (le_refl unkept) (inl refl)
  commits_moves name keepers unkept (answer.Refused refusal number) t = went_moves zeros t.hands old new (noted t.after) t.went name keepers keepers unkept unkept (le_refl unkept) (inl refl)
  commits_moves name keepers unkept answer.Keeper t = went_moves zeros t.hands old new (noted t.after) t.went name keepers (up keepers) unkept unkept (le_refl unkept) (inr (rose t))
  commits_moves name keepers unkept answer.OutOfMemory t = went_moves zeros t.hands old new (noted t.after) t.went name keepers keepers unkept unkept (le_refl unkept) (inl refl)

  -- the same judgement, by what the pass knows
  module _ (a : Answer) (t : Commits a old new ask csrf command now) where
    number_is : new.number ≡ old.number
    number_is = ap (λ (p : PassNote). p.number) t.went.is

    log_is : new.seen ≡ t.after.log
    log_is = seen_is zeros t.hands old new (noted t.after) t.went

    same_newest : newest_of t.after.base t.after.log ≡ newest_of new.opened.loaded.base new.seen
    same_newest = ap (λ (b : State). newest_of b t.after.log) (sym (base_is new t.after t.went.knows)) ∙ ap (newest_of new.opened.loaded.base) (sym log_is)

    judged_as : (base : State) (log : List Commit) → base ≡ t.after.base → judged new.opened.loaded.base log ask csrf command now new.number ≡ judged base log ask csrf command now old.number
    judged_as base log same =
        ap (λ (b : State). judged b log ask csrf command now new.number) (base_is new t.after t.went.knows ∙ sym same)
        ∙ ap (λ (n : ℕ). judged base log ask csrf command now n) number_is

    judged_now : judged new.opened.loaded.base new.seen ask csrf command now new.number ≡ judged t.after.base t.after.log ask csrf command now old.number
    judged_now = ap (λ (l : List Commit). judged new.opened.loaded.base l ask csrf command now new.number) log_is ∙ judged_as t.after.base t.after.log refl

  module _ (name : List ℕ) (keepers unkept : ℕ) where
    accepts : (done : Done) (number : ℕ) → Commits (answer.Done done number) old new ask csrf command now → Accepts (house_of old name keepers unkept) (house_of new name keepers unkept) ask csrf command now done number
    accepts done number t =
        let a = t.answers in
        let s = settled_is t.before a.settled a.settles in
        let gave = ap (λ (b : Bool). given b (noted t.after)) t.tells ∙ (accepted_given t.before t.after ask csrf command now old.number done number a).1 in
        record {
          before = a.settled.log;
          commit = a.commit;
          begins = begins_then old.seen t.before.log a.settled.log t.knows.seen (s.0, s.1.log);
          stands = log_is (answer.Done done number) t ∙ ap (λ (h : HallView). h.log) a.published;
          judged_is = judged_as (answer.Done done number) t a.settled.base a.settled.log (sym (ap (λ (h : HallView). h.base) a.published)) ∙ a.accepted;
          number_is = a.number_is ∙ same_newest (answer.Done done number) t;
          handed = handed_is zeros t.hands old new (noted t.after) t.went (a.commit ∷ []) gave;
          keepers = refl;
        }

    refuses : (refusal : Refusal) (number : ℕ) → Commits (answer.Refused refusal number) old new ask csrf command now → Refuses (house_of old name keepers unkept) (house_of new name keepers unkept) ask csrf command now refusal number
    refuses refusal number t = record {
      judged_is = judged_now (answer.Refused refusal number) t ∙ t.answers.refused;
      number_is = t.answers.number_is ∙ same_newest (answer.Refused refusal number) t;
      stays = stays zeros t.hands old new (noted t.after) t.went name keepers unkept unkept t.tells;
    }

    -- where the keeper failed at the edit, or before it
    fails : (t : Commits answer.Keeper old new ask csrf command now) (hands : Bool) → t.hands ≡ hands → hall.Tells answer.Keeper hands t.before t.after ask csrf command now old.number
        → Fails (house_of old name keepers unkept) (house_of new name (up keepers) unkept) ask csrf command now
    fails t true is f = record {
      more = f.commit ∷ [];
      handed = handed_is zeros t.hands old new (noted t.after) t.went (f.commit ∷ []) (ap (λ (b : Bool). given b (noted t.after)) is ∙ failed_given t.before t.after ask csrf command now old.number f);
      at_most = (
        f.done,
        judged_now answer.Keeper t ∙ ap (λ (b : State). judged b t.after.log ask csrf command now old.number) (ap (λ (h : HallView). h.base) f.stays)
            ∙ ap (λ (l : List Commit). judged f.settled.base l ask csrf command now old.number) (ap (λ (h : HallView). h.log) f.stays) ∙ f.accepted,
      );
      keepers = refl;
      rose = rose t;
    }
    fails t false is f = record {
      more = [];
      handed = handed_is zeros t.hands old new (noted t.after) t.went [] (ap (λ (b : Bool). given b (noted t.after)) is);
      at_most = tt;
      keepers = refl;
      rose = rose t;
    }

    pub commits_answers : (a : Answer) → Commits a old new ask csrf command now → Answers a (house_of old name keepers unkept) (house_of new name (keepers_after a keepers) unkept) ask csrf command now
    commits_answers (answer.Done done number) t = accepts done number t
    commits_answers (answer.Refused refusal number) t = refuses refusal number t
    commits_answers answer.Keeper t = fails t t.hands refl t.tells
    commits_answers answer.OutOfMemory t = stays zeros t.hands old new (noted t.after) t.went name keepers unkept unkept t.tells

-- the same, of a guest whose count is another number, and whose site is in the same table
module _ (old new : PassView) (borrow keepers keepers' unkept : ℕ) (ask : Ask) (csrf : Option (List ℕ)) (command : Command) (now : ℕ) (a : Answer) (same : new.table ≡ old.table) (count : keepers' ≡ keepers_after a keepers) (t : Commits a old.note new.note ask csrf command now) where
  guest_is : house_of new.note (borrow ∷ table_name old.table) (keepers_after a keepers) unkept ≡ guest_of new borrow keepers' unkept
  guest_is = λ i. house_of new.note (borrow ∷ table_name (sym same i)) (sym count i) unkept

  pub guest_moves : Moves (guest_of old borrow keepers unkept) (guest_of new borrow keepers' unkept)
  guest_moves = subst (Moves (guest_of old borrow keepers unkept)) guest_is (commits_moves old.note new.note ask csrf command now (borrow ∷ table_name old.table) keepers unkept a t)

  pub guest_answers : Answers a (guest_of old borrow keepers unkept) (guest_of new borrow keepers' unkept) ask csrf command now
  guest_answers = subst (λ (h : HouseView). Answers a (guest_of old borrow keepers unkept) h ask csrf command now) guest_is (commits_answers old.note new.note ask csrf command now (borrow ∷ table_name old.table) keepers unkept a t)
