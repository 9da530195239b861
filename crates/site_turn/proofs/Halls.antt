-- Each call of a hall is a turn, as the rule of turns has it.
use Rattle.std.proofs.Common.{◌≡◌, ◌≤◌, ◌+◌, ◌==◌, ℕ, List, [], ◌∷◌, ◌++◌, Bool, true, false, Option, Some, None, option_to_list, refl, sym, ap, ◌∙◌, subst, inl, inr, append_assoc, append-nil, le_refl}
use Rattle.std.specs.Prelude.{if◌then◌else◌, Result, Ok, Err}
use Rattle.std.specs.declared.alloc.AllocError.{AllocError}
use Rattle.std.specs.List.{All}
use Rattle.std.proofs.lemmas.List.Elements.{All-nil, All-cons}
use Rattle.cache_entries.specs.declared.key.Key.{Key}
use Rattle.cache_entries.specs.declared.kept.Bin.{Bin}
use Rattle.cache_entries.specs.declared.kept.Found.{Found}
use Rattle.cache_entries.specs.declared.kept.Found.TheVariants as found
use Rattle.cache_entries.specs.declared.kept.Kept.{Kept}
use Rattle.content_state.specs.declared.ask.Ask.{Ask}
use Rattle.content_state.specs.declared.commit.Commit.{Commit}
use Rattle.site_commands.specs.declared.answer.Answer.{Answer}
use Rattle.site_commands.specs.declared.answer.Answer.TheVariants as answer
use Rattle.site_commands.specs.declared.answer.Done.{Done}
use Rattle.site_commands.specs.declared.command.Command.{Command}
use Rattle.site_house.specs.House.{IsSublist}
use Rattle.site_hall.specs.Hall.{HallView, StaysSteadfast, Settles, settled_by, number_of, Accepts, FailsHead, FailsApply, Answers, Tells}
use Rattle.site_hall.specs.Sides.{HallSide, with_shelves}
use Rattle.site_hall.specs.Stock.{Stock, looked, bins_in, tally_in}
use Rattle.site_hall.specs.Looked.{LooksUp, KeepsUnder}
use Rattle.site_hall.specs.declared.tally.Tally.{Tally}
use Rattle.site_hall.proofs.Sublists.{sublist_both}
use Rattle.turn_rule.specs.Logs.{waiting, last_of, newest_of}
use Rattle.turn_rule.specs.Steps.{zeros, raised, given, Turns, Counts}
use Rattle.turn_rule.specs.declared.notes.TallyNote.{TallyNote}
use Rattle.turn_rule.proofs.Accounts.{one_not_zero}
use Rattle.site_table.specs.Views.{tally_note, part_of}
use Rattle.site_table.specs.Turns.{counts_of_found, counts_of_look, counts_of_keep, one_kept}
use Rattle.site_turn.specs.Views.{noted}

last_snoc : (log : List Commit) (c : Commit) → last_of (log ++ c ∷ []) ≡ c ∷ []
last_snoc [] c = refl
last_snoc (x ∷ []) c = refl
last_snoc (x ∷ y ∷ log) c = last_snoc (y ∷ log) c

-- what is noted of what a hall keeps of pages
abbrev note_of : Stock → TallyNote
note_of stock = tally_note (tally_in stock)

-- ---- what is pending is settled

-- these edits came into the log, and nothing is pending then
pub record Settled (old new : HallView) (commits : List Commit) : Type 0 where
  pub loaded : (noted new).loaded ≡ (noted old).loaded
  pub log : new.log ≡ old.log ++ commits
  pub none : new.pending ≡ None
  pub faults : new.faults ≡ old.faults
  pub stock : new.stock ≡ old.stock
  pub handed : IsSublist commits (waiting (noted old))

settled_to : (old : HallView) (head : ℕ) (pending : Option Commit) → old.pending ≡ pending → (commits : List Commit) × Settled old (settled_by old head pending) commits
settled_to old head None is = ([], record { loaded = refl; log = sym (append-nil old.log); none = is; faults = refl; stock = refl; handed = subst (λ (p : Option Commit). IsSublist [] (option_to_list p)) (sym is) refl })
settled_to old head (Some c) is = by_choice (head == number_of old + 1)
  where
    by_choice : (b : Bool) → (commits : List Commit) × Settled old (record old { log = if b then old.log ++ c ∷ [] else old.log; pending = None }) commits
    by_choice true = (c ∷ [], record { loaded = refl; log = refl; none = refl; faults = refl; stock = refl; handed = subst (λ (p : Option Commit). IsSublist (c ∷ []) (option_to_list p)) (sym is) (inr ([], refl, refl)) })
    by_choice false = ([], record { loaded = refl; log = sym (append-nil old.log); none = refl; faults = refl; stock = refl; handed = subst (λ (p : Option Commit). IsSublist [] (option_to_list p)) (sym is) (inl refl) })

pub settled_is : (old new : HallView) → Settles old new → (commits : List Commit) × Settled old new commits
settled_is old new s =
    let t = settled_to old s.head old.pending refl in
    (t.0, subst (λ (h : HallView). Settled old h t.0) (sym s.settled) t.1)

-- ---- turns

-- what a call of the hall does is a turn of a pass with this number, which counts this
abbrev pub IsTurn : TallyNote → Bool → ℕ → HallView → HallView → Type 0
IsTurn more hands pass old new = (commits : List Commit) × Turns more hands pass (noted old) (noted new) commits

-- nothing is handed in, and nothing comes into the log
still : (more : TallyNote) (pass : ℕ) (old new : HallView) → (noted new).tally ≡ raised more (noted old).tally → (noted new).bins ≡ (noted old).bins → (noted new).loaded ≡ (noted old).loaded → new.log ≡ old.log → new.pending ≡ old.pending → old.faults ≤ new.faults → StaysSteadfast old new → IsTurn more false pass old new
still more pass old new tally bins loaded log pending faults steady = (
  [],
  record {
    loaded = loaded;
    log = log ∙ sym (append-nil old.log);
    faults = faults;
    steady = steady.stays;
    tally = tally;
    bins = bins;
    handed = subst (λ (p : Option Commit). IsSublist (option_to_list p) (waiting (noted old) ++ [])) (sym pending) (same old.pending);
    own = All-nil (λ (c : Commit). c.pass ≡ pass);
  },
)
  where
    same : (p : Option Commit) → IsSublist (option_to_list p) (option_to_list p ++ [])
    same None = refl
    same (Some c) = inr ([], refl, refl)

-- a call that changes nothing
pub quiet_turn : (pass : ℕ) (hall : HallView) → IsTurn zeros false pass hall hall
quiet_turn pass hall = still zeros pass hall hall refl refl refl refl refl (le_refl hall.faults) (record { tells = refl; stays = λ _. refl })

-- what was pending is settled, and nothing is handed in
settled_turn : (pass : ℕ) (old new : HallView) → Settles old new → old.faults ≤ new.faults → StaysSteadfast old new → IsTurn zeros false pass old new
settled_turn pass old new settles faults steady =
    let s = settled_is old new settles in (
      s.0,
      record {
        loaded = s.1.loaded;
        log = s.1.log;
        faults = faults;
        steady = steady.stays;
        tally = ap note_of s.1.stock;
        bins = ap bins_in s.1.stock;
        handed = subst (λ (t : List Commit × List Commit). IsSublist t.0 t.1) (λ i. (sym (ap (λ (p : Option Commit). s.0 ++ option_to_list p) s.1.none ∙ append-nil s.0) i, sym (append-nil (waiting (noted old))) i)) s.1.handed;
        own = All-nil (λ (c : Commit). c.pass ≡ pass);
      },
    )

-- what was pending is settled, and an edit is handed in: it comes into the log, or is pending
handed_turn : (pass : ℕ) (old mid new : HallView) (commits more : List Commit) (c : Commit) → Settled old mid commits → c.pass ≡ pass → (noted new).loaded ≡ (noted mid).loaded → new.stock ≡ mid.stock → new.log ≡ mid.log ++ more
    → more ++ waiting (noted new) ≡ c ∷ [] → given true (noted new) ≡ c ∷ [] → old.faults ≤ new.faults → StaysSteadfast old new → IsTurn zeros true pass old new
handed_turn pass old mid new commits more c s own loaded tally log edits is faults steady = (
  commits ++ more,
  record {
    loaded = loaded ∙ s.loaded;
    log = log ∙ ap (λ (l : List Commit). l ++ more) s.log ∙ append_assoc old.log commits more;
    faults = faults;
    steady = steady.stays;
    tally = ap note_of (tally ∙ s.stock);
    bins = ap bins_in (tally ∙ s.stock);
    handed = subst (λ (t : List Commit × List Commit). IsSublist t.0 (waiting (noted old) ++ t.1)) (λ i. (sym (append_assoc commits more (waiting (noted new)) ∙ ap (λ (l : List Commit). commits ++ l) edits) i, sym is i)) (sublist_both commits (waiting (noted old)) c s.handed);
    own = subst (All (λ (d : Commit). d.pass ≡ pass)) (sym is) (All-cons (λ (d : Commit). d.pass ≡ pass) c [] own (All-nil (λ (d : Commit). d.pass ≡ pass)));
  },
)

module _ (old new : HallView) (ask : Ask) (csrf : Option (List ℕ)) (command : Command) (now pass : ℕ) where
  -- an accepted edit stands last in the log, and a failed one is pending
  pub accepted_given : (done : Done) (number : ℕ) (a : Accepts old new ask csrf command now pass done number) → (new.pending ≡ None) × (given true (noted new) ≡ a.commit ∷ [])
  accepted_given done number a =
      let none : new.pending ≡ None = ap (λ (h : HallView). h.pending) a.published ∙ (settled_is old a.settled a.settles).1.none in
      (none, ap (newest_of new.log) none ∙ ap last_of (ap (λ (h : HallView). h.log) a.published) ∙ last_snoc a.settled.log a.commit)

  pub failed_given : (f : FailsApply old new ask csrf command now pass) → given true (noted new) ≡ f.commit ∷ []
  failed_given f = ap (newest_of new.log) (ap (λ (h : HallView). h.pending) f.stays)

  accepted_turn : (done : Done) (number : ℕ) → Accepts old new ask csrf command now pass done number → old.faults ≤ new.faults → StaysSteadfast old new → IsTurn zeros true pass old new
  accepted_turn done number a faults steady =
      let s = settled_is old a.settled a.settles in
      let g = accepted_given done number a in
      handed_turn pass old a.settled new s.0 (a.commit ∷ []) a.commit s.1 a.pass_is (ap (λ (h : HallView). (noted h).loaded) a.published) (ap (λ (h : HallView). h.stock) a.published) (ap (λ (h : HallView). h.log) a.published)
      (ap (λ (p : Option Commit). a.commit ∷ option_to_list p) g.0) g.1 faults steady

  failed_turn : FailsApply old new ask csrf command now pass → old.faults ≤ new.faults → StaysSteadfast old new → IsTurn zeros true pass old new
  failed_turn f faults steady =
      let s = settled_is old f.settled f.settles in
      handed_turn pass old f.settled new s.0 [] f.commit s.1 f.pass_is (ap (λ (h : HallView). (noted h).loaded) f.stays) (ap (λ (h : HallView). h.stock) f.stays) (ap (λ (h : HallView). h.log) f.stays ∙ sym (append-nil f.settled.log))
      (ap (λ (h : HallView). option_to_list h.pending) f.stays) (failed_given f) faults steady

  head_turn : FailsHead old new → old.faults ≤ new.faults → StaysSteadfast old new → IsTurn zeros false pass old new
  head_turn f = still zeros pass old new (ap (λ (h : HallView). (noted h).tally) f.stays) (ap (λ (h : HallView). (noted h).bins) f.stays) (ap (λ (h : HallView). (noted h).loaded) f.stays) (ap (λ (h : HallView). h.log) f.stays) (ap (λ (h : HallView). h.pending) f.stays)

  -- an edit is a turn
  pub commit_turn : (a : Answer) (hands : Bool) → Answers a old new ask csrf command now pass → Tells a hands old new ask csrf command now pass → old.faults ≤ new.faults → StaysSteadfast old new → IsTurn zeros hands pass old new
  commit_turn (answer.Done done number) hands a tells faults steady = subst (λ (b : Bool). IsTurn zeros b pass old new) (sym tells) (accepted_turn done number a faults steady)
  commit_turn (answer.Refused refusal number) hands a tells faults steady = subst (λ (b : Bool). IsTurn zeros b pass old new) (sym tells) (settled_turn pass old new a.settles faults steady)
  commit_turn answer.Keeper true a tells faults steady = failed_turn tells faults steady
  commit_turn answer.Keeper false a tells faults steady = head_turn tells faults steady
  commit_turn answer.OutOfMemory hands a tells faults steady = subst (λ (b : Bool). IsTurn zeros b pass old new) (sym tells) (elim a [
    | inl e ↦ subst (λ (h : HallView). IsTurn zeros false pass old h) (sym e) (quiet_turn pass old)
    | inr s ↦ settled_turn pass old new s faults steady
  ])

-- ---- what is kept of pages

-- what is noted of a tally that counts a look
found_tally : (f : Found) (tally : Tally) → tally_note (looked f tally) ≡ raised (counts_of_found f) (tally_note tally)
found_tally (found.Entry e) tally = refl
found_tally (found.Redirect contexts) tally = refl
found_tally found.Absent tally = refl

-- a look that came to an answer is counted
some_look : (f : Found) → counts_of_found f ≡ zeros → ⊥
some_look (found.Entry e) is = one_not_zero (ap (λ (t : TallyNote). t.looks) is)
some_look (found.Redirect contexts) is = one_not_zero (ap (λ (t : TallyNote). t.looks) is)
some_look found.Absent is = one_not_zero (ap (λ (t : TallyNote). t.looks) is)

-- nothing but what is kept of pages changes
beside_counts : (more : TallyNote) (old new : HallSide) → new ≡ with_shelves old new.stock → note_of new.stock ≡ raised more (note_of old.stock) → (more ≡ zeros → bins_in new.stock ≡ bins_in old.stock) → Counts more (part_of old) (part_of new)
beside_counts more old new same tally still = record {
  base = ap (λ (h : HallSide). h.base) same;
  log = ap (λ (h : HallSide). h.log) same;
  pending = ap (λ (h : HallSide). h.pending) same;
  tally = tally;
  still = still;
}

-- a look is counted
pub look_counts : (result : Result Found AllocError) (old new : HallSide) (b : Bin) (key : Key) → LooksUp result old.stock new.stock b key → new ≡ with_shelves old new.stock → Counts (counts_of_look result) (part_of old) (part_of new)
look_counts (Ok f) old new b key looks same = beside_counts (counts_of_found f) old new same (ap tally_note looks.tally ∙ found_tally f (tally_in old.stock)) (λ none. absurd (some_look f none))
look_counts (Err e) old new b key looks same = beside_counts zeros old new same (ap note_of looks) (λ _. ap bins_in looks)

-- and so is keeping something
pub keep_counts : (result : Result (Unit {0}) AllocError) (old new : HallSide) (b : Bin) (key : Key) (k : Kept) → KeepsUnder result old.stock new.stock b key k → new ≡ with_shelves old new.stock → Counts (counts_of_keep result) (part_of old) (part_of new)
keep_counts (Ok done) old new b key k keeps same = beside_counts one_kept old new same (ap tally_note keeps.tally) (λ none. absurd (one_not_zero (ap (λ (t : TallyNote). t.kept) none)))
keep_counts (Err e) old new b key k keeps same = beside_counts zeros old new same (ap note_of keeps) (λ _. ap bins_in keeps)
