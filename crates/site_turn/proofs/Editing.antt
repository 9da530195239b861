-- What the calls of an edit are under the rule of turns, and to the hall with its desk.
use Rattle.std.proofs.Common.{◌≡◌, ◌+◌, ◌==◌, ℕ, List, [], ◌∷◌, ◌++◌, length, Bool, true, false, Option, Some, None, inl, inr, option_to_list, refl, sym, ap, ◌∙◌, subst, append-nil, le_refl, arith}
use Rattle.std.specs.Prelude.{if◌then◌else◌}
use Rattle.std.proofs.lemmas.List.Elements.{All-nil, All-cons}
use Rattle.std.proofs.lemmas.Bool.Decides.{nat_tests}
use Rattle.content_state.specs.Replay.{replay}
use Rattle.content_state.specs.declared.commit.Commit.{Commit}
use Rattle.site_keeper.specs.Batch.{Batch}
use Rattle.site_keeper.specs.Keeper.{Kept, IfTold, held_of}
use Rattle.site_keeper.specs.Steps.{batch_of}
use Rattle.site_keeper.proofs.Keeping.{number_after}
use Rattle.site_house.specs.House.{IsSublist}
use Rattle.site_hall.specs.Hall.{HallView, number_of, Settles, settled_by}
use Rattle.site_hall.specs.Sides.{HallSide, DeskSide, engine_of, settled_side, announced, none_pending, with_batch_pending, TellsKept}
use Rattle.turn_rule.specs.declared.notes.DeskPart.{DeskPart}
use Rattle.turn_rule.specs.Logs.{desk_part, whole_of, Agree}
use Rattle.turn_rule.specs.Steps.{zeros, Counts, TurnsBoth, Forgets}
use Rattle.site_table.specs.Views.{Place, part_of, part_at}
use Rattle.site_turn.specs.Edits.{hall_at, engine_at, settled_engine, announced_engine}

-- ---- turns

-- a snapshot leaves all as it was
pub still : (hall : HallSide) → Counts zeros (part_of hall) (part_of hall)
still hall = record { base = refl; log = refl; pending = refl; tally = refl; still = λ _. refl }

-- what comes into the log where an edit is settled
abbrev pub came : Bool → Commit → List Commit
came kept c = if kept then c ∷ [] else []

pub grown_is : (kept : Bool) (c : Commit) → (if kept then 1 else 0) ≡ length (came kept c)
grown_is true c = refl
grown_is false c = refl

-- what was pending is settled
pub settled_turn : (kept : Bool) (hall : HallSide) (part : DeskPart) (n : ℕ) (c : Commit) → hall.pending ≡ Some c → TurnsBoth false n part (part_of hall) (part_of (settled_side kept hall.pending hall)) (came kept c)
settled_turn kept hall part n c is = subst (λ (p : Option Commit). TurnsBoth false n part (part_of hall) (part_of (settled_side kept p hall)) (came kept c)) (sym is) (by_choice kept)
  where
    by_choice : (b : Bool) → TurnsBoth false n part (part_of hall) (part_of (settled_side b (Some c) hall)) (came b c)
    by_choice true = record {
      base = refl;
      turns = record {
        loaded = refl;
        log = refl;
        faults = le_refl part.faults;
        steady = λ _. refl;
        tally = refl;
        bins = refl;
        handed = subst (λ (p : Option Commit). IsSublist (c ∷ []) (option_to_list p ++ [])) (sym is) (inr ([], refl, refl));
        own = All-nil (λ (x : Commit). x.pass ≡ n);
      };
    }
    by_choice false = record {
      base = refl;
      turns = record {
        loaded = refl;
        log = sym (append-nil hall.log);
        faults = le_refl part.faults;
        steady = λ _. refl;
        tally = refl;
        bins = refl;
        handed = subst (λ (p : Option Commit). IsSublist [] (option_to_list p ++ [])) (sym is) (inl refl);
        own = All-nil (λ (x : Commit). x.pass ≡ n);
      };
    }

-- an edit is announced: it is handed in, and pending
pub announced_turn : (hall : HallSide) (part : DeskPart) (n : ℕ) (c : Commit) → hall.pending ≡ None → c.pass ≡ n → TurnsBoth true n part (part_of hall) (part_of (announced c hall)) []
announced_turn hall part n c none own = record {
  base = refl;
  turns = record {
    loaded = refl;
    log = sym (append-nil hall.log);
    faults = le_refl part.faults;
    steady = λ _. refl;
    tally = refl;
    bins = refl;
    handed = subst (λ (p : Option Commit). IsSublist (c ∷ []) (option_to_list p ++ c ∷ [])) (sym none) (inr ([], refl, refl));
    own = All-cons (λ (x : Commit). x.pass ≡ n) c [] own (All-nil (λ (x : Commit). x.pass ≡ n));
  };
}

-- memory was wanting: nothing changes
pub stays_turn : (hall : HallSide) (part : DeskPart) (n : ℕ) → TurnsBoth false n part (part_of hall) (part_of hall) []
stays_turn hall part n = record {
  base = refl;
  turns = record {
    loaded = refl;
    log = sym (append-nil hall.log);
    faults = le_refl part.faults;
    steady = λ _. refl;
    tally = refl;
    bins = refl;
    handed = same hall.pending;
    own = All-nil (λ (x : Commit). x.pass ≡ n);
  };
}
  where
    same : (p : Option Commit) → IsSublist (option_to_list p) (option_to_list p ++ [])
    same None = refl
    same (Some c) = inr ([], refl, refl)

-- the edit that was announced is forgotten
pub forgotten_turn : (hall : HallSide) (part : DeskPart) (n : ℕ) (c : Commit) → Agree (part_of hall) part → hall.pending ≡ Some c → c.pass ≡ n → Forgets n c part (part_of hall) (part_of (settled_side false hall.pending hall))
forgotten_turn hall part n c agree is own = record {
  pending = sym agree.pending ∙ is;
  own = own;
  new_is = ap (λ (p : Option Commit). part_of (settled_side false p hall)) is;
}

-- ---- the hall with its desk

-- what settling makes of it
pub settled_is : (kept : Bool) (me : Place) (hall hall' : HallSide) (desk desk' : DeskSide) (c : Commit) → Agree (part_of hall) (part_at me) → (part_at me).pending ≡ Some c → hall' ≡ settled_side kept hall.pending hall → desk' ≡ none_pending desk
    → engine_of (part_at me).loaded.told (hall_at (desk_part (whole_of (part_of hall') (part_at me)))) desk' ≡ settled_engine kept (part_at me).pending (engine_at me desk)
settled_is kept me hall hall' desk desk' c agree one settled desk_is =
    (λ i. engine_of (part_at me).loaded.told (hall_at (desk_part (whole_of (part_of (is i)) (part_at me)))) (desk_is i))
    ∙ (λ i. engine_of (part_at me).loaded.told (record { base = (part_at me).loaded.base; log = if kept then agree.log i ++ c ∷ [] else agree.log i; pending = None; stock = (hall_at (part_at me)).stock }) (none_pending desk))
    ∙ ap (λ (p : Option Commit). settled_engine kept p (engine_at me desk)) (sym one)
  where
    is : hall' ≡ settled_side kept (Some c) hall
    is = settled ∙ ap (λ (p : Option Commit). settled_side kept p hall) (agree.pending ∙ one)

-- and announcing
pub announced_is : (me : Place) (hall hall' : HallSide) (desk desk' : DeskSide) (c : Commit) (batch : Batch) → Agree (part_of hall) (part_at me) → hall' ≡ announced c hall → desk' ≡ with_batch_pending batch desk
    → engine_of (part_at me).loaded.told (hall_at (desk_part (whole_of (part_of hall') (part_at me)))) desk' ≡ announced_engine c (engine_at me desk)
announced_is me hall hall' desk desk' c batch agree is desk_is =
    (λ i. engine_of (part_at me).loaded.told (hall_at (desk_part (whole_of (part_of (is i)) (part_at me)))) (desk_is i))
    ∙ (λ i. engine_of (part_at me).loaded.told (record { base = (part_at me).loaded.base; log = agree.log i; pending = Some c; stock = (hall_at (part_at me)).stock }) desk)

-- and where nothing changes
pub stays_is : (me : Place) (hall hall' : HallSide) (desk desk' : DeskSide) → Agree (part_of hall) (part_at me) → hall' ≡ hall → desk' ≡ desk
    → engine_of (part_at me).loaded.told (hall_at (desk_part (whole_of (part_of hall') (part_at me)))) desk' ≡ engine_at me desk
stays_is me hall hall' desk desk' agree is desk_is =
    (λ i. engine_of (part_at me).loaded.told (hall_at (desk_part (whole_of (part_of (is i)) (part_at me)))) (desk_is i))
    ∙ (λ i. engine_of (part_at me).loaded.told (record { base = (part_at me).loaded.base; log = agree.log i; pending = agree.pending i; stock = (hall_at (part_at me)).stock }) desk)

-- ---- what the keeper tells settles

same_number : (n : ℕ) → (n == n) ≡ true
same_number n = grind (arith, nat_tests)

zero_above : (n : ℕ) → (0 == n + 1) ≡ false
zero_above n = grind (arith, nat_tests)

-- a number that the keeper may have told
record IsHead (kept : Option Kept) (number : ℕ) (flag : Bool) : Type 0 where
  head : ℕ
  held_is : IfTold kept (λ held. head ≡ held.head)
  decides : (head == number + 1) ≡ flag

head_is : (kept : Option Kept) (number : ℕ) (flag : Bool) → IfTold kept (λ held. flag ≡ (held.head == number + 1)) → IsHead kept number flag
head_is None number true told = record { head = number + 1; held_is = tt; decides = same_number (number + 1) }
head_is None number false told = record { head = 0; held_is = tt; decides = zero_above number }
head_is (Some kept) number flag told = record { head = (held_of kept).head; held_is = refl; decides = sym told }

told_so : (kept : Option Kept) (engine : HallView) (batch : Batch) (flag : Bool) → batch.head ≡ number_of engine + 1 → IfTold kept (λ held. flag ≡ (held.head == batch.head)) → IfTold kept (λ held. flag ≡ (held.head == number_of engine + 1))
told_so None engine batch flag is told = tt
told_so (Some kept) engine batch flag is told = told ∙ ap (λ (n : ℕ). (held_of kept).head == n) is

pub settles : (engine : HallView) (c : Commit) (desk : DeskSide) (flag : Bool) → engine.pending ≡ Some c → engine.kept ≡ desk.kept → desk.pending ≡ Some (batch_of (replay engine.base engine.log) c) → TellsKept desk.kept desk.pending flag → Settles engine (settled_engine flag engine.pending engine)
settles engine c desk flag one kept batch tells = record { head = head.head; held_is = head.held_is; settled = same }
  where
    told : IfTold engine.kept (λ held. flag ≡ (held.head == (replay engine.base engine.log).number + 1))
    told = subst (λ (k : Option Kept). IfTold k (λ held. flag ≡ (held.head == (replay engine.base engine.log).number + 1))) (sym kept) (subst (λ (b : Option Batch). TellsKept desk.kept b flag) batch tells)

    head : IsHead engine.kept (number_of engine) flag
    head = head_is engine.kept (number_of engine) flag (told_so engine.kept engine (batch_of (replay engine.base engine.log) c) flag (ap (λ (n : ℕ). n + 1) (number_after engine.base engine.log)) told)

    same : settled_engine flag engine.pending engine ≡ settled_by engine head.head engine.pending
    same = ap (λ (p : Option Commit). settled_engine flag p engine) one
        ∙ ap (λ (b : Bool). settled_engine b (Some c) engine) (sym head.decides)
        ∙ ap (λ (p : Option Commit). settled_by engine head.head p) (sym one)
