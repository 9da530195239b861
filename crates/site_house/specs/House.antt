-- The committed states of a site, as one caller sees them, what becomes of the caller's edits, and what is kept of pages.
use Rattle.std.specs.Prelude.{ℕ, List, [], ◌∷◌, ◌++◌, ◌≡◌, ◌≤◌, ◌+◌, ◌==◌, ◌⊎◌, Bool, true, Option, is_some, min, take, drop, All}
use Rattle.std.specs.List.{filter}
use Rattle.content_state.specs.State.{State}
use Rattle.content_state.specs.declared.ask.Ask.{Ask}
use Rattle.content_state.specs.declared.commit.Commit.{Commit}
use Rattle.content_state.specs.Replay.{replay, Begins, IsCommit}
use Rattle.content_state.specs.SiteRules.{IsValidState}
use Rattle.site_commands.specs.Causes.{Accepted, Refused}
use Rattle.site_commands.specs.Judged.{judged}
use Rattle.site_commands.specs.declared.answer.Answer.{Answer}
use Rattle.site_commands.specs.declared.answer.Answer.TheVariants as answer
use Rattle.site_commands.specs.declared.answer.Done.{Done}
use Rattle.site_commands.specs.declared.answer.Refusal.{Refusal}
use Rattle.site_commands.specs.declared.command.Command.{Command}
use Rattle.fragment_cache.specs.Bins.{Bins}
use Rattle.site_house.specs.History.{History, newest_of}

-- A base is valid, and so is each state that the edits of a log make of it; each edit writes to distinct cells.
pub record AreValid (base : State) (log : List Commit) : Type 0 where
  pub states : (count : ℕ) → IsValidState (replay base (take count log))
  pub commits : All IsCommit log

-- all that contracts see of a house
pub record HouseView : Type 0 where
  -- the state that was loaded, and the edits that the caller has seen since, the first one first
  pub base : State
  pub seen : List Commit
  -- the number of the caller's pass, which its edits bear, and how many edits the log had when the pass was opened
  pub number : ℕ
  pub opened : ℕ
  -- what the house works through, where it works through something that it borrows
  pub name : List ℕ
  -- how often the keeper of the rows has failed, up to the greatest u64
  pub faults : ℕ
  -- whether the keeper tells that it never fails
  pub steadfast : Bool
  -- the edits that the caller handed to it, the first one first
  pub handed : List Commit
  -- how often an edit was answered that the keeper failed, up to the greatest u64
  pub keepers : ℕ
  -- what is kept of pages, where the house tells it
  pub bins : Option Bins
  -- how often something wasn't kept for want of memory, up to the greatest u64
  pub unkept : ℕ

-- what a house has seen
abbrev pub history_of : HouseView → History
history_of house = record { base = house.base; log = house.seen; pass = house.number }

-- the edits of a pass
abbrev pub by_pass : ℕ → List Commit → List Commit
by_pass number log = filter (λ commit. commit.pass == number) log

-- the edits of the first list stand in the second, in the same order
abbrev pub IsSublist : List Commit → List Commit → Type 0
IsSublist own [] = own ≡ []
IsSublist own (commit ∷ others) =
    IsSublist own others ⊎ ((rest : List Commit) × (own ≡ commit ∷ rest) × IsSublist rest others)

-- each edit of its pass that came after the pass was opened is one that it handed in, and they stand in that order
abbrev pub AreOwn : HouseView → Type 0
AreOwn house = IsSublist (by_pass house.number (drop house.opened house.seen)) house.handed

-- a count that stays at the greatest u64 rose
abbrev pub CountRose : ℕ → ℕ → Type 0
CountRose old new = min (old + 1) 18446744073709551615 ≤ new

-- What every call does: it leaves base, number, opening and name as they were; what the caller has seen only grows, and
-- the count of faults never falls, nor does it rise where the keeper tells that it never fails. That the keeper failed is
-- answered only where that count rose. Where the edits of the pass were the caller's own, they still are. The house goes on
-- to tell what is kept, or not to, and the count of what wasn't kept never falls.
pub record Moves (old new : HouseView) : Type 0 where
  pub base : new.base ≡ old.base
  pub number : new.number ≡ old.number
  pub opened : new.opened ≡ old.opened
  pub name : new.name ≡ old.name
  pub grows : Begins old.seen new.seen
  pub never_falls : old.faults ≤ new.faults
  pub steadfast : new.steadfast ≡ old.steadfast
  pub never_fails : old.steadfast ≡ true → new.faults ≡ old.faults
  pub cause : (new.keepers ≡ old.keepers) ⊎ CountRose old.faults new.faults
  pub own : AreOwn old → AreOwn new
  pub told : is_some new.bins ≡ is_some old.bins
  pub unkept : old.unkept ≤ new.unkept

-- What every call but that of an edit does besides: nothing is handed in, and no edit is answered.
pub record Stays (old new : HouseView) : Type 0 where
  pub handed : new.handed ≡ old.handed
  pub keepers : new.keepers ≡ old.keepers

-- What every call does besides that neither looks for something nor keeps it: what is kept stays, in the same order.
pub record KeepsAll (old new : HouseView) : Type 0 where
  pub bins : new.bins ≡ old.bins
  pub unkept : new.unkept ≡ old.unkept

-- ---- what becomes of an edit

-- one more, up to the greatest u64
abbrev pub up : ℕ → ℕ
up count = min (count + 1) 18446744073709551615

-- An edit is accepted: it stands last in what is seen, was judged on all before it, and was handed in. What others, and
-- earlier edits of this caller that a keeper kept, put into the log comes before it.
pub record Accepts (old new : HouseView) (ask : Ask) (csrf : Option (List ℕ)) (command : Command) (now : ℕ) (done : Done) (number : ℕ) : Type 0 where
  pub before : List Commit
  pub commit : Commit
  pub begins : Begins old.seen before
  pub stands : new.seen ≡ before ++ commit ∷ []
  pub judged_is : judged new.base before ask csrf command now new.number ≡ Accepted commit done
  pub number_is : number ≡ newest_of new.base new.seen
  pub handed : new.handed ≡ old.handed ++ commit ∷ []
  pub keepers : new.keepers ≡ old.keepers

-- An edit is refused, as it was judged on all that is seen.
pub record Refuses (old new : HouseView) (ask : Ask) (csrf : Option (List ℕ)) (command : Command) (now : ℕ) (refusal : Refusal) (number : ℕ) : Type 0 where
  pub judged_is : judged new.base new.seen ask csrf command now new.number ≡ Refused refusal
  pub number_is : number ≡ newest_of new.base new.seen
  pub stays : Stays old new

-- what was handed in of an edit whose keeper failed: nothing, or the edit, as it was accepted on all that is seen
abbrev pub HandedAtMost : HouseView → Ask → Option (List ℕ) → Command → ℕ → List Commit → Type 0
HandedAtMost house ask csrf command now [] = Unit {0}
HandedAtMost house ask csrf command now (commit ∷ []) =
    (done : Done) × (judged house.base house.seen ask csrf command now house.number ≡ Accepted commit done)
HandedAtMost house ask csrf command now (commit ∷ other ∷ others) = ⊥

-- The keeper failed: its count of faults rose, and so did that of such answers.
pub record Fails (old new : HouseView) (ask : Ask) (csrf : Option (List ℕ)) (command : Command) (now : ℕ) : Type 0 where
  pub more : List Commit
  pub handed : new.handed ≡ old.handed ++ more
  pub at_most : HandedAtMost new ask csrf command now more
  pub keepers : new.keepers ≡ up old.keepers
  pub rose : CountRose old.faults new.faults

-- what becomes of an edit, by the answer
abbrev pub Answers : Answer → HouseView → HouseView → Ask → Option (List ℕ) → Command → ℕ → Type 0
Answers (answer.Done done number) old new ask csrf command now = Accepts old new ask csrf command now done number
Answers (answer.Refused refusal number) old new ask csrf command now = Refuses old new ask csrf command now refusal number
Answers answer.Keeper old new ask csrf command now = Fails old new ask csrf command now
Answers answer.OutOfMemory old new ask csrf command now = Stays old new
