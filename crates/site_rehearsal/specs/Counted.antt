-- The numbers that are told: each accepted edit adds one, and all else leaves the number as it is.
use Rattle.std.specs.Prelude.{ℕ, List, [], ◌∷◌, ◌≡◌, ◌+◌}
use Rattle.site_commands.specs.declared.answer.Answer.{Answer}
use Rattle.site_commands.specs.declared.answer.Answer.TheVariants as answer
use Rattle.site_rehearsal.specs.declared.turn.Reply.{Reply}
use Rattle.site_rehearsal.specs.declared.turn.Reply.TheVariants as reply

-- the number of the newest state after an edit, where it was this before
abbrev pub number_after : ℕ → Answer → ℕ
number_after number (answer.Done done told) = number + 1
number_after number (answer.Refused refusal told) = number
number_after number answer.Keeper = number
number_after number answer.OutOfMemory = number

-- an edit tells the number of the state that was the newest then
abbrev pub TellsEdit : ℕ → Answer → Type 0
TellsEdit number (answer.Done done told) = told ≡ number + 1
TellsEdit number (answer.Refused refusal told) = told ≡ number
TellsEdit number answer.Keeper = ⊥
TellsEdit number answer.OutOfMemory = ⊥

abbrev pub number_then : ℕ → Reply → ℕ
number_then number (reply.Commit a) = number_after number a
number_then number (reply.Snapshot told) = number
number_then number (reply.Look found fresh) = number
number_then number (reply.Build text) = number
number_then number (reply.Keep kept) = number

abbrev pub TellsNumber : ℕ → Reply → Type 0
TellsNumber number (reply.Commit a) = TellsEdit number a
TellsNumber number (reply.Snapshot told) = told ≡ number
TellsNumber number (reply.Look found fresh) = Unit {0}
TellsNumber number (reply.Build text) = Unit {0}
TellsNumber number (reply.Keep kept) = Unit {0}

-- A snapshot tells this number and as many more as edits were accepted before it; an edit that is accepted tells the number of
-- the state that it makes, and one that is refused that of the newest one.
abbrev pub AreCounted : ℕ → List Reply → Type 0
AreCounted number [] = Unit {0}
AreCounted number (r ∷ replies) = TellsNumber number r × AreCounted (number_then number r) replies
