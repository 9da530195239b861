-- What a connection takes, shows, writes and hands in, by how it ends: the promise of the whole host.
use Rattle.std.specs.Prelude.{ℕ, zero, suc, List, [], ◌∷◌, ◌++◌, ◌≡◌, ◌≤◌, ◌+◌, ◌-◌, ◌==◌, ◌||◌, ◌⊎◌, Bool, true, Option, take, length}
use Rattle.content_state.specs.declared.commit.Commit.{Commit}
use Rattle.site_io.specs.declared.device.Point.{Point}
use Rattle.site_io.specs.declared.ended.Ended.{Ended}
use Rattle.site_io.specs.declared.ended.Ended.TheVariants as ended
use Rattle.site_io.specs.Memory.{up}
use Rattle.site_io.specs.Told.{before, after, IsNothingLeft, Rose}
use Rattle.http_heads.specs.declared.request.Request.{Request}
use Rattle.http_heads.specs.declared.parsed.Parsed.TheVariants.{Whole, Refused}
use Rattle.http_heads.specs.Parses.{Parses}
use Rattle.content_state.specs.Ask.{IsAsk}
use Rattle.http_heads.specs.Requests.{End, Empty, Asks, Limit, Code, Cut, Reads}
use Rattle.site_house.specs.History.{History, newest}
use Rattle.kept_pages.specs.Held.{Shelves}
use Rattle.site_http.specs.Called.{ask_of}
use Rattle.site_http.specs.Kept.{KeepsFor}
use Rattle.site_http.specs.Reply.{Story, IsLate, IsText, broken_at, refusal_text}
use Rattle.site_late.specs.Sending.{and_points}

-- whether the connection closes after the reply of this index
abbrev pub closes_after : ℕ → ℕ → Request → Bool
closes_after limit index request = request.closes || (index + 1) == limit

-- no reply yet
abbrev pub nothing : ℕ → Story
nothing low = record { moments = []; words = []; points = []; text = []; handed = []; keepers = 0; high = low; needs = [] }

-- bytes that are no reply to a request
abbrev pub saying : List ℕ → ℕ → Story
saying text low = record (nothing low) { text = text }

-- one story, and then another
abbrev pub joined : Story → Story → Story
joined first second = record {
  moments = first.moments ++ second.moments;
  words = first.words ++ second.words;
  points = first.points ++ second.points;
  text = first.text ++ second.text;
  handed = first.handed ++ second.handed;
  keepers = first.keepers + second.keepers;
  high = second.high;
  needs = first.needs ++ second.needs;
}

-- a story of whose bytes so many were written
abbrev pub cut_at : ℕ → Story → Story
cut_at count story = record story { text = take count story.text }

-- the first reply, and the others after it
pub record NextText (history : History) (limit index low : ℕ) (request : Request) (story : Story) (Others : ℕ → Story → Type 0) : Type 0 where
  pub mine : Story
  pub rest : Story
  pub story_is : story ≡ joined mine rest
  pub reply : IsText history low request (closes_after limit index request) mine
  pub others : Others mine.high rest

-- The replies to these requests, one story each, in order, the first of this index. No number is below `low`, nor below
-- an earlier one.
abbrev pub Texts : History → ℕ → ℕ → ℕ → List Request → Story → Type 0
Texts history limit index low [] story = story ≡ nothing low
Texts history limit index low (request ∷ requests) story =
    NextText history limit index low request story
    (λ number rest. Texts history limit (index + 1) number requests rest)

-- what a connection adds to: the moments and words that were given, the points that were told, the bytes that were
-- written, the edits that were handed in, how often an edit was answered that the keeper failed, and what the house keeps
pub record Out : Type 0 where
  pub given : Option (List ℕ)
  pub words : Option (List ℕ)
  pub points : Option (List Point)
  pub written : Option (List ℕ)
  pub handed : List Commit
  pub keepers : ℕ
  pub kept : Option Shelves

-- that, and the bytes that are left to take
pub record Around : Type 0 where
  pub left : Option (List ℕ)
  pub out : Out

-- so many more, up to the greatest u64
abbrev pub raised : ℕ → ℕ → ℕ
raised count zero = count
raised count (suc more) = raised (up count) more

-- a story was told, and nothing else
pub record Gave (old new : Out) (story : Story) : Type 0 where
  pub clock : new.given ≡ after old.given story.moments
  pub chance : new.words ≡ after old.words story.words
  pub gate : new.points ≡ and_points old.points story.points
  pub sink : new.written ≡ after old.written story.text
  pub house : new.handed ≡ old.handed ++ story.handed
  pub failures : new.keepers ≡ raised old.keepers story.keepers
  pub kept : KeepsFor story.needs old.kept new.kept

-- these bytes were taken, and a story was told
pub record Went (old new : Around) (taken : List ℕ) (story : Story) : Type 0 where
  pub source : old.left ≡ before taken new.left
  pub gave : Gave old.out new.out story

-- The requests of the bytes taken, with this end, were answered: one text each, in order, and then this text.
pub record Answered (old new : Around) (history : History) (limit low : ℕ) (end : End) (closing : List ℕ) : Type 0 where
  pub taken : List ℕ
  pub requests : List Request
  pub story : Story
  pub went : Went old new taken (joined story (saying closing story.high))
  pub reads : Reads limit taken requests end
  pub texts : Texts history limit 0 low requests story
  pub not_above : story.high ≤ newest history

-- The input failed: each whole request of the bytes taken was answered before more was read.
pub record Interrupted (old new : Around) (history : History) (limit low : ℕ) : Type 0 where
  pub end : End
  pub unfinished : (end ≡ Empty) ⊎ ((n : ℕ) × (end ≡ Cut n))
  pub answered : Answered old new history limit low end []

-- Memory was wanting to read on: the first requests of the bytes taken were answered, one whole text each, in order,
-- and what follows them is to be read in the rest.
pub record Starved (old new : Around) (history : History) (limit low : ℕ) : Type 0 where
  pub taken : List ℕ
  pub requests : List Request
  pub story : Story
  pub rest : List ℕ
  pub went : Went old new taken story
  pub reads : (others : List Request) (end : End) → Reads (limit - length requests) rest others end → Reads limit taken (requests ++ others) end
  pub texts : Texts history limit 0 low requests story
  pub not_above : story.high ≤ newest history

-- the next request is there, and this is the story of its reply
pub record NextReply (history : History) (limit index low : ℕ) (rest : List ℕ) (story : Story) : Type 0 where
  pub request : Request
  pub size : ℕ
  pub parses : Parses rest (Whole request size)
  pub reply : IsText history low request (closes_after limit index request) story
  pub not_above : story.high ≤ newest history

-- the next request is there, it asks for parts sent late, and this is the story of its page
pub record NextLate (history : History) (limit index low : ℕ) (rest : List ℕ) (story : Story) : Type 0 where
  pub request : Request
  pub size : ℕ
  pub parses : Parses rest (Whole request size)
  pub late : request.late ≡ true
  pub reply : IsLate history low (ask_of request) (closes_after limit index request) story
  pub not_above : story.high ≤ newest history

-- what comes next is refused, and this says so
pub record NextRefusal (low : ℕ) (rest : List ℕ) (story : Story) : Type 0 where
  pub code : ℕ
  pub parses : Parses rest (Refused code)
  pub story_is : story ≡ saying (refusal_text code) low

-- The output failed: the first requests of the bytes taken were answered, one whole text each, in order, and of the next
-- text, a reply's or a refusal's, a front was written. What that reply took and handed in was taken and handed in.
pub record Broken (old new : Around) (history : History) (limit low : ℕ) : Type 0 where
  pub taken : List ℕ
  pub requests : List Request
  pub story : Story
  pub rest : List ℕ
  pub last : Story
  pub count : ℕ
  pub went : Went old new taken (joined story (cut_at count last))
  pub reads : (others : List Request) (end : End) → Reads (limit - length requests) rest others end → Reads limit taken (requests ++ others) end
  pub texts : Texts history limit 0 low requests story
  pub not_above : story.high ≤ newest history
  pub next_is : NextReply history limit (length requests) story.high rest last ⊎ NextRefusal story.high rest last

-- A late reply broke off: the first requests of the bytes taken were answered, one whole text each, in order, and of the next, a late
-- reply's, a front was written. What was told and needed of it was until then. Memory was wanting for `short` of its parts, none or the
-- last one that was begun, and where it was something was written before.
pub record BrokenLate (old new : Around) (history : History) (limit low short : ℕ) : Type 0 where
  pub taken : List ℕ
  pub requests : List Request
  pub story : Story
  pub rest : List ℕ
  pub last : Story
  pub count : ℕ
  pub parts : ℕ
  pub some : short ≤ count
  pub went : Went old new taken (joined story (broken_at short count parts last))
  pub reads : (others : List Request) (end : End) → Reads (limit - length requests) rest others end → Reads limit taken (requests ++ others) end
  pub texts : Texts history limit 0 low requests story
  pub not_above : story.high ≤ newest history
  pub next_is : NextLate history limit (length requests) story.high rest last

-- Whatever other callers read and edit meanwhile: what a connection took, showed, wrote and handed in, by its end.
-- `history` is what its house has seen at the end, `low` the number of what it had seen at the beginning.
abbrev pub Connection : Ended → Around → Around → History → ℕ → ℕ → Type 0
Connection ended.Closed old new history limit low = Answered old new history limit low Empty [] × IsNothingLeft new.left
Connection (ended.Truncated n) old new history limit low = Answered old new history limit low (Cut n) [] × IsNothingLeft new.left
Connection ended.Asked old new history limit low = Answered old new history limit low Asks []
Connection ended.Spent old new history limit low = Answered old new history limit low Limit []
Connection (ended.Refused code) old new history limit low = Answered old new history limit low (Code code) (refusal_text code)
Connection ended.ReadFault old new history limit low = Interrupted old new history limit low
Connection ended.WriteFault old new history limit low = Broken old new history limit low ⊎ BrokenLate old new history limit low 0
Connection ended.OutOfMemory old new history limit low = Starved old new history limit low ⊎ BrokenLate old new history limit low 1

-- A fault of the input is told exactly where its count of faults rose, and one of the output where its own did; at every
-- other end the counts are as they were.
abbrev pub CountsReads : Ended → ℕ → ℕ → Type 0
CountsReads ended.ReadFault old new = Rose old new
CountsReads _ old new = new ≡ old

abbrev pub CountsWrites : Ended → ℕ → ℕ → Type 0
CountsWrites ended.WriteFault old new = Rose old new
CountsWrites _ old new = new ≡ old

-- what a whole request asks has the path and the query of its target
abbrev pub AreAsks : Type 0
AreAsks = (bytes : List ℕ) → (request : Request) → (size : ℕ) → Parses bytes (Whole request size) → IsAsk (ask_of request)
