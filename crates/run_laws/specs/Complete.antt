-- What a connection does where nothing fails.
-- RFC 9112, sections 9.3 and 9.6.
use Rattle.std.specs.Prelude.{ℕ, List, [], ◌≡◌, ◌<◌, ◌⊎◌, Some}
use Rattle.http_heads.specs.declared.request.Request.{Request}
use Rattle.http_heads.specs.Requests.{End, Empty, Asks, Limit, Code, Cut, Reads}
use Rattle.site_io.specs.declared.ended.Ended.{Ended}
use Rattle.site_io.specs.declared.ended.Ended.TheVariants as ended
use Rattle.site_house.specs.History.{History, newest}
use Rattle.site_http.specs.Reply.{Story, refusal_text}
use Rattle.site_http.specs.Connection.{Around, Connection, CountsReads, CountsWrites, Gave, Texts, joined, saying}
use Rattle.site_http.specs.Work.{Bench, ServesOne, around_of}

-- the end of a connection, by what follows the last whole request of its input
abbrev pub ended_by : End → Ended
ended_by Empty = ended.Closed
ended_by Asks = ended.Asked
ended_by Limit = ended.Spent
ended_by (Code code) = ended.Refused code
ended_by (Cut size) = ended.Truncated size

-- what is written behind the last reply
abbrev pub closing_by : End → List ℕ
closing_by Empty = []
closing_by Asks = []
closing_by Limit = []
closing_by (Code code) = refusal_text code
closing_by (Cut size) = []

-- The connection ended as its requests do. Each of them has its reply, one whole text each, in order, and nothing else was written
-- but the refusal of what follows the last of them.
pub record AllReplied (e : Ended) (old new : Around) (history : History) (limit low : ℕ) (requests : List Request) (end : End) : Type 0 where
  pub end_is : e ≡ ended_by end
  pub story : Story
  pub texts : Texts history limit 0 low requests story
  pub gave : Gave old.out new.out (joined story (saying (closing_by end) story.high))

-- a count of faults stayed as it was, below the greatest u64
pub record StaysCounted (old new : ℕ) : Type 0 where
  pub same : new ≡ old
  pub short : old < 18446744073709551615

-- what holds of each connection over an input that is told, where no count of faults rose
abbrev pub IsComplete : Ended → Around → Around → History → ℕ → ℕ → Type 0
IsComplete e old new history limit low =
    (bytes : List ℕ) (requests : List Request) (end : End) → old.left ≡ Some bytes → Reads limit bytes requests end
    → AllReplied e old new history limit low requests end ⊎ (e ≡ ended.OutOfMemory)

abbrev pub ConnectionsComplete : Type 0
ConnectionsComplete =
    (e : Ended) (old new : Around) (history : History) (limit low reading reading' writing writing' : ℕ)
    → Connection e old new history limit low → CountsReads e reading reading' → CountsWrites e writing writing'
    → StaysCounted reading reading' → StaysCounted writing writing' → IsComplete e old new history limit low

abbrev pub WorkersComplete : Type 0
WorkersComplete =
    (old new : Bench) (one : ServesOne old new)
    → StaysCounted one.line.reading one.back.line.reading → StaysCounted one.line.writing one.back.line.writing
    → IsComplete one.back.end (around_of old one.line) (around_of new one.back.line) new.history 1000 (newest old.history)
