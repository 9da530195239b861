-- Why requests were not all answered.
use Rattle.std.specs.Prelude.{ℕ, List, ◌≡◌, Option, Some, None, length}
use Rattle.http_heads.specs.declared.request.Request.{Request}
use Rattle.http_heads.specs.Requests.{End, Empty, Reads}
use Rattle.site_io.specs.declared.ended.Ended.{Ended}
use Rattle.site_io.specs.declared.ended.Ended.TheVariants as ended
use Rattle.site_drill.specs.declared.served.Stop.{Stop}
use Rattle.site_drill.specs.declared.served.Stop.TheVariants as stop

-- These bytes are no 900 whole requests with nothing after them, read as a connection reads them: one that asks to close is the
-- last of which the connection knows.
abbrev pub AreNoRequests : List ℕ → Type 0
AreNoRequests bytes = (requests : List Request) → length requests ≡ 900 → Reads 1000 bytes requests Empty → ⊥

-- why they were not all answered: they are no such requests, or memory was wanting
abbrev pub NotAnswered : Stop → List ℕ → Type 0
NotAnswered stop.Unanswered bytes = AreNoRequests bytes
NotAnswered stop.OutOfMemory bytes = Unit {0}

-- how these bytes read where at most so many requests are answered: not as that many whole requests with nothing after them
pub record ReadsOtherwise (limit count : ℕ) (bytes : List ℕ) : Type 0 where
  pub requests : List Request
  pub end : End
  pub reads : Reads limit bytes requests end
  pub otherwise : length requests ≡ count → end ≡ Empty → ⊥

-- why the requests that are still to come, so many of them, were not all answered
abbrev pub StopsAt : Stop → ℕ → ℕ → List ℕ → Type 0
StopsAt stop.Unanswered limit count bytes = ReadsOtherwise limit count bytes
StopsAt stop.OutOfMemory limit count bytes = Unit {0}

-- why requests were not all answered whose connection ended so; none is that the input ended
abbrev pub stop_of : Ended → Option Stop
stop_of ended.Closed = None
stop_of ended.OutOfMemory = Some stop.OutOfMemory
stop_of ended.WriteFault = Some stop.OutOfMemory
stop_of (ended.Truncated n) = Some stop.Unanswered
stop_of ended.Asked = Some stop.Unanswered
stop_of ended.Spent = Some stop.Unanswered
stop_of (ended.Refused code) = Some stop.Unanswered
stop_of ended.ReadFault = Some stop.Unanswered
