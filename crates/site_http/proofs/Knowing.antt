-- A known request is answered as the request that it is.
use Rattle.std.proofs.Common.{◌++◌, ◌+◌, ◌==◌, ◌||◌, ◌⊎◌, List, [], ℕ, Bool, Option, None, Some, length, sym, subst, inl, inr}
use Rattle.content_state.specs.declared.ask.Ask.{Ask}
use Rattle.content_state.specs.Ask.{IsAsk}
use Rattle.http_heads.specs.declared.request.Request.{Request}
use Rattle.site_house.specs.History.{History}
use Rattle.site_io.specs.declared.ended.Ended.TheVariants as ended
use Rattle.site_http.specs.declared.answer.Made.{Made}
use Rattle.site_http.specs.declared.call.Asked.{Asked}
use Rattle.site_http.specs.declared.known.KnownRequest.{KnownRequest}
use Rattle.site_http.specs.Called.{Called, ask_of, called, called_of}
use Rattle.site_http.specs.Connection.{Out}
use Rattle.site_http.specs.Known.{IsAskedBy, IsKnown}
use Rattle.site_http.specs.Turn.{Making, Makes, Replied, HalfReplied, LateAnswered, LateReplied, TookKnown, Turned}
use Rattle.site_http.proofs.Alone.{begun_with}
use Rattle.site_http.proofs.Asks.{are_asks}

-- what is known asks as a request does
pub known_asks : (known : KnownRequest) → IsKnown known → IsAsk known.asked.ask
known_asks known is = subst IsAsk (sym is.asks.ask) (are_asks _ is.request (length known.bytes.items) (is.plain.alone []))

-- what is made for what is asked is made for the request
pub makes_of : {old new : Making} (request : Request) (asked : Asked) (moment : ℕ) (closing : Bool) (text : Made) → IsAskedBy request asked → Makes old new (called_of asked.call asked.csrf) asked.ask moment closing text → Makes old new (called request) (ask_of request) moment closing text
makes_of {old} {new} request asked moment closing text is makes =
    subst (λ (a : Ask). Makes old new (called request) a moment closing text) is.ask
    (subst (λ (c : Called). Makes old new c asked.ask moment closing text) is.call makes)

-- a known request was taken and answered
pub took_known : {left rest : Option (List ℕ)} {old new : Out} {history : History} {limit index low : ℕ} {buffer others : List ℕ} (known : KnownRequest) → IsKnown known → TookKnown known left rest buffer others
    → ((request : Request) → IsAskedBy request known.asked → Replied old new history low request ((index + 1) == limit)) → Turned None (record { left = left; out = old }) (record { left = rest; out = new }) history limit index low buffer others
took_known {left} {rest} {old} {new} {history} {limit} {index} {low} {buffer} {others} known is took replied = record {
  more = took.more;
  request = is.request;
  size = length known.bytes.items;
  source = took.source;
  needed = took.needed;
  parses = begun_with known.bytes.items (buffer ++ took.more) is.request is.plain.alone took.begins;
  kept = took.kept;
  closes_is = is.plain.goes_on;
  replied = subst (λ (b : Bool). Replied old new history low is.request (b || (index + 1) == limit)) (sym is.plain.goes_on) (replied is.request is.asks);
}

-- it isn't a late one, which would ask to close: whatever is said of such a one
late_known : {left rest : Option (List ℕ)} {old new : Out} {history : History} {limit index low least : ℕ} {buffer others : List ℕ} (known : KnownRequest) → (is : IsKnown known) → TookKnown known left rest buffer others
    → LateReplied old new history low is.request ((index + 1) == limit) least → LateAnswered (record { left = left; out = old }) (record { left = rest; out = new }) history limit index low buffer least
late_known {left} {rest} {old} {new} {history} {limit} {index} {low} {least} {buffer} {others} known is took late = record {
  more = took.more;
  request = is.request;
  size = length known.bytes.items;
  source = took.source;
  needed = took.needed;
  parses = begun_with known.bytes.items (buffer ++ took.more) is.request is.plain.alone took.begins;
  replied = subst (λ (b : Bool). LateReplied old new history low is.request (b || (index + 1) == limit) least) (sym is.plain.goes_on) late;
}

-- and its reply was written in part
pub half_known : {left rest : Option (List ℕ)} {old new : Out} {history : History} {limit index low : ℕ} {buffer others : List ℕ} (known : KnownRequest) → IsKnown known → TookKnown known left rest buffer others
    → ((request : Request) → IsAskedBy request known.asked → HalfReplied old new history low request ((index + 1) == limit) ⊎ LateReplied old new history low request ((index + 1) == limit) 0) → Turned (Some ended.WriteFault) (record { left = left; out = old }) (record { left = rest; out = new }) history limit index low buffer others
half_known {left} {rest} {old} {new} {history} {limit} {index} {low} {buffer} {others} known is took replied = elim (replied is.request is.asks) [
  | inl half ↦ inl (record {
    more = took.more;
    request = is.request;
    size = length known.bytes.items;
    source = took.source;
    needed = took.needed;
    parses = begun_with known.bytes.items (buffer ++ took.more) is.request is.plain.alone took.begins;
    replied = subst (λ (b : Bool). HalfReplied old new history low is.request (b || (index + 1) == limit)) (sym is.plain.goes_on) half;
  })
  | inr late ↦ inr (inr (late_known known is took late))
]

pub broken_known : {left rest : Option (List ℕ)} {old new : Out} {history : History} {limit index low : ℕ} {buffer others : List ℕ} (known : KnownRequest) → IsKnown known → TookKnown known left rest buffer others
    → ((request : Request) → IsAskedBy request known.asked → LateReplied old new history low request ((index + 1) == limit) 1) → Turned (Some ended.OutOfMemory) (record { left = left; out = old }) (record { left = rest; out = new }) history limit index low buffer others
broken_known known is took replied = inr (late_known known is took (replied is.request is.asks))
