-- A connection over a history is one over each longer history.
use Rattle.std.proofs.Common.{List, ℕ, length, inl, inr}
use Rattle.content_state.specs.declared.commit.Commit.{Commit}
use Rattle.http_heads.specs.Requests.{End}
use Rattle.site_io.specs.declared.ended.Ended.{Ended}
use Rattle.site_io.specs.declared.ended.Ended.TheVariants as ended
use Rattle.site_house.specs.History.{History, longer}
use Rattle.site_http.specs.Connection.{Around, Answered, Starved, Broken, BrokenLate, Connection, closes_after}
use Rattle.site_house.proofs.Histories.{newest_grows}
use Rattle.site_http.specs.Called.{ask_of}
use Rattle.site_http.proofs.Grow.{late_grows, text_grows, texts_grow}

answered_grows : {old new : Around} {history : History} (more : List Commit) {limit low : ℕ} {end : End} {closing : List ℕ} → Answered old new history limit low end closing → Answered old new (longer history more) limit low end closing
answered_grows {old} {new} {history} more {limit} {low} {end} {closing} a = record {
  taken = a.taken;
  requests = a.requests;
  story = a.story;
  went = a.went;
  reads = a.reads;
  texts = texts_grow history more limit 0 low a.requests a.story a.texts;
  not_above = newest_grows history more a.story.high a.not_above;
}

starved_grows : {old new : Around} {history : History} (more : List Commit) {limit low : ℕ} → Starved old new history limit low → Starved old new (longer history more) limit low
starved_grows {old} {new} {history} more {limit} {low} a = record {
  taken = a.taken;
  requests = a.requests;
  story = a.story;
  rest = a.rest;
  went = a.went;
  reads = a.reads;
  texts = texts_grow history more limit 0 low a.requests a.story a.texts;
  not_above = newest_grows history more a.story.high a.not_above;
}

broken_grows : {old new : Around} {history : History} (more : List Commit) {limit low : ℕ} → Broken old new history limit low → Broken old new (longer history more) limit low
broken_grows {old} {new} {history} more {limit} {low} a = record {
  taken = a.taken;
  requests = a.requests;
  story = a.story;
  rest = a.rest;
  last = a.last;
  count = a.count;
  went = a.went;
  reads = a.reads;
  texts = texts_grow history more limit 0 low a.requests a.story a.texts;
  not_above = newest_grows history more a.story.high a.not_above;
  next_is = elim a.next_is [
    | inl n ↦ inl (record {
      request = n.request;
      size = n.size;
      parses = n.parses;
      reply = text_grows history more a.story.high n.request (closes_after limit (length a.requests) n.request) a.last n.reply;
      not_above = newest_grows history more a.last.high n.not_above;
    })
    | inr r ↦ inr r
  ];
}

broken_late_grows : {old new : Around} {history : History} (more : List Commit) {limit low least : ℕ} → BrokenLate old new history limit low least → BrokenLate old new (longer history more) limit low least
broken_late_grows {old} {new} {history} more {limit} {low} {least} a = record {
  taken = a.taken;
  requests = a.requests;
  story = a.story;
  rest = a.rest;
  last = a.last;
  count = a.count;
  parts = a.parts;
  some = a.some;
  went = a.went;
  reads = a.reads;
  texts = texts_grow history more limit 0 low a.requests a.story a.texts;
  not_above = newest_grows history more a.story.high a.not_above;
  next_is = record {
    request = a.next_is.request;
    size = a.next_is.size;
    parses = a.next_is.parses;
    late = a.next_is.late;
    reply = late_grows history more a.story.high (ask_of a.next_is.request) (closes_after limit (length a.requests) a.next_is.request) a.last a.next_is.reply;
    not_above = newest_grows history more a.last.high a.next_is.not_above;
  };
}

pub grows : (e : Ended) (old new : Around) (history : History) (more : List Commit) (limit low : ℕ) → Connection e old new history limit low → Connection e old new (longer history more) limit low
grows ended.Closed old new history more limit low c = (answered_grows more c.0, c.1)
grows (ended.Truncated n) old new history more limit low c = (answered_grows more c.0, c.1)
grows ended.Asked old new history more limit low c = answered_grows more c
grows ended.Spent old new history more limit low c = answered_grows more c
grows (ended.Refused code) old new history more limit low c = answered_grows more c
grows ended.ReadFault old new history more limit low c =
    record { end = c.end; unfinished = c.unfinished; answered = answered_grows more c.answered }
grows ended.WriteFault old new history more limit low c = elim c [
  | inl b ↦ inl (broken_grows more b)
  | inr l ↦ inr (broken_late_grows more l)
]
grows ended.OutOfMemory old new history more limit low c = elim c [
  | inl s ↦ inl (starved_grows more s)
  | inr l ↦ inr (broken_late_grows more l)
]
