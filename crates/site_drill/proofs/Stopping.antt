-- How the bytes of a drill read whose requests were not all answered.
use Rattle.std.proofs.Common.{◌≡◌, ◌∙◌, ◌++◌, ◌+◌, ◌-◌, ◌<◌, ◌≤◌, List, [], ◌∷◌, ℕ, suc, true, false, Option, Some, None, length, drop, ap, sym, refl, subst, arith, length-append, append_assoc}
use Rattle.std.specs.Option.{unwrap_or}
use Rattle.std.proofs.lemmas.List.{append-nil, length-map}
use Rattle.http_heads.specs.declared.request.Request.{Request}
use Rattle.http_heads.specs.Requests.{End, Empty, Asks, Code, Cut, ending, Reads}
use Rattle.http_heads.proofs.Laws.{reads_closing, reads_next, reads_once, reads_part, reads_refused}
use Rattle.http_heads.proofs.Total.{reads_some}
use Rattle.site_house.specs.History.{History}
use Rattle.site_io.specs.Told.{before, IsNothingLeft, Rose}
use Rattle.site_io.specs.declared.ended.Ended.{Ended}
use Rattle.site_io.specs.declared.ended.Ended.TheVariants as ended
use Rattle.site_http.specs.Connection.{Around}
use Rattle.site_http.specs.Turn.{Ends, Refuses, TookOne, Turned, TurnReads}
use Rattle.site_drill.specs.Replies.{Exchange, requests_of}
use Rattle.site_drill.specs.Stops.{AreNoRequests, NotAnswered, ReadsOtherwise, StopsAt, stop_of}
use Rattle.site_drill.specs.declared.served.Stop.{Stop}
use Rattle.site_drill.specs.declared.served.Stop.TheVariants as stop
use Rattle.site_drill.proofs.Underway.{Underway, inner}

asks_not_empty : Asks ≡ Empty → ⊥
asks_not_empty same = cc

code_not_empty : (code : ℕ) → Code code ≡ Empty → ⊥
code_not_empty code same = cc

cut_not_empty : (n : ℕ) → Cut n ≡ Empty → ⊥
cut_not_empty n same = cc

-- where nothing follows there are no bytes
ends_empty : (bytes : List ℕ) → ending bytes ≡ Empty → 0 ≡ length bytes
ends_empty [] same = refl
ends_empty (b ∷ bytes) same = absurd (cut_not_empty (length (b ∷ bytes)) same)

-- what a source has left before a piece is taken
taken_first : (left left-after more : List ℕ) → Some left ≡ before more (Some left-after) → left ≡ more ++ left-after
taken_first left left-after more source = inner source

-- the bytes of the buffer and the source, once a piece of the source was taken
in_pieces : (buffer left left-after more : List ℕ) → Some left ≡ before more (Some left-after) → (buffer ++ more) ++ left-after ≡ buffer ++ left
in_pieces buffer left left-after more source =
    append_assoc buffer more left-after ∙ ap (λ (l : List ℕ). buffer ++ l) (sym (taken_first left left-after more source))

nothing_after : (left-after : List ℕ) (left : Option (List ℕ)) → left ≡ Some left-after → IsNothingLeft left → left-after ≡ []
nothing_after left-after left is nothing = subst IsNothingLeft is nothing

-- a reading that ends otherwise than with nothing, of bytes and a limit under other names
reads_so : (k index : ℕ) (here bytes : List ℕ) (requests : List Request) (end : End) → suc k ≡ 1000 - index → here ≡ bytes → (length requests ≡ 900 - index → end ≡ Empty → ⊥) → Reads (suc k) here requests end → ReadsOtherwise (1000 - index) (900 - index) bytes
reads_so k index here bytes requests end limit same otherwise reads = record {
  requests = requests;
  end = end;
  reads =
      subst (λ (n : ℕ). Reads n bytes requests end) limit
      (subst (λ (l : List ℕ). Reads (suc k) l requests end) same reads);
  otherwise = otherwise;
}

-- counts alone: where a turn is known too, `omega` reads it through
one_less : (index : ℕ) → index < 1000 → suc (1000 - (index + 1)) ≡ 1000 - index
one_less index few = omega arith

none_left : (index more : ℕ) → 900 ≤ index → suc more ≡ 900 - index → ⊥
none_left index more late all = absurd (omega arith)

some_left : (index : ℕ) → index < 900 → 900 - index ≡ 0 → ⊥
some_left index few none = absurd (omega arith)

few_yet : (index : ℕ) → index < 900 → index < 1000
few_yet index few = omega arith

still_to_come : (all done rest count : ℕ) → all ≡ 900 → all ≡ done + rest → done ≡ count → rest ≡ 900 - count
still_to_come all done rest count all_is parts done_is = omega arith

at_the_end : (count : ℕ) → count ≤ 900 → 900 ≤ count → 900 ≡ count
at_the_end count few late = omega arith

-- the input ended before the last of them
ends_early : {now new : Around} {index size : ℕ} {buffer : List ℕ} (left left-after : List ℕ) → index < 1000 → now.left ≡ Some left → new.left ≡ Some left-after → Ends now new buffer size → (900 - index ≡ 0 → size ≡ 0 → ⊥) → ReadsOtherwise (1000 - index) (900 - index) (buffer ++ left)
ends_early {now} {new} {index} {size} {buffer} left left-after few was is e early =
    let k = 1000 - (index + 1) in
    let source : Some left ≡ before e.more (Some left-after) = sym was ∙ e.source ∙ ap (before e.more) is in
    let nothing : left-after ≡ [] = nothing_after left-after new.left is e.nothing in
    let same : buffer ++ e.more ≡ buffer ++ left = sym (append-nil (buffer ++ e.more)) ∙ ap (λ (l : List ℕ). (buffer ++ e.more) ++ l) (sym nothing) ∙ in_pieces buffer left left-after e.more source in
    reads_so k index (buffer ++ e.more) (buffer ++ left) [] (ending (buffer ++ e.more)) (one_less index few) same
    (λ none empty. early (sym none) (e.size_is ∙ sym (ends_empty (buffer ++ e.more) empty)))
    (reads_part k (buffer ++ e.more) e.parses)

-- a request asked to close
asks_to_close : {now new : Around} {history : History} {index low : ℕ} {buffer buffer' : List ℕ} (left left-after : List ℕ) → index < 1000 → now.left ≡ Some left → new.left ≡ Some left-after → TookOne now new history 1000 index low buffer buffer' true → ReadsOtherwise (1000 - index) (900 - index) (buffer ++ left)
asks_to_close {now} {new} {history} {index} {low} {buffer} {buffer'} left left-after few was is t =
    let k = 1000 - (index + 1) in
    let source : Some left ≡ before t.more (Some left-after) = sym was ∙ t.source ∙ ap (before t.more) is in
    reads_so k index ((buffer ++ t.more) ++ left-after) (buffer ++ left) (t.request ∷ []) Asks (one_less index few) (in_pieces buffer left left-after t.more source)
    (λ all empty. asks_not_empty empty)
    (reads_closing k (buffer ++ t.more) left-after t.request t.size t.parses t.closes_is)

-- what came was refused
is_refused : {now new : Around} {index code : ℕ} {buffer : List ℕ} (left left-after : List ℕ) → index < 1000 → now.left ≡ Some left → new.left ≡ Some left-after → Refuses now new buffer code → ReadsOtherwise (1000 - index) (900 - index) (buffer ++ left)
is_refused {now} {new} {index} {code} {buffer} left left-after few was is r =
    let k = 1000 - (index + 1) in
    let source : Some left ≡ before r.more (Some left-after) = sym was ∙ r.source ∙ ap (before r.more) is in
    reads_so k index ((buffer ++ r.more) ++ left-after) (buffer ++ left) [] (Code code) (one_less index few) (in_pieces buffer left left-after r.more source)
    (λ all empty. code_not_empty code empty)
    (reads_refused k (buffer ++ r.more) left-after code r.parses)

-- one request more came than there are to be
pub one_more : {now new : Around} {history : History} {index low : ℕ} {buffer buffer' : List ℕ} (left left-after : List ℕ) → index < 1000 → 900 ≤ index → now.left ≡ Some left → new.left ≡ Some left-after → TookOne now new history 1000 index low buffer buffer' false → ReadsOtherwise (1000 - index) (900 - index) (buffer ++ left)
one_more {now} {new} {history} {index} {low} {buffer} {buffer'} left left-after few late was is t =
    let k = 1000 - (index + 1) in
    let source : Some left ≡ before t.more (Some left-after) = sym was ∙ t.source ∙ ap (before t.more) is in
    let (later, end, reads) = reads_some k (drop t.size (buffer ++ t.more) ++ left-after) in
    reads_so k index ((buffer ++ t.more) ++ left-after) (buffer ++ left) (t.request ∷ later) end (one_less index few) (in_pieces buffer left left-after t.more source)
    (λ all empty. none_left index (length later) late all)
    (reads_next k (buffer ++ t.more) left-after t.request t.size later end t.parses t.closes_is reads)

some_none : {why : Stop} → Some why ≡ None → ⊥
some_none same = cc

-- what was found to be the reason is the reason
unanswered : {limit count : ℕ} {bytes : List ℕ} (why : Stop) → Some why ≡ Some stop.Unanswered → ReadsOtherwise limit count bytes → StopsAt why limit count bytes
unanswered {limit} {count} {bytes} why is_why reads = subst (λ (w : Stop). StopsAt w limit count bytes) (sym (inner is_why)) reads

starved : (limit count : ℕ) (bytes : List ℕ) (why : Stop) → Some why ≡ Some stop.OutOfMemory → StopsAt why limit count bytes
starved limit count bytes why is_why = subst (λ (w : Stop). StopsAt w limit count bytes) (sym (inner is_why)) tt

-- only where the input ended there is no reason
pub closed_only : (end : Ended) → stop_of end ≡ None → end ≡ ended.Closed
closed_only ended.Closed none = refl
closed_only (ended.Truncated n) none = absurd (some_none none)
closed_only ended.Asked none = absurd (some_none none)
closed_only ended.Spent none = absurd (some_none none)
closed_only (ended.Refused code) none = absurd (some_none none)
closed_only ended.ReadFault none = absurd (some_none none)
closed_only ended.OutOfMemory none = absurd (some_none none)
closed_only ended.WriteFault none = absurd (some_none none)

never_rose : Rose 0 0 → ⊥
never_rose rose = absurd (omega (arith, rose))

-- a turn that ended otherwise than with the input: a source that never fails has no fault
pub turn_stops : (now new : Around) (history : History) (index low : ℕ) (buffer buffer' : List ℕ) (end : Ended) (why : Stop) (left left-after : List ℕ) → Some why ≡ stop_of end → index < 1000 → now.left ≡ Some left → new.left ≡ Some left-after → TurnReads (Some end) 0 0 → Turned (Some end) now new history 1000 index low buffer buffer' → StopsAt why (1000 - index) (900 - index) (buffer ++ left)
turn_stops now new history index low buffer buffer' ended.Closed why left left-after is_why few was is counts turned = absurd (some_none is_why)
turn_stops now new history index low buffer buffer' (ended.Truncated n) why left left-after is_why few was is counts turned =
    unanswered why is_why (ends_early left left-after few was is turned.0 (λ none empty. turned.1 empty))
turn_stops now new history index low buffer buffer' ended.Asked why left left-after is_why few was is counts turned = unanswered why is_why (asks_to_close left left-after few was is turned)
turn_stops now new history index low buffer buffer' ended.Spent why left left-after is_why few was is counts turned = absurd turned
turn_stops now new history index low buffer buffer' (ended.Refused code) why left left-after is_why few was is counts turned = unanswered why is_why (is_refused left left-after few was is turned.refuses)
turn_stops now new history index low buffer buffer' ended.ReadFault why left left-after is_why few was is counts turned = absurd (never_rose counts)
turn_stops now new history index low buffer buffer' ended.OutOfMemory why left left-after is_why few was is counts turned = starved (1000 - index) (900 - index) (buffer ++ left) why is_why
turn_stops now new history index low buffer buffer' ended.WriteFault why left left-after is_why few was is counts turned = starved (1000 - index) (900 - index) (buffer ++ left) why is_why

-- a turn that ended where another request was to come
pub early_stops : (now new : Around) (history : History) (index low : ℕ) (buffer buffer' : List ℕ) (end : Ended) (found : Option Stop) (why : Stop) (left left-after : List ℕ) → found ≡ stop_of end → why ≡ unwrap_or found stop.Unanswered → index < 900 → now.left ≡ Some left → new.left ≡ Some left-after → TurnReads (Some end) 0 0 → Turned (Some end) now new history 1000 index low buffer buffer' → StopsAt why (1000 - index) (900 - index) (buffer ++ left)
early_stops now new history index low buffer buffer' end (Some other) why left left-after found_is why_is few was is counts turned =
    turn_stops now new history index low buffer buffer' end why left left-after (ap Some why_is ∙ found_is) (few_yet index few) was is counts turned
early_stops now new history index low buffer buffer' end None why left left-after found_is why_is few was is counts turned =
    let closed : end ≡ ended.Closed = closed_only end (sym found_is) in
    let ends : Ends now new buffer 0 = subst (λ (e : Ended). Turned (Some e) now new history 1000 index low buffer buffer') closed turned in
    unanswered why (ap Some why_is) (ends_early left left-after (few_yet index few) was is ends (λ none empty. some_left index few none))

-- the whole of the bytes reads as it was read, and in no other way
whole_otherwise : {old now : Around} {history : History} {low count pages seen : ℕ} {buffer : List ℕ} (left-before left : List ℕ) → old.left ≡ Some left-before → now.left ≡ Some left → Underway old now history low count pages seen buffer → ReadsOtherwise (1000 - count) (900 - count) (buffer ++ left) → AreNoRequests left-before
whole_otherwise {old} {now} {history} {low} {count} {pages} {seen} {buffer} left-before left was is u r requests count_is whole =
    let source : Some left-before ≡ before u.taken (Some left) = sym was ∙ u.went.source ∙ ap (before u.taken) is in
    let reads : Reads 1000 left-before (requests_of u.exchanges ++ r.requests) r.end =
    subst (λ (l : List ℕ). Reads 1000 l (requests_of u.exchanges ++ r.requests) r.end) (sym (taken_first left-before left u.taken source)) (u.reads left r.requests r.end r.reads) in
    let same = reads_once 1000 left-before requests (requests_of u.exchanges ++ r.requests) Empty r.end whole reads in
    r.otherwise
    (still_to_come (length requests) (length (requests_of u.exchanges)) (length r.requests) count count_is
    (ap length same.same_requests ∙ length-append (requests_of u.exchanges) r.requests)
    (length-map u.exchanges (λ (e : Exchange). e.request) ∙ u.count_is))
    (sym same.same_end)

-- why the requests still to come were not all answered is why not all were
pub stops_in : {old now : Around} {history : History} {low count pages seen : ℕ} {buffer : List ℕ} (why : Stop) (left-before left : List ℕ) → old.left ≡ Some left-before → now.left ≡ Some left → Underway old now history low count pages seen buffer → StopsAt why (1000 - count) (900 - count) (buffer ++ left) → NotAnswered why left-before
stops_in stop.Unanswered left-before left was is u r = whole_otherwise left-before left was is u r
stops_in stop.OutOfMemory left-before left was is u r = tt

-- the same after all of them
pub last_stops : {old now : Around} {history : History} {low count pages seen : ℕ} {buffer : List ℕ} (why : Stop) (left-before left : List ℕ) → old.left ≡ Some left-before → now.left ≡ Some left → count ≤ 900 → 900 ≤ count → Underway old now history low count pages seen buffer → StopsAt why (1000 - 900) (900 - 900) (buffer ++ left) → NotAnswered why left-before
last_stops {old} {now} {history} {low} {count} {pages} {seen} {buffer} why left-before left was is few late u r =
    let all = at_the_end count few late in
    stops_in why left-before left was is u (subst (λ (n : ℕ). StopsAt why (1000 - n) (900 - n) (buffer ++ left)) all r)
