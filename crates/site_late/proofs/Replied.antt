-- A late reply, of what was sent first and what was sent behind it.
use Rattle.std.proofs.Common.{◌≡◌, ◌∙◌, ◌+◌, ◌++◌, ◌<◌, List, [], ◌∷◌, ℕ, suc, Bool, Option, ap, sym, refl, subst, arith, append_assoc, length, length-append, replicate, take}
use Rattle.content_state.specs.State.{State}
use Rattle.content_state.specs.declared.ask.Ask.{Ask}
use Rattle.content_state.specs.declared.element.Hole.{Hole}
use Rattle.http_heads.specs.Reply.{head_text, version_mark}
use Rattle.http_heads.specs.declared.reply.ReplyHead.{ReplyHead}
use Rattle.late_pages.specs.Late.{LatePart, PartsShow, parts_sent}
use Rattle.render_array.specs.Shown.{visit_of}
use Rattle.site_house.specs.House.{HouseView, Moves, history_of}
use Rattle.site_house.specs.History.{History, OnLog, newest, state_of}
use Rattle.site_house.proofs.Histories.{history_moves, on_grows, state_grows}
use Rattle.site_io.specs.declared.device.Point.{Point}
use Rattle.site_io.specs.declared.device.Point.TheVariants.{AfterSnapshot, BeforeReply, BeforePart}
use Rattle.site_io.specs.Reached.{and_point}
use Rattle.site_io.specs.Told.{after, AddsFront}
use Rattle.site_late.specs.Heads.{late_head, media_of}
use Rattle.site_late.specs.Ready.{IsReady, SendsRest}
use Rattle.site_late.specs.Making.{MakesBegun}
use Rattle.site_late.specs.Sending.{Around, Begins, IsLateReply, NeededFirst, SaysSome, Sends, Until, and_points, is_short, late_points, places_sent, reader_of}
use Rattle.site_late.specs.declared.late.Ready.{Ready}
use Rattle.site_late.specs.declared.late.Sent.{Sent}
use Rattle.site_late.specs.declared.late.Sent.TheVariants as sent
use Rattle.site_house.proofs.Moving.{moves_same}
use Rattle.site_late.proofs.Joining.{front_in}
use Rattle.site_late.proofs.Making.{begun_none}
use Rattle.site_late.proofs.Sends.{Ends, may_end}
use Rattle.site_late.proofs.Told.{after_after, after_nothing, point_of, points_nothing, points_points}

-- a head isn't empty
pub head_some : (h : ReplyHead) → 0 < length (head_text h)
unfolding head_text version_mark
head_some h = omega arith

-- what was made on a state that the house had seen then, and has seen now
pub moved_on : (old : HouseView) {mid new : HouseView} (number : ℕ) → Moves mid new → OnLog (history_of mid) (newest (history_of old)) number → OnLog (history_of new) (newest (history_of old)) number
moved_on old {mid} {new} number behind on =
    subst (λ (h : History). OnLog h (newest (history_of old)) number) (sym (history_moves behind)) (on_grows (history_of mid) behind.grows.0 (newest (history_of old)) number on)

pub state_on : {mid new : HouseView} (low number : ℕ) → Moves mid new → OnLog (history_of mid) low number → state_of (history_of mid) number ≡ state_of (history_of new) number
state_on {mid} {new} low number behind on =
    sym (state_grows (history_of mid) behind.grows.0 number on.to) ∙ ap (λ (h : History). state_of h number) (sym (history_moves behind))

-- the points so far
begun_points : (points first second : Option (List Point)) (built : ℕ) → first ≡ and_point points AfterSnapshot → second ≡ and_point first (BeforeReply built) → second ≡ and_points points (AfterSnapshot ∷ BeforeReply built ∷ [])
begun_points points first second built one two =
    two ∙ point_of first (BeforeReply built) ∙ ap (λ (o : Option (List Point)). and_points o (BeforeReply built ∷ [])) (one ∙ point_of points AfterSnapshot)
    ∙ points_points points (AfterSnapshot ∷ []) (BeforeReply built ∷ [])

pub all_points : (points first second later : Option (List Point)) (built parts : ℕ) → first ≡ and_point points AfterSnapshot → second ≡ and_point first (BeforeReply built) → later ≡ and_points second (replicate parts BeforePart) → later ≡ and_points points (late_points built parts)
all_points points first second later built parts one two three =
    three ∙ ap (λ (o : Option (List Point)). and_points o (replicate parts BeforePart)) (begun_points points first second built one two)
    ∙ points_points points (AfterSnapshot ∷ BeforeReply built ∷ []) (replicate parts BeforePart)

-- what was written of it
take_behind : (xs ys : List ℕ) (n : ℕ) → xs ++ take n ys ≡ take (length xs + n) (xs ++ ys)
take_behind [] ys n = ap (λ (k : ℕ). take k ys) {x = n} {y = 0 + n} (omega arith)
take_behind (x ∷ xs) ys n =
    ap (λ (l : List ℕ). x ∷ l) (take_behind xs ys n)
    ∙ ap (λ (k : ℕ). take k (x ∷ (xs ++ ys))) {x = suc (length xs + n)} {y = length (x ∷ xs) + n} (omega arith)

until_on : (how : Sent) (count parts : ℕ) (all rest : List ℕ) (done bytes : ℕ) → length all ≡ done + length rest → Until how count parts rest bytes → Until how count parts all (done + bytes)
until_on sent.NotBegun count parts all rest done bytes long until = until
until_on sent.Written count parts all rest done bytes long until = (until.0, ap (λ (n : ℕ). done + n) until.1 ∙ sym long)
until_on sent.WriteFault count parts all rest done bytes long until = let within = until.1 in (until.0, omega (arith, long, within))
until_on sent.OutOfMemory count parts all rest done bytes long until = let within = until.1 in (until.0, omega (arith, long, within))

some_on : (how : Sent) (done bytes : ℕ) → 0 < done → SaysSome how (done + bytes)
some_on sent.NotBegun done bytes some = tt
some_on sent.Written done bytes some = tt
some_on sent.WriteFault done bytes some = tt
some_on sent.OutOfMemory done bytes some = omega (arith, some)

-- the text so far, of what was sent first and of what makes a page of it
abbrev text_of : Ready → List ℕ → List ℕ
text_of r rest = r.head.items ++ (r.late.parts ++ rest)

begins : (how : Sent) {old mid new : HouseView} (r : Ready) (state : State) (ask : Ask) (moment : ℕ) (closing : Bool) (points first second later : Option (List Point)) (written later-written : Option (List ℕ)) (rest : List ℕ) (count : ℕ) (places : List Hole) (parts bytes : ℕ)
    → IsReady state old mid ask moment closing r → Moves old mid → Moves mid new → Ends state.rows ask moment r.late.status (r.late.parts ++ rest) count places
    → first ≡ and_point points AfterSnapshot → second ≡ and_point first (BeforeReply r.late.built) → later ≡ and_points second (replicate parts BeforePart)
    → later-written ≡ after written (take bytes (text_of r rest)) → Until how count parts (text_of r rest) bytes → SaysSome how bytes → (parts ≡ 0 → new ≡ mid) → MakesBegun (is_short how) (reader_of state ask moment) places parts mid new
    → Begins how (record { house = old; points = points; written = written }) (record { house = new; points = later; written = later-written }) ask moment closing
begins how {old} {mid} {new} r state ask moment closing points first second later written later-written rest count places parts bytes i before behind ends one two three wrote until some still made =
    let here : state ≡ state_of (history_of new) i.number = i.state_is ∙ state_on (newest (history_of old)) i.number behind i.on in
    record {
      number = i.number;
      on = moved_on old i.number behind i.on;
      count = count;
      places = places;
      text = text_of r rest;
      reply = subst (λ (s : State). IsLateReply s ask moment closing count places (text_of r rest)) here (record {
        status = r.late.status;
        body = r.late.parts ++ rest;
        page = ends.page;
        count_is = sym ends.parts;
        places_are = sym ends.places_are;
        text_is = ap (λ (h : List ℕ). h ++ (r.late.parts ++ rest)) i.head_is;
      });
      built = r.late.built;
      middle = mid;
      first = subst (λ (s : State). NeededFirst s ask moment r.late.built old mid) here i.needed;
      before = before;
      behind = behind;
      parts = parts;
      bytes = bytes;
      points = all_points points first second later r.late.built parts one two three;
      written = wrote;
      until = until;
      some = some;
      still = still;
      made = subst (λ (s : State). MakesBegun (is_short how) (reader_of s ask moment) places parts mid new) here made;
    }

-- a front of what is sent first was written
pub sends_front : {old mid : HouseView} (r : Ready) (state : State) (ask : Ask) (moment : ℕ) (closing : Bool) (points first second : Option (List Point)) (written later-written : Option (List ℕ))
    → IsReady state old mid ask moment closing r → Moves old mid → (parts : List LatePart) × PartsShow (visit_of state.rows ask moment) r.late.holes.items parts
    → first ≡ and_point points AfterSnapshot → second ≡ and_point first (BeforeReply r.late.built) → AddsFront written later-written (r.head.items ++ r.late.parts)
    → Begins sent.WriteFault (record { house = old; points = points; written = written }) (record { house = mid; points = second; written = later-written }) ask moment closing
sends_front {old} {mid} r state ask moment closing points first second written later-written i before parts one two front =
    let e = may_end state.rows ask moment r.late.status r.late.parts r.late.holes.items i.opened.first parts in
    let whole = front_in written written later-written (text_of r e.0) [] (r.head.items ++ r.late.parts) e.0 (sym (append_assoc r.head.items r.late.parts e.0)) (after_nothing written) front in
    begins sent.WriteFault r state ask moment closing points first second second written later-written e.0 e.1 r.late.holes.items 0 whole.count
    i before (moves_same mid) e.2 one two (points_nothing second) whole.told (omega arith, whole.within) tt (λ none. refl) (begun_none (reader_of state ask moment) r.late.holes.items mid)

-- and so much of what stands behind it
pub sends_rest : (how : Sent) {old mid new : HouseView} (r : Ready) (state : State) (ask : Ask) (moment : ℕ) (closing : Bool) (points first second later : Option (List Point)) (written now later-written : Option (List ℕ))
    → IsReady state old mid ask moment closing r → Moves old mid → Moves mid new
    → first ≡ and_point points AfterSnapshot → second ≡ and_point first (BeforeReply r.late.built) → now ≡ after written (r.head.items ++ r.late.parts)
    → SendsRest how mid new state ask moment r second later now later-written
    → Begins how (record { house = old; points = points; written = written }) (record { house = new; points = later; written = later-written }) ask moment closing
sends_rest how {old} {mid} {new} r state ask moment closing points first second later written now later-written i before behind one two wrote s =
    let done = r.head.items ++ r.late.parts in
    let same : done ++ s.rest ≡ text_of r s.rest = append_assoc r.head.items r.late.parts s.rest in
    let long : length (text_of r s.rest) ≡ length done + length s.rest = ap length (sym same) ∙ length-append done s.rest in
    let head : 0 < length r.head.items =
    subst (λ (l : List ℕ). 0 < length l) (sym i.head_is) (head_some (late_head (media_of ask.path) r.late.status state.number closing)) in
    let some : 0 < length done = omega (arith, head, length-append r.head.items r.late.parts) in
    begins how r state ask moment closing points first second later written later-written s.rest (parts_sent s.page) (places_sent s.page) s.parts (length done + s.bytes)
    i before behind (record { page = s.page; parts = refl; places_are = refl }) one two s.told
    (s.wrote ∙ ap (λ (o : Option (List ℕ)). after o (take s.bytes s.rest)) wrote ∙ after_after written done (take s.bytes s.rest)
    ∙ ap (after written) (take_behind done s.rest s.bytes ∙ ap (take (length done + s.bytes)) same))
    (until_on how (parts_sent s.page) s.parts (text_of r s.rest) s.rest (length done) s.bytes long s.until)
    (some_on how (length done) s.bytes some) s.still s.made

-- what became of it
pub sends_by : (how : Sent) {old new : Around} (ask : Ask) (moment : ℕ) (closing : Bool) → Begins how old new ask moment closing → Sends how old new ask moment closing
sends_by sent.NotBegun ask moment closing b = absurd b.until
sends_by sent.Written ask moment closing b = b
sends_by sent.WriteFault ask moment closing b = b
sends_by sent.OutOfMemory ask moment closing b = b
