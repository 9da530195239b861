-- What one turn of a connection does: the next request, and its reply.
use Rattle.std.specs.Prelude.{ℕ, List, [], ◌∷◌, ◌++◌, ◌≡◌, ◌≤◌, ◌<◌, ◌⊎◌, Option, Some, None, IfSome, Bool, true, false, drop, length}
use Rattle.content_state.specs.declared.ask.Ask.{Ask}
use Rattle.content_state.specs.State.{State}
use Rattle.site_io.specs.declared.device.Point.{Point}
use Rattle.site_io.specs.declared.device.Point.TheVariants.{BeforeReply}
use Rattle.site_io.specs.declared.ended.Ended.{Ended}
use Rattle.site_io.specs.declared.ended.Ended.TheVariants as ended
use Rattle.site_io.specs.Told.{before, after, IsNothingLeft, Rose}
use Rattle.http_heads.specs.declared.request.Request.{Request}
use Rattle.http_heads.specs.declared.parsed.Parsed.TheVariants.{Whole, More, Refused}
use Rattle.http_heads.specs.Parses.{Parses}
use Rattle.site_house.specs.House.{HouseView, history_of}
use Rattle.site_http.specs.declared.answer.Made.{Made}
use Rattle.site_http.specs.declared.answer.Made.TheVariants as made
use Rattle.site_http.specs.declared.answer.Outcome.{Outcome}
use Rattle.site_http.specs.declared.answer.Outcome.TheVariants.{Written, WriteFault}
use Rattle.site_http.specs.declared.answer.Outcome.TheVariants as outcome
use Rattle.site_http.specs.declared.next.Next.{Next}
use Rattle.site_http.specs.declared.next.Next.TheVariants as next
use Rattle.site_http.specs.declared.next.Trouble.{Trouble}
use Rattle.site_http.specs.declared.next.Trouble.TheVariants.{ReadFault, OutOfMemory}
use Rattle.site_house.specs.History.{History, OnLog, newest, state_of}
use Rattle.edit_bodies.specs.declared.words.Words.{Words}
use Rattle.edit_replies.specs.Texts.{done_text}
use Rattle.site_http.specs.Called.{Called, ToEdit, Wish, ask_of}
use Rattle.site_http.specs.Kept.{KeepsFor, shelves_of}
use Rattle.std.specs.Arc.{arc_value}
use Rattle.std.specs.declared.sync.Arc.{Arc}
use Rattle.std.specs.declared.alloc.Global.{Global}
use Rattle.site_http.specs.declared.known.KnownRequest.{KnownRequest}
use Rattle.site_http.specs.declared.recent.RecentReply.{RecentReply}
use Rattle.site_http.specs.Known.{Begins, IsKnown, IsPlain}
use Rattle.site_http.specs.Recent.{given_bytes, Remembered, AreRecent}
use Rattle.site_http.specs.Reply.{Story, IsAnswer, IsLate, IsText, broken_at, listed, refusal_text}
use Rattle.site_late.specs.Sending.{and_points}
use Rattle.site_http.specs.Connection.{Out, Around, Gave, raised, saying, cut_at, closes_after, CountsReads, CountsWrites}

-- some bytes were taken
pub record Takes (left left-after : Option (List ℕ)) : Type 0 where
  pub more : List ℕ
  pub source : left ≡ before more left-after

-- some bytes were taken, and stand in the buffer; none is the end
pub record ReadsMore (left left-after : Option (List ℕ)) (buffer buffer-after : List ℕ) (some : Bool) : Type 0 where
  pub more : List ℕ
  pub source : left ≡ before more left-after
  pub buffer_is : buffer-after ≡ buffer ++ more
  pub grows : some ≡ true → 0 < length more
  pub ends : some ≡ false → (more ≡ []) × IsNothingLeft left-after

-- where reading failed, nothing was taken
abbrev pub NotRead : Trouble → Option (List ℕ) → Option (List ℕ) → Type 0
NotRead ReadFault left left-after = left-after ≡ left
NotRead OutOfMemory left left-after = Takes left left-after

-- a fault of reading is told exactly where the count rose
abbrev pub Faulted : Trouble → ℕ → ℕ → Type 0
Faulted ReadFault old new = Rose old new
Faulted OutOfMemory old new = new ≡ old

abbrev pub FaultedNext : Next → ℕ → ℕ → Type 0
FaultedNext (next.Trouble t) old new = Faulted t old new
FaultedNext (next.Request r bytes) old new = new ≡ old
FaultedNext (next.Known k) old new = new ≡ old
FaultedNext (next.Refused c) old new = new ≡ old
FaultedNext (next.End n) old new = new ≡ old

-- what the bytes are that were read, all of them, and what stays in the buffer
abbrev pub Decides : Next → Option (List ℕ) → List ℕ → List ℕ → Type 0
Decides (next.Request r bytes) left-after all buffer-after = (size : ℕ) × Parses all (Whole r size) × (buffer-after ≡ drop size all) × IfSome bytes (λ b. IsPlain b.items r)
Decides (next.Known k) left-after all buffer-after = Begins (arc_value k) all × (buffer-after ≡ drop (length (arc_value k).bytes.items) all)
Decides (next.Refused code) left-after all buffer-after = Parses all (Refused code)
Decides (next.End n) left-after all buffer-after = Parses all More × (n ≡ length all) × IsNothingLeft left-after
Decides (next.Trouble ReadFault) left-after all buffer-after = Parses all More
Decides (next.Trouble OutOfMemory) left-after all buffer-after = Unit {0}

-- the last piece that was read came where the bytes before it are a part of a request
pub record LastPiece (buffer more : List ℕ) : Type 0 where
  pub early : List ℕ
  pub last : List ℕ
  pub more_is : more ≡ early ++ last
  pub part : Parses (buffer ++ early) More

-- nothing was read, or no more than was needed
abbrev pub ReadInNeed : List ℕ → List ℕ → Type 0
ReadInNeed buffer more = (more ≡ []) ⊎ LastPiece buffer more

-- the next request was looked for, and more was read only where the bytes so far are a part of one
pub record Fetches (left left-after : Option (List ℕ)) (buffer buffer-after : List ℕ) (result : Next) : Type 0 where
  pub more : List ℕ
  pub source : left ≡ before more left-after
  pub needed : ReadInNeed buffer more
  pub decides : Decides result left-after (buffer ++ more) buffer-after

-- what was found in the buffer alone
abbrev pub Decided : Option Next → List ℕ → List ℕ → Type 0
Decided None buffer buffer-after = Parses buffer More × (buffer-after ≡ buffer)
Decided (Some (next.Request r bytes)) buffer buffer-after = (size : ℕ) × Parses buffer (Whole r size) × (buffer-after ≡ drop size buffer) × IfSome bytes (λ b. IsPlain b.items r)
Decided (Some (next.Known k)) buffer buffer-after = Begins (arc_value k) buffer × (buffer-after ≡ drop (length (arc_value k).bytes.items) buffer)
Decided (Some (next.Refused code)) buffer buffer-after = Parses buffer (Refused code)
Decided (Some (next.End n)) buffer buffer-after = ⊥
Decided (Some (next.Trouble t)) buffer buffer-after = t ≡ OutOfMemory

-- a known request is one of what is remembered
abbrev pub KnowsBy : Remembered → Next → Type 0
KnowsBy recent (next.Known k) = (house : HouseView) → AreRecent house recent → IsKnown (arc_value k)
KnowsBy recent (next.Request r bytes) = Unit {0}
KnowsBy recent (next.Refused code) = Unit {0}
KnowsBy recent (next.End n) = Unit {0}
KnowsBy recent (next.Trouble t) = Unit {0}

-- what was written is counted: a fault exactly where the count rose
abbrev pub CountsOutcome : Outcome → ℕ → ℕ → Type 0
CountsOutcome Written old new = new ≡ old
CountsOutcome WriteFault old new = Rose old new
CountsOutcome outcome.OutOfMemory old new = new ≡ old

-- a turn counts as its end does, and a turn that goes on as one without faults
abbrev pub TurnReads : Option Ended → ℕ → ℕ → Type 0
TurnReads None old new = new ≡ old
TurnReads (Some end) old new = CountsReads end old new

abbrev pub TurnWrites : Option Ended → ℕ → ℕ → Type 0
TurnWrites None old new = new ≡ old
TurnWrites (Some end) old new = CountsWrites end old new

-- what holds of a state that a house has seen, of a number that isn't below those that it had seen before
pub record OnSeen (old new : HouseView) (Holds : State → Type 0) : Type 0 where
  pub number : ℕ
  pub on : OnLog (history_of new) (newest (history_of old)) number
  pub holds : Holds (state_of (history_of new) number)

-- the bytes of a reply that was made
abbrev pub bytes_of : Made → List ℕ
bytes_of (made.Given given) = given_bytes given
bytes_of (made.Done done number closing) = done_text done number closing
bytes_of (made.Fixed text) = text.now

-- what stands around the making of a reply: the house, the words of chance that were given, and the points that were told
pub record Making : Type 0 where
  pub house : HouseView
  pub words : Option (List ℕ)
  pub points : Option (List Point)

-- One reply was made, of what the house saw and took meanwhile, of what was drawn, and of what the gate was told.
pub record MadeOf (old new : Making) (moment : ℕ) (text : Made) (Is : Story → Type 0) : Type 0 where
  pub story : Story
  pub is : Is story
  pub moments : story.moments ≡ moment ∷ []
  pub chance : new.words ≡ after old.words story.words
  pub gate : new.points ≡ and_points old.points story.points
  pub text_is : story.text ≡ bytes_of text
  pub house : new.house.handed ≡ old.house.handed ++ story.handed
  pub failures : new.house.keepers ≡ raised old.house.keepers story.keepers
  pub kept : KeepsFor story.needs (shelves_of old.house) (shelves_of new.house)
  pub not_above : story.high ≤ newest (history_of new.house)

-- An edit was asked of a house, with the words that were drawn for it: what became of it, as a reply and its story.
pub record Committed (old new : HouseView) (wish : Wish) (ask : Ask) (drawn : Option Words) (moment : ℕ) (closing : Bool) (text : Made) : Type 0 where
  pub story : Story
  pub is : IsAnswer (history_of new) (newest (history_of old)) (ToEdit wish) ask closing story
  pub moments : story.moments ≡ moment ∷ []
  pub words : story.words ≡ listed drawn
  pub points : story.points ≡ BeforeReply 0 ∷ []
  pub text_is : story.text ≡ bytes_of text
  pub house : new.handed ≡ old.handed ++ story.handed
  pub failures : new.keepers ≡ raised old.keepers story.keepers
  pub needs : story.needs ≡ []
  pub kept : shelves_of new ≡ shelves_of old
  pub not_above : story.high ≤ newest (history_of new)

abbrev pub Makes : Making → Making → Called → Ask → ℕ → Bool → Made → Type 0
Makes old new asked ask moment closing text =
    MadeOf old new moment text
    (IsAnswer (history_of new.house) (newest (history_of old.house)) asked ask closing)

-- one request was answered, with a whole text
pub record Replied (old new : Out) (history : History) (low : ℕ) (request : Request) (closing : Bool) : Type 0 where
  pub story : Story
  pub text : IsText history low request closing story
  pub gave : Gave old new story
  pub not_above : story.high ≤ newest history

-- one request was answered, and of its text a front was written
pub record HalfReplied (old new : Out) (history : History) (low : ℕ) (request : Request) (closing : Bool) : Type 0 where
  pub story : Story
  pub count : ℕ
  pub text : IsText history low request closing story
  pub gave : Gave old new (cut_at count story)
  pub not_above : story.high ≤ newest history

-- A request was answered late, and of its text a front was written. Memory was wanting for `short` of its parts, none or the last one
-- that was begun, and where it was something was written before.
pub record LateReplied (old new : Out) (history : History) (low : ℕ) (request : Request) (closing : Bool) (short : ℕ) : Type 0 where
  pub story : Story
  pub count : ℕ
  pub parts : ℕ
  pub some : short ≤ count
  pub late : request.late ≡ true
  pub reply : IsLate history low (ask_of request) closing story
  pub gave : Gave old new (broken_at short count parts story)
  pub not_above : story.high ≤ newest history

-- one request was answered, and this became of the reply
abbrev pub Replies : Outcome → Out → Out → History → ℕ → Request → Bool → Type 0
Replies Written old new history low request closing = Replied old new history low request closing
Replies WriteFault old new history low request closing =
    HalfReplied old new history low request closing ⊎ LateReplied old new history low request closing 0
Replies outcome.OutOfMemory old new history low request closing = LateReplied old new history low request closing 1

-- one request was taken and answered, and no more was read than it needed
pub record TookOne (old new : Around) (history : History) (limit index low : ℕ) (buffer buffer-after : List ℕ) (closes : Bool) : Type 0 where
  pub more : List ℕ
  pub request : Request
  pub size : ℕ
  pub source : old.left ≡ before more new.left
  pub needed : ReadInNeed buffer more
  pub parses : Parses (buffer ++ more) (Whole request size)
  pub kept : buffer-after ≡ drop size (buffer ++ more)
  pub closes_is : request.closes ≡ closes
  pub replied : Replied old.out new.out history low request (closes_after limit index request)

-- a known request was taken, and no more was read than it needed
pub record TookKnown (known : KnownRequest) (left left-after : Option (List ℕ)) (buffer buffer-after : List ℕ) : Type 0 where
  pub more : List ℕ
  pub source : left ≡ before more left-after
  pub needed : ReadInNeed buffer more
  pub begins : Begins known (buffer ++ more)
  pub kept : buffer-after ≡ drop (length known.bytes.items) (buffer ++ more)

-- no whole request came, and the input ended
pub record Ends (old new : Around) (buffer : List ℕ) (size : ℕ) : Type 0 where
  pub more : List ℕ
  pub source : old.left ≡ before more new.left
  pub parses : Parses (buffer ++ more) More
  pub size_is : size ≡ length (buffer ++ more)
  pub nothing : IsNothingLeft new.left
  pub out : new.out ≡ old.out

-- what came is refused with a code
pub record Refuses (old new : Around) (buffer : List ℕ) (code : ℕ) : Type 0 where
  pub more : List ℕ
  pub source : old.left ≡ before more new.left
  pub needed : ReadInNeed buffer more
  pub parses : Parses (buffer ++ more) (Refused code)

-- that, and its text was written
pub record RefusesWith (old new : Around) (buffer : List ℕ) (code low : ℕ) : Type 0 where
  pub refuses : Refuses old new buffer code
  pub gave : Gave old.out new.out (saying (refusal_text code) low)

-- the input failed where more was wanted
pub record FailsToRead (old new : Around) (buffer : List ℕ) : Type 0 where
  pub more : List ℕ
  pub source : old.left ≡ before more new.left
  pub parses : Parses (buffer ++ more) More
  pub out : new.out ≡ old.out

-- memory was wanting to read the next request
pub record Starves (old new : Around) : Type 0 where
  pub more : List ℕ
  pub source : old.left ≡ before more new.left
  pub out : new.out ≡ old.out

-- a reply was written in part
pub record HalfAnswered (old new : Around) (history : History) (limit index low : ℕ) (buffer : List ℕ) : Type 0 where
  pub more : List ℕ
  pub request : Request
  pub size : ℕ
  pub source : old.left ≡ before more new.left
  pub needed : ReadInNeed buffer more
  pub parses : Parses (buffer ++ more) (Whole request size)
  pub replied : HalfReplied old.out new.out history low request (closes_after limit index request)

-- a late reply was written in part, where memory was wanting for `short` of its parts
pub record LateAnswered (old new : Around) (history : History) (limit index low : ℕ) (buffer : List ℕ) (short : ℕ) : Type 0 where
  pub more : List ℕ
  pub request : Request
  pub size : ℕ
  pub source : old.left ≡ before more new.left
  pub needed : ReadInNeed buffer more
  pub parses : Parses (buffer ++ more) (Whole request size)
  pub replied : LateReplied old.out new.out history low request (closes_after limit index request) short

-- a refusal was written in part
pub record HalfRefused (old new : Around) (buffer : List ℕ) (low : ℕ) : Type 0 where
  pub code : ℕ
  pub count : ℕ
  pub refuses : Refuses old new buffer code
  pub gave : Gave old.out new.out (cut_at count (saying (refusal_text code) low))

-- what a turn does, by its answer: none is to go on
abbrev pub Turned : Option Ended → Around → Around → History → ℕ → ℕ → ℕ → List ℕ → List ℕ → Type 0
Turned None old new history limit index low buffer buffer-after = TookOne old new history limit index low buffer buffer-after false
Turned (Some ended.Asked) old new history limit index low buffer buffer-after =
    TookOne old new history limit index low buffer buffer-after true
Turned (Some ended.Spent) old new history limit index low buffer buffer-after = ⊥
Turned (Some ended.Closed) old new history limit index low buffer buffer-after = Ends old new buffer 0
Turned (Some (ended.Truncated n)) old new history limit index low buffer buffer-after = Ends old new buffer n × (n ≡ 0 → ⊥)
Turned (Some (ended.Refused code)) old new history limit index low buffer buffer-after = RefusesWith old new buffer code low
Turned (Some ended.ReadFault) old new history limit index low buffer buffer-after = FailsToRead old new buffer
Turned (Some ended.OutOfMemory) old new history limit index low buffer buffer-after =
    Starves old new ⊎ LateAnswered old new history limit index low buffer 1
Turned (Some ended.WriteFault) old new history limit index low buffer buffer-after =
    HalfAnswered old new history limit index low buffer
    ⊎ (HalfRefused old new buffer low ⊎ LateAnswered old new history limit index low buffer 0)
