-- The reply to a request: what it is by the state that it is of, and what it takes and tells besides.
-- RFC 9110, sections 9.3.1 (GET), 15.5.6 (405) and 10.2.1 (Allow); RFC 4918, section 11.5 (507).
use Rattle.std.specs.Prelude.{ℕ, suc, List, [], ◌∷◌, ◌++◌, ◌≡◌, ◌≤◌, ◌<◌, ◌-◌, ◌==◌, ◌⊎◌, Bool, true, false, Option, Some, None, is_some, codes, length, take, replicate, if◌then◌else◌, min}
use Rattle.content_state.specs.declared.ask.Ask.{Ask}
use Rattle.content_state.specs.State.{State}
use Rattle.content_state.specs.declared.commit.Commit.{Commit}
use Rattle.content_state.specs.declared.element.Hole.{Hole}
use Rattle.content_state.specs.Viewer.{viewer_of}
use Rattle.cache_contexts.specs.Values.{visit_on}
use Rattle.element_entries.specs.Keys.{visit}
use Rattle.kept_pages.specs.Needed.{OfRequest}
use Rattle.late_pages.specs.Needed.{OfFirst}
use Rattle.kept_pages.specs.Went.{Went, number_built}
use Rattle.render_array.specs.Shown.{IsPage, page_count}
use Rattle.http_heads.specs.declared.request.Request.{Request}
use Rattle.http_heads.specs.declared.reply.ReplyHead.{ReplyHead}
use Rattle.http_heads.specs.declared.reply.Media.{Media}
use Rattle.http_heads.specs.declared.reply.Media.TheVariants.{Json}
use Rattle.http_heads.specs.declared.reply.CookieOut.TheVariants.{Nothing}
use Rattle.http_heads.specs.Reply.{reply_text}
use Rattle.site_io.specs.declared.device.Point.{Point}
use Rattle.site_io.specs.declared.device.Point.TheVariants.{AfterSnapshot, BeforeReply}
use Rattle.site_io.specs.Series.{last_moment}
use Rattle.site_commands.specs.Causes.{Decision, Accepted, Refused}
use Rattle.site_commands.specs.Judged.{judged}
use Rattle.site_commands.specs.declared.answer.Done.{Done}
use Rattle.site_commands.specs.declared.answer.Refusal.{Refusal}
use Rattle.edit_bodies.specs.Commands.{draws, command_in}
use Rattle.edit_bodies.specs.declared.words.Words.{Words}
use Rattle.edit_replies.specs.Texts.{refused_text, done_text, media_text, bad_json_text, keeper_text}
use Rattle.site_house.specs.History.{History, OnLog, newest, log_to, state_of}
use Rattle.site_late.specs.Heads.{media_of}
use Rattle.site_late.specs.Sending.{IsLateReply, late_points, reader_of}
use Rattle.site_http.specs.Called.{Called, ToRead, ToLate, ToEdit, Wish, called, ask_of}
use Rattle.site_http.specs.Kept.{Need, OfParts, needs_of}
use Rattle.site_http.specs.declared.call.Reading.{Reading}
use Rattle.site_http.specs.declared.call.Reading.TheVariants as reading

-- the head of a page of this media type and of so many bytes
abbrev pub page_head : Media → ℕ → ℕ → ℕ → Bool → ReplyHead
page_head media status size number closing = record {
  status = status;
  media = media;
  length = Some size;
  location = None;
  cookie = Nothing;
  allow = false;
  state = Some number;
  close = closing;
}

-- the head of a JSON body of so many bytes, which carries no number
abbrev pub json_head : ℕ → ℕ → Bool → ReplyHead
json_head status size closing = record {
  status = status;
  media = Json;
  length = Some size;
  location = None;
  cookie = Nothing;
  allow = false;
  state = None;
  close = closing;
}

unfoldable pub method_body : List ℕ
method_body = codes "{\"code\":\"method\"}"

unfoldable pub memory_body : List ℕ
memory_body = codes "{\"code\":\"memory\"}"

-- the reply to a method that isn't served
abbrev pub method_text : ℕ → Bool → List ℕ
method_text number closing =
    reply_text (record (json_head 405 (length method_body) closing) { allow = true; state = Some number }) method_body

-- the reply where memory was wanting
abbrev pub memory_text : Bool → List ℕ
memory_text closing = reply_text (json_head 507 (length memory_body) closing) memory_body

unfoldable pub bad_request : List ℕ
bad_request = codes "{\"code\":\"bad-request\"}"

unfoldable pub body_too_large : List ℕ
body_too_large = codes "{\"code\":\"body-too-large\"}"

unfoldable pub head_too_large : List ℕ
head_too_large = codes "{\"code\":\"head-too-large\"}"

unfoldable pub no_coding : List ℕ
no_coding = codes "{\"code\":\"no-coding\"}"

-- the reply that refuses a connection with a code and this body, and closes it
abbrev pub refusal_with : ℕ → List ℕ → List ℕ
refusal_with code body = reply_text (json_head code (length body) true) body

-- the text that refuses a connection with a code: 413, 431, 501, and else 400
abbrev pub refusal_text : ℕ → List ℕ
refusal_text code =
    if code == 413 then refusal_with 413 body_too_large
    else (if code == 431 then refusal_with 431 head_too_large
    else (if code == 501 then refusal_with 501 no_coding
    else refusal_with 400 bad_request))

-- What replies took, told and handed in: the moments and the words of chance that they took, the points that were told
-- as they were made, their bytes, the edits that they handed in, how many of them say that the keeper of the rows
-- failed, the number that no later one is below, and what was needed for the pages that were put together, each where memory
-- wasn't wanting for it.
pub record Story : Type 0 where
  pub moments : List ℕ
  pub words : List ℕ
  pub points : List Point
  pub text : List ℕ
  pub handed : List Commit
  pub keepers : ℕ
  pub high : ℕ
  pub needs : List (Option Need)

-- the story of one reply that hands nothing in and draws nothing: `built` pieces of a page were built for it
abbrev pub told : ℕ → List Point → ℕ → List ℕ → ℕ → Story
told moment points built text number = record {
  moments = moment ∷ [];
  words = [];
  points = points ++ BeforeReply built ∷ [];
  text = text;
  handed = [];
  keepers = 0;
  high = number;
  needs = [];
}

-- The page of what was asked was put together: of all that is needed for it, in order, each was found, or built of what stands in
-- its places. The number is that of those that were built, up to the greatest u64.
pub record IsPutTogether (state : State) (ask : Ask) (moment built : ℕ) (needs : List (Option Need)) : Type 0 where
  pub went : Went
  pub needed : OfRequest (visit_on state (viewer_of state.rows ask.cookie moment) ask moment) went
  pub counted : built ≡ min (number_built went) 18446744073709551615
  pub told : needs ≡ Some (record { reader = record { state = state; viewer = viewer_of state.rows ask.cookie moment; ask = ask; moment = moment }; went = went }) ∷ []

-- It was given again, to whoever sent no cookie, and nothing was needed for it.
pub record IsGivenAgain (ask : Ask) (built : ℕ) (needs : List (Option Need)) : Type 0 where
  pub cookie : ask.cookie ≡ None
  pub counted : built ≡ 0
  pub told : needs ≡ []

-- so many elements were built for the page of what was asked, of what was needed for it
abbrev pub IsBuiltFor : State → Ask → ℕ → ℕ → List (Option Need) → Type 0
IsBuiltFor state ask moment built needs = IsPutTogether state ask moment built needs ⊎ IsGivenAgain ask built needs

-- the page of what was asked on a state, at a moment, under its head, how many elements were built for it, and what was needed: at most itself,
-- and each that stands in one of its places, since what was kept is not built again
pub record IsPageReply (state : State) (ask : Ask) (moment : ℕ) (closing : Bool) (text : List ℕ) (built : ℕ) (needs : List (Option Need)) : Type 0 where
  pub status : ℕ
  pub body : List ℕ
  pub page : IsPage state.rows ask moment status body
  pub built_for : IsBuiltFor state ask moment built needs
  pub built_at_most : built ≤ min (page_count state.rows ask moment) 18446744073709551615
  pub text_is : text ≡ reply_text (page_head (media_of ask.path) status (length body) state.number closing) body

-- what is answered on a state without changing it, how many elements were built for it, and what was needed
abbrev pub Says : Reading → State → Ask → ℕ → Bool → List ℕ → ℕ → List (Option Need) → Type 0
Says reading.Page state ask moment closing text built needs = IsPageReply state ask moment closing text built needs
Says reading.NoPairing state ask moment closing text built needs = (text ≡ method_text state.number closing) × (built ≡ 0) × (needs ≡ [])
Says reading.NoMedia state ask moment closing text built needs = (text ≡ media_text state.number closing) × (built ≡ 0) × (needs ≡ [])
Says reading.BadJson state ask moment closing text built needs = (text ≡ bad_json_text state.number closing) × (built ≡ 0) × (needs ≡ [])

-- A reply on one state, whose number is of the history and isn't below the earlier ones: the gate was told of the
-- snapshot, and then of the reply.
pub record OnState (history : History) (low : ℕ) (story : Story) (Holds : State → ℕ → List ℕ → ℕ → List (Option Need) → Type 0) : Type 0 where
  pub moment : ℕ
  pub number : ℕ
  pub text : List ℕ
  pub built : ℕ
  pub needs : List (Option Need)
  pub within : moment ≤ last_moment
  pub on : OnLog history low number
  pub holds : Holds (state_of history number) moment text built needs
  pub story_is : story ≡ record (told moment (AfterSnapshot ∷ []) built text number) { needs = needs }

-- ---- pages whose parts are sent late

-- The story of a late reply on a state, of so many parts, for what is sent first of which so many elements were built. It is told
-- what was needed for what is sent first, and then for each part.
abbrev pub late_story : State → Ask → (moment built count : ℕ) → Went → List Went → List ℕ → Story
late_story state ask moment built count went wents text = record {
  moments = moment ∷ [];
  words = [];
  points = late_points built count;
  text = text;
  handed = [];
  keepers = 0;
  high = state.number;
  needs = needs_of (reader_of state ask moment) (went ∷ wents);
}

-- The late reply on one state, whose number is of the history and isn't below the earlier ones: the gate was told of the snapshot,
-- then of the reply, and then of each of its parts. Of all that is needed for what is sent first, and for each part, each was found,
-- or built of what stands in its places.
pub record IsLate (history : History) (low : ℕ) (ask : Ask) (closing : Bool) (story : Story) : Type 0 where
  pub moment : ℕ
  pub number : ℕ
  pub built : ℕ
  pub count : ℕ
  pub went : Went
  pub places : List Hole
  pub wents : List Went
  pub text : List ℕ
  pub within : moment ≤ last_moment
  pub on : OnLog history low number
  pub reply : IsLateReply (state_of history number) ask moment closing count places text
  pub needed : OfFirst (visit (reader_of (state_of history number) ask moment)) went
  pub counted : built ≡ min (number_built went) 18446744073709551615
  pub of_parts : OfParts (visit (reader_of (state_of history number) ask moment)) places wents
  pub story_is : story ≡ record (late_story (state_of history number) ask moment built count went wents text) { high = number }

-- A story of a late reply, of which so many bytes were written and so many parts begun: what was told and needed of the others wasn't.
-- Memory was wanting for `short` of these, none or the last one: of what that one needed nothing is said.
abbrev pub broken_at : (short bytes parts : ℕ) → Story → Story
broken_at short bytes parts story = record story {
  points = take (suc (suc parts)) story.points;
  text = take bytes story.text;
  needs = take (suc (parts - short)) story.needs ++ replicate short None;
}

-- ---- edits

-- the words of chance that were drawn
abbrev pub listed : Option Words → List ℕ
listed None = []
listed (Some words) = words.first ∷ words.second ∷ []

-- words are drawn for an edit that takes them, and for no other
abbrev pub IsDrawn : Wish → Option Words → Type 0
IsDrawn wish drawn = is_some drawn ≡ draws wish.edit wish.sent

-- the story of a reply to an edit
abbrev pub answered : ℕ → Option Words → List ℕ → List Commit → ℕ → ℕ → Story
answered moment drawn text handed keepers number = record {
  moments = moment ∷ [];
  words = listed drawn;
  points = BeforeReply 0 ∷ [];
  text = text;
  handed = handed;
  keepers = keepers;
  high = number;
  needs = [];
}

-- what becomes of a wish on a log, with the words that were drawn for it
abbrev pub judgement : History → List Commit → Wish → Ask → Option Words → ℕ → Decision
judgement history log wish ask drawn moment =
    judged history.base log ask wish.csrf (command_in wish.edit wish.sent drawn) moment history.pass

-- An edit is refused, as it was judged on a state of the history, whose number the reply carries.
pub record IsRefused (history : History) (low : ℕ) (wish : Wish) (ask : Ask) (closing : Bool) (story : Story) : Type 0 where
  pub moment : ℕ
  pub number : ℕ
  pub drawn : Option Words
  pub refusal : Refusal
  pub within : moment ≤ last_moment
  pub on : OnLog history low number
  pub words : IsDrawn wish drawn
  pub refused : judgement history (log_to history number) wish ask drawn moment ≡ Refused refusal
  pub story_is : story ≡ answered moment drawn (refused_text refusal number closing) [] 0 number

-- An edit is accepted: it stands in the log at its number, which is above all that was seen before, and was judged on the
-- state just before. The reply carries that number.
pub record IsAccepted (history : History) (low : ℕ) (wish : Wish) (ask : Ask) (closing : Bool) (story : Story) : Type 0 where
  pub moment : ℕ
  pub number : ℕ
  pub drawn : Option Words
  pub before : List Commit
  pub commit : Commit
  pub done : Done
  pub within : moment ≤ last_moment
  pub on : OnLog history low number
  pub above : low < number
  pub words : IsDrawn wish drawn
  pub stands : log_to history number ≡ before ++ commit ∷ []
  pub accepted : judgement history before wish ask drawn moment ≡ Accepted commit done
  pub story_is : story ≡ answered moment drawn (done_text done number closing) (commit ∷ []) 0 number

-- what was handed in of an edit whose keeper failed: nothing, or the edit, as it was accepted on a state of the history
abbrev pub HandedOnce : History → ℕ → Wish → Ask → Option Words → ℕ → List Commit → Type 0
HandedOnce history number wish ask drawn moment [] = Unit {0}
HandedOnce history number wish ask drawn moment (commit ∷ []) =
    (done : Done) × (judgement history (log_to history number) wish ask drawn moment ≡ Accepted commit done)
HandedOnce history number wish ask drawn moment (commit ∷ other ∷ others) = ⊥

-- The keeper of the rows failed. The reply carries no number.
pub record IsKeeper (history : History) (low : ℕ) (wish : Wish) (ask : Ask) (closing : Bool) (story : Story) : Type 0 where
  pub moment : ℕ
  pub number : ℕ
  pub drawn : Option Words
  pub handed : List Commit
  pub within : moment ≤ last_moment
  pub on : OnLog history low number
  pub words : IsDrawn wish drawn
  pub at_most : HandedOnce history number wish ask drawn moment handed
  pub story_is : story ≡ answered moment drawn (keeper_text closing) handed 1 number

-- ---- want of memory

-- The points that were told until memory was wanting: that of the snapshot, if a state is read.
abbrev pub MayTell : Called → List Point → Type 0
MayTell (ToRead r) points = (points ≡ []) ⊎ (points ≡ AfterSnapshot ∷ [])
MayTell ToLate points = (points ≡ []) ⊎ (points ≡ AfterSnapshot ∷ [])
MayTell (ToEdit wish) points = points ≡ []

-- the words that were drawn until then: none, or all that the edit takes
abbrev pub MayDraw : Called → Option Words → Type 0
MayDraw (ToRead r) drawn = drawn ≡ None
MayDraw ToLate drawn = drawn ≡ None
MayDraw (ToEdit wish) drawn = (drawn ≡ None) ⊎ IsDrawn wish drawn

-- what was needed until then: nothing, or that of a page that wasn't put together
abbrev pub MayNeed : Called → List (Option Need) → Type 0
MayNeed (ToRead r) needs = (needs ≡ []) ⊎ (needs ≡ None ∷ [])
MayNeed ToLate needs = (needs ≡ []) ⊎ (needs ≡ None ∷ [])
MayNeed (ToEdit wish) needs = needs ≡ []

-- Memory was wanting before anything was written: nothing was handed in. The reply carries no number.
pub record IsWanting (history : History) (low : ℕ) (asked : Called) (closing : Bool) (story : Story) : Type 0 where
  pub moment : ℕ
  pub number : ℕ
  pub points : List Point
  pub drawn : Option Words
  pub within : moment ≤ last_moment
  pub from_base : history.base.number ≤ number
  pub from : low ≤ number
  pub to : number ≤ newest history
  pub before_or_after : MayTell asked points
  pub words : MayDraw asked drawn
  pub needs : List (Option Need)
  pub may_need : MayNeed asked needs
  pub story_is : story ≡ record (told moment points 0 (memory_text closing) number) { words = listed drawn; needs = needs }

-- ---- replies

-- the reply, by what is asked for
abbrev pub IsReply : History → ℕ → Called → Ask → Bool → Story → Type 0
IsReply history low (ToRead r) ask closing story =
    OnState history low story (λ state moment text built needs. Says r state ask moment closing text built needs)
IsReply history low ToLate ask closing story = IsLate history low ask closing story
IsReply history low (ToEdit wish) ask closing story =
    IsRefused history low wish ask closing story
    ⊎ (IsAccepted history low wish ask closing story ⊎ IsKeeper history low wish ask closing story)

-- the reply, or that memory was wanting
abbrev pub IsAnswer : History → ℕ → Called → Ask → Bool → Story → Type 0
IsAnswer history low asked ask closing story = IsReply history low asked ask closing story ⊎ IsWanting history low asked closing story

-- one text, to a request
abbrev pub IsText : History → ℕ → Request → Bool → Story → Type 0
IsText history low request closing story = IsAnswer history low (called request) (ask_of request) closing story
