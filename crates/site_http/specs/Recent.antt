-- Replies that may be given again.
-- https://www.rfc-editor.org/rfc/rfc9111#section-4.2
use Rattle.std.specs.Prelude.{ℕ, List, [], ◌++◌, ◌≡◌, ◌≤◌, false, Option, None, IfSome, All}
use Rattle.std.specs.Arc.{arc_value}
use Rattle.std.specs.declared.sync.Arc.{Arc}
use Rattle.std.specs.declared.alloc.Global.{Global}
use Rattle.content_state.specs.State.{State}
use Rattle.content_state.specs.declared.ask.Ask.{Ask}
use Rattle.content_state.specs.Ask.{IsAsk}
use Rattle.content_state.specs.Viewer.{nobody}
use Rattle.element_entries.specs.Standing.{IsStandingOf}
use Rattle.site_house.specs.House.{HouseView}
use Rattle.site_house.specs.Bins.{IsSeenIn}
use Rattle.site_http.specs.declared.recent.Nobody.{Nobody}
use Rattle.site_http.specs.declared.recent.RecentReply.{RecentReply}
use Rattle.site_http.specs.declared.recent.PageReply.{PageReply}
use Rattle.site_http.specs.declared.recent.Given.{Given}
use Rattle.site_http.specs.declared.recent.Given.TheVariants as given
use Rattle.site_http.specs.declared.known.KnownRequest.{KnownRequest}
use Rattle.site_http.specs.Known.{IsKnown}
use Rattle.site_http.specs.Reply.{IsPageReply}

-- No cookie was sent, and the text is the reply of the page on the state at each moment from this one until the last; nothing is
-- built for it.
pub record IsReplyUntil (state : State) (ask : Ask) (moment last : ℕ) (text : List ℕ) : Type 0 where
  pub cookie : ask.cookie ≡ None
  pub again : (later : ℕ) → moment ≤ later → later ≤ last → IsPageReply state ask later false text 0 []

-- the bytes of the reply of a page: its head, and the pieces of its body
abbrev pub page_bytes : PageReply → List ℕ
page_bytes page = page.head.items ++ page.body

-- a request without a cookie asks for a reply's target, on the state of its number, at one of its moments
pub record Fits (reply : RecentReply) (number : ℕ) (ask : Ask) (moment : ℕ) : Type 0 where
  pub number_is : reply.number ≡ number
  pub from : reply.from ≤ moment
  pub until : moment ≤ reply.until
  pub cookie : ask.cookie ≡ None
  pub target : reply.target ≡ ask.target

-- A reply may be given again: it was given on a state that the house has seen, and each request that it fits has the same reply
-- there.
pub record IsRecent (house : HouseView) (reply : RecentReply) : Type 0 where
  pub state : State
  pub seen : IsSeenIn house state
  pub number_is : state.number ≡ reply.number
  pub again : (ask : Ask) (moment : ℕ) → IsAsk ask → Fits reply state.number ask moment → IsPageReply state ask moment false (page_bytes reply.page) 0 []

-- so may each that stands at a place
abbrev pub AreGiven : HouseView → List (Option (Arc RecentReply Global)) → Type 0
AreGiven house places = All (λ place. IfSome place (λ reply. IsRecent house (arc_value reply))) places

-- the known request, if there is one, asks what is known of it
abbrev pub IsKnownIfAny : Option (Arc KnownRequest Global) → Type 0
IsKnownIfAny known = IfSome known (λ k. IsKnown (arc_value k))

-- So nobody stands on the state of the number, which the house has seen.
pub record IsOfNobody (house : HouseView) (remembered : Nobody) : Type 0 where
  pub state : State
  pub seen : IsSeenIn house state
  pub number_is : state.number ≡ remembered.number
  pub stands : IsStandingOf state nobody remembered.standing

-- what is remembered: replies at their places, a request, and nobody on one state
abbrev pub Remembered : Type 0
Remembered = List (Option (Arc RecentReply Global)) × Option (Arc KnownRequest Global) × Option Nobody

-- each of it is so
abbrev pub AreRecent : HouseView → Remembered → Type 0
AreRecent house recent = AreGiven house recent.0 × IsKnownIfAny recent.1 × IfSome recent.2 (IsOfNobody house)

-- the bytes of a reply that is given
abbrev pub given_bytes : Given → List ℕ
given_bytes (given.Text text) = text.items
given_bytes (given.Page page) = page_bytes page
given_bytes (given.Again reply) = page_bytes (arc_value reply).page
