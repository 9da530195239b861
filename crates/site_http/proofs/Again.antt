-- Replies that may be given again stay so, and say what is said.
use Rattle.std.proofs.Common.{ℕ, List, [], ◌≡◌, ◌∙◌, refl, sym, ap, subst, arith, inr, Bool, false, Option, Some, None, IfSome, length}
use Rattle.std.specs.Prelude.{Result, Ok, Err, IfOk}
use Rattle.std.specs.Result.{result_ok}
use Rattle.std.specs.Arc.{arc_value}
use Rattle.std.specs.declared.sync.Arc.{Arc}
use Rattle.std.specs.declared.alloc.Global.{Global}
use Rattle.std.proofs.lemmas.List.Elements.{All-weaker}
use Rattle.content_state.specs.State.{State}
use Rattle.content_state.specs.declared.ask.Ask.{Ask}
use Rattle.content_state.specs.declared.ask.Viewer.{Viewer}
use Rattle.content_state.specs.Ask.{IsAsk, path_of, query_of}
use Rattle.content_state.specs.Viewer.{nobody}
use Rattle.element_entries.specs.declared.standing.Standing.{Standing}
use Rattle.element_entries.specs.Standing.{IsStandingOf}
use Rattle.http_heads.specs.Reply.{reply_text}
use Rattle.kept_pages.specs.Lasting.{Lasts}
use Rattle.kept_pages.proofs.Entries.{seen_on, one_of_number}
use Rattle.site_house.specs.House.{HouseView, Moves}
use Rattle.site_house.specs.Bins.{IsSeenIn}
use Rattle.site_http.specs.declared.desk.Desk.{Desk}
use Rattle.site_http.specs.declared.recent.Nobody.{Nobody}
use Rattle.site_http.specs.declared.recent.RecentReply.{RecentReply}
use Rattle.site_http.specs.Recent.{page_bytes, IsReplyUntil, Fits, IsRecent, IsOfNobody, Remembered, AreRecent}
use Rattle.site_late.specs.Heads.{media_of}
use Rattle.site_http.specs.Reply.{IsPageReply, page_head}

-- a desk that was made, where there was memory for it, remembers nothing that isn't so
pub made_ready : {E : Type 0} (made : Result Desk E) (house : HouseView) → IfOk made (λ (d : Desk). (h : HouseView) → AreRecent h d.recent) → IfSome (result_ok made) (λ (d : Desk). AreRecent house d.recent)
made_ready (Ok d) house ready = ready house
made_ready (Err e) house ready = tt

-- ---- of a house that goes on

recent_on : {old new : HouseView} → Moves old new → (reply : RecentReply) → IsRecent old reply → IsRecent new reply
recent_on {old} {new} moves reply is = record {
  state = is.state;
  seen = seen_on old new is.state moves is.seen;
  number_is = is.number_is;
  again = is.again;
}

place_on : {old new : HouseView} → Moves old new → (place : Option (Arc RecentReply Global)) → IfSome place (λ reply. IsRecent old (arc_value reply)) → IfSome place (λ reply. IsRecent new (arc_value reply))
place_on moves None is = tt
place_on moves (Some reply) is = recent_on moves (arc_value reply) is

nobody_on : {old new : HouseView} → Moves old new → (o : Option Nobody) → IfSome o (IsOfNobody old) → IfSome o (IsOfNobody new)
nobody_on moves None is = tt
nobody_on {old} {new} moves (Some n) is = record {
  state = is.state;
  seen = seen_on old new is.state moves is.seen;
  number_is = is.number_is;
  stands = is.stands;
}

pub recent_stay : {old new : HouseView} (recent : Remembered) → Moves old new → AreRecent old recent → AreRecent new recent
recent_stay {old} {new} recent moves are = (
  All-weaker (λ place. IfSome place (λ reply. IsRecent old (arc_value reply))) (λ place. IfSome place (λ reply. IsRecent new (arc_value reply)))
      (λ place is. place_on moves place is) recent.0 are.0,
  are.1,
  nobody_on moves recent.2 are.2,
)

-- ---- nobody

-- the state of the number is the one that nobody was met on
pub stands_there : (house : HouseView) (n : Nobody) (state : State) → IsOfNobody house n → IsSeenIn house state → state.number ≡ n.number → IsStandingOf state nobody n.standing
stands_there house n state is seen number =
    subst (λ (s : State). IsStandingOf s nobody n.standing) (one_of_number house.base house.seen is.state state is.seen seen (is.number_is ∙ sym number)) is.stands

-- nobody who stands there stands there as the viewer of its account
pub stands_own : (state : State) (standing : Standing) → IsStandingOf state nobody standing → IsStandingOf state standing.account.viewer standing
stands_own state standing stands = subst (λ (w : Viewer). IsStandingOf state w standing) (sym stands.account.viewer_is) stands

-- ---- what is said again

-- the state of the number is the one that the reply was given on
pub said_again : (house : HouseView) (reply : RecentReply) (state : State) (ask : Ask) (moment : ℕ) → IsRecent house reply → IsSeenIn house state → IsAsk ask → Fits reply state.number ask moment → IsPageReply state ask moment false (page_bytes reply.page) 0 []
said_again house reply state ask moment is seen right fits =
    let same : is.state ≡ state = one_of_number house.base house.seen is.state state is.seen seen (is.number_is ∙ fits.number_is) in
    subst (λ (s : State). IsPageReply s ask moment false (page_bytes reply.page) 0 []) same
    (is.again ask moment right (subst (λ (n : ℕ). Fits reply n ask moment) (ap (λ (s : State). s.number) (sym same)) fits))

pub again_of : (found : Option (Arc RecentReply Global)) (places : Remembered) (state : State) (ask : Ask) (moment : ℕ) → IsAsk ask → IfSome found (λ reply. Fits (arc_value reply) state.number ask moment) → IfSome found (λ reply. (house : HouseView) → AreRecent house places → IsRecent house (arc_value reply)) → IfSome found (λ reply. (house : HouseView) → AreRecent house places → IsSeenIn house state → IsPageReply state ask moment false (page_bytes (arc_value reply).page) 0 [])
again_of None places state ask moment right fits is = tt
again_of (Some reply) places state ask moment right fits is = λ house are seen. said_again house (arc_value reply) state ask moment (is house are) seen right fits

-- ---- what may be said again

pub page_again : (state : State) (ask : Ask) (moment last status : ℕ) (body text : List ℕ) → ask.cookie ≡ None → Lasts state ask moment last status body
    → text ≡ reply_text (page_head (media_of ask.path) status (length body) state.number false) body → IsReplyUntil state ask moment last text
page_again state ask moment last status body text cookie lasts same = record {
  cookie = cookie;
  again = λ later from until. record {
    status = status;
    body = body;
    page = lasts cookie later from until;
    built_for = inr (record { cookie = cookie; counted = refl; told = refl });
    built_at_most = omega arith;
    text_is = same;
  };
}

-- ---- what is remembered

-- asks of one target without a cookie are one
same_ask : (one other : Ask) → IsAsk one → IsAsk other → one.target ≡ other.target → one.cookie ≡ None → other.cookie ≡ None → one ≡ other
same_ask one other right right' target cookie cookie' i = record {
  target = target i;
  path = (right.path ∙ ap path_of target ∙ sym right'.path) i;
  query = (right.query ∙ ap query_of target ∙ sym right'.query) i;
  cookie = (cookie ∙ sym cookie') i;
}

-- a reply that was made now may be given again
pub made_recent : (house : HouseView) (state : State) (reply : RecentReply) (ask : Ask) → IsSeenIn house state → state.number ≡ reply.number → IsAsk ask → reply.target ≡ ask.target → IsReplyUntil state ask reply.from reply.until (page_bytes reply.page) → IsRecent house reply
made_recent house state reply ask seen number right target is = record {
  state = state;
  seen = seen;
  number_is = number;
  again = λ other moment right' fits.
      subst (λ (a : Ask). IsPageReply state a moment false (page_bytes reply.page) 0 []) (same_ask ask other right right' (sym target ∙ fits.target) is.cookie fits.cookie)
      (is.again moment fits.from fits.until);
}

-- the reply of a page, until the moment that is told, if one is
pub again_until : (o : Option ℕ) (state : State) (ask : Ask) (moment last status : ℕ) (closing : Bool) (body text : List ℕ) → IfSome o (λ l. (l ≡ last) × (closing ≡ false) × (ask.cookie ≡ None)) → Lasts state ask moment last status body
    → text ≡ reply_text (page_head (media_of ask.path) status (length body) state.number closing) body → IfSome o (λ l. IsReplyUntil state ask moment l text)
again_until None state ask moment last status closing body text is lasts same = tt
again_until (Some l) state ask moment last status closing body text is lasts same =
    subst (λ (n : ℕ). IsReplyUntil state ask moment n text) (sym is.0)
    (page_again state ask moment last status body text is.2 lasts (same ∙ ap (λ (c : Bool). reply_text (page_head (media_of ask.path) status (length body) state.number c) body) is.1))
