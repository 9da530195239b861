-- One exchange more, at the end of those before.
use Rattle.std.proofs.Common.{◌≡◌, ◌∙◌, ◌++◌, ◌+◌, List, [], ◌∷◌, ℕ, suc, length, ap, sym, refl, subst, arith}
use Rattle.content_state.specs.declared.commit.Commit.{Commit}
use Rattle.site_house.specs.History.{History, longer}
use Rattle.site_http.specs.Reply.{Story, IsText}
use Rattle.site_http.specs.Connection.{closes_after, joined}
use Rattle.site_http.proofs.Grow.{text_grows}
use Rattle.site_http.proofs.Stories.{joined_assoc, joined_nothing, nothing_joined}
use Rattle.site_drill.specs.Replies.{AreReplies, Exchange, requests_of, whole}

pub whole_more : (low : ℕ) (exchanges : List Exchange) (one : Exchange) → whole low (exchanges ++ one ∷ []) ≡ joined (whole low exchanges) one.story
whole_more low [] one = joined_nothing one.story ∙ sym (nothing_joined low one.story)
whole_more low (first ∷ others) one =
    ap (λ (s : Story). joined first.story s) (whole_more first.story.high others one) ∙ sym (joined_assoc first.story (whole first.story.high others) one.story)

-- counts alone: where a text is known too, `omega` reads it through
none_more : (index : ℕ) → index + 0 ≡ index
none_more index = omega arith

first_more : (index more : ℕ) → index + suc more ≡ index + 1 + more
first_more index more = omega arith

pub replies_more : (history : History) (index low : ℕ) (exchanges : List Exchange) (one : Exchange) → AreReplies history index low exchanges → IsText history (whole low exchanges).high one.request (closes_after 1000 (index + length exchanges) one.request) one.story → AreReplies history index low (exchanges ++ one ∷ [])
replies_more history index low [] one h is =
    (subst (λ (i : ℕ). IsText history low one.request (closes_after 1000 i one.request) one.story) (none_more index) is, tt)
replies_more history index low (first ∷ others) one h is =
    let here : index + length (first ∷ others) ≡ index + 1 + length others = first_more index (length others) in (
      h.0,
      replies_more history (index + 1) first.story.high others one h.1
          (subst (λ (i : ℕ). IsText history (whole first.story.high others).high one.request (closes_after 1000 i one.request) one.story) here is),
    )

pub replies_grow : (history : History) (more : List Commit) (index low : ℕ) (exchanges : List Exchange) → AreReplies history index low exchanges → AreReplies (longer history more) index low exchanges
replies_grow history more index low [] h = h
replies_grow history more index low (first ∷ others) h =
    (text_grows history more low first.request (closes_after 1000 index first.request) first.story h.0, replies_grow history more (index + 1) first.story.high others h.1)

pub requests_more : (exchanges : List Exchange) (one : Exchange) → requests_of (exchanges ++ one ∷ []) ≡ requests_of exchanges ++ one.request ∷ []
requests_more [] one = refl
requests_more (first ∷ others) one = ap (λ rs. first.request ∷ rs) (requests_more others one)
