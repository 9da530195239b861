-- Replies stay replies over a longer history, and where less was seen before; and one more comes at the end.
use Rattle.std.proofs.Common.{◌≡◌, ◌∙◌, ◌++◌, ◌+◌, ◌≤◌, List, [], ◌∷◌, ℕ, Bool, Option, length, ap, sym, refl, subst, arith, inl, inr}
use Rattle.content_state.specs.declared.ask.Ask.{Ask}
use Rattle.content_state.specs.State.{State}
use Rattle.content_state.specs.declared.commit.Commit.{Commit}
use Rattle.http_heads.specs.declared.request.Request.{Request}
use Rattle.site_house.specs.History.{History, longer, newest}
use Rattle.edit_bodies.specs.declared.words.Words.{Words}
use Rattle.element_entries.specs.Keys.{visit}
use Rattle.late_pages.specs.Needed.{OfFirst}
use Rattle.site_late.specs.Sending.{IsLateReply, reader_of}
use Rattle.site_http.specs.Called.{Called, ToRead, ToLate, ToEdit, Wish, called, ask_of}
use Rattle.site_http.specs.Kept.{OfParts}
use Rattle.site_http.specs.Reply.{Story, Says, IsLate, late_story, IsRefused, IsAccepted, IsKeeper, HandedOnce, IsWanting, IsAnswer, IsText, judgement}
use Rattle.site_http.specs.Connection.{Texts, closes_after, joined, nothing}
use Rattle.site_house.proofs.Histories.{on_grows, on_lower, state_grows, log_grows, newest_grows}
use Rattle.site_http.proofs.Stories.{joined_assoc, joined_nothing, nothing_joined}

-- want of memory says nothing of the log but its length
wanting_on : {history history' : History} {low low' : ℕ} {c : Called} {closing : Bool} {story : Story} → history'.base ≡ history.base → newest history ≤ newest history' → low' ≤ low → IsWanting history low c closing story → IsWanting history' low' c closing story
wanting_on {history} {history'} base longer lower w =
    let same : history'.base.number ≡ history.base.number = ap (λ (s : State). s.number) base in
    let from_base = w.from_base in
    let from = w.from in
    let to = w.to in
    record {
      moment = w.moment;
      number = w.number;
      points = w.points;
      drawn = w.drawn;
      within = w.within;
      from_base = omega arith;
      from = omega arith;
      to = omega arith;
      before_or_after = w.before_or_after;
      words = w.words;
      needs = w.needs;
      may_need = w.may_need;
      story_is = w.story_is;
    }

-- each case of an edit, in a longer history
refused_grows : (history : History) (more : List Commit) (low : ℕ) (wish : Wish) (ask : Ask) (closing : Bool) (story : Story) → IsRefused history low wish ask closing story → IsRefused (longer history more) low wish ask closing story
refused_grows history more low wish ask closing story r = record {
  moment = r.moment;
  number = r.number;
  drawn = r.drawn;
  refusal = r.refusal;
  within = r.within;
  on = on_grows history more low r.number r.on;
  words = r.words;
  refused = ap (λ (log : List Commit). judgement history log wish ask r.drawn r.moment) (log_grows history more r.number r.on.to) ∙ r.refused;
  story_is = r.story_is;
}

accepted_grows : (history : History) (more : List Commit) (low : ℕ) (wish : Wish) (ask : Ask) (closing : Bool) (story : Story) → IsAccepted history low wish ask closing story → IsAccepted (longer history more) low wish ask closing story
accepted_grows history more low wish ask closing story a = record {
  moment = a.moment;
  number = a.number;
  drawn = a.drawn;
  before = a.before;
  commit = a.commit;
  done = a.done;
  within = a.within;
  on = on_grows history more low a.number a.on;
  above = a.above;
  words = a.words;
  stands = log_grows history more a.number a.on.to ∙ a.stands;
  accepted = a.accepted;
  story_is = a.story_is;
}

handed_grows : (history : History) (more : List Commit) (number : ℕ) (wish : Wish) (ask : Ask) (drawn : Option Words) (moment : ℕ) → number ≤ newest history → (handed : List Commit) → HandedOnce history number wish ask drawn moment handed → HandedOnce (longer history more) number wish ask drawn moment handed
handed_grows history more number wish ask drawn moment to [] h = h
handed_grows history more number wish ask drawn moment to (commit ∷ []) h =
    (h.0, ap (λ (log : List Commit). judgement history log wish ask drawn moment) (log_grows history more number to) ∙ h.1)
handed_grows history more number wish ask drawn moment to (commit ∷ other ∷ others) h = h

keeper_grows : (history : History) (more : List Commit) (low : ℕ) (wish : Wish) (ask : Ask) (closing : Bool) (story : Story) → IsKeeper history low wish ask closing story → IsKeeper (longer history more) low wish ask closing story
keeper_grows history more low wish ask closing story k = record {
  moment = k.moment;
  number = k.number;
  drawn = k.drawn;
  handed = k.handed;
  within = k.within;
  on = on_grows history more low k.number k.on;
  words = k.words;
  at_most = handed_grows history more k.number wish ask k.drawn k.moment k.on.to k.handed k.at_most;
  story_is = k.story_is;
}

-- a late reply, in a longer history
pub late_grows : (history : History) (more : List Commit) (low : ℕ) (ask : Ask) (closing : Bool) (story : Story) → IsLate history low ask closing story → IsLate (longer history more) low ask closing story
late_grows history more low ask closing story r =
    let same = sym (state_grows history more r.number r.on.to) in
    record {
      moment = r.moment;
      number = r.number;
      built = r.built;
      count = r.count;
      went = r.went;
      places = r.places;
      wents = r.wents;
      text = r.text;
      within = r.within;
      on = on_grows history more low r.number r.on;
      reply = subst (λ (s : State). IsLateReply s ask r.moment closing r.count r.places r.text) same r.reply;
      needed = subst (λ (s : State). OfFirst (visit (reader_of s ask r.moment)) r.went) same r.needed;
      counted = r.counted;
      of_parts = subst (λ (s : State). OfParts (visit (reader_of s ask r.moment)) r.places r.wents) same r.of_parts;
      story_is = r.story_is ∙ ap (λ (s : State). record (late_story s ask r.moment r.built r.count r.went r.wents r.text) { high = r.number }) same;
    }

-- a reply stays one when the history grows
pub answer_grows : (history : History) (more : List Commit) (low : ℕ) (c : Called) (ask : Ask) (closing : Bool) (story : Story) → IsAnswer history low c ask closing story → IsAnswer (longer history more) low c ask closing story
answer_grows history more low (ToRead reading) ask closing story a = elim a [
  | inl r ↦ inl (record {
    moment = r.moment;
    number = r.number;
    text = r.text;
    built = r.built;
    needs = r.needs;
    within = r.within;
    on = on_grows history more low r.number r.on;
    holds = subst (λ (s : State). Says reading s ask r.moment closing r.text r.built r.needs) (sym (state_grows history more r.number r.on.to)) r.holds;
    story_is = r.story_is;
  })
  | inr w ↦ inr (wanting_on refl (newest_grows history more (newest history) (omega arith)) (omega arith) w)
]
answer_grows history more low ToLate ask closing story a = elim a [
  | inl r ↦ inl (late_grows history more low ask closing story r)
  | inr w ↦ inr (wanting_on refl (newest_grows history more (newest history) (omega arith)) (omega arith) w)
]
answer_grows history more low (ToEdit wish) ask closing story a = elim a [
  | inl reply ↦ inl (elim reply [
    | inl r ↦ inl (refused_grows history more low wish ask closing story r)
    | inr other ↦ inr (elim other [
      | inl done ↦ inl (accepted_grows history more low wish ask closing story done)
      | inr k ↦ inr (keeper_grows history more low wish ask closing story k)
    ])
  ])
  | inr w ↦ inr (wanting_on refl (newest_grows history more (newest history) (omega arith)) (omega arith) w)
]

-- each case of an edit, where less was seen before
refused_lower : (history : History) (low lower : ℕ) (wish : Wish) (ask : Ask) (closing : Bool) (story : Story) → lower ≤ low → IsRefused history low wish ask closing story → IsRefused history lower wish ask closing story
refused_lower history low lower wish ask closing story less r = record {
  moment = r.moment;
  number = r.number;
  drawn = r.drawn;
  refusal = r.refusal;
  within = r.within;
  on = on_lower history low lower r.number less r.on;
  words = r.words;
  refused = r.refused;
  story_is = r.story_is;
}

accepted_lower : (history : History) (low lower : ℕ) (wish : Wish) (ask : Ask) (closing : Bool) (story : Story) → lower ≤ low → IsAccepted history low wish ask closing story → IsAccepted history lower wish ask closing story
accepted_lower history low lower wish ask closing story less a =
    let above = a.above in
    record {
      moment = a.moment;
      number = a.number;
      drawn = a.drawn;
      before = a.before;
      commit = a.commit;
      done = a.done;
      within = a.within;
      on = on_lower history low lower a.number less a.on;
      above = omega arith;
      words = a.words;
      stands = a.stands;
      accepted = a.accepted;
      story_is = a.story_is;
    }

keeper_lower : (history : History) (low lower : ℕ) (wish : Wish) (ask : Ask) (closing : Bool) (story : Story) → lower ≤ low → IsKeeper history low wish ask closing story → IsKeeper history lower wish ask closing story
keeper_lower history low lower wish ask closing story less k = record {
  moment = k.moment;
  number = k.number;
  drawn = k.drawn;
  handed = k.handed;
  within = k.within;
  on = on_lower history low lower k.number less k.on;
  words = k.words;
  at_most = k.at_most;
  story_is = k.story_is;
}

pub late_lower : (history : History) (low lower : ℕ) (ask : Ask) (closing : Bool) (story : Story) → lower ≤ low → IsLate history low ask closing story → IsLate history lower ask closing story
late_lower history low lower ask closing story less r = record {
  moment = r.moment;
  number = r.number;
  built = r.built;
  count = r.count;
  went = r.went;
  places = r.places;
  wents = r.wents;
  text = r.text;
  within = r.within;
  on = on_lower history low lower r.number less r.on;
  reply = r.reply;
  needed = r.needed;
  counted = r.counted;
  of_parts = r.of_parts;
  story_is = r.story_is;
}

-- and where less was seen before
pub answer_lower : (history : History) (low lower : ℕ) (c : Called) (ask : Ask) (closing : Bool) (story : Story) → lower ≤ low → IsAnswer history low c ask closing story → IsAnswer history lower c ask closing story
answer_lower history low lower (ToRead reading) ask closing story less a = elim a [
  | inl r ↦ inl (record {
    moment = r.moment;
    number = r.number;
    text = r.text;
    built = r.built;
    needs = r.needs;
    within = r.within;
    on = on_lower history low lower r.number less r.on;
    holds = r.holds;
    story_is = r.story_is;
  })
  | inr w ↦ inr (wanting_on refl (omega arith) less w)
]
answer_lower history low lower ToLate ask closing story less a = elim a [
  | inl r ↦ inl (late_lower history low lower ask closing story less r)
  | inr w ↦ inr (wanting_on refl (omega arith) less w)
]
answer_lower history low lower (ToEdit wish) ask closing story less a = elim a [
  | inl reply ↦ inl (elim reply [
    | inl r ↦ inl (refused_lower history low lower wish ask closing story less r)
    | inr other ↦ inr (elim other [
      | inl done ↦ inl (accepted_lower history low lower wish ask closing story less done)
      | inr k ↦ inr (keeper_lower history low lower wish ask closing story less k)
    ])
  ])
  | inr w ↦ inr (wanting_on refl (omega arith) less w)
]

pub text_grows : (history : History) (more : List Commit) (low : ℕ) (request : Request) (closing : Bool) (story : Story) → IsText history low request closing story → IsText (longer history more) low request closing story
text_grows history more low request closing story =
    answer_grows history more low (called request) (ask_of request) closing story

pub text_lower : (history : History) (low lower : ℕ) (request : Request) (closing : Bool) (story : Story) → lower ≤ low → IsText history low request closing story → IsText history lower request closing story
text_lower history low lower request closing story =
    answer_lower history low lower (called request) (ask_of request) closing story

pub texts_grow : (history : History) (more : List Commit) (limit index low : ℕ) (requests : List Request) (story : Story) → Texts history limit index low requests story → Texts (longer history more) limit index low requests story
texts_grow history more limit index low [] story h = h
texts_grow history more limit index low (r ∷ rs) story h = record {
  mine = h.mine;
  rest = h.rest;
  story_is = h.story_is;
  reply = text_grows history more low r (closes_after limit index r) h.mine h.reply;
  others = texts_grow history more limit (index + 1) h.mine.high rs h.rest h.others;
}

-- one text more, at the end
pub texts_more : (history : History) (limit index low : ℕ) (requests : List Request) (story : Story) (r : Request) (mine : Story) → Texts history limit index low requests story → IsText history story.high r (closes_after limit (index + length requests) r) mine → Texts history limit index low (requests ++ r ∷ []) (joined story mine)
texts_more history limit index low [] story r mine h one =
    let here : index + 0 ≡ index = omega arith in
    let there = subst (λ (i : ℕ). IsText history story.high r (closes_after limit i r) mine) here one in
    record {
      mine = mine;
      rest = nothing mine.high;
      story_is = ap (λ (s : Story). joined s mine) h ∙ nothing_joined low mine ∙ sym (joined_nothing mine);
      reply = subst (λ (s : Story). IsText history s.high r (closes_after limit index r) mine) h there;
      others = refl;
    }
texts_more history limit index low (s ∷ ss) story r mine h one =
    let here : index + length (s ∷ ss) ≡ index + 1 + length ss = omega arith in
    let high : story.high ≡ h.rest.high = ap (λ (t : Story). t.high) h.story_is in
    record {
      mine = h.mine;
      rest = joined h.rest mine;
      story_is = ap (λ (t : Story). joined t mine) h.story_is ∙ joined_assoc h.mine h.rest mine;
      reply = h.reply;
      others = texts_more history limit (index + 1) h.mine.high ss h.rest r mine h.others
          (subst (λ (n : ℕ). IsText history n r (closes_after limit (index + 1 + length ss) r) mine) high
          (subst (λ (i : ℕ). IsText history story.high r (closes_after limit i r) mine) here one));
    }
