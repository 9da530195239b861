use Rattle.std.proofs.Common.{◌≡◌, ◌∙◌, ◌++◌, ◌+◌, ◌-◌, ◌<◌, ◌≤◌, ◌⊎◌, List, [], ◌∷◌, ℕ, suc, true, false, take, length, ap, sym, refl, subst, arith, length-append, append_assoc, inl, inr}
use Rattle.std.proofs.lemmas.List.{append-nil}
use Rattle.site_io.specs.Told.{before}
use Rattle.http_heads.specs.declared.request.Request.{Request}
use Rattle.http_heads.specs.declared.parsed.Parsed.TheVariants.{Refused}
use Rattle.http_heads.specs.Parses.{Parses}
use Rattle.http_heads.specs.Requests.{End, Empty, Asks, Limit, Code, Cut, ending, Reads}
use Rattle.http_heads.proofs.Laws.{reads_next, reads_closing, reads_refused, reads_part}
use Rattle.site_house.specs.House.{HouseView, Moves, history_of}
use Rattle.site_house.specs.History.{History, newest}
use Rattle.site_http.specs.Called.{ask_of}
use Rattle.site_http.specs.Reply.{Story, IsLate, IsText, broken_at, refusal_text}
use Rattle.site_http.specs.Connection.{Out, Around, Gave, Went, Texts, Answered, Interrupted, Starved, Broken, BrokenLate, closes_after, joined, nothing, saying, cut_at}
use Rattle.site_http.specs.Turn.{TookOne, Ends, RefusesWith, FailsToRead, Starves, HalfAnswered, HalfRefused, LateAnswered}
use Rattle.site_late.proofs.Told.{before_nothing}
use Rattle.site_house.proofs.Histories.{history_moves, newest_grows}
use Rattle.site_http.proofs.Stories.{gave_nothing, went_on, joined_nothing}
use Rattle.site_http.proofs.Grow.{late_lower, text_lower, texts_grow, texts_more}

-- so many requests are answered, on states whose numbers aren't above what was seen, and these bytes stand in the buffer
pub record Progress (old now : Around) (history : History) (limit low count seen : ℕ) (buffer : List ℕ) : Type 0 where
  pub taken : List ℕ
  pub done : List Request
  pub story : Story
  pub went : Went old now taken story
  pub count_is : length done ≡ count
  -- whatever comes, the requests are those that were answered and those of the rest
  pub reads : (more : List ℕ) (others : List Request) (end : End) → Reads (limit - count) (buffer ++ more) others end → Reads limit (taken ++ more) (done ++ others) end
  pub texts : Texts history limit 0 low done story
  pub not_above : story.high ≤ seen
  pub within : seen ≤ newest history

-- the requests of what was taken and of one piece more
reads_on : (limit count : ℕ) (taken buffer more : List ℕ) (done : List Request) → count < limit → ((m : List ℕ) (others : List Request) (end : End) → Reads (limit - count) (buffer ++ m) others end → Reads limit (taken ++ m) (done ++ others) end) → (m : List ℕ) (others : List Request) (end : End) → Reads (suc (limit - (count + 1))) ((buffer ++ more) ++ m) others end → Reads limit ((taken ++ more) ++ m) (done ++ others) end
reads_on limit count taken buffer more done few reads m others end r =
    let left : suc (limit - (count + 1)) ≡ limit - count = omega arith in
    subst (λ (l : List ℕ). Reads limit l (done ++ others) end) (sym (append_assoc taken more m))
    (reads (more ++ m) others end
    (subst (λ (l : List ℕ). Reads (limit - count) l others end) (append_assoc buffer more m)
    (subst (λ (k : ℕ). Reads k ((buffer ++ more) ++ m) others end) left r)))

-- the same where nothing follows
reads_end : (limit count : ℕ) (taken buffer more : List ℕ) (done : List Request) → count < limit → ((m : List ℕ) (others : List Request) (end : End) → Reads (limit - count) (buffer ++ m) others end → Reads limit (taken ++ m) (done ++ others) end) → (others : List Request) (end : End) → Reads (suc (limit - (count + 1))) (buffer ++ more) others end → Reads limit (taken ++ more) (done ++ others) end
reads_end limit count taken buffer more done few reads others end r =
    let left : suc (limit - (count + 1)) ≡ limit - count = omega arith in
    reads more others end (subst (λ (k : ℕ). Reads k (buffer ++ more) others end) left r)

pub begun : (old : Around) (history : History) (limit : ℕ) → Progress old old history limit (newest history) 0 (newest history) []
begun old history limit = record {
  taken = [];
  done = [];
  story = nothing (newest history);
  went = record { source = before_nothing old.left; gave = gave_nothing old.out (newest history) };
  count_is = refl;
  reads = λ more others end r. let whole : limit - 0 ≡ limit = omega arith in subst (λ (k : ℕ). Reads k more others end) whole r;
  texts = refl;
  not_above = omega arith;
  within = omega arith;
}

-- the same in what a house that moved has seen
pub carried : {old now : Around} {house house' : HouseView} {limit low count seen : ℕ} {buffer : List ℕ} → Moves house house' → Progress old now (history_of house) limit low count seen buffer → Progress old now (history_of house') limit low count seen buffer
carried {old} {now} {house} {house'} {limit} {low} {count} {seen} {buffer} m p =
    subst (λ (h : History). Progress old now h limit low count seen buffer) (sym (history_moves m))
    (record {
      taken = p.taken;
      done = p.done;
      story = p.story;
      went = p.went;
      count_is = p.count_is;
      reads = p.reads;
      texts = texts_grow (history_of house) m.grows.0 limit 0 low p.done p.story p.texts;
      not_above = p.not_above;
      within = newest_grows (history_of house) m.grows.0 seen p.within;
    })

-- one text more
one_more : {old now : Around} {history : History} {limit low count seen : ℕ} {buffer : List ℕ} (request : Request) (mine : Story) → (p : Progress old now history limit low count seen buffer) → IsText history seen request (closes_after limit count request) mine → Texts history limit 0 low (p.done ++ request ∷ []) (joined p.story mine)
one_more {old} {now} {history} {limit} {low} {count} {seen} {buffer} request mine p one =
    let count_is = p.count_is in
    let here : count ≡ 0 + length p.done = omega arith in
    texts_more history limit 0 low p.done p.story request mine p.texts
    (subst (λ (i : ℕ). IsText history p.story.high request (closes_after limit i request) mine) here
    (text_lower history seen p.story.high request (closes_after limit count request) mine p.not_above one))

pub goes_on : {old now new : Around} {history : History} {limit low count seen : ℕ} {buffer buffer' : List ℕ} → count < limit → Progress old now history limit low count seen buffer → TookOne now new history limit count seen buffer buffer' false → Progress old new history limit low (count + 1) (newest history) buffer'
goes_on {old} {now} {new} {history} {limit} {low} {count} {seen} {buffer} {buffer'} few p a =
    let more = a.more in
    let k = limit - (count + 1) in
    let r = a.replied in
    record {
      taken = p.taken ++ more;
      done = p.done ++ a.request ∷ [];
      story = joined p.story r.story;
      went = went_on more r.story p.went a.source r.gave;
      count_is = length-append p.done (a.request ∷ []) ∙ ap (λ (n : ℕ). n + 1) p.count_is;
      reads = λ m others end rest.
          subst (λ (rs : List Request). Reads limit ((p.taken ++ more) ++ m) rs end) (sym (append_assoc p.done (a.request ∷ []) others))
          (reads_on limit count p.taken buffer more p.done few p.reads m (a.request ∷ others) end
          (reads_next k (buffer ++ more) m a.request a.size others end a.parses a.closes_is
          (subst (λ (l : List ℕ). Reads k (l ++ m) others end) a.kept rest)));
      texts = one_more a.request r.story p r.text;
      not_above = r.not_above;
      within = omega arith;
    }

-- nothing was added
still : (o o' : Out) (low : ℕ) → o' ≡ o → Gave o o' (nothing low)
still o o' low same = subst (λ (x : Out). Gave o x (nothing low)) (sym same) (gave_nothing o low)

-- the connection ends with the texts so far, and this one
answered_at : {old now new : Around} {history : History} {limit low count seen : ℕ} {buffer : List ℕ} (more closing : List ℕ) (end : End) → count < limit → (p : Progress old now history limit low count seen buffer) → now.left ≡ before more new.left → Gave now.out new.out (saying closing p.story.high) → Reads (suc (limit - (count + 1))) (buffer ++ more) [] end → Answered old new history limit low end closing
answered_at {old} {now} {new} {history} {limit} {low} {count} {seen} {buffer} more closing end few p source gave e =
    let not_above = p.not_above in
    let within = p.within in
    record {
      taken = p.taken ++ more;
      requests = p.done;
      story = p.story;
      went = went_on more (saying closing p.story.high) p.went source gave;
      reads = subst (λ (rs : List Request). Reads limit (p.taken ++ more) rs end) (append-nil p.done) (reads_end limit count p.taken buffer more p.done few p.reads [] end e);
      texts = p.texts;
      not_above = omega arith;
    }

pub ends_at : {old now new : Around} {history : History} {limit low count seen : ℕ} {buffer : List ℕ} {size : ℕ} → count < limit → Progress old now history limit low count seen buffer → (n : Ends now new buffer size) → Answered old new history limit low (ending (buffer ++ n.more)) []
ends_at {old} {now} {new} {history} {limit} {low} {count} {seen} {buffer} {size} few p n =
    answered_at n.more [] (ending (buffer ++ n.more)) few p n.source (still now.out new.out p.story.high n.out) (reads_part (limit - (count + 1)) (buffer ++ n.more) n.parses)

open_ending : (xs : List ℕ) → (ending xs ≡ Empty) ⊎ ((n : ℕ) × (ending xs ≡ Cut n))
open_ending [] = inl refl
open_ending (x ∷ xs) = inr (length (x ∷ xs), refl)

pub interrupted_at : {old now new : Around} {history : History} {limit low count seen : ℕ} {buffer : List ℕ} → count < limit → Progress old now history limit low count seen buffer → FailsToRead now new buffer → Interrupted old new history limit low
interrupted_at {old} {now} {new} {history} {limit} {low} {count} {seen} {buffer} few p n = record {
  end = ending (buffer ++ n.more);
  unfinished = open_ending (buffer ++ n.more);
  answered = answered_at n.more [] (ending (buffer ++ n.more)) few p n.source (still now.out new.out p.story.high n.out) (reads_part (limit - (count + 1)) (buffer ++ n.more) n.parses);
}

refused_reads : (k : ℕ) (bytes : List ℕ) (code : ℕ) → Parses bytes (Refused code) → Reads (suc k) bytes [] (Code code)
refused_reads k bytes code parses =
    subst (λ (l : List ℕ). Reads (suc k) l [] (Code code)) (append-nil bytes) (reads_refused k bytes [] code parses)

-- bytes that are no reply to a request change no number
say_from : {o o' : Out} (text : List ℕ) (low high : ℕ) → Gave o o' (saying text low) → Gave o o' (saying text high)
say_from text low high g = record { clock = g.clock; chance = g.chance; gate = g.gate; sink = g.sink; house = g.house; failures = g.failures; kept = g.kept }

pub refused_at : {old now new : Around} {history : History} {limit low count seen : ℕ} {buffer : List ℕ} (code : ℕ) → count < limit → Progress old now history limit low count seen buffer → RefusesWith now new buffer code seen → Answered old new history limit low (Code code) (refusal_text code)
refused_at {old} {now} {new} {history} {limit} {low} {count} {seen} {buffer} code few p r =
    let n = r.refuses in
    answered_at n.more (refusal_text code) (Code code) few p n.source (say_from (refusal_text code) seen p.story.high r.gave) (refused_reads (limit - (count + 1)) (buffer ++ n.more) code n.parses)

pub asked_at : {old now new : Around} {history : History} {limit low count seen : ℕ} {buffer buffer' : List ℕ} → count < limit → Progress old now history limit low count seen buffer → TookOne now new history limit count seen buffer buffer' true → Answered old new history limit low Asks []
asked_at {old} {now} {new} {history} {limit} {low} {count} {seen} {buffer} {buffer'} few p a =
    let more = a.more in
    let r = a.replied in
    let last : Reads (suc (limit - (count + 1))) (buffer ++ more) (a.request ∷ []) Asks =
    subst (λ (l : List ℕ). Reads (suc (limit - (count + 1))) l (a.request ∷ []) Asks) (append-nil (buffer ++ more)) (reads_closing (limit - (count + 1)) (buffer ++ more) [] a.request a.size a.parses a.closes_is) in
    record {
      taken = p.taken ++ more;
      requests = p.done ++ a.request ∷ [];
      story = joined p.story r.story;
      went = subst (λ (s : Story). Went old new (p.taken ++ more) s) (sym (joined_nothing (joined p.story r.story))) (went_on more r.story p.went a.source r.gave);
      reads = reads_end limit count p.taken buffer more p.done few p.reads (a.request ∷ []) Asks last;
      texts = one_more a.request r.story p r.text;
      not_above = r.not_above;
    }

none_read : (k : ℕ) (bytes : List ℕ) → k ≡ 0 → Reads k bytes [] Limit
none_read k bytes none = subst (λ (n : ℕ). Reads n bytes [] Limit) (sym none) (refl, refl)

pub spent_at : {old now : Around} {history : History} {limit low count seen : ℕ} {buffer : List ℕ} → limit ≤ count → Progress old now history limit low count seen buffer → Answered old now history limit low Limit []
spent_at {old} {now} {history} {limit} {low} {count} {seen} {buffer} all p =
    let none : limit - count ≡ 0 = omega arith in
    let not_above = p.not_above in
    let within = p.within in
    let read = p.reads [] [] Limit (none_read (limit - count) (buffer ++ []) none) in
    record {
      taken = p.taken;
      requests = p.done;
      story = p.story;
      went = subst (λ (s : Story). Went old now p.taken s) (sym (joined_nothing p.story)) p.went;
      reads = subst (λ (l : List ℕ). Reads limit l p.done Limit) (append-nil p.taken) (subst (λ (rs : List Request). Reads limit (p.taken ++ []) rs Limit) (append-nil p.done) read);
      texts = p.texts;
      not_above = omega arith;
    }

-- what remains to be read after the requests that were answered
rest_reads : (limit count : ℕ) (taken buffer more : List ℕ) (done : List Request) → length done ≡ count → ((m : List ℕ) (others : List Request) (end : End) → Reads (limit - count) (buffer ++ m) others end → Reads limit (taken ++ m) (done ++ others) end) → (others : List Request) (end : End) → Reads (limit - length done) (buffer ++ more) others end → Reads limit (taken ++ more) (done ++ others) end
rest_reads limit count taken buffer more done count_is reads others end r =
    reads more others end (subst (λ (n : ℕ). Reads (limit - n) (buffer ++ more) others end) count_is r)

pub starved_at : {old now new : Around} {history : History} {limit low count seen : ℕ} {buffer : List ℕ} → Progress old now history limit low count seen buffer → Starves now new → Starved old new history limit low
starved_at {old} {now} {new} {history} {limit} {low} {count} {seen} {buffer} p n =
    let not_above = p.not_above in
    let within = p.within in
    record {
      taken = p.taken ++ n.more;
      requests = p.done;
      story = p.story;
      rest = buffer ++ n.more;
      went = subst (λ (s : Story). Went old new (p.taken ++ n.more) s) (joined_nothing p.story) (went_on n.more (nothing p.story.high) p.went n.source (still now.out new.out p.story.high n.out));
      reads = rest_reads limit count p.taken buffer n.more p.done p.count_is p.reads;
      texts = p.texts;
      not_above = omega arith;
    }

-- nothing was taken yet
pub starved_first : (old : Around) (history : History) (limit : ℕ) → Starved old old history limit (newest history)
starved_first old history limit =
    starved_at (begun old history limit) (record { more = []; source = before_nothing old.left; out = refl })

pub half_answered_at : {old now new : Around} {history : History} {limit low count seen : ℕ} {buffer : List ℕ} → Progress old now history limit low count seen buffer → HalfAnswered now new history limit count seen buffer → Broken old new history limit low
half_answered_at {old} {now} {new} {history} {limit} {low} {count} {seen} {buffer} p a =
    let not_above = p.not_above in
    let within = p.within in
    let r = a.replied in
    record {
      taken = p.taken ++ a.more;
      requests = p.done;
      story = p.story;
      rest = buffer ++ a.more;
      last = r.story;
      count = r.count;
      went = went_on a.more (cut_at r.count r.story) p.went a.source r.gave;
      reads = rest_reads limit count p.taken buffer a.more p.done p.count_is p.reads;
      texts = p.texts;
      not_above = omega arith;
      next_is = inl (record {
        request = a.request;
        size = a.size;
        parses = a.parses;
        reply = subst (λ (i : ℕ). IsText history p.story.high a.request (closes_after limit i a.request) r.story) (sym p.count_is)
            (text_lower history seen p.story.high a.request (closes_after limit count a.request) r.story p.not_above r.text);
        not_above = r.not_above;
      });
    }

pub half_refused_at : {old now new : Around} {history : History} {limit low count seen : ℕ} {buffer : List ℕ} → Progress old now history limit low count seen buffer → HalfRefused now new buffer seen → Broken old new history limit low
half_refused_at {old} {now} {new} {history} {limit} {low} {count} {seen} {buffer} p h =
    let not_above = p.not_above in
    let within = p.within in
    let n = h.refuses in
    record {
      taken = p.taken ++ n.more;
      requests = p.done;
      story = p.story;
      rest = buffer ++ n.more;
      last = saying (refusal_text h.code) p.story.high;
      count = h.count;
      went = went_on n.more (cut_at h.count (saying (refusal_text h.code) p.story.high)) p.went n.source (say_from (take h.count (refusal_text h.code)) seen p.story.high h.gave);
      reads = rest_reads limit count p.taken buffer n.more p.done p.count_is p.reads;
      texts = p.texts;
      not_above = omega arith;
      next_is = inr (record { code = h.code; parses = n.parses; story_is = refl });
    }

pub late_answered_at : {old now new : Around} {history : History} {limit low count seen least : ℕ} {buffer : List ℕ} → Progress old now history limit low count seen buffer → LateAnswered now new history limit count seen buffer least → BrokenLate old new history limit low least
late_answered_at {old} {now} {new} {history} {limit} {low} {count} {seen} {least} {buffer} p a =
    let not_above = p.not_above in
    let within = p.within in
    let r = a.replied in
    record {
      taken = p.taken ++ a.more;
      requests = p.done;
      story = p.story;
      rest = buffer ++ a.more;
      last = r.story;
      count = r.count;
      parts = r.parts;
      some = r.some;
      went = went_on a.more (broken_at least r.count r.parts r.story) p.went a.source r.gave;
      reads = rest_reads limit count p.taken buffer a.more p.done p.count_is p.reads;
      texts = p.texts;
      not_above = omega arith;
      next_is = record {
        request = a.request;
        size = a.size;
        parses = a.parses;
        late = r.late;
        reply = subst (λ (i : ℕ). IsLate history p.story.high (ask_of a.request) (closes_after limit i a.request) r.story) (sym p.count_is)
            (late_lower history seen p.story.high (ask_of a.request) (closes_after limit count a.request) r.story p.not_above r.reply);
        not_above = r.not_above;
      };
    }
