-- A drill on its way: so many requests are answered.
use Rattle.std.proofs.Common.{◌≡◌, ◌∙◌, ◌++◌, ◌+◌, ◌-◌, ◌<◌, ◌≤◌, List, [], ◌∷◌, ℕ, suc, Bool, true, false, Some, length, drop, Option, ap, sym, refl, subst, arith, length-append, append_assoc}
use Rattle.std.specs.Prelude.{All}
use Rattle.std.specs.List.{count_by}
use Rattle.std.proofs.Math.Seq.{drop-append_seam}
use Rattle.std.proofs.lemmas.List.{append-nil}
use Rattle.std.proofs.lemmas.List.Elements.{All-append, All-cons, All-nil}
use Rattle.http_heads.specs.declared.request.Request.{Request}
use Rattle.http_heads.specs.Requests.{End, Empty, ending, Reads}
use Rattle.http_heads.proofs.Laws.{reads_next, reads_part}
use Rattle.site_house.specs.House.{HouseView, Moves, history_of}
use Rattle.site_house.specs.History.{History, newest}
use Rattle.site_house.proofs.Histories.{history_moves, newest_grows}
use Rattle.site_http.specs.Reply.{Story, IsText}
use Rattle.site_http.specs.Connection.{Around, Gave, Out, Went, closes_after, nothing}
use Rattle.site_http.specs.Turn.{Ends, TookOne}
use Rattle.site_http.proofs.Grow.{text_lower}
use Rattle.site_http.proofs.Stories.{gave_nothing, joined_nothing, went_on}
use Rattle.site_late.proofs.Told.{before_nothing}
use Rattle.site_io.specs.Told.{after as told}
use Rattle.site_drill.specs.Fronts.{is_wanting, shows_page}
use Rattle.site_drill.specs.Replies.{AllAnswered, AreReplies, Exchange, NoneWanting, is_page, requests_of, whole}
use Rattle.site_drill.specs.Steps.{TookReply, pages_with}
use Rattle.site_drill.proofs.Counts.{count_no, count_yes}
use Rattle.site_drill.proofs.Exchanges.{replies_grow, replies_more, requests_more, whole_more}

pub inner : {A : Type 0} {x y : A} → Some x ≡ Some y → x ≡ y
inner same = cc

-- counts alone: where a reply is known too, `omega` reads it through
same_as : (count number : ℕ) → number ≡ count → count ≡ 0 + number
same_as count number is = omega arith

no_more : (count : ℕ) → count ≤ count
no_more count = omega arith

one_of : (limit count : ℕ) → count < limit → suc (limit - (count + 1)) ≡ limit - count
one_of limit count few = omega arith

-- so many requests are answered, of whose replies so many show a page, and these bytes stand in the buffer
pub record Underway (old now : Around) (history : History) (low count pages seen : ℕ) (buffer : List ℕ) : Type 0 where
  pub taken : List ℕ
  pub exchanges : List Exchange
  pub went : Went old now taken (whole low exchanges)
  pub count_is : length exchanges ≡ count
  pub reads : (more : List ℕ) (others : List Request) (end : End) → Reads (1000 - count) (buffer ++ more) others end → Reads 1000 (taken ++ more) (requests_of exchanges ++ others) end
  pub replies : AreReplies history 0 low exchanges
  pub not_above : (whole low exchanges).high ≤ seen
  pub within : seen ≤ newest history
  pub pages_is : pages ≡ count_by is_page exchanges
  pub none_wanting : NoneWanting exchanges

pub begun : (old : Around) (history : History) → Underway old old history (newest history) 0 0 (newest history) []
begun old history = record {
  taken = [];
  exchanges = [];
  went = record { source = before_nothing old.left; gave = gave_nothing old.out (newest history) };
  count_is = refl;
  reads = λ more others end r. r;
  replies = tt;
  not_above = no_more (newest history);
  within = no_more (newest history);
  pages_is = refl;
  none_wanting = All-nil (λ (e : Exchange). is_wanting e.story.text ≡ false);
}

-- the same in what a house that moved has seen
carried : {old now : Around} {house house' : HouseView} {low count pages seen : ℕ} {buffer : List ℕ} → Moves house house' → Underway old now (history_of house) low count pages seen buffer → Underway old now (history_of house') low count pages seen buffer
carried {old} {now} {house} {house'} {low} {count} {pages} {seen} {buffer} m u =
    subst (λ (h : History). Underway old now h low count pages seen buffer) (sym (history_moves m))
    (record {
      taken = u.taken;
      exchanges = u.exchanges;
      went = u.went;
      count_is = u.count_is;
      reads = u.reads;
      replies = replies_grow (history_of house) m.grows.0 0 low u.exchanges u.replies;
      not_above = u.not_above;
      within = newest_grows (history_of house) m.grows.0 seen u.within;
      pages_is = u.pages_is;
      none_wanting = u.none_wanting;
    })

-- the requests of what was taken and of one piece more
reads_on : (limit count : ℕ) (taken buffer more : List ℕ) (done : List Request) → count < limit → ((m : List ℕ) (others : List Request) (end : End) → Reads (limit - count) (buffer ++ m) others end → Reads limit (taken ++ m) (done ++ others) end) → (m : List ℕ) (others : List Request) (end : End) → Reads (suc (limit - (count + 1))) ((buffer ++ more) ++ m) others end → Reads limit ((taken ++ more) ++ m) (done ++ others) end
reads_on limit count taken buffer more done few reads m others end r =
    let left = one_of limit count few in
    subst (λ (l : List ℕ). Reads limit l (done ++ others) end) (sym (append_assoc taken more m))
    (reads (more ++ m) others end
    (subst (λ (l : List ℕ). Reads (limit - count) l others end) (append_assoc buffer more m)
    (subst (λ (k : ℕ). Reads k ((buffer ++ more) ++ m) others end) left r)))

-- and where nothing follows
reads_end : (limit count : ℕ) (taken buffer more : List ℕ) (done : List Request) → count < limit → ((m : List ℕ) (others : List Request) (end : End) → Reads (limit - count) (buffer ++ m) others end → Reads limit (taken ++ m) (done ++ others) end) → (others : List Request) (end : End) → Reads (suc (limit - (count + 1))) (buffer ++ more) others end → Reads limit (taken ++ more) (done ++ others) end
reads_end limit count taken buffer more done few reads others end r =
    let left = one_of limit count few in
    reads more others end (subst (λ (k : ℕ). Reads k (buffer ++ more) others end) left r)

pub pages_few : (pages count : ℕ) (page : Bool) → pages ≤ count → pages_with pages page ≤ count + 1
pages_few pages count true few = omega arith
pages_few pages count false few = omega arith

pages_more : (pages : ℕ) (exchanges : List Exchange) (one : Exchange) (page : Bool) → pages ≡ count_by is_page exchanges → page ≡ is_page one → pages_with pages page ≡ count_by is_page (exchanges ++ one ∷ [])
pages_more pages exchanges one true is page = ap (λ (n : ℕ). n + 1) is ∙ sym (count_yes is_page exchanges one (sym page))
pages_more pages exchanges one false is page = is ∙ sym (count_no is_page exchanges one (sym page))

-- what holds of one member holds of all of a list of it alone
all_one : (P : Exchange → Type 0) (one : Exchange) → P one → All P (one ∷ [])
all_one P one here = All-cons P one [] here (All-nil P)

goes_on : {old now new : Around} {history : History} {low count pages seen : ℕ} {page : Bool} {buffer buffer' : List ℕ} → count < 1000 → Underway old now history low count pages seen buffer → TookReply page now new history count seen buffer buffer' → Underway old new history low (count + 1) (pages_with pages page) (newest history) buffer'
goes_on {old} {now} {new} {history} {low} {count} {pages} {seen} {page} {buffer} {buffer'} few u t =
    let a = t.took in
    let r = a.replied in
    let one : Exchange = record { request = a.request; story = r.story } in
    let k = 1000 - (count + 1) in
    let here : count ≡ 0 + length u.exchanges = same_as count (length u.exchanges) u.count_is in
    record {
      taken = u.taken ++ a.more;
      exchanges = u.exchanges ++ one ∷ [];
      went = subst (λ (s : Story). Went old new (u.taken ++ a.more) s) (sym (whole_more low u.exchanges one)) (went_on a.more r.story u.went a.source r.gave);
      count_is = length-append u.exchanges (one ∷ []) ∙ ap (λ (n : ℕ). n + 1) u.count_is;
      reads = λ m others end rest.
          subst (λ (rs : List Request). Reads 1000 ((u.taken ++ a.more) ++ m) rs end) (sym (append_assoc (requests_of u.exchanges) (a.request ∷ []) others) ∙ ap (λ (rs : List Request). rs ++ others) (sym (requests_more u.exchanges one)))
          (reads_on 1000 count u.taken buffer a.more (requests_of u.exchanges) few u.reads m (a.request ∷ others) end
          (reads_next k (buffer ++ a.more) m a.request a.size others end a.parses a.closes_is
          (subst (λ (l : List ℕ). Reads k (l ++ m) others end) a.kept rest)));
      replies = replies_more history 0 low u.exchanges one u.replies
          (subst (λ (i : ℕ). IsText history (whole low u.exchanges).high a.request (closes_after 1000 i a.request) r.story) here
          (text_lower history seen (whole low u.exchanges).high a.request (closes_after 1000 count a.request) r.story u.not_above r.text));
      not_above = subst (λ (s : Story). s.high ≤ newest history) (sym (whole_more low u.exchanges one)) r.not_above;
      within = no_more (newest history);
      pages_is = pages_more pages u.exchanges one page u.pages_is t.page_is;
      none_wanting = All-append (λ (e : Exchange). is_wanting e.story.text ≡ false) u.exchanges (one ∷ []) u.none_wanting (all_one (λ (e : Exchange). is_wanting e.story.text ≡ false) one t.not_wanting);
    }

pub goes_in : {old now new : Around} {house house' : HouseView} {low count pages : ℕ} {page : Bool} {buffer : List ℕ} (buffer' : List ℕ) → count < 1000 → Moves house house' → Underway old now (history_of house) low count pages (newest (history_of house)) buffer → TookReply page now new (history_of house') count (newest (history_of house)) buffer buffer' → Underway old new (history_of house') low (count + 1) (pages_with pages page) (newest (history_of house')) buffer'
goes_in buffer' few m u t = goes_on few (carried m u) t

ending_empty : (xs : List ℕ) → 0 ≡ length xs → ending xs ≡ Empty
ending_empty [] h = refl
ending_empty (x ∷ xs) h = absurd (omega arith)

-- the input ended after the last of them
pub ends_in : {old now new : Around} {house house' : HouseView} {low count pages : ℕ} {buffer : List ℕ} → count < 1000 → Moves house house' → Underway old now (history_of house) low count pages (newest (history_of house)) buffer → Ends now new buffer 0 → AllAnswered count pages old new (history_of house') low
ends_in {old} {now} {new} {house} {house'} {low} {count} {pages} {buffer} few m before e =
    let u = carried m before in
    let still : Gave now.out new.out (nothing (whole low u.exchanges).high) = subst (λ (x : Out). Gave now.out x (nothing (whole low u.exchanges).high)) (sym e.out) (gave_nothing now.out (whole low u.exchanges).high) in
    let rest : Reads (suc (1000 - (count + 1))) (buffer ++ e.more) [] Empty = subst (λ (d : End). Reads (suc (1000 - (count + 1))) (buffer ++ e.more) [] d) (ending_empty (buffer ++ e.more) e.size_is) (reads_part (1000 - (count + 1)) (buffer ++ e.more) e.parses) in
    record {
      taken = u.taken ++ e.more;
      exchanges = u.exchanges;
      went = subst (λ (s : Story). Went old new (u.taken ++ e.more) s) (joined_nothing (whole low u.exchanges)) (went_on e.more (nothing (whole low u.exchanges).high) u.went e.source still);
      nothing_left = e.nothing;
      reads = subst (λ (rs : List Request). Reads 1000 (u.taken ++ e.more) rs Empty) (append-nil (requests_of u.exchanges)) (reads_end 1000 count u.taken buffer e.more (requests_of u.exchanges) few u.reads [] Empty rest);
      count_is = u.count_is;
      replies = u.replies;
      pages_is = u.pages_is;
      none_wanting = u.none_wanting;
    }

-- what was written since is the text of the reply
pub took_reply : (page wanting : Bool) (old new : Around) (history : History) (index low : ℕ) (buffer buffer' before after text : List ℕ)
    → old.out.written ≡ Some before → new.out.written ≡ Some after → text ≡ drop (length before) after
    → page ≡ shows_page text → wanting ≡ is_wanting text → wanting ≡ false
    → TookOne old new history 1000 index low buffer buffer' false → TookReply page old new history index low buffer buffer'
took_reply page wanting old new history index low buffer buffer' before after text old_is new_is text_is page_is wanting_is none took =
    let sink : Some after ≡ Some (before ++ took.replied.story.text) = sym new_is ∙ took.replied.gave.sink ∙ ap (λ (o : Option (List ℕ)). told o took.replied.story.text) old_is in
    let all = inner sink in
    let same : text ≡ took.replied.story.text = text_is ∙ ap (λ (l : List ℕ). drop (length before) l) all ∙ drop-append_seam before took.replied.story.text in
    record {
      took = took;
      page_is = page_is ∙ ap shows_page same;
      not_wanting = sym (ap is_wanting same) ∙ sym wanting_is ∙ none;
    }
