-- From what the requests of a drill were answered with to what is told of it.
use Rattle.std.proofs.Common.{◌≡◌, ◌∙◌, ◌++◌, ◌≤◌, ◌⊎◌, List, [], ℕ, zero, suc, Option, Some, drop, length, ap, refl, sym, subst, arith, inl, inr}
use Rattle.std.proofs.lemmas.List.{append-nil}
use Rattle.hex.specs.Hex.{encode_lower}
use Rattle.sha2.specs.Sha256.{sha256}
use Rattle.content_state.specs.State.{State}
use Rattle.content_state.specs.declared.commit.Commit.{Commit}
use Rattle.http_heads.specs.Requests.{Empty, Reads}
use Rattle.site_io.specs.declared.device.Point.{Point}
use Rattle.site_io.specs.Memory.{up}
use Rattle.site_io.specs.Series.{AreFirstOf, GivesInTurn, last_moment}
use Rattle.site_house.specs.History.{History, newest, newest_of}
use Rattle.site_house.specs.House.{HouseView, Moves, CountRose, history_of}
use Rattle.kept_pages.specs.Held.{Shelves}
use Rattle.site_http.specs.Connection.{Around, Went, raised}
use Rattle.site_http.specs.Kept.{KeepsFor, shelves_of}
use Rattle.site_alone.specs.House.{opened_on}
use Rattle.site_drill.specs.Drill.{IsAnswered, moments_to}
use Rattle.site_drill.specs.Replies.{AllAnswered, AreReplies, requests_of, whole}
use Rattle.site_drill.specs.Tally.{built_in}
use Rattle.site_drill.specs.declared.figures.Figures.{Figures}
use Rattle.site_drill.proofs.Underway.{inner}

-- no answer was that the keeper failed, since it never did
no_keepers : {k k' f f' : ℕ} → f ≡ 0 → f' ≡ f → k ≡ 0 → (k' ≡ k) ⊎ CountRose f f' → k' ≡ 0
no_keepers none same begins cause = elim cause [
  | inl stays ↦ stays ∙ begins
  | inr rose ↦ absurd (omega (arith, none, same))
]

raised_above : (count more : ℕ) → 1 ≤ count → 1 ≤ raised count more
raised_above count zero some = some
raised_above count (suc more) some = raised_above (up count) more (omega arith)

-- a count that is 0 in the end never rose
none_raised : (more : ℕ) → 0 ≡ raised 0 more → more ≡ 0
none_raised zero is = refl
none_raised (suc more) is =
    let above : 1 ≤ raised (up 0) more = raised_above (up 0) more (omega arith) in
    absurd (omega arith)

abbrev around : Option (List ℕ) → Option (List ℕ) → Option (List ℕ) → Option (List Point) → Option (List ℕ) → List Commit → ℕ → Option Shelves → Around
around left given words points written handed keepers kept = record {
  left = left;
  out = record { given = given; words = words; points = points; written = written; handed = handed; keepers = keepers; kept = kept };
}

-- what the requests were answered over, and with
pub record Served (site : State) (requests left given : List ℕ) (words : Option (List ℕ)) (points : List Point) (written : List ℕ) (moments moments-after : List ℕ) (house house-after : HouseView) (pages : ℕ) : Type 0 where
  pub house_is : house ≡ opened_on site
  pub moves : Moves house house-after
  pub own : house-after.faults ≡ 0 → house-after.handed ≡ drop house-after.opened house-after.seen
  pub listed : moments ≡ moments_to 900
  pub turn : GivesInTurn last_moment (Some moments) (Some moments-after) (Some []) (Some given)
  pub answered :
      AllAnswered 900 pages
      (around (Some requests) (Some []) (Some []) (Some []) (Some []) house.handed house.keepers (shelves_of house))
      (around (Some left) (Some given) words (Some points) (Some written) house-after.handed house-after.keepers (shelves_of house-after))
      (history_of house-after) (newest (history_of house))

abbrev history : State → List Commit → ℕ → History
history base log pass = record { base = base; log = log; pass = pass }

pub drilled : (site : State) (requests left given : List ℕ) (words : Option (List ℕ)) (points : List Point) (written moments moments-after : List ℕ) (house house-after : HouseView) (pages : ℕ) (figures : Figures)
    → Served site requests left given words points written moments moments-after house house-after pages
    → figures.pages ≡ pages → figures.edits ≡ length house-after.handed → figures.built ≡ built_in points → figures.bytes ≡ length written → figures.sha256 ≡ encode_lower (sha256 written)
    → IsAnswered site requests figures
drilled site requests left given words points written moments moments-after house house-after pages figures s pages_is edits_is built_is bytes_is digest_is =
    let a = s.answered in
    let m = s.moves in
    let exchanges = a.exchanges in
    let low = newest_of site [] in
    let story = whole low exchanges in
    let base : house-after.base ≡ site = m.base ∙ ap (λ (h : HouseView). h.base) s.house_is in
    let pass : house-after.number ≡ 0 = m.number ∙ ap (λ (h : HouseView). h.number) s.house_is in
    let opened : house-after.opened ≡ 0 = m.opened ∙ ap (λ (h : HouseView). h.opened) s.house_is in
    let begun : house.faults ≡ 0 = ap (λ (h : HouseView). h.faults) s.house_is in
    let same : house-after.faults ≡ house.faults = m.never_fails (ap (λ (h : HouseView). h.steadfast) s.house_is) in
    let none_before : house.keepers ≡ 0 = ap (λ (h : HouseView). h.keepers) s.house_is in
    let handed_before : house.handed ≡ [] = ap (λ (h : HouseView). h.handed) s.house_is in
    let handed : house-after.handed ≡ house-after.seen = s.own (same ∙ begun) ∙ ap (λ (n : ℕ). drop n house-after.seen) opened in
    let keepers : house-after.keepers ≡ 0 = no_keepers begun same none_before m.cause in
    let at_low : newest (history_of house) ≡ low = ap (λ (h : HouseView). newest (history_of h)) s.house_is in
    let went : Went (around (Some requests) (Some []) (Some []) (Some []) (Some []) house.handed house.keepers (shelves_of house)) (around (Some left) (Some given) words (Some points) (Some written) house-after.handed house-after.keepers (shelves_of house-after)) a.taken story = subst (λ (n : ℕ). Went (around (Some requests) (Some []) (Some []) (Some []) (Some []) house.handed house.keepers (shelves_of house)) (around (Some left) (Some given) words (Some points) (Some written) house-after.handed house-after.keepers (shelves_of house-after)) a.taken (whole n exchanges)) at_low a.went in
    let gave = went.gave in
    let source : requests ≡ a.taken ++ left = inner went.source in
    let taken : requests ≡ a.taken = source ∙ ap (λ (l : List ℕ). a.taken ++ l) a.nothing_left ∙ append-nil a.taken in
    let given_is : given ≡ story.moments = inner gave.clock in
    let points_is : points ≡ story.points = inner gave.gate in
    let written_is : written ≡ story.text = inner gave.sink in
    let handed_is : house-after.handed ≡ story.handed = gave.house ∙ ap (λ (l : List Commit). l ++ story.handed) handed_before in
    let keepers_is : 0 ≡ raised 0 story.keepers = sym keepers ∙ gave.failures ∙ ap (λ (n : ℕ). raised n story.keepers) none_before in
    let first : AreFirstOf last_moment (Some moments-after) (Some given) = s.turn.in_turn refl in
    let list : moments-after ≡ moments_to 900 = inner s.turn.same ∙ s.listed in
    let second : AreFirstOf last_moment (Some (moments_to 900)) (Some given) = subst (λ (l : List ℕ). AreFirstOf last_moment (Some l) (Some given)) list first in
    let replies_low : AreReplies (history_of house-after) 0 low exchanges = subst (λ (n : ℕ). AreReplies (history_of house-after) 0 n exchanges) at_low a.replies in
    let replies_base : AreReplies (history site house-after.seen house-after.number) 0 low exchanges = subst (λ (b : State). AreReplies (history b house-after.seen house-after.number) 0 low exchanges) base replies_low in
    record {
      exchanges = exchanges;
      log = house-after.seen;
      reads = subst (λ (l : List ℕ). Reads 1000 l (requests_of exchanges) Empty) (sym taken) a.reads;
      count_is = a.count_is;
      replies = subst (λ (n : ℕ). AreReplies (history site house-after.seen n) 0 low exchanges) pass replies_base;
      in_turn = subst (λ (l : List ℕ). AreFirstOf last_moment (Some (moments_to 900)) (Some l)) given_is second;
      handed = sym handed_is ∙ handed;
      shelves = shelves_of house-after;
      kept = subst (λ (o : Option Shelves). KeepsFor story.needs o (shelves_of house-after)) (ap shelves_of s.house_is) gave.kept;
      none_failed = none_raised story.keepers keepers_is;
      none_wanting = a.none_wanting;
      pages = pages_is ∙ a.pages_is;
      edits = edits_is ∙ ap length handed;
      built = built_is ∙ ap built_in points_is;
      bytes = bytes_is ∙ ap length written_is;
      digest = digest_is ∙ ap (λ (l : List ℕ). encode_lower (sha256 l)) written_is;
    }

-- the same over devices that are fresh
pub record ServedFresh (site : State) (requests left-before left given-before given : List ℕ) (words-before : List ℕ) (words : Option (List ℕ)) (points-before points : List Point) (written-before written : List ℕ) (moments moments-after : List ℕ) (house house-after : HouseView) (pages : ℕ) : Type 0 where
  pub left_is : left-before ≡ requests
  pub given_is : given-before ≡ []
  pub words_is : words-before ≡ []
  pub points_is : points-before ≡ []
  pub written_is : written-before ≡ []
  pub house_is : house ≡ opened_on site
  pub moves : Moves house house-after
  pub own : house-after.faults ≡ 0 → house-after.handed ≡ drop house-after.opened house-after.seen
  pub listed : moments ≡ moments_to 900
  pub turn : GivesInTurn last_moment (Some moments) (Some moments-after) (Some given-before) (Some given)
  pub answered :
      AllAnswered 900 pages
      (around (Some left-before) (Some given-before) (Some words-before) (Some points-before) (Some written-before) house.handed house.keepers (shelves_of house))
      (around (Some left) (Some given) words (Some points) (Some written) house-after.handed house-after.keepers (shelves_of house-after))
      (history_of house-after) (newest (history_of house))

pub served_fresh : {site : State} {requests left-before left given-before given words-before : List ℕ} {words : Option (List ℕ)} {points-before points : List Point} {written-before written moments moments-after : List ℕ} {house house-after : HouseView} {pages : ℕ}
    → ServedFresh site requests left-before left given-before given words-before words points-before points written-before written moments moments-after house house-after pages
    → Served site requests left given words points written moments moments-after house house-after pages
served_fresh {site} {requests} {left-before} {left} {given-before} {given} {words-before} {words} {points-before} {points} {written-before} {written} {moments} {moments-after} {house} {house-after} {pages} s =
    let after_all : Around = around (Some left) (Some given) words (Some points) (Some written) house-after.handed house-after.keepers (shelves_of house-after) in
    let first = subst (λ (l : List ℕ). AllAnswered 900 pages (around (Some l) (Some given-before) (Some words-before) (Some points-before) (Some written-before) house.handed house.keepers (shelves_of house)) after_all (history_of house-after) (newest (history_of house))) s.left_is s.answered in
    let second = subst (λ (l : List ℕ). AllAnswered 900 pages (around (Some requests) (Some l) (Some words-before) (Some points-before) (Some written-before) house.handed house.keepers (shelves_of house)) after_all (history_of house-after) (newest (history_of house))) s.given_is first in
    let third = subst (λ (l : List ℕ). AllAnswered 900 pages (around (Some requests) (Some []) (Some l) (Some points-before) (Some written-before) house.handed house.keepers (shelves_of house)) after_all (history_of house-after) (newest (history_of house))) s.words_is second in
    let fourth = subst (λ (l : List Point). AllAnswered 900 pages (around (Some requests) (Some []) (Some []) (Some l) (Some written-before) house.handed house.keepers (shelves_of house)) after_all (history_of house-after) (newest (history_of house))) s.points_is third in
    let fifth = subst (λ (l : List ℕ). AllAnswered 900 pages (around (Some requests) (Some []) (Some []) (Some []) (Some l) house.handed house.keepers (shelves_of house)) after_all (history_of house-after) (newest (history_of house))) s.written_is fourth in
    record {
      house_is = s.house_is;
      moves = s.moves;
      own = s.own;
      listed = s.listed;
      turn = subst (λ (l : List ℕ). GivesInTurn last_moment (Some moments) (Some moments-after) (Some l) (Some given)) s.given_is s.turn;
      answered = fifth;
    }
