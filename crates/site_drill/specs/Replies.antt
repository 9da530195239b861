-- The replies to the requests of a drill, one by one.
use Rattle.std.specs.Prelude.{ℕ, List, [], ◌∷◌, ◌≡◌, ◌+◌, Bool, false, length, map, All}
use Rattle.std.specs.List.{count_by}
use Rattle.http_heads.specs.declared.request.Request.{Request}
use Rattle.http_heads.specs.Requests.{Empty, Reads}
use Rattle.site_io.specs.Told.{IsNothingLeft}
use Rattle.site_house.specs.History.{History}
use Rattle.site_http.specs.Reply.{Story, IsText}
use Rattle.site_drill.specs.Fronts.{is_wanting, shows_page}
use Rattle.site_http.specs.Connection.{Around, Went, closes_after, joined, nothing}

-- a request, and the story of its reply
pub record Exchange : Type 0 where
  pub request : Request
  pub story : Story

abbrev pub requests_of : List Exchange → List Request
requests_of exchanges = map (λ exchange. exchange.request) exchanges

-- The replies to these requests, in order, the first of this index on a connection that gives 1,000 of them. No number is below
-- `low`, nor below an earlier one.
abbrev pub AreReplies : History → ℕ → ℕ → List Exchange → Type 0
AreReplies history index low [] = Unit {0}
AreReplies history index low (first ∷ others) =
    IsText history low first.request (closes_after 1000 index first.request) first.story
    × AreReplies history (index + 1) first.story.high others

-- all their stories, one after the other
abbrev pub whole : ℕ → List Exchange → Story
whole low [] = nothing low
whole low (first ∷ others) = joined first.story (whole first.story.high others)

-- whether a reply shows a page
abbrev pub is_page : Exchange → Bool
is_page exchange = shows_page exchange.story.text

-- no reply says that memory was wanting
abbrev pub NoneWanting : List Exchange → Type 0
NoneWanting exchanges = All (λ exchange. is_wanting exchange.story.text ≡ false) exchanges

-- All that the source had was read as so many requests, and each was answered; so many replies show a page, and none says that
-- memory was wanting.
pub record AllAnswered (count pages : ℕ) (old new : Around) (history : History) (low : ℕ) : Type 0 where
  pub taken : List ℕ
  pub exchanges : List Exchange
  pub went : Went old new taken (whole low exchanges)
  pub nothing_left : IsNothingLeft new.left
  pub reads : Reads 1000 taken (requests_of exchanges) Empty
  pub count_is : length exchanges ≡ count
  pub replies : AreReplies history 0 low exchanges
  pub pages_is : pages ≡ count_by is_page exchanges
  pub none_wanting : NoneWanting exchanges
