-- One request of a drill, and its reply.
use Rattle.std.specs.Prelude.{ℕ, List, Bool, true, false, ◌≡◌, ◌+◌}
use Rattle.site_house.specs.History.{History}
use Rattle.site_http.specs.Connection.{Around}
use Rattle.site_http.specs.Turn.{TookOne}
use Rattle.site_drill.specs.Fronts.{is_wanting, shows_page}

-- One request was taken and answered, and the connection goes on; the reply doesn't say that memory was wanting, and this is whether
-- it shows a page.
pub record TookReply (page : Bool) (old new : Around) (history : History) (index low : ℕ) (buffer buffer-after : List ℕ) : Type 0 where
  pub took : TookOne old new history 1000 index low buffer buffer-after false
  pub page_is : page ≡ shows_page took.replied.story.text
  pub not_wanting : is_wanting took.replied.story.text ≡ false

-- how many replies show a page, once one more is counted that does or doesn't
abbrev pub pages_with : ℕ → Bool → ℕ
pages_with pages true = pages + 1
pages_with pages false = pages
