-- A drill: a site and requests to it that are made from a number, answered on one connection, and what is printed of that.
use Rattle.std.specs.Prelude.{ℕ, zero, suc, List, [], ◌∷◌, ◌++◌, ◌≡◌, ◌+◌, Option, Some, length}
use Rattle.std.specs.List.{count_by}
use Rattle.sha2.specs.Sha256.{sha256}
use Rattle.hex.specs.Hex.{encode_lower}
use Rattle.content_state.specs.State.{State}
use Rattle.content_state.specs.SiteRules.{IsValidState}
use Rattle.content_state.specs.declared.commit.Commit.{Commit}
use Rattle.http_heads.specs.Requests.{Empty, Reads}
use Rattle.site_io.specs.Series.{AreFirstOf, last_moment}
use Rattle.site_io.specs.Told.{after, AddsFront, Rose}
use Rattle.kept_pages.specs.Held.{Shelves}
use Rattle.site_alone.specs.House.{opened_on}
use Rattle.site_alone.specs.Sites.{state_over}
use Rattle.site_http.specs.Kept.{KeepsFor, shelves_of}
use Rattle.drill_input.specs.SiteDrawn.{site_drawn}
use Rattle.drill_input.specs.Asked.{asked}
use Rattle.site_drill.specs.Lines.{drill_text}
use Rattle.site_drill.specs.Replies.{Exchange, AreReplies, NoneWanting, is_page, requests_of, whole}
use Rattle.site_drill.specs.Stops.{AreNoRequests}
use Rattle.site_drill.specs.Tally.{built_in}
use Rattle.site_drill.specs.declared.job.DrillEnd.{DrillEnd}
use Rattle.site_drill.specs.declared.job.DrillEnd.TheVariants as end
use Rattle.site_drill.specs.declared.job.NoDrill.{NoDrill}
use Rattle.site_drill.specs.declared.job.NoDrill.TheVariants as none
use Rattle.site_drill.specs.declared.figures.Figures.{Figures}
use Rattle.site_house.specs.History.{newest_of}

-- the site that is made from a number: no tag of it was ever invalidated
abbrev pub drill_site : ℕ → State
drill_site number = state_over (site_drawn number).entries

-- the 900 requests to it, one after the other, which are drawn after the site
abbrev pub drill_requests : ℕ → List ℕ
drill_requests number = (asked 900 (site_drawn number).seed).text

-- so many moments, from 1,000 on
unfoldable pub moments_to : ℕ → List ℕ
moments_to zero = []
moments_to (suc count) = moments_to count ++ (1000 + count) ∷ []

-- The requests that these bytes are were answered on one connection over a site, one reply each, at the moments 1,000, 1,001 and so
-- on, by a caller that is alone with it: its log is the edits that it handed in, in order. None of the replies says that memory was
-- wanting, nor that the keeper failed. Of these replies the figures are: how many show a page, how many edits were accepted, how many
-- elements were built for them, up to the greatest u64, and the length and the SHA-256, in hex digits, of their bytes. Nothing was
-- kept of its pages before, and this became of what is kept as they were needed.
pub record IsAnswered (site : State) (requests : List ℕ) (figures : Figures) : Type 0 where
  pub exchanges : List Exchange
  pub log : List Commit
  pub reads : Reads 1000 requests (requests_of exchanges) Empty
  pub count_is : length exchanges ≡ 900
  pub replies : AreReplies (record { base = site; log = log; pass = 0 }) 0 (newest_of site []) exchanges
  pub in_turn : AreFirstOf last_moment (Some (moments_to 900)) (Some (whole (newest_of site []) exchanges).moments)
  pub handed : (whole (newest_of site []) exchanges).handed ≡ log
  pub shelves : Option Shelves
  pub kept : KeepsFor (whole (newest_of site []) exchanges).needs (shelves_of (opened_on site)) shelves
  pub none_failed : (whole (newest_of site []) exchanges).keepers ≡ 0
  pub none_wanting : NoneWanting exchanges
  pub pages : figures.pages ≡ count_by is_page exchanges
  pub edits : figures.edits ≡ length log
  pub built : figures.built ≡ built_in (whole (newest_of site []) exchanges).points
  pub bytes : figures.bytes ≡ length (whole (newest_of site []) exchanges).text
  pub digest : figures.sha256 ≡ encode_lower (sha256 (whole (newest_of site []) exchanges).text)

-- The 900 requests that are made from a number were answered over the site that is, which is valid.
pub record IsDrilled (number : ℕ) (figures : Figures) : Type 0 where
  pub valid : IsValidState (drill_site number)
  pub answered : IsAnswered (drill_site number) (drill_requests number) figures

-- why there is no drill: the rows that are made are no site, or their bytes are no 900 requests, or memory was wanting
abbrev pub IsNoDrill : ℕ → NoDrill → Type 0
IsNoDrill number none.NoSite = IsValidState (drill_site number) → ⊥
IsNoDrill number none.Unanswered = AreNoRequests (drill_requests number)
IsNoDrill number none.OutOfMemory = Unit {0}

-- what a drill wrote, by how it ended: the lines of its figures, or a front of them, or nothing
pub record Prints (number : ℕ) (Printed : List ℕ → Type 0) : Type 0 where
  pub figures : Figures
  pub drilled : IsDrilled number figures
  pub printed : Printed (drill_text number figures)

abbrev pub Drills : ℕ → DrillEnd → Option (List ℕ) → Option (List ℕ) → Type 0
Drills number end.Printed old new = Prints number (λ text. new ≡ after old text)
Drills number end.OutputFailed old new = Prints number (λ text. AddsFront old new text)
Drills number end.NoSite old new = (new ≡ old) × (IsValidState (drill_site number) → ⊥)
Drills number end.Unanswered old new = (new ≡ old) × AreNoRequests (drill_requests number)
Drills number end.OutOfMemory old new = new ≡ old

-- a fault of the output is told exactly where its count rose
abbrev pub CountsOutput : DrillEnd → ℕ → ℕ → Type 0
CountsOutput end.OutputFailed old new = Rose old new
CountsOutput _ old new = new ≡ old
