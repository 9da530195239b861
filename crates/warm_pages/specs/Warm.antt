-- What becomes of what is kept where the pages of targets are rendered, and which of these pages are held then.
-- https://www.drupal.org/docs/8/administering-a-drupal-8-site/internal-page-cache
use Rattle.std.specs.Prelude.{ℕ, List, [], ◌∷◌, ◌≡◌}
use Rattle.content_state.specs.State.{State}
use Rattle.content_state.specs.Met.{met_nothing}
use Rattle.content_state.specs.declared.commit.Commit.{Commit}
use Rattle.content_state.specs.Replay.{Begins, replay}
use Rattle.content_state.specs.SiteRules.{IsValidState}
use Rattle.cache_entries.specs.declared.entry.Entry.{Entry}
use Rattle.cache_entries.specs.declared.key.Subject.TheVariants as subject
use Rattle.cache_entries.specs.declared.kept.Bin.TheVariants as bin
use Rattle.element_entries.specs.Readers.{Reader}
use Rattle.element_entries.specs.Keeping.{MayKeep}
use Rattle.element_entries.specs.Keys.{visit}
use Rattle.site_house.specs.House.{HouseView}
use Rattle.kept_pages.specs.Went.{Went, OfElement}
use Rattle.kept_pages.specs.Needed.{OfWhole}
use Rattle.kept_pages.specs.Held.{Shelves, IsTold, NothingLost, Goes, Held}
use Rattle.warm_pages.specs.Asked.{reader_of}

-- ---- one page

-- the page of the target that a reader asks for is held
abbrev pub PageHeld : Reader → Shelves → Type 0
PageHeld r shelves = Held r shelves bin.Anonymous (subject.Target r.ask.target)

-- The whole page of the target was needed, and nothing else: it was found by this entry, or put together of what its path shows,
-- and this entry made of that. So what is kept went on.
pub record IsRendered (r : Reader) (old : Shelves) (e : Entry) (new : Shelves) : Type 0 where
  pub page : Went
  pub needed : OfElement (visit r) met_nothing (OfWhole r.ask.path (visit r)) bin.Anonymous (subject.Target r.ask.target) e page
  pub goes : Goes r old page new

-- a page was rendered, and where nothing was lost it is held if it may be kept
pub record Renders (r : Reader) (old : Shelves) (new : HouseView) : Type 0 where
  pub after : Shelves
  pub is : IsTold new after
  pub entry : Entry
  pub rendered : IsRendered r old entry after
  pub held : NothingLost old after → MayKeep bin.Anonymous entry.cacheability → PageHeld r after

-- ---- the pages of targets

-- They were rendered one after the other, on a state at a moment: these are their entries.
abbrev pub AreRendered : State → ℕ → Shelves → List (List ℕ) → List Entry → Shelves → Type 0
AreRendered state moment old [] [] new = new ≡ old
AreRendered state moment old (target ∷ targets) (e ∷ entries) new =
    (mid : Shelves) × IsRendered (reader_of state moment target) old e mid × AreRendered state moment mid targets entries new
AreRendered state moment old [] (e ∷ entries) new = ⊥
AreRendered state moment old (target ∷ targets) [] new = ⊥

-- each that may be kept, as its entry says, is held
abbrev pub AreHeld : State → ℕ → Shelves → List (List ℕ) → List Entry → Type 0
AreHeld state moment shelves [] [] = Unit {0}
AreHeld state moment shelves (target ∷ targets) (e ∷ entries) =
    (MayKeep bin.Anonymous e.cacheability → PageHeld (reader_of state moment target) shelves) × AreHeld state moment shelves targets entries
AreHeld state moment shelves [] (e ∷ entries) = ⊥
AreHeld state moment shelves (target ∷ targets) [] = ⊥

-- All were rendered, and where nothing was lost meanwhile each that may be kept is held.
pub record Warms (state : State) (moment : ℕ) (targets : List (List ℕ)) (old : Shelves) (new : HouseView) : Type 0 where
  pub after : Shelves
  pub is : IsTold new after
  pub entries : List Entry
  pub rendered : AreRendered state moment old targets entries after
  pub held : NothingLost old after → AreHeld state moment after targets entries

-- ---- on which state

-- It holds of one state: of all edits that had been seen at some time of the call.
pub record OnSnapshot (old new : HouseView) (Holds : State → Type 0) : Type 0 where
  pub seen : List Commit
  pub since : Begins old.seen seen
  pub still : Begins seen new.seen
  pub valid : IsValidState (replay old.base seen)
  pub holds : Holds (replay old.base seen)
