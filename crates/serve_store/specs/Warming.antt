-- Pages that are rendered before the workers start.
use Rattle.std.specs.Prelude.{ℕ, List, [], ◌∷◌, ◌≡◌, length, min, take, Bool, true, false, Option, None}
use Rattle.cache_entries.specs.declared.entry.Entry.{Entry}
use Rattle.site_hall.specs.Hall.{HallView, IsHall, with_stock}
use Rattle.site_hall.specs.Stock.{bins_in}
use Rattle.site_io.specs.Series.{AreFirstOf, last_moment}
use Rattle.site_io.specs.Told.{after, AddsFront}
use Rattle.site_places.specs.Place.{PlaceView, clock_given, next_list, none_given}
use Rattle.site_targets.specs.Targets.{targets_of}
use Rattle.kept_pages.specs.Held.{Shelves, NothingLost}
use Rattle.warm_pages.specs.declared.warming.TheConstants.{MOST_PAGES}
use Rattle.warm_pages.specs.Warm.{AreHeld, AreRendered}
use Rattle.serve_store.specs.declared.ending.ServeEnd.{ServeEnd}
use Rattle.serve_store.specs.declared.ending.ServeEnd.TheVariants as end
use Rattle.serve_store.specs.Texts.{warmed_text}

-- nothing was edited over an engine yet
pub record IsNew (hall : HallView) : Type 0 where
  pub log : hall.log ≡ []
  pub pending : hall.pending ≡ None
  pub is_hall : IsHall hall

-- ---- what is rendered

-- the targets that anybody may see, the first 1,024 of them, and how many those are
abbrev pub first_targets : HallView → List (List ℕ)
first_targets hall = take MOST_PAGES (targets_of hall.base.rows)

abbrev pub warmed_count : HallView → ℕ
warmed_count hall = min (length (targets_of hall.base.rows)) MOST_PAGES

-- what an engine keeps of pages, where memory was never wanting for keeping something
abbrev pub shelves_in : HallView → Shelves
shelves_in hall = record { bins = bins_in hall.stock; unkept = 0 }

-- nothing of an engine changed but what it keeps of pages
pub record OnlyPages (old new : HallView) : Type 0 where
  pub same : new ≡ with_stock old new.stock
  pub is_hall : IsHall new

-- The pages of these targets were rendered for nobody's session at a moment, one after the other, and memory was never wanting for
-- keeping something. Where no bin dropped a key meanwhile, each that may be kept is held.
pub record AreWarm (moment : ℕ) (old new : HallView) : Type 0 where
  pub entries : List Entry
  pub rendered : AreRendered old.base moment (shelves_in old) (first_targets old) entries (shelves_in new)
  pub held : NothingLost (shelves_in old) (shelves_in new) → AreHeld old.base moment (shelves_in new) (first_targets old) entries

-- the first moment of the place's next clock
abbrev pub IsFirstMoment : PlaceView → ℕ → Type 0
IsFirstMoment place moment =
    AreFirstOf last_moment (next_list place.moments) (after (none_given (next_list place.moments)) (moment ∷ []))

-- so it was done, at that moment
pub record Warmed (place : PlaceView) (old new : HallView) : Type 0 where
  pub moment : ℕ
  pub moment_is : IsFirstMoment place moment
  pub pages : OnlyPages old new
  pub warm : AreWarm moment old new

-- ---- whether that is asked for

-- the engine that the workers begin with: with these pages where that is asked for, and else as it was
abbrev pub IsReady : Bool → PlaceView → HallView → HallView → Type 0
IsReady true place old new = Warmed place old new
IsReady false place old new = new ≡ old

-- the place then: it gave a clock more where pages were rendered
abbrev pub place_then : Bool → PlaceView → PlaceView
place_then true place = clock_given place
place_then false place = place

-- what is printed then: how many they are
abbrev pub written_then : Bool → HallView → Option (List ℕ) → Option (List ℕ)
written_then true hall written = after written (warmed_text (warmed_count hall))
written_then false hall written = written

-- Where it ends before the workers start: a front of that was printed, or memory was wanting, and nothing of it was.
abbrev pub StopsBy : ServeEnd → HallView → Option (List ℕ) → Option (List ℕ) → Type 0
StopsBy end.OutputFailed hall old new = AddsFront old new (warmed_text (warmed_count hall))
StopsBy end.OutOfMemory hall old new = new ≡ old
StopsBy end.Served hall old new = ⊥
StopsBy end.Refused hall old new = ⊥
StopsBy end.KeeperFailed hall old new = ⊥
StopsBy end.PlaceFailed hall old new = ⊥
