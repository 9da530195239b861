-- What stands outside the program, and by which counts its statuses are told.
use Rattle.std.specs.Prelude.{ℕ, List, ◌≡◌, ◌≢◌, ◌⊎◌, Option}
use Rattle.site_io.specs.Told.{Rose}
use Rattle.site_places.specs.Place.{PlaceView, KeepsCounts}

-- What stands outside the program: the bytes that are left to read, those that were written, how often the input and the
-- output have failed, and its place.
pub record Outside : Type 0 where
  pub left : Option (List ℕ)
  pub written : Option (List ℕ)
  pub reading : ℕ
  pub writing : ℕ
  pub place : PlaceView

-- memory was wanting before anything was taken or written
pub record Starves (old new : Outside) (status : ℕ) : Type 0 where
  pub source : new.left ≡ old.left
  pub sink : new.written ≡ old.written
  pub place : new.place ≡ old.place
  pub status_is : status ≡ 9

-- A fault of the input is told exactly where its count rose, and one of the output likewise, but that printing how the
-- program is called, or what is wrong with the rows, may fail too. A fault of the place is told exactly where one of its
-- own counts rose, and one of a keeper exactly where its count of keepers that had failed rose.
pub record HasCause (old new : Outside) (status : ℕ) : Type 0 where
  pub input : status ≡ 5 → Rose old.reading new.reading
  pub input_steady : status ≢ 5 → new.reading ≡ old.reading
  pub output : status ≡ 6 → Rose old.writing new.writing
  pub output_steady : status ≢ 6 → status ≢ 2 → status ≢ 3 → new.writing ≡ old.writing
  pub place : status ≡ 7 → Rose old.place.faults new.place.faults ⊎ Rose old.place.rows_faults new.place.rows_faults
  pub place_steady : status ≢ 7 → KeepsCounts old.place new.place
  pub keeper : status ≡ 4 → Rose old.place.keeper_faults new.place.keeper_faults
  pub keeper_steady : status ≢ 4 → new.place.keeper_faults ≡ old.place.keeper_faults
