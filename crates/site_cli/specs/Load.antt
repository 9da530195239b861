-- Loading the site of a file of rows.
use Rattle.std.specs.Prelude.{ℕ, List, ◌≡◌, ◌≢◌, ◌≤◌, ◌⊎◌, Option, Some, None}
use Rattle.site_files.specs.Rows.{IsSiteFault}
use Rattle.site_files.specs.declared.fault.ReadFault.{ReadFault}
use Rattle.site_files.specs.declared.fault.ReadFault.TheVariants as why
use Rattle.site_io.specs.Told.{Rose}
use Rattle.site_places.specs.Place.{Known, untold, absent, there, PlaceView, OpeningFails}
use Rattle.site_places.specs.declared.place.NoDevice.{NoDevice}
use Rattle.site_places.specs.declared.place.NoDevice.TheVariants as device
use Rattle.site_jobs.specs.Texts.{fault_text}
use Rattle.site_cli.specs.declared.load.NoSite.{NoSite}
use Rattle.site_cli.specs.declared.load.NoSite.TheVariants as none

-- What holds of the bytes of a file, by what the place told of it beforehand: where it told nothing, what holds of bytes that aren't
-- told. Of a file that isn't there nothing holds.
abbrev pub OfFile : Known (List ℕ) → (Option (List ℕ) → Type 0) → Type 0
OfFile untold P = P None
OfFile absent P = ⊥
OfFile (there bytes) P = P (Some bytes)

-- the text is that of the first fault of the rows
pub record IsFaultText (file : Known (List ℕ)) (text : List ℕ) : Type 0 where
  pub fault : ReadFault
  pub is_fault : OfFile file (λ bytes. IsSiteFault bytes fault)
  pub says : fault_text fault ≡ Some text

-- reading a device of rows failed, as the place counted when it was given back, and nothing else changed
pub record ReadingFails (old new : PlaceView) : Type 0 where
  pub same : new ≡ record old { rows_faults = new.rows_faults }
  pub rose : Rose old.rows_faults new.rows_faults
  pub never_falls : old.rows_faults ≤ new.rows_faults

-- why no site was loaded of a file
abbrev pub IsNoSiteOf : Known (List ℕ) → PlaceView → PlaceView → NoSite → Type 0
IsNoSiteOf file old new none.Failed = OpeningFails old new ⊎ ReadingFails old new
IsNoSiteOf file old new (none.Refused text) = (new ≡ old) × IsFaultText file text
IsNoSiteOf file old new none.OutOfMemory = new ≡ old

abbrev pub as_no_site : NoDevice → NoSite
as_no_site device.Failed = none.Failed
as_no_site device.OutOfMemory = none.OutOfMemory

-- what a fault of the rows becomes; memory may always be wanting to say it
abbrev pub Says : ReadFault → NoSite → Type 0
Says fault none.Failed = fault ≡ why.Source
Says fault (none.Refused text) = fault_text fault ≡ Some text
Says fault none.OutOfMemory = fault ≢ why.Source
