-- A keeper in a database that tells what it holds, and what the database stands for meanwhile.
use Rattle.std.specs.Prelude.{ℕ, List, false, IsTrue, ◌≡◌, ◌⊎◌, refl}
use Rattle.std.specs.Coded.{Coded, code_by, coded×, coded_ℕ, coded_list}
use Rattle.indexed_rows.specs.Rows.{AreValidRows}
use Rattle.keeper_sqlite.specs.Found.{nothing_held}
use Rattle.keeper_sqlite.specs.Standing.{StandFor}
use Rattle.site_keeper.specs.Batch.{Batch}
use Rattle.site_keeper.specs.Keeper.{Kept, held_of}
use Rattle.site_keeper.specs.contracts.batch.Batch as batch
use Rattle.site_keeper.specs.contracts.stored.Stored as stored
use Rattle.site_keeper.specs.declared.stored.Stored.{Stored}
use Rattle.sqlite.specs.State.{State, HasCleanDisk}
use Rattle.store_six.specs.Tables.{Tables}
use Rattle.table_laws.specs.Moments.{may_leave}
use Rattle.table_laws.specs.Schema.{no_tables, two_tables}
use Rattle.table_laws.specs.Stored.{tables_of}

-- ---- a keeper

-- its database, what it tells, and how often it has failed
pub record Telling (H : Type 0) : Type 0 where
  pub conn : H
  pub kept : Kept
  pub faults : ℕ

abbrev pub kept_code : Coded Kept
kept_code =
    code_by (Stored × List Batch) (coded× stored.the_row.coded (coded_list batch.the_row.coded)) (λ k. (k.made_of, k.batches))
    (λ p. record { made_of = p.0; batches = p.1 }) (λ _. refl)

abbrev pub telling_code : {H : Type 0} → Coded H → Coded (Telling H)
telling_code {H} conn =
    code_by (H × (Kept × ℕ)) (coded× conn (coded× kept_code coded_ℕ)) (λ k. (k.conn, (k.kept, k.faults)))
    (λ p. record { conn = p.0; kept = p.1.0; faults = p.1.1 }) (λ _. refl)

-- ---- what a database stands for

-- the tables that the last commit left stand for this, and no transaction is open
pub record Stands (s : State) (held : Stored) : Type 0 where
  pub tables : StandFor (tables_of s.committed.trees) held
  pub outside : s.in_transaction ≡ false

-- as far as its device gave back what it took, and it can be used
abbrev pub StandsIfClean : State → Stored → Type 0
StandsIfClean s held = HasCleanDisk s → IsTrue s.is_open → Stands s held

-- and so it is found after a crash
pub record Holds (s : State) (held : Stored) : Type 0 where
  pub tables : StandFor (tables_of s.committed.trees) held
  pub outside : s.in_transaction ≡ false
  pub crash : (t : Tables) → may_leave s t → StandFor t held

abbrev pub HoldsIfClean : State → Stored → Type 0
HoldsIfClean s held = HasCleanDisk s → IsTrue s.is_open → Holds s held

-- What always holds of a keeper that tells: what it holds is what its history makes, each row of it is right by itself, and the
-- database stands for it.
pub record IsTelling (s : State) (kept : Kept) (held : Stored) : Type 0 where
  pub held_is : held ≡ held_of kept
  pub right : AreValidRows held.rows
  pub stands : StandsIfClean s (held_of kept)

-- ---- as it is made

-- a database of the two tables stood for this, or one that held nothing was made to stand for a site of which nothing is held
abbrev pub StoodFor : State → Stored → Type 0
StoodFor s held =
    ((s.now.schema ≡ two_tables) × StandFor (tables_of s.committed.trees) held) ⊎ ((s.now.schema ≡ no_tables) × (held ≡ nothing_held))

-- as far as the device gave back what it took, and the database can be used
abbrev pub BeganOver : State → State → Stored → Type 0
BeganOver old new held = HasCleanDisk new → IsTrue new.is_open → StoodFor old held
