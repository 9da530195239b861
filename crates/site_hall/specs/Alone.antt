-- A caller that has an engine for itself.
use Rattle.std.specs.Prelude.{ℕ, List, [], ◌≡◌, ◌≤◌, drop, length, All, Some, None}
use Rattle.content_state.specs.declared.commit.Commit.{Commit}
use Rattle.site_keeper.specs.Keeping.{with_pending}
use Rattle.site_house.specs.House.{HouseView, IsSublist}
use Rattle.site_hall.specs.Stock.{bins_in}
use Rattle.site_hall.specs.Hall.{HallView, IsHall}

-- an engine, how many edits its log had when the caller came, the edits that it handed in, how often it was told that the
-- keeper failed, and how often something that it had to keep wasn't kept
pub record AloneView : Type 0 where
  pub hall : HallView
  pub opened : ℕ
  pub handed : List Commit
  pub keepers : ℕ
  pub unkept : ℕ

-- the house that it is: all that the engine published is seen, the caller's pass has the number 0, and what is kept of pages is
-- told
abbrev pub house_of : AloneView → HouseView
house_of alone = record {
  base = alone.hall.base;
  seen = alone.hall.log;
  number = 0;
  opened = alone.opened;
  name = [];
  faults = alone.hall.faults;
  steadfast = alone.hall.steadfast;
  handed = alone.handed;
  keepers = alone.keepers;
  bins = Some (bins_in alone.hall.stock);
  unkept = alone.unkept;
}

-- the edits that came to the engine since the caller did, the pending one too
abbrev pub own_edits : AloneView → List Commit
own_edits alone = drop alone.opened (with_pending alone.hall.log alone.hall.pending)

-- what was handed in is just what was published since the caller came, and nothing is pending
pub record IsAllOf (alone : AloneView) : Type 0 where
  pub none_pending : alone.hall.pending ≡ None
  pub handed : alone.handed ≡ drop alone.opened alone.hall.log

-- What always holds of it: the engine is one, and what came to it since is the caller's, in the order in which it was handed in,
-- and bears its number. Where the keeper never failed, what was handed in is all that was published since.
pub record IsAlone (alone : AloneView) : Type 0 where
  pub is_hall : IsHall alone.hall
  pub opened_before : alone.opened ≤ length alone.hall.log
  pub own : IsSublist (own_edits alone) alone.handed
  pub numbered : All (λ commit. commit.pass ≡ 0) (own_edits alone)
  pub all : alone.hall.faults ≡ 0 → IsAllOf alone
