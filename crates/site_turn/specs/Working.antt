-- Workers, each with a pass of its own.
use Rattle.std.specs.Prelude.{◌≡◌, ℕ, List}
use Rattle.std.specs.List.{AllZip}
use Rattle.site_house.specs.House.{HouseView, Moves}
use Rattle.site_turn.specs.declared.workers.Worker.{Worker}
use Rattle.site_turn.specs.Houses.{house_of}

-- A worker's work may begin, in the house of its pass, whatever its name.
abbrev pub MayWork : {W : Type 0} → (W → HouseView → Type 0) → Worker W → Type 0
MayWork may worker = (name : List ℕ) → may worker.work (house_of worker.pass.note name 0 0)

-- A worker did its work in the house of its pass, which is one of the same site still and has moved as a house does.
pub record HasWorked {W : Type 0} (does : W → W → HouseView → HouseView → Type 0) (old new : Worker W) : Type 0 where
  pub name : List ℕ
  pub keepers : ℕ
  pub unkept : ℕ
  pub table : new.pass.table ≡ old.pass.table
  pub moves : Moves (house_of old.pass.note name 0 0) (house_of new.pass.note name keepers unkept)
  pub did : does old.work new.work (house_of old.pass.note name 0 0) (house_of new.pass.note name keepers unkept)

-- each of these did
abbrev pub HaveWorked : {W : Type 0} → (W → W → HouseView → HouseView → Type 0) → List (Worker W) → List (Worker W) → Type 0
HaveWorked does old new = AllZip (HasWorked does) old new
