-- The sockets that a door has charge of.
use Rattle.std.specs.Prelude.{ℕ, ◌≡◌, ◌+◌}

-- how many are parked, and how many are in hand: those that are looked after now, or were given to a worker
pub record Charge : Type 0 where
  pub parked : ℕ
  pub in_hand : ℕ

-- one that was parked is in hand
pub record IsTaken (old new : Charge) : Type 0 where
  pub parked : old.parked ≡ new.parked + 1
  pub in_hand : new.in_hand ≡ old.in_hand + 1

-- one that was in hand is parked
pub record IsParked (old new : Charge) : Type 0 where
  pub parked : new.parked ≡ old.parked + 1
  pub in_hand : old.in_hand ≡ new.in_hand + 1

-- one that was in hand is closed
pub record IsClosed (old new : Charge) : Type 0 where
  pub parked : new.parked ≡ old.parked
  pub in_hand : old.in_hand ≡ new.in_hand + 1

-- one that was in hand has left for another door
pub record HasLeft (old new : Charge) : Type 0 where
  pub parked : new.parked ≡ old.parked
  pub in_hand : old.in_hand ≡ new.in_hand + 1

-- one that came from another door is in hand
pub record HasCome (old new : Charge) : Type 0 where
  pub parked : new.parked ≡ old.parked
  pub in_hand : new.in_hand ≡ old.in_hand + 1
