-- What the database of a keeper stands for that was given back.
use Rattle.std.specs.Prelude.{Some, ◌≡◌}
use Rattle.site_keeper.specs.declared.stored.Stored.{Stored}
use Rattle.sqlite.specs.Held.{Held, state}
use Rattle.sqlite.specs.Store.{Ghosts}
use Rattle.table_places.specs.Tabled.{Tabled}
use Rattle.table_places.specs.Telling.{HoldsIfClean, Telling}

-- a keeper was given back, and its database stands for this, also after a crash
abbrev pub Left : {P S : Type 0} → Ghosts S → Tabled P (Held S) → Stored → Type 0
Left {P} {S} g t held = (k : Telling (Held S)) × (t.returned ≡ Some k) × HoldsIfClean (state g k.conn) held
