-- Numbers that rise, as the answer to a query of rowids has them.
use Rattle.std.specs.Prelude.{ℕ, ℤ, List, [], ◌∷◌, Option, Some, None, Vec, Ok, ◌≡◌}
use Rattle.std.specs.declared.cmp.Ordering.TheVariants.{Less}
use Rattle.std.specs.Ordering.{int_cmp}
use Rattle.std.specs.declared.alloc.Global.{Global}
use Rattle.sqlite.specs.Held.{Held}
use Rattle.sqlite.specs.Order.{Row, column}
use Rattle.sqlite.specs.Store.{Ghosts}
use Rattle.sqlite.specs.declared.types.Value.TheVariants.{Int}
use Rattle.table_laws.specs.Moments.{Queries}

abbrev pub IsAbove : Option ℤ → ℤ → Type 0
IsAbove None n = Unit {0}
IsAbove (Some last) n = int_cmp last n ≡ Less

-- each row is one number, above the last and above that of each row before it
abbrev pub RisesFrom : Option ℤ → List Row → Type 0
RisesFrom last [] = Unit {0}
RisesFrom last (row ∷ rows) = (n : ℤ) × (column row 0 ≡ Int n) × IsAbove last n × RisesFrom (Some n) rows

-- the query's answer rises
abbrev pub AnswerRises : {S : Type 0} → Ghosts S → List ℕ → Held S → Held S → Type 0
AnswerRises g sql old new = (rows : Vec Row Global) × Queries g sql [] old new (Ok rows) × RisesFrom None rows.items
