use Rattle.std.specs.Prelude.{ℕ, zero, suc, List, [], ◌∷◌, ◌++◌, ◌-◌, ◌≡◌, Option, Some, None, min, length, slice_index_or}

-- the values that are to be given, and those that were
pub record Series : Type 0 where
  pub values : List ℕ
  pub given : List ℕ

-- the value of this number, from 0; past the list the last one, and of no list 0
abbrev pub value_at : List ℕ → ℕ → ℕ
value_at values number = slice_index_or values (min number (length values - 1)) 0

-- the first values of a list, so many, none above the greatest
abbrev pub first_values : ℕ → List ℕ → ℕ → List ℕ
first_values greatest values zero = []
first_values greatest values (suc count) =
    first_values greatest values count ++ min (value_at values count) greatest ∷ []

-- What was given is what the list has first, where both are told.
abbrev pub AreFirstOf : ℕ → Option (List ℕ) → Option (List ℕ) → Type 0
AreFirstOf greatest (Some values) (Some given) = given ≡ first_values greatest values (length given)
AreFirstOf greatest (Some values) None = Unit {0}
AreFirstOf greatest None given = Unit {0}

-- The list stays, and if what was given before is what it has first, so is what is given now.
pub record GivesInTurn (greatest : ℕ) (values values-after given given-after : Option (List ℕ)) : Type 0 where
  pub same : values-after ≡ values
  pub in_turn : AreFirstOf greatest values given → AreFirstOf greatest values-after given-after

-- the greatest moment, 2100-01-01 00:00:00 UTC, and the greatest word
abbrev pub last_moment : ℕ
last_moment = 4102444800

abbrev pub last_word : ℕ
last_word = 18446744073709551615
