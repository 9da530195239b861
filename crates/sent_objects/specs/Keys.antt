-- The keys that edits know.
use Rattle.std.specs.Prelude.{ℕ, List, Bool, map}
use Rattle.std.specs.Borrow.{Bor}
use Rattle.std.specs.List.{list_any}
use Rattle.std.specs.Str.{bytes_eq}
use Rattle.sent_objects.specs.declared.keys.TheConstants.{KEYS, COLUMNS}

-- names of the code as texts
abbrev pub texts_of : List (Bor (List ℕ)) → List (List ℕ)
texts_of names = map (λ k. k.now) names

abbrev pub is_among : List (List ℕ) → List ℕ → Bool
is_among names k = list_any (λ name. bytes_eq name k) names

-- a key of some body
abbrev pub is_key : List ℕ → Bool
is_key k = is_among (map (λ name. name.now) KEYS) k

-- a key of some object that stands in a list
abbrev pub is_column : List ℕ → Bool
is_column k = is_among (map (λ name. name.now) COLUMNS) k
