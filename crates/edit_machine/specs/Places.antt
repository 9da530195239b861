-- The places of a name among the values of a node's fields.
use Rattle.std.specs.Prelude.{ℕ, List, [], ◌∷◌, ◌+◌, Option, Some, None, option_map, Result, Ok, Err, if◌then◌else◌}
use Rattle.std.specs.Ordering.{nat_cmp, match_ordering, is_eq}
use Rattle.std.specs.Cmp.Lexicographic.{slice_cmp}
use Rattle.content_rows.specs.declared.row.FieldValue.{FieldValue}

-- so much further on in a longer list
abbrev pub further : ℕ → Result ℕ ℕ → Result ℕ ℕ
further more (Ok place) = Ok (more + place)
further more (Err place) = Err (more + place)

-- where a value of the name is, going along as far as the names come before it; else where one would stand
abbrev pub place_in : List FieldValue → List ℕ → Result ℕ ℕ
place_in [] name = Err 0
place_in (value ∷ values) name =
    match_ordering (slice_cmp nat_cmp name value.name) (Err 0) (Ok 0) (further 1 (place_in values name))

-- where the first value of the name is
abbrev pub place_of : List FieldValue → List ℕ → Option ℕ
place_of [] name = None
place_of (value ∷ values) name =
    if is_eq (slice_cmp nat_cmp name value.name) then Some 0 else option_map (λ place. 1 + place) (place_of values name)
