-- Chains of parents: the number of a row, that of the row above it, and so on.
use Rattle.std.specs.Prelude.{ℕ, zero, suc, List, [], ◌∷◌, ◌≡◌, Bool, true, ◌&&◌, ◌==◌, nat_lt, Option, Some, None, length, option_and_then, if◌then◌else◌}
use Rattle.std.specs.List.{list_any}
use Rattle.content_rows.specs.declared.cell.Cell.{Cell}
use Rattle.content_rows.specs.declared.row.Row.{Row}
use Rattle.indexed_rows.specs.Rows.{term_of, comment_of}

-- the number of the row above a row, if there is one
abbrev pub Up : Type 0
Up = ℕ → Option ℕ

abbrev pub goes_on : (ℕ → List ℕ) → Option ℕ → List ℕ
goes_on chain None = []
goes_on chain (Some above) = chain above

-- the chain of a row: itself, the one above it and so on, at most so many
unfoldable pub chain : Up → ℕ → ℕ → List ℕ
chain up zero k = []
chain up (suc more) k = k ∷ goes_on (chain up more) (up k)

-- the chain has more than so many
abbrev pub is_longer : Up → ℕ → ℕ → Bool
is_longer up most k = nat_lt most (length (chain up (suc most) k))

-- one is among the first of the chain of another: itself, or what stands below it
abbrev pub is_within : Up → ℕ → ℕ → ℕ → Bool
is_within up most top k = list_any (λ j. j == top) (chain up most k)

-- The chain comes back to itself: it has more than nine, and more than all of so many and one, of which the last may be
-- a row that is not there.
abbrev pub comes_back : Up → ℕ → ℕ → Bool
comes_back up all k = is_longer up 9 k && is_longer up (suc all) k

-- the same, but that one row stands under this one, or under none
abbrev pub with_parent : Up → ℕ → Option ℕ → Up
with_parent up id parent k = if k == id then parent else up k

-- the number of the term above a term, if there is one; above a term that is not there stands none
abbrev pub parent_in : List (Cell × Row) → Up
parent_in rows k = option_and_then (λ t. t.parent) (term_of rows k)

-- the number of the comment that a comment replies to, if there is one; above a comment that is not there stands none
abbrev pub reply_in : List (Cell × Row) → Up
reply_in rows k = option_and_then (λ c. c.parent) (comment_of rows k)

-- Where the rows that stay are as they were, and what they name stays, the chain of each is as it was.
abbrev pub ChainsStay : Type 0
ChainsStay =
    (up up' : Up) (stays : ℕ → Bool)
    → ((k : ℕ) → stays k ≡ true → up' k ≡ up k)
    → ((k above : ℕ) → stays k ≡ true → up k ≡ Some above → stays above ≡ true)
    → (most k : ℕ) → stays k ≡ true → chain up' most k ≡ chain up most k
