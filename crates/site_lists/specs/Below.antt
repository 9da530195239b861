-- A term and its descendants.
use Rattle.std.specs.Prelude.{ℕ, zero, suc, List, [], ◌∷◌, map}
use Rattle.std.specs.List.{filter, flat_map}
use Rattle.std.specs.Ordering.{nat_cmp}
use Rattle.content_rows.specs.declared.cell.Cell.{Cell}
use Rattle.content_rows.specs.declared.row.Row.{Row}
use Rattle.content_state.specs.Chain.{is_within, parent_in}
use Rattle.content_state.specs.Ranked.{children}
use Rattle.indexed_rows.specs.Rows.{terms_of}
use Rattle.site_lists.specs.Listed.{in_order}

-- the ids of the terms right under a term
abbrev pub ids_under : List (Cell × Row) → ℕ → List ℕ
ids_under rows top = map (λ k. k.id) (children rows top)

-- A term and what stands below it, so many levels down: each before what stands below it.
abbrev pub below : (ℕ → List ℕ) → ℕ → ℕ → List ℕ
below children zero top = []
below children (suc more) top = top ∷ flat_map (below children more) (children top)

-- a term, whether it is there or not, and its descendants, each once
abbrev pub terms_within : List (Cell × Row) → ℕ → List ℕ
terms_within rows top = in_order nat_cmp (top ∷ filter (λ k. is_within (parent_in rows) 9 top k) (map (λ e. e.0) (terms_of rows)))
