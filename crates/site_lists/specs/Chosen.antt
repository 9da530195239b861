-- Among which nodes a listing's are sought, by the indexes of a state.
use Rattle.std.specs.Prelude.{ℕ, List, [], ◌∷◌, Bool, false, ◌==◌, ◌&&◌, ◌||◌, not, Option, Some, None, map, length}
use Rattle.std.specs.List.{filter, flat_map, list_any, sum_by}
use Rattle.std.specs.Str.{bytes_eq}
use Rattle.content_rows.specs.declared.cell.Cell.{Cell}
use Rattle.content_rows.specs.declared.row.Row.{Row}
use Rattle.content_rows.specs.declared.row.Node.{Node}
use Rattle.content_rows.specs.declared.row.Listing.{Listing}
use Rattle.row_keys.specs.declared.rank.NodeRank.{NodeRank}
use Rattle.indexed_rows.specs.Rows.{node_of, nodes_of}
use Rattle.content_state.specs.Ranked.{published, published_of, published_with}
use Rattle.site_lists.specs.Listed.{is_fit, is_recent}
use Rattle.site_lists.specs.Below.{terms_within}

-- whether the node of a rank, if it is there, is what a listing asks for, but for its term
abbrev pub has_node : Listing → ℕ → Option Node → Bool
has_node listing moment None = false
has_node listing moment (Some node) = is_fit listing moment node

abbrev pub passes : List (Cell × Row) → Listing → ℕ → NodeRank → Bool
passes rows listing moment rank = has_node listing moment (node_of rows rank.id.0)

-- the same, but for its type too
abbrev pub is_due : Listing → ℕ → Node → Bool
is_due listing moment node = node.status && (not listing.promoted || node.promote) && is_recent listing.recent moment node.created

abbrev pub has_due : Listing → ℕ → Option Node → Bool
has_due listing moment None = false
has_due listing moment (Some node) = is_due listing moment node

abbrev pub passes_of_type : List (Cell × Row) → Listing → ℕ → NodeRank → Bool
passes_of_type rows listing moment rank = has_due listing moment (node_of rows rank.id.0)

-- the ranks of the published nodes with a term, and of those of a type
abbrev pub ranks_with : List (Cell × Row) → ℕ → List NodeRank
ranks_with rows term = map (λ k. k.rank) (published_with rows term)

abbrev pub ranks_typed : List (Cell × Row) → List ℕ → List NodeRank
ranks_typed rows type = map (λ k. k.rank) (published_of rows type)

-- the least that the indexes give: the nodes with its term or a descendant of it, else those of its types, else all
abbrev pub ranks_among : List (Cell × Row) → Option ℕ → List (List ℕ) → List NodeRank
ranks_among rows (Some term) types = flat_map (ranks_with rows) (terms_within rows term)
ranks_among rows None [] = published rows
ranks_among rows None (t ∷ ts) = flat_map (ranks_typed rows) (t ∷ ts)

-- How many published nodes have its term or a descendant of it, by the sum over these, else are of its types, by the sum over
-- these, else are there.
abbrev pub published_count : List (Cell × Row) → Option ℕ → List (List ℕ) → ℕ
published_count rows (Some top) types = sum_by (λ term. length (filter (λ e. e.1.status && list_any (λ t. t == term) e.1.terms) (nodes_of rows))) (terms_within rows top)
published_count rows None [] = length (filter (λ e. e.1.status) (nodes_of rows))
published_count rows None (t ∷ ts) = sum_by (λ type. length (filter (λ e. e.1.status && bytes_eq e.1.node_type type) (nodes_of rows))) (t ∷ ts)
