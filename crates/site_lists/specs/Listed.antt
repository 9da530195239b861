-- Which nodes a listing has, and in which order.
-- https://www.drupal.org/docs/user_guide/en/views-concept.html
use Rattle.std.specs.Prelude.{ℕ, List, [], ◌∷◌, Bool, true, false, ◌==◌, ◌-◌, ◌&&◌, ◌||◌, not, nat_le, Option, Some, None, fold, map, option_and_then}
use Rattle.std.specs.List.{list_any, filter}
use Rattle.std.specs.Str.{bytes_eq}
use Rattle.std.specs.BTreeSet.{insert_key}
use Rattle.std.specs.Map.{lookup}
use Rattle.std.specs.declared.cmp.Ordering.{Ordering}
use Rattle.cacheability.specs.declared.tag.Tag.{Tag}
use Rattle.cacheability.specs.declared.tag.Tag.TheVariants as tag
use Rattle.content_rows.specs.declared.cell.Cell.{Cell}
use Rattle.content_rows.specs.declared.row.Row.{Row}
use Rattle.content_rows.specs.declared.row.Node.{Node}
use Rattle.content_rows.specs.declared.row.Listing.{Listing}
use Rattle.content_rows.specs.declared.row.Term.{Term}
use Rattle.content_state.specs.Chain.{Up, is_within}
use Rattle.indexed_rows.specs.Rows.{nodes_of, terms_of}
use Rattle.row_keys.specs.declared.rank.NodeRank.{NodeRank}
use Rattle.row_keys.specs.contracts.rank.NodeRankOrd.TheImpl as node_ranks

-- some things in their order, each once
abbrev pub in_order : {K : Type 0} → (K → K → Ordering) → List K → List K
in_order cmp ks = fold (insert_key cmp) [] ks

-- a listing without types has nodes of every type
abbrev pub is_of_types : List (List ℕ) → List ℕ → Bool
is_of_types [] type = true
is_of_types (t ∷ ts) type = list_any (bytes_eq type) (t ∷ ts)

-- the number of the term above a term, among these terms
abbrev pub above_among : List (ℕ × Term) → Up
above_among terms k = option_and_then (λ t. t.parent) (lookup (λ j. k == j) terms)

-- Some term of a node is the one that is asked for or, among these terms, a descendant of it, whether it is published or not. No
-- term is asked for by None.
abbrev pub has_term : List (ℕ × Term) → Option ℕ → List ℕ → Bool
has_term terms None own = true
has_term terms (Some top) own = list_any (λ t. is_within (above_among terms) 9 top t) own

-- made within a span of seconds before the moment, and not after it
abbrev pub is_recent : Option ℕ → ℕ → ℕ → Bool
is_recent None moment created = true
is_recent (Some span) moment created = nat_le (moment - span) created && nat_le created moment

-- whether a node is what a listing asks for at a moment, but for its term
abbrev pub is_fit : Listing → ℕ → Node → Bool
is_fit listing moment node =
    node.status
    && (not listing.promoted || node.promote)
    && is_of_types listing.types node.node_type
    && is_recent listing.recent moment node.created

-- whether a listing has a node at a moment, by the terms that are there, where access to the node allows
abbrev pub is_listed : List (ℕ × Term) → Listing → ℕ → Node → Bool
is_listed terms listing moment node = is_fit listing moment node && has_term terms listing.term node.terms

-- what places a node among others: sticky ones come first, then those made later, then those of greater ids
abbrev pub rank_of : (ℕ × Node) → NodeRank
rank_of e = record { sticky = record { 0 = e.1.sticky }; created = record { 0 = e.1.created }; id = record { 0 = e.0 } }

abbrev pub rank_cmp : NodeRank → NodeRank → Ordering
rank_cmp = node_ranks.ghosts.cmp

-- the ids of nodes, in the order of listings
abbrev pub ids_in_order : List (ℕ × Node) → List ℕ
ids_in_order nodes = map (λ r. r.id.0) (in_order rank_cmp (map rank_of nodes))

-- the nodes that a listing has at a moment, where access to them allows: all nodes, filtered, then ordered
abbrev pub candidates : List (Cell × Row) → Listing → ℕ → List ℕ
candidates rows listing moment = ids_in_order (filter (λ e. is_listed (terms_of rows) listing moment e.1) (nodes_of rows))

-- the listing of a term: the published nodes of every type with it or a descendant of it, whether promoted or not
abbrev pub term_listing : ℕ → Listing
term_listing term = record { age = None; path = None; promoted = false; recent = None; term = Some term; title = []; types = [] }

-- the tags of what a listing chooses among: all nodes, or those of its types
abbrev pub list_tags : List (List ℕ) → List Tag
list_tags [] = tag.NodeList ∷ []
list_tags (t ∷ ts) = map tag.NodeListOf (t ∷ ts)

-- and of the terms among which the descendants of its term are sought, where it has one
abbrev pub term_tags : Option ℕ → List Tag
term_tags None = []
term_tags (Some term) = tag.TermList ∷ []
