-- What a listing reads, as a plan.
-- https://www.drupal.org/docs/drupal-apis/cache-api/cache-tags
use Rattle.std.specs.Prelude.{ℕ, Bool, List, [], ◌∷◌, ◌++◌, ◌≡◌, ◌&&◌, Option, Some, None, if◌then◌else◌}
use Rattle.std.specs.List.{filter}
use Rattle.cacheability.specs.declared.context.Context.TheVariants as context
use Rattle.content_rows.specs.declared.cell.Cell.{Cell}
use Rattle.content_rows.specs.declared.row.Row.{Row}
use Rattle.content_rows.specs.declared.row.Node.{Node}
use Rattle.content_rows.specs.declared.row.Listing.{Listing}
use Rattle.content_rows.specs.declared.row.Term.{Term}
use Rattle.indexed_rows.specs.Rows.{nodes_of, terms_of}
use Rattle.content_state.specs.Context.{Visit}
use Rattle.content_state.specs.Met.{result_of, met, met_tags}
use Rattle.content_state.specs.Read.{AllNodes, NodesOfType, AllTerms}
use Rattle.content_state.specs.Plan.{Plan, Done, reading, asking, clock, folded, ◌>>=◌}
use Rattle.site_lists.specs.Listed.{is_listed, ids_in_order, candidates, list_tags, term_tags}
use Rattle.site_lists.specs.Paging.{page_asked, page_name}

-- the nodes of some types, type by type
unfoldable pub of_types : List (List ℕ) → Plan (List (ℕ × Node))
of_types [] = Done []
of_types (t ∷ ts) = reading (NodesOfType t) >>= λ nodes. of_types ts >>= λ others. Done (nodes ++ others)

-- what a listing chooses among: all nodes, or those of its types
abbrev pub among : List (List ℕ) → Plan (List (ℕ × Node))
among [] = reading AllNodes
among (t ∷ ts) = of_types (t ∷ ts)

-- among which terms the descendants of a listing's are sought; a listing without a term needs none
abbrev pub terms_for : Option ℕ → Plan (List (ℕ × Term))
terms_for None = Done []
terms_for (Some term) = reading AllTerms

-- the nodes that a listing has at a moment, where access to them allows
unfoldable pub candidate_rows : Listing → ℕ → Plan (List ℕ)
candidate_rows listing moment =
    among listing.types >>= λ nodes. terms_for listing.term >>= λ terms.
    Done (ids_in_order (filter (λ e. is_listed terms listing moment e.1) nodes))

-- the moment of a listing that may be shown so many seconds; one of nodes of any age reads no clock
abbrev pub moment_within : Option ℕ → Plan ℕ
moment_within None = Done 0
moment_within (Some age) = clock age

-- with one more node, where it may be viewed
unfoldable pub with_viewable : (ℕ → Plan Bool) → List ℕ → ℕ → Plan (List ℕ)
with_viewable may_view ids n = may_view n >>= λ allowed. if allowed then Done (ids ++ n ∷ []) else Done ids

-- the nodes that a listing shows a viewer on all its pages
unfoldable pub listing_rows : (ℕ → Plan Bool) → Listing → Plan (List ℕ)
listing_rows may_view listing =
    moment_within listing.age >>= λ moment. candidate_rows listing moment >>= λ ids. folded (with_viewable may_view) [] ids

-- the page that the query asks for
unfoldable pub asked_page : Plan ℕ
asked_page = asking (context.QueryArg page_name) >>= λ value. Done (page_asked value)

-- ---- what the plans give and meet

-- the moment for which a listing is built at a moment
abbrev pub moment_at : Option ℕ → ℕ → ℕ
moment_at None moment = 0
moment_at (Some age) moment = moment

-- the nodes that a listing has at a moment and that pass a test, in their order
abbrev pub listed_where : List (Cell × Row) → (ℕ → Bool) → Listing → ℕ → List ℕ
listed_where rows passes listing moment =
    ids_in_order (filter (λ e. is_listed (terms_of rows) listing moment e.1 && passes e.0) (nodes_of rows))

-- The plan of a listing's candidates gives the filter of all nodes, in order, whatever types and term it names, and meets the
-- tags of the lists of its types, or that of the list of all nodes, and that of the list of all terms where it has a term.
abbrev pub CandidatesAnswer : Type 0
CandidatesAnswer = (listing : Listing) (moment : ℕ) (v : Visit)
    → (result_of (candidate_rows listing moment) v ≡ candidates v.rows listing moment)
    × (met (candidate_rows listing moment) v ≡ met_tags (list_tags listing.types ++ term_tags listing.term))

-- the plan of a listing's rows gives the filter of all nodes by the listing and by who may view them, in order
abbrev pub ListingAnswers : Type 0
ListingAnswers = (may_view : ℕ → Plan Bool) (listing : Listing) (v : Visit)
    → result_of (listing_rows may_view listing) v
    ≡ listed_where v.rows (λ n. result_of (may_view n) v) listing (moment_at listing.age v.moment)
