-- The keys that rows give.
use Rattle.std.specs.Prelude.{ℕ, List, [], ◌∷◌, cond, map}
use Rattle.content_rows.specs.declared.cell.Cell.{Cell}
use Rattle.content_rows.specs.declared.cell.Cell.TheVariants as cell
use Rattle.content_rows.specs.declared.row.Row.{Row}
use Rattle.content_rows.specs.declared.row.Row.TheVariants as row
use Rattle.content_rows.specs.declared.row.Region.{Region}
use Rattle.content_rows.specs.declared.row.Region.TheVariants as region
use Rattle.row_keys.specs.declared.rank.NodeRank.{NodeRank}
use Rattle.row_keys.specs.declared.rank.TypeKey.{TypeKey}
use Rattle.row_keys.specs.declared.rank.TermKey.{TermKey}
use Rattle.row_keys.specs.declared.rank.ParentKey.{ParentKey}
use Rattle.row_keys.specs.declared.rank.CommentKey.{CommentKey}
use Rattle.row_keys.specs.declared.rank.BlockKey.{BlockKey}
use Rattle.row_keys.specs.Ranks.{rank_of, block_rank}

-- a published node gives its rank, with its type, and with each of its terms
abbrev pub node_keys : Cell × Row → List NodeRank
node_keys (cell.Node n, row.Node r) = cond r.status (rank_of (n, r) ∷ []) []
node_keys _ = []

abbrev pub type_keys : Cell × Row → List TypeKey
type_keys (cell.Node n, row.Node r) = cond r.status (record { node_type = r.node_type; rank = rank_of (n, r) } ∷ []) []
type_keys _ = []

abbrev pub term_keys_of : NodeRank → List ℕ → List TermKey
term_keys_of rank terms = map (λ t. record { term = t; rank = rank }) terms

abbrev pub term_keys : Cell × Row → List TermKey
term_keys (cell.Node n, row.Node r) = cond r.status (term_keys_of (rank_of (n, r)) r.terms) []
term_keys _ = []

-- a term gives its id, with that of the term above it, if there is one
abbrev pub parent_keys : Cell × Row → List ParentKey
parent_keys (cell.Term n, row.Term r) = record { parent = r.parent; id = n } ∷ []
parent_keys _ = []

-- a comment gives its id, with that of its node
abbrev pub comment_keys : Cell × Row → List CommentKey
comment_keys (cell.Comment n, row.Comment r) = record { node = r.node; id = n } ∷ []
comment_keys _ = []

-- a block gives its region and what places it there
abbrev pub region_place : Region → ℕ
region_place region.Header = 0
region_place region.Aside = 1
region_place region.Footer = 2

abbrev pub block_keys : Cell × Row → List BlockKey
block_keys (cell.Block name, row.Block r) = record { region = region_place r.region; rank = block_rank (name, r) } ∷ []
block_keys _ = []
