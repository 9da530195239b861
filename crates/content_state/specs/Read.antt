-- Reads of a state, what each answers, and the tags that cover it.
-- https://www.drupal.org/docs/drupal-apis/cache-api/cache-tags
use Rattle.std.specs.Prelude.{ℕ, List, [], ◌∷◌, Option}
use Rattle.cacheability.specs.declared.tag.Tag.{Tag}
use Rattle.cacheability.specs.declared.tag.Tag.TheVariants as tag
use Rattle.content_rows.specs.declared.cell.Cell.{Cell}
use Rattle.content_rows.specs.declared.row.Row.{Row}
use Rattle.content_rows.specs.declared.row.Site.{Site}
use Rattle.content_rows.specs.declared.row.NodeType.{NodeType}
use Rattle.content_rows.specs.declared.row.Role.{Role}
use Rattle.content_rows.specs.declared.row.User.{User}
use Rattle.content_rows.specs.declared.row.Term.{Term}
use Rattle.content_rows.specs.declared.row.Node.{Node}
use Rattle.content_rows.specs.declared.row.Menu.{Menu}
use Rattle.content_rows.specs.declared.row.Listing.{Listing}
use Rattle.content_rows.specs.declared.row.Block.{Block}
use Rattle.content_rows.specs.declared.row.Comment.{Comment}
use Rattle.content_state.specs.declared.route.Route.{Route}
use Rattle.indexed_rows.specs.Rows.{site_of, type_of, role_of, user_of, term_of, node_of, menu_of, listing_of, block_of, comment_of, nodes_of, nodes_of_type, terms_of, blocks_of, comments_on}
use Rattle.content_state.specs.Route.{route_of, path_tags}

-- one row of a kind; all nodes, or those of a type; all terms; all blocks; all comments of a node; what a path leads to. The
-- ids that are next and the sessions are read by no page but through contexts.
pub data Read : Type 0 where
  SiteRow : Read
  TypeRow : List ℕ → Read
  RoleRow : List ℕ → Read
  UserRow : ℕ → Read
  TermRow : ℕ → Read
  NodeRow : ℕ → Read
  MenuRow : List ℕ → Read
  ListingRow : List ℕ → Read
  BlockRow : List ℕ → Read
  CommentRow : ℕ → Read
  AllNodes : Read
  NodesOfType : List ℕ → Read
  AllTerms : Read
  AllBlocks : Read
  CommentsOf : ℕ → Read
  PathRoute : List ℕ → Read

-- what a read answers
abbrev pub Answer : Read → Type 0
Answer SiteRow = Option Site
Answer (TypeRow t) = Option NodeType
Answer (RoleRow r) = Option Role
Answer (UserRow u) = Option User
Answer (TermRow t) = Option Term
Answer (NodeRow n) = Option Node
Answer (MenuRow m) = Option Menu
Answer (ListingRow l) = Option Listing
Answer (BlockRow b) = Option Block
Answer (CommentRow c) = Option Comment
Answer AllNodes = List (ℕ × Node)
Answer (NodesOfType t) = List (ℕ × Node)
Answer AllTerms = List (ℕ × Term)
Answer AllBlocks = List (List ℕ × Block)
Answer (CommentsOf n) = List (ℕ × Comment)
Answer (PathRoute p) = Route

abbrev pub answer : List (Cell × Row) → (r : Read) → Answer r
answer rows SiteRow = site_of rows
answer rows (TypeRow t) = type_of rows t
answer rows (RoleRow r) = role_of rows r
answer rows (UserRow u) = user_of rows u
answer rows (TermRow t) = term_of rows t
answer rows (NodeRow n) = node_of rows n
answer rows (MenuRow m) = menu_of rows m
answer rows (ListingRow l) = listing_of rows l
answer rows (BlockRow b) = block_of rows b
answer rows (CommentRow c) = comment_of rows c
answer rows AllNodes = nodes_of rows
answer rows (NodesOfType t) = nodes_of_type rows t
answer rows AllTerms = terms_of rows
answer rows AllBlocks = blocks_of rows
answer rows (CommentsOf n) = comments_on rows n
answer rows (PathRoute p) = route_of rows p

-- the tags that cover a read: an edit that changes its answer invalidates one of them
abbrev pub cover : List (Cell × Row) → Read → List Tag
cover rows SiteRow = tag.Site ∷ []
cover rows (TypeRow t) = tag.NodeType t ∷ []
cover rows (RoleRow r) = tag.Role r ∷ []
cover rows (UserRow u) = tag.User u ∷ []
cover rows (TermRow t) = tag.Term t ∷ []
cover rows (NodeRow n) = tag.Node n ∷ []
cover rows (MenuRow m) = tag.Menu m ∷ []
cover rows (ListingRow l) = tag.Listing l ∷ []
cover rows (BlockRow b) = tag.Block b ∷ []
cover rows (CommentRow c) = tag.Comment c ∷ []
cover rows AllNodes = tag.NodeList ∷ []
cover rows (NodesOfType t) = tag.NodeListOf t ∷ []
cover rows AllTerms = tag.TermList ∷ []
cover rows AllBlocks = tag.BlockList ∷ []
cover rows (CommentsOf n) = tag.CommentList n ∷ []
cover rows (PathRoute p) = path_tags rows p
