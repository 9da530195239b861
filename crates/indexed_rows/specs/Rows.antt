-- The rows of a state: a finite map from cells to rows, in cell order.
use Rattle.std.specs.Prelude.{ℕ, List, Option, Some, None, All, ◌==◌, option_and_then}
use Rattle.std.specs.List.{filter_map, filter}
use Rattle.std.specs.List.Sorted.{IsStrictlySortedBy}
use Rattle.std.specs.Map.{keys_of, lookup, remove_entry}
use Rattle.std.specs.BTreeMap.{is_at, insert_entry}
use Rattle.std.specs.Str.{bytes_eq}
use denote.Ref.{Bor}
use Rattle.content_rows.specs.declared.cell.Cell.{Cell}
use Rattle.content_rows.specs.declared.cell.Cell.TheVariants as cell
use Rattle.content_rows.specs.declared.row.Row.{Row}
use Rattle.content_rows.specs.declared.row.Row.TheVariants as row
use Rattle.content_rows.specs.declared.row.Site.{Site}
use Rattle.content_rows.specs.declared.row.Seq.{Seq}
use Rattle.content_rows.specs.declared.row.NodeType.{NodeType}
use Rattle.content_rows.specs.declared.row.Role.{Role}
use Rattle.content_rows.specs.declared.row.User.{User}
use Rattle.content_rows.specs.declared.row.Term.{Term}
use Rattle.content_rows.specs.declared.row.Node.{Node}
use Rattle.content_rows.specs.declared.row.Menu.{Menu}
use Rattle.content_rows.specs.declared.row.Listing.{Listing}
use Rattle.content_rows.specs.declared.row.Block.{Block}
use Rattle.content_rows.specs.declared.row.Session.{Session}
use Rattle.content_rows.specs.declared.row.Comment.{Comment}
use Rattle.content_rows.specs.declared.row.Talk.{Talk}
use Rattle.content_rows.specs.CellOrder.{cell_cmp}
use Rattle.content_rows.specs.ValidRow.{IsValidRow}

-- what a pair of references shows
abbrev pub entry_of : Bor Cell × Bor Row → Cell × Row
entry_of e = (e.0.now, e.1.now)

-- what a cell and a reference to its row show
abbrev pub shown : Cell × Bor Row → Cell × Row
shown e = (e.0, e.1.now)

-- what an iterator of rows has left
abbrev pub entries_left : List (Cell × Row) → List (Cell × Row)
entries_left rows = rows

-- each row is right, by itself
abbrev pub AreValidRows : List (Cell × Row) → Type 0
AreValidRows rows = All (λ e. IsValidRow e.0 e.1) rows

-- each cell has one row at most, and they stand in the order of the cells
abbrev pub InOrder : List (Cell × Row) → Type 0
InOrder rows = IsStrictlySortedBy cell_cmp (keys_of rows)

-- the row of a cell, if there is one; with a row set, and without a cell
abbrev pub row_at : List (Cell × Row) → Cell → Option Row
row_at rows c = lookup (is_at (cell_cmp c)) rows

abbrev pub with_row : List (Cell × Row) → Cell → Row → List (Cell × Row)
with_row rows c r = insert_entry cell_cmp rows c r

abbrev pub without_row : List (Cell × Row) → Cell → List (Cell × Row)
without_row rows c = remove_entry (is_at (cell_cmp c)) rows

-- the row, where it is of that kind
abbrev pub as_site : Row → Option Site
as_site (row.Site r) = Some r
as_site _ = None

abbrev pub as_seq : Row → Option Seq
as_seq (row.Seq r) = Some r
as_seq _ = None

abbrev pub as_type : Row → Option NodeType
as_type (row.NodeType r) = Some r
as_type _ = None

abbrev pub as_role : Row → Option Role
as_role (row.Role r) = Some r
as_role _ = None

abbrev pub as_user : Row → Option User
as_user (row.User r) = Some r
as_user _ = None

abbrev pub as_term : Row → Option Term
as_term (row.Term r) = Some r
as_term _ = None

abbrev pub as_node : Row → Option Node
as_node (row.Node r) = Some r
as_node _ = None

abbrev pub as_menu : Row → Option Menu
as_menu (row.Menu r) = Some r
as_menu _ = None

abbrev pub as_listing : Row → Option Listing
as_listing (row.Listing r) = Some r
as_listing _ = None

abbrev pub as_block : Row → Option Block
as_block (row.Block r) = Some r
as_block _ = None

abbrev pub as_session : Row → Option Session
as_session (row.Session r) = Some r
as_session _ = None

abbrev pub as_comment : Row → Option Comment
as_comment (row.Comment r) = Some r
as_comment _ = None

abbrev pub as_talk : Row → Option Talk
as_talk (row.Talk r) = Some r
as_talk _ = None

-- the row of a name or a number
abbrev pub site_of : List (Cell × Row) → Option Site
site_of rows = option_and_then as_site (row_at rows cell.Site)

abbrev pub seq_of : List (Cell × Row) → Option Seq
seq_of rows = option_and_then as_seq (row_at rows cell.Seq)

abbrev pub type_of : List (Cell × Row) → List ℕ → Option NodeType
type_of rows name = option_and_then as_type (row_at rows (cell.NodeType name))

abbrev pub role_of : List (Cell × Row) → List ℕ → Option Role
role_of rows name = option_and_then as_role (row_at rows (cell.Role name))

abbrev pub user_of : List (Cell × Row) → ℕ → Option User
user_of rows n = option_and_then as_user (row_at rows (cell.User n))

abbrev pub term_of : List (Cell × Row) → ℕ → Option Term
term_of rows n = option_and_then as_term (row_at rows (cell.Term n))

abbrev pub node_of : List (Cell × Row) → ℕ → Option Node
node_of rows n = option_and_then as_node (row_at rows (cell.Node n))

abbrev pub menu_of : List (Cell × Row) → List ℕ → Option Menu
menu_of rows name = option_and_then as_menu (row_at rows (cell.Menu name))

abbrev pub listing_of : List (Cell × Row) → List ℕ → Option Listing
listing_of rows name = option_and_then as_listing (row_at rows (cell.Listing name))

abbrev pub block_of : List (Cell × Row) → List ℕ → Option Block
block_of rows name = option_and_then as_block (row_at rows (cell.Block name))

abbrev pub session_of : List (Cell × Row) → List ℕ → Option Session
session_of rows name = option_and_then as_session (row_at rows (cell.Session name))

abbrev pub comment_of : List (Cell × Row) → ℕ → Option Comment
comment_of rows n = option_and_then as_comment (row_at rows (cell.Comment n))

abbrev pub talk_of : List (Cell × Row) → Option Talk
talk_of rows = option_and_then as_talk (row_at rows cell.Talk)

-- all nodes with their numbers, in their order; those of a type; all terms with their numbers; all blocks with their names;
-- all comments with their numbers; those of a node
abbrev pub node_entry : (Cell × Row) → Option (ℕ × Node)
node_entry (cell.Node n, row.Node r) = Some (n, r)
node_entry _ = None

abbrev pub term_entry : (Cell × Row) → Option (ℕ × Term)
term_entry (cell.Term n, row.Term r) = Some (n, r)
term_entry _ = None

abbrev pub block_entry : (Cell × Row) → Option (List ℕ × Block)
block_entry (cell.Block name, row.Block r) = Some (name, r)
block_entry _ = None

abbrev pub comment_entry : (Cell × Row) → Option (ℕ × Comment)
comment_entry (cell.Comment n, row.Comment r) = Some (n, r)
comment_entry _ = None

abbrev pub nodes_of : List (Cell × Row) → List (ℕ × Node)
nodes_of rows = filter_map node_entry rows

abbrev pub nodes_of_type : List (Cell × Row) → List ℕ → List (ℕ × Node)
nodes_of_type rows name = filter (λ e. bytes_eq e.1.node_type name) (nodes_of rows)

abbrev pub terms_of : List (Cell × Row) → List (ℕ × Term)
terms_of rows = filter_map term_entry rows

abbrev pub blocks_of : List (Cell × Row) → List (List ℕ × Block)
blocks_of rows = filter_map block_entry rows

abbrev pub comments_of : List (Cell × Row) → List (ℕ × Comment)
comments_of rows = filter_map comment_entry rows

abbrev pub comments_on : List (Cell × Row) → ℕ → List (ℕ × Comment)
comments_on rows n = filter (λ e. e.1.node == n) (comments_of rows)
