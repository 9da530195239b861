-- What an object says as a row with its cell, or the first rule that it breaks, and what is written of a row.
use Rattle.std.specs.Prelude.{ℕ, List, ◌≡◌, Option, None, Some, is_some, codes, IsTrue}
use Rattle.serde_json.specs.Data.{Data, string}
use Rattle.serde_json.specs.Find.{get}
use Rattle.std.specs.declared.alloc.AllocError.{AllocError}
use Rattle.content_rows.specs.CellText.{cell_text}
use Rattle.content_rows.specs.ValidRow.{IsValidRow}
use Rattle.content_rows.specs.declared.cell.Cell.{Cell}
use Rattle.content_rows.specs.declared.cell.Cell.TheVariants as cell
use Rattle.content_rows.specs.declared.row.Row.{Row}
use Rattle.content_rows.specs.declared.row.Row.TheVariants as row
use Rattle.json_keys.specs.Checked.{read_checked, go_on, unless_faulty}
use Rattle.json_keys.specs.declared.checked.Checked.{Checked}
use Rattle.json_keys.specs.declared.checked.Checked.TheVariants as checked
use Rattle.json_keys.specs.declared.rule.Rule.TheVariants as rule
use Rattle.json_keys.specs.declared.shape.Ask.{Ask}
use Rattle.row_kinds.specs.Look.{text_data, with_cell}
use Rattle.row_kinds.specs.Rows.{site_in, site_data, seq_in, seq_data, type_in, type_data, role_in, role_data, user_in, user_data, term_in, term_data, old_term_data, node_in, node_data, menu_in, menu_data, listing_in, listing_data, block_in, block_data, session_in, session_data, comment_in, comment_data, talk_in, talk_data, IsTypedSeq, IsTypedType, IsTypedRole, IsTypedUser, IsTypedNode, IsTypedMenu, IsTypedListing, IsTypedBlock, IsTypedTalk}
use Rattle.row_kinds.specs.Tables.{site_row, seq_row, type_row, role_row, user_row, term_row, node_row, menu_row, listing_row, block_row, session_row, comment_row, talk_row}
use Rattle.row_json.specs.Cells.{cell_of, IsTypedCell}
use Rattle.row_json.specs.Whole.{whole_fault}
use Rattle.row_json.specs.declared.fault.RowFault.{RowFault}
use Rattle.row_json.specs.declared.fault.RowFault.TheVariants as fault

-- ---- the cell, before all other keys

abbrev pub known_cell : Option Cell → Checked Cell
known_cell None = checked.Broken (codes "cell") rule.Bytes
known_cell (Some c) = checked.Right c

abbrev pub cell_in : Option Data → Checked Cell
cell_in None = checked.Broken (codes "cell") rule.Missing
cell_in (Some (string t)) = known_cell (cell_of t)
cell_in (Some _) = checked.Broken (codes "cell") rule.Kind

-- ---- rows

-- a row of a kind, by its table of keys
abbrev pub of_kind : {X : Type 0} → (X → Row) → (Data → X) → List (List ℕ × Ask) → Data → Checked Row
of_kind make of keys d = go_on (λ x. checked.Right (make x)) (read_checked of keys d)

abbrev pub row_in : Data → Cell → Checked Row
row_in d cell.Site = of_kind row.Site site_in site_row d
row_in d cell.Seq = of_kind row.Seq seq_in seq_row d
row_in d (cell.NodeType name) = of_kind row.NodeType type_in type_row d
row_in d (cell.Role name) = of_kind row.Role role_in role_row d
row_in d (cell.User id) = of_kind row.User user_in user_row d
row_in d (cell.Term id) = of_kind row.Term term_in term_row d
row_in d (cell.Node id) = of_kind row.Node node_in node_row d
row_in d (cell.Menu name) = of_kind row.Menu menu_in menu_row d
row_in d (cell.Listing name) = of_kind row.Listing listing_in listing_row d
row_in d (cell.Block name) = of_kind row.Block block_in block_row d
row_in d (cell.Session name) = of_kind row.Session session_in session_row d
row_in d (cell.Comment id) = of_kind row.Comment comment_in comment_row d
row_in d cell.Talk = of_kind row.Talk talk_in talk_row d
row_in d cell.Head = checked.Broken (codes "cell") rule.Bytes

-- the cell, then the keys by the table of the cell's kind, then what the keys break together
abbrev pub reading : Data → Checked (Cell × Row)
reading d = go_on (λ c. go_on (λ r. unless_faulty (c, r) (whole_fault r)) (row_in d c)) (cell_in (get (codes "cell") d))

-- ---- written

abbrev pub row_data : Row → Data
row_data (row.Site r) = site_data r
row_data (row.Seq r) = seq_data r
row_data (row.NodeType r) = type_data r
row_data (row.Role r) = role_data r
row_data (row.User r) = user_data r
row_data (row.Term r) = term_data r
row_data (row.Node r) = node_data r
row_data (row.Menu r) = menu_data r
row_data (row.Listing r) = listing_data r
row_data (row.Block r) = block_data r
row_data (row.Session r) = session_data r
row_data (row.Comment r) = comment_data r
row_data (row.Talk r) = talk_data r

-- one object: the cell's text at `cell`, and the keys of the row
abbrev pub written : Cell → Row → Data
written c r = with_cell (text_data (cell_text c)) row_data r

-- the keys that a row may be read without are there too
abbrev pub HasAllKeys : Cell → Data → Type 0
HasAllKeys (cell.Term id) d = IsTrue (is_some (get (codes "parent") d))
HasAllKeys _ d = Unit {0}

-- one object: a term at the top as it was written before terms had parents
abbrev pub WasWritten : Cell → Row → Data → Type 0
WasWritten (cell.Term id) (row.Term r) d = (r.parent ≡ None) × (with_cell (text_data (cell_text (cell.Term id))) old_term_data r ≡ d)
WasWritten _ _ d = ⊥

-- ---- faults

abbrev pub out_of_memory : AllocError → RowFault → Type 0
out_of_memory e f = f ≡ fault.OutOfMemory

-- what a fault says of an object; want of memory says nothing
abbrev pub IsFaultOf : Data → RowFault → Type 0
IsFaultOf d (fault.Rule field broken) = reading d ≡ checked.Broken field broken
IsFaultOf d fault.OutOfMemory = Unit {0}

-- ---- what the types of a row's keys say

abbrev pub IsTypedRow : Row → Type 0
IsTypedRow (row.Site r) = Unit {0}
IsTypedRow (row.Seq r) = IsTypedSeq r
IsTypedRow (row.NodeType r) = IsTypedType r
IsTypedRow (row.Role r) = IsTypedRole r
IsTypedRow (row.User r) = IsTypedUser r
IsTypedRow (row.Term r) = Unit {0}
IsTypedRow (row.Node r) = IsTypedNode r
IsTypedRow (row.Menu r) = IsTypedMenu r
IsTypedRow (row.Listing r) = IsTypedListing r
IsTypedRow (row.Block r) = IsTypedBlock r
IsTypedRow (row.Session r) = Unit {0}
IsTypedRow (row.Comment r) = Unit {0}
IsTypedRow (row.Talk r) = IsTypedTalk r

-- no right row is or was written so
abbrev pub IsNoRow : Data → Type 0
IsNoRow d = (c : Cell) (r : Row) → IsTypedCell c → IsTypedRow r → IsValidRow c r → ¬ (written c r ≡ d) × ¬ (WasWritten c r d)

-- an object that breaks a rule is no row; want of memory says nothing
abbrev pub IsRefused : Data → RowFault → Type 0
IsRefused d (fault.Rule field broken) = IsNoRow d
IsRefused d fault.OutOfMemory = Unit {0}
