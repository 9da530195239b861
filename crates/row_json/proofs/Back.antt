-- A right row that is written is read as that row, and so is a term as it was written before terms had parents.
use Rattle.std.proofs.Common.{◌≡◌, ℕ, List, Some, None, refl, sym, ap, ◌∙◌, codes}
use Rattle.serde_json.specs.Data.{Data}
use Rattle.serde_json.specs.Find.{get}
use Rattle.content_rows.specs.CellText.{cell_text}
use Rattle.content_rows.specs.ValidRow.{IsValidRow}
use Rattle.content_rows.specs.declared.cell.Cell.{Cell}
use Rattle.content_rows.specs.declared.cell.Cell.TheVariants as cell
use Rattle.content_rows.specs.declared.row.Row.{Row}
use Rattle.content_rows.specs.declared.row.Row.TheVariants as row
use Rattle.content_rows.specs.declared.row.Term.{Term}
use Rattle.json_keys.specs.Checked.{go_on, unless_faulty}
use Rattle.json_keys.specs.declared.checked.Checked.TheVariants as checked
use Rattle.json_keys.specs.declared.rule.Rule.{Rule}
use Rattle.json_keys.specs.declared.shape.Ask.{Ask}
use Rattle.row_kinds.specs.Look.{text_data, with_cell}
use Rattle.row_kinds.specs.Rows.{site_in, site_data, seq_in, seq_data, type_in, type_data, role_in, role_data, user_in, user_data, term_in, term_data, old_term_data, node_in, node_data, menu_in, menu_data, listing_in, listing_data, block_in, block_data, session_in, session_data, comment_in, comment_data, talk_in, talk_data}
use Rattle.row_kinds.specs.Tables.{site_row, seq_row, type_row, role_row, user_row, term_row, node_row, menu_row, listing_row, block_row, session_row, comment_row, talk_row}
use Rattle.row_kinds.proofs.Codec.{ComesBack}
use Rattle.row_kinds.proofs.Utf8.{text_written}
use Rattle.row_kinds.proofs.CommentLaws.{comment_back, talk_back}
use Rattle.row_kinds.proofs.ContentLaws.{type_back, term_back, old_term_back, node_back}
use Rattle.row_kinds.proofs.PeopleLaws.{role_back, user_back, session_back}
use Rattle.row_kinds.proofs.StructureLaws.{site_back, seq_back, menu_back, listing_back, block_back}
use Rattle.row_json.specs.Cells.{IsTypedCell}
use Rattle.row_json.specs.Reading.{known_cell, cell_in, of_kind, row_in, row_data, reading, written, WasWritten, IsTypedRow, IsNoRow}
use Rattle.row_json.specs.Whole.{whole_fault}
use Rattle.row_json.proofs.CellTexts.{IsSound, cell_back, cell_utf8}
use Rattle.row_json.proofs.Wholes.{type_fine, menu_fine, listing_fine, block_fine}

kind_back : {X : Type 0} (make : X → Row) (of : Data → X) (keys : List (List ℕ × Ask)) (shown : X → Data) (x : X) → ComesBack keys of shown x → of_kind make of keys (shown x) ≡ checked.Right (make x)
kind_back make of keys shown x h =
    ap (λ f. go_on (λ y. checked.Right (make y)) (unless_faulty (of (shown x)) f)) h.0 ∙ ap (λ y. checked.Right (make y)) h.1

-- the cell of a right row is sound
sound : (c : Cell) (r : Row) → IsValidRow c r → IsTypedCell c → IsSound c
sound cell.Site (row.Site r) v t = tt
sound cell.Seq (row.Seq r) v t = tt
sound (cell.NodeType name) (row.NodeType r) v t = t
sound (cell.Role name) (row.Role r) v t = t
sound (cell.User id) (row.User r) v t = v.0
sound (cell.Term id) (row.Term r) v t = v.0
sound (cell.Node id) (row.Node r) v t = v.0
sound (cell.Menu name) (row.Menu r) v t = t
sound (cell.Listing name) (row.Listing r) v t = t
sound (cell.Block name) (row.Block r) v t = t
sound (cell.Session name) (row.Session r) v t = t
sound (cell.Comment id) (row.Comment r) v t = v.0
sound cell.Talk (row.Talk r) v t = tt
sound _ _ v t = absurd v

-- the row that is read of what is written, with what is told of its cell and of its keys together
abbrev IsBack : Cell → Row → Data → Type 0
IsBack c r cell = (get (codes "cell") (with_cell cell row_data r) ≡ Some cell) × (row_in (with_cell cell row_data r) c ≡ checked.Right r) × (whole_fault r ≡ None)

row_back : (c : Cell) (r : Row) (cell : Data) → IsValidRow c r → IsTypedRow r → IsBack c r cell
row_back cell.Site (row.Site r) cell v t = (refl, kind_back row.Site site_in site_row (with_cell cell site_data) r (site_back cell r v), refl)
row_back cell.Seq (row.Seq r) cell v t = (refl, kind_back row.Seq seq_in seq_row (with_cell cell seq_data) r (seq_back cell r v t), refl)
row_back (cell.NodeType name) (row.NodeType r) cell v t = (refl, kind_back row.NodeType type_in type_row (with_cell cell type_data) r (type_back cell r v t), type_fine r v)
row_back (cell.Role name) (row.Role r) cell v t = (refl, kind_back row.Role role_in role_row (with_cell cell role_data) r (role_back cell r v t), refl)
row_back (cell.User id) (row.User r) cell v t = (refl, kind_back row.User user_in user_row (with_cell cell user_data) r (user_back cell r v.1 t), refl)
row_back (cell.Term id) (row.Term r) cell v t = (refl, kind_back row.Term term_in term_row (with_cell cell term_data) r (term_back cell r v.1), refl)
row_back (cell.Node id) (row.Node r) cell v t = (refl, kind_back row.Node node_in node_row (with_cell cell node_data) r (node_back cell r v.1 t), refl)
row_back (cell.Menu name) (row.Menu r) cell v t = (refl, kind_back row.Menu menu_in menu_row (with_cell cell menu_data) r (menu_back cell r v t), menu_fine r v)
row_back (cell.Listing name) (row.Listing r) cell v t = (refl, kind_back row.Listing listing_in listing_row (with_cell cell listing_data) r (listing_back cell r v t), listing_fine r v)
row_back (cell.Block name) (row.Block r) cell v t = (refl, kind_back row.Block block_in block_row (with_cell cell block_data) r (block_back cell r v t), block_fine r v)
row_back (cell.Session name) (row.Session r) cell v t = (refl, kind_back row.Session session_in session_row (with_cell cell session_data) r (session_back cell r v), refl)
row_back (cell.Comment id) (row.Comment r) cell v t = (refl, kind_back row.Comment comment_in comment_row (with_cell cell comment_data) r (comment_back cell r v.1), refl)
row_back cell.Talk (row.Talk r) cell v t = (refl, kind_back row.Talk talk_in talk_row (with_cell cell talk_data) r (talk_back cell r v t), refl)
row_back _ _ cell v t = absurd v

-- what an object says whose cell and row are known
known_row : (c : Cell) (r : Row) (d : Data) → IsSound c → get (codes "cell") d ≡ Some (text_data (cell_text c)) → row_in d c ≡ checked.Right r → whole_fault r ≡ None → reading d ≡ checked.Right (c, r)
known_row c r d s cell row whole =
    let named : cell_in (get (codes "cell") d) ≡ checked.Right c = ap cell_in (cell ∙ ap Some (text_written (cell_text c) (cell_utf8 c s))) ∙ ap known_cell (cell_back c s) in
    ap (go_on (λ k. go_on (λ q. unless_faulty (k, q) (whole_fault q)) (row_in d k))) named ∙ ap (go_on (λ q. unless_faulty (c, q) (whole_fault q))) row ∙ ap (unless_faulty (c, r)) whole

pub comes_back : (c : Cell) (r : Row) → IsTypedCell c → IsTypedRow r → IsValidRow c r → reading (written c r) ≡ checked.Right (c, r)
comes_back c r named typed v =
    let b = row_back c r (text_data (cell_text c)) v typed in known_row c r (written c r) (sound c r v named) b.0 b.1 b.2

-- and so does a term at the top as it was written before terms had parents
old_term : (id : ℕ) (r : Term) → IsValidRow (cell.Term id) (row.Term r) → r.parent ≡ None
    → reading (with_cell (text_data (cell_text (cell.Term id))) old_term_data r) ≡ checked.Right (cell.Term id, row.Term r)
old_term id r v top =
    let c = cell.Term id in
    let cell = text_data (cell_text c) in
    let d = with_cell cell old_term_data r in
    known_row c (row.Term r) d v.0 refl (kind_back row.Term term_in term_row (with_cell cell old_term_data) r (old_term_back cell r v.1 top)) refl

old_back : (c : Cell) (r : Row) (d : Data) → IsValidRow c r → WasWritten c r d → reading d ≡ checked.Right (c, r)
old_back (cell.Term id) (row.Term r) d v was = ap reading (sym was.1) ∙ old_term id r v was.0
old_back _ _ d v was = absurd was

apart : {X : Type 0} (x : X) (f : List ℕ) (r : Rule) → checked.Right x ≡ checked.Broken f r → ⊥
apart x f r h = cc

pub no_row : (d : Data) (f : List ℕ) (r : Rule) → reading d ≡ checked.Broken f r → IsNoRow d
no_row d f r h c q named typed v = (
  λ is. apart (c, q) f r (sym (comes_back c q named typed v) ∙ ap reading is ∙ h),
  λ was. apart (c, q) f r (sym (old_back c q d v was) ∙ h),
)
