-- What is read of an object is right, and is written as that object where all keys are there.
use Rattle.std.proofs.Common.{◌≡◌, ℕ, List, ◌∷◌, Option, Some, None, refl, sym, ap, subst, ◌∙◌, codes, unwrap_or}
use Rattle.serde_json.specs.Data.{Data, null, boolean, number, string, array, object}
use Rattle.serde_json.specs.Find.{get}
use Rattle.content_rows.specs.CellText.{cell_text}
use Rattle.content_rows.specs.ValidRow.{IsValidRow}
use Rattle.content_rows.specs.declared.cell.Cell.{Cell}
use Rattle.content_rows.specs.declared.cell.Cell.TheVariants as cell
use Rattle.content_rows.specs.declared.row.Row.{Row}
use Rattle.content_rows.specs.declared.row.Row.TheVariants as row
use Rattle.json_keys.specs.Checked.{read_checked, go_on, unless_faulty}
use Rattle.json_keys.specs.Fault.{named, ask_fault, is_wanted, first_fault}
use Rattle.json_keys.specs.Order.{AllInOrder}
use Rattle.json_keys.specs.declared.checked.Checked.{Checked}
use Rattle.json_keys.specs.declared.checked.Checked.TheVariants as checked
use Rattle.json_keys.specs.declared.rule.Rule.{Rule}
use Rattle.json_keys.specs.declared.shape.Ask.{Ask}
use Rattle.json_keys.specs.declared.shape.Ask.TheVariants as ask
use Rattle.json_keys.specs.declared.shape.Shape.TheVariants as shape
use Rattle.row_kinds.specs.Look.{value_at, text_data, with_cell}
use Rattle.row_kinds.specs.Rows.{site_in, seq_in, type_in, role_in, user_in, term_in, node_in, menu_in, listing_in, block_in, session_in, comment_in, talk_in}
use Rattle.row_kinds.specs.Tables.{site_row, seq_row, type_row, role_row, user_row, term_row, node_row, menu_row, listing_row, block_row, session_row, comment_row, talk_row}
use Rattle.row_kinds.proofs.Objects.{IsPassed, IsHeld, held_later}
use Rattle.row_kinds.proofs.Utf8.{text_written}
use Rattle.row_kinds.proofs.CommentLaws.{comment_right, comment_kept, talk_right, talk_kept}
use Rattle.row_kinds.proofs.ContentLaws.{type_right, type_kept, term_right, term_kept, node_right, node_kept}
use Rattle.row_kinds.proofs.PeopleLaws.{role_right, role_kept, user_right, user_kept, session_right, session_kept}
use Rattle.row_kinds.proofs.StructureLaws.{site_right, site_kept, seq_right, seq_kept, menu_right, menu_kept, listing_right, listing_kept, block_right, block_kept}
use Rattle.row_json.specs.Cells.{cell_of}
use Rattle.row_json.specs.Reading.{known_cell, cell_in, of_kind, row_in, row_data, reading, written, HasAllKeys}
use Rattle.row_json.specs.Whole.{whole_fault}
use Rattle.row_json.proofs.CellTexts.{IsSound, cell_told, cell_utf8}
use Rattle.row_json.proofs.Wholes.{type_whole, menu_whole, listing_whole, block_whole}

-- ---- what led to a value that breaks no rule

pub gone_on : {X Y : Type 0} (next : X → Checked Y) (x : Checked X) (y : Y) → go_on next x ≡ checked.Right y → (v : X) × (x ≡ checked.Right v) × (next v ≡ checked.Right y)
gone_on next (checked.Right v) y h = (v, refl, h)
gone_on next (checked.Broken f r) y h = absurd cc

pub unfaulty : {X : Type 0} (x y : X) (f : Option (List ℕ × Rule)) → unless_faulty x f ≡ checked.Right y → (f ≡ None) × (x ≡ y)
unfaulty x y None h = (refl, cc)
unfaulty x y (Some f) h = absurd cc

known : (o : Option Cell) (c : Cell) → known_cell o ≡ checked.Right c → o ≡ Some c
known None c h = absurd cc
known (Some k) c h = cc

cell_known : (o : Option Data) (c : Cell) → cell_in o ≡ checked.Right c → (t : List ℕ) × (o ≡ Some (string t)) × (cell_of t ≡ Some c)
cell_known None c h = absurd cc
cell_known (Some (string t)) c h = (t, refl, known (cell_of t) c h)
cell_known (Some null) c h = absurd cc
cell_known (Some (boolean b)) c h = absurd cc
cell_known (Some (number n)) c h = absurd cc
cell_known (Some (array ds)) c h = absurd cc
cell_known (Some (object ms)) c h = absurd cc

right_same : {X : Type 0} (x y : X) → checked.Right x ≡ checked.Right y → x ≡ y
right_same x y h = cc

pub kind_known : {X : Type 0} (make : X → Row) (of : Data → X) (keys : List (List ℕ × Ask)) (d : Data) (r : Row) → of_kind make of keys d ≡ checked.Right r → (first_fault keys d ≡ None) × (make (of d) ≡ r)
kind_known make of keys d r h =
    let (x, read, made) = gone_on (λ x. checked.Right (make x)) (read_checked of keys d) r h in
    let passed = unfaulty (of d) x (first_fault keys d) read in
    (passed.0, ap make passed.1 ∙ right_same (make x) r made)

-- ---- each kind

-- the keys beside the cell
keys_held : {keys : List (List ℕ × Ask)} {d : Data} → IsPassed ask_fault is_wanted ((codes "cell", ask.Must shape.Any) ∷ keys) d → named keys (codes "cell") ≡ None → IsHeld ask_fault is_wanted keys d
keys_held {keys} {d} p none = held_later (codes "cell") (ask.Must shape.Any) p none

-- right for its cell, and written as it was where all keys are there
abbrev IsKept : Cell → Data → Row → Type 0
IsKept c d r = IsValidRow c r × (HasAllKeys c d → with_cell (value_at (codes "cell") d) row_data r ≡ d)

kind_kept : (c : Cell) (d : Data) (r : Row) → AllInOrder d → row_in d c ≡ checked.Right r → whole_fault r ≡ None → IsSound c → IsKept c d r
kind_kept cell.Site d r o h w s =
    let k = kind_known row.Site site_in site_row d r h in
    let p : IsPassed ask_fault is_wanted site_row d = record { order = o; passed = k.0 } in
    subst (IsKept cell.Site d) k.1 (site_right d (keys_held p refl), λ all. site_kept d p)
kind_kept cell.Seq d r o h w s =
    let k = kind_known row.Seq seq_in seq_row d r h in
    let p : IsPassed ask_fault is_wanted seq_row d = record { order = o; passed = k.0 } in
    subst (IsKept cell.Seq d) k.1 ((seq_right d (keys_held p refl)).0, λ all. seq_kept d p)
kind_kept (cell.NodeType name) d r o h w s =
    let k = kind_known row.NodeType type_in type_row d r h in
    let p : IsPassed ask_fault is_wanted type_row d = record { order = o; passed = k.0 } in
    subst (IsKept (cell.NodeType name) d) k.1 ((type_right d (keys_held p refl) (type_whole (type_in d) (ap whole_fault k.1 ∙ w))).0, λ all. type_kept d p)
kind_kept (cell.Role name) d r o h w s =
    let k = kind_known row.Role role_in role_row d r h in
    let p : IsPassed ask_fault is_wanted role_row d = record { order = o; passed = k.0 } in
    subst (IsKept (cell.Role name) d) k.1 ((role_right d (keys_held p refl)).0, λ all. role_kept d p)
kind_kept (cell.User id) d r o h w s =
    let k = kind_known row.User user_in user_row d r h in
    let p : IsPassed ask_fault is_wanted user_row d = record { order = o; passed = k.0 } in
    subst (IsKept (cell.User id) d) k.1 ((s, (user_right d (keys_held p refl)).0), λ all. user_kept d p)
kind_kept (cell.Term id) d r o h w s =
    let k = kind_known row.Term term_in term_row d r h in
    let p : IsPassed ask_fault is_wanted term_row d = record { order = o; passed = k.0 } in
    subst (IsKept (cell.Term id) d) k.1 ((s, term_right d p), λ all. term_kept d p all)
kind_kept (cell.Node id) d r o h w s =
    let k = kind_known row.Node node_in node_row d r h in
    let p : IsPassed ask_fault is_wanted node_row d = record { order = o; passed = k.0 } in
    subst (IsKept (cell.Node id) d) k.1 ((s, (node_right d (keys_held p refl)).0), λ all. node_kept d p)
kind_kept (cell.Menu name) d r o h w s =
    let k = kind_known row.Menu menu_in menu_row d r h in
    let p : IsPassed ask_fault is_wanted menu_row d = record { order = o; passed = k.0 } in
    subst (IsKept (cell.Menu name) d) k.1 ((menu_right d (keys_held p refl) (menu_whole (menu_in d) (ap whole_fault k.1 ∙ w))).0, λ all. menu_kept d p)
kind_kept (cell.Listing name) d r o h w s =
    let k = kind_known row.Listing listing_in listing_row d r h in
    let p : IsPassed ask_fault is_wanted listing_row d = record { order = o; passed = k.0 } in
    subst (IsKept (cell.Listing name) d) k.1 ((listing_right d (keys_held p refl) (listing_whole (listing_in d) (ap whole_fault k.1 ∙ w))).0, λ all. listing_kept d p)
kind_kept (cell.Block name) d r o h w s =
    let k = kind_known row.Block block_in block_row d r h in
    let p : IsPassed ask_fault is_wanted block_row d = record { order = o; passed = k.0 } in
    subst (IsKept (cell.Block name) d) k.1 ((block_right d (keys_held p refl) (block_whole (block_in d) (ap whole_fault k.1 ∙ w))).0, λ all. block_kept d p)
kind_kept (cell.Session name) d r o h w s =
    let k = kind_known row.Session session_in session_row d r h in
    let p : IsPassed ask_fault is_wanted session_row d = record { order = o; passed = k.0 } in
    subst (IsKept (cell.Session name) d) k.1 (session_right d (keys_held p refl), λ all. session_kept d p)
kind_kept (cell.Comment id) d r o h w s =
    let k = kind_known row.Comment comment_in comment_row d r h in
    let p : IsPassed ask_fault is_wanted comment_row d = record { order = o; passed = k.0 } in
    subst (IsKept (cell.Comment id) d) k.1 ((s, comment_right d (keys_held p refl)), λ all. comment_kept d p)
kind_kept cell.Talk d r o h w s =
    let k = kind_known row.Talk talk_in talk_row d r h in
    let p : IsPassed ask_fault is_wanted talk_row d = record { order = o; passed = k.0 } in
    subst (IsKept cell.Talk d) k.1 ((talk_right d (keys_held p refl)).0, λ all. talk_kept d p)
kind_kept cell.Head d r o h w s = absurd s

-- ---- the whole

pub told : (d : Data) (c : Cell) (r : Row) → AllInOrder d → reading d ≡ checked.Right (c, r) → IsValidRow c r × (HasAllKeys c d → written c r ≡ d)
told d c r o h =
    let (k, cell_read, rest) = gone_on (λ c. go_on (λ r. unless_faulty (c, r) (whole_fault r)) (row_in d c)) (cell_in (get (codes "cell") d)) (c, r) h in
    let (s, row_read, last) = gone_on (λ r. unless_faulty (k, r) (whole_fault r)) (row_in d k) (c, r) rest in
    let whole = unfaulty (k, s) (c, r) (whole_fault s) last in
    let (t, found, named) = cell_known (get (codes "cell") d) k cell_read in
    let cell_is = cell_told t k named in
    let kept = kind_kept k d s o row_read whole.0 cell_is.sound in
    let text : text_data (cell_text k) ≡ value_at (codes "cell") d =
    text_written (cell_text k) (cell_utf8 k cell_is.sound) ∙ ap string cell_is.text ∙ sym (ap (λ o. unwrap_or o null) found) in
    subst (λ (p : Cell × Row). IsValidRow p.0 p.1 × (HasAllKeys p.0 d → written p.0 p.1 ≡ d)) whole.1 (kept.0, λ all. ap (λ x. with_cell x row_data s) text ∙ kept.1 all)
