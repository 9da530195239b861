-- The texts of cells: no two cells have one text, and what is read under a text is a row of the cell that has it.
use Rattle.std.proofs.Common.{◌≡◌, ◌≢◌, ℕ, List, [], ◌∷◌, ◌++◌, Bool, true, false, cond, Option, Some, None, refl, sym, ap, subst, ◌∙◌, arith, codes}
use Rattle.std.specs.Prelude.{nat_eq, if◌then◌else◌}
use Rattle.std.specs.Fmt.{decimal}
use Rattle.std.specs.Str.{bytes_eq}
use Rattle.std.specs.Str.Parse.{digits_value}
use Rattle.std.proofs.lemmas.Fmt.{decimal_is_IsNumeral}
use Rattle.std.proofs.lemmas.Slice.Eq.{bytes_eq-Decides}
use Rattle.content_rows.specs.CellText.{cell_text}
use Rattle.content_rows.specs.declared.cell.Cell.{Cell}
use Rattle.content_rows.specs.declared.cell.Cell.TheVariants as cell
use Rattle.content_rows.specs.declared.row.Row.{Row}
use Rattle.json_keys.specs.Checked.{go_on, unless_faulty}
use Rattle.json_keys.specs.declared.checked.Checked.{Checked}
use Rattle.json_keys.specs.declared.checked.Checked.TheVariants as checked
use Rattle.keeper_sqlite.specs.Bodies.{value_of, in_its_cell, row_told, row_of}
use Rattle.keeper_sqlite.specs.Cells.{HasTypedNumber}
use Rattle.row_json.proofs.CellTexts.{IsSound, IsTold, cell_told}
use Rattle.row_json.proofs.Told.{gone_on, unfaulty}
use Rattle.row_json.specs.Cells.{cell_of}
use Rattle.row_json.specs.Reading.{known_cell, cell_in, row_in, reading}
use Rattle.row_json.specs.Whole.{whole_fault}
use Rattle.serde_json.specs.Data.{Data, null, boolean, number, string, array, object}
use Rattle.serde_json.specs.Find.{get}

-- ---- a cell is told by its text

-- what stands behind a front
abbrev behind : List ℕ → List ℕ → Option (List ℕ)
behind [] t = Some t
behind (p ∷ ps) [] = None
behind (p ∷ ps) (x ∷ xs) = cond (nat_eq p x) (behind ps xs) None

-- the cell that the rest names, where a text begins with a front, else another
abbrev where_begun : Option (List ℕ) → (List ℕ → Cell) → Cell → Cell
where_begun None make other = other
where_begun (Some rest) make other = make rest

abbrev cell_at : List ℕ → Cell
cell_at t =
    where_begun (behind (codes "site") t) (λ _. cell.Site)
    (where_begun (behind (codes "seq") t) (λ _. cell.Seq)
    (where_begun (behind (codes "type:") t) (λ name. cell.NodeType name)
    (where_begun (behind (codes "role:") t) (λ name. cell.Role name)
    (where_begun (behind (codes "user:") t) (λ id. cell.User (digits_value 10 id))
    (where_begun (behind (codes "term:") t) (λ id. cell.Term (digits_value 10 id))
    (where_begun (behind (codes "node:") t) (λ id. cell.Node (digits_value 10 id))
    (where_begun (behind (codes "menu:") t) (λ name. cell.Menu name)
    (where_begun (behind (codes "listing:") t) (λ name. cell.Listing name)
    (where_begun (behind (codes "block:") t) (λ name. cell.Block name)
    (where_begun (behind (codes "session:") t) (λ name. cell.Session name)
    (where_begun (behind (codes "comment:") t) (λ id. cell.Comment (digits_value 10 id))
    (where_begun (behind (codes "talk") t) (λ _. cell.Talk)
    cell.Head))))))))))))

cell_back : (c : Cell) → HasTypedNumber c → cell_at (cell_text c) ≡ c
cell_back cell.Site small = refl
cell_back cell.Seq small = refl
cell_back (cell.NodeType name) small = refl
cell_back (cell.Role name) small = refl
cell_back (cell.User id) small = ap (λ (n : ℕ). cell.User n) (decimal_is_IsNumeral id (omega (arith, small))).1
cell_back (cell.Term id) small = ap (λ (n : ℕ). cell.Term n) (decimal_is_IsNumeral id (omega (arith, small))).1
cell_back (cell.Node id) small = ap (λ (n : ℕ). cell.Node n) (decimal_is_IsNumeral id (omega (arith, small))).1
cell_back (cell.Menu name) small = refl
cell_back (cell.Listing name) small = refl
cell_back (cell.Block name) small = refl
cell_back (cell.Session name) small = refl
cell_back (cell.Comment id) small = ap (λ (n : ℕ). cell.Comment n) (decimal_is_IsNumeral id (omega (arith, small))).1
cell_back cell.Talk small = refl
cell_back cell.Head small = refl

pub cells_apart : (a b : Cell) → HasTypedNumber a → HasTypedNumber b → cell_text a ≡ cell_text b → a ≡ b
cells_apart a b here there same = sym (cell_back a here) ∙ ap (λ t. cell_at t) same ∙ cell_back b there

-- ---- the cell of a row

pub sound_number : (c : Cell) → IsSound c → HasTypedNumber c
sound_number (cell.User id) s = omega (arith, s.1)
sound_number (cell.Term id) s = omega (arith, s.1)
sound_number (cell.Node id) s = omega (arith, s.1)
sound_number (cell.Comment id) s = omega (arith, s.1)
sound_number cell.Site s = tt
sound_number cell.Seq s = tt
sound_number (cell.NodeType name) s = tt
sound_number (cell.Role name) s = tt
sound_number (cell.Menu name) s = tt
sound_number (cell.Listing name) s = tt
sound_number (cell.Block name) s = tt
sound_number (cell.Session name) s = tt
sound_number cell.Talk s = tt
sound_number cell.Head s = absurd s

pub no_head : (c : Cell) → IsSound c → cell_text c ≢ codes "head"
no_head c s same =
    let is : c ≡ cell.Head = cells_apart c cell.Head (sound_number c s) tt same in
    subst IsSound is s

known : (o : Option Cell) (c : Cell) → known_cell o ≡ checked.Right c → o ≡ Some c
known None c h = absurd cc
known (Some k) c h = let same : k ≡ c = cc in ap Some same

cell_sound : (o : Option Data) (c : Cell) → cell_in o ≡ checked.Right c → IsSound c
cell_sound None c h = absurd cc
cell_sound (Some (string t)) c h = (cell_told t c (known (cell_of t) c h)).sound
cell_sound (Some null) c h = absurd cc
cell_sound (Some (boolean b)) c h = absurd cc
cell_sound (Some (number n)) c h = absurd cc
cell_sound (Some (array ds)) c h = absurd cc
cell_sound (Some (object ms)) c h = absurd cc

read_sound : (d : Data) (row : Cell × Row) → reading d ≡ checked.Right row → IsSound row.0
read_sound d row h =
    let (k, cell_read, rest) = gone_on (λ c. go_on (λ r. unless_faulty (c, r) (whole_fault r)) (row_in d c)) (cell_in (get (codes "cell") d)) row h in
    let (s, row_read, last) = gone_on (λ r. unless_faulty (k, r) (whole_fault r)) (row_in d k) row rest in
    let whole = unfaulty (k, s) row (whole_fault s) last in
    subst (λ (p : Cell × Row). IsSound p.0) whole.1 (cell_sound (get (codes "cell") d) k cell_read)

-- what is read under a text
pub record IsRowOf (key : List ℕ) (row : Cell × Row) : Type 0 where
  pub key_is : key ≡ cell_text row.0
  pub sound : IsSound row.0

at_test : (b : Bool) (key : List ℕ) (row told : Cell × Row) → bytes_eq (cell_text row.0) key ≡ b → IsSound row.0 → (if b then Some row else None) ≡ Some told → IsRowOf key told
at_test true key row told is sound h =
    let same : row ≡ told = cc in
    subst (IsRowOf key) same (record { key_is = sym ((bytes_eq-Decides (cell_text row.0) key).0 is); sound = sound })
at_test false key row told is sound h = absurd cc

at_read : (key : List ℕ) (d : Data) (read : Checked (Cell × Row)) (told : Cell × Row) → reading d ≡ read → in_its_cell key read ≡ Some told → IsRowOf key told
at_read key d (checked.Right row) told is h = at_test (bytes_eq (cell_text row.0) key) key row told refl (read_sound d row is) h
at_read key d (checked.Broken field rule) told is h = absurd cc

at_value : (key : List ℕ) (o : Option Data) (told : Cell × Row) → row_told key o ≡ Some told → IsRowOf key told
at_value key None told h = absurd cc
at_value key (Some d) told h = at_read key d (reading d) told refl h

pub row_is_of : (key body : List ℕ) (row : Cell × Row) → row_of key body ≡ Some row → IsRowOf key row
row_is_of key body row h = at_value key (value_of body) row h

-- a body that is read as a row is that row of its cell
pub row_read : (body : List ℕ) (d : Data) (row : Cell × Row) → value_of body ≡ Some d → reading d ≡ checked.Right row → row_of (cell_text row.0) body ≡ Some row
row_read body d row value read =
    ap (row_told (cell_text row.0)) value ∙ ap (in_its_cell (cell_text row.0)) read
    ∙ ap (λ b. if b then Some row else None) ((bytes_eq-Decides (cell_text row.0) (cell_text row.0)).1 refl)
