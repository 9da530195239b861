-- The rows that are there while a page is written.
use Rattle.std.proofs.Common.{ℕ, zero, suc, List, [], ◌∷◌, ◌≡◌, ◌<◌, refl, sym, ◌∙◌, ap, subst, arith, Bool, true, false, length, get_or}
use Rattle.std.specs.Prelude.{Option, Some, cond, is_some}
use Rattle.std.specs.Option.{IsSome}
use Rattle.std.specs.List.{find}
use Rattle.std.specs.Str.{bytes_eq}
use Rattle.std.proofs.lemmas.Slice.Eq.{bytes_eq-Decides}
use Rattle.content_rows.specs.declared.cell.Cell.{Cell}
use Rattle.content_rows.specs.declared.row.Row.{Row}
use Rattle.content_rows.specs.declared.row.Node.{Node}
use Rattle.content_rows.specs.declared.row.NodeType.{NodeType}
use Rattle.indexed_rows.specs.Rows.{type_of, node_of}
use Rattle.site_access.specs.Access.{type_in, node_type_of, field_of}
use Rattle.content_rows.specs.declared.row.FieldRow.{FieldRow}
use Rattle.render_canvas.specs.Decision.{HasField}

same_name : (name : List ℕ) → bytes_eq name name ≡ true
same_name name = (bytes_eq-Decides name name).1 refl

found_if : (b : Bool) (f : FieldRow) (rest : Option FieldRow) → IsSome rest → IsSome (cond b (Some f) rest)
found_if true f rest found = refl
found_if false f rest found = found

-- a field of a list is found by its name
found_at : (fields : List FieldRow) (i : ℕ) (x : FieldRow) → i < length fields → x ≡ get_or fields i x → IsSome (find (λ field. bytes_eq field.name x.name) fields)
found_at [] i x below is = absurd (omega arith)
found_at (f ∷ fields) zero x below is =
    let same : bytes_eq f.name x.name ≡ true = ap (λ y. bytes_eq y.name x.name) (sym is) ∙ same_name x.name in
    ap (λ b. is_some (cond b (Some f) (find (λ field. bytes_eq field.name x.name) fields))) same
found_at (f ∷ fields) (suc i) x below is =
    found_if (bytes_eq f.name x.name) f (find (λ field. bytes_eq field.name x.name) fields)
    (found_at fields i x (omega arith) is)

-- a type that is there has each of its fields
pub has_field : (o : Option NodeType) (type : NodeType) (fields : List FieldRow) (i : ℕ) (x : FieldRow) → o ≡ Some type → fields ≡ type.fields → i < length fields → x ≡ get_or fields i x → HasField o x.name
has_field o type fields i x e same below is =
    subst (λ p. HasField p x.name) (sym e) (subst (λ fs. IsSome (find (λ field. bytes_eq field.name x.name) fs)) same (found_at fields i x below is))

-- the field of a node that is there, and the type of that node
pub field_there : (rows : List (Cell × Row)) (n : ℕ) (node : Node) (name : List ℕ) → node_of rows n ≡ Some node → HasField (type_of rows node.node_type) name → IsSome (field_of rows (node_type_of rows n) name)
field_there rows n node name there has = subst (λ t. IsSome (field_of rows t name)) (sym (ap type_in there)) has
