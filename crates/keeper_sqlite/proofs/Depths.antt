-- A row that is written as JSON nests less deep than what is read of a text.
use Rattle.std.proofs.Common.{◌≡◌, ◌≤◌, ℕ, ℤ, suc, List, [], ◌∷◌, Bool, true, false, Option, Some, None, Ordering, Less, Equal, Greater, arith}
use Rattle.std.specs.Prelude.{codes, if◌then◌else◌}
use Rattle.std.specs.Ordering.{match_ordering}
use Rattle.std.specs.Str.{is_utf8}
use Rattle.content_rows.specs.CellText.{cell_text}
use Rattle.content_rows.specs.declared.cell.Cell.{Cell}
use Rattle.content_rows.specs.declared.row.BlockKind.{BlockKind}
use Rattle.content_rows.specs.declared.row.FieldRow.{FieldRow}
use Rattle.content_rows.specs.declared.row.FieldValue.{FieldValue}
use Rattle.content_rows.specs.declared.row.Grant.{Grant}
use Rattle.content_rows.specs.declared.row.GrantRow.{GrantRow}
use Rattle.content_rows.specs.declared.row.Link.{Link}
use Rattle.content_rows.specs.declared.row.Region.{Region}
use Rattle.content_rows.specs.declared.row.Row.{Row}
use Rattle.content_rows.specs.declared.row.Row.TheVariants as row
use Rattle.json_keys.specs.Fault.{members_in}
use Rattle.row_json.specs.Reading.{row_data, written}
use Rattle.row_kinds.specs.Look.{text_data, whole_data, weight_data, kind_data, region_data, option_data, items_data, texts_onto, texts_data, with_cell}
use Rattle.row_kinds.specs.Rows.{grant_data, grant_row_data, field_data, link_data}
use Rattle.serde_json.specs.Data.{Data, null, boolean, number, string, array, object, Items, no_items, item, Members, no_members, member, put, depth, items_depth, members_depth}
use Rattle.serde_json.specs.Read.{max_depth}

-- ---- values

-- a value, and members, that nest no deeper than so
record Nests (n : ℕ) (d : Data) : Type 0 where
  pub is : depth d ≤ n

record AllNest (n : ℕ) (ms : Members) : Type 0 where
  pub are : members_depth ms ≤ n

text_at : (n : ℕ) (b : Bool) (t : List ℕ) → Nests n (if b then string t else null)
text_at n true t = record { is = omega arith }
text_at n false t = record { is = omega arith }

text : (n : ℕ) (t : List ℕ) → Nests n (text_data t)
text n t = text_at n (is_utf8 t) t

count : (n m : ℕ) → Nests n (whole_data m)
count n m = record { is = omega arith }

weight : (n : ℕ) (z : ℤ) → Nests n (weight_data z)
weight n z = record { is = omega arith }

flag : (n : ℕ) (b : Bool) → Nests n (boolean b)
flag n b = record { is = omega arith }

kind : (n : ℕ) (k : BlockKind) → Nests n (kind_data k)
kind n k = record { is = omega arith }

region : (n : ℕ) (r : Region) → Nests n (region_data r)
region n r = record { is = omega arith }

maybe : {X : Type 0} (n : ℕ) (shown : X → Data) → ((x : X) → Nests n (shown x)) → (o : Option X) → Nests n (option_data shown o)
maybe n shown each None = record { is = omega arith }
maybe n shown each (Some x) = each x

items : {X : Type 0} (n : ℕ) (shown : X → Data) → ((x : X) → Nests n (shown x)) → (xs : List X) → items_depth (items_data shown xs) ≤ n
items n shown each [] = omega arith
items n shown each (x ∷ xs) = omega (arith, (each x).is, items n shown each xs)

list : {X : Type 0} (n : ℕ) (shown : X → Data) → ((x : X) → Nests n (shown x)) → (xs : List X) → Nests (suc n) (array (items_data shown xs))
list n shown each xs = record { is = omega (arith, items n shown each xs) }

last : (n : ℕ) → AllNest n no_members
last n = record { are = omega arith }

and : (n : ℕ) (k : List ℕ) (d : Data) (ms : Members) → Nests n d → AllNest n ms → AllNest n (member k d ms)
and n k d ms here more = record { are = omega (arith, here.is, more.are) }

whole : (n : ℕ) (ms : Members) → AllNest n ms → Nests (suc n) (object ms)
whole n ms all = record { is = omega (arith, all.are) }

by_order : (o : Ordering) (a b c : Members) (n : ℕ) → members_depth a ≤ n → members_depth b ≤ n → members_depth c ≤ n → members_depth (match_ordering o a b c) ≤ n
by_order Less a b c n p q r = p
by_order Equal a b c n p q r = q
by_order Greater a b c n p q r = r

put_depth : (k : List ℕ) (d : Data) (ms : Members) (n : ℕ) → depth d ≤ n → members_depth ms ≤ n → members_depth (put k d ms) ≤ n
put_depth k d no_members n p q = omega arith
put_depth k d (member l e ms) n p q =
    by_order _ (member k d (member l e ms)) (member l d ms) (member l e (put k d ms)) n (omega arith) (omega arith) (omega (arith, put_depth k d ms n p (omega arith)))

onto : (fs : List FieldValue) (ms : Members) (n : ℕ) → AllNest n ms → AllNest n (texts_onto fs ms)
onto [] ms n all = all
onto (f ∷ fs) ms n all = onto fs (put f.name (text_data f.value) ms) n (record { are = put_depth f.name (text_data f.value) ms n (text n f.value).is all.are })

-- ---- parts of rows

grant_depth : (x : Grant) → Nests 1 (grant_data x)
grant_depth x =
    whole 0 _
    (and 0 (codes "gid") _ _ (count 0 x.gid)
    (and 0 (codes "realm") _ _ (text 0 x.realm)
    (last 0)))

grant_row_depth : (x : GrantRow) → Nests 1 (grant_row_data x)
grant_row_depth x =
    whole 0 _
    (and 0 (codes "delete") _ _ (flag 0 x.delete)
    (and 0 (codes "gid") _ _ (count 0 x.gid)
    (and 0 (codes "realm") _ _ (text 0 x.realm)
    (and 0 (codes "update") _ _ (flag 0 x.update)
    (and 0 (codes "view") _ _ (flag 0 x.view)
    (last 0))))))

field_depth : (x : FieldRow) → Nests 1 (field_data x)
field_depth x =
    whole 0 _
    (and 0 (codes "edit") _ _ (maybe 0 text_data (text 0) x.edit)
    (and 0 (codes "label") _ _ (text 0 x.label)
    (and 0 (codes "name") _ _ (text 0 x.name)
    (and 0 (codes "owner") _ _ (flag 0 x.owner)
    (and 0 (codes "teaser") _ _ (flag 0 x.teaser)
    (and 0 (codes "view") _ _ (maybe 0 text_data (text 0) x.view)
    (last 0)))))))

link_depth : (x : Link) → Nests 1 (link_data x)
link_depth x =
    whole 0 _
    (and 0 (codes "id") _ _ (text 0 x.id)
    (and 0 (codes "parent") _ _ (maybe 0 text_data (text 0) x.parent)
    (and 0 (codes "path") _ _ (text 0 x.path)
    (and 0 (codes "title") _ _ (text 0 x.title)
    (and 0 (codes "weight") _ _ (weight 0 x.weight)
    (last 0))))))

-- ---- rows

row_depth : (r : Row) → AllNest 2 (members_in (row_data r))
row_depth (row.Site x) =
    and 2 (codes "front") _ _ (text 2 x.front)
    (and 2 (codes "name") _ _ (text 2 x.name)
    (last 2))
row_depth (row.Seq x) =
    and 2 (codes "node") _ _ (count 2 x.node)
    (and 2 (codes "term") _ _ (count 2 x.term)
    (and 2 (codes "user") _ _ (count 2 x.user)
    (last 2)))
row_depth (row.NodeType x) =
    and 2 (codes "fields") _ _ (list 1 field_data field_depth x.fields)
    (and 2 (codes "label") _ _ (text 2 x.label)
    (and 2 (codes "submitted") _ _ (flag 2 x.submitted)
    (last 2)))
row_depth (row.Role x) =
    and 2 (codes "admin") _ _ (flag 2 x.admin)
    (and 2 (codes "grants") _ _ (list 1 grant_data grant_depth x.grants)
    (and 2 (codes "label") _ _ (text 2 x.label)
    (and 2 (codes "permissions") _ _ (list 1 text_data (text 1) x.permissions)
    (last 2))))
row_depth (row.User x) =
    and 2 (codes "created") _ _ (count 2 x.created)
    (and 2 (codes "digest") _ _ (maybe 2 text_data (text 2) x.digest)
    (and 2 (codes "grants") _ _ (list 1 grant_data grant_depth x.grants)
    (and 2 (codes "name") _ _ (text 2 x.name)
    (and 2 (codes "roles") _ _ (list 1 text_data (text 1) x.roles)
    (and 2 (codes "salt") _ _ (text 2 x.salt)
    (and 2 (codes "status") _ _ (flag 2 x.status)
    (and 2 (codes "uuid") _ _ (text 2 x.uuid)
    (last 2))))))))
row_depth (row.Term x) =
    and 2 (codes "description") _ _ (text 2 x.description)
    (and 2 (codes "name") _ _ (text 2 x.name)
    (and 2 (codes "parent") _ _ (maybe 2 whole_data (count 2) x.parent)
    (and 2 (codes "status") _ _ (flag 2 x.status)
    (and 2 (codes "uuid") _ _ (text 2 x.uuid)
    (last 2)))))
row_depth (row.Node x) =
    and 2 (codes "changed") _ _ (count 2 x.changed)
    (and 2 (codes "created") _ _ (count 2 x.created)
    (and 2 (codes "fields") _ _ (whole 1 (texts_data x.fields) (onto x.fields no_members 1 (last 1)))
    (and 2 (codes "grants") _ _ (list 1 grant_row_data grant_row_depth x.grants)
    (and 2 (codes "path") _ _ (maybe 2 text_data (text 2) x.path)
    (and 2 (codes "promote") _ _ (flag 2 x.promote)
    (and 2 (codes "refs") _ _ (list 1 whole_data (count 1) x.refs)
    (and 2 (codes "status") _ _ (flag 2 x.status)
    (and 2 (codes "sticky") _ _ (flag 2 x.sticky)
    (and 2 (codes "terms") _ _ (list 1 whole_data (count 1) x.terms)
    (and 2 (codes "title") _ _ (text 2 x.title)
    (and 2 (codes "type") _ _ (text 2 x.node_type)
    (and 2 (codes "uid") _ _ (count 2 x.uid)
    (and 2 (codes "uuid") _ _ (text 2 x.uuid)
    (and 2 (codes "vid") _ _ (count 2 x.vid)
    (last 2)))))))))))))))
row_depth (row.Menu x) =
    and 2 (codes "label") _ _ (text 2 x.label)
    (and 2 (codes "links") _ _ (list 1 link_data link_depth x.links)
    (last 2))
row_depth (row.Listing x) =
    and 2 (codes "age") _ _ (maybe 2 whole_data (count 2) x.age)
    (and 2 (codes "path") _ _ (maybe 2 text_data (text 2) x.path)
    (and 2 (codes "promoted") _ _ (flag 2 x.promoted)
    (and 2 (codes "recent") _ _ (maybe 2 whole_data (count 2) x.recent)
    (and 2 (codes "term") _ _ (maybe 2 whole_data (count 2) x.term)
    (and 2 (codes "title") _ _ (text 2 x.title)
    (and 2 (codes "types") _ _ (list 1 text_data (text 1) x.types)
    (last 2)))))))
row_depth (row.Block x) =
    and 2 (codes "age") _ _ (maybe 2 whole_data (count 2) x.age)
    (and 2 (codes "hide") _ _ (flag 2 x.hide)
    (and 2 (codes "kind") _ _ (kind 2 x.kind)
    (and 2 (codes "label") _ _ (text 2 x.label)
    (and 2 (codes "name") _ _ (maybe 2 text_data (text 2) x.name)
    (and 2 (codes "paths") _ _ (list 1 text_data (text 1) x.paths)
    (and 2 (codes "region") _ _ (region 2 x.region)
    (and 2 (codes "roles") _ _ (list 1 text_data (text 1) x.roles)
    (and 2 (codes "text") _ _ (maybe 2 text_data (text 2) x.text)
    (and 2 (codes "weight") _ _ (weight 2 x.weight)
    (last 2))))))))))
row_depth (row.Session x) =
    and 2 (codes "expires") _ _ (count 2 x.expires)
    (and 2 (codes "uid") _ _ (count 2 x.uid)
    (last 2))
row_depth (row.Comment x) =
    and 2 (codes "body") _ _ (text 2 x.body)
    (and 2 (codes "created") _ _ (count 2 x.created)
    (and 2 (codes "node") _ _ (count 2 x.node)
    (and 2 (codes "parent") _ _ (maybe 2 whole_data (count 2) x.parent)
    (and 2 (codes "status") _ _ (flag 2 x.status)
    (and 2 (codes "uid") _ _ (count 2 x.uid)
    (and 2 (codes "uuid") _ _ (text 2 x.uuid)
    (last 2)))))))
row_depth (row.Talk x) =
    and 2 (codes "comment") _ _ (count 2 x.comment)
    (last 2)

pub written_depth : (c : Cell) (r : Row) → depth (written c r) ≤ max_depth
written_depth c r =
    let nested = put_depth (codes "cell") (text_data (cell_text c)) (members_in (row_data r)) 2 (text 2 (cell_text c)).is (row_depth r).are in
    omega (arith, nested)
