-- The JSON of a row has no number with a point, and nests little.
use Rattle.std.proofs.Common.{◌≡◌, ◌≤◌, ◌||◌, ℕ, suc, ℤ, pos, negsuc, List, [], ◌∷◌, Bool, true, false, cond, Option, Some, None, codes, map, refl, ap, ◌∙◌, arith}
use Rattle.std.proofs.lemmas.Bool.{or_parts}
use Rattle.std.specs.Cmp.Lexicographic.{slice_cmp}
use Rattle.std.specs.Ordering.{nat_cmp, match_ordering}
use Rattle.std.specs.Str.{is_utf8}
use Rattle.std.specs.declared.cmp.Ordering.{Ordering}
use Rattle.std.specs.declared.cmp.Ordering.TheVariants.{Less, Equal, Greater}
use Rattle.serde_json.specs.Data.{Data, null, boolean, string, array, object, Items, Members, no_members, member, put, depth, items_depth, members_depth}
use Rattle.serde_json.specs.View.{items_of}
use Rattle.serde_json.specs.Written.{has_float, items_have_float, members_have_float}
use Rattle.content_rows.specs.CellText.{cell_text}
use Rattle.content_rows.specs.declared.cell.Cell.{Cell}
use Rattle.content_rows.specs.declared.row.FieldRow.{FieldRow}
use Rattle.content_rows.specs.declared.row.FieldValue.{FieldValue}
use Rattle.content_rows.specs.declared.row.Grant.{Grant}
use Rattle.content_rows.specs.declared.row.GrantRow.{GrantRow}
use Rattle.content_rows.specs.declared.row.Link.{Link}
use Rattle.content_rows.specs.declared.row.Row.{Row}
use Rattle.content_rows.specs.declared.row.Row.TheVariants as row
use Rattle.json_keys.specs.Fault.{members_in}
use Rattle.row_json.specs.Reading.{row_data, written}
use Rattle.row_kinds.specs.Look.{text_data, whole_data, weight_data, option_data, items_data, texts_onto}
use Rattle.row_kinds.specs.Rows.{grant_data, grant_row_data, field_data, link_data}

record IsPlain (k : ℕ) (d : Data) : Type 0 where
  float : has_float d ≡ false
  deep : depth d ≤ k

record ArePlainItems (k : ℕ) (ds : Items) : Type 0 where
  float : items_have_float ds ≡ false
  deep : items_depth ds ≤ k

record ArePlain (k : ℕ) (ms : Members) : Type 0 where
  float : members_have_float ms ≡ false
  deep : members_depth ms ≤ k

-- ---- objects

none : {k : ℕ} → ArePlain k no_members
none {k} = record { float = refl; deep = omega arith }

and : {k : ℕ} {key : List ℕ} {d : Data} {ms : Members} → IsPlain k d → ArePlain k ms → ArePlain k (member key d ms)
and {k} {key} {d} {ms} one others = record {
  float = ap (λ b. b || members_have_float ms) one.float ∙ others.float;
  deep = omega (arith, one.deep, others.deep);
}

first : {k : ℕ} {key : List ℕ} {d : Data} {ms : Members} → ArePlain k (member key d ms) → IsPlain k d
first {k} {key} {d} {ms} all = record { float = (or_parts (has_float d) (members_have_float ms) all.float).0; deep = omega (arith, all.deep) }

rest : {k : ℕ} {key : List ℕ} {d : Data} {ms : Members} → ArePlain k (member key d ms) → ArePlain k ms
rest {k} {key} {d} {ms} all = record { float = (or_parts (has_float d) (members_have_float ms) all.float).1; deep = omega (arith, all.deep) }

by_order : {k : ℕ} (o : Ordering) {a b c : Members} → ArePlain k a → ArePlain k b → ArePlain k c → ArePlain k (match_ordering o a b c)
by_order Less a b c = a
by_order Equal a b c = b
by_order Greater a b c = c

put_plain : {k : ℕ} (key : List ℕ) (d : Data) (ms : Members) → IsPlain k d → ArePlain k ms → ArePlain k (put key d ms)
put_plain key d no_members one all = and one none
put_plain key d (member l e ms) one all =
    by_order (slice_cmp nat_cmp key l) (and one all) (and one (rest all)) (and (first all) (put_plain key d ms one (rest all)))

object_plain : {k : ℕ} {ms : Members} → ArePlain k ms → IsPlain (suc k) (object ms)
object_plain {k} {ms} all = record { float = all.float; deep = omega (arith, all.deep) }

-- ---- values

flag : {k : ℕ} {b : Bool} → IsPlain k (boolean b)
flag {k} {b} = record { float = refl; deep = omega arith }

words : {k : ℕ} {t : List ℕ} → IsPlain k (string t)
words {k} {t} = record { float = refl; deep = omega arith }

whole : {k : ℕ} (n : ℕ) → IsPlain k (whole_data n)
whole {k} n = record { float = refl; deep = omega arith }

weight : {k : ℕ} (z : ℤ) → IsPlain k (weight_data z)
weight {k} (pos n) = record { float = refl; deep = omega arith }
weight {k} (negsuc n) = record { float = refl; deep = omega arith }

nothing : {k : ℕ} → IsPlain k null
nothing {k} = record { float = refl; deep = omega arith }

text_by : {k : ℕ} (b : Bool) (t : List ℕ) → IsPlain k (cond b (string t) null)
text_by true t = words
text_by false t = nothing

text : {k : ℕ} (t : List ℕ) → IsPlain k (text_data t)
text t = text_by (is_utf8 t) t

maybe : {X : Type 0} {k : ℕ} (shown : X → Data) → ((x : X) → IsPlain k (shown x)) → (o : Option X) → IsPlain k (option_data shown o)
maybe shown each None = nothing
maybe shown each (Some x) = each x

items : {X : Type 0} {k : ℕ} (shown : X → Data) → ((x : X) → IsPlain k (shown x)) → (xs : List X) → ArePlainItems k (items_of (map shown xs))
items {X} {k} shown each [] = record { float = refl; deep = omega arith }
items {X} {k} shown each (x ∷ xs) =
    let one = each x in
    let others = items shown each xs in record {
      float = ap (λ b. b || items_have_float (items_of (map shown xs))) one.float ∙ others.float;
      deep = omega (arith, one.deep, others.deep);
    }

list : {X : Type 0} {k : ℕ} (shown : X → Data) → ((x : X) → IsPlain k (shown x)) → (xs : List X) → IsPlain (suc k) (array (items_data shown xs))
list {X} {k} shown each xs = let all = items shown each xs in record { float = all.float; deep = omega (arith, all.deep) }

texts_plain : {k : ℕ} (fs : List FieldValue) (ms : Members) → ArePlain k ms → ArePlain k (texts_onto fs ms)
texts_plain [] ms all = all
texts_plain (f ∷ fs) ms all = texts_plain fs (put f.name (text_data f.value) ms) (put_plain f.name (text_data f.value) ms (text f.value) all)

-- ---- rows

grant : (x : Grant) → IsPlain 2 (grant_data x)
grant x = object_plain (and (whole x.gid) (and (text x.realm) none))

grant_row : (x : GrantRow) → IsPlain 2 (grant_row_data x)
grant_row x = object_plain (and flag (and (whole x.gid) (and (text x.realm) (and flag (and flag none)))))

field : (x : FieldRow) → IsPlain 2 (field_data x)
field x =
    object_plain (and (maybe text_data text x.edit) (and (text x.label) (and (text x.name) (and flag (and flag (and (maybe text_data text x.view) none))))))

link : (x : Link) → IsPlain 2 (link_data x)
link x = object_plain (and (text x.id) (and (maybe text_data text x.parent) (and (text x.path) (and (text x.title) (and (weight x.weight) none)))))

row_plain : (r : Row) → ArePlain 3 (members_in (row_data r))
row_plain (row.Site r) = and (text r.front) (and (text r.name) none)
row_plain (row.Seq r) = and (whole r.node) (and (whole r.term) (and (whole r.user) none))
row_plain (row.NodeType r) = and (list field_data field r.fields) (and (text r.label) (and flag none))
row_plain (row.Role r) = and flag (and (list grant_data grant r.grants) (and (text r.label) (and (list text_data text r.permissions) none)))
row_plain (row.User r) =
    and (whole r.created) (and (maybe text_data text r.digest) (and (list grant_data grant r.grants) (and (text r.name) (and (list text_data text r.roles) (and (text r.salt) (and flag (and (text r.uuid) none)))))))
row_plain (row.Term r) = and (text r.description) (and (text r.name) (and (maybe whole_data whole r.parent) (and flag (and (text r.uuid) none))))
row_plain (row.Node r) =
    and (whole r.changed) (and (whole r.created) (and (object_plain (texts_plain r.fields no_members none)) (and (list grant_row_data grant_row r.grants) (and (maybe text_data text r.path)
    (and flag (and (list whole_data whole r.refs) (and flag (and flag (and (list whole_data whole r.terms) (and (text r.title) (and (text r.node_type) (and (whole r.uid) (and (text r.uuid) (and (whole r.vid) none))))))))))))))
row_plain (row.Menu r) = and (text r.label) (and (list link_data link r.links) none)
row_plain (row.Listing r) =
    and (maybe whole_data whole r.age) (and (maybe text_data text r.path) (and flag (and (maybe whole_data whole r.recent) (and (maybe whole_data whole r.term) (and (text r.title) (and (list text_data text r.types) none))))))
row_plain (row.Block r) =
    and (maybe whole_data whole r.age) (and flag (and words (and (text r.label) (and (maybe text_data text r.name) (and (list text_data text r.paths) (and words (and (list text_data text r.roles) (and (maybe text_data text r.text) (and (weight r.weight) none)))))))))
row_plain (row.Session r) = and (whole r.expires) (and (whole r.uid) none)
row_plain (row.Comment r) =
    and (text r.body) (and (whole r.created) (and (whole r.node) (and (maybe whole_data whole r.parent) (and flag (and (whole r.uid) (and (text r.uuid) none))))))
row_plain (row.Talk r) = and (whole r.comment) none

written_plain : (c : Cell) (r : Row) → IsPlain 4 (written c r)
written_plain c r = object_plain (put_plain (codes "cell") (text_data (cell_text c)) (members_in (row_data r)) (text (cell_text c)) (row_plain r))

pub no_float : (c : Cell) (r : Row) → has_float (written c r) ≡ false
no_float c r = (written_plain c r).float

pub shallow : (c : Cell) (r : Row) → depth (written c r) ≤ 127
shallow c r = omega (arith, (written_plain c r).deep)
