-- The first rule that an object breaks, by a table of keys.
use Rattle.std.specs.Prelude.{ℕ, List, [], ◌∷◌, Bool, true, false, ◌&&◌, not, nat_le, nat_lt, ℤ, pos, negsuc, int_le, int_lt, Option, None, Some, is_none, map, option_map, if◌then◌else◌}
use Rattle.std.specs.Borrow.{Bor}
use Rattle.std.specs.Str.{bytes_eq}
use Rattle.serde_json.specs.Data.{Num, unsigned, negative, float, Data, null, boolean, number, string, array, object, Items, no_items, item, Members, no_members, member}
use Rattle.serde_json.specs.Find.{get}
use Rattle.serde_json.specs.Events.{items_len}
use Rattle.json_keys.specs.Form.{is_long, is_written, text_fault}
use Rattle.json_keys.specs.declared.shape.Form.TheVariants as form
use Rattle.json_keys.specs.declared.rule.Rule.{Rule}
use Rattle.json_keys.specs.declared.rule.Rule.TheVariants as rule
use Rattle.json_keys.specs.declared.shape.Plain.{Plain}
use Rattle.json_keys.specs.declared.shape.Plain.TheVariants as plain
use Rattle.json_keys.specs.declared.shape.Entry.{Entry}
use Rattle.json_keys.specs.declared.shape.Entry.TheVariants as entry
use Rattle.json_keys.specs.declared.shape.Shape.{Shape}
use Rattle.json_keys.specs.declared.shape.Shape.TheVariants as shape
use Rattle.json_keys.specs.declared.shape.Ask.{Ask}
use Rattle.json_keys.specs.declared.shape.Ask.TheVariants as ask
use Rattle.json_keys.specs.declared.shape.Columns.{Columns}
use Rattle.json_keys.specs.declared.shape.Columns.TheVariants as columns
use Rattle.json_keys.specs.declared.shape.TheConstants.{GRANT, GRANT_ROW, FIELD, LINK}

-- the first of two, where it is there
abbrev pub or_else : {X : Type 0} → Option X → Option X → Option X
or_else (Some x) other = Some x
or_else None other = other

-- a table of the code, with its names as texts
abbrev pub seen : {X : Type 0} → List (Bor (List ℕ) × X) → List (List ℕ × X)
seen table = map (λ k. (k.0.now, k.1)) table

-- what a table has under a name
abbrev pub named : {X : Type 0} → List (List ℕ × X) → List ℕ → Option X
named [] name = None
named (k ∷ ks) name = if bytes_eq k.0 name then Some k.1 else named ks name

-- ---- objects, by a table that has for each name what is asked of its value

-- a rule, with the key that breaks it
abbrev pub at_key : List ℕ → Option Rule → Option (List ℕ × Rule)
at_key k None = None
at_key k (Some r) = Some (k, r)

-- what the value of a key breaks, by what is asked of it: a key of which nothing is asked is unknown
abbrev pub asked_fault : {X : Type 0} → (X → Data → Option Rule) → Option X → Data → Option Rule
asked_fault fault None d = Some rule.Unknown
asked_fault fault (Some x) d = fault x d

-- the first rule that a member breaks, in the order of the members
abbrev pub members_fault : {X : Type 0} → (X → Data → Option Rule) → List (List ℕ × X) → Members → Option (List ℕ × Rule)
members_fault fault ks no_members = None
members_fault fault ks (member k d ms) = or_else (at_key k (asked_fault fault (named ks k) d)) (members_fault fault ks ms)

-- the first key of the table that is to be there and is not
abbrev pub missing_key : {X : Type 0} → (X → Bool) → List (List ℕ × X) → Data → Option (List ℕ × Rule)
missing_key wanted [] d = None
missing_key wanted (k ∷ ks) d = if wanted k.1 && is_none (get k.0 d) then Some (k.0, rule.Missing) else missing_key wanted ks d

abbrev pub members_in : Data → Members
members_in (object ms) = ms
members_in _ = no_members

-- the members in the order of their keys, then the keys that are missing, in the order of the table
abbrev pub object_fault : {X : Type 0} → (X → Data → Option Rule) → (X → Bool) → List (List ℕ × X) → Data → Option (List ℕ × Rule)
object_fault fault wanted ks d = or_else (members_fault fault ks (members_in d)) (missing_key wanted ks d)

-- ---- plain values

-- a number is of another kind where it is not held as a whole one
abbrev pub number_fault : ℕ → ℕ → Num → Option Rule
number_fault low high (unsigned n) = if nat_le low n && nat_le n high then None else Some rule.Range
number_fault low high (negative z) = Some rule.Range
number_fault low high (float x) = Some rule.Kind

abbrev pub is_low_weight : ℤ → Bool
is_low_weight z = int_le (negsuc 999) z && int_lt z (pos 0)

-- of a number below 0; none is no whole number
abbrev pub low_weight_fault : Option ℤ → Option Rule
low_weight_fault None = Some rule.Kind
low_weight_fault (Some z) = if is_low_weight z then None else Some rule.Range

abbrev pub weight_fault : Num → Option Rule
weight_fault (unsigned n) = if nat_le n 1000 then None else Some rule.Range
weight_fault (negative z) = low_weight_fault (Some z)
weight_fault (float x) = low_weight_fault None

abbrev pub plain_fault : Plain → Data → Option Rule
plain_fault plain.Flag (boolean b) = None
plain_fault (plain.Whole low high) (number n) = number_fault low high n
plain_fault plain.Weight (number n) = weight_fault n
plain_fault (plain.Text f) (string t) = text_fault f t
plain_fault _ _ = Some rule.Kind

abbrev pub entry_fault : Entry → Data → Option Rule
entry_fault (entry.NullOr p) null = None
entry_fault (entry.NullOr p) d = plain_fault p d
entry_fault (entry.One p) d = plain_fault p d

-- ---- lists

-- the first rule that a member of a list breaks
abbrev pub items_fault : (Data → Option Rule) → Items → Option Rule
items_fault fault no_items = None
items_fault fault (item d ds) = or_else (fault d) (items_fault fault ds)

-- a list of too many members, else what its members break
abbrev pub list_fault : ℕ → (Data → Option Rule) → Items → Option Rule
list_fault most fault ds = if nat_lt most (items_len ds) then Some rule.Many else items_fault fault ds

-- ---- objects in lists: each key is to be there

abbrev pub columns_of : Columns → List (List ℕ × Entry)
columns_of columns.Grant = map (λ k. (k.0.now, k.1)) GRANT
columns_of columns.GrantRow = map (λ k. (k.0.now, k.1)) GRANT_ROW
columns_of columns.Field = map (λ k. (k.0.now, k.1)) FIELD
columns_of columns.Link = map (λ k. (k.0.now, k.1)) LINK

abbrev pub always : {X : Type 0} → X → Bool
always x = true

abbrev pub row_fault : Columns → Data → Option Rule
row_fault cs (object ms) = option_map (λ f. f.1) (object_fault entry_fault always (columns_of cs) (object ms))
row_fault cs _ = Some rule.Kind

-- ---- texts by machine names

-- of the value and of the name: the kind, then the lengths, then the bytes
abbrev pub pair_fault : List ℕ → Data → Option Rule
pair_fault k (string t) =
    if not (is_long form.Name k && is_long form.Body t) then Some rule.Length else (if not (is_written form.Name k && is_written form.Body t) then Some rule.Bytes else None)
pair_fault k _ = Some rule.Kind

-- null, where it may stand for a text, is judged as an empty one
abbrev pub text_or : Bool → Data → Data
text_or true null = string []
text_or true d = d
text_or false d = d

abbrev pub pairs_fault : Bool → Members → Option Rule
pairs_fault nulls no_members = None
pairs_fault nulls (member k d ms) = or_else (pair_fault k (text_or nulls d)) (pairs_fault nulls ms)

-- ---- keys of a row

abbrev pub shape_fault : Shape → Data → Option Rule
shape_fault shape.Any d = None
shape_fault (shape.Of e) d = entry_fault e d
shape_fault (shape.Each most e) (array ds) = list_fault most (entry_fault e) ds
shape_fault (shape.Table most cs) (array ds) = list_fault most (row_fault cs) ds
shape_fault (shape.Texts nulls) (object ms) = pairs_fault nulls ms
shape_fault _ _ = Some rule.Kind

abbrev pub ask_fault : Ask → Data → Option Rule
ask_fault (ask.Must s) d = shape_fault s d
ask_fault (ask.May s) d = shape_fault s d

abbrev pub is_wanted : Ask → Bool
is_wanted (ask.Must s) = true
is_wanted (ask.May s) = false

-- The first rule that an object breaks, with its key. The keys that are there come first, in the order of their bytes,
-- each by its kind, then how many it has, its length, its bytes, its range and whether it is reserved, and then by what
-- is inside it alike; after them come the keys that are missing.
abbrev pub first_fault : List (List ℕ × Ask) → Data → Option (List ℕ × Rule)
first_fault ks d = object_fault ask_fault is_wanted ks d
