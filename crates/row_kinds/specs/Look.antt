-- What is read of every value, and what is written. A value of another kind reads as something too, which no table of
-- keys lets through.
use Rattle.std.specs.Prelude.{ℕ, List, [], ◌∷◌, Bool, false, ◌<◌, ℤ, pos, Option, None, Some, nat_le, nat_lt, if◌then◌else◌, codes, unwrap_or, map, IsTrue}
use Rattle.std.specs.Str.{is_utf8, bytes_eq}
use Rattle.serde_json.specs.View.{items_of}
use Rattle.serde_json.specs.Data.{Num, unsigned, negative, float, Data, null, boolean, number, string, array, object, Items, no_items, item, Members, no_members, member, put}
use Rattle.serde_json.specs.Find.{get, of_integer}
use Rattle.content_rows.specs.LiteralName.{is_name}
use Rattle.content_rows.specs.declared.row.FieldValue.{FieldValue}
use Rattle.content_rows.specs.declared.row.BlockKind.{BlockKind}
use Rattle.content_rows.specs.declared.row.BlockKind.TheVariants as kind
use Rattle.content_rows.specs.declared.row.Region.{Region}
use Rattle.content_rows.specs.declared.row.Region.TheVariants as region
use Rattle.json_keys.specs.Fault.{is_low_weight, members_in}

-- a key that is not there reads as null does
abbrev pub value_at : List ℕ → Data → Data
value_at k d = unwrap_or (get k d) null

-- ---- read

abbrev pub flag_in : Data → Bool
flag_in (boolean b) = b
flag_in _ = false

abbrev pub number_in : Data → ℕ
number_in (number (unsigned n)) = n
number_in _ = 0

-- a number of 32 bits
abbrev pub small_in : Data → ℕ
small_in d = if nat_lt (number_in d) 4294967296 then number_in d else 0

abbrev pub low_weight_in : Option ℤ → ℤ
low_weight_in None = pos 0
low_weight_in (Some z) = if is_low_weight z then z else pos 0

abbrev pub weight_of : Num → ℤ
weight_of (unsigned n) = if nat_le n 1000 then pos n else pos 0
weight_of (negative z) = low_weight_in (Some z)
weight_of (float x) = low_weight_in None

abbrev pub weight_in : Data → ℤ
weight_in (number n) = weight_of n
weight_in _ = pos 0

abbrev pub text_in : Data → List ℕ
text_in (string t) = t
text_in _ = []

abbrev pub name_or_blank : List ℕ → List ℕ
name_or_blank t = if is_name t then t else codes "_"

abbrev pub name_in : Data → List ℕ
name_in d = name_or_blank (text_in d)

abbrev pub kind_of : List ℕ → BlockKind
kind_of t =
    if bytes_eq t (codes "menu") then kind.Menu
    else if bytes_eq t (codes "listing") then kind.Listing
    else if bytes_eq t (codes "greeting") then kind.Greeting
    else if bytes_eq t (codes "csrf") then kind.Csrf
    else if bytes_eq t (codes "clock") then kind.Clock
    else kind.Text

abbrev pub kind_in : Data → BlockKind
kind_in d = kind_of (text_in d)

abbrev pub region_of : List ℕ → Region
region_of t = if bytes_eq t (codes "aside") then region.Aside else if bytes_eq t (codes "footer") then region.Footer else region.Header

abbrev pub region_in : Data → Region
region_in d = region_of (text_in d)

abbrev pub option_in : {X : Type 0} → (Data → X) → Data → Option X
option_in of null = None
option_in of d = Some (of d)

abbrev pub items_in : Data → Items
items_in (array ds) = ds
items_in _ = no_items

abbrev pub list_in : {X : Type 0} → (Data → X) → Items → List X
list_in of no_items = []
list_in of (item d ds) = of d ∷ list_in of ds

-- texts by machine names
abbrev pub texts_in : Members → List FieldValue
texts_in no_members = []
texts_in (member k d ms) = record { name = name_or_blank k; value = text_in d } ∷ texts_in ms

-- ---- written

abbrev pub whole_data : ℕ → Data
whole_data n = number (unsigned n)

abbrev pub weight_data : ℤ → Data
weight_data z = number (of_integer z)

-- JSON has no text that is not UTF-8
abbrev pub text_data : List ℕ → Data
text_data t = if is_utf8 t then string t else null

abbrev pub kind_word : BlockKind → List ℕ
kind_word kind.Text = codes "text"
kind_word kind.Menu = codes "menu"
kind_word kind.Listing = codes "listing"
kind_word kind.Greeting = codes "greeting"
kind_word kind.Csrf = codes "csrf"
kind_word kind.Clock = codes "clock"

abbrev pub kind_data : BlockKind → Data
kind_data k = string (kind_word k)

abbrev pub region_word : Region → List ℕ
region_word region.Header = codes "header"
region_word region.Aside = codes "aside"
region_word region.Footer = codes "footer"

abbrev pub region_data : Region → Data
region_data r = string (region_word r)

abbrev pub option_data : {X : Type 0} → (X → Data) → Option X → Data
option_data shown None = null
option_data shown (Some x) = shown x

abbrev pub items_data : {X : Type 0} → (X → Data) → List X → Items
items_data shown xs = items_of (map shown xs)

-- each text at its name, onto what is there
abbrev pub texts_onto : List FieldValue → Members → Members
texts_onto [] ms = ms
texts_onto (f ∷ fs) ms = texts_onto fs (put f.name (text_data f.value) ms)

abbrev pub texts_data : List FieldValue → Members
texts_data fs = texts_onto fs no_members

-- ---- what types say of their values

abbrev pub nothing_said : {X : Type 0} → X → Type 0
nothing_said x = Unit {0}

abbrev pub IsSmall : ℕ → Type 0
IsSmall n = n < 4294967296

abbrev pub IsNameText : List ℕ → Type 0
IsNameText t = IsTrue (is_name t)

abbrev pub IsTypedText : FieldValue → Type 0
IsTypedText f = IsTrue (is_name f.name)

abbrev pub OrNone : {X : Type 0} → (X → Type 0) → Option X → Type 0
OrNone P None = Unit {0}
OrNone P (Some x) = P x

-- ---- with its cell

-- an object with its cell
abbrev pub with_cell : {X : Type 0} → Data → (X → Data) → X → Data
with_cell cell shown x = object (put (codes "cell") cell (members_in (shown x)))
