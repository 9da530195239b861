-- What is kept of an object: as much as decides what any edit makes of it.
use Rattle.std.specs.Prelude.{ℕ, zero, suc, List, Bool, true, Option, None, Some, if◌then◌else◌, codes}
use Rattle.std.specs.Cmp.Lexicographic.{slice_cmp}
use Rattle.std.specs.Ordering.{nat_cmp, is_lt}
use Rattle.std.specs.Str.{bytes_eq}
use Rattle.serde_json.specs.Data.{Data, null, array, object, Items, no_items, item, Members, no_members, member, put}
use Rattle.sent_objects.specs.Keys.{is_key, is_column}

-- ---- values, by what is kept of those inside them

abbrev pub inside : (Items → Items) → (Members → Members) → Data → Data
inside of_array of_object (array ds) = array (of_array ds)
inside of_array of_object (object ms) = object (of_object ms)
inside of_array of_object d = d

abbrev pub flat_items : Items → Items
flat_items ds = no_items

abbrev pub flat_members : Members → Members
flat_members ms = no_members

-- a list or an object where none belongs: its kind alone matters
abbrev pub flat : Data → Data
flat d = inside flat_items flat_members d

-- ---- members

-- a list or an object where none belongs, at any key
abbrev pub flat_at : List ℕ → Data → Data
flat_at k d = flat d

-- those whose keys are known
abbrev pub known_members : (List ℕ → Bool) → (List ℕ → Data → Data) → Members → Members
known_members known brief no_members = no_members
known_members known brief (member k d ms) = if known k then member k (brief k d) (known_members known brief ms) else known_members known brief ms

-- In the order of their keys: those whose keys are known, and the first of the others. What this one's value is does not
-- matter, and of the others it alone is told.
abbrev pub kept : (List ℕ → Bool) → (List ℕ → Data → Data) → Members → Members
kept known brief no_members = no_members
kept known brief (member k d ms) = if known k then member k (brief k d) (kept known brief ms) else member k null (known_members known brief ms)

-- the first that is not known
abbrev pub first_unknown : (List ℕ → Bool) → Members → Option (List ℕ)
first_unknown known no_members = None
first_unknown known (member k d ms) = if known k then first_unknown known ms else Some k

-- members with a name, where there is one
abbrev pub with_least : Option (List ℕ) → Members → Members
with_least None ms = ms
with_least (Some k) ms = put k null ms

-- the lower of two names
abbrev pub lower : Option (List ℕ) → List ℕ → List ℕ
lower None k = k
lower (Some l) k = if is_lt (slice_cmp nat_cmp l k) then l else k

abbrev pub every : List ℕ → Bool
every k = true

-- ---- objects

-- the members of an object that stands in a list
abbrev pub column_members : Members → Members
column_members ms = kept is_column flat_at ms

-- an item of a list
abbrev pub in_list : Data → Data
in_list d = inside flat_items column_members d

abbrev pub first_so_many : ℕ → Items → Items
first_so_many zero ds = no_items
first_so_many (suc n) no_items = no_items
first_so_many (suc n) (item d ds) = item (in_list d) (first_so_many n ds)

-- one more than any list may have
abbrev pub most : ℕ
most = 257

abbrev pub first_items : Items → Items
first_items ds = first_so_many most ds

-- texts by names
abbrev pub pairs : Members → Members
pairs ms = kept every flat_at ms

-- the one key below which an object belongs
abbrev pub has_pairs : List ℕ → Bool
has_pairs k = bytes_eq k (codes "fields")

abbrev pub pairs_at : List ℕ → Members → Members
pairs_at k ms = if has_pairs k then pairs ms else no_members

-- the value of a key
abbrev pub whole : List ℕ → Data → Data
whole k d = inside first_items (pairs_at k) d

abbrev pub brief_members : Members → Members
brief_members ms = kept is_key whole ms

abbrev pub brief : Data → Data
brief (object ms) = object (brief_members ms)
brief d = d
