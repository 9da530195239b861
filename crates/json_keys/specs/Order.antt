-- Objects whose members stand in the order of their keys, as those of every value do that was read.
use Rattle.std.specs.Prelude.{ℕ, List, [], ◌∷◌}
use Rattle.std.specs.Cmp.Lexicographic.{slice_cmp}
use Rattle.std.specs.List.Sorted.{IsStrictlySortedBy}
use Rattle.std.specs.Ordering.{nat_cmp}
use Rattle.serde_json.specs.Data.{Data, null, boolean, number, string, array, object, Items, no_items, item, Members, no_members, member}

abbrev pub names_of : Members → List (List ℕ)
names_of no_members = []
names_of (member k d ms) = k ∷ names_of ms

abbrev pub IsInOrder : Members → Type 0
IsInOrder ms = IsStrictlySortedBy (slice_cmp nat_cmp) (names_of ms)

-- the same of all objects inside
abbrev mutual
  pub AllInOrder : Data → Type 0
  AllInOrder null = Unit {0}
  AllInOrder (boolean b) = Unit {0}
  AllInOrder (number n) = Unit {0}
  AllInOrder (string s) = Unit {0}
  AllInOrder (array ds) = ItemsInOrder ds
  AllInOrder (object ms) = IsInOrder ms × MembersInOrder ms

  pub ItemsInOrder : Items → Type 0
  ItemsInOrder no_items = Unit {0}
  ItemsInOrder (item d ds) = AllInOrder d × ItemsInOrder ds

  pub MembersInOrder : Members → Type 0
  MembersInOrder no_members = Unit {0}
  MembersInOrder (member k d ms) = AllInOrder d × MembersInOrder ms
