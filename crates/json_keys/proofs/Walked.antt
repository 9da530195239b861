-- The members of an object that is a map of values stand in the order of their keys.
use Rattle.std.proofs.Common.{◌≡◌, List, [], ◌∷◌, Less, String, Global, string_bytes, string_cmp, nat_cmp, BTreeMap}
use Rattle.std.specs.Cmp.Lexicographic.{slice_cmp}
use Rattle.std.specs.List.{AllByRecursion}
use Rattle.std.specs.List.Sorted.{IsStrictlySortedBy}
use Rattle.std.specs.Map.{keys_of}
use Rattle.serde_json.specs.View.{view, members_view}
use Rattle.serde_json.specs.declared.value.Value.{Value, Object}
use Rattle.serde_json.proofs.Views.{view-Object}
use Rattle.json_keys.specs.Order.{names_of, IsInOrder, AllInOrder, MembersInOrder}

all_above : (k : String Global) (es : List (String Global × Value)) → AllByRecursion (λ y. string_cmp k y ≡ Less) (keys_of es)
    → AllByRecursion (λ l. slice_cmp nat_cmp (string_bytes k) l ≡ Less) (names_of (members_view es))
all_above k [] h = tt
all_above k (e ∷ es) h = (h.0, all_above k es h.1)

in_order : (es : List (String Global × Value)) → IsStrictlySortedBy string_cmp (keys_of es) → IsInOrder (members_view es)
unfolding IsStrictlySortedBy
in_order [] h = tt
in_order (e ∷ es) h = (all_above e.0 es h.0, in_order es h.1)

pub object_in_order : (m : BTreeMap (String Global) Value) → IsStrictlySortedBy string_cmp (keys_of m.entries) → MembersInOrder (members_view m.entries) → AllInOrder (view (Object m))
object_in_order m h inside = rw (view-Object m) (in_order m.entries h, inside)
