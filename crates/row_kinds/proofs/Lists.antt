-- Values that may be null, lists of values, and lists of objects.
use Rattle.std.proofs.Common.{◌≡◌, ◌≤◌, ℕ, suc, List, [], ◌∷◌, length, Bool, true, false, cond, Option, Some, None, refl, sym, ap, subst, ◌∙◌, arith, IsTrue}
use Rattle.std.specs.Prelude.{nat_lt, All}
use Rattle.std.specs.List.{AllByRecursion, list_all}
use Rattle.std.specs.Option.{ForSome}
use Rattle.std.proofs.lemmas.Bool.{and_parts, ltb-false, le-ltb}
use Rattle.std.proofs.lemmas.List.Elements.{All-head, All-tail, All-cons, All-nil}
use Rattle.serde_json.specs.Data.{Data, null, boolean, number, string, array, object, Items, no_items, item}
use Rattle.serde_json.specs.Events.{items_len}
use Rattle.content_rows.specs.Kinds.{none_or}
use Rattle.json_keys.specs.Fault.{plain_fault, entry_fault, items_fault, list_fault, row_fault, shape_fault}
use Rattle.json_keys.specs.Order.{AllInOrder, ItemsInOrder}
use Rattle.json_keys.specs.declared.rule.Rule.{Rule}
use Rattle.json_keys.specs.declared.rule.Rule.TheVariants as rule
use Rattle.json_keys.specs.declared.shape.Plain.{Plain}
use Rattle.json_keys.specs.declared.shape.Plain.TheVariants as plain
use Rattle.json_keys.specs.declared.shape.Entry.{Entry}
use Rattle.json_keys.specs.declared.shape.Entry.TheVariants as entry
use Rattle.json_keys.specs.declared.shape.Columns.{Columns}
use Rattle.json_keys.specs.declared.shape.Shape.TheVariants as shape
use Rattle.json_keys.proofs.Held.{neither}
use Rattle.row_kinds.specs.Look.{option_in, option_data, items_in, list_in, items_data, OrNone}
use Rattle.row_kinds.proofs.Codec.{Codec, Back}

-- ---- values that may be null

no_null : (p : Plain) → plain_fault p null ≡ Some rule.Kind
no_null plain.Flag = refl
no_null (plain.Whole low high) = refl
no_null plain.Weight = refl
no_null (plain.Text f) = refl

value_fine : {X : Type 0} (p : Plain) (of : Data → X) (d : Data) → plain_fault p d ≡ None → (entry_fault (entry.NullOr p) d ≡ None) × (option_in of d ≡ Some (of d))
value_fine p of null h = let kind = no_null p in absurd cc
value_fine p of (boolean b) h = (h, refl)
value_fine p of (number n) h = (h, refl)
value_fine p of (string t) h = (h, refl)
value_fine p of (array ds) h = (h, refl)
value_fine p of (object ms) h = (h, refl)

null_right : {X : Type 0} (p : Plain) (of : Data → X) (shown : X → Data) (Good : X → Type 0) → Codec X (plain_fault p) of shown Good → (d : Data) → AllInOrder d → entry_fault (entry.NullOr p) d ≡ None
    → OrNone Good (option_in of d)
null_right p of shown Good c null o h = tt
null_right p of shown Good c (boolean b) o h = c.right (boolean b) o h
null_right p of shown Good c (number n) o h = c.right (number n) o h
null_right p of shown Good c (string t) o h = c.right (string t) o h
null_right p of shown Good c (array ds) o h = c.right (array ds) o h
null_right p of shown Good c (object ms) o h = c.right (object ms) o h

null_back : {X : Type 0} (p : Plain) (of : Data → X) (shown : X → Data) (Good : X → Type 0) → Codec X (plain_fault p) of shown Good → (v : Option X) → OrNone Good v
    → Back (entry_fault (entry.NullOr p)) (option_in of) (option_data shown) v
null_back p of shown Good c None g = (refl, refl)
null_back p of shown Good c (Some x) g =
    let back = c.back x g in
    let fine = value_fine p of (shown x) back.0 in (fine.0, fine.1 ∙ ap Some back.1)

null_kept : {X : Type 0} (p : Plain) (of : Data → X) (shown : X → Data) (Good : X → Type 0) → Codec X (plain_fault p) of shown Good → (d : Data) → AllInOrder d → entry_fault (entry.NullOr p) d ≡ None
    → option_data shown (option_in of d) ≡ d
null_kept p of shown Good c null o h = refl
null_kept p of shown Good c (boolean b) o h = c.kept (boolean b) o h
null_kept p of shown Good c (number n) o h = c.kept (number n) o h
null_kept p of shown Good c (string t) o h = c.kept (string t) o h
null_kept p of shown Good c (array ds) o h = c.kept (array ds) o h
null_kept p of shown Good c (object ms) o h = c.kept (object ms) o h

pub null_or : {X : Type 0} {of : Data → X} {shown : X → Data} {Good : X → Type 0} (p : Plain) → Codec X (plain_fault p) of shown Good
    → Codec (Option X) (entry_fault (entry.NullOr p)) (option_in of) (option_data shown) (OrNone Good)
null_or {X} {of} {shown} {Good} p c = record { right = null_right p of shown Good c; back = null_back p of shown Good c; kept = null_kept p of shown Good c }

-- ---- lists

abbrev pub IsListOf : {X : Type 0} → ℕ → (X → Type 0) → List X → Type 0
IsListOf most Good xs = (length xs ≤ most) × AllByRecursion Good xs

list_length : {X : Type 0} (of : Data → X) (ds : Items) → length (list_in of ds) ≡ items_len ds
list_length of no_items = refl
list_length of (item d ds) = ap suc (list_length of ds)

items_count : {X : Type 0} (shown : X → Data) (xs : List X) → items_len (items_data shown xs) ≡ length xs
items_count shown [] = refl
items_count shown (x ∷ xs) = ap suc (items_count shown xs)

few : {X : Type 0} (b : Bool) (x : X) (o : Option X) → cond b (Some x) o ≡ None → (b ≡ false) × (o ≡ None)
few true x o h = absurd cc
few false x o h = (refl, h)

-- few members, each let through
list_passed : (most : ℕ) (fault : Data → Option Rule) (ds : Items) → list_fault most fault ds ≡ None → (items_len ds ≤ most) × (items_fault fault ds ≡ None)
list_passed most fault ds h =
    let both = few (nat_lt most (items_len ds)) rule.Many (items_fault fault ds) h in
    (ltb-false most (items_len ds) both.0, both.1)

items_right : {X : Type 0} (fault : Data → Option Rule) (of : Data → X) (shown : X → Data) (Good : X → Type 0) → Codec X fault of shown Good → (ds : Items) → ItemsInOrder ds → items_fault fault ds ≡ None
    → AllByRecursion Good (list_in of ds)
items_right fault of shown Good c no_items o h = tt
items_right fault of shown Good c (item d ds) o h =
    let both = neither (fault d) (items_fault fault ds) h in
    (c.right d o.0 both.0, items_right fault of shown Good c ds o.1 both.1)

items_kept : {X : Type 0} (fault : Data → Option Rule) (of : Data → X) (shown : X → Data) (Good : X → Type 0) → Codec X fault of shown Good → (ds : Items) → ItemsInOrder ds → items_fault fault ds ≡ None
    → items_data shown (list_in of ds) ≡ ds
items_kept fault of shown Good c no_items o h = refl
items_kept fault of shown Good c (item d ds) o h =
    let both = neither (fault d) (items_fault fault ds) h in
    rw (c.kept d o.0 both.0, items_kept fault of shown Good c ds o.1 both.1) refl

items_back : {X : Type 0} (fault : Data → Option Rule) (of : Data → X) (shown : X → Data) (Good : X → Type 0) → Codec X fault of shown Good → (xs : List X) → AllByRecursion Good xs
    → (items_fault fault (items_data shown xs) ≡ None) × (list_in of (items_data shown xs) ≡ xs)
items_back fault of shown Good c [] g = (refl, refl)
items_back fault of shown Good c (x ∷ xs) g =
    let one = c.back x g.0 in
    let more = items_back fault of shown Good c xs g.1 in
    (rw one.0 more.0, rw (one.1, more.1) refl)

-- a value that is let through is an array of at most so many members, each let through
abbrev IsOfList : ℕ → (Data → Option Rule) → (Data → Option Rule) → Type 0
IsOfList most fault whole =
    ((ds : Items) → whole (array ds) ≡ list_fault most fault ds) × ((d : Data) → whole d ≡ None → (ds : Items) × (d ≡ array ds))

list_right : {X : Type 0} (most : ℕ) (fault whole : Data → Option Rule) (of : Data → X) (shown : X → Data) (Good : X → Type 0) → Codec X fault of shown Good → IsOfList most fault whole
    → (d : Data) → AllInOrder d → whole d ≡ None → IsListOf most Good (list_in of (items_in d))
list_right most fault whole of shown Good c is d o h =
    let (ds, same) = is.1 d h in
    subst (λ (d : Data). AllInOrder d → whole d ≡ None → IsListOf most Good (list_in of (items_in d))) (sym same)
    (λ o h. let passed = list_passed most fault ds (sym (is.0 ds) ∙ h) in (omega (arith, list_length of ds, passed.0), items_right fault of shown Good c ds o passed.1)) o h

list_kept : {X : Type 0} (most : ℕ) (fault whole : Data → Option Rule) (of : Data → X) (shown : X → Data) (Good : X → Type 0) → Codec X fault of shown Good → IsOfList most fault whole
    → (d : Data) → AllInOrder d → whole d ≡ None → array (items_data shown (list_in of (items_in d))) ≡ d
list_kept most fault whole of shown Good c is d o h =
    let (ds, same) = is.1 d h in
    subst (λ (d : Data). AllInOrder d → whole d ≡ None → array (items_data shown (list_in of (items_in d))) ≡ d) (sym same)
    (λ o h. ap array (items_kept fault of shown Good c ds o (list_passed most fault ds (sym (is.0 ds) ∙ h)).1)) o h

list_back : {X : Type 0} (most : ℕ) (fault whole : Data → Option Rule) (of : Data → X) (shown : X → Data) (Good : X → Type 0) → Codec X fault of shown Good → IsOfList most fault whole
    → (xs : List X) → IsListOf most Good xs → Back whole (λ d. list_in of (items_in d)) (λ xs. array (items_data shown xs)) xs
list_back most fault whole of shown Good c is xs g =
    let more = items_back fault of shown Good c xs g.1 in
    let enough : nat_lt most (items_len (items_data shown xs)) ≡ false = le-ltb most (items_len (items_data shown xs)) (omega (arith, items_count shown xs, g.0)) in
    (is.0 (items_data shown xs) ∙ rw enough more.0, more.1)

list : {X : Type 0} {of : Data → X} {shown : X → Data} {Good : X → Type 0} (most : ℕ) (fault whole : Data → Option Rule) → Codec X fault of shown Good → IsOfList most fault whole
    → Codec (List X) whole (λ d. list_in of (items_in d)) (λ xs. array (items_data shown xs)) (IsListOf most Good)
list {X} {of} {shown} {Good} most fault whole c is = record {
  right = list_right most fault whole of shown Good c is;
  back = list_back most fault whole of shown Good c is;
  kept = list_kept most fault whole of shown Good c is;
}

is_array_each : (most : ℕ) (e : Entry) (d : Data) → shape_fault (shape.Each most e) d ≡ None → (ds : Items) × (d ≡ array ds)
is_array_each most e (array ds) h = (ds, refl)
is_array_each most e null h = absurd cc
is_array_each most e (boolean b) h = absurd cc
is_array_each most e (number n) h = absurd cc
is_array_each most e (string s) h = absurd cc
is_array_each most e (object ms) h = absurd cc

is_array_table : (most : ℕ) (cs : Columns) (d : Data) → shape_fault (shape.Table most cs) d ≡ None → (ds : Items) × (d ≡ array ds)
is_array_table most cs (array ds) h = (ds, refl)
is_array_table most cs null h = absurd cc
is_array_table most cs (boolean b) h = absurd cc
is_array_table most cs (number n) h = absurd cc
is_array_table most cs (string s) h = absurd cc
is_array_table most cs (object ms) h = absurd cc

pub each : {X : Type 0} {of : Data → X} {shown : X → Data} {Good : X → Type 0} (most : ℕ) (e : Entry) → Codec X (entry_fault e) of shown Good
    → Codec (List X) (shape_fault (shape.Each most e)) (λ d. list_in of (items_in d)) (λ xs. array (items_data shown xs)) (IsListOf most Good)
each most e c = list most (entry_fault e) (shape_fault (shape.Each most e)) c (λ ds. refl, is_array_each most e)

pub table : {X : Type 0} {of : Data → X} {shown : X → Data} {Good : X → Type 0} (most : ℕ) (cs : Columns) → Codec X (row_fault cs) of shown Good
    → Codec (List X) (shape_fault (shape.Table most cs)) (λ d. list_in of (items_in d)) (λ xs. array (items_data shown xs)) (IsListOf most Good)
table most cs c = list most (row_fault cs) (shape_fault (shape.Table most cs)) c (λ ds. refl, is_array_table most cs)

-- ---- what is said of each member, in the words of rows

pub each_of : {X : Type 0} (P : X → Type 0) (xs : List X) → AllByRecursion P xs → All P xs
each_of P [] h = All-nil P
each_of P (x ∷ xs) h = All-cons P x xs h.0 (each_of P xs h.1)

pub of_each : {X : Type 0} (P : X → Type 0) (xs : List X) → All P xs → AllByRecursion P xs
of_each P [] h = tt
of_each P (x ∷ xs) h = (All-head P x xs h, of_each P xs (All-tail P x xs h))

pub passing : {X : Type 0} (test : X → Bool) (xs : List X) → AllByRecursion (λ x. IsTrue (test x)) xs → IsTrue (list_all test xs)
passing test [] h = refl
passing test (x ∷ xs) h = rw (h.0, passing test xs h.1) refl

pub of_passing : {X : Type 0} (test : X → Bool) (xs : List X) → IsTrue (list_all test xs) → AllByRecursion (λ x. IsTrue (test x)) xs
of_passing test [] h = tt
of_passing test (x ∷ xs) h = let both = and_parts (test x) (list_all test xs) h in (both.0, of_passing test xs both.1)

pub both_of : {X : Type 0} (P Q : X → Type 0) (xs : List X) → AllByRecursion P xs → AllByRecursion Q xs → AllByRecursion (λ x. P x × Q x) xs
both_of P Q [] h k = tt
both_of P Q (x ∷ xs) h k = ((h.0, k.0), both_of P Q xs h.1 k.1)

pub weaker : {X : Type 0} (P Q : X → Type 0) → ((x : X) → P x → Q x) → (xs : List X) → AllByRecursion P xs → AllByRecursion Q xs
weaker P Q f [] h = tt
weaker P Q f (x ∷ xs) h = (f x h.0, weaker P Q f xs h.1)

-- ---- what is said of a value that may be null, in the words of rows

pub some_passes : {X : Type 0} (test : X → Bool) (v : Option X) → OrNone (λ x. IsTrue (test x)) v → IsTrue (none_or test v)
some_passes test None g = refl
some_passes test (Some x) g = g

pub of_some_passes : {X : Type 0} (test : X → Bool) (v : Option X) → IsTrue (none_or test v) → OrNone (λ x. IsTrue (test x)) v
of_some_passes test None g = tt
of_some_passes test (Some x) g = g

pub for_some : {X : Type 0} (P Q : X → Type 0) → ((x : X) → P x → Q x) → (v : Option X) → OrNone P v → ForSome v Q
for_some P Q f None g x is = absurd cc
for_some P Q f (Some y) g x is = let same : y ≡ x = cc in subst Q same (f y g)

pub of_for_some : {X : Type 0} (P Q : X → Type 0) → ((x : X) → P x → Q x) → (v : Option X) → ForSome v P → OrNone Q v
of_for_some P Q f None g = tt
of_for_some P Q f (Some y) g = f y (g y refl)
