-- An object in brief is judged as the whole object is, and where no rule is broken it is the whole object.
use Rattle.std.proofs.Common.{◌≡◌, ℕ, zero, suc, ◌<◌, ◌≤◌, List, [], ◌∷◌, Bool, true, false, ◌&&◌, cond, nat_lt, Option, Some, None, option_map, is_none, Ordering, Less, Equal, Greater, refl, sym, ap, ap₂, ◌∙◌, nat_cmp, arith}
use Rattle.std.proofs.lemmas.Bool.{and_parts, lt-ltb, ltb-true, ltb-false}
use Rattle.std.specs.Cmp.Lexicographic.{slice_cmp}
use Rattle.std.specs.Ordering.{match_ordering}
use Rattle.std.specs.Str.{bytes_eq}
use Rattle.std.proofs.lemmas.Slice.Eq.{bytes_eq-Decides}
use Rattle.serde_json.specs.Data.{Data, null, boolean, number, string, array, object, Items, no_items, item, Members, no_members, member}
use Rattle.serde_json.specs.Events.{items_len}
use Rattle.serde_json.specs.Find.{get, get_member}
use Rattle.json_keys.specs.Checked.{unless_faulty, read_checked}
use Rattle.json_keys.specs.Fault.{or_else, at_key, named, asked_fault, members_fault, missing_key, object_fault, plain_fault, entry_fault, items_fault, list_fault, columns_of, always, row_fault, pair_fault, text_or, pairs_fault, shape_fault, ask_fault, is_wanted, first_fault}
use Rattle.json_keys.specs.declared.rule.Rule.{Rule}
use Rattle.json_keys.specs.declared.rule.Rule.TheVariants as rule
use Rattle.json_keys.specs.declared.shape.Plain.{Plain}
use Rattle.json_keys.specs.declared.shape.Plain.TheVariants as plain
use Rattle.json_keys.specs.declared.shape.Entry.{Entry}
use Rattle.json_keys.specs.declared.shape.Entry.TheVariants as entry
use Rattle.json_keys.specs.declared.shape.Columns.{Columns}
use Rattle.json_keys.specs.declared.shape.Columns.TheVariants as columns
use Rattle.json_keys.specs.declared.shape.Shape.{Shape}
use Rattle.json_keys.specs.declared.shape.Shape.TheVariants as shape
use Rattle.json_keys.specs.declared.shape.Ask.{Ask}
use Rattle.json_keys.specs.declared.shape.Ask.TheVariants as ask
use Rattle.json_keys.proofs.Held.{equal_texts, neither, unfaulted}
use Rattle.sent_objects.specs.Brief.{inside, flat_items, flat_members, column_members, first_items, flat, flat_at, known_members, kept, in_list, first_so_many, has_pairs, pairs, pairs_at, whole, brief}
use Rattle.sent_objects.specs.Keys.{is_key, is_column}

-- ---- values are found where their keys are known

module _ (known : List ℕ → Bool) (short : List ℕ → Data → Data) where
  found_at : (o : Ordering) (k l : List ℕ) (d : Data) (a b : Option Data) → slice_cmp nat_cmp k l ≡ o → a ≡ option_map (short k) b
      → match_ordering o a (Some (short l d)) a ≡ option_map (short k) (match_ordering o b (Some d) b)
  found_at Less k l d a b is more = more
  found_at Equal k l d a b is more = ap (λ q. Some (short q d)) (sym (equal_texts k l is))
  found_at Greater k l d a b is more = more

  passed_at : (o : Ordering) (k l : List ℕ) (d e : Data) (a b : Option Data) → slice_cmp nat_cmp k l ≡ o → known k ≡ true → known l ≡ false → a ≡ option_map (short k) b
      → (match_ordering o a (Some e) a ≡ option_map (short k) (match_ordering o b (Some d) b)) × (a ≡ option_map (short k) (match_ordering o b (Some d) b))
  passed_at Less k l d e a b is at other more = (more, more)
  passed_at Equal k l d e a b is at other more = let never : true ≡ false = sym at ∙ ap known (equal_texts k l is) ∙ other in absurd (cc)
  passed_at Greater k l d e a b is at other more = (more, more)

  get_known_at : (b : Bool) (k l : List ℕ) (d : Data) (ms : Members) → known l ≡ b → known k ≡ true → get_member k (known_members known short ms) ≡ option_map (short k) (get_member k ms)
      → get_member k (known_members known short (member l d ms)) ≡ option_map (short k) (get_member k (member l d ms))
  get_known_at true k l d ms is at more = rw is (found_at (slice_cmp nat_cmp k l) k l d _ _ refl more)
  get_known_at false k l d ms is at more = rw is ((passed_at (slice_cmp nat_cmp k l) k l d null _ _ refl at is more).1)

  get_known : (k : List ℕ) (ms : Members) → known k ≡ true → get_member k (known_members known short ms) ≡ option_map (short k) (get_member k ms)
  get_known k no_members at = refl
  get_known k (member l d ms) at = get_known_at (known l) k l d ms refl at (get_known k ms at)

  get_kept_at : (b : Bool) (k l : List ℕ) (d : Data) (ms : Members) → known l ≡ b → known k ≡ true → get_member k (kept known short ms) ≡ option_map (short k) (get_member k ms)
      → get_member k (kept known short (member l d ms)) ≡ option_map (short k) (get_member k (member l d ms))
  get_kept_at true k l d ms is at more = rw is (found_at (slice_cmp nat_cmp k l) k l d _ _ refl more)
  get_kept_at false k l d ms is at more = rw is ((passed_at (slice_cmp nat_cmp k l) k l d null _ _ refl at is (get_known k ms at)).0)

  pub get_kept : (k : List ℕ) (ms : Members) → known k ≡ true → get_member k (kept known short ms) ≡ option_map (short k) (get_member k ms)
  get_kept k no_members at = refl
  get_kept k (member l d ms) at = get_kept_at (known l) k l d ms refl at (get_kept k ms at)

pub get_brief : (k : List ℕ) (d : Data) → is_key k ≡ true → get k (brief d) ≡ option_map (whole k) (get k d)
get_brief k null at = refl
get_brief k (boolean b) at = refl
get_brief k (number n) at = refl
get_brief k (string s) at = refl
get_brief k (array ds) at = refl
get_brief k (object ms) at = get_kept is_key whole k ms at

-- ---- by a table whose keys are known, and whose values are judged in brief

-- each key of a table is known, and what is asked of its value meets a test
abbrev pub fits : {X : Type 0} → (List ℕ → Bool) → (List ℕ → X → Bool) → List (List ℕ × X) → Bool
fits known ok [] = true
fits known ok (k ∷ ks) = known k.0 && (ok k.0 k.1 && fits known ok ks)

no_key_at : {X : Type 0} (b : Bool) (known : List ℕ → Bool) (e : List ℕ × X) (ks : List (List ℕ × X)) (k : List ℕ) → bytes_eq e.0 k ≡ b → known e.0 ≡ true → known k ≡ false → named ks k ≡ None
    → cond b (Some e.1) (named ks k) ≡ None
no_key_at true known e ks k is at other more = let never : true ≡ false = sym at ∙ ap known ((bytes_eq-Decides e.0 k).0 is) ∙ other in absurd (cc)
no_key_at false known e ks k is at other more = more

-- what is not known is no key of the table
no_key : {X : Type 0} (known : List ℕ → Bool) (ok : List ℕ → X → Bool) (ks : List (List ℕ × X)) (k : List ℕ) → fits known ok ks ≡ true → known k ≡ false → named ks k ≡ None
no_key known ok [] k fit other = refl
no_key known ok (e ∷ ks) k fit other =
    let one = and_parts (known e.0) (ok e.0 e.1 && fits known ok ks) fit in
    let two = and_parts (ok e.0 e.1) (fits known ok ks) one.1 in
    no_key_at (bytes_eq e.0 k) known e ks k refl one.0 other (no_key known ok ks k two.1 other)

meets_at : {X : Type 0} (b : Bool) (ok : List ℕ → X → Bool) (e : List ℕ × X) (rest : Option X) (k : List ℕ) (x : X) → bytes_eq e.0 k ≡ b → ok e.0 e.1 ≡ true → cond b (Some e.1) rest ≡ Some x
    → (rest ≡ Some x → ok k x ≡ true) → ok k x ≡ true
meets_at true ok e rest k x here at is more = let same : e.1 ≡ x = cc in sym (ap₂ ok ((bytes_eq-Decides e.0 k).0 here) same) ∙ at
meets_at false ok e rest k x here at is more = more is

-- what is asked of a key meets the test
meets : {X : Type 0} (known : List ℕ → Bool) (ok : List ℕ → X → Bool) (ks : List (List ℕ × X)) (k : List ℕ) (x : X) → fits known ok ks ≡ true → named ks k ≡ Some x → ok k x ≡ true
meets known ok [] k x fit is = absurd (cc)
meets known ok (e ∷ ks) k x fit is =
    let one = and_parts (known e.0) (ok e.0 e.1 && fits known ok ks) fit in
    let two = and_parts (ok e.0 e.1) (fits known ok ks) one.1 in
    meets_at (bytes_eq e.0 k) ok e (named ks k) k x refl two.0 is (meets known ok ks k x two.1)

some_none : {X Y : Type 0} (x : X) (o : Option X) → o ≡ Some x → o ≡ None → Y
some_none x o a b = absurd (cc)

-- what is asked, values in brief, and that they are judged alike
pub record Judges {X : Type 0} (fault : X → Data → Option Rule) (short : List ℕ → Data → Data) (ok : List ℕ → X → Bool) : Type 0 where
  pub same : (k : List ℕ) (x : X) (d : Data) → ok k x ≡ true → fault x (short k d) ≡ fault x d
  pub whole : (k : List ℕ) (x : X) (d : Data) → ok k x ≡ true → fault x d ≡ None → short k d ≡ d

module _ {X : Type 0} (fault : X → Data → Option Rule) (known : List ℕ → Bool) (short : List ℕ → Data → Data) (ok : List ℕ → X → Bool) (judges : Judges fault short ok) where
  asked_at : (o : Option X) (ks : List (List ℕ × X)) (k : List ℕ) (d : Data) → named ks k ≡ o → fits known ok ks ≡ true → asked_fault fault o (short k d) ≡ asked_fault fault o d
  asked_at None ks k d is fit = refl
  asked_at (Some x) ks k d is fit = judges.same k x d (meets known ok ks k x fit is)

  same_member_at : (b : Bool) (ks : List (List ℕ × X)) (l : List ℕ) (e : Data) (ms : Members) → known l ≡ b → fits known ok ks ≡ true
      → members_fault fault ks (kept known short ms) ≡ members_fault fault ks ms
      → members_fault fault ks (kept known short (member l e ms)) ≡ members_fault fault ks (member l e ms)
  same_member_at true ks l e ms is fit more = rw (is, more) (ap (λ f. or_else (at_key l f) (members_fault fault ks ms)) (asked_at (named ks l) ks l e refl fit))
  same_member_at false ks l e ms is fit more = rw (is, no_key known ok ks l fit is) refl

  same_members : (ks : List (List ℕ × X)) (ms : Members) → fits known ok ks ≡ true → members_fault fault ks (kept known short ms) ≡ members_fault fault ks ms
  same_members ks no_members fit = refl
  same_members ks (member l e ms) fit = same_member_at (known l) ks l e ms refl fit (same_members ks ms fit)

  none_mapped : (k : List ℕ) (o : Option Data) → is_none (option_map (short k) o) ≡ is_none o
  none_mapped k None = refl
  none_mapped k (Some d) = refl

  same_missing : (wanted : X → Bool) (ks : List (List ℕ × X)) (ms : Members) → fits known ok ks ≡ true
      → missing_key wanted ks (object (kept known short ms)) ≡ missing_key wanted ks (object ms)
  same_missing wanted [] ms fit = refl
  same_missing wanted (k ∷ ks) ms fit =
      let one = and_parts (known k.0) (ok k.0 k.1 && fits known ok ks) fit in
      let two = and_parts (ok k.0 k.1) (fits known ok ks) one.1 in
      let there : is_none (get_member k.0 (kept known short ms)) ≡ is_none (get_member k.0 ms) = ap is_none (get_kept known short k.0 ms one.0) ∙ none_mapped k.0 (get_member k.0 ms) in
      ap₂ (λ b o. cond (wanted k.1 && b) (Some (k.0, rule.Missing)) o) there (same_missing wanted ks ms two.1)

  pub same_object : (wanted : X → Bool) (ks : List (List ℕ × X)) (ms : Members) → fits known ok ks ≡ true
      → object_fault fault wanted ks (object (kept known short ms)) ≡ object_fault fault wanted ks (object ms)
  same_object wanted ks ms fit = ap₂ or_else (same_members ks ms fit) (same_missing wanted ks ms fit)

  whole_at : (b : Bool) (o : Option X) (ks : List (List ℕ × X)) (l : List ℕ) (e : Data) (ms : Members) → known l ≡ b → named ks l ≡ o → fits known ok ks ≡ true → asked_fault fault o e ≡ None
      → kept known short ms ≡ ms → kept known short (member l e ms) ≡ member l e ms
  whole_at b None ks l e ms is found fit fine more = absurd (cc)
  whole_at true (Some x) ks l e ms is found fit fine more = rw is (ap₂ (member l) (judges.whole l x e (meets known ok ks l x fit found) fine) more)
  whole_at false (Some x) ks l e ms is found fit fine more = some_none x (named ks l) found (no_key known ok ks l fit is)

  whole_members : (ks : List (List ℕ × X)) (ms : Members) → fits known ok ks ≡ true → members_fault fault ks ms ≡ None → kept known short ms ≡ ms
  whole_members ks no_members fit fine = refl
  whole_members ks (member l e ms) fit fine =
      let both = neither (at_key l (asked_fault fault (named ks l) e)) (members_fault fault ks ms) fine in
      whole_at (known l) (named ks l) ks l e ms refl refl fit (unfaulted l _ both.0) (whole_members ks ms fit both.1)

  pub whole_object : (wanted : X → Bool) (ks : List (List ℕ × X)) (ms : Members) → fits known ok ks ≡ true → object_fault fault wanted ks (object ms) ≡ None → kept known short ms ≡ ms
  whole_object wanted ks ms fit fine = whole_members ks ms fit ((neither (members_fault fault ks ms) (missing_key wanted ks (object ms)) fine).0)

-- ---- plain values

plain_array : (p : Plain) (ds : Items) → plain_fault p (array ds) ≡ Some rule.Kind
plain_array plain.Flag ds = refl
plain_array (plain.Whole low high) ds = refl
plain_array plain.Weight ds = refl
plain_array (plain.Text f) ds = refl

plain_object : (p : Plain) (ms : Members) → plain_fault p (object ms) ≡ Some rule.Kind
plain_object plain.Flag ms = refl
plain_object (plain.Whole low high) ms = refl
plain_object plain.Weight ms = refl
plain_object (plain.Text f) ms = refl

entry_array : (e : Entry) (ds : Items) → entry_fault e (array ds) ≡ Some rule.Kind
entry_array (entry.NullOr p) ds = plain_array p ds
entry_array (entry.One p) ds = plain_array p ds

entry_object : (e : Entry) (ms : Members) → entry_fault e (object ms) ≡ Some rule.Kind
entry_object (entry.NullOr p) ms = plain_object p ms
entry_object (entry.One p) ms = plain_object p ms

broken : {X Y : Type 0} (x : X) (o : Option X) → o ≡ Some x → o ≡ None → Y
broken x o a b = absurd (cc)

-- where only the kind of a list or of an object matters
entry_same : (e : Entry) (f : Items → Items) (g : Members → Members) (d : Data) → entry_fault e (inside f g d) ≡ entry_fault e d
entry_same e f g null = refl
entry_same e f g (boolean b) = refl
entry_same e f g (number n) = refl
entry_same e f g (string s) = refl
entry_same e f g (array ds) = entry_array e (f ds) ∙ sym (entry_array e ds)
entry_same e f g (object ms) = entry_object e (g ms) ∙ sym (entry_object e ms)

entry_whole : (e : Entry) (f : Items → Items) (g : Members → Members) (d : Data) → entry_fault e d ≡ None → inside f g d ≡ d
entry_whole e f g null fine = refl
entry_whole e f g (boolean b) fine = refl
entry_whole e f g (number n) fine = refl
entry_whole e f g (string s) fine = refl
entry_whole e f g (array ds) fine = broken rule.Kind _ (entry_array e ds) fine
entry_whole e f g (object ms) fine = broken rule.Kind _ (entry_object e ms) fine

abbrev any_entry : List ℕ → Entry → Bool
any_entry k e = true

flat_judges : Judges entry_fault flat_at any_entry
flat_judges = record { same = λ k e d at. entry_same e flat_items flat_members d; whole = λ k e d at fine. entry_whole e flat_items flat_members d fine }

-- ---- rows in lists

columns_fit : (cs : Columns) → fits is_column any_entry (columns_of cs) ≡ true
columns_fit columns.Grant = refl
columns_fit columns.GrantRow = refl
columns_fit columns.Field = refl
columns_fit columns.Link = refl

row_same : (cs : Columns) (d : Data) → row_fault cs (in_list d) ≡ row_fault cs d
row_same cs null = refl
row_same cs (boolean b) = refl
row_same cs (number n) = refl
row_same cs (string s) = refl
row_same cs (array ds) = refl
row_same cs (object ms) = ap (option_map (λ f. f.1)) (same_object entry_fault is_column flat_at any_entry flat_judges always (columns_of cs) ms (columns_fit cs))

unmapped : {X Y : Type 0} (f : X → Y) (o : Option X) → option_map f o ≡ None → o ≡ None
unmapped f None e = refl
unmapped f (Some x) e = absurd (cc)

row_whole : (cs : Columns) (d : Data) → row_fault cs d ≡ None → in_list d ≡ d
row_whole cs null fine = refl
row_whole cs (boolean b) fine = refl
row_whole cs (number n) fine = refl
row_whole cs (string s) fine = refl
row_whole cs (array ds) fine = absurd (cc)
row_whole cs (object ms) fine = ap object (whole_object entry_fault is_column flat_at any_entry flat_judges always (columns_of cs) ms (columns_fit cs) (unmapped (λ f. f.1) _ fine))

-- ---- lists

module _ (fault : Data → Option Rule) (same : (d : Data) → fault (in_list d) ≡ fault d) (fine_whole : (d : Data) → fault d ≡ None → in_list d ≡ d) where
  many : (n k : ℕ) (ds : Items) → k < n → k < items_len ds → k < items_len (first_so_many n ds)
  many zero k ds less h = let never : ⊥ = omega arith in absurd never
  many (suc n) k no_items less h = h
  many (suc n) zero (item d ds) less h = omega arith
  many (suc n) (suc k) (item d ds) less h = let more = many n k ds (omega arith) (omega arith) in omega arith

  few : (n k : ℕ) (ds : Items) → k < n → items_len ds ≤ k → (items_len (first_so_many n ds) ≡ items_len ds) × (items_fault fault (first_so_many n ds) ≡ items_fault fault ds)
      × (items_fault fault ds ≡ None → first_so_many n ds ≡ ds)
  few zero k ds less h = let never : ⊥ = omega arith in absurd never
  few (suc n) k no_items less h = (refl, refl, λ fine. refl)
  few (suc n) zero (item d ds) less h = let never : ⊥ = omega arith in absurd never
  few (suc n) (suc k) (item d ds) less h =
      let more = few n k ds (omega arith) (omega arith) in (
        ap suc more.0,
        ap₂ or_else (same d) more.1,
        λ fine. let both = neither (fault d) (items_fault fault ds) fine in ap₂ item (fine_whole d both.0) (more.2 both.1),
      )

  list_at : (b : Bool) (n most : ℕ) (ds : Items) → most < n → nat_lt most (items_len ds) ≡ b → (list_fault most fault (first_so_many n ds) ≡ list_fault most fault ds)
      × (list_fault most fault ds ≡ None → first_so_many n ds ≡ ds)
  list_at true n most ds less is = (rw (is, lt-ltb most (items_len (first_so_many n ds)) (many n most ds less (ltb-true most (items_len ds) is))) refl, λ fine. broken rule.Many (list_fault most fault ds) (rw is refl) fine)
  list_at false n most ds less is =
      let short = few n most ds less (ltb-false most (items_len ds) is) in (
        ap₂ (λ k f. cond (nat_lt most k) (Some rule.Many) f) short.0 short.1,
        λ fine. short.2 (sym (ap (λ b. cond b (Some rule.Many) (items_fault fault ds)) is) ∙ fine),
      )

  pub list_same : (n most : ℕ) (ds : Items) → most < n → (list_fault most fault (first_so_many n ds) ≡ list_fault most fault ds) × (list_fault most fault ds ≡ None → first_so_many n ds ≡ ds)
  list_same n most ds less = list_at (nat_lt most (items_len ds)) n most ds less refl

-- ---- texts by names

pair_same : (nulls : Bool) (k : List ℕ) (d : Data) → pair_fault k (text_or nulls (flat d)) ≡ pair_fault k (text_or nulls d)
pair_same true k null = refl
pair_same false k null = refl
pair_same true k (boolean b) = refl
pair_same false k (boolean b) = refl
pair_same true k (number n) = refl
pair_same false k (number n) = refl
pair_same true k (string s) = refl
pair_same false k (string s) = refl
pair_same true k (array ds) = refl
pair_same false k (array ds) = refl
pair_same true k (object ms) = refl
pair_same false k (object ms) = refl

pair_whole : (nulls : Bool) (k : List ℕ) (d : Data) → pair_fault k (text_or nulls d) ≡ None → flat d ≡ d
pair_whole nulls k null fine = refl
pair_whole nulls k (boolean b) fine = refl
pair_whole nulls k (number n) fine = refl
pair_whole nulls k (string s) fine = refl
pair_whole true k (array ds) fine = absurd (cc)
pair_whole false k (array ds) fine = absurd (cc)
pair_whole true k (object ms) fine = absurd (cc)
pair_whole false k (object ms) fine = absurd (cc)

pairs_same : (nulls : Bool) (ms : Members) → pairs_fault nulls (pairs ms) ≡ pairs_fault nulls ms
pairs_same nulls no_members = refl
pairs_same nulls (member k d ms) = ap₂ or_else (pair_same nulls k d) (pairs_same nulls ms)

pairs_whole : (nulls : Bool) (ms : Members) → pairs_fault nulls ms ≡ None → pairs ms ≡ ms
pairs_whole nulls no_members fine = refl
pairs_whole nulls (member k d ms) fine =
    let both = neither (pair_fault k (text_or nulls d)) (pairs_fault nulls ms) fine in
    ap₂ (member k) (pair_whole nulls k d both.0) (pairs_whole nulls ms both.1)

-- ---- the values of keys

abbrev pub is_short : ℕ → Bool
is_short most = nat_lt most 257

-- a list that may have no more items than are kept, or a value that is judged at all
abbrev pub is_judged_shape : List ℕ → Shape → Bool
is_judged_shape k shape.Any = false
is_judged_shape k (shape.Of e) = true
is_judged_shape k (shape.Each most e) = is_short most
is_judged_shape k (shape.Table most cs) = is_short most
is_judged_shape k (shape.Texts nulls) = has_pairs k

abbrev pub is_judged : List ℕ → Ask → Bool
is_judged k (ask.Must s) = is_judged_shape k s
is_judged k (ask.May s) = is_judged_shape k s

less_than : (a b : ℕ) → nat_lt a b ≡ true → a < b
less_than a b h = ltb-true a b h

in_list_entry : (e : Entry) (d : Data) → entry_fault e (in_list d) ≡ entry_fault e d
in_list_entry e d = entry_same e flat_items column_members d

in_list_entry_whole : (e : Entry) (d : Data) → entry_fault e d ≡ None → in_list d ≡ d
in_list_entry_whole e d fine = entry_whole e flat_items column_members d fine

shape_same : (k : List ℕ) (s : Shape) (d : Data) → is_judged_shape k s ≡ true → shape_fault s (whole k d) ≡ shape_fault s d
shape_same k shape.Any d at = absurd (cc)
shape_same k (shape.Of e) d at = entry_same e first_items (pairs_at k) d
shape_same k (shape.Each most e) (array ds) at = (list_same (entry_fault e) (in_list_entry e) (in_list_entry_whole e) 257 most ds (less_than most 257 at)).0
shape_same k (shape.Each most e) null at = refl
shape_same k (shape.Each most e) (boolean b) at = refl
shape_same k (shape.Each most e) (number n) at = refl
shape_same k (shape.Each most e) (string s) at = refl
shape_same k (shape.Each most e) (object ms) at = refl
shape_same k (shape.Table most cs) (array ds) at = (list_same (row_fault cs) (row_same cs) (row_whole cs) 257 most ds (less_than most 257 at)).0
shape_same k (shape.Table most cs) null at = refl
shape_same k (shape.Table most cs) (boolean b) at = refl
shape_same k (shape.Table most cs) (number n) at = refl
shape_same k (shape.Table most cs) (string s) at = refl
shape_same k (shape.Table most cs) (object ms) at = refl
shape_same k (shape.Texts nulls) (object ms) at = rw at (pairs_same nulls ms)
shape_same k (shape.Texts nulls) null at = refl
shape_same k (shape.Texts nulls) (boolean b) at = refl
shape_same k (shape.Texts nulls) (number n) at = refl
shape_same k (shape.Texts nulls) (string s) at = refl
shape_same k (shape.Texts nulls) (array ds) at = refl

shape_whole : (k : List ℕ) (s : Shape) (d : Data) → is_judged_shape k s ≡ true → shape_fault s d ≡ None → whole k d ≡ d
shape_whole k s null at fine = refl
shape_whole k s (boolean b) at fine = refl
shape_whole k s (number n) at fine = refl
shape_whole k s (string t) at fine = refl
shape_whole k shape.Any (array ds) at fine = absurd (cc)
shape_whole k shape.Any (object ms) at fine = absurd (cc)
shape_whole k (shape.Of e) (array ds) at fine = entry_whole e first_items (pairs_at k) (array ds) fine
shape_whole k (shape.Of e) (object ms) at fine = entry_whole e first_items (pairs_at k) (object ms) fine
shape_whole k (shape.Each most e) (array ds) at fine =
    ap array ((list_same (entry_fault e) (in_list_entry e) (in_list_entry_whole e) 257 most ds (less_than most 257 at)).1 fine)
shape_whole k (shape.Each most e) (object ms) at fine = absurd (cc)
shape_whole k (shape.Table most cs) (array ds) at fine = ap array ((list_same (row_fault cs) (row_same cs) (row_whole cs) 257 most ds (less_than most 257 at)).1 fine)
shape_whole k (shape.Table most cs) (object ms) at fine = absurd (cc)
shape_whole k (shape.Texts nulls) (array ds) at fine = absurd (cc)
shape_whole k (shape.Texts nulls) (object ms) at fine = rw at (ap object (pairs_whole nulls ms fine))

ask_same : (k : List ℕ) (a : Ask) (d : Data) → is_judged k a ≡ true → ask_fault a (whole k d) ≡ ask_fault a d
ask_same k (ask.Must s) d at = shape_same k s d at
ask_same k (ask.May s) d at = shape_same k s d at

ask_whole : (k : List ℕ) (a : Ask) (d : Data) → is_judged k a ≡ true → ask_fault a d ≡ None → whole k d ≡ d
ask_whole k (ask.Must s) d at fine = shape_whole k s d at fine
ask_whole k (ask.May s) d at fine = shape_whole k s d at fine

ask_judges : Judges ask_fault whole is_judged
ask_judges = record { same = ask_same; whole = ask_whole }

-- ---- objects

-- a table whose keys are among those of bodies, and which asks for nothing that is not kept
abbrev pub is_table : List (List ℕ × Ask) → Bool
is_table ks = fits is_key is_judged ks

first_same : (ks : List (List ℕ × Ask)) (d : Data) → is_table ks ≡ true → first_fault ks (brief d) ≡ first_fault ks d
first_same ks null fit = refl
first_same ks (boolean b) fit = refl
first_same ks (number n) fit = refl
first_same ks (string s) fit = refl
first_same ks (array ds) fit = refl
first_same ks (object ms) fit = same_object ask_fault is_key whole is_judged ask_judges is_wanted ks ms fit

first_whole : (ks : List (List ℕ × Ask)) (d : Data) → is_table ks ≡ true → first_fault ks d ≡ None → brief d ≡ d
first_whole ks null fit fine = refl
first_whole ks (boolean b) fit fine = refl
first_whole ks (number n) fit fine = refl
first_whole ks (string s) fit fine = refl
first_whole ks (array ds) fit fine = refl
first_whole ks (object ms) fit fine = ap object (whole_object ask_fault is_key whole is_judged ask_judges is_wanted ks ms fit fine)

read_at : {X : Type 0} (o : Option (List ℕ × Rule)) (of : Data → X) (d : Data) → (o ≡ None → brief d ≡ d) → unless_faulty (of (brief d)) o ≡ unless_faulty (of d) o
read_at None of d fine = ap (λ v. unless_faulty (of v) None) (fine refl)
read_at (Some f) of d fine = refl

-- what is read of an object in brief is what is read of it
pub read_same : {X : Type 0} (of : Data → X) (ks : List (List ℕ × Ask)) (d : Data) → is_table ks ≡ true → read_checked of ks (brief d) ≡ read_checked of ks d
read_same of ks d fit = ap (unless_faulty (of (brief d))) (first_same ks d fit) ∙ read_at (first_fault ks d) of d (first_whole ks d fit)
