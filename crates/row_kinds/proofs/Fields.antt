-- Texts by machine names.
use Rattle.std.proofs.Common.{◌≡◌, ℕ, List, [], ◌∷◌, map, Bool, true, false, not, ◌&&◌, cond, Some, None, Less, Greater, refl, sym, ap, subst, ◌∙◌, IsTrue, nat_cmp}
use Rattle.std.specs.Cmp.Lexicographic.{slice_cmp}
use Rattle.std.specs.List.{AllByRecursion, list_all}
use Rattle.std.specs.List.Sorted.{IsStrictlySortedBy}
use Rattle.std.specs.Ordering.{ordering_reverse}
use Rattle.std.proofs.lemmas.Bool.{and_parts}
use Rattle.std.proofs.lemmas.Cmp.{nat_list_cmp_total}
use Rattle.serde_json.specs.Data.{Data, null, boolean, number, string, array, object, Members, no_members, member, put}
use Rattle.content_rows.specs.Kinds.{is_text}
use Rattle.content_rows.specs.LiteralName.{is_name}
use Rattle.content_rows.specs.declared.row.FieldValue.{FieldValue}
use Rattle.json_keys.specs.Fault.{members_in, pair_fault, pairs_fault, shape_fault}
use Rattle.json_keys.specs.Form.{is_long, is_written}
use Rattle.json_keys.specs.Order.{names_of, AllInOrder, IsInOrder}
use Rattle.json_keys.specs.declared.rule.Rule.TheVariants as rule
use Rattle.json_keys.specs.declared.shape.Form.TheVariants as form
use Rattle.json_keys.specs.declared.shape.Shape.TheVariants as shape
use Rattle.json_keys.proofs.Held.{neither}
use Rattle.row_kinds.specs.Look.{text_in, name_or_blank, texts_in, texts_onto, texts_data, text_data, IsTypedText}
use Rattle.row_kinds.proofs.Codec.{Codec, Back}
use Rattle.row_kinds.proofs.Strings.{name_form, body_form, name_same, stages}
use Rattle.row_kinds.proofs.Utf8.{text_written}

-- the names are names, each once and in their order, and the values are texts
pub record AreTexts (fs : List FieldValue) : Type 0 where
  pub typed : AllByRecursion IsTypedText fs
  pub texts : IsTrue (list_all (λ f. is_text f.value) fs)
  pub by_name : IsStrictlySortedBy (slice_cmp nat_cmp) (map (λ f. f.name) fs)

two_stages : (a b c d : Bool) → cond (not (a && b)) (Some rule.Length) (cond (not (c && d)) (Some rule.Bytes) None) ≡ None → ((a && b) ≡ true) × ((c && d) ≡ true)
two_stages true true true true h = (refl, refl)
two_stages true true true false h = absurd cc
two_stages true true false d h = absurd cc
two_stages true false c d h = absurd cc
two_stages false b c d h = absurd cc

-- a pair that is let through is a name and a text
pub pair_right : (k : List ℕ) (d : Data) → pair_fault k d ≡ None → IsTrue (is_name k) × IsTrue (is_text (text_in d)) × (text_data (text_in d) ≡ d)
pair_right k (string t) h =
    let two = two_stages (is_long form.Name k) (is_long form.Body t) (is_written form.Name k) (is_written form.Body t) h in
    let long = and_parts (is_long form.Name k) (is_long form.Body t) two.0 in
    let written = and_parts (is_written form.Name k) (is_written form.Body t) two.1 in
    let text = body_form.passes t (rw (long.1, written.1) refl) in
    (name_form.passes k (rw (long.0, written.0) refl), text, text_written t (body_form.utf8 t text))
pair_right k null h = absurd cc
pair_right k (boolean b) h = absurd cc
pair_right k (number n) h = absurd cc
pair_right k (array ds) h = absurd cc
pair_right k (object ms) h = absurd cc

pair_back : (f : FieldValue) → IsTypedText f → IsTrue (is_text f.value) → (pair_fault f.name (text_data f.value) ≡ None) × (text_in (text_data f.value) ≡ f.value) × (name_or_blank f.name ≡ f.name)
pair_back f typed text =
    let same = text_written f.value (body_form.utf8 f.value text) in
    let name = stages form.Name f.name (name_form.fine f.name typed) in
    let body = stages form.Body f.value (body_form.fine f.value text) in
    (rw same (rw (name.0, body.0, name.1, body.1) refl), rw same refl, name_same f.name typed)

-- ---- the members, one for each text

abbrev members_for : List FieldValue → Members
members_for [] = no_members
members_for (f ∷ fs) = member f.name (text_data f.value) (members_for fs)

abbrev joined : Members → Members → Members
joined no_members bs = bs
joined (member k d ms) bs = member k d (joined ms bs)

join_one : (ms : Members) (k : List ℕ) (d : Data) (bs : Members) → joined (joined ms (member k d no_members)) bs ≡ joined ms (member k d bs)
join_one no_members k d bs = refl
join_one (member l e ms) k d bs = ap (member l e) (join_one ms k d bs)

join_none : (ms : Members) → joined ms no_members ≡ ms
join_none no_members = refl
join_none (member l e ms) = ap (member l e) (join_none ms)

abbrev AllBelow : Members → List ℕ → Type 0
AllBelow no_members k = Unit {0}
AllBelow (member l e ms) k = (slice_cmp nat_cmp l k ≡ Less) × AllBelow ms k

below_joined : (ms : Members) (l k : List ℕ) (d : Data) → AllBelow ms k → slice_cmp nat_cmp l k ≡ Less → AllBelow (joined ms (member l d no_members)) k
below_joined no_members l k d h less = (less, tt)
below_joined (member m e ms) l k d h less = (h.0, below_joined ms l k d h.1 less)

-- what is put above all stands last
put_last : (ms : Members) (k : List ℕ) (d : Data) → AllBelow ms k → put k d ms ≡ joined ms (member k d no_members)
put_last no_members k d h = refl
put_last (member l e ms) k d h =
    let above : slice_cmp nat_cmp k l ≡ Greater = nat_list_cmp_total.antisymm k l ∙ ap ordering_reverse h.0 in
    rw above (ap (member l e) (put_last ms k d h.1))

each_below : (ms : Members) (l : List ℕ) (d : Data) (fs : List FieldValue) → AllByRecursion (λ (f : FieldValue). AllBelow ms f.name) fs
    → AllByRecursion (λ y. slice_cmp nat_cmp l y ≡ Less) (map (λ f. f.name) fs) → AllByRecursion (λ (f : FieldValue). AllBelow (joined ms (member l d no_members)) f.name) fs
each_below ms l d [] h less = tt
each_below ms l d (f ∷ fs) h less = (below_joined ms l f.name d h.0 less.0, each_below ms l d fs h.1 less.1)

onto : (ms : Members) (fs : List FieldValue) → AllByRecursion (λ (f : FieldValue). AllBelow ms f.name) fs → IsStrictlySortedBy (slice_cmp nat_cmp) (map (λ f. f.name) fs)
    → texts_onto fs ms ≡ joined ms (members_for fs)
unfolding IsStrictlySortedBy
onto ms [] h sorted = sym (join_none ms)
onto ms (f ∷ fs) h sorted =
    let d = text_data f.value in
    ap (texts_onto fs) (put_last ms f.name d h.0) ∙ onto (joined ms (member f.name d no_members)) fs (each_below ms f.name d fs h.1 sorted.0) sorted.1 ∙ join_one ms f.name d (members_for fs)

none_above : (fs : List FieldValue) → AllByRecursion (λ (f : FieldValue). AllBelow no_members f.name) fs
none_above [] = tt
none_above (f ∷ fs) = (tt, none_above fs)

in_order : (fs : List FieldValue) → IsStrictlySortedBy (slice_cmp nat_cmp) (map (λ f. f.name) fs) → texts_data fs ≡ members_for fs
in_order fs sorted = onto no_members fs (none_above fs) sorted

-- ---- all members

names_kept : (ms : Members) → pairs_fault false ms ≡ None → map (λ (f : FieldValue). f.name) (texts_in ms) ≡ names_of ms
names_kept no_members h = refl
names_kept (member k d ms) h =
    let both = neither (pair_fault k d) (pairs_fault false ms) h in
    rw (name_same k (pair_right k d both.0).0, names_kept ms both.1) refl

typed_names : (ms : Members) → pairs_fault false ms ≡ None → AllByRecursion IsTypedText (texts_in ms)
typed_names no_members h = tt
typed_names (member k d ms) h =
    let both = neither (pair_fault k d) (pairs_fault false ms) h in
    let name = (pair_right k d both.0).0 in
    (subst (λ (t : List ℕ). IsTrue (is_name t)) (sym (name_same k name)) name, typed_names ms both.1)

all_texts : (ms : Members) → pairs_fault false ms ≡ None → IsTrue (list_all (λ (f : FieldValue). is_text f.value) (texts_in ms))
all_texts no_members h = refl
all_texts (member k d ms) h =
    let both = neither (pair_fault k d) (pairs_fault false ms) h in rw ((pair_right k d both.0).1, all_texts ms both.1) refl

members_right : (ms : Members) → IsInOrder ms → pairs_fault false ms ≡ None → AreTexts (texts_in ms)
members_right ms o h = record {
  typed = typed_names ms h;
  texts = all_texts ms h;
  by_name = subst (IsStrictlySortedBy (slice_cmp nat_cmp)) (sym (names_kept ms h)) o;
}

members_kept : (ms : Members) → pairs_fault false ms ≡ None → members_for (texts_in ms) ≡ ms
members_kept no_members h = refl
members_kept (member k d ms) h =
    let both = neither (pair_fault k d) (pairs_fault false ms) h in
    let pair = pair_right k d both.0 in
    rw (name_same k pair.0, pair.2, members_kept ms both.1) refl

members_back : (fs : List FieldValue) → AllByRecursion IsTypedText fs → IsTrue (list_all (λ (f : FieldValue). is_text f.value) fs) → (pairs_fault false (members_for fs) ≡ None) × (texts_in (members_for fs) ≡ fs)
members_back [] typed texts = (refl, refl)
members_back (f ∷ fs) typed texts =
    let both = and_parts (is_text f.value) (list_all (λ (f : FieldValue). is_text f.value) fs) texts in
    let one = pair_back f typed.0 both.0 in
    let more = members_back fs typed.1 both.1 in
    (rw one.0 more.0, λ i. record { name = one.2 i; value = one.1 i } ∷ more.1 i)

fields_right : (d : Data) → AllInOrder d → shape_fault (shape.Texts false) d ≡ None → AreTexts (texts_in (members_in d))
fields_right (object ms) o h = members_right ms o.0 h
fields_right null o h = absurd cc
fields_right (boolean b) o h = absurd cc
fields_right (number n) o h = absurd cc
fields_right (string s) o h = absurd cc
fields_right (array ds) o h = absurd cc

fields_kept : (d : Data) → AllInOrder d → shape_fault (shape.Texts false) d ≡ None → object (texts_data (texts_in (members_in d))) ≡ d
fields_kept (object ms) o h = ap object (in_order (texts_in ms) (members_right ms o.0 h).by_name ∙ members_kept ms h)
fields_kept null o h = absurd cc
fields_kept (boolean b) o h = absurd cc
fields_kept (number n) o h = absurd cc
fields_kept (string s) o h = absurd cc
fields_kept (array ds) o h = absurd cc

fields_back : (fs : List FieldValue) → AreTexts fs → Back (shape_fault (shape.Texts false)) (λ d. texts_in (members_in d)) (λ fs. object (texts_data fs)) fs
fields_back fs g =
    let same = in_order fs g.by_name in
    let both = members_back fs g.typed g.texts in
    (ap (pairs_fault false) same ∙ both.0, ap texts_in same ∙ both.1)

pub fields : Codec (List FieldValue) (shape_fault (shape.Texts false)) (λ d. texts_in (members_in d)) (λ fs. object (texts_data fs)) AreTexts
fields = record { right = fields_right; back = fields_back; kept = fields_kept }
