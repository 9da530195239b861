-- The values of a node's fields stay a map of texts in the order of the fields' names, whatever changes.
use Rattle.std.proofs.Common.{◌≡◌, ◌∙◌, ℕ, List, [], ◌∷◌, true, false, refl, sym, ap, subst}
use Rattle.std.specs.Prelude.{Bool, ◌&&◌, Option, Some, None, cond, map, fold, IsTrue}
use Rattle.std.specs.List.{list_all}
use Rattle.std.specs.List.Sorted.{IsStrictlySortedBy}
use Rattle.std.specs.Ordering.{nat_cmp, is_eq, match_ordering}
use Rattle.std.specs.declared.cmp.Ordering.{Ordering}
use Rattle.std.specs.declared.cmp.Ordering.TheVariants.{Less, Equal, Greater}
use Rattle.std.specs.Cmp.Lexicographic.{slice_cmp}
use Rattle.std.specs.Map.{keys_of, remove_entry}
use Rattle.std.specs.BTreeMap.{is_at, insert_entry}
use Rattle.std.proofs.lemmas.Bool.{and_parts, and_from}
use Rattle.std.proofs.lemmas.Cmp.{nat_list_cmp_total}
use Rattle.std.proofs.lemmas.Map.Lookups.{CmpEqualImpliesEq}
use Rattle.std.proofs.lemmas.Map.Text.{is_eq-slice_cmp}
use Rattle.std.proofs.lemmas.Slice.Eq.{bytes_eq-Decides}
use Rattle.content_rows.specs.Kinds.{is_text, none_or}
use Rattle.content_rows.specs.declared.row.FieldValue.{FieldValue}
use Rattle.state_commits.proofs.Entries.{ordered_put, ordered_cut}
use Rattle.site_commands.specs.Fields.{value_entry, entry_value, with_value, with_change, changed_values}
use Rattle.site_commands.specs.declared.body.FieldChange.{FieldChange}

abbrev Entries : Type 0
Entries = List (List ℕ × List ℕ)

-- ---- the order

exact : CmpEqualImpliesEq (slice_cmp nat_cmp)
exact k l level = (bytes_eq-Decides k l).0 (sym (is_eq-slice_cmp k l) ∙ ap is_eq level)

abbrev ByName : Entries → Type 0
ByName entries = IsStrictlySortedBy (slice_cmp nat_cmp) (keys_of entries)

value_by_name : (entries : Entries) (name : List ℕ) (value : Option (List ℕ)) → ByName entries → ByName (with_value entries name value)
value_by_name entries name None sorted = ordered_cut (slice_cmp nat_cmp) nat_list_cmp_total exact (is_at (slice_cmp nat_cmp name)) entries sorted
value_by_name entries name (Some value) sorted = ordered_put (slice_cmp nat_cmp) nat_list_cmp_total exact entries name value sorted

all_by_name : (changes : List FieldChange) (entries : Entries) → ByName entries → ByName (fold with_change entries changes)
all_by_name [] entries sorted = sorted
all_by_name (change ∷ changes) entries sorted = all_by_name changes (with_change entries change) (value_by_name entries change.name change.value sorted)

-- ---- the texts

abbrev are_texts : Entries → Bool
are_texts entries = list_all (λ e. is_text e.1) entries

text_put : (entries : Entries) (name value : List ℕ) → are_texts entries ≡ true → is_text value ≡ true → are_texts (insert_entry (slice_cmp nat_cmp) entries name value) ≡ true
text_put [] name value all one = and_from (is_text value) true one refl
text_put (e ∷ es) name value all one =
    let parts = and_parts (is_text e.1) (are_texts es) all in
    go (slice_cmp nat_cmp name e.0) parts.0 parts.1 (text_put es name value parts.1 one)
  where
    go : (o : Ordering) → is_text e.1 ≡ true → are_texts es ≡ true → are_texts (insert_entry (slice_cmp nat_cmp) es name value) ≡ true
        → are_texts (match_ordering o ((name, value) ∷ e ∷ es) ((e.0, value) ∷ es) (e ∷ insert_entry (slice_cmp nat_cmp) es name value)) ≡ true
    go Less first rest put = and_from (is_text value) (is_text e.1 && are_texts es) one (and_from (is_text e.1) (are_texts es) first rest)
    go Equal first rest put = and_from (is_text value) (are_texts es) one rest
    go Greater first rest put = and_from (is_text e.1) _ first put

text_cut : (test : List ℕ → Bool) (entries : Entries) → are_texts entries ≡ true → are_texts (remove_entry test entries) ≡ true
text_cut test [] all = all
text_cut test (e ∷ es) all =
    let parts = and_parts (is_text e.1) (are_texts es) all in
    go (test e.0) parts.0 parts.1 (text_cut test es parts.1)
  where
    go : (b : Bool) → is_text e.1 ≡ true → are_texts es ≡ true → are_texts (remove_entry test es) ≡ true → are_texts (cond b es (e ∷ remove_entry test es)) ≡ true
    go true first rest cut = rest
    go false first rest cut = and_from (is_text e.1) _ first cut

value_is_text : (entries : Entries) (name : List ℕ) (value : Option (List ℕ)) → are_texts entries ≡ true → none_or is_text value ≡ true → are_texts (with_value entries name value) ≡ true
value_is_text entries name None all one = text_cut (is_at (slice_cmp nat_cmp name)) entries all
value_is_text entries name (Some value) all one = text_put entries name value all one

all_are_texts : (changes : List FieldChange) (entries : Entries) → are_texts entries ≡ true → list_all (λ change. none_or is_text change.value) changes ≡ true → are_texts (fold with_change entries changes) ≡ true
all_are_texts [] entries all sent = all
all_are_texts (change ∷ changes) entries all sent =
    let parts = and_parts (none_or is_text change.value) (list_all (λ c. none_or is_text c.value) changes) sent in
    all_are_texts changes (with_change entries change) (value_is_text entries change.name change.value all parts.0) parts.1

-- ---- the values as a map, and back

names_of_values : (values : List FieldValue) → keys_of (map value_entry values) ≡ map (λ f. f.name) values
names_of_values [] = refl
names_of_values (f ∷ fs) = ap (λ l. f.name ∷ l) (names_of_values fs)

names_of_entries : (entries : Entries) → map (λ f. f.name) (map entry_value entries) ≡ keys_of entries
names_of_entries [] = refl
names_of_entries (e ∷ es) = ap (λ l. e.0 ∷ l) (names_of_entries es)

texts_of_values : (values : List FieldValue) → are_texts (map value_entry values) ≡ list_all (λ f. is_text f.value) values
texts_of_values [] = refl
texts_of_values (f ∷ fs) = ap (λ b. is_text f.value && b) (texts_of_values fs)

texts_of_entries : (entries : Entries) → list_all (λ f. is_text f.value) (map entry_value entries) ≡ are_texts entries
texts_of_entries [] = refl
texts_of_entries (e ∷ es) = ap (λ b. is_text e.1 && b) (texts_of_entries es)

-- ---- what a node keeps

pub changed_by_name : (values : List FieldValue) (changes : List FieldChange) → IsStrictlySortedBy (slice_cmp nat_cmp) (map (λ f. f.name) values)
    → IsStrictlySortedBy (slice_cmp nat_cmp) (map (λ f. f.name) (changed_values values changes))
changed_by_name values changes sorted =
    subst (IsStrictlySortedBy (slice_cmp nat_cmp)) (sym (names_of_entries (fold with_change (map value_entry values) changes)))
    (all_by_name changes (map value_entry values) (subst (IsStrictlySortedBy (slice_cmp nat_cmp)) (sym (names_of_values values)) sorted))

pub changed_are_texts : (values : List FieldValue) (changes : List FieldChange) → IsTrue (list_all (λ f. is_text f.value) values)
    → IsTrue (list_all (λ change. none_or is_text change.value) changes) → IsTrue (list_all (λ f. is_text f.value) (changed_values values changes))
changed_are_texts values changes all sent =
    texts_of_entries (fold with_change (map value_entry values) changes)
    ∙ all_are_texts changes (map value_entry values) (texts_of_values values ∙ all) sent
