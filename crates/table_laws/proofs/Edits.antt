-- What an edit of a table does to the entries that it is told as: the rows of one key go, and rows of that key come.
use Rattle.std.proofs.Common.{inl, inr, ◌≡◌, ◌≢◌, ◌⊎◌, ℕ, ℤ, List, [], ◌∷◌, map, Bool, true, false, not, Option, Some, None, refl, sym, ap, subst, ◌∙◌, true≢false}
use Rattle.std.proofs.lemmas.Bool.{and_parts, not-true}
use Rattle.std.proofs.lemmas.Cmp.{tied_itself}
use Rattle.std.specs.Ordering.{is_eq}
use Rattle.sqlite.specs.Order.{Row, column, value_cmp}
use Rattle.sqlite.specs.Tree.{rowid, has_rowid, put_row, without_rowid}
use Rattle.sqlite.specs.View.{is_int}
use Rattle.sqlite.specs.declared.types.Value.{Value}
use Rattle.sqlite.specs.declared.types.Value.TheVariants.{Null, Int, Real, Text, Blob}
use Rattle.sqlite_rules.proofs.ListLemmas.{has_filtered, has_kept, some_from}
use Rattle.sqlite_rules.proofs.ProbeLemmas.{has_mapped, mapped_has}
use Rattle.sqlite_rules.proofs.TableLemmas.{int_is, put_has, put_all_has, put_all_keeps, put_all_adds}
use Rattle.sqlite_rules.specs.Edit.{id_in, without_all, put_all, is_taken, are_fresh, have_rowids}
use Rattle.sqlite_rules.specs.Lists.{Has}
use Rattle.sqlite_value.proofs.OrderLemmas.{value_cmp_total}
use Rattle.store_six.specs.Tables.{Entry, entry_of, IsSet, IsRemoved}
use Rattle.table_laws.proofs.Values.{tied, int_tied, has_own}
use Rattle.table_laws.specs.Stored.{text_of, stored_entry, HasIds}

-- ---- rows that stay

abbrev HasNone : List ℤ → Row → Type 0
HasNone ids r = (id : ℤ) → Has ids id → has_rowid id r ≡ false

stayed : (ids : List ℤ) (rows : List Row) (r : Row) → Has (without_all rows ids) r → Has rows r × HasNone ids r
stayed [] rows r h = (h, λ id none. absurd none)
stayed (id ∷ ids) rows r h =
    let later = stayed ids (without_rowid id rows) r h in
    let here = has_filtered (λ x. not (has_rowid id x)) rows r later.0 in
    (here.0, λ other there. elim there [ inl is ↦ rw is (not-true _ here.1) | inr more ↦ later.1 other more ])

stays : (ids : List ℤ) (rows : List Row) (r : Row) → Has rows r → HasNone ids r → Has (without_all rows ids) r
stays [] rows r h none = h
stays (id ∷ ids) rows r h none =
    stays ids (without_rowid id rows) r (has_kept (λ x. not (has_rowid id x)) rows r h (ap not (none id (inl refl)))) (λ other there. none other (inr there))

-- ---- rowids stay numbers that come once

put_has_ids : (new : Row) (rows : List Row) → HasIds rows → is_int (rowid new) ≡ true → is_taken rows new ≡ false → HasIds (put_row new rows)
put_has_ids new rows ids number free = record {
  numbers = λ r h. elim (put_has new rows r h) [ inl is ↦ rw is number | inr old ↦ ids.numbers r old ];
  once = λ a b p q same. elim (put_has new rows a p) [
    | inl is ↦ elim (put_has new rows b q) [ inl too ↦ is ∙ sym too | inr old ↦ absurd (untaken b old (sym same ∙ ap rowid is)) ]
    | inr first ↦ elim (put_has new rows b q) [ inl is ↦ absurd (untaken a first (same ∙ ap rowid is)) | inr second ↦ ids.once a b first second same ]
  ];
}
  where
    untaken : (r : Row) → Has rows r → rowid r ≡ rowid new → ⊥
    untaken r h same =
        true≢false (sym (some_from (λ x. is_eq (value_cmp (rowid x) (rowid new))) rows r h (ap is_eq (ap (λ v. value_cmp v (rowid new)) same ∙ tied_itself value_cmp_total (rowid new)))) ∙ free)

pub all_have_ids : (news rows : List Row) → HasIds rows → have_rowids news ≡ true → are_fresh rows news ≡ true → HasIds (put_all rows news)
all_have_ids [] rows ids numbers fresh = ids
all_have_ids (new ∷ news) rows ids numbers fresh =
    let number = and_parts _ _ numbers in
    let free = and_parts _ _ fresh in
    all_have_ids news (put_row new rows) (put_has_ids new rows ids number.0 (not-true _ free.0)) number.1 free.1

pub no_ids : (rows : List Row) → rows ≡ [] → HasIds rows
no_ids rows none = record { numbers = λ r h. absurd (subst (λ l. Has l r) none h); once = λ a b p q same. absurd (subst (λ l. Has l a) none p) }

-- ---- the parts of an entry

parts : (v : Value) (o : Option (List ℕ)) (e : Entry) → entry_of (text_of v) o ≡ Some e → (v ≡ Text e.0) × (o ≡ Some e.1)
parts Null o e h = absurd (let is = h in cc)
parts (Int n) o e h = absurd (let is = h in cc)
parts (Real x) o e h = absurd (let is = h in cc)
parts (Text t) None e h = absurd (let is = h in cc)
parts (Text t) (Some b) e h = (let is = h in cc, let is = h in cc)
parts (Blob b) o e h = absurd (let is = h in cc)

pub entry_parts : (beside : Value → Option (List ℕ)) (r : Row) (e : Entry) → stored_entry beside r ≡ Some e → (column r 1 ≡ Text e.0) × (beside (column r 2) ≡ Some e.1)
entry_parts beside r e is = parts (column r 1) (beside (column r 2)) e is

-- ---- the edit

-- just the rows of a key go
pub record Clears (key : List ℕ) (rows : List Row) (gone : List ℤ) : Type 0 where
  pub all : (r : Row) → Has rows r → column r 1 ≡ Text key → Has gone (id_in (rowid r))
  pub only : (id : ℤ) → Has gone id → (r : Row) × Has rows r × (column r 1 ≡ Text key) × (id ≡ id_in (rowid r))

module _ (key : List ℕ) (rows : List Row) (gone : List ℤ) (ids : HasIds rows) (clears : Clears key rows gone) where
  abbrev IsOther : Row → Type 0
  IsOther r = Has rows r × (column r 1 ≢ Text key)

  left_is_other : (r : Row) → Has (without_all rows gone) r → IsOther r
  left_is_other r h =
      let left = stayed gone rows r h in
      (left.0, λ same. true≢false (sym (has_own r (ids.numbers r left.0)) ∙ left.1 _ (clears.all r left.0 same)))

  other_is_left : (r : Row) → IsOther r → Has (without_all rows gone) r
  other_is_left r other = stays gone rows r other.0 (λ id h. apart id h (has_rowid id r) refl)
    where
      apart : (id : ℤ) → Has gone id → (b : Bool) → has_rowid id r ≡ b → b ≡ false
      apart id h false is = refl
      apart id h true is =
          let went = clears.only id h in
          let theirs = int_is (rowid went.0) (ids.numbers went.0 went.1) in
          let own = int_is (rowid r) (ids.numbers r other.0) in
          let same : id_in (rowid r) ≡ id = int_tied _ _ (rw own at (tied _ is)) in
          absurd (other.1 (ap (λ x. column x 1) (ids.once r went.0 other.0 went.1 (own ∙ ap Int (same ∙ went.3) ∙ sym theirs)) ∙ went.2))

  pub left_ids : HasIds (without_all rows gone)
  left_ids = record { numbers = λ r h. ids.numbers r (left_is_other r h).0; once = λ a b p q. ids.once a b (left_is_other a p).0 (left_is_other b q).0 }

  module _ (beside : Value → Option (List ℕ)) (news : List Row) (fresh : are_fresh (without_all rows gone) news ≡ true) where
    abbrev after : List Row
    after = put_all (without_all rows gone) news

    after_is : (r : Row) → Has after r → Has news r ⊎ IsOther r
    after_is r h = elim (put_all_has news _ r h) [ inl new ↦ inl new | inr left ↦ inr (left_is_other r left) ]

    others_stay : (e : Entry) → e.0 ≢ key → Has (map (stored_entry beside) rows) (Some e) → Has (map (stored_entry beside) after) (Some e)
    others_stay e apart h =
        let r = has_mapped (stored_entry beside) rows (Some e) h in
        let own = (entry_parts beside r.0 e (sym r.2)).0 in
        subst (Has (map (stored_entry beside) after)) (sym r.2)
        (mapped_has (stored_entry beside) _ r.0 (put_all_keeps news _ r.0 fresh (other_is_left r.0 (r.1, λ same. apart (let is = sym own ∙ same in cc)))))

    were_there : (o : Option Entry) (r : Row) → IsOther r → o ≡ stored_entry beside r → Has (map (stored_entry beside) rows) o
    were_there o r other is = subst (Has (map (stored_entry beside) rows)) (sym is) (mapped_has (stored_entry beside) rows r other.0)

    were_others : (e : Entry) (r : Row) → IsOther r → Some e ≡ stored_entry beside r → Has (map (stored_entry beside) rows) (Some e) × (e.0 ≢ key)
    were_others e r other is = (were_there (Some e) r other is, λ same. other.1 ((entry_parts beside r e (sym is)).0 ∙ ap Text same))

    pub is_removed : news ≡ [] → IsRemoved key (map (stored_entry beside) rows) (map (stored_entry beside) after)
    is_removed none = record {
      others = others_stay;
      only = λ e h.
          let r = has_mapped (stored_entry beside) _ (Some e) h in
          elim (after_is r.0 r.1) [ inl new ↦ absurd (subst (λ l. Has l r.0) none new) | inr other ↦ were_others e r.0 other r.2 ];
      unread = λ h.
          let r = has_mapped (stored_entry beside) _ None h in
          elim (after_is r.0 r.1) [ inl new ↦ absurd (subst (λ l. Has l r.0) none new) | inr other ↦ were_there None r.0 other r.2 ];
    }

    pub is_set : (value : List ℕ) → ((r : Row) × Has news r) → ((r : Row) → Has news r → stored_entry beside r ≡ Some (key, value)) → IsSet key value (map (stored_entry beside) rows) (map (stored_entry beside) after)
    is_set value some each = record {
      there = subst (Has (map (stored_entry beside) after)) (each some.0 some.1) (mapped_has (stored_entry beside) _ some.0 (put_all_adds news _ some.0 fresh some.1));
      others = others_stay;
      only = λ e h.
          let r = has_mapped (stored_entry beside) _ (Some e) h in
          elim (after_is r.0 r.1) [ inl new ↦ inl (let is = r.2 ∙ each r.0 new in cc) | inr other ↦ inr (were_others e r.0 other r.2) ];
      unread = λ h.
          let r = has_mapped (stored_entry beside) _ None h in
          elim (after_is r.0 r.1) [ inl new ↦ absurd (let is = r.2 ∙ each r.0 new in cc) | inr other ↦ were_there None r.0 other r.2 ];
    }
