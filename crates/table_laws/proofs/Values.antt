-- Values that a comparison of SQL finds equal.
use Rattle.std.proofs.Common.{inl, inr, ℕ, ℤ, List, Bool, true, false, cond, ◌||◌, Some, Ordering, Less, Equal, Greater, ◌≡◌, refl, sym, ap, ◌∙◌, subst, subst₂, true≢false}
use Rattle.std.proofs.lemmas.Bool.{cases_Bool}
use Rattle.std.proofs.lemmas.Cmp.{tied_itself}
use Rattle.std.proofs.lemmas.Map.Lookups.{exact_bytes, exact_signed}
use Rattle.std.specs.List.{list_any}
use Rattle.std.specs.Ordering.{is_eq, is_ne}
use Rattle.sqlite.specs.Order.{Row, value_cmp}
use Rattle.sqlite.specs.Tree.{rowid, has_rowid}
use Rattle.sqlite.specs.View.{is_int}
use Rattle.sqlite.specs.declared.types.Value.{Value}
use Rattle.sqlite.specs.declared.types.Value.TheVariants.{Null, Int, Real, Text, Blob}
use Rattle.sqlite_rules.proofs.ListLemmas.{some_from}
use Rattle.sqlite_rules.proofs.TableLemmas.{int_is}
use Rattle.sqlite_rules.specs.Edit.{id_in}
use Rattle.sqlite_rules.specs.Lists.{Has}
use Rattle.sqlite_schema.specs.Rules.{equal, differ}
use Rattle.sqlite_sql.specs.Ops.{binary, is_null, is_true, from_truth}
use Rattle.sqlite_value.proofs.KeyLemmas.{class_tied}
use Rattle.sqlite_value.proofs.OrderLemmas.{value_cmp_total, value_cmp-Text, value_cmp-Int}
use Rattle.sqlite_value.specs.declared.keys.Collation.TheVariants.{Binary}

-- ---- a comparison that comes out equal

pub tied : (o : Ordering) → is_eq o ≡ true → o ≡ Equal
tied Less h = absurd (true≢false (sym h))
tied Equal h = refl
tied Greater h = absurd (true≢false (sym h))

not_apart : (o : Ordering) → is_true (from_truth (Some (is_ne o))) ≡ false → o ≡ Equal
not_apart Less h = absurd (true≢false h)
not_apart Equal h = refl
not_apart Greater h = absurd (true≢false h)

truth : (null test : Bool) → is_true (cond null Null (from_truth (Some test))) ≡ true → test ≡ true
truth true test h = absurd (true≢false (sym h))
truth false true h = refl
truth false false h = absurd (true≢false (sym h))

equal_tied : (a b : Value) → equal Binary a b ≡ true → value_cmp a b ≡ Equal
unfolding binary
equal_tied a b h = tied _ (truth (is_null a || is_null b) (is_eq (value_cmp a b)) h)

-- ---- texts

text_tied : (v : Value) (k : List ℕ) → value_cmp v (Text k) ≡ Equal → v ≡ Text k
text_tied Null k h = absurd (let other = class_tied Null (Text k) h in cc)
text_tied (Int n) k h = absurd (let other = class_tied (Int n) (Text k) h in cc)
text_tied (Real x) k h = absurd (let other = class_tied (Real x) (Text k) h in cc)
text_tied (Text t) k h = ap Text (exact_bytes t k (sym (value_cmp-Text t k) ∙ h))
text_tied (Blob b) k h = absurd (let other = class_tied (Blob b) (Text k) h in cc)

pub text_equal : (v : Value) (k : List ℕ) → equal Binary v (Text k) ≡ true → v ≡ Text k
text_equal v k h = text_tied v k (equal_tied v (Text k) h)

pub text_itself : (k : List ℕ) → equal Binary (Text k) (Text k) ≡ true
unfolding binary
text_itself k = rw (tied_itself value_cmp_total (Text k)) refl

-- ---- rowids

pub int_tied : (m n : ℤ) → value_cmp (Int m) (Int n) ≡ Equal → m ≡ n
int_tied m n h = exact_signed m n (sym (value_cmp-Int m n) ∙ h)

pub int_equal : (v : Value) (n : ℤ) → is_int v ≡ true → equal Binary v (Int n) ≡ true → v ≡ Int n
int_equal v n number h = let is = int_is v number in is ∙ ap Int (int_tied (id_in v) n (rw is at (equal_tied v (Int n) h)))

pub int_itself : (n : ℤ) → equal Binary (Int n) (Int n) ≡ true
unfolding binary
int_itself n = rw (tied_itself value_cmp_total (Int n)) refl

ints_not_apart : (m n : ℤ) → differ (Int m) (Int n) ≡ false → m ≡ n
unfolding binary
ints_not_apart m n h = int_tied m n (not_apart _ h)

pub same_rowid : (a b : Row) → is_int (rowid a) ≡ true → is_int (rowid b) ≡ true → differ (rowid a) (rowid b) ≡ false → rowid a ≡ rowid b
same_rowid a b first second h =
    let one = int_is (rowid a) first in
    let two = int_is (rowid b) second in
    one ∙ ap Int (ints_not_apart _ _ (subst₂ (λ v w. differ v w ≡ false) one two h)) ∙ sym two

pub has_own : (r : Row) → is_int (rowid r) ≡ true → has_rowid (id_in (rowid r)) r ≡ true
has_own r number = let is = int_is (rowid r) number in rw (sym is) (ap is_eq (tied_itself value_cmp_total (rowid r)))

-- ---- a test that no element passes

pub fails_at : {X : Type 0} (p : X → Bool) (xs : List X) (x : X) → list_any p xs ≡ false → Has xs x → p x ≡ false
fails_at p xs x none h = elim (cases_Bool (p x)) [ inl e ↦ absurd (true≢false (sym (some_from p xs x h e) ∙ none)) | inr e ↦ e ]
