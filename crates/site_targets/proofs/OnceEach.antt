-- What is kept of a list of texts, each once: the same texts, and none of them twice.
use Rattle.std.proofs.Common.{ℕ, List, [], ◌∷◌, ◌++◌, ◌≡◌, refl, sym, ◌∙◌, ap, subst, append_assoc, Bool, true, false, not, ◌||◌, if◌then◌else◌, Contains, All}
use Rattle.std.proofs.lemmas.Bool.{false≢true}
use Rattle.std.specs.List.{list_any, IsDistinct, AllByRecursion}
use Rattle.std.specs.BTreeMap.{is_at}
use Rattle.std.specs.BTreeSet.{BTreeSet, contains}
use Rattle.std.specs.Cmp.Lexicographic.{nat_list_eq_equiv, slice_cmp, texts_ties}
use Rattle.std.specs.Ordering.{nat_cmp}
use Rattle.std.specs.Prelude.{cond}
use Rattle.std.specs.Str.{bytes_eq}
use Rattle.std.proofs.lemmas.List.Elements.{All-nil, All-cons, All-head, All-tail}
use Rattle.std.proofs.lemmas.List.Folds.{list_any-append}
use Rattle.std.proofs.lemmas.Map.Keys.{IsDistinct-cons}
use Rattle.std.proofs.lemmas.Map.Views.{list_any-from_Contains, Contains-from_any}
use Rattle.std.proofs.lemmas.Slice.Eq.{bytes_eq-Decides}
use Rattle.site_targets.specs.Targets.{once_after, each_once}

-- whether a text is among some
abbrev pub is_among : List (List ℕ) → List ℕ → Bool
is_among ts t = list_any (bytes_eq t) ts

choose : {A : Type 0} (P : A → Type 0) (b : Bool) (here there : A) → (b ≡ true → P here) → (b ≡ false → P there) → P (if b then here else there)
choose P true here there if_here if_there = if_here refl
choose P false here there if_here if_there = if_there refl

pub same_text : (t u : List ℕ) → bytes_eq t u ≡ true → t ≡ u
same_text t u same = (bytes_eq-Decides t u).0 same

-- a text that is among them already adds none
either_way : (a b c : Bool) → (b ≡ true → a ≡ true) → (a || c) ≡ (a || (b || c))
either_way true b c there = refl
either_way false true c there = absurd (false≢true (there refl))
either_way false false c there = refl

-- the same texts
pub same_among : (t : List ℕ) (before ts : List (List ℕ)) → is_among (before ++ once_after before ts) t ≡ is_among (before ++ ts) t
same_among t before [] = refl
same_among t before (u ∷ us) =
    choose (λ kept. is_among (before ++ kept) t ≡ is_among (before ++ u ∷ us) t) (list_any (bytes_eq u) before)
    (once_after before us) (u ∷ once_after (before ++ u ∷ []) us)
    (λ there.
    same_among t before us
    ∙ list_any-append (bytes_eq t) before us
    ∙ either_way (is_among before t) (bytes_eq t u) (is_among us t) (λ same. subst (λ x. is_among before x ≡ true) (sym (same_text t u same)) there)
    ∙ sym (list_any-append (bytes_eq t) before (u ∷ us)))
    (λ new.
    sym (ap (λ l. is_among l t) (append_assoc before (u ∷ []) (once_after (before ++ u ∷ []) us)))
    ∙ same_among t (before ++ u ∷ []) us
    ∙ ap (λ l. is_among l t) (append_assoc before (u ∷ []) us))

pub in_once : (t : List ℕ) (ts : List (List ℕ)) → Contains ts t → Contains (each_once ts) t
in_once t ts there =
    Contains-from_any same_text t (each_once ts)
    (same_among t [] ts ∙ list_any-from_Contains nat_list_eq_equiv t ts there)

-- what holds of each text holds of those that are kept
pub all_once : (P : List ℕ → Type 0) (before ts : List (List ℕ)) → All P ts → All P (once_after before ts)
all_once P before [] all = All-nil P
all_once P before (u ∷ us) all =
    choose (All P) (list_any (bytes_eq u) before) (once_after before us) (u ∷ once_after (before ++ u ∷ []) us)
    (λ there. all_once P before us (All-tail P u us all))
    (λ new. All-cons P u (once_after (before ++ u ∷ []) us) (All-head P u us all) (all_once P (before ++ u ∷ []) us (All-tail P u us all)))

-- none that is kept is among those before
left_out : (a b : Bool) → (a || (b || false)) ≡ false → (a ≡ false) × (b ≡ false)
left_out true b out = absurd (false≢true (sym out))
left_out false true out = absurd (false≢true (sym out))
left_out false false out = (refl, refl)

apart : (before : List (List ℕ)) (u t : List ℕ) → is_among (before ++ u ∷ []) t ≡ false → (is_among before t ≡ false) × (bytes_eq t u ≡ false)
apart before u t out =
    left_out (is_among before t) (bytes_eq t u) (sym (list_any-append (bytes_eq t) before (u ∷ [])) ∙ out)

weaker : (P Q : List ℕ → Type 0) → ((t : List ℕ) → P t → Q t) → (ts : List (List ℕ)) → AllByRecursion P ts → AllByRecursion Q ts
weaker P Q give [] all = tt
weaker P Q give (t ∷ ts) all = (give t all.0, weaker P Q give ts all.1)

none_before : (before ts : List (List ℕ)) → AllByRecursion (λ t. is_among before t ≡ false) (once_after before ts)
none_before before [] = tt
none_before before (u ∷ us) =
    choose (AllByRecursion (λ t. is_among before t ≡ false)) (list_any (bytes_eq u) before) (once_after before us) (u ∷ once_after (before ++ u ∷ []) us)
    (λ there. none_before before us)
    (λ new. (new, weaker (λ t. is_among (before ++ u ∷ []) t ≡ false) (λ t. is_among before t ≡ false) (λ t out. (apart before u t out).0) (once_after (before ++ u ∷ []) us) (none_before (before ++ u ∷ []) us)))

-- and none is kept twice
pub distinct : (before ts : List (List ℕ)) → IsDistinct bytes_eq (once_after before ts)
unfolding IsDistinct
distinct before [] = tt
distinct before (u ∷ us) =
    choose (IsDistinct bytes_eq) (list_any (bytes_eq u) before) (once_after before us) (u ∷ once_after (before ++ u ∷ []) us)
    (λ there. distinct before us)
    (λ new.
    IsDistinct-cons bytes_eq u (once_after (before ++ u ∷ []) us)
    (weaker (λ t. is_among (before ++ u ∷ []) t ≡ false) (λ t. bytes_eq u t ≡ false) (λ t out. nat_list_eq_equiv.symm u t ∙ (apart before u t out).1) (once_after (before ++ u ∷ []) us) (none_before (before ++ u ∷ []) us))
    (distinct (before ++ u ∷ []) us))

-- ---- along a list

-- what is kept of what is left, behind what was kept so far
abbrev pub KeptSoFar : List (List ℕ) → List (List ℕ) → List (List ℕ) → Type 0
KeptSoFar kept left whole = kept ++ once_after kept left ≡ whole

-- a set has just the texts that were kept
abbrev pub IsSetOf : BTreeSet (List ℕ) → List (List ℕ) → Type 0
IsSetOf seen kept = (t : List ℕ) → contains (slice_cmp nat_cmp) seen t ≡ is_among kept t

taken : {A : Type 0} (b : Bool) (here there : A) → b ≡ true → (if b then here else there) ≡ here
taken true here there is = refl
taken false here there is = absurd (false≢true is)

untaken : {A : Type 0} (b : Bool) (here there : A) → b ≡ false → (if b then here else there) ≡ there
untaken true here there is = absurd (false≢true (sym is))
untaken false here there is = refl

pub kept_one : (kept more left next whole : List (List ℕ)) (t : List ℕ) → left ≡ t ∷ next → more ≡ kept ++ t ∷ [] → is_among kept t ≡ false → KeptSoFar kept left whole → KeptSoFar more next whole
kept_one kept more left next whole t split added new so_far =
    ap (λ m. m ++ once_after m next) added
    ∙ append_assoc kept (t ∷ []) (once_after (kept ++ t ∷ []) next)
    ∙ ap (λ l. kept ++ l) (sym (untaken (is_among kept t) (once_after kept next) (t ∷ once_after (kept ++ t ∷ []) next) new))
    ∙ ap (λ l. kept ++ once_after kept l) (sym split)
    ∙ so_far

pub kept_none : (kept left next whole : List (List ℕ)) (t : List ℕ) → left ≡ t ∷ next → is_among kept t ≡ true → KeptSoFar kept left whole → KeptSoFar kept next whole
kept_none kept left next whole t split there so_far =
    ap (λ l. kept ++ l) (sym (taken (is_among kept t) (once_after kept next) (t ∷ once_after (kept ++ t ∷ []) next) there))
    ∙ ap (λ l. kept ++ once_after kept l) (sym split)
    ∙ so_far

-- what the answer of putting a text into the set says of it
pub says_new : (seen : BTreeSet (List ℕ)) (kept : List (List ℕ)) (key t : List ℕ) (added : Bool) → IsSetOf seen kept → key ≡ t → added ≡ not (contains (slice_cmp nat_cmp) seen key) → is_among kept t ≡ not added
says_new seen kept key t added set same is =
    sym (set t) ∙ ap (contains (slice_cmp nat_cmp) seen) (sym same) ∙ sym (twice (contains (slice_cmp nat_cmp) seen key)) ∙ ap not (sym is)
  where
    twice : (b : Bool) → not (not b) ≡ b
    twice true = refl
    twice false = refl

turned : (a b : Bool) → cond a true b ≡ (b || (a || false))
turned true true = refl
turned true false = refl
turned false true = refl
turned false false = refl

pub set_one : (old new : BTreeSet (List ℕ)) (kept more : List (List ℕ)) (key t : List ℕ) → key ≡ t → more ≡ kept ++ t ∷ [] → IsSetOf old kept → ((q : List ℕ) → contains (slice_cmp nat_cmp) new q ≡ cond (is_at (slice_cmp nat_cmp key) q) true (contains (slice_cmp nat_cmp) old q)) → IsSetOf new more
set_one old new kept more key t same added set updates q =
    updates q
    ∙ ap (λ b. cond b true (contains (slice_cmp nat_cmp) old q)) (sym (texts_ties key q) ∙ ap (λ k. bytes_eq k q) same ∙ nat_list_eq_equiv.symm t q)
    ∙ ap (cond (bytes_eq q t) true) (set q)
    ∙ turned (bytes_eq q t) (is_among kept q)
    ∙ sym (list_any-append (bytes_eq q) kept (t ∷ []))
    ∙ ap (λ l. is_among l q) (sym added)

pub set_same : (old new : BTreeSet (List ℕ)) (kept : List (List ℕ)) → new.keys ≡ old.keys → IsSetOf old kept → IsSetOf new kept
set_same old new kept same set q = ap (list_any (is_at (slice_cmp nat_cmp q))) same ∙ set q
