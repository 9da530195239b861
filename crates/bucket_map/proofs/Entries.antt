-- What a write to a map in order does: to what is found there, to the order, and to what is gathered along it. And that what
-- is found decides a map in order.
use Rattle.std.proofs.Common.{suc, List, [], ◌∷◌, ◌≡◌, ◌≢◌, ◌⊎◌, length, refl, sym, ◌∙◌, ap, subst, inl, inr, Bool, true, false, cond, Option, Some, None}
use Rattle.std.specs.Prelude.{is_some, unwrap_or}
use Rattle.std.specs.List.{cons_option, filter_map, filter, AllByRecursion}
use Rattle.std.specs.List.Sorted.{IsStrictlySortedBy}
use Rattle.std.specs.Ordering.{match_ordering, is_eq, eq_by_cmp, ordering_reverse}
use Rattle.std.specs.declared.cmp.Ordering.{Ordering}
use Rattle.std.specs.declared.cmp.Ordering.TheVariants.{Less, Equal, Greater}
use Rattle.std.specs.Cmp.{IsTotalOrder, tied_itself, eq_by_cmp_equiv}
use Rattle.std.specs.Map.{lookup, remove_entry, keys_of}
use Rattle.std.specs.BTreeMap.{is_at, insert_entry}
use Rattle.std.specs.BTreeSet.{insert_key}
use Rattle.std.proofs.lemmas.Map.{lookup-remove_entry, lookup-none}
use Rattle.std.proofs.lemmas.Map.Entries.{none_below_head}
use Rattle.std.proofs.lemmas.Map.Keys.{IsDistinct-from_sorted, sorted_head, sorted_tail}
use Rattle.std.proofs.lemmas.Map.Lookups.{CmpEqualImpliesEq}
use Rattle.std.proofs.lemmas.Map.Views.{tells_apart}

-- by what an order or a test says
by_order : {X : Type 0} (P : X → Type 0) (o : Ordering) (a b c : X)
    → (o ≡ Less → P a) → (o ≡ Equal → P b) → (o ≡ Greater → P c) → P (match_ordering o a b c)
by_order P Less a b c less equal greater = less refl
by_order P Equal a b c less equal greater = equal refl
by_order P Greater a b c less equal greater = greater refl

by_test : {X : Type 0} (P : X → Type 0) (b : Bool) (x y : X) → (b ≡ true → P x) → (b ≡ false → P y) → P (cond b x y)
by_test P true x y if_true if_false = if_true refl
by_test P false x y if_true if_false = if_false refl

pub some_is_none : {A G : Type 0} (x : A) → Some x ≡ None → G
some_is_none x h = absurd (no (ap is_some h))
  where
    no : true ≡ false → ⊥
    no e = cc

pub taken : {X : Type 0} (b : Bool) (x y : X) → b ≡ true → cond b x y ≡ x
taken true x y is = refl
taken false x y is = cc

pub passed : {X : Type 0} (b : Bool) (x y : X) → b ≡ false → cond b x y ≡ y
passed true x y is = cc
passed false x y is = refl

-- two tests in turn: of one thing, and of two that are never true together
once : {X : Type 0} (b : Bool) (x y z : X) → cond b x (cond b y z) ≡ cond b x z
once true x y z = refl
once false x y z = refl

turned : {X : Type 0} (b c : Bool) (x y z : X) → (b ≡ true → c ≡ true → ⊥) → cond b x (cond c y z) ≡ cond c y (cond b x z)
turned true true x y z never = absurd (never refl refl)
turned true false x y z never = refl
turned false true x y z never = refl
turned false false x y z never = refl

not_level : (o : Ordering) → o ≢ Equal → is_eq o ≡ false
not_level Less apart = refl
not_level Equal apart = absurd (apart refl)
not_level Greater apart = refl

-- ---- a key that is put among keys in order

All-insert_key : {K : Type 0} (cmp : K → K → Ordering) (k : K) (P : K → Type 0) (ks : List K) → AllByRecursion P ks → P k → AllByRecursion P (insert_key cmp ks k)
All-insert_key cmp k P [] h p = (p, tt)
All-insert_key cmp k P (x ∷ xs) h p =
    by_order (λ l. AllByRecursion P l) (cmp k x) (k ∷ x ∷ xs) (x ∷ xs) (x ∷ insert_key cmp xs k)
    (λ _. (p, h)) (λ _. h) (λ _. (h.0, All-insert_key cmp k P xs h.1 p))

pub below_all : {K : Type 0} {cmp : K → K → Ordering} → IsTotalOrder cmp → (k x : K) (xs : List K) → cmp k x ≡ Less → AllByRecursion (λ y. cmp x y ≡ Less) xs → AllByRecursion (λ y. cmp k y ≡ Less) xs
below_all o k x [] e h = tt
below_all o k x (y ∷ ys) e h = (o.trans k x y e h.0, below_all o k x ys e h.1)

pub sorted-insert_key : {K : Type 0} {cmp : K → K → Ordering} → IsTotalOrder cmp → (ks : List K) (k : K) → IsStrictlySortedBy cmp ks → IsStrictlySortedBy cmp (insert_key cmp ks k)
unfolding IsStrictlySortedBy
sorted-insert_key o [] k h = (tt, tt)
sorted-insert_key {cmp = cmp} o (x ∷ xs) k h =
    by_order (λ l. IsStrictlySortedBy cmp l) (cmp k x) (k ∷ x ∷ xs) (x ∷ xs) (x ∷ insert_key cmp xs k)
    (λ e. ((e, below_all o k x xs e h.0), h))
    (λ _. h)
    (λ e. (All-insert_key cmp k (λ y. cmp x y ≡ Less) xs h.0 (o.antisymm x k ∙ ap ordering_reverse e), sorted-insert_key o xs k h.1))

-- ---- entries

module _ {K : Type 0} (R : K → K → Ordering) (total : IsTotalOrder R) (exact : CmpEqualImpliesEq R) where
  -- a key is another or the same
  pub same_or_not : (a b : K) → (a ≡ b) ⊎ (a ≢ b)
  same_or_not a b = go (R a b) refl
    where
      apart : (o : Ordering) → R a b ≡ o → o ≢ Equal → a ≢ b
      apart o is other same = other (sym is ∙ sym (ap (R a) same) ∙ tied_itself total a)

      go : (o : Ordering) → R a b ≡ o → (a ≡ b) ⊎ (a ≢ b)
      go Less is = inr (apart Less is (λ e. cc))
      go Equal is = inl (exact a b is)
      go Greater is = inr (apart Greater is (λ e. cc))

  pub not_at : (a b : K) → a ≢ b → is_eq (R a b) ≡ false
  not_at a b apart = not_level (R a b) (λ e. apart (exact a b e))

  -- below every other of a list in order: not among them
  pub below_apart : (a b : K) → R a b ≡ Less → b ≢ a
  below_apart a b less same =
      let tied : R a a ≡ Equal = tied_itself total a in
      let low : R a a ≡ Less = sym (ap (R a) same) ∙ less in
      cc

  module _ {X : Type 0} where
    -- what is found at a key, after another or the same was put in
    pub found_put : (es : List (K × X)) (k : K) (v : X) (q : K) → lookup (is_at (R q)) (insert_entry R es k v) ≡ cond (is_eq (R q k)) (Some v) (lookup (is_at (R q)) es)
    found_put [] k v q = refl
    found_put (e ∷ es) k v q =
        by_order (λ l. lookup (is_at (R q)) l ≡ cond (is_eq (R q k)) (Some v) (lookup (is_at (R q)) (e ∷ es)))
        (R k e.0) ((k, v) ∷ e ∷ es) ((e.0, v) ∷ es) (e ∷ insert_entry R es k v)
        (λ less. refl)
        (λ equal. subst (λ x. lookup (is_at (R q)) ((e.0, v) ∷ es) ≡ cond (is_eq (R q x)) (Some v) (lookup (is_at (R q)) (e ∷ es))) (sym (exact k e.0 equal)) (sym (once (is_eq (R q e.0)) (Some v) (Some e.1) (lookup (is_at (R q)) es))))
        (λ greater.
        ap (cond (is_eq (R q e.0)) (Some e.1)) (found_put es k v q)
        ∙ turned (is_eq (R q e.0)) (is_eq (R q k)) (Some e.1) (Some v) (lookup (is_at (R q)) es) (λ at_e at_k.
        let same : k ≡ e.0 = sym (tells_apart exact q k at_k) ∙ tells_apart exact q e.0 at_e in
        let tied : R k k ≡ Equal = tied_itself total k in
        let high : R k k ≡ Greater = ap (R k) same ∙ greater in
        cc))

    pub found_put_same : (es : List (K × X)) (k : K) (v : X) → lookup (is_at (R k)) (insert_entry R es k v) ≡ Some v
    found_put_same es k v = found_put es k v k ∙ taken (is_eq (R k k)) (Some v) (lookup (is_at (R k)) es) (ap is_eq (tied_itself total k))

    pub found_put_other : (es : List (K × X)) (k : K) (v : X) (q : K) → q ≢ k → lookup (is_at (R q)) (insert_entry R es k v) ≡ lookup (is_at (R q)) es
    found_put_other es k v q apart = found_put es k v q ∙ passed (is_eq (R q k)) (Some v) (lookup (is_at (R q)) es) (not_at q k apart)

    -- and after one was removed
    pub found_cut : (es : List (K × X)) (k q : K) → IsStrictlySortedBy R (keys_of es) → lookup (is_at (R q)) (remove_entry (is_at (R k)) es) ≡ cond (is_eq (R k q)) None (lookup (is_at (R q)) es)
    found_cut es k q sorted =
        lookup-remove_entry {eq = eq_by_cmp R} (eq_by_cmp_equiv total) (is_at (R k))
        (λ x y at. ap (λ z. is_eq (R z y)) (tells_apart exact k x at)) q es (IsDistinct-from_sorted R (keys_of es) sorted)

    pub found_cut_same : (es : List (K × X)) (k : K) → IsStrictlySortedBy R (keys_of es) → lookup (is_at (R k)) (remove_entry (is_at (R k)) es) ≡ None
    found_cut_same es k sorted = found_cut es k k sorted ∙ taken (is_eq (R k k)) None (lookup (is_at (R k)) es) (ap is_eq (tied_itself total k))

    pub found_cut_other : (es : List (K × X)) (k q : K) → IsStrictlySortedBy R (keys_of es) → q ≢ k → lookup (is_at (R q)) (remove_entry (is_at (R k)) es) ≡ lookup (is_at (R q)) es
    found_cut_other es k q sorted apart = found_cut es k q sorted ∙ passed (is_eq (R k q)) None (lookup (is_at (R q)) es) (not_at k q (λ same. apart (sym same)))

    -- the order is kept
    pub keys_put : (es : List (K × X)) (k : K) (v : X) → keys_of (insert_entry R es k v) ≡ insert_key R (keys_of es) k
    keys_put [] k v = refl
    keys_put (e ∷ es) k v = go (R k e.0) (keys_put es k v)
      where
        go : (o : Ordering) → keys_of (insert_entry R es k v) ≡ insert_key R (keys_of es) k → keys_of (match_ordering o ((k, v) ∷ e ∷ es) ((e.0, v) ∷ es) (e ∷ insert_entry R es k v)) ≡ match_ordering o (k ∷ e.0 ∷ keys_of es) (e.0 ∷ keys_of es) (e.0 ∷ insert_key R (keys_of es) k)
        go Less rest = refl
        go Equal rest = refl
        go Greater rest = ap (λ l. e.0 ∷ l) rest

    pub ordered_put : (es : List (K × X)) (k : K) (v : X) → IsStrictlySortedBy R (keys_of es) → IsStrictlySortedBy R (keys_of (insert_entry R es k v))
    ordered_put es k v sorted = subst (IsStrictlySortedBy R) (sym (keys_put es k v)) (sorted-insert_key total (keys_of es) k sorted)

    pub all_cut : (P : K → Type 0) (test : K → Bool) (es : List (K × X)) → AllByRecursion P (keys_of es) → AllByRecursion P (keys_of (remove_entry test es))
    all_cut P test [] all = all
    all_cut P test (e ∷ es) all =
        by_test (λ l. AllByRecursion P (keys_of l)) (test e.0) es (e ∷ remove_entry test es) (λ at. all.1) (λ off. (all.0, all_cut P test es all.1))

    pub ordered_cut : (test : K → Bool) (es : List (K × X)) → IsStrictlySortedBy R (keys_of es) → IsStrictlySortedBy R (keys_of (remove_entry test es))
    unfolding IsStrictlySortedBy
    ordered_cut test [] sorted = sorted
    ordered_cut test (e ∷ es) sorted =
        by_test (λ l. IsStrictlySortedBy R (keys_of l)) (test e.0) es (e ∷ remove_entry test es)
        (λ at. sorted.1) (λ off. (all_cut (λ y. R e.0 y ≡ Less) test es sorted.0, ordered_cut test es sorted.1))

    pub all_put : (P : K → Type 0) (es : List (K × X)) (k : K) (v : X) → AllByRecursion P (keys_of es) → P k → AllByRecursion P (keys_of (insert_entry R es k v))
    all_put P es k v all own = subst (AllByRecursion P) (sym (keys_put es k v)) (All-insert_key R k P (keys_of es) all own)

    -- what is not found is not removed
    pub none_to_cut : (k : K) (es : List (K × X)) → lookup (is_at (R k)) es ≡ None → remove_entry (is_at (R k)) es ≡ es
    none_to_cut k [] h = refl
    none_to_cut k (e ∷ es) h =
        by_test (λ l. l ≡ e ∷ es) (is_eq (R k e.0)) es (e ∷ remove_entry (is_at (R k)) es)
        (λ at. some_is_none e.1 (sym (taken (is_eq (R k e.0)) (Some e.1) (lookup (is_at (R k)) es) at) ∙ h))
        (λ off. ap (λ l. e ∷ l) (none_to_cut k es (sym (passed (is_eq (R k e.0)) (Some e.1) (lookup (is_at (R k)) es) off) ∙ h)))

    -- ---- how many there are

    pub none_found : (q : K) (es : List (K × X)) → AllByRecursion (λ k. is_eq (R q k) ≡ false) (keys_of es) → lookup (is_at (R q)) es ≡ None
    none_found q [] h = refl
    none_found q (e ∷ es) h = passed (is_eq (R q e.0)) (Some e.1) (lookup (is_at (R q)) es) h.0 ∙ none_found q es h.1

    pub length-put : (es : List (K × X)) (k : K) (v : X) → lookup (is_at (R k)) es ≡ None → length (insert_entry R es k v) ≡ suc (length es)
    length-put [] k v h = refl
    length-put (e ∷ es) k v h =
        by_order (λ l. length l ≡ suc (length (e ∷ es))) (R k e.0) ((k, v) ∷ e ∷ es) ((e.0, v) ∷ es) (e ∷ insert_entry R es k v)
        (λ less. refl)
        (λ equal. some_is_none e.1 (sym (taken (is_eq (R k e.0)) (Some e.1) (lookup (is_at (R k)) es) (ap is_eq equal)) ∙ h))
        (λ greater. ap suc (length-put es k v (sym (passed (is_eq (R k e.0)) (Some e.1) (lookup (is_at (R k)) es) (ap is_eq greater)) ∙ h)))

    -- ---- a part of the entries, by their keys

    keys_of_one : (b : Bool) (e : K × X) (es : List (K × X)) → keys_of (cond b (e ∷ es) es) ≡ cond b (e.0 ∷ keys_of es) (keys_of es)
    keys_of_one true e es = refl
    keys_of_one false e es = refl

    pub keys_kept : (t : K → Bool) (es : List (K × X)) → keys_of (filter (λ e. t e.0) es) ≡ filter t (keys_of es)
    keys_kept t [] = refl
    keys_kept t (e ∷ es) = keys_of_one (t e.0) e (filter (λ x. t x.0) es) ∙ ap (λ l. cond (t e.0) (e.0 ∷ l) l) (keys_kept t es)

    either_way : (b : Bool) (y : Option X) → y ≡ cond b y y
    either_way true y = refl
    either_way false y = refl

    pub found_kept : (t : K → Bool) (q : K) (es : List (K × X)) → lookup (is_at (R q)) (filter (λ e. t e.0) es) ≡ cond (t q) (lookup (is_at (R q)) es) None
    found_kept t q [] = either_way (t q) None
    found_kept t q (e ∷ es) = go (t e.0) (is_eq (R q e.0)) refl refl (found_kept t q es)
      where
        left : List (K × X)
        left = filter (λ x. t x.0) es

        rest : Option X
        rest = lookup (is_at (R q)) es

        alike : is_eq (R q e.0) ≡ true → t q ≡ t e.0
        alike at = ap t (tells_apart exact q e.0 at)

        go : (b c : Bool) → t e.0 ≡ b → is_eq (R q e.0) ≡ c → lookup (is_at (R q)) left ≡ cond (t q) rest None → lookup (is_at (R q)) (cond b (e ∷ left) left) ≡ cond (t q) (cond (is_eq (R q e.0)) (Some e.1) rest) None
        go true true p at more =
            taken (is_eq (R q e.0)) (Some e.1) (lookup (is_at (R q)) left) at
            ∙ sym (taken (t q) (cond (is_eq (R q e.0)) (Some e.1) rest) None (alike at ∙ p) ∙ taken (is_eq (R q e.0)) (Some e.1) rest at)
        go true false p off more =
            passed (is_eq (R q e.0)) (Some e.1) (lookup (is_at (R q)) left) off ∙ more ∙ ap (λ o. cond (t q) o None) (sym (passed (is_eq (R q e.0)) (Some e.1) rest off))
        go false true p at more =
            more ∙ passed (t q) rest None (alike at ∙ p) ∙ sym (passed (t q) (cond (is_eq (R q e.0)) (Some e.1) rest) None (alike at ∙ p))
        go false false p off more = more ∙ ap (λ o. cond (t q) o None) (sym (passed (is_eq (R q e.0)) (Some e.1) rest off))

    -- ---- lists in order in which the same is found are the same

    at_head : (e : K × X) (es : List (K × X)) → lookup (is_at (R e.0)) (e ∷ es) ≡ Some e.1
    at_head e es = taken (is_eq (R e.0 e.0)) (Some e.1) (lookup (is_at (R e.0)) es) (ap is_eq (tied_itself total e.0))

    pub past_head : (e : K × X) (es : List (K × X)) → AllByRecursion (λ k. R e.0 k ≡ Less) (keys_of es) → lookup (is_at (R e.0)) es ≡ None
    past_head e [] h = refl
    past_head e (f ∷ es) h = passed (is_eq (R e.0 f.0)) (Some f.1) (lookup (is_at (R e.0)) es) (ap is_eq h.0) ∙ past_head e es h.1

    module _ (x y : K × X) (xs ys : List (K × X)) (s : IsStrictlySortedBy R (keys_of (x ∷ xs))) (t : IsStrictlySortedBy R (keys_of (y ∷ ys))) (h : (q : K) → lookup (is_at (R q)) (x ∷ xs) ≡ lookup (is_at (R q)) (y ∷ ys)) where
      same_head : x.0 ≡ y.0
      same_head = exact x.0 y.0 (go (R x.0 y.0) refl)
        where
          go : (o : Ordering) → R x.0 y.0 ≡ o → R x.0 y.0 ≡ Equal
          go Less p = some_is_none x.1 (sym (at_head x xs) ∙ h x.0 ∙ lookup-none (is_at (R x.0)) (y ∷ ys) (none_below_head total x.0 y ys t p))
          go Equal p = p
          go Greater p = some_is_none y.1 (sym (at_head y ys) ∙ sym (h y.0) ∙ lookup-none (is_at (R y.0)) (x ∷ xs) (none_below_head total y.0 x xs s (total.antisymm y.0 x.0 ∙ ap ordering_reverse p)))

      same_value : x.1 ≡ y.1
      same_value = ap (λ o. unwrap_or o x.1) (sym (at_head x xs) ∙ h x.0 ∙ ap (λ q. lookup (is_at (R q)) (y ∷ ys)) same_head ∙ at_head y ys)

      same_rests : (q : K) → lookup (is_at (R q)) xs ≡ lookup (is_at (R q)) ys
      same_rests q = go (is_eq (R q x.0)) refl
        where
          go : (b : Bool) → is_eq (R q x.0) ≡ b → lookup (is_at (R q)) xs ≡ lookup (is_at (R q)) ys
          go true at =
              let one : lookup (is_at (R q)) xs ≡ None = ap (λ k. lookup (is_at (R k)) xs) (tells_apart exact q x.0 at) ∙ past_head x xs (sorted_head R x.0 (keys_of xs) s) in
              let other : lookup (is_at (R q)) ys ≡ None = ap (λ k. lookup (is_at (R k)) ys) (tells_apart exact q x.0 at ∙ same_head) ∙ past_head y ys (sorted_head R y.0 (keys_of ys) t) in
              one ∙ sym other
          go false off =
              let one : lookup (is_at (R q)) (x ∷ xs) ≡ lookup (is_at (R q)) xs = passed (is_eq (R q x.0)) (Some x.1) (lookup (is_at (R q)) xs) off in
              let other : lookup (is_at (R q)) (y ∷ ys) ≡ lookup (is_at (R q)) ys = passed (is_eq (R q y.0)) (Some y.1) (lookup (is_at (R q)) ys) (ap (λ k. is_eq (R q k)) (sym same_head) ∙ off) in
              sym one ∙ h q ∙ other

    pub same_pairs : (xs ys : List (K × X)) → IsStrictlySortedBy R (keys_of xs) → IsStrictlySortedBy R (keys_of ys) → ((q : K) → lookup (is_at (R q)) xs ≡ lookup (is_at (R q)) ys) → xs ≡ ys
    same_pairs [] [] s t h = refl
    same_pairs [] (y ∷ ys) s t h = some_is_none y.1 (sym (h y.0 ∙ at_head y ys))
    same_pairs (x ∷ xs) [] s t h = some_is_none x.1 (sym (at_head x xs) ∙ h x.0)
    same_pairs (x ∷ xs) (y ∷ ys) s t h =
        let rests : xs ≡ ys = same_pairs xs ys (sorted_tail R x.0 (keys_of xs) s) (sorted_tail R y.0 (keys_of ys) t) (same_rests x y xs ys s t h) in
        λ i. (same_head x y xs ys s t h i, same_value x y xs ys s t h i) ∷ rests i

    -- What is gathered is as it was, where nothing is gathered of what stood at the key nor of what is put there.
    module _ {Y : Type 0} (f : K × X → Option Y) where
      abbrev pub GivesNone : K → Option X → Type 0
      GivesNone k o = (x : X) → o ≡ Some x → f (k, x) ≡ None

      -- the entry of an equal key
      at_entry : (k : K) (e : K × X) (es : List (K × X)) → R k e.0 ≡ Equal → GivesNone k (lookup (is_at (R k)) (e ∷ es)) → f e ≡ None
      at_entry k e es equal old =
          let same : k ≡ e.0 = exact k e.0 equal in
          subst (λ x. f (x, e.1) ≡ None) same (old e.1 (taken (is_eq (R k e.0)) (Some e.1) (lookup (is_at (R k)) es) (ap is_eq equal)))

      -- what stands behind an entry of another key
      behind : (k : K) (e : K × X) (es : List (K × X)) → is_eq (R k e.0) ≡ false → GivesNone k (lookup (is_at (R k)) (e ∷ es)) → GivesNone k (lookup (is_at (R k)) es)
      behind k e es off old x at = old x (passed (is_eq (R k e.0)) (Some e.1) (lookup (is_at (R k)) es) off ∙ at)

      pub gathered_put : (es : List (K × X)) (k : K) (v : X) → f (k, v) ≡ None → GivesNone k (lookup (is_at (R k)) es) → filter_map f (insert_entry R es k v) ≡ filter_map f es
      gathered_put [] k v new old = ap (λ y. cons_option y []) new
      gathered_put (e ∷ es) k v new old =
          by_order (λ l. filter_map f l ≡ filter_map f (e ∷ es)) (R k e.0) ((k, v) ∷ e ∷ es) ((e.0, v) ∷ es) (e ∷ insert_entry R es k v)
          (λ less. ap (λ y. cons_option y (filter_map f (e ∷ es))) new)
          (λ equal.
          let put : f (e.0, v) ≡ None = subst (λ x. f (x, v) ≡ None) (exact k e.0 equal) new in
          ap (λ y. cons_option y (filter_map f es)) (put ∙ sym (at_entry k e es equal old)))
          (λ greater. ap (cons_option (f e)) (gathered_put es k v new (behind k e es (ap is_eq greater) old)))

      pub gathered_cut : (es : List (K × X)) (k : K) → GivesNone k (lookup (is_at (R k)) es) → filter_map f (remove_entry (is_at (R k)) es) ≡ filter_map f es
      gathered_cut [] k old = refl
      gathered_cut (e ∷ es) k old =
          by_test (λ l. filter_map f l ≡ filter_map f (e ∷ es)) (is_eq (R k e.0)) es (e ∷ remove_entry (is_at (R k)) es)
          (λ at. sym (ap (λ y. cons_option y (filter_map f es)) (at_entry k e es (level (R k e.0) at) old)))
          (λ off. ap (cons_option (f e)) (gathered_cut es k (behind k e es off old)))
        where
          level : (o : Ordering) → is_eq o ≡ true → o ≡ Equal
          level Less at = cc
          level Equal at = refl
          level Greater at = cc
