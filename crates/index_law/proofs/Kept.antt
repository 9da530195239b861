-- An index is kept through a write.
use Rattle.std.proofs.Common.{List, [], ◌∷◌, ◌++◌, ◌≡◌, refl, sym, ◌∙◌, ap, subst, Bool, true, false, cond, Option, Some, None, flat_map}
use Rattle.std.specs.Prelude.{not, ◌||◌, ◌&&◌}
use Rattle.std.specs.List.{AllByRecursion, filter, list_any}
use Rattle.std.specs.List.Sorted.{IsStrictlySortedBy}
use Rattle.std.specs.Ordering.{is_eq, eq_by_cmp}
use Rattle.std.specs.Cmp.{IsTotalOrder, eq_by_cmp_equiv}
use Rattle.std.specs.Cmp.Lexicographic.{pointwise}
use Rattle.std.specs.Map.{lookup, keys_of}
use Rattle.std.specs.BTreeMap.{is_at}
use Rattle.std.specs.declared.cmp.Ordering.{Ordering}
use Rattle.std.specs.declared.cmp.Ordering.TheVariants.{Less}
use Rattle.std.proofs.lemmas.List.Folds.{list_any-append}
use Rattle.std.proofs.lemmas.List.Kept.{IsStrictlySortedBy-filter}
use Rattle.std.proofs.lemmas.Map.Keys.{sorted_head, sorted_tail}
use Rattle.std.proofs.lemmas.Map.Views.{tells_apart}
use Rattle.cacheability.proofs.InOrder.{sorted-union}
use Rattle.shared_set.specs.Keys.{is_other, without_all, with_all, exchanged}
use Rattle.index_law.specs.Index.{in_order, index_of, keys_at, written, TellsApart, NameOwners, IndexIsKept}
use Rattle.index_law.proofs.Orders.{one_order, fold_any, in_order_any, in_order_sorted, filter_any}
use Rattle.bucket_map.proofs.Entries.{found_put, found_cut, ordered_put, ordered_cut, taken, passed}

or_false : (a : Bool) → (a || false) ≡ a
or_false true = refl
or_false false = refl

-- not m, not e and i, told as neither
neither : (e m i : Bool) → (not m && (not e && i)) ≡ (not (e || m) && i)
neither true true i = refl
neither true false i = refl
neither false m i = refl

never_both : (m : Bool) → (not m && m) ≡ false
never_both true = refl
never_both false = refl

apart_bools : true ≡ false → ⊥
apart_bools e = cc

untrue : (b : Bool) → (b ≡ true → ⊥) → b ≡ false
untrue true h = absurd (h refl)
untrue false h = refl

module _ {K : Type 0} {cmp : K → K → Ordering} (o : IsTotalOrder cmp) (exact : TellsApart cmp) where
  abbrev mem : K → List K → Bool
  mem k ks = list_any (eq_by_cmp cmp k) ks

  -- ---- keys that give way

  same_keys : (xs ys : List K) → pointwise (eq_by_cmp cmp) xs ys ≡ true → xs ≡ ys
  same_keys [] [] h = refl
  same_keys [] (y ∷ ys) h = cc
  same_keys (x ∷ xs) [] h = cc
  same_keys (x ∷ xs) (y ∷ ys) h = go (eq_by_cmp cmp x y) refl h (same_keys xs ys)
    where
      go : (b : Bool) → eq_by_cmp cmp x y ≡ b → (b && pointwise (eq_by_cmp cmp) xs ys) ≡ true → (pointwise (eq_by_cmp cmp) xs ys ≡ true → xs ≡ ys) → x ∷ xs ≡ y ∷ ys
      go true e h rest = (λ t. tells_apart exact x y e t ∷ rest h t)
      go false e h rest = cc

  mem_without : (k : K) (ks set : List K) → mem k (without_all cmp set ks) ≡ (not (mem k ks) && mem k set)
  mem_without k [] set = refl
  mem_without k (j ∷ js) set =
      mem_without k js (filter (is_other cmp j) set)
      ∙ ap (λ b. not (mem k js) && b) (filter_any o exact (is_other cmp j) k set ∙ ap (λ b. not b && mem k set) ((eq_by_cmp_equiv o).symm j k))
      ∙ neither (eq_by_cmp cmp k j) (mem k js) (mem k set)

  sorted_without : (ks set : List K) → IsStrictlySortedBy cmp set → IsStrictlySortedBy cmp (without_all cmp set ks)
  sorted_without [] set h = h
  sorted_without (j ∷ js) set h = sorted_without js (filter (is_other cmp j) set) (IsStrictlySortedBy-filter cmp (is_other cmp j) set h)

  -- ---- an index and the entry that a key names

  module _ {C X : Type 0} {row_cmp : C → C → Ordering} (rows_o : IsTotalOrder row_cmp) (rows_exact : TellsApart row_cmp) (keys : C × X → List K) (owner : K → C) (own : NameOwners cmp keys owner) where
    abbrev found : C → List (C × X) → Option X
    found c rows = lookup (is_at (row_cmp c)) rows

    none_below : (c : C) (es : List (C × X)) → AllByRecursion (λ d. row_cmp c d ≡ Less) (keys_of es) → found c es ≡ None
    none_below c [] h = refl
    none_below c (e ∷ es) h = ap (λ r. cond (is_eq r) (Some e.1) (found c es)) h.0 ∙ none_below c es h.1

    foreign : (k : K) (c : C) (x : Option X) → is_eq (row_cmp (owner k) c) ≡ false → mem k (keys_at keys c x) ≡ false
    foreign k c None apart = refl
    foreign k c (Some x) apart = untrue (mem k (keys (c, x))) (λ there.
        let same : owner k ≡ c = own c x k there in
        apart_bools (sym ((eq_by_cmp_equiv rows_o).refl (owner k)) ∙ ap (λ d. is_eq (row_cmp (owner k) d)) same ∙ apart))

    -- a key is in the index exactly where the entry that it names gives it
    pub mem_index : (k : K) (rows : List (C × X)) → IsStrictlySortedBy row_cmp (keys_of rows) → mem k (flat_map keys rows) ≡ mem k (keys_at keys (owner k) (found (owner k) rows))
    mem_index k [] s = refl
    mem_index k (e ∷ es) s =
        list_any-append (eq_by_cmp cmp k) (keys e) (flat_map keys es)
        ∙ go (is_eq (row_cmp (owner k) e.0)) refl (mem_index k es (sorted_tail row_cmp e.0 (keys_of es) s))
      where
        go : (b : Bool) → is_eq (row_cmp (owner k) e.0) ≡ b → mem k (flat_map keys es) ≡ mem k (keys_at keys (owner k) (found (owner k) es))
            → (mem k (keys e) || mem k (flat_map keys es)) ≡ mem k (keys_at keys (owner k) (cond (is_eq (row_cmp (owner k) e.0)) (Some e.1) (found (owner k) es)))
        go true p rest =
            let same : owner k ≡ e.0 = tells_apart rows_exact (owner k) e.0 p in
            let none : found (owner k) es ≡ None = ap (λ c. found c es) same ∙ none_below e.0 es (sorted_head row_cmp e.0 (keys_of es) s) in
            ap (λ b. mem k (keys e) || b) (rest ∙ ap (λ x. mem k (keys_at keys (owner k) x)) none) ∙ or_false (mem k (keys e))
            ∙ ap (λ c. mem k (keys (c, e.1))) (sym same)
            ∙ ap (λ x. mem k (keys_at keys (owner k) x)) (sym (taken (is_eq (row_cmp (owner k) e.0)) (Some e.1) (found (owner k) es) p))
        go false p rest =
            ap (λ b. b || mem k (flat_map keys es)) (foreign k e.0 (Some e.1) p) ∙ rest
            ∙ ap (λ x. mem k (keys_at keys (owner k) x)) (sym (passed (is_eq (row_cmp (owner k) e.0)) (Some e.1) (found (owner k) es) p))

    found_written : (rows : List (C × X)) → IsStrictlySortedBy row_cmp (keys_of rows) → (c : C) (x : Option X) (d : C) → found d (written row_cmp rows c x) ≡ cond (is_eq (row_cmp d c)) x (found d rows)
    found_written rows s c None d = found_cut row_cmp rows_o rows_exact rows c d s ∙ ap (λ b. cond b None (found d rows)) ((eq_by_cmp_equiv rows_o).symm c d)
    found_written rows s c (Some x) d = found_put row_cmp rows_o rows_exact rows c x d

    pub sorted_written : (rows : List (C × X)) → IsStrictlySortedBy row_cmp (keys_of rows) → (c : C) (x : Option X) → IsStrictlySortedBy row_cmp (keys_of (written row_cmp rows c x))
    sorted_written rows s c None = ordered_cut row_cmp rows_o rows_exact (is_at (row_cmp c)) rows s
    sorted_written rows s c (Some x) = ordered_put row_cmp rows_o rows_exact rows c x s

    module _ (rows : List (C × X)) (s : IsStrictlySortedBy row_cmp (keys_of rows)) (c : C) (x : Option X) where
      abbrev old : List K
      old = keys_at keys c (found c rows)

      abbrev new : List K
      new = keys_at keys c x

      abbrev set : List K
      set = index_of cmp keys rows

      before : (q : K) → mem q set ≡ mem q (keys_at keys (owner q) (found (owner q) rows))
      before q = in_order_any o exact (eq_by_cmp cmp q) (flat_map keys rows) ∙ mem_index q rows s

      after : (q : K) → mem q (index_of cmp keys (written row_cmp rows c x)) ≡ mem q (keys_at keys (owner q) (cond (is_eq (row_cmp (owner q) c)) x (found (owner q) rows)))
      after q =
          in_order_any o exact (eq_by_cmp cmp q) (flat_map keys (written row_cmp rows c x))
          ∙ mem_index q (written row_cmp rows c x) (sorted_written rows s c x)
          ∙ ap (λ f. mem q (keys_at keys (owner q) f)) (found_written rows s c x (owner q))

      -- a key that names the entry, and a key of another
      own_key : (q : K) → is_eq (row_cmp (owner q) c) ≡ true → (mem q (index_of cmp keys (written row_cmp rows c x)) ≡ mem q new) × (mem q set ≡ mem q old)
      own_key q p =
          let same : owner q ≡ c = tells_apart rows_exact (owner q) c p in (
            after q ∙ ap (λ f. mem q (keys_at keys (owner q) f)) (taken (is_eq (row_cmp (owner q) c)) x (found (owner q) rows) p) ∙ ap (λ d. mem q (keys_at keys d x)) same,
            before q ∙ ap (λ d. mem q (keys_at keys d (found d rows))) same,
          )

      other_key : (q : K) → is_eq (row_cmp (owner q) c) ≡ false → mem q (index_of cmp keys (written row_cmp rows c x)) ≡ mem q set
      other_key q p = after q ∙ ap (λ f. mem q (keys_at keys (owner q) f)) (passed (is_eq (row_cmp (owner q) c)) x (found (owner q) rows) p) ∙ sym (before q)

      is_sorted : IsStrictlySortedBy cmp set
      is_sorted = in_order_sorted o exact (flat_map keys rows)

      stays : old ≡ new → index_of cmp keys (written row_cmp rows c x) ≡ set
      stays same = one_order o exact _ _ (in_order_sorted o exact (flat_map keys (written row_cmp rows c x))) is_sorted (λ q. go q (is_eq (row_cmp (owner q) c)) refl)
        where
          go : (q : K) (b : Bool) → is_eq (row_cmp (owner q) c) ≡ b → mem q (index_of cmp keys (written row_cmp rows c x)) ≡ mem q set
          go q true p = (own_key q p).0 ∙ ap (mem q) (sym same) ∙ sym (own_key q p).1
          go q false p = other_key q p

      changes : index_of cmp keys (written row_cmp rows c x) ≡ with_all cmp (without_all cmp set old) new
      changes = one_order o exact _ _
          (in_order_sorted o exact (flat_map keys (written row_cmp rows c x)))
          (sorted-union o (without_all cmp set old) new (sorted_without old set is_sorted))
          (λ q. go q (is_eq (row_cmp (owner q) c)) refl ∙ sym (made q))
        where
          made : (q : K) → mem q (with_all cmp (without_all cmp set old) new) ≡ (mem q new || (not (mem q old) && mem q set))
          made q = fold_any o exact (eq_by_cmp cmp q) (without_all cmp set old) new ∙ ap (λ b. mem q new || b) (mem_without q old set)

          go : (q : K) (b : Bool) → is_eq (row_cmp (owner q) c) ≡ b → mem q (index_of cmp keys (written row_cmp rows c x)) ≡ (mem q new || (not (mem q old) && mem q set))
          go q true p =
              (own_key q p).0
              ∙ sym (ap (λ b. mem q new || (not (mem q old) && b)) (own_key q p).1 ∙ ap (λ b. mem q new || b) (never_both (mem q old)) ∙ or_false (mem q new))
          go q false p =
              other_key q p
              ∙ sym (ap (λ b. b || (not (mem q old) && mem q set)) (foreign q c x p) ∙ ap (λ b. not b && mem q set) (foreign q c (found c rows) p))

      pub index_is_kept : IndexIsKept row_cmp cmp keys rows c x
      index_is_kept = go (pointwise (eq_by_cmp cmp) old new) refl
        where
          go : (b : Bool) → pointwise (eq_by_cmp cmp) old new ≡ b → index_of cmp keys (written row_cmp rows c x) ≡ cond b set (with_all cmp (without_all cmp set old) new)
          go true e = stays (same_keys old new e)
          go false e = changes
