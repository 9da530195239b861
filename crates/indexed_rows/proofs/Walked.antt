-- All keys that rows give, as one walk over these finds them.
use Rattle.std.proofs.Common.{List, [], ◌∷◌, ◌++◌, ◌≡◌, ◌∙◌, refl, sym, ap, Bool, true, false, flat_map, append-nil, append_assoc}
use Rattle.std.specs.Prelude.{IsPermutation, ◌||◌, cond}
use Rattle.std.specs.List.{list_any, dedup, dedup_from}
use Rattle.std.specs.List.Sorted.{IsSorted}
use Rattle.std.specs.Ordering.{eq_by_cmp}
use Rattle.std.specs.Cmp.{IsTotalOrder, Equal-is}
use Rattle.std.proofs.lemmas.List.Sorted.{list_any-IsPermutation}
use Rattle.std.proofs.lemmas.List.Kept.{IsStrictlySortedBy-dedup}
use Rattle.std.specs.declared.cmp.Ordering.{Ordering}
use Rattle.content_rows.specs.declared.cell.Cell.{Cell}
use Rattle.content_rows.specs.declared.row.Row.{Row}
use Rattle.row_keys.specs.declared.rank.NodeRank.{NodeRank}
use Rattle.row_keys.specs.declared.rank.TypeKey.{TypeKey}
use Rattle.row_keys.specs.declared.rank.TermKey.{TermKey}
use Rattle.row_keys.specs.declared.rank.ParentKey.{ParentKey}
use Rattle.row_keys.specs.declared.rank.CommentKey.{CommentKey}
use Rattle.row_keys.specs.declared.rank.BlockKey.{BlockKey}
use Rattle.row_keys.specs.Keys.{node_keys, type_keys, term_keys, parent_keys, comment_keys, block_keys}
use Rattle.indexed_rows.specs.TextKeys.{text_keys}
use Rattle.indexed_rows.specs.declared.text_mark.TextKey.{TextKey}
use Rattle.index_law.specs.Index.{in_order, index_of, TellsApart}
use Rattle.index_law.proofs.Orders.{one_order, in_order_any, in_order_sorted}
use Rattle.indexed_rows.specs.Indexes.{AreKeysOf}
use Rattle.indexed_rows.proofs.IndexLaws.{index_of_walked}

-- the keys so far and those of the rows that are left are all that the walk finds
abbrev pub Goes : {K : Type 0} → (Cell × Row → List K) → List (Cell × Row) → List K → List (Cell × Row) → Type 0
Goes keys walked found left = found ++ flat_map keys left ≡ flat_map keys walked

-- a walk over rows, of which some are left, with the keys of each kind so far
pub record IsWalk (rows left : List (Cell × Row)) (nodes : List NodeRank) (types : List TypeKey) (terms : List TermKey)
    (parents : List ParentKey) (comments : List CommentKey) (blocks : List BlockKey) (texts : List TextKey) : Type 0 where
  pub walked : List (Cell × Row)
  pub all : IsPermutation rows walked
  pub nodes_go : Goes node_keys walked nodes left
  pub types_go : Goes type_keys walked types left
  pub terms_go : Goes term_keys walked terms left
  pub parents_go : Goes parent_keys walked parents left
  pub comments_go : Goes comment_keys walked comments left
  pub blocks_go : Goes block_keys walked blocks left
  pub texts_go : Goes text_keys walked texts left

-- one row more
pub goes_on : {K : Type 0} (keys : Cell × Row → List K) (walked : List (Cell × Row)) (found more : List K) (row : Cell × Row) (left : List (Cell × Row))
    → more ≡ found ++ keys row → Goes keys walked found (row ∷ left) → Goes keys walked more left
goes_on keys walked found more row left is so =
    ap (λ l. l ++ flat_map keys left) is ∙ append_assoc found (keys row) (flat_map keys left) ∙ so

-- none is left
pub goes_out : {K : Type 0} (keys : Cell × Row → List K) (rows walked : List (Cell × Row)) (found : List K) (left : List (Cell × Row))
    → IsPermutation rows walked → left ≡ [] → Goes keys walked found left → AreKeysOf keys rows found
goes_out keys rows walked found left all none so = record {
  walked = walked;
  all = all;
  given_is = sym (append-nil found) ∙ ap (λ l. found ++ flat_map keys l) (sym none) ∙ so;
}

-- ---- keys that were sorted, each kept once

or_twice : (a b : Bool) → (a || b) ≡ (a || (a || b))
or_twice true b = refl
or_twice false b = refl

module _ {K : Type 0} {E : K → K → Bool} (same : (x y : K) → E x y ≡ true → x ≡ y) (p : K → Bool) where
  any_from : (k : K) (xs : List K) → list_any p (dedup_from E k xs) ≡ (p k || list_any p xs)
  any_from k [] = refl
  any_from k (x ∷ xs) = go (E x k) refl (any_from k xs) (any_from x xs)
    where
      go : (b : Bool) → E x k ≡ b → list_any p (dedup_from E k xs) ≡ (p k || list_any p xs) → list_any p (dedup_from E x xs) ≡ (p x || list_any p xs)
          → list_any p (cond b (dedup_from E k xs) (k ∷ dedup_from E x xs)) ≡ (p k || (p x || list_any p xs))
      go true e kept more = kept ∙ or_twice (p k) (list_any p xs) ∙ ap (λ y. p k || (p y || list_any p xs)) (sym (same x k e))
      go false e kept more = ap (λ b. p k || b) more

  any_kept : (xs : List K) → list_any p (dedup E xs) ≡ list_any p xs
  any_kept [] = refl
  any_kept (x ∷ xs) = any_from x xs

pub kept_in_order : {K : Type 0} {cmp : K → K → Ordering} {E : K → K → Bool} → IsTotalOrder cmp → TellsApart cmp → ((x y : K) → E x y ≡ eq_by_cmp cmp x y)
    → (ks sorted : List K) → IsPermutation ks sorted → IsSorted cmp sorted → dedup E sorted ≡ in_order cmp ks
kept_in_order {cmp = cmp} {E = E} o exact ties ks sorted moved is_sorted =
    one_order o exact (dedup E sorted) (in_order cmp ks) (IsStrictlySortedBy-dedup o ties sorted is_sorted) (in_order_sorted o exact ks)
    (λ q. any_kept (λ x y e. exact x y ((Equal-is (cmp x y)).0 (sym (ties x y) ∙ e))) (eq_by_cmp cmp q) sorted
    ∙ sym (list_any-IsPermutation (eq_by_cmp cmp q) ks sorted moved) ∙ sym (in_order_any o exact (eq_by_cmp cmp q) ks))

-- the keys of rows in order are the index of these
pub index_of_all : {K : Type 0} {cmp : K → K → Ordering} → IsTotalOrder cmp → TellsApart cmp → (keys : Cell × Row → List K) (rows : List (Cell × Row)) (ks : List K)
    → AreKeysOf keys rows ks → in_order cmp ks ≡ index_of cmp keys rows
index_of_all {cmp = cmp} o exact keys rows ks are = ap (in_order cmp) are.given_is ∙ index_of_walked o exact keys rows are.walked are.all
