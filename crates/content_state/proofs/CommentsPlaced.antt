-- The index of comments has those of a node in the order of their ids, and they are found by these.
use Rattle.std.proofs.Common.{ℕ, List, [], ◌∷◌, ◌++◌, ◌≡◌, ◌∙◌, refl, sym, ap, Bool, true, false, cond, Option, Some, None, map, flat_map, append_assoc}
use Rattle.std.specs.Prelude.{◌==◌, ◌&&◌, nat_lt, if◌then◌else◌, option_and_then, option_map}
use Rattle.std.specs.List.{AllByRecursion, cons_option, filter, filter_map}
use Rattle.std.specs.List.Sorted.{IsStrictlySortedBy}
use Rattle.std.specs.Map.{keys_of}
use Rattle.std.specs.Ordering.{is_eq, nat_cmp, ordering_then}
use Rattle.std.specs.Cmp.{eq_by_cmp_equiv, nat_cmp_total, tied_itself, unsigned_tied}
use Rattle.std.specs.declared.cmp.Ordering.{Ordering}
use Rattle.std.specs.declared.cmp.Ordering.TheVariants.{Less, Equal, Greater}
use Rattle.std.proofs.lemmas.Map.Keys.{sorted_head, sorted_tail}
use Rattle.content_rows.specs.declared.cell.Cell.{Cell}
use Rattle.content_rows.specs.declared.cell.Cell.TheVariants as cell
use Rattle.content_rows.specs.declared.row.Row.{Row}
use Rattle.content_rows.specs.declared.row.Row.TheVariants as row
use Rattle.content_rows.specs.declared.row.Comment.{Comment}
use Rattle.content_rows.specs.CellOrder.{cell_cmp}
use Rattle.index_law.specs.Index.{in_order, index_of}
use Rattle.index_law.proofs.Orders.{filter_in_order, ordered_stays}
use Rattle.row_keys.specs.declared.rank.CommentKey.{CommentKey}
use Rattle.row_keys.specs.contracts.rank.CommentKeyOrd.TheImpl.Laws as laws
use Rattle.row_keys.specs.Keys.{comment_keys}
use Rattle.row_keys.specs.Ranks.{comment_cmp}
use Rattle.row_keys.specs.Exact.{comment_exact}
use Rattle.row_keys.specs.Spans.{before_id, beside_part}
use Rattle.indexed_rows.specs.Rows.{InOrder, as_comment, comment_of, comment_entry, comments_of, comments_on}
use Rattle.content_state.specs.Comments.{comment_key, keys_on, keys_before}
use Rattle.content_state.proofs.RankedLaws.{level}
use Rattle.content_state.proofs.TextsFound.{Found, found_all}

abbrev key : ℕ × Comment → CommentKey
key e = record { node = e.1.node; id = e.0 }

comment_row : (e : Cell × Row) (xs : List (ℕ × Comment)) → comment_keys e ++ map key xs ≡ map key (cons_option (comment_entry e) xs)
comment_row (cell.Comment n, row.Comment r) xs = refl
comment_row _ xs = refl

comment_rows : (rows : List (Cell × Row)) → flat_map comment_keys rows ≡ map key (comments_of rows)
comment_rows [] = refl
comment_rows (e ∷ es) = ap (λ l. comment_keys e ++ l) (comment_rows es) ∙ comment_row e (comments_of es)

-- ---- the comments of a node

module _ (node : ℕ) where
  abbrev is_so : ℕ × Comment → Bool
  is_so e = e.1.node == node

  abbrev own : ℕ × Comment → CommentKey
  own e = comment_key node e

  abbrev is_on : CommentKey → Bool
  is_on k = is_eq (nat_cmp node k.node)

  on_row : (t : ℕ × Comment) (xs : List (ℕ × Comment)) → cond (is_on (key t)) (key t ∷ map own xs) (map own xs) ≡ map own (cond (is_so t) (t ∷ xs) xs)
  on_row t xs = ap (λ b. cond b (key t ∷ map own xs) (map own xs)) ((eq_by_cmp_equiv nat_cmp_total).symm node t.1.node ∙ unsigned_tied t.1.node node) ∙ go (is_so t) refl
    where
      go : (b : Bool) → is_so t ≡ b → cond b (key t ∷ map own xs) (map own xs) ≡ map own (cond b (t ∷ xs) xs)
      go false h = refl
      go true h = ap (λ (n : ℕ). record { node = n; id = t.0 } ∷ map own xs) (level t.1.node node h)

  on_rows : (ts : List (ℕ × Comment)) → filter is_on (map key ts) ≡ map own (filter is_so ts)
  on_rows [] = refl
  on_rows (t ∷ ts) = ap (λ l. cond (is_on (key t)) (key t ∷ l) l) (on_rows ts) ∙ on_row t (filter is_so ts)

  abbrev Below : ℕ → CommentKey → Type 0
  Below n k = comment_cmp (record { node = node; id = n }) k ≡ Less

  below : (n m : ℕ) → nat_cmp n m ≡ Less → Below n (record { node = node; id = m })
  below n m less = ap (λ o. ordering_then o (nat_cmp n m)) (tied_itself nat_cmp_total node) ∙ less

  below_row : (n : ℕ) (e : Cell × Row) (xs : List (ℕ × Comment)) → cell_cmp (cell.Comment n) e.0 ≡ Less → AllByRecursion (Below n) (map own (filter is_so xs)) → AllByRecursion (Below n) (map own (filter is_so (cons_option (comment_entry e) xs)))
  below_row n (cell.Comment m, row.Comment r) xs less rest = go (is_so (m, r))
    where
      go : (b : Bool) → AllByRecursion (Below n) (map own (cond b ((m, r) ∷ filter is_so xs) (filter is_so xs)))
      go true = (below n m less, rest)
      go false = rest
  below_row n _ xs less rest = rest

  below_all : (n : ℕ) (es : List (Cell × Row)) → AllByRecursion (λ c. cell_cmp (cell.Comment n) c ≡ Less) (keys_of es) → AllByRecursion (Below n) (map own (filter is_so (comments_of es)))
  below_all n [] h = tt
  below_all n (e ∷ es) h = below_row n e (comments_of es) h.0 (below_all n es h.1)

  sorted_row : (e : Cell × Row) (es : List (Cell × Row)) → AllByRecursion (λ c. cell_cmp e.0 c ≡ Less) (keys_of es) → IsStrictlySortedBy comment_cmp (map own (filter is_so (comments_of es))) → IsStrictlySortedBy comment_cmp (map own (filter is_so (cons_option (comment_entry e) (comments_of es))))
  unfolding IsStrictlySortedBy
  sorted_row (cell.Comment n, row.Comment r) es first rest = go (is_so (n, r)) (below_all n es first)
    where
      go : (b : Bool) → AllByRecursion (Below n) (map own (filter is_so (comments_of es))) → IsStrictlySortedBy comment_cmp (map own (cond b ((n, r) ∷ filter is_so (comments_of es)) (filter is_so (comments_of es))))
      go true all = (all, rest)
      go false all = rest
  sorted_row _ es first rest = rest

  own_sorted : (rows : List (Cell × Row)) → InOrder rows → IsStrictlySortedBy comment_cmp (map own (filter is_so (comments_of rows)))
  unfolding IsStrictlySortedBy
  own_sorted [] h = tt
  own_sorted (e ∷ es) h = sorted_row e es (sorted_head cell_cmp e.0 (keys_of es) h) (own_sorted es (sorted_tail cell_cmp e.0 (keys_of es) h))

  pub placed_on : (rows : List (Cell × Row)) → InOrder rows → filter is_on (index_of comment_cmp comment_keys rows) ≡ keys_on rows node
  placed_on rows ordered =
      filter_in_order laws.total-law comment_exact is_on (flat_map comment_keys rows)
      ∙ ap (λ l. in_order comment_cmp (filter is_on l)) (comment_rows rows)
      ∙ ap (in_order comment_cmp) (on_rows (comments_of rows))
      ∙ ordered_stays laws.total-law comment_exact (map own (filter is_so (comments_of rows))) (own_sorted rows ordered)

  -- ---- those below an id

  module _ (id : ℕ) where
    abbrev is_below : CommentKey → Bool
    is_below k = nat_lt k.id id

    abbrev is_part : CommentKey → Bool
    is_part k = is_eq (beside_part node id k)

    level_or_not : (b : Bool) → is_eq (if b then Equal else Less) ≡ b
    level_or_not true = refl
    level_or_not false = refl

    parted : (o : Ordering) (n : ℕ) → is_eq (before_id o n id) ≡ (is_eq o && nat_lt n id)
    parted Less n = refl
    parted Equal n = level_or_not (nat_lt n id)
    parted Greater n = refl

    twice : (ks : List CommentKey) → filter is_part ks ≡ filter is_below (filter is_on ks)
    twice [] = refl
    twice (k ∷ ks) = ap (λ l. cond (is_part k) (k ∷ l) l) (twice ks) ∙ ap (λ b. cond b (k ∷ filter is_below (filter is_on ks)) (filter is_below (filter is_on ks))) (parted (nat_cmp node k.node) k.id) ∙ go (is_on k)
      where
        go : (b : Bool) → cond (b && is_below k) (k ∷ filter is_below (filter is_on ks)) (filter is_below (filter is_on ks)) ≡ filter is_below (cond b (k ∷ filter is_on ks) (filter is_on ks))
        go true = refl
        go false = refl

    of_keys : (es : List (ℕ × Comment)) → filter is_below (map own es) ≡ map own (filter (λ e. nat_lt e.0 id) es)
    of_keys [] = refl
    of_keys (e ∷ es) = ap (λ l. cond (nat_lt e.0 id) (own e ∷ l) l) (of_keys es) ∙ go (nat_lt e.0 id)
      where
        go : (b : Bool) → cond b (own e ∷ map own (filter (λ e. nat_lt e.0 id) es)) (map own (filter (λ e. nat_lt e.0 id) es)) ≡ map own (cond b (e ∷ filter (λ e. nat_lt e.0 id) es) (filter (λ e. nat_lt e.0 id) es))
        go true = refl
        go false = refl

    pub placed_before : (rows : List (Cell × Row)) → InOrder rows → filter is_part (index_of comment_cmp comment_keys rows) ≡ keys_before rows node id
    placed_before rows ordered = twice (index_of comment_cmp comment_keys rows) ∙ ap (filter is_below) (placed_on rows ordered) ∙ of_keys (comments_on rows node)

-- ---- what is found by the keys

module _ (rows : List (Cell × Row)) where
  abbrev pub found_by : CommentKey → Option (ℕ × Comment)
  found_by k = option_map (λ c. (k.id, c)) (comment_of rows k.id)

  abbrev pub all_by : List CommentKey → List (ℕ × Comment)
  all_by ks = filter_map found_by ks

  abbrev IsFound : ℕ × Comment → Type 0
  IsFound e = comment_of rows e.0 ≡ Some e.1

  found_row : (e : Cell × Row) (xs : List (ℕ × Comment)) → Found rows e → AllByRecursion IsFound xs → AllByRecursion IsFound (cons_option (comment_entry e) xs)
  found_row (cell.Comment n, row.Comment r) xs found rest = (ap (option_and_then as_comment) found, rest)
  found_row _ xs found rest = rest

  found_rows : (es : List (Cell × Row)) → AllByRecursion (Found rows) es → AllByRecursion IsFound (comments_of es)
  found_rows [] found = tt
  found_rows (e ∷ es) found = found_row e (comments_of es) found.0 (found_rows es found.1)

  of_node : (node : ℕ) (es : List (ℕ × Comment)) → AllByRecursion IsFound es → AllByRecursion IsFound (filter (λ e. e.1.node == node) es)
  of_node node [] found = tt
  of_node node (e ∷ es) found = go (e.1.node == node) (of_node node es found.1)
    where
      go : (b : Bool) → AllByRecursion IsFound (filter (λ e. e.1.node == node) es) → AllByRecursion IsFound (cond b (e ∷ filter (λ e. e.1.node == node) es) (filter (λ e. e.1.node == node) es))
      go true rest = (found.0, rest)
      go false rest = rest

  walk : (node : ℕ) (es : List (ℕ × Comment)) → AllByRecursion IsFound es → all_by (map (comment_key node) es) ≡ es
  walk node [] found = refl
  walk node (e ∷ es) found =
      ap (λ o. cons_option (option_map (λ c. (e.0, c)) o) (all_by (map (comment_key node) es))) found.0
      ∙ ap (λ l. e ∷ l) (walk node es found.1)

  pub found_on : (node : ℕ) → InOrder rows → all_by (keys_on rows node) ≡ comments_on rows node
  found_on node ordered = walk node (comments_on rows node) (of_node node (comments_of rows) (found_rows rows (found_all rows ordered)))

  abbrev listed : ℕ → Option Comment → List (ℕ × Comment)
  listed n None = []
  listed n (Some c) = (n, c) ∷ []

  -- one more key of those that are left
  pub one_more : (k : CommentKey) (o : Option Comment) (now all : List (ℕ × Comment)) (left rest : List CommentKey)
      → o ≡ comment_of rows k.id → left ≡ k ∷ rest → now ++ all_by left ≡ all → (now ++ listed k.id o) ++ all_by rest ≡ all
  one_more k o now all left rest found is h =
      append_assoc now (listed k.id o) (all_by rest)
      ∙ ap (λ l. now ++ l) (first o ∙ ap (λ q. cons_option (option_map (λ c. (k.id, c)) q) (all_by rest)) found ∙ sym (ap all_by is))
      ∙ h
    where
      first : (q : Option Comment) → listed k.id q ++ all_by rest ≡ cons_option (option_map (λ c. (k.id, c)) q) (all_by rest)
      first None = refl
      first (Some c) = refl
