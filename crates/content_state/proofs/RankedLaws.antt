-- What the indexes of nodes and blocks have in a stretch.
use Rattle.std.proofs.Common.{ℕ, List, [], ◌∷◌, ◌++◌, ◌≡◌, ◌∙◌, refl, sym, ap, Bool, true, false, cond, map, flat_map}
use Rattle.std.specs.Prelude.{◌==◌, ◌&&◌, ◌||◌}
use Rattle.std.specs.List.{cons_option, filter, list_any}
use Rattle.std.specs.Str.{bytes_eq}
use Rattle.std.specs.Ordering.{eq_by_cmp, is_eq, nat_cmp, ordering_then}
use Rattle.std.specs.Cmp.{eq_by_cmp_equiv, Equal-is, nat_cmp_total, tied_itself, unsigned_tied}
use Rattle.std.specs.Cmp.Lexicographic.{slice_cmp, nat_list_cmp_total}
use Rattle.std.proofs.lemmas.List.Elements.{filter-append}
use Rattle.std.proofs.lemmas.List.Folds.{list_any-append}
use Rattle.std.proofs.lemmas.Map.Text.{is_eq-slice_cmp}
use Rattle.std.proofs.lemmas.Slice.Eq.{bytes_eq-Decides}
use Rattle.content_rows.specs.declared.cell.Cell.{Cell}
use Rattle.content_rows.specs.declared.cell.Cell.TheVariants as cell
use Rattle.content_rows.specs.declared.row.Row.{Row}
use Rattle.content_rows.specs.declared.row.Row.TheVariants as row
use Rattle.content_rows.specs.declared.row.Node.{Node}
use Rattle.content_rows.specs.declared.row.Block.{Block}
use Rattle.content_rows.specs.declared.row.Region.{Region}
use Rattle.index_law.specs.Index.{in_order, index_of}
use Rattle.index_law.proofs.Orders.{filter_in_order, in_order_map, same_order}
use Rattle.row_keys.specs.declared.rank.NodeRank.{NodeRank}
use Rattle.row_keys.specs.declared.rank.BlockRank.{BlockRank}
use Rattle.row_keys.specs.declared.rank.TypeKey.{TypeKey}
use Rattle.row_keys.specs.declared.rank.TermKey.{TermKey}
use Rattle.row_keys.specs.declared.rank.BlockKey.{BlockKey}
use Rattle.row_keys.specs.contracts.rank.TypeKeyOrd.TheImpl as type_order
use Rattle.row_keys.specs.contracts.rank.TypeKeyOrd.TheImpl.Laws as type_laws
use Rattle.row_keys.specs.contracts.rank.TermKeyOrd.TheImpl as term_order
use Rattle.row_keys.specs.contracts.rank.TermKeyOrd.TheImpl.Laws as term_laws
use Rattle.row_keys.specs.contracts.rank.BlockKeyOrd.TheImpl as block_order
use Rattle.row_keys.specs.contracts.rank.BlockKeyOrd.TheImpl.Laws as block_laws
use Rattle.row_keys.specs.Keys.{node_keys, type_keys, term_keys, term_keys_of, block_keys, region_place}
use Rattle.row_keys.specs.Ranks.{rank_of, rank_cmp, block_rank, block_cmp}
use Rattle.row_keys.specs.Exact.{type_exact, term_exact, block_exact}
use Rattle.indexed_rows.specs.TextLaws.{nat_exact}
use Rattle.indexed_rows.specs.Rows.{node_entry, block_entry, nodes_of, blocks_of}
use Rattle.content_state.specs.Ranked.{published, published_of, published_with, blocks_within}

pub all_kept : {A : Type 0} (xs : List A) → filter (λ x. true) xs ≡ xs
all_kept [] = refl
all_kept (x ∷ xs) = ap (λ ys. x ∷ ys) (all_kept xs)

pub level : (a b : ℕ) → (a == b) ≡ true → a ≡ b
level a b h = nat_exact a b ((Equal-is (nat_cmp a b)).0 (unsigned_tied a b ∙ h))

-- ---- all published nodes

node_row : (e : Cell × Row) (xs : List (ℕ × Node)) → node_keys e ++ map rank_of (filter (λ x. x.1.status) xs) ≡ map rank_of (filter (λ x. x.1.status) (cons_option (node_entry e) xs))
node_row (cell.Node n, row.Node r) xs = go r.status
  where
    go : (b : Bool) → cond b (rank_of (n, r) ∷ []) [] ++ map rank_of (filter (λ x. x.1.status) xs) ≡ map rank_of (cond b ((n, r) ∷ filter (λ x. x.1.status) xs) (filter (λ x. x.1.status) xs))
    go true = refl
    go false = refl
node_row _ xs = refl

node_rows : (rows : List (Cell × Row)) → flat_map node_keys rows ≡ map rank_of (filter (λ x. x.1.status) (nodes_of rows))
node_rows [] = refl
node_rows (e ∷ es) = ap (λ l. node_keys e ++ l) (node_rows es) ∙ node_row e (nodes_of es)

pub all_published : (rows : List (Cell × Row)) → filter (λ k. true) (index_of rank_cmp node_keys rows) ≡ published rows
all_published rows = all_kept (index_of rank_cmp node_keys rows) ∙ ap (in_order rank_cmp) (node_rows rows)

-- ---- the blocks of a region

module _ (where_placed : Region) where
  abbrev placed : List ℕ × Block → Bool
  placed e = region_place where_placed == region_place e.1.region

  abbrev block_in : BlockRank → BlockKey
  block_in r = record { region = region_place where_placed; rank = r }

  abbrev of_region : BlockKey → Bool
  of_region k = is_eq (nat_cmp (region_place where_placed) k.region)

  block_row : (e : Cell × Row) (xs : List (List ℕ × Block)) → filter of_region (block_keys e) ++ map block_in (map block_rank (filter placed xs)) ≡ map block_in (map block_rank (filter placed (cons_option (block_entry e) xs)))
  block_row (cell.Block name, row.Block r) xs =
      ap (λ b. cond b (record { region = region_place r.region; rank = block_rank (name, r) } ∷ []) [] ++ map block_in (map block_rank (filter placed xs))) (unsigned_tied (region_place where_placed) (region_place r.region))
      ∙ go (placed (name, r)) refl
    where
      go : (b : Bool) → placed (name, r) ≡ b → cond b (record { region = region_place r.region; rank = block_rank (name, r) } ∷ []) [] ++ map block_in (map block_rank (filter placed xs)) ≡ map block_in (map block_rank (cond b ((name, r) ∷ filter placed xs) (filter placed xs)))
      go true h = ap (λ (n : ℕ). record { region = n; rank = block_rank (name, r) } ∷ map block_in (map block_rank (filter placed xs))) (sym (level (region_place where_placed) (region_place r.region) h))
      go false h = refl
  block_row _ xs = refl

  block_rows : (rows : List (Cell × Row)) → filter of_region (flat_map block_keys rows) ≡ map block_in (map block_rank (filter placed (blocks_of rows)))
  block_rows [] = refl
  block_rows (e ∷ es) = filter-append of_region (block_keys e) (flat_map block_keys es) ∙ ap (λ l. filter of_region (block_keys e) ++ l) (block_rows es) ∙ block_row e (blocks_of es)

  block_reads : (a b : BlockRank) → block_order.ghosts.cmp (block_in a) (block_in b) ≡ block_cmp a b
  block_reads a b = ap (λ r. ordering_then r (block_cmp a b)) (tied_itself nat_cmp_total (region_place where_placed))

  pub blocks_placed : (rows : List (Cell × Row)) → filter of_region (index_of block_order.ghosts.cmp block_keys rows) ≡ blocks_within rows where_placed
  blocks_placed rows =
      filter_in_order block_laws.total-law block_exact of_region (flat_map block_keys rows)
      ∙ ap (in_order block_order.ghosts.cmp) (block_rows rows)
      ∙ in_order_map block_order.ghosts.cmp block_in block_reads (map block_rank (filter placed (blocks_of rows)))

-- ---- the published nodes of a type

module _ (type : List ℕ) where
  abbrev is_so : ℕ × Node → Bool
  is_so e = e.1.status && bytes_eq e.1.node_type type

  abbrev typed : NodeRank → TypeKey
  typed r = record { node_type = type; rank = r }

  abbrev of_type : TypeKey → Bool
  of_type k = is_eq (slice_cmp nat_cmp type k.node_type)

  same_test : (own : List ℕ) → is_eq (slice_cmp nat_cmp type own) ≡ bytes_eq own type
  same_test own = (eq_by_cmp_equiv nat_list_cmp_total).symm type own ∙ is_eq-slice_cmp own type

  type_row : (e : Cell × Row) (xs : List (ℕ × Node)) → filter of_type (type_keys e) ++ map typed (map rank_of (filter is_so xs)) ≡ map typed (map rank_of (filter is_so (cons_option (node_entry e) xs)))
  type_row (cell.Node n, row.Node r) xs = go r.status (bytes_eq r.node_type type) refl
    where
      go : (s b : Bool) → bytes_eq r.node_type type ≡ b → filter of_type (cond s (record { node_type = r.node_type; rank = rank_of (n, r) } ∷ []) []) ++ map typed (map rank_of (filter is_so xs)) ≡ map typed (map rank_of (cond (s && b) ((n, r) ∷ filter is_so xs) (filter is_so xs)))
      go false b h = refl
      go true true h =
          ap (λ c. cond c (record { node_type = r.node_type; rank = rank_of (n, r) } ∷ []) [] ++ map typed (map rank_of (filter is_so xs))) (same_test r.node_type ∙ h)
          ∙ ap (λ (t : List ℕ). record { node_type = t; rank = rank_of (n, r) } ∷ map typed (map rank_of (filter is_so xs))) ((bytes_eq-Decides r.node_type type).0 h)
      go true false h = ap (λ c. cond c (record { node_type = r.node_type; rank = rank_of (n, r) } ∷ []) [] ++ map typed (map rank_of (filter is_so xs))) (same_test r.node_type ∙ h)
  type_row _ xs = refl

  type_rows : (rows : List (Cell × Row)) → filter of_type (flat_map type_keys rows) ≡ map typed (map rank_of (filter is_so (nodes_of rows)))
  type_rows [] = refl
  type_rows (e ∷ es) = filter-append of_type (type_keys e) (flat_map type_keys es) ∙ ap (λ l. filter of_type (type_keys e) ++ l) (type_rows es) ∙ type_row e (nodes_of es)

  type_reads : (a b : NodeRank) → type_order.ghosts.cmp (typed a) (typed b) ≡ rank_cmp a b
  type_reads a b = ap (λ r. ordering_then r (rank_cmp a b)) (tied_itself nat_list_cmp_total type)

  pub published_typed : (rows : List (Cell × Row)) → filter of_type (index_of type_order.ghosts.cmp type_keys rows) ≡ published_of rows type
  published_typed rows =
      filter_in_order type_laws.total-law type_exact of_type (flat_map type_keys rows)
      ∙ ap (in_order type_order.ghosts.cmp) (type_rows rows)
      ∙ in_order_map type_order.ghosts.cmp typed type_reads (map rank_of (filter is_so (nodes_of rows)))

-- ---- the published nodes with a term

module _ (term : ℕ) where
  abbrev has : ℕ × Node → Bool
  has e = e.1.status && list_any (λ t. t == term) e.1.terms

  abbrev termed : NodeRank → TermKey
  termed r = record { term = term; rank = r }

  abbrev with_term : TermKey → Bool
  with_term k = is_eq (nat_cmp term k.term)

  abbrev mem : TermKey → List TermKey → Bool
  mem q ks = list_any (eq_by_cmp term_order.ghosts.cmp q) ks

  twice : (a b : Bool) → (a || (b && a)) ≡ a
  twice true b = refl
  twice false true = refl
  twice false false = refl

  same_term : (t : ℕ) → is_eq (nat_cmp term t) ≡ (t == term)
  same_term t = (eq_by_cmp_equiv nat_cmp_total).symm term t ∙ unsigned_tied t term

  -- of the keys of one node those with the term are one key, where it has the term
  terms_any : (q : TermKey) (rank : NodeRank) (ts : List ℕ) → mem q (filter with_term (term_keys_of rank ts)) ≡ (list_any (λ t. t == term) ts && eq_by_cmp term_order.ghosts.cmp q (termed rank))
  terms_any q rank [] = refl
  terms_any q rank (t ∷ ts) =
      ap (λ b. mem q (cond b (record { term = t; rank = rank } ∷ filter with_term (term_keys_of rank ts)) (filter with_term (term_keys_of rank ts)))) (same_term t)
      ∙ go (t == term) refl (terms_any q rank ts)
    where
      go : (b : Bool) → (t == term) ≡ b → mem q (filter with_term (term_keys_of rank ts)) ≡ (list_any (λ t. t == term) ts && eq_by_cmp term_order.ghosts.cmp q (termed rank))
          → mem q (cond b (record { term = t; rank = rank } ∷ filter with_term (term_keys_of rank ts)) (filter with_term (term_keys_of rank ts))) ≡ ((b || list_any (λ t. t == term) ts) && eq_by_cmp term_order.ghosts.cmp q (termed rank))
      go true h more =
          ap (λ b. eq_by_cmp term_order.ghosts.cmp q (record { term = t; rank = rank }) || b) more
          ∙ ap (λ (n : ℕ). eq_by_cmp term_order.ghosts.cmp q (record { term = n; rank = rank }) || (list_any (λ t. t == term) ts && eq_by_cmp term_order.ghosts.cmp q (termed rank))) (level t term h)
          ∙ twice (eq_by_cmp term_order.ghosts.cmp q (termed rank)) (list_any (λ t. t == term) ts)
      go false h more = more

  term_row : (q : TermKey) (e : Cell × Row) (xs : List (ℕ × Node)) → (mem q (filter with_term (term_keys e)) || mem q (map termed (map rank_of (filter has xs)))) ≡ mem q (map termed (map rank_of (filter has (cons_option (node_entry e) xs))))
  term_row q (cell.Node n, row.Node r) xs = go r.status (list_any (λ t. t == term) r.terms) (terms_any q (rank_of (n, r)) r.terms)
    where
      go : (s b : Bool) → mem q (filter with_term (term_keys_of (rank_of (n, r)) r.terms)) ≡ (b && eq_by_cmp term_order.ghosts.cmp q (termed (rank_of (n, r))))
          → (mem q (filter with_term (cond s (term_keys_of (rank_of (n, r)) r.terms) [])) || mem q (map termed (map rank_of (filter has xs)))) ≡ mem q (map termed (map rank_of (cond (s && b) ((n, r) ∷ filter has xs) (filter has xs))))
      go false b h = refl
      go true true h = ap (λ c. c || mem q (map termed (map rank_of (filter has xs)))) h
      go true false h = ap (λ c. c || mem q (map termed (map rank_of (filter has xs)))) h
  term_row q _ xs = refl

  term_rows : (q : TermKey) (rows : List (Cell × Row)) → mem q (filter with_term (flat_map term_keys rows)) ≡ mem q (map termed (map rank_of (filter has (nodes_of rows))))
  term_rows q [] = refl
  term_rows q (e ∷ es) =
      ap (mem q) (filter-append with_term (term_keys e) (flat_map term_keys es))
      ∙ list_any-append (eq_by_cmp term_order.ghosts.cmp q) (filter with_term (term_keys e)) (filter with_term (flat_map term_keys es))
      ∙ ap (λ b. mem q (filter with_term (term_keys e)) || b) (term_rows q es)
      ∙ term_row q e (nodes_of es)

  term_reads : (a b : NodeRank) → term_order.ghosts.cmp (termed a) (termed b) ≡ rank_cmp a b
  term_reads a b = ap (λ r. ordering_then r (rank_cmp a b)) (tied_itself nat_cmp_total term)

  pub published_termed : (rows : List (Cell × Row)) → filter with_term (index_of term_order.ghosts.cmp term_keys rows) ≡ published_with rows term
  published_termed rows =
      filter_in_order term_laws.total-law term_exact with_term (flat_map term_keys rows)
      ∙ same_order term_laws.total-law term_exact (filter with_term (flat_map term_keys rows)) (map termed (map rank_of (filter has (nodes_of rows)))) (λ q. term_rows q rows)
      ∙ in_order_map term_order.ghosts.cmp termed term_reads (map rank_of (filter has (nodes_of rows)))
