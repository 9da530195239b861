-- Nodes in the order of listings: a test may come before or after, and the nodes of a listing's types are enough.
use Rattle.std.proofs.Common.{◌≡◌, ◌∙◌, ℕ, List, [], ◌∷◌, true, false, refl, sym, ap, rules}
use Rattle.std.proofs.Math.Path.{fun_ext}
use Rattle.std.specs.Prelude.{Bool, ◌&&◌, ◌||◌, not, map, if◌then◌else◌}
use Rattle.std.specs.List.{filter, flat_map, list_any}
use Rattle.std.specs.Str.{bytes_eq}
use Rattle.std.specs.Ordering.{is_eq, eq_by_cmp}
use Rattle.std.specs.Cmp.{IsTotalOrder}
use Rattle.std.proofs.lemmas.List.Folds.{list_any-append}
use Rattle.std.proofs.lemmas.Map.Lookups.{CmpEqualImpliesEq}
use Rattle.content_rows.specs.declared.cell.Cell.{Cell}
use Rattle.content_rows.specs.declared.row.Row.{Row}
use Rattle.content_rows.specs.declared.row.Node.{Node}
use Rattle.content_rows.specs.declared.row.Listing.{Listing}
use Rattle.content_rows.specs.declared.row.Term.{Term}
use Rattle.indexed_rows.specs.Rows.{nodes_of, nodes_of_type, terms_of}
use Rattle.row_keys.specs.declared.rank.NodeRank.{NodeRank}
use Rattle.row_keys.specs.contracts.rank.NodeRankPartialEq.TheImpl as same
use Rattle.row_keys.specs.contracts.rank.NodeRankOrd.TheImpl.Laws as laws
use Rattle.site_lists.specs.Listed.{in_order, rank_of, rank_cmp, is_listed, is_of_types, has_term, is_recent, ids_in_order, candidates}
use Rattle.index_law.proofs.Orders.{same_order, filter_in_order}

same_rank : (a b : NodeRank) → same.ghosts.eq a b ≡ true → a ≡ b
same_rank a b h = search rules

pub rank_exact : CmpEqualImpliesEq rank_cmp
rank_exact a b h = same_rank a b (laws.matches_eq-law a b ∙ ap is_eq h)

pub rank_total : IsTotalOrder rank_cmp
rank_total = laws.total-law

-- ---- tests of lists

pub map_filter_any : {X Y : Type 0} (f : X → Y) (p : X → Bool) (t : Y → Bool) (xs : List X) → list_any t (map f (filter p xs)) ≡ list_any (λ x. p x && t (f x)) xs
map_filter_any f p t [] = refl
map_filter_any f p t (x ∷ xs) = elim (p x) as (λ b. list_any t (map f (if b then x ∷ filter p xs else filter p xs)) ≡ ((b && t (f x)) || list_any (λ y. p y && t (f y)) xs)) [
  | true ↦ ap (λ b. t (f x) || b) (map_filter_any f p t xs)
  | false ↦ map_filter_any f p t xs
]

any_filter : {X : Type 0} (p t : X → Bool) (xs : List X) → list_any t (filter p xs) ≡ list_any (λ x. p x && t x) xs
any_filter p t [] = refl
any_filter p t (x ∷ xs) = elim (p x) as (λ b. list_any t (if b then x ∷ filter p xs else filter p xs) ≡ ((b && t x) || list_any (λ y. p y && t y) xs)) [
  | true ↦ ap (λ b. t x || b) (any_filter p t xs)
  | false ↦ any_filter p t xs
]

pub any_never : {X : Type 0} (xs : List X) → false ≡ list_any (λ x. false) xs
any_never [] = refl
any_never (x ∷ xs) = any_never xs

four_or : (a b c d : Bool) → ((a || b) || (c || d)) ≡ ((a || c) || (b || d))
four_or true b c d = refl
four_or false true true d = refl
four_or false true false d = refl
four_or false false c d = refl

pub any_or : {X : Type 0} (p t : X → Bool) (xs : List X) → (list_any p xs || list_any t xs) ≡ list_any (λ x. p x || t x) xs
any_or p t [] = refl
any_or p t (x ∷ xs) = four_or (p x) (list_any p xs) (t x) (list_any t xs) ∙ ap (λ b. (p x || t x) || b) (any_or p t xs)

or_and : (a b c : Bool) → ((a && c) || (b && c)) ≡ ((a || b) && c)
or_and true true true = refl
or_and true true false = refl
or_and true false true = refl
or_and true false false = refl
or_and false b c = refl

-- ---- what a listing chooses among

module _ (rows : List (Cell × Row)) where
  abbrev pub chosen_among : List (List ℕ) → List (ℕ × Node)
  chosen_among [] = nodes_of rows
  chosen_among (t ∷ ts) = flat_map (nodes_of_type rows) (t ∷ ts)

  of_types_any : (ts : List (List ℕ)) (test : ℕ × Node → Bool)
      → list_any test (flat_map (nodes_of_type rows) ts) ≡ list_any (λ e. list_any (bytes_eq e.1.node_type) ts && test e) (nodes_of rows)
  of_types_any [] test = any_never (nodes_of rows)
  of_types_any (t ∷ ts) test =
      list_any-append test (nodes_of_type rows t) (flat_map (nodes_of_type rows) ts)
      ∙ ap (λ b. b || list_any test (flat_map (nodes_of_type rows) ts)) (any_filter (λ e. bytes_eq e.1.node_type t) test (nodes_of rows))
      ∙ ap (λ b. list_any (λ e. bytes_eq e.1.node_type t && test e) (nodes_of rows) || b) (of_types_any ts test)
      ∙ any_or (λ e. bytes_eq e.1.node_type t && test e) (λ e. list_any (bytes_eq e.1.node_type) ts && test e) (nodes_of rows)
      ∙ ap (λ f. list_any f (nodes_of rows)) (fun_ext (λ e. or_and (bytes_eq e.1.node_type t) (list_any (bytes_eq e.1.node_type) ts) (test e)))

-- what a listing has is of its types
of_its_types : (a b c d h r : Bool) → (c && (((a && b && c && d) && h) && r)) ≡ (((a && b && c && d) && h) && r)
of_its_types true true true d h r = refl
of_its_types true true false d h r = refl
of_its_types true false true d h r = refl
of_its_types true false false d h r = refl
of_its_types false b true d h r = refl
of_its_types false b false d h r = refl

module _ (terms : List (ℕ × Term)) (rows : List (Cell × Row)) (listing : Listing) (moment : ℕ) where
  abbrev test : NodeRank → ℕ × Node → Bool
  test q e = is_listed terms listing moment e.1 && eq_by_cmp rank_cmp q (rank_of e)

  same_test : (ts : List (List ℕ)) → listing.types ≡ ts → (q : NodeRank) (e : ℕ × Node) → (is_of_types ts e.1.node_type && test q e) ≡ test q e
  same_test ts is q e =
      ap (λ us. is_of_types us e.1.node_type && test q e) (sym is)
      ∙ of_its_types e.1.status (not listing.promoted || e.1.promote) (is_of_types listing.types e.1.node_type) (is_recent listing.recent moment e.1.created) (has_term terms listing.term e.1.terms) (eq_by_cmp rank_cmp q (rank_of e))

  chosen_any : (ts : List (List ℕ)) → listing.types ≡ ts → (q : NodeRank) → list_any (test q) (chosen_among rows ts) ≡ list_any (test q) (nodes_of rows)
  chosen_any [] is q = refl
  chosen_any (t ∷ ts) is q = of_types_any rows (t ∷ ts) (test q) ∙ ap (λ f. list_any f (nodes_of rows)) (fun_ext (same_test (t ∷ ts) is q))

  -- the nodes of a listing's types are enough
  pub chosen_enough : ids_in_order (filter (λ e. is_listed terms listing moment e.1) (chosen_among rows listing.types)) ≡ ids_in_order (filter (λ e. is_listed terms listing moment e.1) (nodes_of rows))
  chosen_enough =
      let p = λ (e : ℕ × Node). is_listed terms listing moment e.1 in
      ap (map (λ r. r.id.0)) (same_order rank_total rank_exact (map rank_of (filter p (chosen_among rows listing.types))) (map rank_of (filter p (nodes_of rows)))
      (λ q.
      map_filter_any rank_of p (eq_by_cmp rank_cmp q) (chosen_among rows listing.types)
      ∙ chosen_any listing.types refl q
      ∙ sym (map_filter_any rank_of p (eq_by_cmp rank_cmp q) (nodes_of rows))))

-- ---- a test before the ordering or after it

filter_map_is : {X Y : Type 0} (f : X → Y) (q : Y → Bool) (xs : List X) → filter q (map f xs) ≡ map f (filter (λ x. q (f x)) xs)
filter_map_is f q [] = refl
filter_map_is f q (x ∷ xs) = elim (q (f x)) as (λ b. (if b then f x ∷ filter q (map f xs) else filter q (map f xs)) ≡ map f (if b then x ∷ filter (λ y. q (f y)) xs else filter (λ y. q (f y)) xs)) [
  | true ↦ ap (λ l. f x ∷ l) (filter_map_is f q xs)
  | false ↦ filter_map_is f q xs
]

filter_twice : {X : Type 0} (p q : X → Bool) (xs : List X) → filter q (filter p xs) ≡ filter (λ x. p x && q x) xs
filter_twice p q [] = refl
filter_twice p q (x ∷ xs) = elim (p x) as (λ b. filter q (if b then x ∷ filter p xs else filter p xs) ≡ (if b && q x then x ∷ filter (λ y. p y && q y) xs else filter (λ y. p y && q y) xs)) [
  | true ↦ elim (q x) as (λ b. (if b then x ∷ filter q (filter p xs) else filter q (filter p xs)) ≡ (if b then x ∷ filter (λ y. p y && q y) xs else filter (λ y. p y && q y) xs)) [
    | true ↦ ap (λ l. x ∷ l) (filter_twice p q xs)
    | false ↦ filter_twice p q xs
  ]
  | false ↦ filter_twice p q xs
]

pub filter_candidates : (rows : List (Cell × Row)) (listing : Listing) (moment : ℕ) (q : ℕ → Bool)
    → filter q (candidates rows listing moment) ≡ ids_in_order (filter (λ e. is_listed (terms_of rows) listing moment e.1 && q e.0) (nodes_of rows))
filter_candidates rows listing moment q =
    let p = λ (e : ℕ × Node). is_listed (terms_of rows) listing moment e.1 in
    let nodes = filter p (nodes_of rows) in
    filter_map_is (λ r. r.id.0) q (in_order rank_cmp (map rank_of nodes))
    ∙ ap (map (λ r. r.id.0)) (filter_in_order rank_total rank_exact (λ r. q r.id.0) (map rank_of nodes) ∙ ap (in_order rank_cmp) (filter_map_is rank_of (λ r. q r.id.0) nodes))
    ∙ ap ids_in_order (filter_twice p (λ e. q e.0) (nodes_of rows))
