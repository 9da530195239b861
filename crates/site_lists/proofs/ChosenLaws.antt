-- The nodes of a listing are among those that the least fitting index gives.
use Rattle.std.proofs.Common.{ℕ, List, [], ◌∷◌, ◌≡◌, ◌≤◌, ◌+◌, ◌∙◌, refl, sym, ap, subst, Bool, true, false, cond, Option, Some, None, map, length, flat_map, arith}
use Rattle.std.proofs.Math.Path.{fun_ext}
use Rattle.std.specs.Prelude.{◌&&◌, ◌||◌, ◌==◌, not, fold}
use Rattle.std.specs.List.{AllByRecursion, filter, list_any, sum_by}
use Rattle.std.specs.Str.{bytes_eq}
use Rattle.std.specs.BTreeSet.{insert_key}
use Rattle.std.specs.Ordering.{eq_by_cmp, match_ordering}
use Rattle.std.specs.declared.cmp.Ordering.{Ordering}
use Rattle.std.specs.declared.cmp.Ordering.TheVariants.{Less, Equal, Greater}
use Rattle.std.proofs.lemmas.List.{length-map}
use Rattle.std.proofs.lemmas.List.Concat.{length-flat_map}
use Rattle.std.proofs.lemmas.List.Folds.{list_any-append}
use Rattle.std.proofs.lemmas.List.Sums.{sum_by-cons}
use Rattle.std.proofs.lemmas.Map.Views.{tells_apart}
use Rattle.content_rows.specs.declared.cell.Cell.{Cell}
use Rattle.content_rows.specs.declared.row.Row.{Row}
use Rattle.content_rows.specs.declared.row.Node.{Node}
use Rattle.content_rows.specs.declared.row.Listing.{Listing}
use Rattle.row_keys.specs.declared.rank.NodeRank.{NodeRank}
use Rattle.row_keys.specs.declared.rank.TypeKey.{TypeKey}
use Rattle.row_keys.specs.declared.rank.TermKey.{TermKey}
use Rattle.index_law.proofs.Orders.{same_order, filter_any, in_order_any}
use Rattle.indexed_rows.specs.Rows.{nodes_of, terms_of, InOrder}
use Rattle.content_state.specs.Ranked.{ranks_in_order}
use Rattle.site_lists.specs.Listed.{in_order, rank_of, rank_cmp, is_fit, is_listed, is_of_types, is_recent, has_term}
use Rattle.site_lists.specs.Below.{terms_within}
use Rattle.site_lists.specs.Chosen.{passes, has_node, ranks_with, ranks_typed, ranks_among, published_count}
use Rattle.site_lists.proofs.Ranks.{map_filter_any, any_never, any_or, rank_exact, rank_total}
use Rattle.site_lists.proofs.Terms.{own_within}
use Rattle.site_lists.proofs.There.{Found, nodes_found}

-- one more of a list that is put in order
pub one_more : {K : Type 0} (cmp : K → K → Ordering) (b : Bool) (keys : List K) (k : K) (rest : List K) → fold (insert_key cmp) (cond b (insert_key cmp keys k) keys) rest ≡ fold (insert_key cmp) keys (cond b (k ∷ rest) rest)
one_more cmp true keys k rest = refl
one_more cmp false keys k rest = refl

-- ---- of tests

and_false : (a : Bool) → (a && false) ≡ false
and_false true = refl
and_false false = refl

and_true : (a : Bool) → (a && true) ≡ a
and_true true = refl
and_true false = refl

and_or : (a b c : Bool) → (a && (b || c)) ≡ ((a && b) || (a && c))
and_or true b c = refl
and_or false b c = refl

either_fits : (s a b x : Bool) → (((s && a) && x) || ((s && b) && x)) ≡ ((s && (a || b)) && x)
either_fits false a b x = refl
either_fits true true true true = refl
either_fits true true true false = refl
either_fits true true false true = refl
either_fits true true false false = refl
either_fits true false b x = refl

no_fit : (s x : Bool) → ((s && false) && x) ≡ false
no_fit true x = refl
no_fit false x = refl

-- what all of four tests pass, each passes
first_of_four : (a b c d : Bool) → (a && b && c && d) ≡ true → a ≡ true
first_of_four true b c d h = refl
first_of_four false b c d h = cc

third_of_four : (a b c d : Bool) → (a && b && c && d) ≡ true → c ≡ true
third_of_four true true true d h = refl
third_of_four true true false d h = cc
third_of_four true false c d h = cc
third_of_four false b c d h = cc

both : (a b : Bool) → a ≡ true → b ≡ true → (a && b) ≡ true
both true b h g = g
both false b h g = cc

-- ---- what an index gives, and the nodes that fit

pub untyped : (type : List ℕ) (ranks : List NodeRank) → map (λ (k : TypeKey). k.rank) (map (λ (r : NodeRank). record { node_type = type; rank = r }) ranks) ≡ ranks
untyped type [] = refl
untyped type (r ∷ rs) = ap (λ l. r ∷ l) (untyped type rs)

pub untermed : (term : ℕ) (ranks : List NodeRank) → map (λ (k : TermKey). k.rank) (map (λ (r : NodeRank). record { term = term; rank = r }) ranks) ≡ ranks
untermed term [] = refl
untermed term (r ∷ rs) = ap (λ l. r ∷ l) (untermed term rs)

abbrev same : NodeRank → NodeRank → Bool
same q r = eq_by_cmp rank_cmp q r

ordered_any : (fits : ℕ × Node → Bool) (nodes : List (ℕ × Node)) (q : NodeRank) → list_any (same q) (ranks_in_order (filter fits nodes)) ≡ list_any (λ e. fits e && same q (rank_of e)) nodes
ordered_any fits nodes q = in_order_any rank_total rank_exact (same q) (map rank_of (filter fits nodes)) ∙ map_filter_any rank_of fits (same q) nodes

abbrev given : List (Cell × Row) → Option ℕ → List (List ℕ) → ℕ × Node → Bool
given rows (Some top) types e = e.1.status && has_term (terms_of rows) (Some top) e.1.terms
given rows None [] e = e.1.status
given rows None (t ∷ ts) e = e.1.status && list_any (bytes_eq e.1.node_type) (t ∷ ts)

typed_any : (rows : List (Cell × Row)) (q : NodeRank) (ts : List (List ℕ)) → list_any (same q) (flat_map (ranks_typed rows) ts) ≡ list_any (λ e. (e.1.status && list_any (bytes_eq e.1.node_type) ts) && same q (rank_of e)) (nodes_of rows)
typed_any rows q [] = any_never (nodes_of rows) ∙ ap (λ (f : ℕ × Node → Bool). list_any f (nodes_of rows)) (fun_ext (λ e. sym (no_fit e.1.status (same q (rank_of e)))))
typed_any rows q (t ∷ ts) =
    list_any-append (same q) (ranks_typed rows t) (flat_map (ranks_typed rows) ts)
    ∙ ap (λ b. b || list_any (same q) (flat_map (ranks_typed rows) ts)) (
    ap (list_any (same q)) (untyped t (ranks_in_order (filter (λ e. e.1.status && bytes_eq e.1.node_type t) (nodes_of rows))))
    ∙ ordered_any (λ e. e.1.status && bytes_eq e.1.node_type t) (nodes_of rows) q
    )
    ∙ ap (λ b. list_any (λ e. (e.1.status && bytes_eq e.1.node_type t) && same q (rank_of e)) (nodes_of rows) || b) (typed_any rows q ts)
    ∙ any_or (λ e. (e.1.status && bytes_eq e.1.node_type t) && same q (rank_of e)) (λ e. (e.1.status && list_any (bytes_eq e.1.node_type) ts) && same q (rank_of e)) (nodes_of rows)
    ∙ ap (λ (f : ℕ × Node → Bool). list_any f (nodes_of rows)) (fun_ext (λ e. either_fits e.1.status (bytes_eq e.1.node_type t) (list_any (bytes_eq e.1.node_type) ts) (same q (rank_of e))))

with_any : (rows : List (Cell × Row)) (q : NodeRank) (us : List ℕ) → list_any (same q) (flat_map (ranks_with rows) us) ≡ list_any (λ e. (e.1.status && list_any (λ u. list_any (λ t. t == u) e.1.terms) us) && same q (rank_of e)) (nodes_of rows)
with_any rows q [] = any_never (nodes_of rows) ∙ ap (λ (f : ℕ × Node → Bool). list_any f (nodes_of rows)) (fun_ext (λ e. sym (no_fit e.1.status (same q (rank_of e)))))
with_any rows q (u ∷ us) =
    list_any-append (same q) (ranks_with rows u) (flat_map (ranks_with rows) us)
    ∙ ap (λ b. b || list_any (same q) (flat_map (ranks_with rows) us)) (
    ap (list_any (same q)) (untermed u (ranks_in_order (filter (λ e. e.1.status && list_any (λ t. t == u) e.1.terms) (nodes_of rows))))
    ∙ ordered_any (λ e. e.1.status && list_any (λ t. t == u) e.1.terms) (nodes_of rows) q
    )
    ∙ ap (λ b. list_any (λ e. (e.1.status && list_any (λ t. t == u) e.1.terms) && same q (rank_of e)) (nodes_of rows) || b) (with_any rows q us)
    ∙ any_or (λ e. (e.1.status && list_any (λ t. t == u) e.1.terms) && same q (rank_of e)) (λ e. (e.1.status && list_any (λ v. list_any (λ t. t == v) e.1.terms) us) && same q (rank_of e)) (nodes_of rows)
    ∙ ap (λ (f : ℕ × Node → Bool). list_any f (nodes_of rows)) (fun_ext (λ e. either_fits e.1.status (list_any (λ t. t == u) e.1.terms) (list_any (λ v. list_any (λ t. t == v) e.1.terms) us) (same q (rank_of e))))

among_any : (rows : List (Cell × Row)) → InOrder rows → (term : Option ℕ) (types : List (List ℕ)) (q : NodeRank) → list_any (same q) (ranks_among rows term types) ≡ list_any (λ e. given rows term types e && same q (rank_of e)) (nodes_of rows)
among_any rows ordered (Some top) types q =
    with_any rows q (terms_within rows top)
    ∙ ap (λ (f : ℕ × Node → Bool). list_any f (nodes_of rows)) (fun_ext (λ e. ap (λ b. (e.1.status && b) && same q (rank_of e)) (own_within rows ordered top e.1.terms)))
among_any rows ordered None [] q = ordered_any (λ e. e.1.status) (nodes_of rows) q
among_any rows ordered None (t ∷ ts) q = typed_any rows q (t ∷ ts)

-- of what a listing asks for, an index gives all that has its term
fit_given : (rows : List (Cell × Row)) (listing : Listing) (moment : ℕ) (e : ℕ × Node) (b : Bool) → is_fit listing moment e.1 ≡ b
    → (term : Option ℕ) (types : List (List ℕ)) → listing.types ≡ types → (b && given rows term types e) ≡ (b && has_term (terms_of rows) term e.1.terms)
fit_given rows listing moment e false h term types is_types = refl
fit_given rows listing moment e true h (Some top) types is_types = ap (λ s. s && has_term (terms_of rows) (Some top) e.1.terms) (first_of_four _ _ _ _ h)
fit_given rows listing moment e true h None [] is_types = first_of_four _ _ _ _ h
fit_given rows listing moment e true h None (t ∷ ts) is_types =
    both e.1.status (list_any (bytes_eq e.1.node_type) (t ∷ ts)) (first_of_four _ _ _ _ h) (subst (λ us. is_of_types us e.1.node_type ≡ true) is_types (third_of_four e.1.status (not listing.promoted || e.1.promote) (is_of_types listing.types e.1.node_type) (is_recent listing.recent moment e.1.created) h))

module _ (rows : List (Cell × Row)) (listing : Listing) (moment : ℕ) where
  abbrev test : NodeRank → Bool
  test r = passes rows listing moment r

  one_node : (q : NodeRank) (e : ℕ × Node) → Found rows e → (test q && (given rows listing.term listing.types e && same q (rank_of e))) ≡ (is_listed (terms_of rows) listing moment e.1 && same q (rank_of e))
  one_node q e found = go (same q (rank_of e)) refl
    where
      go : (b : Bool) → same q (rank_of e) ≡ b → (test q && (given rows listing.term listing.types e && b)) ≡ (is_listed (terms_of rows) listing moment e.1 && b)
      go true h =
          ap (λ b. test q && b) (and_true (given rows listing.term listing.types e))
          ∙ ap (λ (r : NodeRank). test r && given rows listing.term listing.types e) (tells_apart rank_exact q (rank_of e) h)
          ∙ ap (λ o. has_node listing moment o && given rows listing.term listing.types e) found
          ∙ fit_given rows listing moment e (is_fit listing moment e.1) refl listing.term listing.types refl
          ∙ sym (and_true (is_listed (terms_of rows) listing moment e.1))
      go false h =
          ap (λ b. test q && b) (and_false (given rows listing.term listing.types e)) ∙ and_false (test q) ∙ sym (and_false (is_listed (terms_of rows) listing moment e.1))

  all_nodes : (q : NodeRank) (es : List (ℕ × Node)) → AllByRecursion (Found rows) es → (test q && list_any (λ e. given rows listing.term listing.types e && same q (rank_of e)) es) ≡ list_any (λ e. is_listed (terms_of rows) listing moment e.1 && same q (rank_of e)) es
  all_nodes q [] found = and_false (test q)
  all_nodes q (e ∷ es) found =
      and_or (test q) (given rows listing.term listing.types e && same q (rank_of e)) (list_any (λ e. given rows listing.term listing.types e && same q (rank_of e)) es)
      ∙ (λ i. one_node q e found.0 i || all_nodes q es found.1 i)

  pub chosen_right : InOrder rows → in_order rank_cmp (filter test (ranks_among rows listing.term listing.types)) ≡ in_order rank_cmp (map rank_of (filter (λ e. is_listed (terms_of rows) listing moment e.1) (nodes_of rows)))
  chosen_right ordered = same_order rank_total rank_exact (filter test (ranks_among rows listing.term listing.types)) (map rank_of (filter (λ e. is_listed (terms_of rows) listing moment e.1) (nodes_of rows)))
      (λ q.
      filter_any rank_total rank_exact test q (ranks_among rows listing.term listing.types)
      ∙ ap (λ b. test q && b) (among_any rows ordered listing.term listing.types q)
      ∙ all_nodes q (nodes_of rows) (nodes_found rows ordered)
      ∙ sym (map_filter_any rank_of (λ e. is_listed (terms_of rows) listing moment e.1) (same q) (nodes_of rows)))

-- ---- how many they are

put_length : (ks : List NodeRank) (k : NodeRank) → length (insert_key rank_cmp ks k) ≤ length ks + 1
put_length [] k = omega arith
put_length (x ∷ xs) k = go (rank_cmp k x) (put_length xs k)
  where
    go : (o : Ordering) → length (insert_key rank_cmp xs k) ≤ length xs + 1 → length (match_ordering o (k ∷ x ∷ xs) (x ∷ xs) (x ∷ insert_key rank_cmp xs k)) ≤ length (x ∷ xs) + 1
    go Less h = omega arith
    go Equal h = omega arith
    go Greater h = omega arith

order_length : (acc ks : List NodeRank) → length (fold (insert_key rank_cmp) acc ks) ≤ length acc + length ks
order_length acc [] = omega arith
order_length acc (k ∷ ks) = let rest = order_length (insert_key rank_cmp acc k) ks in let one = put_length acc k in omega arith

ranks_length : (nodes : List (ℕ × Node)) → length (ranks_in_order nodes) ≤ length nodes
ranks_length nodes = let most = order_length [] (map rank_of nodes) in let same_length = length-map nodes rank_of in omega arith

abbrev typed : List (Cell × Row) → List ℕ → ℕ
typed rows type = length (filter (λ e. e.1.status && bytes_eq e.1.node_type type) (nodes_of rows))

type_length : (rows : List (Cell × Row)) (type : List ℕ) → length (ranks_typed rows type) ≤ typed rows type
type_length rows type =
    let nodes = filter (λ e. e.1.status && bytes_eq e.1.node_type type) (nodes_of rows) in
    subst (λ l. length l ≤ length nodes) (sym (untyped type (ranks_in_order nodes))) (ranks_length nodes)

abbrev termed : List (Cell × Row) → ℕ → ℕ
termed rows term = length (filter (λ e. e.1.status && list_any (λ t. t == term) e.1.terms) (nodes_of rows))

term_length : (rows : List (Cell × Row)) (term : ℕ) → length (ranks_with rows term) ≤ termed rows term
term_length rows term =
    let nodes = filter (λ e. e.1.status && list_any (λ t. t == term) e.1.terms) (nodes_of rows) in
    subst (λ l. length l ≤ length nodes) (sym (untermed term (ranks_in_order nodes))) (ranks_length nodes)

module _ {X : Type 0} (gives : X → List NodeRank) (most : X → ℕ) (within : (x : X) → length (gives x) ≤ most x) where
  sums : (xs : List X) → sum_by (λ x. length (gives x)) xs ≤ sum_by most xs
  sums [] = omega arith
  sums (x ∷ xs) =
      let rest = sums xs in
      let own = within x in
      let one = sum_by-cons (λ y. length (gives y)) x xs in
      let other = sum_by-cons most x xs in
      omega arith

  all_length : (xs : List X) → length (flat_map gives xs) ≤ sum_by most xs
  all_length xs = subst (λ n. n ≤ sum_by most xs) (sym (length-flat_map gives xs)) (sums xs)

pub count_right : (rows : List (Cell × Row)) (term : Option ℕ) (types : List (List ℕ)) → length (ranks_among rows term types) ≤ published_count rows term types
count_right rows (Some top) types = all_length (ranks_with rows) (termed rows) (term_length rows) (terms_within rows top)
count_right rows None [] = ranks_length (filter (λ e. e.1.status) (nodes_of rows))
count_right rows None (t ∷ ts) = all_length (ranks_typed rows) (typed rows) (type_length rows) (t ∷ ts)
