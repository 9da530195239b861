-- The rows of a site, in the order of their cells, give their targets kind by kind.
use Rattle.std.proofs.Common.{ℕ, List, [], ◌∷◌, ◌++◌, ◌≡◌, ◌≢◌, ◌≤◌, ◌<◌, refl, sym, ◌∙◌, ap, append_assoc, arith, Option, Some, None}
use Rattle.std.specs.List.{filter_map, cons_option, AllByRecursion}
use Rattle.std.specs.Map.{keys_of}
use Rattle.std.specs.Ordering.{nat_cmp, is_lt, ordering_then, ordering_reverse}
use Rattle.std.specs.declared.cmp.Ordering.{Ordering}
use Rattle.std.specs.declared.cmp.Ordering.TheVariants.{Less, Equal, Greater}
use Rattle.std.proofs.lemmas.Cmp.{nat_cmp_total}
use Rattle.std.proofs.lemmas.List.{append-nil}
use Rattle.std.proofs.lemmas.Map.Keys.{sorted_head, sorted_tail, ge_from_not_lt}
use Rattle.content_rows.specs.CellOrder.{cell_cmp, kind_place, within_kind}
use Rattle.content_rows.specs.declared.cell.Cell.{Cell}
use Rattle.content_rows.specs.declared.cell.Cell.TheVariants as cell
use Rattle.content_rows.specs.declared.row.Row.{Row}
use Rattle.content_rows.proofs.CellLemmas.{cell_cmp_told}
use Rattle.indexed_rows.specs.Rows.{InOrder}
use Rattle.content_state.specs.Route.{root_path, login_path}
use Rattle.site_targets.specs.Canonical.{user_target, term_target, node_target, listing_target, row_target, canonical}

-- ---- the cells of a kind stand after those of the kinds before it

in_order : (a b : ℕ) (x rest : Ordering) → nat_cmp a b ≡ x → ordering_then x rest ≡ Less → a ≤ b
in_order a b Less rest is less = ge_from_not_lt b a (ap is_lt (nat_cmp_total.antisymm b a ∙ ap ordering_reverse is))
in_order a b Equal rest is less = ge_from_not_lt b a (ap is_lt (nat_cmp_total.antisymm b a ∙ ap ordering_reverse is))
in_order a b Greater rest is less = absurd (never less)
  where
    never : Greater ≡ Less → ⊥
    never e = cc

kinds_rise : (c d : Cell) → cell_cmp c d ≡ Less → kind_place c ≤ kind_place d
kinds_rise c d less =
    in_order (kind_place c) (kind_place d) (nat_cmp (kind_place c) (kind_place d)) (within_kind c d) refl (sym (cell_cmp_told c d) ∙ less)

-- the targets are of one kind's rows alone
abbrev IsOfKind : ℕ → (Cell × Row → Option (List ℕ)) → Type 0
IsOfKind place f = (e : Cell × Row) → kind_place e.0 ≢ place → f e ≡ None

users_alone : IsOfKind 4 user_target
users_alone (cell.User u, r) other = absurd (other refl)
users_alone _ other = refl

terms_alone : IsOfKind 5 term_target
terms_alone (cell.Term t, r) other = absurd (other refl)
terms_alone _ other = refl

nodes_alone : IsOfKind 6 node_target
nodes_alone (cell.Node n, r) other = absurd (other refl)
nodes_alone _ other = refl

none_after : (place : ℕ) (f : Cell × Row → Option (List ℕ)) (c : Cell) (rows : List (Cell × Row)) → IsOfKind place f → place < kind_place c → AllByRecursion (λ d. cell_cmp c d ≡ Less) (keys_of rows) → filter_map f rows ≡ []
none_after place f c [] alone later below = refl
none_after place f c (e ∷ rows) alone later below =
    let rises : kind_place c ≤ kind_place e.0 = kinds_rise c e.0 below.0 in
    ap (λ o. cons_option o (filter_map f rows)) (alone e (λ same. absurd (omega (arith, later, rises, same))))
    ∙ none_after place f c rows alone later below.1

-- ---- one more row, of a kind before which nothing is left of the kinds before

skip : (xs ys : List (List ℕ)) → xs ≡ [] → xs ++ ys ≡ ys
skip xs ys none = ap (λ l. l ++ ys) none

with_user : (o : Option (List ℕ)) (all users rest : List (List ℕ)) → all ≡ users ++ rest → cons_option o all ≡ cons_option o users ++ rest
with_user None all users rest is = is
with_user (Some t) all users rest is = ap (λ l. t ∷ l) is

with_term : (o : Option (List ℕ)) (all users terms rest : List (List ℕ)) → users ≡ [] → all ≡ users ++ (terms ++ rest) → cons_option o all ≡ users ++ (cons_option o terms ++ rest)
with_term o all users terms rest none is =
    with_user o all terms rest (is ∙ skip users (terms ++ rest) none) ∙ sym (skip users (cons_option o terms ++ rest) none)

with_node : (o : Option (List ℕ)) (all users terms nodes rest : List (List ℕ)) → users ≡ [] → terms ≡ [] → all ≡ users ++ (terms ++ (nodes ++ rest)) → cons_option o all ≡ users ++ (terms ++ (cons_option o nodes ++ rest))
with_node o all users terms nodes rest no_user no_term is =
    with_term o all terms nodes rest no_term (is ∙ skip users (terms ++ (nodes ++ rest)) no_user)
    ∙ sym (skip users (terms ++ (cons_option o nodes ++ rest)) no_user)

with_listing : (o : Option (List ℕ)) (all users terms nodes listings : List (List ℕ)) → users ≡ [] → terms ≡ [] → nodes ≡ [] → all ≡ users ++ (terms ++ (nodes ++ listings)) → cons_option o all ≡ users ++ (terms ++ (nodes ++ cons_option o listings))
with_listing o all users terms nodes listings no_user no_term no_node is =
    ap (cons_option o) (is ∙ skip users (terms ++ (nodes ++ listings)) no_user ∙ skip terms (nodes ++ listings) no_term ∙ skip nodes listings no_node)
    ∙ sym (skip users (terms ++ (nodes ++ cons_option o listings)) no_user ∙ skip terms (nodes ++ cons_option o listings) no_term ∙ skip nodes (cons_option o listings) no_node)

-- ---- all rows

abbrev users : List (Cell × Row) → List (List ℕ)
users rows = filter_map user_target rows

abbrev terms : List (Cell × Row) → List (List ℕ)
terms rows = filter_map term_target rows

abbrev nodes : List (Cell × Row) → List (List ℕ)
nodes rows = filter_map node_target rows

abbrev listings : List (Cell × Row) → List (List ℕ)
listings rows = filter_map listing_target rows

abbrev IsByKinds : List (Cell × Row) → Type 0
IsByKinds rows = filter_map row_target rows ≡ users rows ++ (terms rows ++ (nodes rows ++ listings rows))

-- the rows behind a cell, and whether they have targets of the kinds before it
record Behind (c : Cell) (rows : List (Cell × Row)) : Type 0 where
  by_kinds : IsByKinds rows
  no_user : 4 < kind_place c → users rows ≡ []
  no_term : 5 < kind_place c → terms rows ≡ []
  no_node : 6 < kind_place c → nodes rows ≡ []

behind : (c : Cell) (rows : List (Cell × Row)) → IsByKinds rows → AllByRecursion (λ d. cell_cmp c d ≡ Less) (keys_of rows) → Behind c rows
behind c rows is below = record {
  by_kinds = is;
  no_user = λ later. none_after 4 user_target c rows users_alone later below;
  no_term = λ later. none_after 5 term_target c rows terms_alone later below;
  no_node = λ later. none_after 6 node_target c rows nodes_alone later below;
}

one_more : (e : Cell × Row) (rows : List (Cell × Row)) → Behind e.0 rows → IsByKinds (e ∷ rows)
one_more (cell.User u, r) rows b =
    with_user (user_target (cell.User u, r)) (filter_map row_target rows) (users rows) (terms rows ++ (nodes rows ++ listings rows)) b.by_kinds
one_more (cell.Term t, r) rows b =
    with_term (term_target (cell.Term t, r)) (filter_map row_target rows) (users rows) (terms rows) (nodes rows ++ listings rows) (b.no_user (omega arith)) b.by_kinds
one_more (cell.Node n, r) rows b =
    with_node (node_target (cell.Node n, r)) (filter_map row_target rows) (users rows) (terms rows) (nodes rows) (listings rows) (b.no_user (omega arith)) (b.no_term (omega arith)) b.by_kinds
one_more (cell.Listing name, r) rows b =
    with_listing (listing_target (cell.Listing name, r)) (filter_map row_target rows) (users rows) (terms rows) (nodes rows) (listings rows) (b.no_user (omega arith)) (b.no_term (omega arith)) (b.no_node (omega arith)) b.by_kinds
one_more _ rows b = b.by_kinds

by_kinds : (rows : List (Cell × Row)) → InOrder rows → IsByKinds rows
by_kinds [] ordered = refl
by_kinds (e ∷ rows) ordered =
    one_more e rows
    (behind e.0 rows (by_kinds rows (sorted_tail cell_cmp e.0 (keys_of rows) ordered)) (sorted_head cell_cmp e.0 (keys_of rows) ordered))

-- with `/` before and the login form behind they are the canonical targets
pub are_canonical : (rows : List (Cell × Row)) → InOrder rows → (root_path ∷ filter_map row_target rows) ++ login_path ∷ [] ≡ canonical rows
are_canonical rows ordered =
    ap (λ l. root_path ∷ (l ++ login_path ∷ [])) (by_kinds rows ordered)
    ∙ ap (λ l. root_path ∷ l)
    (append_assoc (users rows) (terms rows ++ (nodes rows ++ listings rows)) (login_path ∷ [])
    ∙ ap (λ l. users rows ++ l) (append_assoc (terms rows) (nodes rows ++ listings rows) (login_path ∷ [])
    ∙ ap (λ l. terms rows ++ l) (append_assoc (nodes rows) (listings rows) (login_path ∷ []))))

-- the rows are all gone through
pub all_rows : (rows left : List (Cell × Row)) (targets whole : List (List ℕ)) (last : List ℕ) → InOrder rows → left ≡ [] → targets ++ filter_map row_target left ≡ root_path ∷ filter_map row_target rows → last ≡ login_path → whole ≡ targets ++ last ∷ [] → whole ≡ canonical rows
all_rows rows left targets whole last ordered gone so_far is_login added =
    added
    ∙ ap (λ t. targets ++ t ∷ []) is_login
    ∙ ap (λ l. l ++ login_path ∷ []) (sym (append-nil targets) ∙ ap (λ l. targets ++ filter_map row_target l) (sym gone) ∙ so_far)
    ∙ are_canonical rows ordered
