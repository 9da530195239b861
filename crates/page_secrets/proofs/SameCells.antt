-- Rows in the order of their cells that are alike at each cell are alike one after the other: so they have the same blocks, the
-- same cell has a path, and the nodes of a listing that the viewer may view are placed alike.
use Rattle.std.proofs.Common.{◌≡◌, ◌∙◌, ℕ, List, [], ◌∷◌, true, false, refl, sym, ap, subst, cond, map, inl, inr}
use Rattle.std.specs.Prelude.{Bool, ◌&&◌, ◌==◌, ◌⊎◌, Option, Some, None, option_map}
use Rattle.std.specs.List.{AllByRecursion, filter, filter_map, cons_option, find}
use Rattle.std.specs.Map.{keys_of}
use Rattle.std.specs.Ordering.{is_eq, ordering_reverse}
use Rattle.std.specs.Cmp.{tied_itself, Equal-is}
use Rattle.std.specs.declared.cmp.Ordering.TheVariants.{Less, Equal, Greater}
use Rattle.std.proofs.lemmas.Map.Keys.{sorted_head, sorted_tail}
use Rattle.cacheability.specs.declared.op.Op.TheVariants as op
use Rattle.content_rows.specs.CellOrder.{cell_cmp}
use Rattle.content_rows.proofs.CellLemmas.{cell_cmp_exact, cell_cmp_total}
use Rattle.content_rows.specs.declared.cell.Cell.{Cell}
use Rattle.content_rows.specs.declared.cell.Cell.TheVariants as cell
use Rattle.content_rows.specs.declared.row.Row.{Row}
use Rattle.content_rows.specs.declared.row.Row.TheVariants as row
use Rattle.content_rows.specs.declared.row.Node.{Node}
use Rattle.content_rows.specs.declared.row.Listing.{Listing}
use Rattle.content_rows.specs.declared.row.Term.{Term}
use Rattle.content_rows.specs.declared.row.Comment.{Comment}
use Rattle.content_state.specs.declared.ask.Viewer.{Viewer}
use Rattle.indexed_rows.specs.declared.unique.Unique.TheVariants as unique
use Rattle.indexed_rows.specs.Rows.{row_at, node_entry, term_entry, block_entry, comment_entry, nodes_of, terms_of, blocks_of, comments_of, comments_on, InOrder}
use Rattle.content_state.specs.Route.{cell_with}
use Rattle.indexed_rows.specs.Texts.{is_text, text_of}
use Rattle.site_access.specs.Access.{access_to_node}
use Rattle.site_lists.specs.Listed.{is_listed, rank_of}
use Rattle.render_canvas.specs.Decision.{is_allowed}
use Rattle.site_comments.specs.declared.reader.CommentReader.{CommentReader}
use Rattle.site_comments.specs.Viewed.{may_view_comment, reader_of}
use Rattle.page_secrets.specs.Alike.{AreAlikeNodes, with_fields, with_body}
use Rattle.page_secrets.proofs.AlikeComments.{IsHiddenComment, AreAlikeComments}
use Rattle.page_secrets.proofs.Likeness.{LookAlikeAt}

-- ---- rows in order

first_row : (e : Cell × Row) (es : List (Cell × Row)) → row_at (e ∷ es) e.0 ≡ Some e.1
first_row e es = ap (λ o. cond (is_eq o) (Some e.1) (row_at es e.0)) (tied_itself cell_cmp_total e.0)

-- a cell that is below all has no row
below_all : (c : Cell) (es : List (Cell × Row)) → AllByRecursion (λ k. cell_cmp c k ≡ Less) (keys_of es) → row_at es c ≡ None
below_all c [] all = refl
below_all c (e ∷ es) all = ap (λ o. cond (is_eq o) (Some e.1) (row_at es c)) all.0 ∙ below_all c es all.1

all_below : (c d : Cell) (ks : List Cell) → cell_cmp c d ≡ Less → AllByRecursion (λ k. cell_cmp d k ≡ Less) ks → AllByRecursion (λ k. cell_cmp c k ≡ Less) ks
all_below c d [] less all = tt
all_below c d (k ∷ ks) less all = (cell_cmp_total.trans c d k less all.0, all_below c d ks less all.1)

below_first : (c : Cell) (e : Cell × Row) (es : List (Cell × Row)) → InOrder (e ∷ es) → cell_cmp c e.0 ≡ Less → row_at (e ∷ es) c ≡ None
below_first c e es sorted less =
    below_all c (e ∷ es) (less, all_below c e.0 (keys_of es) less (sorted_head cell_cmp e.0 (keys_of es) sorted))

module _ (viewer : Viewer) (rows rows' : List (Cell × Row)) where
  -- entry by entry one cell, with rows that are alike
  abbrev pub AreAlikeLists : List (Cell × Row) → List (Cell × Row) → Type 0
  AreAlikeLists [] [] = Unit {0}
  AreAlikeLists (e ∷ es) (d ∷ ds) = (e.0 ≡ d.0) × LookAlikeAt viewer rows rows' e.0 (Some e.1) (Some d.1) × AreAlikeLists es ds
  AreAlikeLists _ _ = ⊥

  at_rows : (c : Cell) {f f' g g' : Option Row} → f ≡ f' → g ≡ g' → LookAlikeAt viewer rows rows' c f g → LookAlikeAt viewer rows rows' c f' g'
  at_rows c {f' = f'} {g = g} first other alike =
      subst (λ o. LookAlikeAt viewer rows rows' c f' o) other (subst (λ o. LookAlikeAt viewer rows rows' c o g) first alike)

  one_alone : (c : Cell) (r : Row) → LookAlikeAt viewer rows rows' c (Some r) None → ⊥
  one_alone c r (inl (inl same)) = cc
  one_alone c r (inl (inr nodes)) = let is = nodes.found_too in cc
  one_alone c r (inr (inl users)) = let is = users.found_too in cc
  one_alone c r (inr (inr comments)) = let is = comments.found_too in cc

  other_alone : (c : Cell) (r : Row) → LookAlikeAt viewer rows rows' c None (Some r) → ⊥
  other_alone c r (inl (inl same)) = cc
  other_alone c r (inl (inr nodes)) = let is = nodes.found_is in cc
  other_alone c r (inr (inl users)) = let is = users.found_is in cc
  other_alone c r (inr (inr comments)) = let is = comments.found_is in cc

  -- behind the first cell of both
  alike_behind : (x y : Cell × Row) (xs ys : List (Cell × Row)) → InOrder (x ∷ xs) → InOrder (y ∷ ys) → x.0 ≡ y.0
      → (c : Cell) → LookAlikeAt viewer rows rows' c (row_at (x ∷ xs) c) (row_at (y ∷ ys) c) → LookAlikeAt viewer rows rows' c (row_at xs c) (row_at ys c)
  alike_behind x y xs ys sorted sorted' is c alike = elim (is_eq (cell_cmp c x.0)) as (λ b. is_eq (cell_cmp c x.0) ≡ b → LookAlikeAt viewer rows rows' c (row_at xs c) (row_at ys c)) [
    | true ↦ λ e.
        let first : c ≡ x.0 = cell_cmp_exact c x.0 ((Equal-is (cell_cmp c x.0)).0 e) in
        let none : row_at xs c ≡ None = ap (row_at xs) first ∙ below_all x.0 xs (sorted_head cell_cmp x.0 (keys_of xs) sorted) in
        let none' : row_at ys c ≡ None = ap (row_at ys) (first ∙ is) ∙ below_all y.0 ys (sorted_head cell_cmp y.0 (keys_of ys) sorted') in
        inl (inl (none ∙ sym none'))
    | false ↦ λ e.
        let e' : is_eq (cell_cmp c y.0) ≡ false = ap (λ d. is_eq (cell_cmp c d)) (sym is) ∙ e in
        at_rows c (ap (λ b. cond b (Some x.1) (row_at xs c)) e) (ap (λ b. cond b (Some y.1) (row_at ys c)) e') alike
  ] refl

  pub alike_lists : (xs ys : List (Cell × Row)) → InOrder xs → InOrder ys
      → ((c : Cell) → LookAlikeAt viewer rows rows' c (row_at xs c) (row_at ys c)) → AreAlikeLists xs ys
  alike_lists [] [] sorted sorted' alike = tt
  alike_lists [] (y ∷ ys) sorted sorted' alike = absurd (other_alone y.0 y.1 (at_rows y.0 refl (first_row y ys) (alike y.0)))
  alike_lists (x ∷ xs) [] sorted sorted' alike = absurd (one_alone x.0 x.1 (at_rows x.0 (first_row x xs) refl (alike x.0)))
  alike_lists (x ∷ xs) (y ∷ ys) sorted sorted' alike = elim (cell_cmp x.0 y.0) as (λ o. cell_cmp x.0 y.0 ≡ o → AreAlikeLists (x ∷ xs) (y ∷ ys)) [
    | Less ↦ λ e. absurd (one_alone x.0 x.1 (at_rows x.0 (first_row x xs) (below_first x.0 y ys sorted' e) (alike x.0)))
    | Equal ↦ λ e.
        let is : x.0 ≡ y.0 = cell_cmp_exact x.0 y.0 e in
        let there : row_at (y ∷ ys) x.0 ≡ Some y.1 = ap (row_at (y ∷ ys)) is ∙ first_row y ys in (
          is,
          at_rows x.0 (first_row x xs) there (alike x.0),
          alike_lists xs ys (sorted_tail cell_cmp x.0 (keys_of xs) sorted) (sorted_tail cell_cmp y.0 (keys_of ys) sorted') (λ c. alike_behind x y xs ys sorted sorted' is c (alike c)),
        )
    | Greater ↦ λ e.
        let less : cell_cmp y.0 x.0 ≡ Less = cell_cmp_total.antisymm y.0 x.0 ∙ ap ordering_reverse e in
        absurd (other_alone y.0 y.1 (at_rows y.0 (below_first y.0 x xs sorted less) (first_row y ys) (alike y.0)))
  ] refl

  same_some : {A : Type 0} (x y : A) → Some x ≡ Some y → x ≡ y
  same_some x y e = cc

  -- ---- what no node, no user and no comment gives: terms and blocks

  module _ {A : Type 0} (entry : Cell × Row → Option A) (of_node : (n : ℕ) (r : Row) → entry (cell.Node n, r) ≡ None) (of_user : (u : ℕ) (r : Row) → entry (cell.User u, r) ≡ None) (of_comment : (k : ℕ) (r : Row) → entry (cell.Comment k, r) ≡ None) where
    same_entry : (e d : Cell × Row) → e.0 ≡ d.0 → LookAlikeAt viewer rows rows' e.0 (Some e.1) (Some d.1) → entry e ≡ entry d
    same_entry e d is (inl (inl same)) = let r = same_some e.1 d.1 same in λ i. entry (is i, r i)
    same_entry e d is (inl (inr nodes)) =
        ap (λ c. entry (c, e.1)) nodes.cell_is ∙ of_node nodes.n e.1 ∙ sym (ap (λ c. entry (c, d.1)) (sym is ∙ nodes.cell_is) ∙ of_node nodes.n d.1)
    same_entry e d is (inr (inl users)) =
        ap (λ c. entry (c, e.1)) users.cell_is ∙ of_user users.u e.1 ∙ sym (ap (λ c. entry (c, d.1)) (sym is ∙ users.cell_is) ∙ of_user users.u d.1)
    same_entry e d is (inr (inr comments)) =
        ap (λ c. entry (c, e.1)) comments.cell_is ∙ of_comment comments.k e.1 ∙ sym (ap (λ c. entry (c, d.1)) (sym is ∙ comments.cell_is) ∙ of_comment comments.k d.1)

    same_entries : (xs ys : List (Cell × Row)) → AreAlikeLists xs ys → filter_map entry xs ≡ filter_map entry ys
    same_entries [] [] alike = refl
    same_entries [] (y ∷ ys) alike = absurd alike
    same_entries (x ∷ xs) [] alike = absurd alike
    same_entries (x ∷ xs) (y ∷ ys) alike =
        let head = same_entry x y alike.0 alike.1 in
        let tail = same_entries xs ys alike.2 in
        λ i. cons_option (head i) (tail i)

  pub same_blocks : (xs ys : List (Cell × Row)) → AreAlikeLists xs ys → blocks_of xs ≡ blocks_of ys
  same_blocks = same_entries block_entry (λ n r. refl) (λ u r. refl) (λ k r. refl)

  pub same_terms : (xs ys : List (Cell × Row)) → AreAlikeLists xs ys → terms_of xs ≡ terms_of ys
  same_terms = same_entries term_entry (λ n r. refl) (λ u r. refl) (λ k r. refl)

  -- ---- the cell of a path

  same_node_path : (n : ℕ) (a b : Node) → AreAlikeNodes viewer rows rows' n a b → a.path ≡ b.path
  same_node_path n a b (inl hidden) = hidden.path
  same_node_path n a b (inr differs) = sym (ap (λ (o : Node). o.path) differs.others)

  same_path : (c : Cell) (r r' : Row) → LookAlikeAt viewer rows rows' c (Some r) (Some r') → text_of unique.Path r ≡ text_of unique.Path r'
  same_path c r r' (inl (inl same)) = ap (text_of unique.Path) (same_some r r' same)
  same_path c r r' (inr (inl users)) =
      ap (text_of unique.Path) (same_some r (row.User users.user) users.found_is)
      ∙ sym (ap (text_of unique.Path) (same_some r' (row.User users.user') users.found_too))
  same_path c r r' (inr (inr comments)) =
      ap (text_of unique.Path) (same_some r (row.Comment comments.comment) comments.found_is)
      ∙ sym (ap (text_of unique.Path) (same_some r' (row.Comment comments.comment') comments.found_too))
  same_path c r r' (inl (inr nodes)) =
      ap (text_of unique.Path) (same_some r (row.Node nodes.node) nodes.found_is)
      ∙ same_node_path nodes.n nodes.node nodes.node' nodes.alike
      ∙ sym (ap (text_of unique.Path) (same_some r' (row.Node nodes.node') nodes.found_too))

  first_cell : (b : Bool) (x y : Cell × Row) (f g : Option (Cell × Row)) → x.0 ≡ y.0 → option_map (λ e. e.0) f ≡ option_map (λ e. e.0) g
      → option_map (λ e. e.0) (cond b (Some x) f) ≡ option_map (λ e. e.0) (cond b (Some y) g)
  first_cell true x y f g is rest = ap Some is
  first_cell false x y f g is rest = rest

  pub same_cell_with : (path : List ℕ) (xs ys : List (Cell × Row)) → AreAlikeLists xs ys → cell_with xs path ≡ cell_with ys path
  same_cell_with path [] [] alike = refl
  same_cell_with path [] (y ∷ ys) alike = absurd alike
  same_cell_with path (x ∷ xs) [] alike = absurd alike
  same_cell_with path (x ∷ xs) (y ∷ ys) alike =
      let has = λ (e : Cell × Row). is_text path (text_of unique.Path e.1) in
      ap (λ t. option_map (λ e. e.0) (cond (is_text path t) (Some x) (find has xs))) (same_path x.0 x.1 y.1 alike.1)
      ∙ first_cell (has y) x y (find has xs) (find has ys) alike.0 (same_cell_with path xs ys alike.2)

  -- ---- the nodes of a listing that the viewer may view

  module _ (terms : List (ℕ × Term)) (listing : Listing) (moment : ℕ) (sees' : ℕ → Bool) (same_sees : (n : ℕ) → is_allowed (access_to_node rows viewer op.View n) ≡ sees' n) where
    abbrev keeps : ℕ × Node → Bool
    keeps e = is_listed terms listing moment e.1 && is_allowed (access_to_node rows viewer op.View e.0)

    abbrev keeps' : ℕ × Node → Bool
    keeps' e = is_listed terms listing moment e.1 && sees' e.0

    and_false : (b : Bool) → (b && false) ≡ false
    and_false true = refl
    and_false false = refl

    -- one more node that is kept of both or of neither
    module _ (xs ys : List (ℕ × Node)) (rest : map rank_of (filter keeps xs) ≡ map rank_of (filter keeps' ys)) where
      both_kept : (x y : ℕ × Node) → rank_of x ≡ rank_of y → keeps x ≡ keeps' y → map rank_of (filter keeps (x ∷ xs)) ≡ map rank_of (filter keeps' (y ∷ ys))
      both_kept x y rank kept =
          ap (λ b. map rank_of (cond b (x ∷ filter keeps xs) (filter keeps xs))) kept
          ∙ (elim (keeps' y) as (λ b. map rank_of (cond b (x ∷ filter keeps xs) (filter keeps xs)) ≡ map rank_of (cond b (y ∷ filter keeps' ys) (filter keeps' ys))) [
            | true ↦ λ i. rank i ∷ rest i
            | false ↦ rest
          ])

      one_kept : (o : Option (ℕ × Node)) → map rank_of (filter keeps (cons_option o xs)) ≡ map rank_of (filter keeps' (cons_option o ys))
      one_kept None = rest
      one_kept (Some e) = both_kept e e refl (ap (λ b. is_listed terms listing moment e.1 && b) (same_sees e.0))

      nodes_kept : (n : ℕ) (a b : Node) → AreAlikeNodes viewer rows rows' n a b → map rank_of (filter keeps ((n, a) ∷ xs)) ≡ map rank_of (filter keeps' ((n, b) ∷ ys))
      nodes_kept n a b (inl hidden) =
          ap (λ s. map rank_of (cond (is_listed terms listing moment a && s) ((n, a) ∷ filter keeps xs) (filter keeps xs))) hidden.denied
          ∙ ap (λ s. map rank_of (cond s ((n, a) ∷ filter keeps xs) (filter keeps xs))) (and_false (is_listed terms listing moment a))
          ∙ rest
          ∙ sym (ap (λ s. map rank_of (cond s ((n, b) ∷ filter keeps' ys) (filter keeps' ys))) (and_false (is_listed terms listing moment b)))
          ∙ sym (ap (λ s. map rank_of (cond (is_listed terms listing moment b && s) ((n, b) ∷ filter keeps' ys) (filter keeps' ys))) (sym (same_sees n) ∙ hidden.denied))
      nodes_kept n a b (inr differs) =
          subst (λ o. map rank_of (filter keeps ((n, a) ∷ xs)) ≡ map rank_of (filter keeps' ((n, o) ∷ ys))) (sym differs.others)
          (both_kept (n, a) (n, with_fields a b.fields) refl (ap (λ s. is_listed terms listing moment a && s) (same_sees n)))

      entry_kept : (e d : Cell × Row) → e.0 ≡ d.0 → LookAlikeAt viewer rows rows' e.0 (Some e.1) (Some d.1)
          → map rank_of (filter keeps (cons_option (node_entry e) xs)) ≡ map rank_of (filter keeps' (cons_option (node_entry d) ys))
      entry_kept e d is (inl (inl same)) =
          let r = same_some e.1 d.1 same in
          let one : node_entry e ≡ node_entry d = λ i. node_entry (is i, r i) in
          one_kept (node_entry e) ∙ ap (λ o. map rank_of (filter keeps' (cons_option o ys))) one
      entry_kept e d is (inr (inl users)) =
          ap (λ c. map rank_of (filter keeps (cons_option (node_entry (c, e.1)) xs))) users.cell_is
          ∙ rest
          ∙ sym (ap (λ c. map rank_of (filter keeps' (cons_option (node_entry (c, d.1)) ys))) (sym is ∙ users.cell_is))
      entry_kept e d is (inr (inr comments)) =
          ap (λ c. map rank_of (filter keeps (cons_option (node_entry (c, e.1)) xs))) comments.cell_is
          ∙ rest
          ∙ sym (ap (λ c. map rank_of (filter keeps' (cons_option (node_entry (c, d.1)) ys))) (sym is ∙ comments.cell_is))
      entry_kept e d is (inl (inr nodes)) =
          let r = same_some e.1 (row.Node nodes.node) nodes.found_is in
          let r' = same_some d.1 (row.Node nodes.node') nodes.found_too in
          let c = nodes.cell_is in
          let c' = sym is ∙ nodes.cell_is in
          let one : node_entry e ≡ Some (nodes.n, nodes.node) = λ i. node_entry (c i, r i) in
          let other : node_entry d ≡ Some (nodes.n, nodes.node') = λ i. node_entry (c' i, r' i) in
          ap (λ o. map rank_of (filter keeps (cons_option o xs))) one
          ∙ nodes_kept nodes.n nodes.node nodes.node' nodes.alike
          ∙ sym (ap (λ o. map rank_of (filter keeps' (cons_option o ys))) other)

    pub same_ranks : (xs ys : List (Cell × Row)) → AreAlikeLists xs ys → map rank_of (filter keeps (nodes_of xs)) ≡ map rank_of (filter keeps' (nodes_of ys))
    same_ranks [] [] alike = refl
    same_ranks [] (y ∷ ys) alike = absurd alike
    same_ranks (x ∷ xs) [] alike = absurd alike
    same_ranks (x ∷ xs) (y ∷ ys) alike =
        entry_kept (nodes_of xs) (nodes_of ys) (same_ranks xs ys alike.2) x y alike.0 alike.1

  -- ---- the comments of a node

  module _ (n : ℕ) where
    abbrev reader : CommentReader
    reader = reader_of rows viewer

    abbrev on_node : ℕ × Comment → Bool
    on_node e = e.1.node == n

    -- one more comment that is of the node on both or on neither
    module _ (xs ys : List (ℕ × Comment)) (rest : AreAlikeComments reader (filter on_node xs) (filter on_node ys)) where
      both_on : (b : Bool) (e d : ℕ × Comment) → (e ≡ d) ⊎ IsHiddenComment reader e d
          → AreAlikeComments reader (cond b (e ∷ filter on_node xs) (filter on_node xs)) (cond b (d ∷ filter on_node ys) (filter on_node ys))
      both_on true e d one = (one, rest)
      both_on false e d one = rest

      one_on : (o : Option (ℕ × Comment)) → AreAlikeComments reader (filter on_node (cons_option o xs)) (filter on_node (cons_option o ys))
      one_on None = rest
      one_on (Some e) = both_on (on_node e) e e (inl refl)

      none_on : (o o' : Option (ℕ × Comment)) → o ≡ None → o' ≡ None → AreAlikeComments reader (filter on_node (cons_option o xs)) (filter on_node (cons_option o' ys))
      none_on o o' none none' =
          subst (λ p. AreAlikeComments reader (filter on_node (cons_option p xs)) (filter on_node (cons_option o' ys))) (sym none)
          (subst (λ p. AreAlikeComments reader (filter on_node xs) (filter on_node (cons_option p ys))) (sym none') rest)

      hidden_on : (k : ℕ) (one other : Comment) → other ≡ with_body one other.body → may_view_comment reader one ≡ false
          → AreAlikeComments reader (filter on_node ((k, one) ∷ xs)) (filter on_node ((k, other) ∷ ys))
      hidden_on k one other others hidden =
          subst (λ (o : Comment). AreAlikeComments reader (filter on_node ((k, one) ∷ xs)) (cond (o.node == n) ((k, other) ∷ filter on_node ys) (filter on_node ys))) (sym others)
          (both_on (one.node == n) (k, one) (k, other) (inr (record { number = refl; others = others; hidden = hidden })))

      entry_on : (e d : Cell × Row) → e.0 ≡ d.0 → LookAlikeAt viewer rows rows' e.0 (Some e.1) (Some d.1)
          → AreAlikeComments reader (filter on_node (cons_option (comment_entry e) xs)) (filter on_node (cons_option (comment_entry d) ys))
      entry_on e d is (inl (inl same)) =
          let r = same_some e.1 d.1 same in
          let one : comment_entry e ≡ comment_entry d = λ i. comment_entry (is i, r i) in
          subst (λ o. AreAlikeComments reader (filter on_node (cons_option (comment_entry e) xs)) (filter on_node (cons_option o ys))) one (one_on (comment_entry e))
      entry_on e d is (inl (inr nodes)) =
          none_on (comment_entry e) (comment_entry d) (ap (λ c. comment_entry (c, e.1)) nodes.cell_is) (ap (λ c. comment_entry (c, d.1)) (sym is ∙ nodes.cell_is))
      entry_on e d is (inr (inl users)) =
          none_on (comment_entry e) (comment_entry d) (ap (λ c. comment_entry (c, e.1)) users.cell_is) (ap (λ c. comment_entry (c, d.1)) (sym is ∙ users.cell_is))
      entry_on e d is (inr (inr comments)) =
          let r = same_some e.1 (row.Comment comments.comment) comments.found_is in
          let r' = same_some d.1 (row.Comment comments.comment') comments.found_too in
          let c = comments.cell_is in
          let c' = sym is ∙ comments.cell_is in
          let one : comment_entry e ≡ Some (comments.k, comments.comment) = λ i. comment_entry (c i, r i) in
          let other : comment_entry d ≡ Some (comments.k, comments.comment') = λ i. comment_entry (c' i, r' i) in
          subst (λ o. AreAlikeComments reader (filter on_node (cons_option o xs)) (filter on_node (cons_option (comment_entry d) ys))) (sym one)
          (subst (λ o. AreAlikeComments reader (filter on_node ((comments.k, comments.comment) ∷ xs)) (filter on_node (cons_option o ys))) (sym other)
          (hidden_on comments.k comments.comment comments.comment' comments.others comments.hidden))

    pub same_comments : (xs ys : List (Cell × Row)) → AreAlikeLists xs ys → AreAlikeComments reader (comments_on xs n) (comments_on ys n)
    same_comments [] [] alike = tt
    same_comments [] (y ∷ ys) alike = absurd alike
    same_comments (x ∷ xs) [] alike = absurd alike
    same_comments (x ∷ xs) (y ∷ ys) alike =
        entry_on (comments_of xs) (comments_of ys) (same_comments xs ys alike.2) x y alike.0 alike.1
