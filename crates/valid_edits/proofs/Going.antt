-- Rows that may go together: one that no row names, a node with its comments, a comment with the replies to it.
use Rattle.std.proofs.Common.{◌≡◌, ◌∙◌, ◌-◌, ◌≤◌, inl, inr, ℕ, zero, suc, List, [], ◌∷◌, true, false, refl, sym, ap, subst, arith, length}
use Rattle.std.specs.Prelude.{Bool, Option, Some, None, ◌==◌, cond, map, option_map, option_and_then, Contains, All}
use Rattle.std.specs.List.{cons_option, filter, filter_map, list_any}
use Rattle.std.specs.Option.{option_map_or}
use Rattle.std.proofs.lemmas.Bool.{eq-eqb, ltb-false}
use Rattle.std.proofs.lemmas.Bool.Decides.{eqb_tells}
use Rattle.std.proofs.lemmas.List.Elements.{All-nil, All-cons, All-map, All-contains_itself, All-weaker}
use Rattle.std.proofs.lemmas.Slice.Eq.{bytes_eq-Decides}
use Rattle.content_rows.specs.declared.cell.Cell.{Cell}
use Rattle.content_rows.specs.declared.cell.Cell.TheVariants as cell
use Rattle.content_rows.specs.declared.row.Row.{Row}
use Rattle.content_rows.specs.declared.row.Row.TheVariants as row
use Rattle.content_rows.specs.declared.row.Comment.{Comment}
use Rattle.content_state.specs.State.{State}
use Rattle.content_state.specs.SiteRules.{IsValidState}
use Rattle.content_state.specs.Chain.{Up, chain, goes_on, is_longer, is_within, reply_in}
use Rattle.content_state.proofs.Chains.{goes_up, found_here, looks_above}
use Rattle.indexed_rows.specs.Rows.{row_at, as_comment, comments_on}
use Rattle.state_commits.proofs.Covered.{comment_on}
use Rattle.state_commits.proofs.Owners.{is_found, is_held}
use Rattle.valid_edits.specs.Holders.{is_of_type, is_used, is_child_of, is_parent}
use Rattle.valid_edits.specs.Named.{named_cells}
use Rattle.valid_edits.specs.Fits.{is_kept, is_locked_role, MayGoTogether}
use Rattle.valid_edits.proofs.Rows.{clash, it_passes}
use Rattle.valid_edits.proofs.Parents.{Replies, some_term}
use Rattle.valid_edits.proofs.Counts.{gathered_on, gathered_held, entry_on, on_own}
use Rattle.valid_edits.proofs.Together.{node_at, IsTogether, term_cell, comment_cell}
use Rattle.valid_edits.proofs.Naming.{NamesType, NamesTerm, NamesNode, NamesComment, Names, naming}
use Rattle.valid_edits.proofs.Kept.{valid_together}

-- ---- what is among a list

pub gathered_from : {X Y : Type 0} (f : X → Option Y) (xs : List X) (y : Y) → Contains (filter_map f xs) y → (x : X) × Contains xs x × (f x ≡ Some y)
gathered_from f [] y held = absurd (let l = held.1 in omega arith)
gathered_from {X} {Y} f (x ∷ xs) y held = go (f x) refl held (gathered_from f xs y)
  where
    later : (z : X) × Contains xs z × (f z ≡ Some y) → (z : X) × Contains (x ∷ xs) z × (f z ≡ Some y)
    later found = (found.0, (suc found.1.0, (let l = found.1.1 in omega arith), found.1.2), found.2)

    go : (o : Option Y) → f x ≡ o → Contains (cons_option o (filter_map f xs)) y → (Contains (filter_map f xs) y → (z : X) × Contains xs z × (f z ≡ Some y)) → (z : X) × Contains (x ∷ xs) z × (f z ≡ Some y)
    go None is among rest = later (rest among)
    go (Some w) is (zero, l, same) rest = (x, (0, omega arith, refl), is ∙ ap Some same)
    go (Some w) is (suc k, l, same) rest = later (rest (k, omega arith, same))

pub kept_held : {X : Type 0} (p : X → Bool) (xs : List X) (x : X) → Contains xs x → p x ≡ true → Contains (filter p xs) x
kept_held p [] x held passes = absurd (let l = held.1 in omega arith)
kept_held p (z ∷ zs) x (zero, l, is) passes = subst (λ b. Contains (cond b (z ∷ filter p zs) (filter p zs)) x) (sym (ap p is ∙ passes)) (0, omega arith, is)
kept_held {X} p (z ∷ zs) x (suc k, l, is) passes = go (p z) (kept_held p zs x (k, omega arith, is) passes)
  where
    go : (b : Bool) → Contains (filter p zs) x → Contains (cond b (z ∷ filter p zs) (filter p zs)) x
    go true held = (suc held.0, (let m = held.1 in omega arith), held.2)
    go false held = held

pub kept_from : {X : Type 0} (p : X → Bool) (xs : List X) (x : X) → Contains (filter p xs) x → Contains xs x × (p x ≡ true)
kept_from p [] x held = absurd (let l = held.1 in omega arith)
kept_from {X} p (z ∷ zs) x held = go (p z) refl held (kept_from p zs x)
  where
    later : Contains zs x × (p x ≡ true) → Contains (z ∷ zs) x × (p x ≡ true)
    later found = ((suc found.0.0, (let l = found.0.1 in omega arith), found.0.2), found.1)

    go : (b : Bool) → p z ≡ b → Contains (cond b (z ∷ filter p zs) (filter p zs)) x → (Contains (filter p zs) x → Contains zs x × (p x ≡ true)) → Contains (z ∷ zs) x × (p x ≡ true)
    go true is (zero, l, same) rest = ((0, omega arith, same), ap p (sym same) ∙ is)
    go true is (suc k, l, same) rest = later (rest (k, omega arith, same))
    go false is among rest = later (rest among)

pub mapped_held : {X Y : Type 0} (f : X → Y) (xs : List X) (x : X) → Contains xs x → Contains (map f xs) (f x)
mapped_held f [] x held = absurd (let l = held.1 in omega arith)
mapped_held f (z ∷ zs) x (zero, l, is) = (0, omega arith, ap f is)
mapped_held f (z ∷ zs) x (suc k, l, is) = let rest = mapped_held f zs x (k, omega arith, is) in (suc rest.0, (let m = rest.1 in omega arith), rest.2)

pub mapped_from : {X Y : Type 0} (f : X → Y) (xs : List X) (y : Y) → Contains (map f xs) y → (x : X) × Contains xs x × (f x ≡ y)
mapped_from f [] y held = absurd (let l = held.1 in omega arith)
mapped_from f (z ∷ zs) y (zero, l, is) = (z, (0, omega arith, refl), is)
mapped_from f (z ∷ zs) y (suc k, l, is) =
    let rest = mapped_from f zs y (k, omega arith, is) in (rest.0, (suc rest.1.0, (let m = rest.1.1 in omega arith), rest.1.2), rest.2)

-- ---- chains

-- a chain that ends before its most ends there with one less
ends_sooner : (up : Up) (most k : ℕ) → length (chain up (suc most) k) ≤ most → chain up (suc most) k ≡ chain up most k
unfolding chain
ends_sooner up zero k short = absurd (let one : suc (length (goes_on (chain up zero) (up k))) ≤ zero = short in omega arith)
ends_sooner up (suc most) k short =
    let left : suc (length (goes_on (chain up (suc most)) (up k))) ≤ suc most = short in
    ap (λ l. k ∷ l) (go (up k) refl (omega arith) (ends_sooner up most))
  where
    go : (o : Option ℕ) → up k ≡ o → length (goes_on (chain up (suc most)) (up k)) ≤ most
        → ((above : ℕ) → length (chain up (suc most) above) ≤ most → chain up (suc most) above ≡ chain up most above)
        → goes_on (chain up (suc most)) o ≡ goes_on (chain up most) o
    go None is left sooner = refl
    go (Some above) is left sooner = sooner above (subst (λ o. length (goes_on (chain up (suc most)) o) ≤ most) is left)

-- what stands below one that is within stands within too, where its chain is not long
pub within_below : (up : Up) (top k above : ℕ) → up k ≡ Some above → is_longer up 9 k ≡ false → is_within up 9 top above ≡ true → is_within up 9 top k ≡ true
within_below up top k above is short within = elim (eqb_tells k top) as (λ _. is_within up 9 top k ≡ true) [
  | inl same ↦ found_here up top 9 k (λ e. omega arith) same.1
  | inr other ↦
      looks_above up top 9 k above (λ e. omega arith) other.1 is
      ∙ ap (list_any (λ j. j == top)) (sym (ends_sooner up 8 above few))
      ∙ within
]
  where
    few : length (chain up 9 above) ≤ 8
    few =
        let all : length (chain up 10 k) ≡ suc (length (chain up 9 above)) = ap length (goes_up up 10 k above (λ e. omega arith) is) in
        let most = ltb-false 9 (length (chain up 10 k)) short in
        omega arith

-- ---- comments

module _ (state : State) (valid : IsValidState state) where
  all : IsTogether (row_at state.rows)
  all = valid_together state valid

  -- the comments of a node are those that are found
  on_found : (n : ℕ) (y : ℕ × Comment) → Contains (comments_on state.rows n) y → (row_at state.rows (cell.Comment y.0) ≡ Some (row.Comment y.1)) × (y.1.node ≡ n)
  on_found n y held =
      let e = gathered_from (comment_on n) state.rows y (subst (λ (l : List (ℕ × Comment)). Contains l y) (gathered_on state.rows n) held) in
      let is = entry_on n e.0 y e.2 in
      (is_found state.rows (cell.Comment y.0) (row.Comment y.1) valid.in_order (subst (λ (x : Cell × Row). Contains state.rows x) is.0 e.1), is.1)

  found_on : (n id : ℕ) (r : Comment) → row_at state.rows (cell.Comment id) ≡ Some (row.Comment r) → r.node ≡ n → Contains (comments_on state.rows n) (id, r)
  found_on n id r at on =
      subst (λ (l : List (ℕ × Comment)). Contains l (id, r)) (sym (gathered_on state.rows n))
      (gathered_held (comment_on n) state.rows (cell.Comment id, row.Comment r) (id, r) (is_held state.rows (cell.Comment id) (row.Comment r) at) (on_own n id r on))

  -- the cell of a comment that is found
  record AtComment (d : Cell) (r : Comment) : Type 0 where
    id : ℕ
    cell_is : d ≡ cell.Comment id
    at : row_at state.rows (cell.Comment id) ≡ Some (row.Comment r)

  at_comment : (d : Cell) (r : Comment) → row_at state.rows d ≡ Some (row.Comment r) → AtComment d r
  at_comment d r at =
      let k = comment_cell d r (all.right d (row.Comment r) at) in
      record { id = k.0; cell_is = k.1; at = subst (λ x. row_at state.rows x ≡ Some (row.Comment r)) k.1 at }

  -- ---- one row

  -- a row that no other row names
  one_may_go : (c : Cell) → is_kept c ≡ false → ((d : Cell) (r : Row) → row_at state.rows d ≡ Some r → Names c r → ⊥) → MayGoTogether state.rows (c ∷ [])
  one_may_go c free unnamed = record {
    free = All-cons (λ x. is_kept x ≡ false) c [] free (All-nil (λ x. is_kept x ≡ false));
    unnamed = λ d r at other e names held. here d r at e names held;
  }
    where
      here : (d : Cell) (r : Row) → row_at state.rows d ≡ Some r → (e : Cell) → Contains (named_cells r) e → Contains (c ∷ []) e → ⊥
      here d r at e names (zero, l, is) = unnamed d r at (subst (λ x. Names x r) (sym is) (naming r e names))
      here d r at e names (suc k, l, is) = omega arith

  pub role_may_go : (name : List ℕ) → is_locked_role name ≡ false → MayGoTogether state.rows (cell.Role name ∷ [])
  role_may_go name unlocked = one_may_go (cell.Role name) unlocked (λ d r at names. names)

  pub menu_may_go : (name : List ℕ) → MayGoTogether state.rows (cell.Menu name ∷ [])
  menu_may_go name = one_may_go (cell.Menu name) refl (λ d r at names. names)

  pub listing_may_go : (name : List ℕ) → MayGoTogether state.rows (cell.Listing name ∷ [])
  listing_may_go name = one_may_go (cell.Listing name) refl (λ d r at names. names)

  pub block_may_go : (name : List ℕ) → MayGoTogether state.rows (cell.Block name ∷ [])
  block_may_go name = one_may_go (cell.Block name) refl (λ d r at names. names)

  pub session_may_go : (token : List ℕ) → MayGoTogether state.rows (cell.Session token ∷ [])
  session_may_go token = one_may_go (cell.Session token) refl (λ d r at names. names)

  type_unnamed : (name : List ℕ) → is_used state.rows name ≡ false → (d : Cell) (q : Row) → row_at state.rows d ≡ Some q → NamesType name q → ⊥
  type_unnamed name unused d (row.Node n) at is = clash (it_passes (is_of_type name) state.rows d (row.Node n) at ((bytes_eq-Decides n.node_type name).1 is)) unused
  type_unnamed name unused d _ at is = absurd is

  pub type_may_go : (name : List ℕ) → is_used state.rows name ≡ false → MayGoTogether state.rows (cell.NodeType name ∷ [])
  type_may_go name unused = one_may_go (cell.NodeType name) refl (type_unnamed name unused)

  term_unnamed : (id : ℕ) → is_parent state.rows id ≡ false → (d : Cell) (q : Row) → row_at state.rows d ≡ Some q → NamesTerm id q → ⊥
  term_unnamed id childless d (row.Term t) at is =
      let k = term_cell d t (all.right d (row.Term t) at) in
      let here : row_at state.rows (cell.Term k.0) ≡ Some (row.Term t) = subst (λ x. row_at state.rows x ≡ Some (row.Term t)) k.1 at in
      let child : is_child_of id t ≡ true = ap (λ o. option_map_or (λ parent. parent == id) o false) is ∙ eq-eqb id id refl in
      clash (some_term (λ e. is_child_of id e.1) state.rows k.0 t here child) childless
  term_unnamed id childless d _ at is = absurd is

  pub term_may_go : (id : ℕ) → is_parent state.rows id ≡ false → MayGoTogether state.rows (cell.Term id ∷ [])
  term_may_go id childless = one_may_go (cell.Term id) refl (term_unnamed id childless)

  -- ---- several rows

  abbrev pub cells_of_comments : List (ℕ × Comment) → List Cell
  cells_of_comments es = map (λ e. cell.Comment e.0) es

  comments_free : (es : List (ℕ × Comment)) → All (λ c. is_kept c ≡ false) (cells_of_comments es)
  comments_free es = All-map (λ c. is_kept c ≡ false) (λ e. cell.Comment e.0) es (All-weaker (λ e. Contains es e) (λ e. is_kept (cell.Comment e.0) ≡ false) (λ e held. refl) es (All-contains_itself es))

  -- the parent of a comment is on its node
  parent_on : (d : Cell) (r : Row) → row_at state.rows d ≡ Some r → (id n : ℕ) (q : Comment) → NamesComment id r → row_at state.rows (cell.Comment id) ≡ Some (row.Comment q) → q.node ≡ n → (own : Comment) × (r ≡ row.Comment own) × (own.node ≡ n) × (own.parent ≡ Some id)
  parent_on d (row.Comment own) at id n q names there on =
      let above : node_at (row_at state.rows) id ≡ Some own.node = all.threaded d (row.Comment own) at id names in
      let found : node_at (row_at state.rows) id ≡ Some q.node = ap (λ (o : Option Row). option_map (λ x. x.node) (option_and_then as_comment o)) there in
      let both : Some own.node ≡ Some q.node = sym above ∙ found in
      let same : own.node ≡ q.node = cc in
      (own, refl, same ∙ on, names)
  parent_on d _ at id n q names there on = absurd names

  -- a node goes with its comments
  module _ (n : ℕ) where
    on_among : (d : Cell) (r : Comment) → row_at state.rows d ≡ Some (row.Comment r) → r.node ≡ n → Contains (cell.Node n ∷ cells_of_comments (comments_on state.rows n)) d
    on_among d r at on =
        let k = at_comment d r at in
        let held = mapped_held (λ e. cell.Comment e.0) (comments_on state.rows n) (k.id, r) (found_on n k.id r k.at on) in
        subst (λ x. Contains (cell.Node n ∷ cells_of_comments (comments_on state.rows n)) x) (sym k.cell_is) (suc held.0, (let l = held.1 in omega arith), held.2)

    node_unnamed : (d : Cell) (r : Row) → row_at state.rows d ≡ Some r → (Contains (cell.Node n ∷ cells_of_comments (comments_on state.rows n)) d → ⊥) → NamesNode n r → ⊥
    node_unnamed d (row.Comment r) at other names = other (on_among d r at names)
    node_unnamed d _ at other names = names

    named_by_none : (d : Cell) (r : Row) → row_at state.rows d ≡ Some r → (Contains (cell.Node n ∷ cells_of_comments (comments_on state.rows n)) d → ⊥)
        → (c : Cell) → Contains (named_cells r) c → Contains (cell.Node n ∷ cells_of_comments (comments_on state.rows n)) c → ⊥
    named_by_none d r at other c names (zero, l, is) = node_unnamed d r at other (subst (λ x. Names x r) (sym is) (naming r c names))
    named_by_none d r at other c names (suc k, l, is) =
        let e = mapped_from (λ e. cell.Comment e.0) (comments_on state.rows n) c (k, omega arith, is) in
        let found = on_found n e.0 e.1 in
        let own = parent_on d r at e.0.0 n e.0.1 (subst (λ x. Names x r) (sym e.2) (naming r c names)) found.0 found.1 in
        other (on_among d own.0 (subst (λ x. row_at state.rows d ≡ Some x) own.1 at) own.2)

    pub node_may_go : MayGoTogether state.rows (cell.Node n ∷ cells_of_comments (comments_on state.rows n))
    node_may_go = record {
      free = All-cons (λ c. is_kept c ≡ false) (cell.Node n) (cells_of_comments (comments_on state.rows n)) refl (comments_free (comments_on state.rows n));
      unnamed = named_by_none;
    }

  -- a comment goes with all that stand below it
  module _ (top n : ℕ) where
    abbrev is_reply : ℕ × Comment → Bool
    is_reply e = is_within (reply_in state.rows) 9 top e.0

    abbrev replies : List (ℕ × Comment)
    replies = filter is_reply (comments_on state.rows n)

    reply_named : (d : Cell) (r : Row) → row_at state.rows d ≡ Some r → (Contains (cells_of_comments replies) d → ⊥)
        → (c : Cell) → Contains (named_cells r) c → Contains (cells_of_comments replies) c → ⊥
    reply_named d r at other c names held =
        let e = mapped_from (λ e. cell.Comment e.0) replies c held in
        let kept = kept_from is_reply (comments_on state.rows n) e.0 e.1 in
        let found = on_found n e.0 kept.0 in
        let own = parent_on d r at e.0.0 n e.0.1 (subst (λ x. Names x r) (sym e.2) (naming r c names)) found.0 found.1 in
        let k = at_comment d own.0 (subst (λ x. row_at state.rows d ≡ Some x) own.1 at) in
        let up : reply_in state.rows k.id ≡ Some e.0.0 = ap (λ (o : Option Row). option_and_then (λ x. x.parent) (option_and_then as_comment o)) k.at ∙ own.3 in
        let within : is_reply (k.id, own.0) ≡ true = within_below (reply_in state.rows) top k.id e.0.0 up (all.short Replies k.id) kept.1 in
        let among = mapped_held (λ x. cell.Comment x.0) replies (k.id, own.0) (kept_held is_reply (comments_on state.rows n) (k.id, own.0) (found_on n k.id own.0 k.at own.2) within) in
        other (subst (λ x. Contains (cells_of_comments replies) x) (sym k.cell_is) among)

    pub comment_may_go : MayGoTogether state.rows (cells_of_comments (filter (λ e. is_within (reply_in state.rows) 9 top e.0) (comments_on state.rows n)))
    comment_may_go = record {
      free = comments_free replies;
      unnamed = reply_named;
    }
