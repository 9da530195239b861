-- What a valid state tells of its rows: of those that are there, that they keep what is their own, and of ids that are to
-- be given next, that no row has them.
use Rattle.std.proofs.Common.{◌≡◌, ◌<◌, ◌≤◌, ◌∙◌, inl, inr, ℕ, zero, suc, List, [], ◌∷◌, refl, sym, ap, subst, arith, length}
use Rattle.std.specs.Prelude.{Bool, true, false, Option, Some, None, is_none, is_some, option_and_then, Contains}
use Rattle.std.specs.List.{filter_map}
use Rattle.content_rows.specs.ValidRow.{IsValidRow}
use Rattle.content_rows.specs.declared.cell.Cell.{Cell}
use Rattle.content_rows.specs.declared.cell.Cell.TheVariants as cell
use Rattle.content_rows.specs.declared.row.Row.{Row}
use Rattle.content_rows.specs.declared.row.Row.TheVariants as row
use Rattle.content_rows.specs.declared.row.Seq.{Seq}
use Rattle.content_rows.specs.declared.row.User.{User}
use Rattle.content_rows.specs.declared.row.Term.{Term}
use Rattle.content_rows.specs.declared.row.Node.{Node}
use Rattle.content_rows.specs.declared.row.Session.{Session}
use Rattle.content_rows.specs.declared.row.Comment.{Comment}
use Rattle.content_state.specs.State.{State}
use Rattle.content_state.specs.declared.site_rules.Numbered.{Numbered}
use Rattle.content_state.specs.declared.site_rules.Numbered.TheVariants as numbered
use Rattle.indexed_rows.specs.declared.unique.Unique.{Unique}
use Rattle.indexed_rows.specs.declared.unique.Unique.TheVariants as unique
use Rattle.indexed_rows.specs.Rows.{row_at, with_row, as_seq, seq_of, type_of, user_of, term_of, node_of, session_of, comment_of, comments_on, talk_of}
use Rattle.content_state.specs.Chain.{is_longer, parent_in, reply_in}
use Rattle.indexed_rows.specs.Texts.{text_of}
use Rattle.content_state.specs.SiteRules.{is_absent, has_id_from, IsValidState}
use Rattle.valid_edits.specs.Holders.{holder, path_holder}
use Rattle.valid_edits.specs.Named.{named_cells}
use Rattle.valid_edits.specs.Fits.{next_comment, next_id, IsGiven, IsShallow, AreShallowReplies, is_absent_user, SeqFits, UserFits, TermFits, NodeFits, CommentFits}
use Rattle.valid_edits.proofs.Rows.{clash, one_cell_or_two}
use Rattle.valid_edits.proofs.Parents.{Tree, Terms, Replies, cell_in, parent_of, above_at, AreShort, has_parent, short_still, short_beside}
use Rattle.valid_edits.proofs.Counts.{gathered_on, on_own, over_put}
use Rattle.valid_edits.proofs.Together.{IsThere, IsBelow, NamesThere, IsTogether, is_user, is_term, is_node, is_session, is_comment, named_user, named_parent, comment_owner, on_reply, no_id_from, type_found, user_found, node_found, parent_found, owner_found}
use Rattle.valid_edits.proofs.After.{IsOver}
use Rattle.valid_edits.proofs.Holding.{no_holder}
use Rattle.valid_edits.proofs.Naming.{one_of}
use Rattle.valid_edits.proofs.Kept.{put_over, valid_together, valid_few}
use Rattle.state_commits.proofs.Covered.{comment_on}

one_number : (tree : Tree) (k id : ℕ) → cell_in tree k ≡ cell_in tree id → k ≡ id
one_number Terms k id h = cc
one_number Replies k id h = cc

module _ (state : State) (valid : IsValidState state) where
  all : IsTogether (row_at state.rows)
  all = valid_together state valid

  -- each row is right by itself
  pub right_at : (c : Cell) (r : Row) → row_at state.rows c ≡ Some r → IsValidRow c r
  right_at c r at = all.right c r at

  -- ---- what is a row's own

  -- a row that is there has no other holder of its own text
  pub own_holder : (what : Unique) (c : Cell) (r : Row) (text : List ℕ) → row_at state.rows c ≡ Some r → text_of what r ≡ Some text → holder state.rows c what text ≡ None
  own_holder what c r text at is = no_holder state.rows c what text valid.in_order (λ d q at_d of_d. all.alone what d c q r text at_d at of_d is)

  pub own_path_holder : (c : Cell) (r : Row) (path : Option (List ℕ)) → row_at state.rows c ≡ Some r → text_of unique.Path r ≡ path → path_holder state.rows c path ≡ None
  own_path_holder c r None at is = refl
  own_path_holder c r (Some path) at is = own_holder unique.Path c r path at is

  -- ---- the ids that are next

  next_is : (seq : Seq) → seq_of state.rows ≡ Some seq → all.seq ≡ seq
  next_is seq is = one_seq all.seq seq (sym (ap (option_and_then as_seq) all.seq_at) ∙ is)
    where
      one_seq : (a b : Seq) → Some a ≡ Some b → a ≡ b
      one_seq a b h = cc

  -- they are there
  pub seq_there : (seq : Seq) × (seq_of state.rows ≡ Some seq)
  seq_there = (all.seq, ap (option_and_then as_seq) all.seq_at)

  -- no row has the id that is to be given next, nor a greater one
  no_id : (kind : Numbered) (seq : Seq) → seq_of state.rows ≡ Some seq → (next : ℕ) → next_id kind seq (talk_of state.rows) ≤ next → has_id_from state.rows kind next ≡ false
  no_id kind seq is next le =
      no_id_from state.rows valid.in_order all kind next (subst (λ s. next_id kind s (talk_of state.rows) ≤ next) (sym (next_is seq is)) le)

  pub no_node_id : (seq : Seq) → seq_of state.rows ≡ Some seq → (next : ℕ) → seq.node ≤ next → has_id_from state.rows numbered.Node next ≡ false
  no_node_id seq is next le = no_id numbered.Node seq is next le

  pub no_term_id : (seq : Seq) → seq_of state.rows ≡ Some seq → (next : ℕ) → seq.term ≤ next → has_id_from state.rows numbered.Term next ≡ false
  no_term_id seq is next le = no_id numbered.Term seq is next le

  pub no_user_id : (seq : Seq) → seq_of state.rows ≡ Some seq → (next : ℕ) → seq.user ≤ next → has_id_from state.rows numbered.User next ≡ false
  no_user_id seq is next le = no_id numbered.User seq is next le

  pub no_comment_id : (next : ℕ) → next_comment (talk_of state.rows) ≤ next → has_id_from state.rows numbered.Comment next ≡ false
  no_comment_id next le = no_id_from state.rows valid.in_order all numbered.Comment next le

  -- so ids to come fit that are no less
  pub raised_seq_fits : (seq next : Seq) → seq_of state.rows ≡ Some seq → seq.node ≤ next.node → seq.term ≤ next.term → seq.user ≤ next.user → SeqFits state.rows next
  raised_seq_fits seq next is node term user = record {
    node = no_node_id seq is next.node node;
    term = no_term_id seq is next.term term;
    user = no_user_id seq is next.user user;
  }

  -- where an id is no less than the next one, no row has it
  not_there : (c : Cell) → (IsBelow all.seq (talk_of state.rows) c → ⊥) → row_at state.rows c ≡ None
  not_there c above = go (row_at state.rows c) refl
    where
      go : (o : Option Row) → row_at state.rows c ≡ o → o ≡ None
      go None at = refl
      go (Some r) at = absurd (above (all.given c r at))

  pub next_node_free : (seq : Seq) → seq_of state.rows ≡ Some seq → row_at state.rows (cell.Node seq.node) ≡ None
  next_node_free seq is = not_there (cell.Node seq.node) (λ below. let same = ap (λ s. s.node) (next_is seq is) in omega arith)

  pub next_term_free : (seq : Seq) → seq_of state.rows ≡ Some seq → row_at state.rows (cell.Term seq.term) ≡ None
  next_term_free seq is = not_there (cell.Term seq.term) (λ below. let same = ap (λ s. s.term) (next_is seq is) in omega arith)

  pub next_user_free : (seq : Seq) → seq_of state.rows ≡ Some seq → row_at state.rows (cell.User seq.user) ≡ None
  next_user_free seq is = not_there (cell.User seq.user) (λ below. let same = ap (λ s. s.user) (next_is seq is) in omega arith)

  pub next_comment_free : row_at state.rows (cell.Comment (next_comment (talk_of state.rows))) ≡ None
  next_comment_free = not_there (cell.Comment (next_comment (talk_of state.rows))) (λ below. omega arith)

  -- ---- rows that are there

  -- their ids were given
  given_below : (kind : Numbered) (id : ℕ) → id < next_id kind all.seq (talk_of state.rows) → IsGiven state.rows kind id
  given_below kind id below = record { seq = all.seq; there = ap (option_and_then as_seq) all.seq_at; below = below }

  pub user_given : (id : ℕ) (user : User) → user_of state.rows id ≡ Some user → IsGiven state.rows numbered.User id
  user_given id user is = given_below numbered.User id (all.given (cell.User id) (row.User user) (is_user (row_at state.rows (cell.User id)) user is))

  pub term_given : (id : ℕ) (term : Term) → term_of state.rows id ≡ Some term → IsGiven state.rows numbered.Term id
  term_given id term is = given_below numbered.Term id (all.given (cell.Term id) (row.Term term) (is_term (row_at state.rows (cell.Term id)) term is))

  pub node_given : (id : ℕ) (node : Node) → node_of state.rows id ≡ Some node → IsGiven state.rows numbered.Node id
  node_given id node is = given_below numbered.Node id (all.given (cell.Node id) (row.Node node) (is_node (row_at state.rows (cell.Node id)) node is))

  comment_given : (id : ℕ) (comment : Comment) → comment_of state.rows id ≡ Some comment → IsGiven state.rows numbered.Comment id
  comment_given id comment is = given_below numbered.Comment id (all.given (cell.Comment id) (row.Comment comment) (is_comment (row_at state.rows (cell.Comment id)) comment is))

  -- what they name is there
  node_names : (id : ℕ) (node : Node) → node_of state.rows id ≡ Some node → NamesThere (row_at state.rows) (row.Node node)
  node_names id node is = all.named (cell.Node id) (row.Node node) (is_node (row_at state.rows (cell.Node id)) node is)

  pub node_type_there : (id : ℕ) (node : Node) → node_of state.rows id ≡ Some node → is_none (type_of state.rows node.node_type) ≡ false
  node_type_there id node is = type_found state.rows valid.in_order all node.node_type (node_names id node is).0

  pub owner_present : (id : ℕ) (node : Node) → node_of state.rows id ≡ Some node → is_absent_user state.rows node.uid ≡ false
  owner_present id node is = owner_found state.rows valid.in_order all node.uid (named_user (row_at state.rows) node.uid (node_names id node is).1)

  pub session_user_there : (token : List ℕ) (session : Session) → session_of state.rows token ≡ Some session → is_none (user_of state.rows session.uid) ≡ false
  session_user_there token session is =
      user_found state.rows valid.in_order all session.uid (all.named (cell.Session token) (row.Session session) (is_session (row_at state.rows (cell.Session token)) session is)).0

  pub parent_present : (id : ℕ) (term : Term) → term_of state.rows id ≡ Some term → is_absent (term_of state.rows) term.parent ≡ false
  parent_present id term is =
      parent_found state.rows valid.in_order all term.parent
      (named_parent (row_at state.rows) cell.Term term.parent (all.named (cell.Term id) (row.Term term) (is_term (row_at state.rows (cell.Term id)) term is)))

  -- ---- rows that are there, changed

  pub changed_user_fits : (id : ℕ) (old new : User) → user_of state.rows id ≡ Some old → old.uuid ≡ new.uuid
      → holder state.rows (cell.User id) unique.UserName new.name ≡ None → UserFits state.rows id new
  changed_user_fits id old new is same name = record {
    given = user_given id old is;
    uuid = own_holder unique.UserUuid (cell.User id) (row.User old) new.uuid (is_user (row_at state.rows (cell.User id)) old is) (ap Some same);
    name = name;
  }

  pub changed_term_fits : (id : ℕ) (old new : Term) → term_of state.rows id ≡ Some old → old.uuid ≡ new.uuid
      → is_absent (term_of state.rows) new.parent ≡ false → IsShallow (with_row state.rows (cell.Term id) (row.Term new)) → TermFits state.rows id new
  changed_term_fits id old new is same parent shallow = record {
    given = term_given id old is;
    parent = parent;
    shallow = shallow;
    uuid = own_holder unique.TermUuid (cell.Term id) (row.Term old) new.uuid (is_term (row_at state.rows (cell.Term id)) old is) (ap Some same);
  }

  -- a row that is set whose parent is as it was: all chains are as they were
  kept_short : (tree : Tree) (id : ℕ) (new : Row) → parent_of tree (Some new) ≡ above_at tree (row_at state.rows) id → AreShort tree (row_at (with_row state.rows (cell_in tree id) new))
  kept_short tree id new same = short_still tree (row_at state.rows) after parents (all.short tree)
    where
      after : Cell → Option Row
      after = row_at (with_row state.rows (cell_in tree id) new)

      over : IsOver (row_at state.rows) (cell_in tree id) (Some new) after
      over = put_over state.rows (cell_in tree id) new

      parents : (k : ℕ) → above_at tree after k ≡ above_at tree (row_at state.rows) k
      parents k = elim (one_cell_or_two (cell_in tree k) (cell_in tree id)) as (λ _. above_at tree after k ≡ above_at tree (row_at state.rows) k) [
        | inl here ↦
            subst (λ n. above_at tree after n ≡ above_at tree (row_at state.rows) n) (sym (one_number tree k id here))
            (ap (parent_of tree) over.here ∙ same)
        | inr other ↦ ap (parent_of tree) (over.elsewhere (cell_in tree k) other)
      ]

  -- a term that stays where it is in its tree
  pub kept_term_fits : (id : ℕ) (old new : Term) → term_of state.rows id ≡ Some old → old.uuid ≡ new.uuid → old.parent ≡ new.parent → TermFits state.rows id new
  kept_term_fits id old new is same same_parent =
      changed_term_fits id old new is same (subst (λ o. is_absent (term_of state.rows) o ≡ false) same_parent (parent_present id old is))
      (kept_short Terms id (row.Term new) (sym same_parent ∙ sym (ap (option_and_then (λ t. t.parent)) is)))

  -- ---- a row that is made in a tree

  -- where its own chain is not long, none is: no row is below it
  made_short : (tree : Tree) (id : ℕ) (new : Row) → row_at state.rows (cell_in tree id) ≡ None
      → is_longer (above_at tree (row_at (with_row state.rows (cell_in tree id) new))) 9 id ≡ false → AreShort tree (row_at (with_row state.rows (cell_in tree id) new))
  made_short tree id new free own k = elim (one_cell_or_two (cell_in tree k) (cell_in tree id)) as (λ _. is_longer (above_at tree after) 9 k ≡ false) [
    | inl here ↦ subst (λ n. is_longer (above_at tree after) 9 n ≡ false) (sym (one_number tree k id here)) own
    | inr other ↦
        short_beside tree (row_at state.rows) after (cell_in tree id ∷ [])
        (λ d apart. (put_over state.rows (cell_in tree id) new).elsewhere d (λ same. apart (0, omega arith, sym same)))
        none_below (all.short tree) k (not_alone k other)
  ]
    where
      after : Cell → Option Row
      after = row_at (with_row state.rows (cell_in tree id) new)

      not_alone : (n : ℕ) → (cell_in tree n ≡ cell_in tree id → ⊥) → Contains (cell_in tree id ∷ []) (cell_in tree n) → ⊥
      not_alone n other (zero, l, is) = other (sym is)
      not_alone n other (suc i, l, is) = omega arith

      none_below : (n above : ℕ) → (Contains (cell_in tree id ∷ []) (cell_in tree n) → ⊥) → above_at tree (row_at state.rows) n ≡ Some above → Contains (cell_in tree id ∷ []) (cell_in tree above) → ⊥
      none_below n above apart e (zero, l, same) =
          let has = has_parent tree (row_at state.rows (cell_in tree n)) above e in
          let named : IsThere (row_at state.rows) (cell_in tree above) =
          one_of (IsThere (row_at state.rows)) (named_cells has.found) (all.named (cell_in tree n) has.found has.there) (cell_in tree above) has.names in
          let there : is_some (row_at state.rows (cell_in tree id)) ≡ true = subst (IsThere (row_at state.rows)) (sym same) named in
          let gone : is_some (row_at state.rows (cell_in tree id)) ≡ false = ap is_some free in
          clash there gone
      none_below n above apart e (suc i, l, same) = omega arith

  pub made_shallow : (id : ℕ) (term : Term) → row_at state.rows (cell.Term id) ≡ None
      → is_longer (parent_in (with_row state.rows (cell.Term id) (row.Term term))) 9 id ≡ false → IsShallow (with_row state.rows (cell.Term id) (row.Term term))
  made_shallow id term free own = made_short Terms id (row.Term term) free own

  pub made_shallow_reply : (id : ℕ) (comment : Comment) → row_at state.rows (cell.Comment id) ≡ None
      → is_longer (reply_in (with_row state.rows (cell.Comment id) (row.Comment comment))) 9 id ≡ false → AreShallowReplies (with_row state.rows (cell.Comment id) (row.Comment comment))
  made_shallow_reply id comment free own = made_short Replies id (row.Comment comment) free own

  -- ---- a comment that changes: its body, and whether it is published

  pub changed_comment_fits : (id : ℕ) (old : Comment) → comment_of state.rows id ≡ Some old → (body : List ℕ) (status : Bool)
      → CommentFits state.rows id (record old { body = body; status = status })
  changed_comment_fits id old is body status = record {
    given = comment_given id old is;
    node = node_found state.rows valid.in_order all old.node named.0;
    owner = owner_found state.rows valid.in_order all old.uid (comment_owner (row_at state.rows) old named);
    parent = on_reply state.rows old.node old.parent (all.threaded (cell.Comment id) (row.Comment old) at);
    stays = λ other was. same_node old other (sym is ∙ was);
    shallow = kept_short Replies id (row.Comment new) (sym (ap (option_and_then (λ c. c.parent)) is));
    few = no_more (length (comments_on state.rows old.node)) (length (filter_map (comment_on old.node) state.rows)) (length (filter_map (comment_on old.node) after)) (length (comments_on after old.node))
        (valid_few state valid old.node) (ap length (gathered_on state.rows old.node))
        (over_put (comment_on old.node) state.rows (cell.Comment id) (row.Comment new) (row.Comment old) (id, old) valid.in_order at (on_own old.node id old refl))
        (ap length (gathered_on after old.node));
    uuid = own_holder unique.CommentUuid (cell.Comment id) (row.Comment old) old.uuid at refl;
  }
    where
      new : Comment
      new = record old { body = body; status = status }

      after : List (Cell × Row)
      after = with_row state.rows (cell.Comment id) (row.Comment new)

      no_more : (before first last all : ℕ) → before ≤ 1000 → before ≡ first → last ≤ first → all ≡ last → all ≤ 1000
      no_more before first last all few is less of_all = omega arith

      at : row_at state.rows (cell.Comment id) ≡ Some (row.Comment old)
      at = is_comment (row_at state.rows (cell.Comment id)) old is

      named : NamesThere (row_at state.rows) (row.Comment old)
      named = all.named (cell.Comment id) (row.Comment old) at

      same_node : (a b : Comment) → Some a ≡ Some b → b.node ≡ a.node
      same_node a b h = cc

  pub changed_node_fits : (id : ℕ) (old new : Node) → node_of state.rows id ≡ Some old → old.uuid ≡ new.uuid → old.node_type ≡ new.node_type
      → is_absent_user state.rows new.uid ≡ false → path_holder state.rows (cell.Node id) new.path ≡ None → NodeFits state.rows id new
  changed_node_fits id old new is same same_type owner path = record {
    given = node_given id old is;
    node_type = subst (λ name. is_none (type_of state.rows name) ≡ false) same_type (node_type_there id old is);
    owner = owner;
    uuid = own_holder unique.NodeUuid (cell.Node id) (row.Node old) new.uuid (is_node (row_at state.rows (cell.Node id)) old is) (ap Some same);
    path = path;
  }
