-- What was so of the rows is so after the ids that are to be given next were set.
use Rattle.std.proofs.Common.{◌≡◌, ◌≢◌, ◌<◌, ◌≤◌, ◌∙◌, inl, inr, ℕ, List, [], refl, sym, ap, subst, length}
use Rattle.std.specs.Prelude.{false, not, ◌&&◌, ◌==◌, nat_le, Option, Some, None, is_none, option_and_then}
use Rattle.std.specs.List.{cons_option, filter_map}
use Rattle.std.specs.Option.{option_map_or}
use Rattle.std.proofs.lemmas.Bool.{leb-false}
use Rattle.content_rows.specs.declared.cell.Cell.{Cell}
use Rattle.content_rows.specs.declared.cell.Cell.TheVariants as cell
use Rattle.content_rows.specs.declared.row.Row.{Row}
use Rattle.content_rows.specs.declared.row.Row.TheVariants as row
use Rattle.content_rows.specs.declared.row.Seq.{Seq}
use Rattle.content_rows.specs.declared.row.User.{User}
use Rattle.content_rows.specs.declared.row.Term.{Term}
use Rattle.content_rows.specs.declared.row.Node.{Node}
use Rattle.content_rows.specs.declared.row.Comment.{Comment}
use Rattle.content_rows.specs.declared.row.Talk.{Talk}
use Rattle.content_state.specs.declared.site_rules.Numbered.{Numbered}
use Rattle.content_state.specs.declared.site_rules.Numbered.TheVariants as numbered
use Rattle.indexed_rows.specs.declared.unique.Unique.{Unique}
use Rattle.indexed_rows.specs.declared.unique.Unique.TheVariants as unique
use Rattle.indexed_rows.specs.Rows.{row_at, with_row, as_seq, as_type, as_role, as_user, as_term, as_node, as_comment, as_talk, seq_of, type_of, role_of, user_of, term_of, node_of, comment_of, comments_on, talk_of, InOrder}
use Rattle.indexed_rows.specs.Texts.{text_of}
use Rattle.content_state.specs.SiteRules.{is_absent, is_no_comment_of}
use Rattle.valid_edits.specs.Holders.{holder, path_holder}
use Rattle.valid_edits.specs.Fits.{next_id, IsGiven, IsShallow, AreShallowReplies, is_absent_user, UserFits, TermFits, NodeFits, CommentFits}
use Rattle.valid_edits.proofs.Rows.{one_cell_or_two}
use Rattle.valid_edits.proofs.Parents.{Tree, Terms, Replies, cell_in, parent_of, AreShort, short_still}
use Rattle.valid_edits.proofs.Counts.{one_at_most, gathered_on, more_put, few_with_one}
use Rattle.valid_edits.proofs.Holding.{no_holder, held_here, IsPlain, has_nothing}
use Rattle.valid_edits.proofs.After.{found}
use Rattle.valid_edits.proofs.Kept.{put_over, put_in_order}
use Rattle.state_commits.proofs.Covered.{comment_on}

-- ---- rows beside one that has nothing of its own, which is set

module _ (rows : List (Cell × Row)) (sorted : InOrder rows) (k : Cell) (new : Row) (plain : IsPlain new) where
  -- a text that no other cell had, none has
  holder_beside : (c : Cell) (what : Unique) (text : List ℕ) → holder rows c what text ≡ None → holder (with_row rows k new) c what text ≡ None
  holder_beside c what text none = no_holder (with_row rows k new) c what text (put_in_order rows k new sorted)
      (λ d q at has. elim (found (row_at rows) (row_at (with_row rows k new)) k new (put_over rows k new) d q at) as (λ _. d ≡ c) [
        | inl set ↦ absurd (has_nothing new plain what text (subst (λ r. text_of what r ≡ Some text) set.1 has))
        | inr old ↦ held_here rows c what text none d q old.1 has
      ])

  -- the chains of parents are those that a row makes without it
  short_beside_set : (tree : Tree) → ((id : ℕ) → cell_in tree id ≢ k) → (c : Cell) (r : Row) → AreShort tree (row_at (with_row rows c r)) → AreShort tree (row_at (with_row (with_row rows k new) c r))
  short_beside_set tree outside c r short = short_still tree (row_at (with_row rows c r)) (row_at (with_row raised c r)) (λ id. ap (parent_of tree) (same id)) short
    where
      raised : List (Cell × Row)
      raised = with_row rows k new

      same : (id : ℕ) → row_at (with_row raised c r) (cell_in tree id) ≡ row_at (with_row rows c r) (cell_in tree id)
      same id = elim (one_cell_or_two (cell_in tree id) c) as (λ _. row_at (with_row raised c r) (cell_in tree id) ≡ row_at (with_row rows c r) (cell_in tree id)) [
        | inl here ↦ subst (λ d. row_at (with_row raised c r) d ≡ row_at (with_row rows c r) d) (sym here) ((put_over raised c r).here ∙ sym (put_over rows c r).here)
        | inr apart ↦
            (put_over raised c r).elsewhere (cell_in tree id) apart
            ∙ (put_over rows k new).elsewhere (cell_in tree id) (outside id)
            ∙ sym ((put_over rows c r).elsewhere (cell_in tree id) apart)
      ]

-- ---- after the next ids were set

module _ (rows : List (Cell × Row)) (sorted : InOrder rows) (seq : Seq) where
  -- the rows with these ids to be given next
  abbrev pub raised : List (Cell × Row)
  raised = with_row rows cell.Seq (row.Seq seq)

  pub raised_in_order : InOrder raised
  raised_in_order = put_in_order rows cell.Seq (row.Seq seq) sorted

  -- every other cell has the same row
  pub same_in_raised : (c : Cell) → c ≢ cell.Seq → row_at raised c ≡ row_at rows c
  same_in_raised c other = (put_over rows cell.Seq (row.Seq seq)).elsewhere c other

  pub seq_in_raised : seq_of raised ≡ Some seq
  seq_in_raised = ap (option_and_then as_seq) (put_over rows cell.Seq (row.Seq seq)).here

  pub type_in_raised : (name : List ℕ) → type_of raised name ≡ type_of rows name
  type_in_raised name = ap (option_and_then as_type) (same_in_raised (cell.NodeType name) (λ e. cc))

  pub role_in_raised : (name : List ℕ) → role_of raised name ≡ role_of rows name
  role_in_raised name = ap (option_and_then as_role) (same_in_raised (cell.Role name) (λ e. cc))

  pub user_in_raised : (id : ℕ) → user_of raised id ≡ user_of rows id
  user_in_raised id = ap (option_and_then as_user) (same_in_raised (cell.User id) (λ e. cc))

  pub absent_user_in_raised : (uid : ℕ) → is_absent_user raised uid ≡ is_absent_user rows uid
  absent_user_in_raised uid = ap (λ o. not (uid == 0) && is_none o) (user_in_raised uid)

  -- an id below the next one was given
  pub given_in_raised : (kind : Numbered) (id : ℕ) → id < next_id kind seq (talk_of raised) → IsGiven raised kind id
  given_in_raised kind id below = record { seq = seq; there = seq_in_raised; below = below }

  -- a text that no other cell had, none has
  pub holder_in_raised : (c : Cell) (what : Unique) (text : List ℕ) → holder rows c what text ≡ None → holder raised c what text ≡ None
  holder_in_raised c what text none = holder_beside rows sorted cell.Seq (row.Seq seq) tt c what text none

  pub path_in_raised : (c : Cell) (path : Option (List ℕ)) → path_holder rows c path ≡ None → path_holder raised c path ≡ None
  path_in_raised c None none = refl
  path_in_raised c (Some path) none = holder_in_raised c unique.Path path none

  pub absent_parent_in_raised : (parent : Option ℕ) → is_absent (term_of raised) parent ≡ is_absent (term_of rows) parent
  absent_parent_in_raised None = refl
  absent_parent_in_raised (Some id) = ap (λ (o : Option Row). is_none (option_and_then as_term o)) (same_in_raised (cell.Term id) (λ e. cc))

  -- the chains of parents are those that the row makes without them
  pub shallow_in_raised : (c : Cell) (r : Row) → IsShallow (with_row rows c r) → IsShallow (with_row raised c r)
  shallow_in_raised c r shallow = short_beside_set rows sorted cell.Seq (row.Seq seq) tt Terms (λ id e. cc) c r shallow

  -- ---- new rows

  pub new_user_fits : (id : ℕ) (user : User) → id < seq.user
      → holder rows (cell.User id) unique.UserUuid user.uuid ≡ None → holder rows (cell.User id) unique.UserName user.name ≡ None → UserFits raised id user
  new_user_fits id user below uuid name = record {
    given = given_in_raised numbered.User id below;
    uuid = holder_in_raised (cell.User id) unique.UserUuid user.uuid uuid;
    name = holder_in_raised (cell.User id) unique.UserName user.name name;
  }

  pub new_term_fits : (id : ℕ) (term : Term) → id < seq.term → is_absent (term_of rows) term.parent ≡ false → IsShallow (with_row rows (cell.Term id) (row.Term term))
      → holder rows (cell.Term id) unique.TermUuid term.uuid ≡ None → TermFits raised id term
  new_term_fits id term below parent shallow uuid = record {
    given = given_in_raised numbered.Term id below;
    parent = absent_parent_in_raised term.parent ∙ parent;
    shallow = shallow_in_raised (cell.Term id) (row.Term term) shallow;
    uuid = holder_in_raised (cell.Term id) unique.TermUuid term.uuid uuid;
  }

  pub new_node_fits : (id : ℕ) (node : Node) → id < seq.node → is_none (type_of rows node.node_type) ≡ false → is_absent_user rows node.uid ≡ false
      → holder rows (cell.Node id) unique.NodeUuid node.uuid ≡ None → path_holder rows (cell.Node id) node.path ≡ None → NodeFits raised id node
  new_node_fits id node below node_type owner uuid path = record {
    given = given_in_raised numbered.Node id below;
    node_type = ap is_none (type_in_raised node.node_type) ∙ node_type;
    owner = absent_user_in_raised node.uid ∙ owner;
    uuid = holder_in_raised (cell.Node id) unique.NodeUuid node.uuid uuid;
    path = path_in_raised (cell.Node id) node.path path;
  }

-- ---- after the next id of a comment was set

module _ (rows : List (Cell × Row)) (sorted : InOrder rows) (talk : Talk) where
  -- the rows with this id of a comment to be given next
  abbrev pub talked : List (Cell × Row)
  talked = with_row rows cell.Talk (row.Talk talk)

  same_in_talked : (c : Cell) → c ≢ cell.Talk → row_at talked c ≡ row_at rows c
  same_in_talked c other = (put_over rows cell.Talk (row.Talk talk)).elsewhere c other

  talk_in_talked : talk_of talked ≡ Some talk
  talk_in_talked = ap (option_and_then as_talk) (put_over rows cell.Talk (row.Talk talk)).here

  comment_in_talked : (id : ℕ) → comment_of talked id ≡ comment_of rows id
  comment_in_talked id = ap (option_and_then as_comment) (same_in_talked (cell.Comment id) (λ e. cc))

  absent_reply_in_talked : (n : ℕ) (parent : Option ℕ) → is_no_comment_of talked n parent ≡ is_no_comment_of rows n parent
  absent_reply_in_talked n None = refl
  absent_reply_in_talked n (Some id) = ap (λ o. not (option_map_or (λ c. c.node == n) o false)) (comment_in_talked id)

  -- a node that has fewer than 1,000 comments has 1,000 at most with one more
  few_in_talked : (id : ℕ) (comment : Comment) (n : ℕ) → nat_le 1000 (length (comments_on rows n)) ≡ false
      → length (comments_on (with_row talked (cell.Comment id) (row.Comment comment)) n) ≤ 1000
  few_in_talked id comment n few =
      few_with_one (length (comments_on rows n)) (length (filter_map (comment_on n) rows)) (length (filter_map (comment_on n) talked))
      (length (filter_map (comment_on n) (with_row talked (cell.Comment id) (row.Comment comment)))) (length (comments_on (with_row talked (cell.Comment id) (row.Comment comment)) n))
      (length (cons_option (comment_on n (cell.Comment id, row.Comment comment)) []))
      (leb-false 1000 (length (comments_on rows n)) few) (ap length (gathered_on rows n)) (more_put (comment_on n) rows cell.Talk (row.Talk talk))
      (more_put (comment_on n) talked (cell.Comment id) (row.Comment comment)) (one_at_most (comment_on n (cell.Comment id, row.Comment comment)))
      (ap length (gathered_on (with_row talked (cell.Comment id) (row.Comment comment)) n))

  pub new_comment_fits : (seq : Seq) (id : ℕ) (comment : Comment) → seq_of rows ≡ Some seq → row_at rows (cell.Comment id) ≡ None → id < talk.comment
      → is_none (node_of rows comment.node) ≡ false → is_absent_user rows comment.uid ≡ false → is_no_comment_of rows comment.node comment.parent ≡ false
      → AreShallowReplies (with_row rows (cell.Comment id) (row.Comment comment)) → nat_le 1000 (length (comments_on rows comment.node)) ≡ false
      → holder rows (cell.Comment id) unique.CommentUuid comment.uuid ≡ None → CommentFits talked id comment
  new_comment_fits seq id comment seq_is free below node owner parent shallow few uuid = record {
    given = record {
      seq = seq;
      there = ap (option_and_then as_seq) (same_in_talked cell.Seq (λ e. cc)) ∙ seq_is;
      below = subst (λ o. id < next_id numbered.Comment seq o) (sym talk_in_talked) below;
    };
    node = ap (λ (o : Option Row). is_none (option_and_then as_node o)) (same_in_talked (cell.Node comment.node) (λ e. cc)) ∙ node;
    owner = ap (λ (o : Option Row). not (comment.uid == 0) && is_none (option_and_then as_user o)) (same_in_talked (cell.User comment.uid) (λ e. cc)) ∙ owner;
    parent = absent_reply_in_talked comment.node comment.parent ∙ parent;
    stays = λ old was. not_there old (sym (comment_in_talked id) ∙ was);
    shallow = short_beside_set rows sorted cell.Talk (row.Talk talk) tt Replies (λ k e. cc) (cell.Comment id) (row.Comment comment) shallow;
    few = few_in_talked id comment comment.node few;
    uuid = holder_beside rows sorted cell.Talk (row.Talk talk) tt (cell.Comment id) unique.CommentUuid comment.uuid uuid;
  }
    where
      not_there : (old : Comment) → comment_of rows id ≡ Some old → old.node ≡ comment.node
      not_there old was = let never : None ≡ Some old = sym (ap (option_and_then as_comment) free) ∙ was in cc
