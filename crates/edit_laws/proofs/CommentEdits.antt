-- Edits of comments keep a state valid.
use Rattle.std.proofs.Common.{◌≡◌, ◌≤◌, ◌<◌, ◌+◌, ℕ, [], ◌∷◌, refl, sym, ap, subst, arith}
use Rattle.std.specs.Prelude.{nat_le, Option, Some, None, is_none, unwrap_or}
use Rattle.std.specs.List.{IsDistinct, filter}
use Rattle.std.specs.Ordering.{eq_by_cmp}
use Rattle.std.proofs.lemmas.Bool.{leb-false}
use Rattle.content_rows.specs.CellOrder.{cell_cmp}
use Rattle.content_rows.specs.Kinds.{IsMoment}
use Rattle.content_rows.specs.declared.cell.Cell.TheVariants as cell
use Rattle.content_rows.specs.declared.row.Row.TheVariants as row
use Rattle.content_rows.specs.declared.row.Node.{Node}
use Rattle.content_rows.specs.declared.row.Comment.{Comment}
use Rattle.content_rows.specs.declared.row.Talk.{Talk}
use Rattle.content_state.specs.State.{State}
use Rattle.content_state.specs.Chain.{is_within, reply_in}
use Rattle.indexed_rows.specs.Rows.{row_at, with_row, node_of, comment_of, comments_on, talk_of}
use Rattle.content_state.specs.SiteRules.{is_no_comment_of, IsValidState}
use Rattle.content_state.specs.declared.ask.Viewer.{Viewer}
use Rattle.indexed_rows.specs.declared.unique.Unique.TheVariants as unique
use Rattle.cacheability.specs.declared.op.Op.TheVariants as op
use Rattle.valid_edits.specs.Holders.{holder}
use Rattle.valid_edits.specs.Fits.{next_comment, AllFit, MayGoTogether}
use Rattle.valid_edits.proofs.Rows.{no_map}
use Rattle.valid_edits.proofs.Together.{is_node, is_comment, is_talk}
use Rattle.valid_edits.proofs.Valid.{right_at, seq_there, no_comment_id, next_comment_free, made_shallow_reply, changed_comment_fits}
use Rattle.valid_edits.proofs.Raised.{new_comment_fits}
use Rattle.valid_edits.proofs.Going.{comment_may_go}
use Rattle.site_access.specs.Comments.{access_to_comment}
use Rattle.site_commands.specs.Causes.{unless_allowed, of_body, of_target, set, commit_of, accepted}
use Rattle.site_commands.specs.Nodes.{id_in}
use Rattle.site_commands.specs.Comments.{is_approved, new_comment, is_deep, is_full, create_denials, create_refusals, create_writes, create_right, create_there, create_comment, patched_comment, change_denials, change_right, change_there, change_comment, remove_there, remove_comment}
use Rattle.site_commands.specs.Right.{IsRightNewComment, IsRightCommentPatch, OfBody, IsViewerOf}
use Rattle.site_commands.specs.declared.answer.Done.TheVariants as done
use Rattle.site_commands.specs.declared.answer.Refusal.TheVariants as refusal
use Rattle.site_commands.specs.declared.body.NewComment.{NewComment}
use Rattle.site_commands.specs.declared.body.CommentPatch.{CommentPatch}
use Rattle.site_commands.specs.declared.command.CommentCreation.{CommentCreation}
use Rattle.site_commands.specs.declared.command.CommentChange.{CommentChange}
use Rattle.edit_laws.proofs.Accepting.{AllNone, OnlyKeeps, after_causes, after_body, after_target, writing, removing}
use Rattle.edit_laws.proofs.Parts.{untrue, user_in_range, one_cell, two_cells}
use Rattle.edit_laws.proofs.Removals.{removals, removed_cells, all_removed, distinct_kept}
use Rattle.edit_laws.proofs.RightRows.{right_new_comment, right_patched_comment}

module _ (state : State) (valid : IsValidState state) (viewer : Viewer) (pass : ℕ) where
  -- the id to be given next is one at least
  next_from_one : 1 ≤ next_comment (talk_of state.rows)
  next_from_one = go (talk_of state.rows) refl
    where
      go : (o : Option Talk) → talk_of state.rows ≡ o → 1 ≤ next_comment o
      go None is = omega arith
      go (Some talk) is = (right_at state valid cell.Talk (row.Talk talk) (is_talk (row_at state.rows cell.Talk) talk is)).comment

  -- ---- a comment that is made

  module _ (now : ℕ) (moment : IsMoment now) (is_viewer : IsViewerOf state.rows viewer) where
    created_fits : (n : ℕ) (node : Node) → node_of state.rows n ≡ Some node → (new : NewComment) → IsRightNewComment new
        → AllNone (create_refusals state.rows n (new_comment new n viewer.uid (is_approved state.rows viewer) now) (next_comment (talk_of state.rows)))
        → AllFit state.rows (create_writes (new_comment new n viewer.uid (is_approved state.rows viewer) now) (next_comment (talk_of state.rows)))
    created_fits n node is new right none =
        let next = next_comment (talk_of state.rows) in
        let comment : Comment = new_comment new n viewer.uid (is_approved state.rows viewer) now in
        let talk : Talk = record { comment = next + 1 } in
        let seq = seq_there state valid in
        let first : 1 ≤ next = next_from_one in
        let last : next < 4294967295 = leb-false 4294967295 next (untrue (nat_le 4294967295 next) _ none.1.1.1.0) in
        let node_right = right_at state valid (cell.Node n) (row.Node node) (is_node (row_at state.rows (cell.Node n)) node is) in
        let made = made_shallow_reply state valid next comment (next_comment_free state valid) (untrue (is_deep (with_row state.rows (cell.Comment next) (row.Comment comment)) next) _ none.1.0) in (
          (record { comment = omega arith }, no_comment_id state valid (next + 1) (omega arith)),
          (
            (
              ((first, omega arith), right_new_comment new n viewer.uid (is_approved state.rows viewer) now right moment node_right.0 (user_in_range state valid viewer.uid is_viewer)),
              new_comment_fits state.rows valid.in_order talk seq.0 next comment seq.1 (next_comment_free state valid) (omega arith) (ap is_none is) is_viewer
                  (untrue (is_no_comment_of state.rows n new.parent) _ none.0) made
                  (untrue (is_full state.rows n) _ none.1.1.0)
                  (no_map (λ c. refusal.UuidTaken (id_in c)) (holder state.rows (cell.Comment next) unique.CommentUuid new.uuid) none.1.1.1.1.0),
            ),
            tt,
          ),
        )

    created : (n : ℕ) (node : Node) → node_of state.rows n ≡ Some node → (new : NewComment) → IsRightNewComment new → OnlyKeeps state pass (create_right state viewer now pass n new)
    created n node is new right =
        let next = next_comment (talk_of state.rows) in
        let comment : Comment = new_comment new n viewer.uid (is_approved state.rows viewer) now in
        let writes = create_writes comment next in
        after_causes state pass (create_refusals state.rows n comment next) (accepted state (commit_of pass writes) (done.CommentCreated next)) (λ none.
        writing state pass valid writes (done.CommentCreated next) (two_cells cell.Talk (cell.Comment next) (λ e. cc)) (created_fits n node is new right none))

    pub create_comment_keeps : (asked : CommentCreation) → OfBody IsRightNewComment asked.body → OnlyKeeps state pass (create_comment state viewer asked now pass)
    create_comment_keeps asked right =
        after_target state pass asked.nid (λ n. of_target (node_of state.rows n) (λ node. create_there state viewer asked.body now pass n)) (λ n named.
        after_target state pass (node_of state.rows n) (λ node. create_there state viewer asked.body now pass n) (λ node is.
        after_causes state pass (create_denials state.rows viewer n) (of_body asked.body (create_right state viewer now pass n)) (λ allowed.
        after_body state pass IsRightNewComment asked.body (create_right state viewer now pass n) right (created n node is))))

  -- ---- a comment that changes

  changed : (cid : ℕ) (comment : Comment) → comment_of state.rows cid ≡ Some comment → (patch : CommentPatch) → IsRightCommentPatch patch → OnlyKeeps state pass (change_right state pass cid comment patch)
  changed cid comment is patch right =
      let old = right_at state valid (cell.Comment cid) (row.Comment comment) (is_comment (row_at state.rows (cell.Comment cid)) comment is) in
      writing state pass valid (set (cell.Comment cid) (row.Comment (patched_comment comment patch)) ∷ []) done.Saved (one_cell (cell.Comment cid)) (
        (
          (old.0, right_patched_comment comment patch old.1 right),
          changed_comment_fits state valid cid comment is (unwrap_or patch.body comment.body) (unwrap_or patch.status comment.status),
        ),
        tt,
      )

  pub change_comment_keeps : (asked : CommentChange) → OfBody IsRightCommentPatch asked.body → OnlyKeeps state pass (change_comment state viewer asked pass)
  change_comment_keeps asked right =
      after_target state pass asked.cid (λ cid. of_target (comment_of state.rows cid) (change_there state viewer asked.status asked.body pass cid)) (λ cid named.
      after_target state pass (comment_of state.rows cid) (change_there state viewer asked.status asked.body pass cid) (λ comment is.
      after_causes state pass (change_denials state.rows viewer cid asked.status) (of_body asked.body (change_right state pass cid comment)) (λ allowed.
      after_body state pass IsRightCommentPatch asked.body (change_right state pass cid comment) right (changed cid comment is))))

  -- ---- a comment that goes, with those below it

  pub remove_comment_keeps : (asked : Option ℕ) → OnlyKeeps state pass (remove_comment state viewer asked pass)
  remove_comment_keeps asked =
      after_target state pass asked (λ cid. of_target (comment_of state.rows cid) (remove_there state viewer pass cid)) (λ cid named.
      after_target state pass (comment_of state.rows cid) (remove_there state viewer pass cid) (λ comment is.
      let going = filter (λ e. is_within (reply_in state.rows) 9 cid e.0) (comments_on state.rows comment.node) in
      after_causes state pass (unless_allowed (access_to_comment state.rows viewer op.Delete cid) ∷ []) (accepted state (commit_of pass (removals going)) done.Saved) (λ allowed.
      removing state pass valid (removals going) done.Saved
      (subst (λ cells. IsDistinct (eq_by_cmp cell_cmp) cells) (sym (removed_cells going)) (distinct_kept state.rows valid.in_order comment.node (λ e. is_within (reply_in state.rows) 9 cid e.0)))
      (all_removed going)
      (subst (MayGoTogether state.rows) (sym (removed_cells going)) (comment_may_go state valid cid comment.node)))))
