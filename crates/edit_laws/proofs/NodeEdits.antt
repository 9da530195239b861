-- Edits of nodes keep a state valid.
use Rattle.std.proofs.Common.{◌≡◌, ◌+◌, ℕ, List, [], ◌∷◌, refl, sym, ap, subst, arith}
use Rattle.std.specs.Prelude.{Option, Some, None, is_none, map}
use Rattle.std.specs.List.{IsDistinct}
use Rattle.std.specs.Ordering.{eq_by_cmp}
use Rattle.std.proofs.lemmas.List.Elements.{All-cons}
use Rattle.content_rows.specs.CellOrder.{cell_cmp}
use Rattle.content_rows.specs.Kinds.{IsMoment}
use Rattle.content_rows.specs.declared.cell.Cell.TheVariants as cell
use Rattle.content_rows.specs.declared.row.Row.TheVariants as row
use Rattle.content_rows.specs.declared.row.Seq.{Seq}
use Rattle.content_rows.specs.declared.row.Node.{Node}
use Rattle.content_rows.specs.declared.row.NodeType.{NodeType}
use Rattle.content_state.specs.State.{State}
use Rattle.indexed_rows.specs.Rows.{row_at, seq_of, type_of, node_of, comments_on}
use Rattle.content_state.specs.SiteRules.{IsValidState}
use Rattle.content_state.specs.declared.ask.Viewer.{Viewer}
use Rattle.indexed_rows.specs.declared.unique.Unique.TheVariants as unique
use Rattle.cacheability.specs.declared.op.Op.TheVariants as op
use Rattle.site_access.specs.Access.{access_to_node}
use Rattle.valid_edits.specs.Holders.{holder, path_holder}
use Rattle.valid_edits.specs.Fits.{AllFit, MayGoTogether}
use Rattle.valid_edits.proofs.Rows.{no_map}
use Rattle.valid_edits.proofs.Together.{is_node}
use Rattle.valid_edits.proofs.Valid.{right_at, owner_present, changed_node_fits}
use Rattle.valid_edits.proofs.Raised.{new_node_fits}
use Rattle.valid_edits.proofs.Going.{node_may_go}
use Rattle.site_commands.specs.Causes.{Decision, unless_allowed, of_body, of_target, set, removed, commit_of, accepted}
use Rattle.site_commands.specs.Nodes.{id_in, new_node, create_denials, create_refusals, create_writes, create_right, create_of_type, create_named, create_node, patched_node, change_denials, change_refusals, change_right, change_there, change_node, remove_writes, remove_there, remove_node}
use Rattle.site_commands.specs.Right.{IsRightNewNode, IsRightNodePatch, OfBody, IsViewerOf}
use Rattle.site_commands.specs.declared.answer.Done.TheVariants as done
use Rattle.site_commands.specs.declared.answer.Refusal.TheVariants as refusal
use Rattle.site_commands.specs.declared.body.NewNode.{NewNode}
use Rattle.site_commands.specs.declared.body.NodePatch.{NodePatch}
use Rattle.site_commands.specs.declared.command.NodeCreation.{NodeCreation}
use Rattle.site_commands.specs.declared.command.NodeChange.{NodeChange}
use Rattle.edit_laws.proofs.Accepting.{AllNone, OnlyKeeps, after_causes, after_body, after_target, writing, removing}
use Rattle.edit_laws.proofs.Parts.{next_is_id, seq_right, seq_written, user_in_range, user_present, one_cell, two_cells}
use Rattle.edit_laws.proofs.Removals.{removals, cells_of, removed_cells, all_removed, distinct_with_node}
use Rattle.edit_laws.proofs.RightRows.{right_new_node, right_patched_node}

module _ (state : State) (valid : IsValidState state) (viewer : Viewer) (pass : ℕ) where
  module _ (now : ℕ) (moment : IsMoment now) where
    -- ---- a node that is made

    module _ (is_viewer : IsViewerOf state.rows viewer) where
      created_fits : (name : List ℕ) (type : NodeType) → type_of state.rows name ≡ Some type → (new : NewNode) → IsRightNewNode new → (seq : Seq) → seq_of state.rows ≡ Some seq
          → AllNone (create_refusals state.rows type new seq) → AllFit state.rows (create_writes new name viewer now seq)
      created_fits name type typed new right seq is none =
          let next : Seq = record seq { node = seq.node + 1 } in
          let node : Node = new_node new name viewer now in
          let id = next_is_id seq.node (seq_right state valid seq is).node none.1.1.1.1.0 in
          let in_range = user_in_range state valid viewer.uid is_viewer in (
            seq_written state valid seq next is (omega arith) (omega arith) (omega arith),
            (
              (
                (id, right_new_node new name viewer now right moment in_range),
                new_node_fits state.rows valid.in_order next seq.node node (omega arith) (ap is_none typed)
                    (user_present state.rows new.uid viewer.uid none.1.1.1.0 is_viewer)
                    (no_map (λ c. refusal.UuidTaken (id_in c)) (holder state.rows (cell.Node seq.node) unique.NodeUuid new.uuid) none.1.1.1.1.1.0)
                    (no_map refusal.PathTaken (path_holder state.rows (cell.Node seq.node) new.path) none.1.1.1.1.1.1.0),
              ),
              tt,
            ),
          )

      created : (name : List ℕ) (type : NodeType) → type_of state.rows name ≡ Some type → (new : NewNode) → IsRightNewNode new → (seq : Seq) → seq_of state.rows ≡ Some seq
          → OnlyKeeps state pass (create_right state viewer name type now pass new seq)
      created name type typed new right seq is =
          let writes = create_writes new name viewer now seq in
          after_causes state pass (create_refusals state.rows type new seq) (accepted state (commit_of pass writes) (done.NodeCreated seq.node)) (λ none.
          writing state pass valid writes (done.NodeCreated seq.node) (two_cells cell.Seq (cell.Node seq.node) (λ e. cc)) (created_fits name type typed new right seq is none))

      pub create_node_keeps : (asked : NodeCreation) → OfBody IsRightNewNode asked.body → OnlyKeeps state pass (create_node state viewer asked now pass)
      create_node_keeps asked right =
          after_target state pass asked.node_type (create_named state viewer asked.keys asked.body now pass) (λ name named.
          after_target state pass (type_of state.rows name) (create_of_type state viewer name asked.keys asked.body now pass) (λ type typed.
          let made : NewNode → Decision = λ new. of_target (seq_of state.rows) (create_right state viewer name type now pass new) in
          after_causes state pass (create_denials state.rows viewer name type asked.keys) (of_body asked.body made) (λ allowed.
          after_body state pass IsRightNewNode asked.body made right (λ new new_right.
          after_target state pass (seq_of state.rows) (create_right state viewer name type now pass new) (created name type typed new new_right)))))

    -- ---- a node that changes

    changed : (nid : ℕ) (node : Node) → node_of state.rows nid ≡ Some node → (patch : NodePatch) → IsRightNodePatch patch → OnlyKeeps state pass (change_right state nid node now pass patch)
    changed nid node is patch right =
        let new : Node = patched_node node patch now in
        let writes = set (cell.Node nid) (row.Node new) ∷ [] in
        let told = done.NodeChanged nid (node.vid + 1) in
        let old = right_at state valid (cell.Node nid) (row.Node node) (is_node (row_at state.rows (cell.Node nid)) node is) in
        after_causes state pass (change_refusals state.rows nid patch now node) (accepted state (commit_of pass writes) told) (λ none.
        writing state pass valid writes told (one_cell (cell.Node nid)) (
          (
            (old.0, right_patched_node node patch now old.1 right moment),
            changed_node_fits state valid nid node new is refl refl
                (user_present state.rows patch.uid node.uid none.1.1.1.0 (owner_present state valid nid node is))
                (no_map refusal.PathTaken (path_holder state.rows (cell.Node nid) new.path) none.1.1.1.1.1.1.0),
          ),
          tt,
        ))

    pub change_node_keeps : (asked : NodeChange) → OfBody IsRightNodePatch asked.body → OnlyKeeps state pass (change_node state viewer asked now pass)
    change_node_keeps asked right =
        after_target state pass asked.nid (λ nid. of_target (node_of state.rows nid) (change_there state viewer asked.keys asked.body now pass nid)) (λ nid named.
        after_target state pass (node_of state.rows nid) (change_there state viewer asked.keys asked.body now pass nid) (λ node is.
        after_causes state pass (change_denials state.rows viewer nid node asked.keys) (of_body asked.body (change_right state nid node now pass)) (λ allowed.
        after_body state pass IsRightNodePatch asked.body (change_right state nid node now pass) right (changed nid node is))))

  -- ---- a node that goes, with its comments

  pub remove_node_keeps : (asked : Option ℕ) → OnlyKeeps state pass (remove_node state viewer asked pass)
  remove_node_keeps asked =
      after_target state pass asked (λ nid. of_target (node_of state.rows nid) (λ node. remove_there state viewer pass nid)) (λ nid named.
      after_target state pass (node_of state.rows nid) (λ node. remove_there state viewer pass nid) (λ node is.
      let going = comments_on state.rows nid in
      let cells : map (λ w. w.cell) (removed (cell.Node nid) ∷ removals going) ≡ cell.Node nid ∷ cells_of going = ap (λ l. cell.Node nid ∷ l) (removed_cells going) in
      after_causes state pass (unless_allowed (access_to_node state.rows viewer op.Delete nid) ∷ []) (accepted state (commit_of pass (remove_writes state.rows nid)) done.Saved) (λ allowed.
      removing state pass valid (remove_writes state.rows nid) done.Saved
      (subst (λ cs. IsDistinct (eq_by_cmp cell_cmp) cs) (sym cells) (distinct_with_node state.rows valid.in_order nid))
      (All-cons (λ w. w.row ≡ None) (removed (cell.Node nid)) (removals going) refl (all_removed going))
      (subst (MayGoTogether state.rows) (sym cells) (node_may_go state valid nid)))))
