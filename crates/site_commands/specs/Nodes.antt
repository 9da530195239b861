-- Edits of nodes. https://www.drupal.org/docs/8/api/entity-api/access-on-entities
use Rattle.std.specs.Prelude.{ℕ, List, [], ◌∷◌, ◌++◌, ◌+◌, ◌==◌, true, not, Option, Some, None, is_none, option_map, unwrap_or, map, codes, nat_le}
use Rattle.std.specs.List.{list_any}
use Rattle.cacheability.specs.declared.op.Op.TheVariants as op
use Rattle.content_rows.specs.declared.cell.Cell.{Cell}
use Rattle.content_rows.specs.declared.cell.Cell.TheVariants as cell
use Rattle.content_rows.specs.declared.row.Row.{Row}
use Rattle.content_rows.specs.declared.row.Row.TheVariants as row
use Rattle.content_rows.specs.declared.row.Seq.{Seq}
use Rattle.content_rows.specs.declared.row.Node.{Node}
use Rattle.content_rows.specs.declared.row.NodeType.{NodeType}
use Rattle.content_state.specs.State.{State}
use Rattle.indexed_rows.specs.Write.{Write}
use Rattle.indexed_rows.specs.Rows.{seq_of, type_of, term_of, node_of, comments_on}
use Rattle.content_state.specs.declared.ask.Viewer.{Viewer}
use Rattle.indexed_rows.specs.declared.unique.Unique.TheVariants as unique
use Rattle.json_keys.specs.declared.checked.Checked.{Checked}
use Rattle.json_keys.specs.declared.rule.Rule.TheVariants as rule
use Rattle.valid_edits.specs.Fits.{is_absent_user}
use Rattle.valid_edits.specs.Holders.{holder, path_holder}
use Rattle.site_access.specs.Access.{access_to_node, access_to_create}
use Rattle.site_commands.specs.Causes.{Decision, decided, where_true, unless_allowed, breaks, of_body, of_target, set, removed, commit_of, accepted}
use Rattle.site_commands.specs.Fields.{key_denials, field_denials, unknown_field, changed_values}
use Rattle.site_commands.specs.declared.answer.Done.TheVariants as done
use Rattle.site_commands.specs.declared.answer.Refusal.{Refusal}
use Rattle.site_commands.specs.declared.answer.Refusal.TheVariants as refusal
use Rattle.site_commands.specs.declared.body.NewNode.{NewNode}
use Rattle.site_commands.specs.declared.body.NodePatch.{NodePatch}
use Rattle.site_commands.specs.declared.command.NodeKeys.{NodeKeys}
use Rattle.site_commands.specs.declared.command.NodeCreation.{NodeCreation}
use Rattle.site_commands.specs.declared.command.NodeChange.{NodeChange}

-- ---- what a body names

-- one of these nodes, of these terms, is not there; none is named where nothing is sent
abbrev pub absent_refs : List (Cell × Row) → List ℕ → Option Refusal
absent_refs rows refs = breaks (codes "refs") rule.Absent (list_any (λ n. is_none (node_of rows n)) refs)

abbrev pub absent_terms : List (Cell × Row) → List ℕ → Option Refusal
absent_terms rows terms = breaks (codes "terms") rule.Absent (list_any (λ t. is_none (term_of rows t)) terms)

-- the user is not there; 0 is nobody
abbrev pub absent_uid : List (Cell × Row) → Option ℕ → Option Refusal
absent_uid rows None = None
absent_uid rows (Some uid) = breaks (codes "uid") rule.Absent (is_absent_user rows uid)

-- another row has the path
abbrev pub path_taken : List (Cell × Row) → Cell → Option (List ℕ) → Option Refusal
path_taken rows c path = option_map refusal.PathTaken (path_holder rows c path)

-- the row of this kind that has the universal id
abbrev pub id_in : Cell → ℕ
id_in (cell.Node n) = n
id_in (cell.Term n) = n
id_in (cell.User n) = n
id_in (cell.Comment n) = n
id_in _ = 0

abbrev pub uuid_taken : Option Cell → Option Refusal
uuid_taken found = option_map (λ c. refusal.UuidTaken (id_in c)) found

-- there is no id left to give
abbrev pub no_id_left : ℕ → Option Refusal
no_id_left next = breaks (codes "seq") rule.Full (nat_le 4294967295 next)

-- ---- a new node

-- a node of the type of that name
abbrev pub new_node : NewNode → List ℕ → Viewer → ℕ → Node
new_node new name viewer now = record {
  changed = now;
  created = unwrap_or new.created now;
  fields = new.fields;
  grants = new.grants;
  path = new.path;
  promote = unwrap_or new.promote true;
  refs = new.refs;
  status = unwrap_or new.status true;
  sticky = new.sticky;
  terms = new.terms;
  title = new.title;
  node_type = name;
  uid = unwrap_or new.uid viewer.uid;
  uuid = new.uuid;
  vid = 1;
}

abbrev pub create_denials : List (Cell × Row) → Viewer → List ℕ → NodeType → NodeKeys → List (Option Refusal)
create_denials rows viewer name type keys =
    unless_allowed (access_to_create rows viewer name)
    ∷ (key_denials rows viewer keys ++ field_denials rows viewer viewer.uid (Some type) keys.fields)

abbrev pub create_refusals : List (Cell × Row) → NodeType → NewNode → Seq → List (Option Refusal)
create_refusals rows type new seq =
    unknown_field (Some type) (map (λ value. value.name) new.fields)
    ∷ absent_refs rows new.refs
    ∷ absent_terms rows new.terms
    ∷ absent_uid rows new.uid
    ∷ no_id_left seq.node
    ∷ uuid_taken (holder rows (cell.Node seq.node) unique.NodeUuid new.uuid)
    ∷ path_taken rows (cell.Node seq.node) new.path
    ∷ []

-- the id is the next one, which is one greater then
abbrev pub create_writes : NewNode → List ℕ → Viewer → ℕ → Seq → List Write
create_writes new name viewer now seq =
    set cell.Seq (row.Seq (record seq { node = seq.node + 1 }))
    ∷ set (cell.Node seq.node) (row.Node (new_node new name viewer now))
    ∷ []

abbrev pub create_right : State → Viewer → List ℕ → NodeType → ℕ → ℕ → NewNode → Seq → Decision
create_right state viewer name type now pass new seq =
    decided (create_refusals state.rows type new seq)
    (accepted state (commit_of pass (create_writes new name viewer now seq)) (done.NodeCreated seq.node))

abbrev pub create_of_type : State → Viewer → List ℕ → NodeKeys → Checked NewNode → ℕ → ℕ → NodeType → Decision
create_of_type state viewer name keys body now pass type =
    decided (create_denials state.rows viewer name type keys)
    (of_body body (λ new. of_target (seq_of state.rows) (create_right state viewer name type now pass new)))

abbrev pub create_named : State → Viewer → NodeKeys → Checked NewNode → ℕ → ℕ → List ℕ → Decision
create_named state viewer keys body now pass name =
    of_target (type_of state.rows name) (create_of_type state viewer name keys body now pass)

-- to make a node: its type is there, the viewer may make one and set each key and field that is sent
abbrev pub create_node : State → Viewer → NodeCreation → ℕ → ℕ → Decision
create_node state viewer asked now pass =
    of_target asked.node_type (create_named state viewer asked.keys asked.body now pass)

-- ---- a node that changes

abbrev pub patched_node : Node → NodePatch → ℕ → Node
patched_node node patch now = record node {
  changed = now;
  created = unwrap_or patch.created node.created;
  fields = changed_values node.fields patch.fields;
  grants = unwrap_or patch.grants node.grants;
  path = unwrap_or patch.path node.path;
  promote = unwrap_or patch.promote node.promote;
  refs = unwrap_or patch.refs node.refs;
  status = unwrap_or patch.status node.status;
  sticky = unwrap_or patch.sticky node.sticky;
  terms = unwrap_or patch.terms node.terms;
  title = unwrap_or patch.title node.title;
  uid = unwrap_or patch.uid node.uid;
  vid = node.vid + 1;
}

abbrev pub change_denials : List (Cell × Row) → Viewer → ℕ → Node → NodeKeys → List (Option Refusal)
change_denials rows viewer nid node keys =
    unless_allowed (access_to_node rows viewer op.Update nid)
    ∷ (key_denials rows viewer keys ++ field_denials rows viewer node.uid (type_of rows node.node_type) keys.fields)

-- the version that the change was made of is the node's
abbrev pub stale : ℕ → ℕ → Option Refusal
stale sent vid = where_true (not (sent == vid)) (refusal.Stale vid)

abbrev pub change_refusals : List (Cell × Row) → ℕ → NodePatch → ℕ → Node → List (Option Refusal)
change_refusals rows nid patch now node =
    unknown_field (type_of rows node.node_type) (map (λ change. change.name) patch.fields)
    ∷ absent_refs rows (unwrap_or patch.refs [])
    ∷ absent_terms rows (unwrap_or patch.terms [])
    ∷ absent_uid rows patch.uid
    ∷ breaks (codes "vid") rule.Full (node.vid == 4294967295)
    ∷ stale patch.vid node.vid
    ∷ path_taken rows (cell.Node nid) (patched_node node patch now).path
    ∷ []

abbrev pub change_right : State → ℕ → Node → ℕ → ℕ → NodePatch → Decision
change_right state nid node now pass patch =
    decided (change_refusals state.rows nid patch now node)
    (accepted state (commit_of pass (set (cell.Node nid) (row.Node (patched_node node patch now)) ∷ [])) (done.NodeChanged nid (node.vid + 1)))

abbrev pub change_there : State → Viewer → NodeKeys → Checked NodePatch → ℕ → ℕ → ℕ → Node → Decision
change_there state viewer keys body now pass nid node =
    decided (change_denials state.rows viewer nid node keys) (of_body body (change_right state nid node now pass))

-- to change a node: it is there, the viewer may update it and set each key and field that is sent
abbrev pub change_node : State → Viewer → NodeChange → ℕ → ℕ → Decision
change_node state viewer asked now pass =
    of_target asked.nid (λ nid. of_target (node_of state.rows nid) (change_there state viewer asked.keys asked.body now pass nid))

-- ---- a node that goes

-- the node goes with all comments on it, whoever may view them
-- https://api.drupal.org/api/drupal/core%21modules%21comment%21comment.module/function/comment_entity_predelete/10
abbrev pub remove_writes : List (Cell × Row) → ℕ → List Write
remove_writes rows nid = removed (cell.Node nid) ∷ map (λ e. removed (cell.Comment e.0)) (comments_on rows nid)

abbrev pub remove_there : State → Viewer → ℕ → ℕ → Decision
remove_there state viewer pass nid =
    decided (unless_allowed (access_to_node state.rows viewer op.Delete nid) ∷ [])
    (accepted state (commit_of pass (remove_writes state.rows nid)) done.Saved)

-- to remove a node: it is there, and the viewer may delete it
abbrev pub remove_node : State → Viewer → Option ℕ → ℕ → Decision
remove_node state viewer asked pass =
    of_target asked (λ nid. of_target (node_of state.rows nid) (λ node. remove_there state viewer pass nid))
