-- Edits of comments. https://www.drupal.org/docs/8/core/modules/comment/administering-a-comment-type
use Rattle.std.specs.Prelude.{ℕ, List, [], ◌∷◌, ◌+◌, Bool, ◌||◌, nat_le, length, Option, unwrap_or, filter, map, codes}
use Rattle.cacheability.specs.declared.op.Op.TheVariants as op
use Rattle.content_rows.specs.declared.cell.Cell.{Cell}
use Rattle.content_rows.specs.declared.cell.Cell.TheVariants as cell
use Rattle.content_rows.specs.declared.row.Row.{Row}
use Rattle.content_rows.specs.declared.row.Row.TheVariants as row
use Rattle.content_rows.specs.declared.row.Comment.{Comment}
use Rattle.content_state.specs.State.{State}
use Rattle.indexed_rows.specs.Write.{Write}
use Rattle.indexed_rows.specs.Rows.{with_row, node_of, comment_of, comments_on, talk_of}
use Rattle.content_state.specs.Chain.{is_longer, is_within, reply_in}
use Rattle.content_state.specs.SiteRules.{is_no_comment_of}
use Rattle.content_state.specs.Viewer.{may}
use Rattle.content_state.specs.declared.ask.Viewer.{Viewer}
use Rattle.indexed_rows.specs.declared.unique.Unique.TheVariants as unique
use Rattle.json_keys.specs.declared.checked.Checked.{Checked}
use Rattle.json_keys.specs.declared.rule.Rule.TheVariants as rule
pub use Rattle.valid_edits.specs.Fits.{next_comment}
use Rattle.valid_edits.specs.Holders.{holder}
use Rattle.site_access.specs.Access.{access_to_node}
use Rattle.site_access.specs.Comments.{post_comments, skip_comment_approval, administer_comments, access_to_comment}
use Rattle.site_commands.specs.Causes.{Decision, decided, unless_allowed, needs, key_needs, breaks, of_body, of_target, set, removed, commit_of, accepted}
use Rattle.site_commands.specs.Nodes.{uuid_taken}
use Rattle.site_commands.specs.declared.answer.Done.TheVariants as done
use Rattle.site_commands.specs.declared.answer.Refusal.{Refusal}
use Rattle.site_commands.specs.declared.body.NewComment.{NewComment}
use Rattle.site_commands.specs.declared.body.CommentPatch.{CommentPatch}
use Rattle.site_commands.specs.declared.command.CommentCreation.{CommentCreation}
use Rattle.site_commands.specs.declared.command.CommentChange.{CommentChange}

-- ---- a new comment

-- who may skip approval, or administers comments, publishes at once
abbrev pub is_approved : List (Cell × Row) → Viewer → Bool
is_approved rows viewer = may rows viewer skip_comment_approval || may rows viewer administer_comments

abbrev pub new_comment : NewComment → ℕ → ℕ → Bool → ℕ → Comment
new_comment new n uid approved now = record {
  body = new.body;
  created = now;
  node = n;
  parent = new.parent;
  status = approved;
  uid = uid;
  uuid = new.uuid;
}

-- the node may be viewed, and comments may be posted
abbrev pub create_denials : List (Cell × Row) → Viewer → ℕ → List (Option Refusal)
create_denials rows viewer n =
    unless_allowed (access_to_node rows viewer op.View n) ∷ needs rows viewer post_comments ∷ []

-- the chain of parents has more than nine comments
abbrev pub is_deep : List (Cell × Row) → ℕ → Bool
is_deep rows cid = is_longer (reply_in rows) 9 cid

-- the node has as many comments as a node may have
abbrev pub is_full : List (Cell × Row) → ℕ → Bool
is_full rows n = nat_le 1000 (length (comments_on rows n))

-- The parent is a comment on the same node; with the new comment, which no other one names, it may stand too deep itself;
-- the node has room for one more, and an id is left.
abbrev pub create_refusals : List (Cell × Row) → ℕ → Comment → ℕ → List (Option Refusal)
create_refusals rows n comment next =
    breaks (codes "parent") rule.Absent (is_no_comment_of rows n comment.parent)
    ∷ breaks (codes "parent") rule.Deep (is_deep (with_row rows (cell.Comment next) (row.Comment comment)) next)
    ∷ breaks (codes "node") rule.Many (is_full rows n)
    ∷ breaks (codes "comment") rule.Full (nat_le 4294967295 next)
    ∷ uuid_taken (holder rows (cell.Comment next) unique.CommentUuid comment.uuid)
    ∷ []

-- the id is the next one, which is one greater then
abbrev pub create_writes : Comment → ℕ → List Write
create_writes comment next =
    set cell.Talk (row.Talk (record { comment = next + 1 })) ∷ set (cell.Comment next) (row.Comment comment) ∷ []

abbrev pub create_next : State → ℕ → ℕ → Comment → ℕ → Decision
create_next state pass n comment next =
    decided (create_refusals state.rows n comment next)
    (accepted state (commit_of pass (create_writes comment next)) (done.CommentCreated next))

abbrev pub create_right : State → Viewer → ℕ → ℕ → ℕ → NewComment → Decision
create_right state viewer now pass n new =
    create_next state pass n (new_comment new n viewer.uid (is_approved state.rows viewer) now) (next_comment (talk_of state.rows))

abbrev pub create_there : State → Viewer → Checked NewComment → ℕ → ℕ → ℕ → Decision
create_there state viewer body now pass n =
    decided (create_denials state.rows viewer n) (of_body body (create_right state viewer now pass n))

-- to comment on a node that is there
abbrev pub create_comment : State → Viewer → CommentCreation → ℕ → ℕ → Decision
create_comment state viewer asked now pass =
    of_target asked.nid (λ n. of_target (node_of state.rows n) (λ node. create_there state viewer asked.body now pass n))

-- ---- a comment that changes

abbrev pub patched_comment : Comment → CommentPatch → Comment
patched_comment comment patch = record comment {
  body = unwrap_or patch.body comment.body;
  status = unwrap_or patch.status comment.status;
}

-- the owner may change the text; to publish it or not is for those who administer comments
abbrev pub change_denials : List (Cell × Row) → Viewer → ℕ → Bool → List (Option Refusal)
change_denials rows viewer cid status =
    unless_allowed (access_to_comment rows viewer op.Update cid) ∷ key_needs rows viewer status administer_comments ∷ []

abbrev pub change_right : State → ℕ → ℕ → Comment → CommentPatch → Decision
change_right state pass cid comment patch =
    accepted state (commit_of pass (set (cell.Comment cid) (row.Comment (patched_comment comment patch)) ∷ [])) done.Saved

abbrev pub change_there : State → Viewer → Bool → Checked CommentPatch → ℕ → ℕ → Comment → Decision
change_there state viewer status body pass cid comment =
    decided (change_denials state.rows viewer cid status) (of_body body (change_right state pass cid comment))

-- to change a comment that is there
abbrev pub change_comment : State → Viewer → CommentChange → ℕ → Decision
change_comment state viewer asked pass =
    of_target asked.cid (λ cid. of_target (comment_of state.rows cid) (change_there state viewer asked.status asked.body pass cid))

-- ---- a comment that goes

-- it goes with all whose chain of parents has it, whoever may view them
abbrev pub remove_writes : List (Cell × Row) → ℕ → Comment → List Write
remove_writes rows cid comment =
    map (λ e. removed (cell.Comment e.0)) (filter (λ e. is_within (reply_in rows) 9 cid e.0) (comments_on rows comment.node))

abbrev pub remove_there : State → Viewer → ℕ → ℕ → Comment → Decision
remove_there state viewer pass cid comment =
    decided (unless_allowed (access_to_comment state.rows viewer op.Delete cid) ∷ [])
    (accepted state (commit_of pass (remove_writes state.rows cid comment)) done.Saved)

-- to remove a comment that is there
abbrev pub remove_comment : State → Viewer → Option ℕ → ℕ → Decision
remove_comment state viewer asked pass =
    of_target asked (λ cid. of_target (comment_of state.rows cid) (remove_there state viewer pass cid))
