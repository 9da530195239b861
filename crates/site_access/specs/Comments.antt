-- Access to a comment: plainly, as a plan of reads, and what it depends on.
-- https://api.drupal.org/api/drupal/core!modules!comment!src!CommentAccessControlHandler.php/class/CommentAccessControlHandler/10
use Rattle.std.specs.Prelude.{ℕ, List, [], ◌∷◌, Bool, true, false, ◌&&◌, ◌||◌, Option, Some, None, codes, if◌then◌else◌}
use Rattle.cacheability.specs.declared.op.Op.{Op}
use Rattle.cacheability.specs.declared.op.Op.TheVariants as op
use Rattle.cacheability.specs.declared.tag.Tag.TheVariants as tag
use Rattle.cacheability.specs.declared.context.Context.TheVariants as context
use Rattle.cacheability.specs.declared.cacheability.Cacheability.{Cacheability}
use Rattle.access_result.specs.declared.reason.Reason.TheVariants as reason
use Rattle.content_rows.specs.declared.cell.Cell.{Cell}
use Rattle.content_rows.specs.declared.row.Row.{Row}
use Rattle.content_rows.specs.declared.row.Comment.{Comment}
use Rattle.content_state.specs.declared.ask.Viewer.{Viewer}
use Rattle.indexed_rows.specs.Rows.{comment_of}
use Rattle.content_state.specs.Viewer.{may}
use Rattle.content_state.specs.Read.{CommentRow}
use Rattle.content_state.specs.Context.{Visit}
use Rattle.content_state.specs.Plan.{Plan, Done, reading, ◌>>=◌}
use Rattle.site_access.specs.Access.{Access, Allowed, Denied, owns}
use Rattle.site_access.specs.Plans.{holds, is_owner}
use Rattle.site_access.specs.Depends.{lasting}
use Rattle.site_access.specs.Laws.{GivesOnly}
use Rattle.site_access.specs.Exact.{DecidesExactly}

unfoldable pub access_comments : List ℕ
access_comments = codes "access comments"

unfoldable pub post_comments : List ℕ
post_comments = codes "post comments"

unfoldable pub skip_comment_approval : List ℕ
skip_comment_approval = codes "skip comment approval"

unfoldable pub edit_own_comments : List ℕ
edit_own_comments = codes "edit own comments"

unfoldable pub administer_comments : List ℕ
administer_comments = codes "administer comments"

abbrev pub is_published : Option Comment → Bool
is_published None = false
is_published (Some comment) = comment.status

abbrev pub author_in : Option Comment → ℕ
author_in None = 0
author_in (Some comment) = comment.uid

-- viewing a published comment needs `access comments`, viewing any other `administer comments`
abbrev pub view_permission : Bool → List ℕ
view_permission published = if published then access_comments else administer_comments

-- who administers comments views each of them, who may access comments each published one
abbrev pub view_decision : Bool → Bool → Bool → Access
view_decision published administers accesses =
    if administers || (published && accesses) then Allowed else Denied (reason.Permission (view_permission published))

-- where administering doesn't decide, the logged-in owner of a published one changes it, with a permission for that
abbrev pub own_decision : Bool → Bool → Bool → Access
own_decision published own edits =
    if published && (own && edits) then Allowed else Denied (reason.Permission administer_comments)

-- only who administers comments removes one
abbrev pub removal_decision : Bool → Access
removal_decision administers = if administers then Allowed else Denied (reason.Permission administer_comments)

-- access to a comment of this row
abbrev pub access_to_found : List (Cell × Row) → Viewer → Op → Option Comment → Access
access_to_found rows viewer op.View found =
    view_decision (is_published found) (may rows viewer administer_comments) (may rows viewer access_comments)
access_to_found rows viewer op.Update found =
    if may rows viewer administer_comments then Allowed
    else own_decision (is_published found) (owns viewer.uid (author_in found)) (may rows viewer edit_own_comments)
access_to_found rows viewer op.Delete found = removal_decision (may rows viewer administer_comments)

abbrev pub access_to_comment : List (Cell × Row) → Viewer → Op → ℕ → Access
access_to_comment rows viewer op c = access_to_found rows viewer op (comment_of rows c)

-- ---- the plan of it

abbrev pub view_plan : Option Comment → Plan Access
view_plan found = do
  administers ← holds administer_comments
  accesses ← holds access_comments
  Done (view_decision (is_published found) administers accesses)

abbrev pub update_plan : Option Comment → Plan Access
update_plan found = do
  administers ← holds administer_comments
  if administers then Done Allowed else (do
    own ← is_owner (author_in found)
    edits ← holds edit_own_comments
    Done (own_decision (is_published found) own edits))

abbrev pub removal_plan : Plan Access
removal_plan = holds administer_comments >>= λ administers. Done (removal_decision administers)

abbrev pub found_access : Op → Option Comment → Plan Access
found_access op.View found = view_plan found
found_access op.Update found = update_plan found
found_access op.Delete found = removal_plan

unfoldable pub comment_access : Op → ℕ → Plan Access
comment_access op c = reading (CommentRow c) >>= found_access op

-- ---- exactly what it depends on

-- on who views only where a change is not for whoever administers comments
abbrev pub decided_depends : ℕ → Bool → Cacheability
decided_depends c administers =
    if administers then lasting (tag.Comment c ∷ []) (context.UserPermissions ∷ [])
    else lasting (tag.Comment c ∷ []) (context.User ∷ context.UserPermissions ∷ [])

abbrev pub comment_depends : List (Cell × Row) → Viewer → Op → ℕ → Cacheability
comment_depends rows viewer op.View c = decided_depends c true
comment_depends rows viewer op.Update c = decided_depends c (may rows viewer administer_comments)
comment_depends rows viewer op.Delete c = decided_depends c true

abbrev pub CommentAccessIsExact : Type 0
CommentAccessIsExact =
    (op : Op) (c : ℕ) (v : Visit)
    → DecidesExactly (comment_access op c) v (access_to_comment v.rows v.viewer op c) (comment_depends v.rows v.viewer op c)

abbrev pub CommentPlanAnswers : Type 0
CommentPlanAnswers =
    (op : Op) (c : ℕ) (v : Visit) → GivesOnly (comment_access op c) v (access_to_comment v.rows v.viewer op c)
