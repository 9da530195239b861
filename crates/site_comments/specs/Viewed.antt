-- Which comments a viewer may view, and which answer which.
-- https://www.drupal.org/docs/core-modules-and-themes/core-modules/comment-module
use Rattle.std.specs.Prelude.{ℕ, List, Bool, true, false, ◌≡◌, ◌==◌, ◌&&◌, ◌||◌, Option, Some, None}
use Rattle.cacheability.specs.declared.op.Op.TheVariants as op
use Rattle.content_rows.specs.declared.cell.Cell.{Cell}
use Rattle.content_rows.specs.declared.row.Row.{Row}
use Rattle.content_rows.specs.declared.row.Comment.{Comment}
use Rattle.content_state.specs.declared.ask.Viewer.{Viewer}
use Rattle.indexed_rows.specs.Rows.{comment_of}
use Rattle.content_state.specs.Viewer.{may}
use Rattle.site_access.specs.Comments.{access_comments, administer_comments, access_to_comment}
use Rattle.site_access.specs.Viewing.{is_allowed}
use Rattle.site_comments.specs.declared.reader.CommentReader.{CommentReader}

-- who administers comments views each, who accesses comments each published one
abbrev pub may_view_comment : CommentReader → Comment → Bool
may_view_comment reader comment = reader.administers || (reader.accesses && comment.status)

-- whether some comments may be viewed
abbrev pub reads_some : CommentReader → Bool
reads_some reader = reader.administers || reader.accesses

-- whether a comment answers the one of that number; of none, whether it answers none
abbrev pub answers : Option ℕ → Option ℕ → Bool
answers None None = true
answers (Some one) (Some other) = one == other
answers _ _ = false

abbrev pub is_reply_to : Comment → Option ℕ → Bool
is_reply_to comment parent = answers comment.parent parent

-- it stands right below the one of that number, or below none, and may be viewed
abbrev pub is_shown : CommentReader → Option ℕ → Comment → Bool
is_shown reader parent comment = is_reply_to comment parent && may_view_comment reader comment

-- what of a viewer decides it
abbrev pub reader_of : List (Cell × Row) → Viewer → CommentReader
reader_of rows viewer = record { administers = may rows viewer administer_comments; accesses = may rows viewer access_comments }

-- a comment that is there may be viewed exactly where access allows it
abbrev pub ViewsAreDecided : Type 0
ViewsAreDecided =
    (rows : List (Cell × Row)) (viewer : Viewer) (k : ℕ) (comment : Comment) → comment_of rows k ≡ Some comment
    → is_allowed (access_to_comment rows viewer op.View k) ≡ may_view_comment (reader_of rows viewer) comment
