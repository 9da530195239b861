-- The plans of access to comments give the plain answers, and meet exactly what those depend on.
use Rattle.std.proofs.Common.{ℕ, [], ◌∷◌, true, false, Option, refl, arith}
use Rattle.cacheability.specs.declared.op.Op.{Op}
use Rattle.cacheability.specs.declared.op.Op.TheVariants as op
use Rattle.cacheability.specs.declared.tag.Tag.TheVariants as tag
use Rattle.cacheability.specs.declared.context.Context.TheVariants as context
use Rattle.cacheability.specs.Cacheability.{always_same}
use Rattle.content_rows.specs.declared.row.Comment.{Comment}
use Rattle.indexed_rows.specs.Rows.{comment_of}
use Rattle.content_state.specs.Read.{CommentRow}
use Rattle.content_state.specs.Context.{Visit}
use Rattle.content_state.specs.Viewer.{may}
use Rattle.content_state.specs.Plan.{reading, asking}
use Rattle.site_access.specs.Access.{owns}
use Rattle.site_access.specs.Plans.{holds, is_owner}
use Rattle.site_access.specs.Depends.{lasting}
use Rattle.site_access.specs.Comments.{
  access_comments,
  edit_own_comments,
  administer_comments,
  author_in,
  access_to_found,
  access_to_comment,
  found_access,
  comment_access,
  decided_depends,
  comment_depends,
}
use Rattle.site_access.proofs.SilentPlans.{Reads, reads_done, reads_next, reads_if, reads_row, reads_context}
use Rattle.site_access.proofs.PlansDecide.{held_with, held_again}

owner_read : (c uid : ℕ) (v : Visit) → Reads (is_owner uid) v (decided_depends c true) (owns v.viewer.uid uid) (decided_depends c false)
unfolding is_owner
owner_read c uid v =
    reads_next (asking context.User) _ v _ (decided_depends c false) _ v.viewer.uid _ (reads_context context.User v (tag.Comment c ∷ []) [] (context.UserPermissions ∷ []))
    (reads_done v (decided_depends c false) _ _ refl)

-- what is left to do once the row is read
found_read : (o : Op) (c : ℕ) (found : Option Comment) (v : Visit) → Reads (found_access o found) v (lasting (tag.Comment c ∷ []) []) (access_to_found v.rows v.viewer o found) (comment_depends v.rows v.viewer o c)
found_read op.View c found v =
    let decided = decided_depends c true in
    reads_next (holds administer_comments) _ v _ decided _ (may v.rows v.viewer administer_comments) _ (held_with administer_comments v (tag.Comment c ∷ []))
    (reads_next (holds access_comments) _ v _ decided _ (may v.rows v.viewer access_comments) _ (held_again access_comments v decided (0, omega arith, refl))
    (reads_done v decided _ _ refl))
found_read op.Update c found v =
    let decided = decided_depends c true in
    let asked = decided_depends c false in
    reads_next (holds administer_comments) _ v _ decided _ (may v.rows v.viewer administer_comments) _ (held_with administer_comments v (tag.Comment c ∷ []))
    (reads_if (may v.rows v.viewer administer_comments) _ _ v decided decided asked _ _ (λ _. reads_done v decided _ _ refl) (λ _.
    reads_next (is_owner (author_in found)) _ v _ asked _ (owns v.viewer.uid (author_in found)) _ (owner_read c (author_in found) v)
    (reads_next (holds edit_own_comments) _ v _ asked _ (may v.rows v.viewer edit_own_comments) _ (held_again edit_own_comments v asked (1, omega arith, refl))
    (reads_done v asked _ _ refl))))
found_read op.Delete c found v =
    let decided = decided_depends c true in
    reads_next (holds administer_comments) _ v _ decided _ (may v.rows v.viewer administer_comments) _ (held_with administer_comments v (tag.Comment c ∷ []))
    (reads_done v decided _ _ refl)

pub comment_read : (o : Op) (c : ℕ) (v : Visit) → Reads (comment_access o c) v always_same (access_to_comment v.rows v.viewer o c) (comment_depends v.rows v.viewer o c)
unfolding comment_access
comment_read o c v =
    reads_next (reading (CommentRow c)) (found_access o) v _ (lasting (tag.Comment c ∷ []) []) _ (comment_of v.rows c) _ (reads_row (CommentRow c) v [] [] [])
    (found_read o c (comment_of v.rows c) v)
