-- Comments: what is let through is right, and what is written of a right body is read back as it.
use Rattle.std.proofs.Common.{refl, codes}
use Rattle.serde_json.specs.Data.{Data}
use Rattle.content_rows.specs.Kinds.{IsId, is_comment_body}
use Rattle.json_keys.specs.Checked.{read_checked}
use Rattle.json_keys.specs.Fault.{ask_fault, is_wanted}
use Rattle.json_keys.specs.Order.{AllInOrder}
use Rattle.row_kinds.specs.Look.{small_in, option_in, OrNone}
use Rattle.row_kinds.proofs.Codec.{Between}
use Rattle.row_kinds.proofs.Keys.{maybe_id}
use Rattle.row_kinds.proofs.Lists.{for_some, of_for_some}
use Rattle.row_kinds.proofs.Numbers.{flag}
use Rattle.row_kinds.proofs.Objects.{IsPassed, held, good, read_right}
use Rattle.row_kinds.proofs.Strings.{Passes, comment_body, uuid}
use Rattle.site_commands.specs.Right.{OfBody, IsRightNewComment, IsRightCommentPatch}
use Rattle.site_commands.specs.declared.body.NewComment.{NewComment}
use Rattle.site_commands.specs.declared.body.CommentPatch.{CommentPatch}
use Rattle.body_kinds.specs.Bodies.{new_comment_in, comment_patch_in}
use Rattle.body_kinds.specs.Tables.{new_comment_keys, comment_patch_keys}
use Rattle.body_kinds.specs.Written.{new_comment_said, comment_patch_said, ComesBack}
use Rattle.body_kinds.proofs.Said.{sent_right, checked_right}
use Rattle.body_kinds.proofs.Back.{comes_back, sent_back, whole_back, sent_is, read_is}
use Rattle.body_kinds.proofs.ComesBack.{a_parent_back, no_word}

-- ---- right

new_comment : (d : Data) → IsPassed ask_fault is_wanted new_comment_keys d → IsRightNewComment (new_comment_in d)
new_comment d p =
    let body_is = good (held p) (codes "body") _ refl refl comment_body in
    let parent_is = read_right (option_in small_in) (OrNone (Between 1 4294967294)) p (codes "parent") _ refl maybe_id.right tt in
    let uuid_is = good (held p) (codes "uuid") _ refl refl uuid in
    record {
      body = body_is;
      parent = for_some (Between 1 4294967294) IsId (λ n g. g) (new_comment_in d).parent parent_is;
      uuid = uuid_is;
    }

pub new_comment_right : (d : Data) → AllInOrder d → OfBody IsRightNewComment (read_checked new_comment_in new_comment_keys d)
new_comment_right d o = checked_right new_comment_in new_comment_keys IsRightNewComment d o (new_comment d)

comment_patch : (d : Data) → IsPassed ask_fault is_wanted comment_patch_keys d → IsRightCommentPatch (comment_patch_in d)
comment_patch d p =
    let body_is = sent_right p (codes "body") _ refl comment_body in
    record {
      body = for_some (Passes is_comment_body) (Passes is_comment_body) (λ t g. g) (comment_patch_in d).body body_is;
    }

pub comment_patch_right : (d : Data) → AllInOrder d → OfBody IsRightCommentPatch (read_checked comment_patch_in comment_patch_keys d)
comment_patch_right d o = checked_right comment_patch_in comment_patch_keys IsRightCommentPatch d o (comment_patch d)

-- ---- back

pub new_comment_back : (new : NewComment) → IsRightNewComment new → ComesBack new_comment_in new_comment_keys (new_comment_said new) new
new_comment_back new right =
    let said = new_comment_said new in
    let body_back = whole_back comment_body new.body right.body in
    let parent_back = a_parent_back new.parent right.parent in
    let uuid_back = whole_back uuid new.uuid right.uuid in
    let body_is = read_is said (codes "body") _ _ refl body_back in
    let parent_is = read_is said (codes "parent") _ _ refl parent_back in
    let uuid_is = read_is said (codes "uuid") _ _ refl uuid_back in
    comes_back new_comment_in new_comment_keys said new (body_back.fine, (parent_back.fine, (uuid_back.fine, tt))) refl
    (λ i. record { body = body_is i; parent = parent_is i; uuid = uuid_is i })

pub comment_patch_back : (patch : CommentPatch) → IsRightCommentPatch patch → ComesBack comment_patch_in comment_patch_keys (comment_patch_said patch) patch
comment_patch_back patch right =
    let said = comment_patch_said patch in
    let body_back = sent_back comment_body patch.body (of_for_some (Passes is_comment_body) (Passes is_comment_body) (λ t g. g) patch.body right.body) in
    let status_back = sent_back flag patch.status (no_word patch.status) in
    let body_is = sent_is said (codes "body") _ _ refl body_back in
    let status_is = sent_is said (codes "status") _ _ refl status_back in
    comes_back comment_patch_in comment_patch_keys said patch (body_back.fine, (status_back.fine, tt)) refl
    (λ i. record { body = body_is i; status = status_is i })
