-- The rows that right commands make, and those that they change, are right by themselves.
use Rattle.std.proofs.Common.{◌≤◌, ◌+◌, ◌||◌, ℕ, List, [], refl, arith}
use Rattle.std.specs.Prelude.{Bool, Option, Some, None, length, All, IsTrue}
use Rattle.std.specs.Option.{ForSome}
use Rattle.std.specs.Str.{bytes_eq}
use Rattle.std.proofs.Math.Nat.{min-le_right}
use Rattle.std.proofs.lemmas.Bool.{or_left}
use Rattle.content_rows.specs.Kinds.{IsMoment, IsId, is_line, is_text, is_comment_body, is_hex, is_path, none_or}
use Rattle.content_rows.specs.ValidRow.{IsValidUser, IsValidTerm, IsValidNode, IsValidSession, IsValidComment}
use Rattle.content_rows.specs.declared.row.User.{User}
use Rattle.content_rows.specs.declared.row.Term.{Term}
use Rattle.content_rows.specs.declared.row.Node.{Node}
use Rattle.content_rows.specs.declared.row.Comment.{Comment}
use Rattle.content_state.specs.declared.ask.Viewer.{Viewer}
use Rattle.site_commands.specs.Nodes.{new_node, patched_node}
use Rattle.site_commands.specs.Terms.{new_term, patched_term}
use Rattle.site_commands.specs.Comments.{new_comment, patched_comment}
use Rattle.site_commands.specs.Users.{digest_of, salt_of, new_user, patched_user}
use Rattle.site_commands.specs.Sessions.{session_end}
use Rattle.site_commands.specs.Right.{IsRightNewNode, IsRightNodePatch, IsRightNewTerm, IsRightTermPatch, IsRightNewUser, IsRightUserPatch, IsRightNewComment, IsRightCommentPatch, IsSalt}
use Rattle.site_commands.specs.declared.body.NewNode.{NewNode}
use Rattle.site_commands.specs.declared.body.NodePatch.{NodePatch}
use Rattle.site_commands.specs.declared.body.NewTerm.{NewTerm}
use Rattle.site_commands.specs.declared.body.TermPatch.{TermPatch}
use Rattle.site_commands.specs.declared.body.NewUser.{NewUser}
use Rattle.site_commands.specs.declared.body.UserPatch.{UserPatch}
use Rattle.site_commands.specs.declared.body.NewComment.{NewComment}
use Rattle.site_commands.specs.declared.body.CommentPatch.{CommentPatch}
use Rattle.edit_laws.proofs.Parts.{sent_or_kept}
use Rattle.edit_laws.proofs.Digests.{digest_is_hex}
use Rattle.edit_laws.proofs.FieldValues.{changed_by_name, changed_are_texts}

-- ---- nodes

pub right_new_node : (new : NewNode) (name : List ℕ) (viewer : Viewer) (now : ℕ) → IsRightNewNode new → IsMoment now → viewer.uid ≤ 4294967294 → IsValidNode (new_node new name viewer now)
right_new_node new name viewer now right moment in_range = record {
  changed = moment;
  created = sent_or_kept IsMoment new.created now right.created moment;
  field_texts = right.field_texts;
  by_name = right.by_name;
  few_grants = right.few_grants;
  path = right.path;
  few_refs = right.few_refs;
  refs = right.refs;
  few_terms = right.few_terms;
  terms = right.terms;
  title = right.title;
  uid = sent_or_kept (λ uid. uid ≤ 4294967294) new.uid viewer.uid right.uid in_range;
  uuid = right.uuid;
  vid = omega arith;
}

pub right_patched_node : (node : Node) (patch : NodePatch) (now : ℕ) → IsValidNode node → IsRightNodePatch patch → IsMoment now → IsValidNode (patched_node node patch now)
right_patched_node node patch now old right moment = record {
  changed = moment;
  created = sent_or_kept IsMoment patch.created node.created right.created old.created;
  field_texts = changed_are_texts node.fields patch.fields old.field_texts right.field_texts;
  by_name = changed_by_name node.fields patch.fields old.by_name;
  few_grants = sent_or_kept (λ grants. length grants ≤ 64) patch.grants node.grants right.few_grants old.few_grants;
  path = sent_or_kept (λ path. IsTrue (none_or is_path path)) patch.path node.path right.path old.path;
  few_refs = sent_or_kept (λ refs. length refs ≤ 8) patch.refs node.refs right.few_refs old.few_refs;
  refs = sent_or_kept (All IsId) patch.refs node.refs right.refs old.refs;
  few_terms = sent_or_kept (λ terms. length terms ≤ 32) patch.terms node.terms right.few_terms old.few_terms;
  terms = sent_or_kept (All IsId) patch.terms node.terms right.terms old.terms;
  title = sent_or_kept (λ title. IsTrue (is_line 255 title)) patch.title node.title right.title old.title;
  uid = sent_or_kept (λ uid. uid ≤ 4294967294) patch.uid node.uid right.uid old.uid;
  uuid = old.uuid;
  vid = omega arith;
}

-- ---- terms

pub right_new_term : (new : NewTerm) → IsRightNewTerm new → IsValidTerm (new_term new)
right_new_term new right = record { description = right.description; name = right.name; parent = right.parent; uuid = right.uuid }

pub right_patched_term : (term : Term) (patch : TermPatch) → IsValidTerm term → IsRightTermPatch patch → IsValidTerm (patched_term term patch)
right_patched_term term patch old right = record {
  description = sent_or_kept (λ description. IsTrue (is_text description)) patch.description term.description right.description old.description;
  name = sent_or_kept (λ name. IsTrue (is_line 255 name)) patch.name term.name right.name old.name;
  parent = sent_or_kept (λ parent. ForSome parent IsId) patch.parent term.parent right.parent old.parent;
  uuid = old.uuid;
}

-- ---- comments

pub right_new_comment : (new : NewComment) (n uid : ℕ) (approved : Bool) (now : ℕ) → IsRightNewComment new → IsMoment now → IsId n → uid ≤ 4294967294 → IsValidComment (new_comment new n uid approved now)
right_new_comment new n uid approved now right moment node in_range = record {
  body = right.body;
  created = moment;
  node = node;
  parent = right.parent;
  uid = in_range;
  uuid = right.uuid;
}

pub right_patched_comment : (comment : Comment) (patch : CommentPatch) → IsValidComment comment → IsRightCommentPatch patch → IsValidComment (patched_comment comment patch)
right_patched_comment comment patch old right = record {
  body = sent_or_kept (λ body. IsTrue (is_comment_body body)) patch.body comment.body right.body old.body;
  created = old.created;
  node = old.node;
  parent = old.parent;
  uid = old.uid;
  uuid = old.uuid;
}

-- ---- users

-- a new digest is one, and a kept one stays one
right_digest : (salt pass kept : Option (List ℕ)) → IsTrue (none_or (is_hex 64) kept) → IsTrue (none_or (is_hex 64) (digest_of salt pass kept))
right_digest None pass kept old = old
right_digest (Some salt) None kept old = old
right_digest (Some salt) (Some pass) kept old = digest_is_hex salt pass

right_salt : (salt pass : Option (List ℕ)) (kept : List ℕ) → IsSalt salt → IsTrue (is_hex 32 kept || bytes_eq kept []) → IsTrue (is_hex 32 (salt_of salt pass kept) || bytes_eq (salt_of salt pass kept) [])
right_salt None pass kept is_salt old = old
right_salt (Some salt) None kept is_salt old = old
right_salt (Some salt) (Some pass) kept is_salt old = or_left (is_hex 32 salt) (bytes_eq salt []) is_salt

pub right_new_user : (new : NewUser) (salt : Option (List ℕ)) (now : ℕ) → IsRightNewUser new → IsSalt salt → IsMoment now → IsValidUser (new_user new salt now)
right_new_user new salt now right is_salt moment = record {
  created = moment;
  digest = right_digest salt new.pass None refl;
  few_grants = right.few_grants;
  name = right.name;
  few_roles = right.few_roles;
  salt = right_salt salt new.pass [] is_salt refl;
  uuid = right.uuid;
}

pub right_patched_user : (user : User) (patch : UserPatch) (salt : Option (List ℕ)) → IsValidUser user → IsRightUserPatch patch → IsSalt salt → IsValidUser (patched_user user patch salt)
right_patched_user user patch salt old right is_salt = record {
  created = old.created;
  digest = right_digest salt patch.pass user.digest old.digest;
  few_grants = sent_or_kept (λ grants. length grants ≤ 64) patch.grants user.grants right.few_grants old.few_grants;
  name = sent_or_kept (λ name. IsTrue (is_line 60 name)) patch.name user.name right.name old.name;
  few_roles = sent_or_kept (λ roles. length roles ≤ 32) patch.roles user.roles right.few_roles old.few_roles;
  salt = right_salt salt patch.pass user.salt is_salt old.salt;
  uuid = old.uuid;
}

-- ---- sessions

pub right_session : (now uid : ℕ) → IsId uid → IsValidSession (record { expires = session_end now; uid = uid })
right_session now uid id = record {
  expires = min-le_right (now + 604800) 4102444800;
  uid = id;
}
