-- What is read of the body of an edit. A key that may be left out reads as what its absence says.
use Rattle.std.specs.Prelude.{ℕ, List, [], ◌∷◌, Option, option_map, codes}
use Rattle.serde_json.specs.Data.{Data, Members, no_members, member}
use Rattle.serde_json.specs.Find.{get}
use Rattle.json_keys.specs.Fault.{members_in}
use Rattle.row_kinds.specs.Look.{value_at, flag_in, number_in, small_in, text_in, name_in, name_or_blank, option_in, items_in, list_in, texts_in}
use Rattle.row_kinds.specs.Rows.{grant_in, grant_row_in}
use Rattle.site_commands.specs.declared.body.FieldChange.{FieldChange}
use Rattle.site_commands.specs.declared.body.NewNode.{NewNode}
use Rattle.site_commands.specs.declared.body.NodePatch.{NodePatch}
use Rattle.site_commands.specs.declared.body.NewTerm.{NewTerm}
use Rattle.site_commands.specs.declared.body.TermPatch.{TermPatch}
use Rattle.site_commands.specs.declared.body.NewUser.{NewUser}
use Rattle.site_commands.specs.declared.body.UserPatch.{UserPatch}
use Rattle.site_commands.specs.declared.body.NewComment.{NewComment}
use Rattle.site_commands.specs.declared.body.CommentPatch.{CommentPatch}

-- what a key says, where it is there
abbrev pub sent : {X : Type 0} → (Data → X) → List ℕ → Data → Option X
sent of k d = option_map of (get k d)

-- ---- nodes

-- what becomes of fields, by their names: null takes a value away
abbrev pub changes_in : Members → List FieldChange
changes_in no_members = []
changes_in (member k d ms) = record { name = name_or_blank k; value = option_in text_in d } ∷ changes_in ms

abbrev pub new_node_in : Data → NewNode
new_node_in d = record {
  created = sent number_in (codes "created") d;
  fields = texts_in (members_in (value_at (codes "fields") d));
  grants = list_in grant_row_in (items_in (value_at (codes "grants") d));
  path = option_in text_in (value_at (codes "path") d);
  promote = sent flag_in (codes "promote") d;
  refs = list_in small_in (items_in (value_at (codes "refs") d));
  status = sent flag_in (codes "status") d;
  sticky = flag_in (value_at (codes "sticky") d);
  terms = list_in small_in (items_in (value_at (codes "terms") d));
  title = text_in (value_at (codes "title") d);
  uid = sent small_in (codes "uid") d;
  uuid = text_in (value_at (codes "uuid") d);
}

abbrev pub node_patch_in : Data → NodePatch
node_patch_in d = record {
  created = sent number_in (codes "created") d;
  fields = changes_in (members_in (value_at (codes "fields") d));
  grants = sent (λ v. list_in grant_row_in (items_in v)) (codes "grants") d;
  path = sent (option_in text_in) (codes "path") d;
  promote = sent flag_in (codes "promote") d;
  refs = sent (λ v. list_in small_in (items_in v)) (codes "refs") d;
  status = sent flag_in (codes "status") d;
  sticky = sent flag_in (codes "sticky") d;
  terms = sent (λ v. list_in small_in (items_in v)) (codes "terms") d;
  title = sent text_in (codes "title") d;
  uid = sent small_in (codes "uid") d;
  vid = small_in (value_at (codes "vid") d);
}

-- ---- terms

abbrev pub new_term_in : Data → NewTerm
new_term_in d = record {
  description = text_in (value_at (codes "description") d);
  name = text_in (value_at (codes "name") d);
  parent = option_in small_in (value_at (codes "parent") d);
  status = sent flag_in (codes "status") d;
  uuid = text_in (value_at (codes "uuid") d);
}

abbrev pub term_patch_in : Data → TermPatch
term_patch_in d = record {
  description = sent text_in (codes "description") d;
  name = sent text_in (codes "name") d;
  parent = sent (option_in small_in) (codes "parent") d;
  status = sent flag_in (codes "status") d;
}

-- ---- users

abbrev pub new_user_in : Data → NewUser
new_user_in d = record {
  grants = list_in grant_in (items_in (value_at (codes "grants") d));
  name = text_in (value_at (codes "name") d);
  pass = sent text_in (codes "pass") d;
  roles = list_in name_in (items_in (value_at (codes "roles") d));
  status = sent flag_in (codes "status") d;
  uuid = text_in (value_at (codes "uuid") d);
}

abbrev pub user_patch_in : Data → UserPatch
user_patch_in d = record {
  grants = sent (λ v. list_in grant_in (items_in v)) (codes "grants") d;
  name = sent text_in (codes "name") d;
  pass = sent text_in (codes "pass") d;
  roles = sent (λ v. list_in name_in (items_in v)) (codes "roles") d;
  status = sent flag_in (codes "status") d;
}

-- ---- comments

abbrev pub new_comment_in : Data → NewComment
new_comment_in d = record {
  body = text_in (value_at (codes "body") d);
  parent = option_in small_in (value_at (codes "parent") d);
  uuid = text_in (value_at (codes "uuid") d);
}

abbrev pub comment_patch_in : Data → CommentPatch
comment_patch_in d = record { body = sent text_in (codes "body") d; status = sent flag_in (codes "status") d }
