-- An edit with an object in brief is the command that it is with the object.
use Rattle.std.proofs.Common.{◌≡◌, ℕ, List, ◌∷◌, Bool, true, false, Option, Some, None, option_map, is_some, cond, refl, ap, ap₂, ◌∙◌, codes}
use Rattle.std.specs.Prelude.{unwrap_or, filter}
use Rattle.serde_json.specs.Data.{Data, null, boolean, number, string, array, object, Members, no_members, member}
use Rattle.serde_json.specs.Find.{get}
use Rattle.content_rows.specs.LiteralName.{is_name}
use Rattle.content_rows.specs.declared.row.Row.{Row}
use Rattle.json_keys.specs.Checked.{go_on, unless_faulty}
use Rattle.json_keys.specs.Fault.{members_in}
use Rattle.json_keys.specs.Order.{names_of}
use Rattle.json_keys.specs.declared.checked.Checked.TheVariants as checked
use Rattle.json_keys.specs.declared.shape.Ask.{Ask}
use Rattle.row_kinds.specs.Look.{value_at}
use Rattle.row_kinds.specs.Rows.{site_in, type_in, role_in, menu_in, listing_in, block_in}
use Rattle.row_kinds.specs.Tables.{site_keys, type_keys, role_keys, menu_keys, listing_keys, block_keys}
use Rattle.row_json.specs.Whole.{whole_fault}
use Rattle.site_commands.specs.declared.command.Command.{Command}
use Rattle.site_commands.specs.declared.command.Command.TheVariants as command
use Rattle.site_commands.specs.declared.command.ConfigKind.{ConfigKind}
use Rattle.site_commands.specs.declared.command.ConfigKind.TheVariants as kind
use Rattle.edit_paths.specs.declared.edit.Edit.{Edit}
use Rattle.edit_paths.specs.declared.edit.Edit.TheVariants as edit
use Rattle.body_kinds.specs.Bodies.{new_node_in, node_patch_in, new_term_in, term_patch_in, new_user_in, user_patch_in, new_comment_in, comment_patch_in}
use Rattle.body_kinds.specs.SetRows.{whole_row, config_row, settings_row}
use Rattle.body_kinds.specs.Tables.{new_node_keys, node_patch_keys, new_term_keys, term_patch_keys, new_user_keys, user_patch_keys, new_comment_keys, comment_patch_keys}
use Rattle.sent_objects.specs.Brief.{flat, pairs, whole, brief}
use Rattle.sent_objects.specs.Keys.{is_key}
use Rattle.sent_objects.proofs.Judged.{get_brief, is_table, read_same}
use Rattle.edit_bodies.specs.Bodies.{object_in}
use Rattle.edit_bodies.specs.Commands.{command_at, salt_in, words_or, node_creation, node_change, term_change, user_creation, user_change, comment_creation, comment_change}
use Rattle.edit_bodies.specs.Digits.{digits_of}
use Rattle.edit_bodies.specs.Keys.{has, field_keys, node_keys, user_keys, name_told, node_type_in}
use Rattle.edit_bodies.specs.declared.body.Form.{Form}
use Rattle.edit_bodies.specs.declared.words.Words.{Words}

-- ---- keys

there : (k : List ℕ) (o : Option Data) → is_some (option_map (whole k) o) ≡ is_some o
there k None = refl
there k (Some d) = refl

pub has_same : (k : List ℕ) (d : Data) → is_key k ≡ true → has k (brief d) ≡ has k d
has_same k d known = ap is_some (get_brief k d known) ∙ there k (get k d)

names_same : (ms : Members) → names_of (pairs ms) ≡ names_of ms
names_same no_members = refl
names_same (member k d ms) = ap (λ ks. k ∷ ks) (names_same ms)

inside_same : (o : Option Data) → names_of (members_in (unwrap_or (option_map (whole (codes "fields")) o) null)) ≡ names_of (members_in (unwrap_or o null))
inside_same None = refl
inside_same (Some null) = refl
inside_same (Some (boolean b)) = refl
inside_same (Some (number n)) = refl
inside_same (Some (string s)) = refl
inside_same (Some (array ds)) = refl
inside_same (Some (object ms)) = names_same ms

field_keys_same : (d : Data) → field_keys (brief d) ≡ field_keys d
field_keys_same d =
    ap (λ o. filter is_name (names_of (members_in (unwrap_or o null)))) (get_brief (codes "fields") d refl) ∙ ap (filter is_name) (inside_same (get (codes "fields") d))

told_same : (o : Option Data) → name_told (option_map (whole (codes "type")) o) ≡ name_told o
told_same None = refl
told_same (Some null) = refl
told_same (Some (boolean b)) = refl
told_same (Some (number n)) = refl
told_same (Some (string s)) = refl
told_same (Some (array ds)) = refl
told_same (Some (object ms)) = refl

node_type_same : (d : Data) → node_type_in (brief d) ≡ node_type_in d
node_type_same d = ap name_told (get_brief (codes "type") d refl) ∙ told_same (get (codes "type") d)

node_keys_same : (d : Data) → node_keys (brief d) ≡ node_keys d
node_keys_same d =
    rw (
      has_same (codes "created") d refl,
      has_same (codes "grants") d refl,
      has_same (codes "path") d refl,
      has_same (codes "promote") d refl,
      has_same (codes "status") d refl,
      has_same (codes "sticky") d refl,
      has_same (codes "uid") d refl,
      field_keys_same d,
    ) refl

user_keys_same : (d : Data) → user_keys (brief d) ≡ user_keys d
user_keys_same d = rw (has_same (codes "grants") d refl, has_same (codes "roles") d refl) refl

salt_same : (d : Data) (words : Option Words) → salt_in (brief d) words ≡ salt_in d words
salt_same d words = ap (λ b. cond b (Some (digits_of (words_or words))) None) (has_same (codes "pass") d refl)

-- ---- rows

row_same : {X : Type 0} (make : X → Row) (of : Data → X) (ks : List (List ℕ × Ask)) (d : Data) → is_table ks ≡ true → whole_row make of ks (brief d) ≡ whole_row make of ks d
row_same make of ks d fit = ap (λ c. go_on (λ r. unless_faulty r (whole_fault r)) (go_on (λ x. checked.Right (make x)) c)) (read_same of ks d fit)

config_same : (k : ConfigKind) (d : Data) → config_row k (brief d) ≡ config_row k d
config_same kind.Role d = row_same _ role_in role_keys d refl
config_same kind.NodeType d = row_same _ type_in type_keys d refl
config_same kind.Block d = row_same _ block_in block_keys d refl
config_same kind.Menu d = row_same _ menu_in menu_keys d refl
config_same kind.Listing d = row_same _ listing_in listing_keys d refl

settings_same : (d : Data) → settings_row (brief d) ≡ settings_row d
settings_same d = row_same _ site_in site_keys d refl

-- ---- what is asked

creation_same : (d : Data) → node_creation (brief d) ≡ node_creation d
creation_same d = rw (node_type_same d, node_keys_same d, read_same new_node_in new_node_keys d refl) refl

change_same : (nid : Option ℕ) (d : Data) → node_change nid (brief d) ≡ node_change nid d
change_same nid d = rw (node_keys_same d, read_same node_patch_in node_patch_keys d refl) refl

term_same : (tid : Option ℕ) (d : Data) → term_change tid (brief d) ≡ term_change tid d
term_same tid d = rw (read_same term_patch_in term_patch_keys d refl) refl

user_same : (d : Data) (words : Option Words) → user_creation (brief d) words ≡ user_creation d words
user_same d words = rw (user_keys_same d, salt_same d words, read_same new_user_in new_user_keys d refl) refl

user_change_same : (uid : Option ℕ) (d : Data) (words : Option Words) → user_change uid (brief d) words ≡ user_change uid d words
user_change_same uid d words = rw (user_keys_same d, salt_same d words, read_same user_patch_in user_patch_keys d refl) refl

comment_same : (nid : Option ℕ) (d : Data) → comment_creation nid (brief d) ≡ comment_creation nid d
comment_same nid d = rw (read_same new_comment_in new_comment_keys d refl) refl

comment_change_same : (cid : Option ℕ) (d : Data) → comment_change cid (brief d) ≡ comment_change cid d
comment_change_same cid d = rw (has_same (codes "status") d refl, read_same comment_patch_in comment_patch_keys d refl) refl

-- ---- commands

pub same_command : (e : Edit) (d : Data) (form : Form) (words : Option Words) → command_at e (brief d) form words ≡ command_at e d form words
same_command edit.CreateNode d form words = ap command.CreateNode (creation_same d)
same_command (edit.ChangeNode nid) d form words = ap command.ChangeNode (change_same nid d)
same_command (edit.RemoveNode nid) d form words = refl
same_command edit.CreateTerm d form words = ap command.CreateTerm (read_same new_term_in new_term_keys d refl)
same_command (edit.ChangeTerm tid) d form words = ap command.ChangeTerm (term_same tid d)
same_command (edit.RemoveTerm tid) d form words = refl
same_command edit.CreateUser d form words = ap command.CreateUser (user_same d words)
same_command (edit.ChangeUser uid) d form words = ap command.ChangeUser (user_change_same uid d words)
same_command (edit.Set k name) d form words = ap (command.Set k name) (config_same k d)
same_command (edit.Remove k name) d form words = refl
same_command edit.SetSite d form words = ap command.SetSite (settings_same d)
same_command edit.Login d form words = refl
same_command edit.Logout d form words = refl
same_command edit.Rebuild d form words = refl
same_command (edit.CreateComment nid) d form words = ap command.CreateComment (comment_same nid d)
same_command (edit.ChangeComment cid) d form words = ap command.ChangeComment (comment_change_same cid d)
same_command (edit.RemoveComment cid) d form words = refl
