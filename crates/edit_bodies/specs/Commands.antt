-- The command that an edit with a body is.
use Rattle.std.specs.Prelude.{ℕ, List, Bool, true, false, Option, Some, None, unwrap_or, if◌then◌else◌, codes}
use Rattle.serde_json.specs.Data.{Data}
use Rattle.json_keys.specs.Checked.{read_checked}
use Rattle.site_commands.specs.declared.command.Command.{Command}
use Rattle.site_commands.specs.declared.command.Command.TheVariants as command
use Rattle.site_commands.specs.declared.command.Credentials.{Credentials}
use Rattle.site_commands.specs.declared.command.NodeChange.{NodeChange}
use Rattle.site_commands.specs.declared.command.NodeCreation.{NodeCreation}
use Rattle.site_commands.specs.declared.command.TermChange.{TermChange}
use Rattle.site_commands.specs.declared.command.CommentChange.{CommentChange}
use Rattle.site_commands.specs.declared.command.CommentCreation.{CommentCreation}
use Rattle.site_commands.specs.declared.command.UserChange.{UserChange}
use Rattle.site_commands.specs.declared.command.UserCreation.{UserCreation}
use Rattle.edit_paths.specs.declared.edit.Edit.{Edit}
use Rattle.edit_paths.specs.declared.edit.Edit.TheVariants as edit
use Rattle.body_kinds.specs.Bodies.{new_node_in, node_patch_in, new_term_in, term_patch_in, new_user_in, user_patch_in, new_comment_in, comment_patch_in}
use Rattle.body_kinds.specs.SetRows.{config_row, settings_row}
use Rattle.body_kinds.specs.Tables.{new_node_keys, node_patch_keys, new_term_keys, term_patch_keys, new_user_keys, user_patch_keys, new_comment_keys, comment_patch_keys}
use Rattle.edit_bodies.specs.Bodies.{Sent}
use Rattle.edit_bodies.specs.Digits.{digits_of}
use Rattle.edit_bodies.specs.Keys.{has, node_keys, user_keys, node_type_in}
use Rattle.edit_bodies.specs.declared.body.Form.{Form}
use Rattle.edit_bodies.specs.declared.words.Words.{Words}

-- ---- words of chance

-- words that were not drawn are 0
abbrev pub words_or : Option Words → Words
words_or words = unwrap_or words (record { first = 0; second = 0 })

-- a new password has a salt: the key is there, whatever its value
abbrev pub salt_in : Data → Option Words → Option (List ℕ)
salt_in d words = if has (codes "pass") d then Some (digits_of (words_or words)) else None

-- whether an edit takes two words
unfoldable pub draws : Edit → Sent → Bool
draws edit.Login s = true
draws edit.CreateUser s = has (codes "pass") s.object
draws (edit.ChangeUser uid) s = has (codes "pass") s.object
draws _ s = false

-- ---- what is asked

abbrev pub node_creation : Data → NodeCreation
node_creation d = record { node_type = node_type_in d; keys = node_keys d; body = read_checked new_node_in new_node_keys d }

abbrev pub node_change : Option ℕ → Data → NodeChange
node_change nid d = record { nid = nid; keys = node_keys d; body = read_checked node_patch_in node_patch_keys d }

abbrev pub term_change : Option ℕ → Data → TermChange
term_change tid d = record { tid = tid; body = read_checked term_patch_in term_patch_keys d }

abbrev pub user_creation : Data → Option Words → UserCreation
user_creation d words = record { keys = user_keys d; salt = salt_in d words; body = read_checked new_user_in new_user_keys d }

abbrev pub user_change : Option ℕ → Data → Option Words → UserChange
user_change uid d words = record {
  uid = uid;
  keys = user_keys d;
  salt = salt_in d words;
  body = read_checked user_patch_in user_patch_keys d;
}

abbrev pub comment_creation : Option ℕ → Data → CommentCreation
comment_creation nid d = record { nid = nid; body = read_checked new_comment_in new_comment_keys d }

abbrev pub comment_change : Option ℕ → Data → CommentChange
comment_change cid d = record {
  cid = cid;
  status = has (codes "status") d;
  body = read_checked comment_patch_in comment_patch_keys d;
}

abbrev pub credentials : Form → Option Words → Credentials
credentials form words = record { name = form.name; pass = form.pass; token = digits_of (words_or words) }

-- ---- commands

-- the command that an edit is with an object, or with a form
abbrev pub command_at : Edit → Data → Form → Option Words → Command
command_at edit.CreateNode d form words = command.CreateNode (node_creation d)
command_at (edit.ChangeNode nid) d form words = command.ChangeNode (node_change nid d)
command_at (edit.RemoveNode nid) d form words = command.RemoveNode nid
command_at edit.CreateTerm d form words = command.CreateTerm (read_checked new_term_in new_term_keys d)
command_at (edit.ChangeTerm tid) d form words = command.ChangeTerm (term_change tid d)
command_at (edit.RemoveTerm tid) d form words = command.RemoveTerm tid
command_at edit.CreateUser d form words = command.CreateUser (user_creation d words)
command_at (edit.ChangeUser uid) d form words = command.ChangeUser (user_change uid d words)
command_at (edit.Set kind name) d form words = command.Set kind name (config_row kind d)
command_at (edit.Remove kind name) d form words = command.Remove kind name
command_at edit.SetSite d form words = command.SetSite (settings_row d)
command_at edit.Login d form words = command.Login (credentials form words)
command_at edit.Logout d form words = command.Logout
command_at edit.Rebuild d form words = command.Rebuild
command_at (edit.CreateComment nid) d form words = command.CreateComment (comment_creation nid d)
command_at (edit.ChangeComment cid) d form words = command.ChangeComment (comment_change cid d)
command_at (edit.RemoveComment cid) d form words = command.RemoveComment cid

-- the command that an edit is with what its body says, whose words were drawn where it takes them
unfoldable pub command_in : Edit → Sent → Option Words → Command
command_in e s words = command_at e s.object s.form words
