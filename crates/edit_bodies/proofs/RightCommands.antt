-- The commands that edits are with bodies are right.
use Rattle.std.proofs.Common.{◌≡◌, ℕ, List, Bool, true, false, cond, Option, Some, None, IsTrue, refl, codes}
use Rattle.serde_json.specs.Data.{Data}
use Rattle.content_rows.specs.Kinds.{is_hex, none_or}
use Rattle.json_keys.specs.Order.{AllInOrder}
use Rattle.site_commands.specs.Right.{IsSalt, IsRight}
use Rattle.edit_paths.specs.declared.edit.Edit.{Edit}
use Rattle.edit_paths.specs.declared.edit.Edit.TheVariants as edit
use Rattle.body_kinds.proofs.CommentsRight.{new_comment_right, comment_patch_right}
use Rattle.body_kinds.proofs.NodesRight.{new_node_right, node_patch_right}
use Rattle.body_kinds.proofs.PeopleRight.{new_term_right, term_patch_right, new_user_right, user_patch_right}
use Rattle.body_kinds.proofs.RowsRight.{config_right, settings_right}
use Rattle.edit_bodies.specs.Commands.{salt_in, words_or, command_at}
use Rattle.edit_bodies.specs.Digits.{digits_of}
use Rattle.edit_bodies.specs.Keys.{has}
use Rattle.edit_bodies.specs.declared.body.Form.{Form}
use Rattle.edit_bodies.specs.declared.words.Words.{Words}
use Rattle.edit_bodies.proofs.HexDigits.{digits_hex}

salt_at : (there : Bool) (w : Words) → IsSalt (cond there (Some (digits_of w)) None)
salt_at true w = digits_hex w
salt_at false w = refl

salt_right : (d : Data) (words : Option Words) → IsSalt (salt_in d words)
salt_right d words = salt_at (has (codes "pass") d) (words_or words)

pub command_right : (e : Edit) (d : Data) (form : Form) (words : Option Words) → AllInOrder d → IsRight (command_at e d form words)
command_right edit.CreateNode d form words o = new_node_right d o
command_right (edit.ChangeNode nid) d form words o = node_patch_right d o
command_right (edit.RemoveNode nid) d form words o = tt
command_right edit.CreateTerm d form words o = new_term_right d o
command_right (edit.ChangeTerm tid) d form words o = term_patch_right d o
command_right (edit.RemoveTerm tid) d form words o = tt
command_right edit.CreateUser d form words o = (salt_right d words, new_user_right d o)
command_right (edit.ChangeUser uid) d form words o = (salt_right d words, user_patch_right d o)
command_right (edit.Set kind name) d form words o = config_right kind name d o
command_right (edit.Remove kind name) d form words o = tt
command_right edit.SetSite d form words o = settings_right d o
command_right edit.Login d form words o = tt
command_right edit.Logout d form words o = tt
command_right edit.Rebuild d form words o = tt
command_right (edit.CreateComment nid) d form words o = new_comment_right d o
command_right (edit.ChangeComment cid) d form words o = comment_patch_right d o
command_right (edit.RemoveComment cid) d form words o = tt
