-- What becomes of each edit on a state, for a viewer, at a moment: it is refused for its first cause, or accepted with
-- what is to be kept. Causes come in the order: what is named is not there; the viewer may not do it, or may not set a key or
-- a field that is sent; a session of the token is there; a rule is broken, of the body by itself and then beside what the
-- site holds; another row has the universal id; the version is another one; another row has the path; a count is full.
use Rattle.std.specs.Prelude.{ℕ}
use Rattle.content_state.specs.State.{State}
use Rattle.content_state.specs.declared.ask.Viewer.{Viewer}
use Rattle.site_commands.specs.Causes.{Decision}
use Rattle.site_commands.specs.Nodes.{create_node, change_node, remove_node}
use Rattle.site_commands.specs.Terms.{create_term, change_term, remove_term}
use Rattle.site_commands.specs.Users.{create_user, change_user}
use Rattle.site_commands.specs.Config.{set_config, remove_config, set_site}
use Rattle.site_commands.specs.Sessions.{log_in, log_out, rebuild}
use Rattle.site_commands.specs.Comments.{create_comment, change_comment, remove_comment}
use Rattle.site_commands.specs.declared.command.Command.{Command}
use Rattle.site_commands.specs.declared.command.Command.TheVariants as command

unfoldable pub verdict : State → Viewer → Command → ℕ → ℕ → Decision
verdict state viewer (command.CreateNode asked) now pass = create_node state viewer asked now pass
verdict state viewer (command.ChangeNode asked) now pass = change_node state viewer asked now pass
verdict state viewer (command.RemoveNode asked) now pass = remove_node state viewer asked pass
verdict state viewer (command.CreateTerm body) now pass = create_term state viewer body pass
verdict state viewer (command.ChangeTerm asked) now pass = change_term state viewer asked pass
verdict state viewer (command.RemoveTerm asked) now pass = remove_term state viewer asked pass
verdict state viewer (command.CreateUser asked) now pass = create_user state viewer asked now pass
verdict state viewer (command.ChangeUser asked) now pass = change_user state viewer asked pass
verdict state viewer (command.Set k name body) now pass = set_config state viewer k name body pass
verdict state viewer (command.Remove k name) now pass = remove_config state viewer k name pass
verdict state viewer (command.SetSite body) now pass = set_site state viewer body pass
verdict state viewer (command.Login asked) now pass = log_in state asked now pass
verdict state viewer command.Logout now pass = log_out state viewer pass
verdict state viewer command.Rebuild now pass = rebuild state viewer pass
verdict state viewer (command.CreateComment asked) now pass = create_comment state viewer asked now pass
verdict state viewer (command.ChangeComment asked) now pass = change_comment state viewer asked pass
verdict state viewer (command.RemoveComment asked) now pass = remove_comment state viewer asked pass
