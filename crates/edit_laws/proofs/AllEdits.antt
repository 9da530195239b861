-- Every accepted edit of a right command keeps a state valid.
use Rattle.std.proofs.Common.{ℕ}
use Rattle.content_rows.specs.Kinds.{IsMoment}
use Rattle.content_state.specs.State.{State}
use Rattle.content_state.specs.SiteRules.{IsValidState}
use Rattle.content_state.specs.declared.ask.Viewer.{Viewer}
use Rattle.site_commands.specs.Verdict.{verdict}
use Rattle.site_commands.specs.Right.{IsRight, IsViewerOf, VerdictsKeepValid}
use Rattle.site_commands.specs.declared.command.Command.{Command}
use Rattle.site_commands.specs.declared.command.Command.TheVariants as command
use Rattle.edit_laws.proofs.Accepting.{OnlyKeeps}
use Rattle.edit_laws.proofs.NodeEdits.{create_node_keeps, change_node_keeps, remove_node_keeps}
use Rattle.edit_laws.proofs.TermEdits.{create_term_keeps, change_term_keeps, remove_term_keeps}
use Rattle.edit_laws.proofs.CommentEdits.{create_comment_keeps, change_comment_keeps, remove_comment_keeps}
use Rattle.edit_laws.proofs.UserEdits.{create_user_keeps, change_user_keeps}
use Rattle.edit_laws.proofs.ConfigEdits.{set_config_keeps, set_site_keeps, remove_config_keeps}
use Rattle.edit_laws.proofs.SessionEdits.{log_in_keeps, log_out_keeps, rebuild_keeps}

verdict_keeps : (state : State) (viewer : Viewer) (asked : Command) (now pass : ℕ) → IsValidState state → IsViewerOf state.rows viewer → IsRight asked → IsMoment now
    → OnlyKeeps state pass (verdict state viewer asked now pass)
unfolding verdict
verdict_keeps state viewer (command.CreateNode asked) now pass valid is_viewer right moment = create_node_keeps state valid viewer pass now moment is_viewer asked right
verdict_keeps state viewer (command.ChangeNode asked) now pass valid is_viewer right moment = change_node_keeps state valid viewer pass now moment asked right
verdict_keeps state viewer (command.RemoveNode asked) now pass valid is_viewer right moment = remove_node_keeps state valid viewer pass asked
verdict_keeps state viewer (command.CreateTerm body) now pass valid is_viewer right moment = create_term_keeps state valid viewer pass body right
verdict_keeps state viewer (command.ChangeTerm asked) now pass valid is_viewer right moment = change_term_keeps state valid viewer pass asked right
verdict_keeps state viewer (command.RemoveTerm asked) now pass valid is_viewer right moment = remove_term_keeps state valid viewer pass asked
verdict_keeps state viewer (command.CreateUser asked) now pass valid is_viewer right moment = create_user_keeps state valid viewer pass now moment asked right.0 right.1
verdict_keeps state viewer (command.ChangeUser asked) now pass valid is_viewer right moment = change_user_keeps state valid viewer pass asked right.0 right.1
verdict_keeps state viewer (command.Set k name body) now pass valid is_viewer right moment = set_config_keeps state valid viewer pass k name body right
verdict_keeps state viewer (command.Remove k name) now pass valid is_viewer right moment = remove_config_keeps state valid viewer pass k name
verdict_keeps state viewer (command.SetSite body) now pass valid is_viewer right moment = set_site_keeps state valid viewer pass body right
verdict_keeps state viewer (command.Login asked) now pass valid is_viewer right moment = log_in_keeps state valid pass now asked
verdict_keeps state viewer command.Logout now pass valid is_viewer right moment = log_out_keeps state valid pass viewer
verdict_keeps state viewer command.Rebuild now pass valid is_viewer right moment = rebuild_keeps state valid pass viewer
verdict_keeps state viewer (command.CreateComment asked) now pass valid is_viewer right moment = create_comment_keeps state valid viewer pass now moment is_viewer asked right
verdict_keeps state viewer (command.ChangeComment asked) now pass valid is_viewer right moment = change_comment_keeps state valid viewer pass asked right
verdict_keeps state viewer (command.RemoveComment asked) now pass valid is_viewer right moment = remove_comment_keeps state valid viewer pass asked

pub verdicts_keep : VerdictsKeepValid
verdicts_keep state viewer asked now pass commit done valid is_viewer right moment accepts =
    verdict_keeps state viewer asked now pass valid is_viewer right moment commit done accepts
