use Rattle.std.proofs.Common.{◌∙◌, List, ap}
use Rattle.std.specs.List.{find}
use Rattle.content_rows.specs.declared.cell.Cell.{Cell}
use Rattle.content_rows.specs.declared.row.Row.{Row}
use Rattle.content_state.proofs.Found.{find_read_within}
use Rattle.indexed_rows.specs.Texts.{is_text, text_of}
use Rattle.indexed_rows.specs.declared.unique.Unique.TheVariants as unique
use Rattle.site_commands.specs.Sessions.{is_user_with, user_entry, users_of}
use Rattle.edit_machine.proofs.Named.{named}
use Rattle.edit_machine.proofs.sessions.first_user.Goals as goal

pub rows-init : goal.rows-init
rows-init c =
    let name = c.args.name.now in
    let pass = c.args.pass.now in
    let first = λ (rows : List (Cell × Row)). find (λ e. is_user_with name pass e.1) (users_of rows) in
    ap first c.into_iter-cell-iterator.ensures.into_iter_gives
    ∙ ap first c.rows_with-cell-items.ensures
    ∙ find_read_within user_entry (λ e. is_user_with name pass e.1) (λ (e : Cell × Row). is_text name (text_of unique.UserName e.1))
    (named name pass) c.args.state.now.rows
