use Rattle.std.proofs.Common.{[], ◌∷◌, sym, ◌∙◌}
use Rattle.site_commands.specs.Causes.{set, commit_of, accepted}
use Rattle.site_commands.specs.Config.{row_refusals}
use Rattle.site_commands.specs.declared.answer.Done.TheVariants as done
use Rattle.edit_machine.proofs.Decided.{refused_first}
use Rattle.edit_machine.proofs.config.set_right.Goals as goal

pub returns-in-Some : goal.returns-in-Some
returns-in-Some c =
    let cell = c.args.cell.now in
    let row = c.args.row.now in
    refused_first (row_refusals c.args.state.now.rows cell row) (accepted c.args.state.now (commit_of c.args.pass (set cell row ∷ [])) done.Saved) c.in-Some.refusal (sym c.in-Some.is ∙ c.in_ok-refusal.ensures)
