use Rattle.std.proofs.Common.{ap, ◌∙◌}
use Rattle.std.specs.Option.{option_or}
use Rattle.content_rows.specs.declared.cell.Cell.TheVariants as cell
use Rattle.content_state.specs.FirstFault.{fault_at}
use Rattle.content_state.specs.SiteRules.{cell_fault}
use Rattle.content_state.proofs.Faults.{required_are}
use Rattle.content_state.proofs.site_rules.required_fault.Goals as goal

pub returns : goal.returns
returns c =
    c.or-3.ensures
    ∙ ap (option_or c.found-site.result) (c.or-2.ensures ∙ ap (option_or c.found-seq.result) c.or.ensures)
    ∙ required_are c.args.state.now.rows c.found-site.result c.found-seq.result c.missing_role-visitors.result c.missing_role-members.result
    (c.found-site.ensures ∙ ap (λ f. fault_at cell.Site f) c.site_fault.ensures)
    (c.found-seq.ensures ∙ ap (λ f. fault_at cell.Seq f) c.seq_fault.ensures)
    (c.missing_role-visitors.ensures ∙ ap (λ n. fault_at (cell.Role n) (cell_fault c.args.state.now.rows (cell.Role n))) c.anonymous.ensures)
    (c.missing_role-members.ensures ∙ ap (λ n. fault_at (cell.Role n) (cell_fault c.args.state.now.rows (cell.Role n))) c.authenticated.ensures)
