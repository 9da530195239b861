use Rattle.std.proofs.Common.{◌∙◌, ap, sym}
use Rattle.std.specs.Option.{option_map}
use Rattle.content_rows.specs.declared.cell.Cell.{Cell}
use Rattle.content_rows.specs.declared.row.Row.{Row}
use Rattle.indexed_rows.specs.Texts.{is_text, text_of}
use Rattle.indexed_rows.specs.declared.unique.Unique.TheVariants as unique
use Rattle.content_state.proofs.Found.{first_passing, none_passing}
use Rattle.content_state.proofs.route.cell_with.Goals as goal

pub returns-in-Some : goal.returns-in-Some
returns-in-Some c =
    sym (ap (option_map (λ (e : Cell × Row). e.0))
    (first_passing (λ (e : Cell × Row). is_text c.args.path.now (text_of unique.Path e.1)) c.args.state.now.rows _ _
    (sym c.rows_with.ensures ∙ c.in-Some.ensures.steps)))

pub returns : goal.returns
returns c =
    sym (ap (option_map (λ (e : Cell × Row). e.0))
    (none_passing (λ (e : Cell × Row). is_text c.args.path.now (text_of unique.Path e.1)) c.args.state.now.rows
    (sym c.rows_with.ensures ∙ c.in-None.ensures.steps.0)))
