use Rattle.std.proofs.Common.{ap, ◌∙◌}
use Rattle.indexed_rows.specs.Rows.{type_of}
use Rattle.render_canvas.proofs.Fields.{has_field}
use Rattle.render_canvas.proofs.Run.{folded_item, folded_all}
use Rattle.render_array.proofs.Gathered.{none_seen}
use Rattle.render_array.proofs.json_nodes.shown_fields_of_type.Goals as goal

pub loop-row-init : goal.loop-row-init
loop-row-init c = none_seen (λ value. value.now) _ c.new-found.ensures.items

pub loop-row-preserved : goal.loop-row-preserved
loop-row-preserved c = folded_item _ _ _ _ _ c.loop-row-test.true c.row-item.is c.loop-row.invariant c.with_shown_field.ensures

pub with_shown_field-requires-clause-has_field : goal.with_shown_field-requires-clause-has_field
with_shown_field-requires-clause-has_field c =
    has_field _ _ _ _ _ (ap (λ v. type_of v.rows c.args.node.now.node_type) c.loop-row.invariant.visit ∙ c.requires.type_is)
    c.as_slice-row-items.ensures c.loop-row-test.true c.row-item.is

pub returns : goal.returns
returns c = folded_all _ _ _ _ _ c.loop-row.invariant c.loop-row-test.false c.as_slice-row-items.ensures
