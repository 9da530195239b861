use Rattle.std.proofs.Common.{ap, ◌∙◌}
use Rattle.indexed_rows.specs.Rows.{type_of}
use Rattle.render_canvas.proofs.Fields.{has_field}
use Rattle.render_canvas.proofs.Run.{each_none, each_item, each_all}
use Rattle.render_array.proofs.nodes.fields_of_type.Goals as goal

pub loop-row-init : goal.loop-row-init
loop-row-init c = each_none _

pub loop-row-preserved : goal.loop-row-preserved
loop-row-preserved c = each_item _ _ _ _ c.loop-row-test.true c.row-item.is c.loop-row.invariant c.field.ensures

pub field-requires-clause-has_field : goal.field-requires-clause-has_field
field-requires-clause-has_field c =
    has_field _ _ _ _ _ (ap (λ v. type_of v.rows c.args.node.now.node_type) c.loop-row.invariant.visit ∙ c.requires.type_is)
    c.as_slice-row-items.ensures c.loop-row-test.true c.row-item.is

pub returns : goal.returns
returns c = each_all _ _ _ _ c.loop-row.invariant c.loop-row-test.false c.as_slice-row-items.ensures
