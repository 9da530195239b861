use Rattle.render_canvas.proofs.Run.{tags_none, tags_item, tags_all}
use Rattle.render_canvas.proofs.canvas.Canvas.all_tags.Goals as goal

pub loop-tag-init : goal.loop-tag-init
loop-tag-init c = tags_none

pub loop-tag-preserved : goal.loop-tag-preserved
loop-tag-preserved c = tags_item _ _ _ c.loop-tag-test.true c.tag-item.is c.loop-tag.invariant c.tag.ensures

pub returns : goal.returns
returns c = tags_all _ _ c.loop-tag.invariant c.loop-tag-test.false
