use Rattle.renderer.proofs.Standing.{child_lower, child_higher, is_lower}
use Rattle.renderer.proofs.levels.child_at.Goals as goal

pub returns-then-level-below-clause-child : goal.returns-then-level-below-clause-child
returns-then-level-below-clause-child c = child_lower c.args.below c.args.hole.now _ (rw c.level.ensures at c.if-level-below.true) c.element_at.ensures

pub returns-then-level-below-clause-lower : goal.returns-then-level-below-clause-lower
returns-then-level-below-clause-lower c = is_lower c.args.below c.args.hole.now _ (rw c.level.ensures at c.if-level-below.true) c.element_at.ensures

pub returns-else-level-below-clause-child : goal.returns-else-level-below-clause-child
returns-else-level-below-clause-child c = child_higher c.args.below c.args.hole.now (rw c.level.ensures at c.if-level-below.false)
