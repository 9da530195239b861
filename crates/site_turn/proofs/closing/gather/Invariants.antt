use Rattle.std.proofs.Common.{◌≡◌, ◌++◌, List, length}
use Rattle.turn_rule.specs.Steps.{with_passes}
use Rattle.site_turn.specs.Views.{PassView}
use Rattle.site_turn.specs.Closing.{notes_of, AreOf}
use Rattle.site_turn.proofs.closing.gather.Given as goal

abbrev pub invariant-passes : goal.invariant-passes
invariant-passes g l = (l.seat.table_id ≡ l.initial.seat.table_id) × AreOf l.initial.seat.table_id l.passes.items
    × ((done : List PassView) × (l.initial.passes.items ≡ l.passes.items ++ done) × (l.seat.me ≡ (with_passes (notes_of done) l.initial.seat.me.0, l.initial.seat.me.1)))

abbrev pub decreases-passes : goal.decreases-passes
decreases-passes g l = length l.passes.items
