use Rattle.element_entries.specs.Keys.{visit}
use Rattle.kept_pages.specs.Joins.{in_shared}
use Rattle.kept_pages.specs.Needed.{NeededInFrame, tags_asked}
use Rattle.kept_pages.proofs.Counting.{told_part, told_begin, told_all}
use Rattle.kept_pages.proofs.Entries.{steady_on, steady_same}
use Rattle.kept_pages.proofs.Parts.{joins_none, joins_part}
use Rattle.kept_pages.proofs.frames.add_shared_parts.Goals as goal

pub loop-part-preserved : goal.loop-part-preserved
loop-part-preserved g c = record {
  steady = steady_on c.loop-part.invariant.steady c.in_ok-add_shared_part.ensures.steady;
  joins = joins_part _ _ _ _ _ _ _ _ c.loop-part-test.true c.part-item.is c.loop-part.invariant.joins c.in_ok-add_shared_part.ensures.joins;
  told = told_part c.args.reader.now (NeededInFrame (visit c.args.reader.now)) (tags_asked (visit c.args.reader.now)) c.args.parts.now _ _ _ _ _ _ _ _ _ _ _ c.loop-part-test.true c.part-item.is c.loop-part.invariant.told c.in_ok-add_shared_part.ensures.told;
}

pub loop-part-init : goal.loop-part-init
loop-part-init g c = record {
  steady = steady_same (g.H.House.sees c.args.house.now);
  joins = joins_none in_shared (visit c.args.reader.now) c.args.filled.now.joined;
  told = told_begin c.args.reader.now (NeededInFrame (visit c.args.reader.now)) (g.H.House.sees c.args.house.now) c.args.filled.now.joined c.args.filled.now.built;
}

pub returns-clause-told : goal.returns-clause-told
returns-clause-told g c =
    told_all c.args.reader.now (NeededInFrame (visit c.args.reader.now)) (tags_asked (visit c.args.reader.now)) c.args.parts.now c.loop-part.part-index _ _ _ _ _ _ c.loop-part-test.false c.loop-part.invariant.told
