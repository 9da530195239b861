use Rattle.std.proofs.Common.{[], ap, subst, sym, ◌∙◌}
use Rattle.render_canvas.specs.Board.{pieces_of}
use Rattle.kept_pages.specs.Compact.{AreApart}
use Rattle.kept_pages.proofs.FewPieces.{compacted_shows, compacted_apart, parts_begun, part_taken, all_taken}
use Rattle.kept_pages.proofs.compact.in_few_pieces.Goals as goal

pub loop-part-init : goal.loop-part-init
loop-part-init c = parts_begun _ _ _ _ c.new-few.ensures c.in_ok-text.ensures.items c.parts-part-items.ensures

pub loop-part-preserved : goal.loop-part-preserved
loop-part-preserved c = part_taken _ _ _ _ _ _ _ _ c.loop-part-test.true c.part-item.is c.loop-part.invariant c.in_ok-take_part.ensures

pub returns-clause-shows : goal.returns-clause-shows
returns-clause-shows c =
    ap pieces_of (all_taken _ _ _ _ _ _ c.loop-part-test.false c.loop-part.invariant c.in_ok-end_text.ensures.ended) ∙ compacted_shows [] c.args.segments.now

pub returns-clause-apart : goal.returns-clause-apart
returns-clause-apart c =
    subst AreApart (sym (all_taken _ _ _ _ _ _ c.loop-part-test.false c.loop-part.invariant c.in_ok-end_text.ensures.ended)) (compacted_apart [] c.args.segments.now)
