use Rattle.std.proofs.Common.{[], ◌+◌, ◌*◌, take}
use Rattle.html_out.specs.Segment.{parts_of}
use Rattle.content_state.specs.Places.{open_places}
use Rattle.render_canvas.specs.Board.{pieces_of}
use Rattle.render_array.specs.Whole.{element_level, fragment_level, shown_below}
use Rattle.element_entries.specs.Keys.{visit}
use Rattle.kept_pages.specs.Houses.{Steady}
use Rattle.kept_pages.specs.Joins.{Joins}
use Rattle.kept_pages.specs.Needed.{Visits, NeededBelow}
use Rattle.kept_pages.specs.Went.{TakesIn}
use Rattle.kept_pages.specs.Held.{Tells}
use Rattle.kept_pages.proofs.filling.+filling.Given as goal

abbrev pub decreases-some_fragment : goal.decreases-some_fragment
decreases-some_fragment g l = 5 * fragment_level l.fragment.now + 4

abbrev pub decreases-built_fragment : goal.decreases-built_fragment
decreases-built_fragment g l = 5 * fragment_level l.fragment.now + 3

abbrev pub decreases-fill : goal.decreases-fill
decreases-fill g l = 5 * element_level l.element + 2

abbrev pub decreases-add_parts : goal.decreases-add_parts
decreases-add_parts g l = 5 * l.below + 1

abbrev pub decreases-add_part : goal.decreases-add_part
decreases-add_part g l = 5 * l.below

abbrev pub invariant-add_parts-loop-part : goal.invariant-add_parts-loop-part
invariant-add_parts-loop-part g l = record {
  steady : Steady (g.H.House.sees l.fn.house) (g.H.House.sees l.house);
  joins : Joins (shown_below l.fn.below) (visit l.fn.reader) (pieces_of (parts_of (take l.part-index l.fn.parts))) l.fn.filled.joined l.filled.joined;
  told : Tells l.fn.reader (TakesIn (Visits (NeededBelow l.fn.below (visit l.fn.reader)) (open_places (pieces_of (parts_of (take l.part-index l.fn.parts))))) [] l.fn.filled.joined.cacheability l.filled.joined.cacheability) (g.H.House.sees l.fn.house) (g.H.House.sees l.house) l.fn.filled.built l.filled.built;
}
