use Rattle.std.proofs.Common.{take}
use Rattle.std.specs.List.{flat_map}
use Rattle.html_out.specs.Segment.{parts_of}
use Rattle.content_state.specs.Places.{open_places}
use Rattle.render_canvas.specs.Board.{pieces_of}
use Rattle.element_entries.specs.Keys.{visit}
use Rattle.kept_pages.specs.Houses.{Steady}
use Rattle.kept_pages.specs.Joins.{Joins, in_shared}
use Rattle.kept_pages.specs.Needed.{Visits, NeededInFrame, tags_asked}
use Rattle.kept_pages.specs.Went.{TakesIn}
use Rattle.kept_pages.specs.Held.{Tells}
use Rattle.kept_pages.proofs.frames.add_shared_parts.Given as goal

abbrev pub invariant-loop-part : goal.invariant-loop-part
invariant-loop-part g l = record {
  steady : Steady (g.H.House.sees l.fn.house) (g.H.House.sees l.house);
  joins : Joins in_shared (visit l.fn.reader) (pieces_of (parts_of (take l.part-index l.fn.parts))) l.fn.filled.joined l.filled.joined;
  told : Tells l.fn.reader (TakesIn (Visits (NeededInFrame (visit l.fn.reader)) (open_places (pieces_of (parts_of (take l.part-index l.fn.parts))))) (flat_map (tags_asked (visit l.fn.reader)) (open_places (pieces_of (parts_of (take l.part-index l.fn.parts))))) l.fn.filled.joined.cacheability l.filled.joined.cacheability) (g.H.House.sees l.fn.house) (g.H.House.sees l.house) l.fn.filled.built l.filled.built;
}
