use Rattle.std.specs.Arc.{arc_value}
use Rattle.std.proofs.lemmas.Result.{on_ok_weaker}
use Rattle.element_entries.specs.Keys.{visit}
use Rattle.kept_pages.specs.Joins.{in_shared}
use Rattle.kept_pages.proofs.Counting.{told_plain}
use Rattle.kept_pages.proofs.Parts.{joins_bytes}
use Rattle.kept_pages.proofs.frames.add_shared_part.Goals as goal

pub returns-in-Bytes-clause-joins : goal.returns-in-Bytes-clause-joins
returns-in-Bytes-clause-joins g c =
    rw c.in-Bytes.is (on_ok_weaker c.add_bytes.result (joins_bytes in_shared _ _ _ _) c.add_bytes.ensures)

pub returns-in-Bytes-clause-told : goal.returns-in-Bytes-clause-told
returns-in-Bytes-clause-told g c =
    rw c.in-Bytes.is (on_ok_weaker c.add_bytes.result (told_plain c.args.reader.now (visit c.args.reader.now) (g.H.House.sees c.args.house.now) (arc_value c.in-Bytes.shared) _ _ c.args.filled.now.built) c.add_bytes.ensures)

pub returns-in-Hole-clause-told : goal.returns-in-Hole-clause-told
returns-in-Hole-clause-told g c = rw c.in-Hole.is c.add_shared_place.ensures.told
