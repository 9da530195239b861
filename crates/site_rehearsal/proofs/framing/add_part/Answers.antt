use Rattle.std.proofs.lemmas.Result.{on_ok_weaker}
use Rattle.site_rehearsal.specs.Visitors.{visit}
use Rattle.renderer.proofs.Joining.{joins_bytes}
use Rattle.site_rehearsal.specs.Framing.{in_frame, count_in_frame}
use Rattle.site_rehearsal.proofs.Frames.{joins_meta}
use Rattle.site_rehearsal.proofs.framing.add_part.Goals as goal

pub returns-in-Bytes : goal.returns-in-Bytes
returns-in-Bytes c = rw c.in-Bytes.is (on_ok_weaker c.add_bytes.result (joins_bytes in_frame (count_in_frame (visit c.args.visitor.now)) _ _ _ _) c.add_bytes.ensures)

pub returns-in-Meta : goal.returns-in-Meta
returns-in-Meta c = rw c.in-Hole.is (on_ok_weaker c.leave_open.result (joins_meta (visit c.args.visitor.now) c.in-Hole.hole _ _ c.in-Meta.is) c.leave_open.ensures)
