use Rattle.std.proofs.Common.{refl}
use Rattle.renderer.proofs.Joining.{more_place}
use Rattle.kept_pages.proofs.joining.leave_open.Goals as goal

pub returns : goal.returns
returns c = record {
  appended = more_place _ _ _ c.in_ok-push_hole.ensures;
  libraries = refl;
  cacheability = refl;
  last = refl;
  status = refl;
}
