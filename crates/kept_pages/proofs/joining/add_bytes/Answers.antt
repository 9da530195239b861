use Rattle.std.proofs.Common.{refl}
use Rattle.renderer.proofs.Joining.{more_bytes}
use Rattle.kept_pages.proofs.joining.add_bytes.Goals as goal

pub returns : goal.returns
returns c = record {
  appended = more_bytes _ _ _ _ c.in_ok-push.ensures.ok c.in_ok-try_clone.ensures;
  libraries = refl;
  cacheability = refl;
  last = refl;
  status = refl;
}
