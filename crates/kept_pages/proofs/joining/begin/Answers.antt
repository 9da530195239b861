use Rattle.std.proofs.Common.{refl}
use Rattle.kept_pages.proofs.Parts.{begins_of}
use Rattle.kept_pages.proofs.joining.begin.Goals as goal

pub returns : goal.returns
returns c =
    begins_of _ _ c.in_ok-segments.field-0 _ (rw (c.state.ensures, c.account.ensures.viewer_is, c.ask.ensures, c.moment.ensures) at c.in_ok-segments.ensures) refl c.new.ensures c.into_vec.ensures refl refl refl refl
