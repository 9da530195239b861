use Rattle.std.proofs.Common.{◌∙◌, ap, sym}
use Rattle.site_rehearsal.specs.Seats.{Seat}
use Rattle.site_rehearsal.proofs.acting.keep.Goals as goal

pub keep_draft-requires : goal.keep_draft-requires
keep_draft-requires g c = c.requires.drafted _ (ap (λ (s : Seat). s.built) (sym c.seat.view_is) ∙ c.in-Some.is)
