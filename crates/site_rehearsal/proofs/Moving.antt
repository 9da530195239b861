-- What acts leave as it was.
use Rattle.std.proofs.Common.{refl}
use Rattle.site_hall.specs.Hall.{HallView}
use Rattle.site_house.proofs.Moving.{begins_same}
use Rattle.site_rehearsal.specs.Keeping.{Goes}

pub goes_same : (hall : HallView) → Goes hall hall
goes_same hall = record { base = refl; grows = begins_same hall.log; steadfast = refl; faults = refl }
