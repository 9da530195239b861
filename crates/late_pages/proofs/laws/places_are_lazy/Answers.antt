use Rattle.late_pages.proofs.LazyPlaces.{places_are_lazy}
use Rattle.late_pages.proofs.laws.places_are_lazy.Goals as goal

pub returns : goal.returns
returns c = places_are_lazy
