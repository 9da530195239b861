use Rattle.site_house.specs.House.{HouseView}
use Rattle.site_http.specs.Recent.{AreGiven}
use Rattle.site_http.proofs.recent.RecentReplies.new.Given as goal

abbrev pub invariant-places : goal.invariant-places
invariant-places l = (house : HouseView) → AreGiven house l.places.items
