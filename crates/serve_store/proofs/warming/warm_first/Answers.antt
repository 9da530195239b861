use Rattle.std.proofs.Common.{◌∙◌, sym}
use Rattle.serve_store.proofs.Warmings.{first_moment, on_ok_is}
use Rattle.serve_store.proofs.Writes.{on_ok, on_err}
use Rattle.serve_store.proofs.warming.warm_first.Goals as goal

pub returns-clause-warmed : goal.returns-clause-warmed
returns-clause-warmed g c = record {
  moment = c.now-now.result;
  moment_is = first_moment (g.P.Place.sees c.args.place.now) c.now-now.result _ _ _ _ c.clock-clock.ensures.moments c.clock-clock.ensures.begins c.now-now.ensures.told c.now-now.ensures.in_turn;
  pages = c.warm_site-hall.ensures.pages;
  warm = on_ok_is c.in-Ok.is c.warm_site-hall.ensures.warm;
}
