use Rattle.std.proofs.Common.{sym, subst}
use Rattle.site_http.specs.Recent.{AreRecent}
use Rattle.site_http.proofs.recent.RecentReplies.meet.Goals as goal

pub returns : goal.returns
returns c = λ house seen are.
    let was : AreRecent house (c.self.inside.places.items, c.self.inside.known, c.self.inside.nobody) = subst (AreRecent house) (sym c.self.view_is) are in (
      was.0,
      was.1,
      record { state = c.args.state.now; seen = seen; number_is = sym c.number-2.ensures; stands = c.in_ok-standing.ensures },
    )
