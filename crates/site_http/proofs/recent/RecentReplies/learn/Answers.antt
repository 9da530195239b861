use Rattle.std.proofs.Common.{sym, subst, IfSome, Some}
use Rattle.site_http.specs.Known.{IsPlain, IsKnown}
use Rattle.site_http.specs.Recent.{AreRecent, IsKnownIfAny}
use Rattle.site_http.proofs.recent.RecentReplies.learn.Goals as goal
use Rattle.site_http.proofs.recent.RecentReplies.learn.Goals.{in-Some-5, in-None-5}

pub returns-in-Ok : goal.returns-in-Ok
returns-in-Ok c = λ house request plain asks are.
    let was : AreRecent house (c.self.inside.places.items, c.self.inside.known, c.self.inside.nobody) = subst (AreRecent house) (sym c.self.view_is) are in
    let known : IsKnownIfAny (Some c.in-Ok.known) = subst IsKnown (sym c.in-Ok.ensures.ok) (record { request = request; plain = subst (λ o. IfSome o (λ b. IsPlain b.items request)) c.in-Some.is plain; asks = asks }) in
    let new : AreRecent house (c.self.inside.places.items, Some c.in-Ok.known, c.self.inside.nobody) = (was.0, known, was.2) in
    elim c.match-self.branch [
      | in-Some-5 w ↦ subst (AreRecent house) (sym w.self-is) new
      | in-None-5 w ↦ subst (AreRecent house) (sym w.self-is) new
    ]
