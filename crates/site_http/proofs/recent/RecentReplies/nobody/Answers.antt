use Rattle.std.proofs.Common.{◌∙◌, sym, subst, IfSome}
use Rattle.site_http.specs.Recent.{IsOfNobody, AreRecent}
use Rattle.site_http.proofs.Again.{stands_there}
use Rattle.site_http.proofs.recent.RecentReplies.nobody.Goals as goal

pub returns-in-Some : goal.returns-in-Some
returns-in-Some c = λ house state are seen number.
    let was : AreRecent house (c.self.inside.places.items, c.self.inside.known, c.self.inside.nobody) = subst (AreRecent house) (sym c.self.view_is) are in
    stands_there house c.in-Some.nobody state (subst (λ o. IfSome o (IsOfNobody house)) c.in-Some.is was.2) seen (number ∙ sym c.if-nobody-number.true)
