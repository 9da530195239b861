use Rattle.std.proofs.Common.{subst, IfSome}
use Rattle.site_http.specs.declared.recent.Given.{Given}
use Rattle.site_http.specs.Recent.{given_bytes, IsReplyUntil}
use Rattle.site_http.proofs.recent.RecentReplies.given.Goals as goal

pub returns-in-Page-clause-recent : goal.returns-in-Page-clause-recent
returns-in-Page-clause-recent c house state seen number right until are =
    c.shared.ensures.recent house state seen number right
    (subst (λ (g : Given). IsReplyUntil state c.args.ask.now c.args.now c.in-Some.until (given_bytes g)) c.in-Page.is
    (subst (λ o. IfSome o (λ l. IsReplyUntil state c.args.ask.now c.args.now l (given_bytes c.args.given))) c.in-Some.is until))
    are
