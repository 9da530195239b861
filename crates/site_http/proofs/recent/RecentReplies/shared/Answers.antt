use Rattle.std.proofs.Common.{sym, subst}
use Rattle.site_http.specs.Recent.{IsRecent}
use Rattle.site_http.proofs.Again.{made_recent}
use Rattle.site_http.proofs.recent.RecentReplies.shared.Goals as goal

pub returns-in-Ok-new-clause-recent : goal.returns-in-Ok-new-clause-recent
returns-in-Ok-new-clause-recent c house state seen number right until are =
    c.remember.ensures house are
    (subst (IsRecent house) (sym c.in-Ok-new.ensures.ok)
    (made_recent house state _ c.args.ask.now seen number right c.in-Ok.ensures until))
