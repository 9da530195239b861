use Rattle.std.proofs.Common.{length}
use Rattle.site_access.proofs.account.Account.+note_viewable.Given as goal

abbrev pub decreases-note_viewable : goal.decreases-note_viewable
decreases-note_viewable l = length l.ids.now
