use Rattle.site_rehearsal.proofs.Builds.{is_made}
use Rattle.site_rehearsal.proofs.building.draft_of.Goals as goal

pub returns-clause-made : goal.returns-clause-made
returns-clause-made c =
    is_made (record { state = c.deref-2.result.now; viewer = c.args.viewer.now; ask = c.args.ask.now; moment = c.args.now }) c.args.element c.args.filled _ _ _ _ _ _
    (rw (c.new-reader.ensures, c.in_ok-account.ensures.viewer_is) at c.in_ok-entry.ensures) c.deref-2.ensures c.requires.kept c.requires.right c.in_ok-try_clone.ensures c.in_ok-subject.ensures c.in_ok-asked.ensures
