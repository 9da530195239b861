use Rattle.site_rehearsal.proofs.acting.act.Goals as goal

pub returns-in-Snapshot-clause-acts : goal.returns-in-Snapshot-clause-acts
returns-in-Snapshot-clause-acts g c = rw c.in-Snapshot.is (c.snapshot.ensures.acts c.args.requester)

pub returns-in-Look-clause-acts : goal.returns-in-Look-clause-acts
returns-in-Look-clause-acts g c = rw c.in-Look.is (c.look.ensures.acts c.args.requester)

pub returns-in-Build-clause-acts : goal.returns-in-Build-clause-acts
returns-in-Build-clause-acts g c = rw c.in-Build.is (c.build.ensures.acts c.args.requester)

pub returns-in-Keep-clause-acts : goal.returns-in-Keep-clause-acts
returns-in-Keep-clause-acts g c = rw c.in-Keep.is (c.keep.ensures.acts c.args.requester)
