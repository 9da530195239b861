use Rattle.std.specs.Arc.{arc_value}
use Rattle.site_jobs.proofs.Keeping.{batch_is, right_after}
use Rattle.site_jobs.proofs.importing.keep.Goals as goal

pub apply-requires : goal.apply-requires
apply-requires g c =
    let is = batch_is c.args.base.now (arc_value c.args.commit.now) (arc_value c.in_ok-edit.edit) _ _ _ _ c.in_ok-batch.ensures c.rows.ensures c.counts.ensures c.number.ensures c.in_ok-edit.ensures in
    record { right = right_after (g.K.Keeper.kept c.args.keeper.now) c.args.base.now (arc_value c.args.commit.now) _ c.batches_keep_steps.ensures c.requires.holds is c.requires.right }
