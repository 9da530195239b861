use Rattle.std.proofs.Common.{rules, arith, ◌≡◌, ◌≤◌, ◌+◌, length, subst, sym}
use Rattle.bucket_map.specs.Buckets.{bucket_size}
use Rattle.bucket_map.proofs.Sizes.{steps_all}
use Rattle.cell_keys.specs.Places.{cell_place}
use Rattle.indexed_rows.specs.Indexes.{AreIndexes}
use Rattle.indexed_rows.specs.Write.{written}
use Rattle.indexed_rows.proofs.WriteCost.{fold_more, size_written, write_steps}
use Rattle.indexed_rows.proofs.writing.write_all.Goals as goal

pub returns-in_err-follow-clause-cost : goal.returns-in_err-follow-clause-cost
returns-in_err-follow-clause-cost g c most h =
    steps_all c.args.steps.now c.writes.steps (most + length c.args.writes.now) c.writes.write-index (length c.args.writes.now) (c.writes.invariant.cost most h) (omega (arith, c.writes-test.true))

pub returns-in_err-make_write-clause-cost : goal.returns-in_err-make_write-clause-cost
returns-in_err-make_write-clause-cost g c most h =
    let writes = c.args.writes.now in
    let i = c.writes.write-index in
    let write = c.write-item.result in
    steps_all c.args.steps.now c.make_write.new.steps (most + length writes) (i + 1) (length writes)
    (write_steps c.args.rows.now most writes i write c.args.steps.now c.writes.steps c.make_write.new.steps (bucket_size cell_place c.writes.rows (cell_place write.cell)) h c.writes-test.true c.write-item.is (c.writes.invariant.cost most h) c.make_write.ensures.cost (c.writes.invariant.sizes (cell_place write.cell)))
    (omega (arith, c.writes-test.true))

pub writes-preserved : goal.writes-preserved
writes-preserved g c =
    let writes = c.args.writes.now in
    let i = c.writes.write-index in
    let write = c.write-item.result in
    let made : c.make_write.new.rows ≡ written c.writes.rows write = search rules in
    let followed : AreIndexes (written c.writes.rows write) c.follow.new.self = search rules in
    record {
      rows = fold_more written c.args.rows.now c.writes.rows c.make_write.new.rows writes i write c.writes-test.true c.write-item.is c.writes.invariant.rows made;
      indexes = subst (λ rows. AreIndexes rows c.follow.new.self) (sym made) followed;
      sizes = λ n.
          let one = subst (λ l. bucket_size cell_place l n ≤ bucket_size cell_place c.writes.rows n + 1) (sym made) (size_written c.writes.rows write n) in
          let all = c.writes.invariant.sizes n in
          omega arith;
      cost = λ most h. write_steps c.args.rows.now most writes i write c.args.steps.now c.writes.steps c.make_write.new.steps (bucket_size cell_place c.writes.rows (cell_place write.cell)) h c.writes-test.true c.write-item.is (c.writes.invariant.cost most h) c.make_write.ensures.cost (c.writes.invariant.sizes (cell_place write.cell));
    }

pub returns-clause-cost : goal.returns-clause-cost
returns-clause-cost g c most h =
    steps_all c.args.steps.now c.writes.steps (most + length c.args.writes.now) c.writes.write-index (length c.args.writes.now) (c.writes.invariant.cost most h) (omega arith)
