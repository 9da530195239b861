use Rattle.std.proofs.lemmas.Result.{err_from_is_err_and}
use Rattle.tables_sqlite.proofs.Refusals.{first_fails, both_pass, not_both, not_second}
use Rattle.tables_sqlite.proofs.opening.is_sound.Goals as goal

pub returns-in_err-come_once-clause-refused : goal.returns-in_err-come_once-clause-refused
returns-in_err-come_once-clause-refused g c =
    let same = err_from_is_err_and c.from_residual.result c.from_residual.ensures.1 in
    rw (same.1, same.2) (λ refusal. first_fails g.S.Store c.args.conn.now c.come_once.new.conn (c.in_err-come_once.ensures.refused refusal))

pub returns-then-not-branch-clause-fails : goal.returns-then-not-branch-clause-fails
returns-then-not-branch-clause-fails g c = λ no. first_fails g.S.Store c.args.conn.now c.come_once.new.conn (c.in_ok-come_once.ensures.fails c.if-not-branch.true)

pub returns-clause-sound : goal.returns-clause-sound
returns-clause-sound g c =
    both_pass g.S.Store c.args.conn.now c.come_once.new.conn c.come_once-2.new.conn (c.in_ok-come_once.ensures.passes c.if-not-branch.false) c.requires c.come_once-2.result c.come_once-2.ensures.passes

pub returns-clause-fails : goal.returns-clause-fails
returns-clause-fails g c =
    not_both g.S.Store c.args.conn.now c.come_once.new.conn c.come_once-2.new.conn (c.in_ok-come_once.ensures.passes c.if-not-branch.false) c.come_once-2.result c.come_once-2.ensures.fails

pub returns-clause-refused : goal.returns-clause-refused
returns-clause-refused g c =
    not_second g.S.Store c.args.conn.now c.come_once.new.conn c.come_once-2.new.conn (c.in_ok-come_once.ensures.passes c.if-not-branch.false) c.come_once-2.result c.come_once-2.ensures.refused
