use Rattle.std.proofs.Common.{◌≡◌, ◌∙◌, sym, true}
use Rattle.serve_store.proofs.Writes.{on_ok, on_err}
use Rattle.serve_store.proofs.job.close.Goals as goal

pub returns-then-is_err-clause-prints : goal.returns-then-is_err-clause-prints
returns-then-is_err-clause-prints g c = (c.if-not-whole.false, on_err c.write_whole.result (sym c.is_err.ensures.value ∙ c.if-is_err.true) c.write_whole.ensures.front)

pub returns-then-is_err-clause-output : goal.returns-then-is_err-clause-output
returns-then-is_err-clause-output g c = on_err c.write_whole.result (sym c.is_err.ensures.value ∙ c.if-is_err.true) c.write_whole.ensures.cause

pub returns-then-is_err-clause-place : goal.returns-then-is_err-clause-place
returns-then-is_err-clause-place g c = c.all_back.ensures.steady (c.requires.unused c.if-not-whole.false)

pub returns-else-is_err-clause-prints : goal.returns-else-is_err-clause-prints
returns-else-is_err-clause-prints g c = (c.if-not-whole.false, on_ok c.write_whole.result (sym c.is_err.ensures.value ∙ c.if-is_err.false) c.write_whole.ensures.whole)

pub returns-else-is_err-clause-output : goal.returns-else-is_err-clause-output
returns-else-is_err-clause-output g c = on_ok c.write_whole.result (sym c.is_err.ensures.value ∙ c.if-is_err.false) c.write_whole.ensures.steady

pub returns-else-is_err-clause-place : goal.returns-else-is_err-clause-place
returns-else-is_err-clause-place g c = c.all_back.ensures.steady (c.requires.unused c.if-not-whole.false)
