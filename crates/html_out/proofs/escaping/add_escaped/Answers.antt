use Rattle.std.proofs.Common.{◌≡◌, ◌≤◌, ◌-◌, ◌∙◌, ◌++◌, length, take, drop, ap, sym, arith, append-nil}
use Rattle.std.proofs.lemmas.List.{length-drop, take_all}
use Rattle.std.specs.Prelude.{Result, Ok, Err, OnErr}
use Rattle.html_out.proofs.Runs.{escaped-none, run-more, front-kept}
use Rattle.html_out.proofs.escaping.add_escaped.Goals as goal

pub runs-init : goal.runs-init
runs-init c =
    (omega arith, c.in_ok-reserve.ensures.items ∙ sym (ap (λ l. c.args.out.now.items ++ l) escaped-none ∙ append-nil c.args.out.now.items))

pub runs-preserved : goal.runs-preserved
runs-preserved c =
    let so_far = c.runs.invariant in
    let text = c.args.text.now in
    let done = c.runs.done in
    let whole : take (length text - done) (drop done text) ≡ drop done text = take_all (length text - done) (drop done text) (omega (arith, length-drop done text)) in
    let within : c.in_ok-done.field-0 ≤ length (take (length text - done) (drop done text)) = c.in_ok-done.ensures.within in
    let long : length (take (length text - done) (drop done text)) ≡ length text - done = ap length whole ∙ length-drop done text in
    (omega (arith, within, long, c.runs-test.true), run-more c.args.out.now.items text (take (length text - done) (drop done text)) c.runs.out.items c.add_run.new.out.items done c.in_ok-done.field-0 whole so_far.1 c.in_ok-done.ensures.ok)

on_err : {X Y : Type 0} (r : Result X Y) (P : Type 0) → P → OnErr r P
on_err (Ok x) P p = tt
on_err (Err e) P p = p

pub returns-in_err-done-clause-err : goal.returns-in_err-done-clause-err
returns-in_err-done-clause-err c =
    on_err _ _ (front-kept c.args.out.now.items _ c.runs.out.items c.add_run.new.out.items c.runs.invariant.1 c.in_err-done.ensures.err)
