use Rattle.std.proofs.Common.{◌++◌, ◌∙◌, ap}
use Rattle.std.specs.Arc.{arc_value}
use Rattle.std.proofs.lemmas.Result.{on_ok_weaker}
use Rattle.late_pages.proofs.Marks.{bytes_marked, bytes_left}
use Rattle.late_pages.proofs.marking.mark_part.Goals as goal

pub returns-in_ok-try_clone-in-Bytes-clause-text : goal.returns-in_ok-try_clone-in-Bytes-clause-text
returns-in_ok-try_clone-in-Bytes-clause-text c =
    on_ok_weaker c.push.result
    (λ more. bytes_marked c.args.part.now c.in-Bytes.bytes (arc_value c.args.meta.now) c.args.marked.now.text c.push.new.self c.args.marked.now.holes.items c.in-Bytes.is
    (more ∙ ap (λ bs. c.args.marked.now.text ++ bs) c.in_ok-try_clone-in-Bytes.ensures))
    c.push.ensures.ok

pub returns-in_ok-try_clone-in-Bytes-clause-places : goal.returns-in_ok-try_clone-in-Bytes-clause-places
returns-in_ok-try_clone-in-Bytes-clause-places c =
    on_ok_weaker c.push.result
    (λ more rest. bytes_left c.args.part.now c.in-Bytes.bytes c.args.marked.now.holes.items c.in-Bytes.is rest)
    c.push.ensures.ok
