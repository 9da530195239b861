use Rattle.std.proofs.Common.{sym, ◌∙◌, subst}
use Rattle.std.proofs.lemmas.Result.{IfOk-weaker}
use Rattle.fragment_cache.specs.Bins.{thing_found, seen, Looks}
use Rattle.fragment_cache.proofs.Shelves.{first_seen, looked_seen, missed_seen}
use Rattle.fragment_cache.proofs.bins.look_at.Goals as goal
use Rattle.fragment_cache.proofs.bins.look_at.Goals.{then-is_something, else-is_something}

pub returns-clause-looks : goal.returns-clause-looks
returns-clause-looks c =
    let found = thing_found c.in_ok-found.found in
    elim c.if-is_something.branch [
      | then-is_something w ↦ looked_seen c.args.cache.now c.if-is_something.cache c.args.key.now found c.is_bounded.ensures c.in_ok-found.ensures (w.cache-is ∙ w.promote.ensures.entries)
      | else-is_something w ↦ subst (λ new. Looks (seen c.args.cache.now) c.args.key.now found (seen new)) (sym w.cache-is)
          (missed_seen c.args.cache.now c.args.key.now found (sym c.is_something.ensures ∙ w.if-is_something.false) c.in_ok-found.ensures)
    ]

pub returns-in-Some-clause-looks : goal.returns-in-Some-clause-looks
returns-in-Some-clause-looks c =
    IfOk-weaker c.found_of.result _ _
    (λ found e. first_seen c.args.cache.now c.args.key.now c.in-Some.kept.now (thing_found found) c.is_bounded.ensures c.in-Some.ensures e)
    c.found_of.ensures
