use Rattle.std.proofs.Common.{sym, ◌∙◌, true≢false}
use Rattle.fragment_cache.proofs.Shelves.{kept_seen}
use Rattle.fragment_cache.proofs.bins.keep_at.Goals as goal
use Rattle.fragment_cache.proofs.bins.keep_at.Goals.{then-drops, else-drops}

pub returns-clause-keeps : goal.returns-clause-keeps
returns-clause-keeps c =
    kept_seen c.args.cache.now c.args.key c.args.kept c.is_bounded.ensures c.put.new.self c.must_drop-drops.result c.must_drop-drops.ensures c.in_ok-_before.ensures.entries c.args.dropped.now c.if-drops.dropped
    (λ yes. elim c.if-drops.branch [
      | then-drops w ↦ w.dropped-is ∙ w.saturating_add.ensures
      | else-drops w ↦ absurd (true≢false (sym yes ∙ w.if-drops.false))
    ])
    (λ no. elim c.if-drops.branch [
      | then-drops w ↦ absurd (true≢false (sym w.if-drops.true ∙ no))
      | else-drops w ↦ w.dropped-is
    ])
