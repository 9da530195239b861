use Rattle.std.proofs.Common.{◌≡◌, ◌<◌, length, take, ap, arith}
use Rattle.std.proofs.lemmas.Bool.{ltb-false}
use Rattle.site_files.proofs.PieceLaws.{gave_none, none_first}
use Rattle.site_files.proofs.chunk.Chunk.fill.Goals as goal

pub returns-clause-end : goal.returns-clause-end
returns-clause-end g c =
    λ none.
    let zero : c.in_ok-read.read ≡ 0 = omega (arith, ltb-false 0 c.in_ok-read.read none) in
    let room : 0 < length c.deref_mut.result.now = omega (arith, c.self.invariant.2, ap length c.deref_mut.ensures.value) in (
      none_first c.in_ok-read.read _ zero,
      gave_none (g.S.Source.left c.args.source.now) (g.S.Source.left c.read.new.self) (take c.in_ok-read.read c.read.new.buffer) c.in_ok-read.ensures.told (ap (λ n. take n c.read.new.buffer) zero) (c.in_ok-read.ensures.end zero room),
    )
