use Rattle.std.proofs.Common.{◌-◌, ◌∙◌, sym, take, drop}
use Rattle.site_files.proofs.TakenPieces.{ended_there, goes_there, taken_within}
use Rattle.site_files.proofs.chunk.Chunk.take_piece.Goals as goal

pub split_at-requires : goal.split_at-requires
split_at-requires c =
    taken_within (take (c.self.inside.end - c.self.inside.at) (drop c.self.inside.at c.deref.result.now)) c.end_of_line.result c.args.most c.min-taken.result c.end_of_line.ensures c.min-taken.ensures

pub returns-then-is_at_end : goal.returns-then-is_at_end
returns-then-is_at_end c =
    (ended_there c.args.self.now c.args.line.now.items c.extend_from_slice.new.self.items c.deref.result.now c.self.inside.bytes.items c.split_at.result.0.now c.split_at.result.1.now c.self.inside.at c.self.inside.end c.args.most c.end_of_line.result c.min-taken.result
    c.self.invariant.0 (sym c.self.view_is) c.deref.ensures.value c.end_of_line.ensures c.min-taken.ensures c.split_at.ensures.front c.split_at.ensures.back c.in_ok-extend_from_slice.ensures.items (sym c.is_at_end.ensures ∙ c.if-is_at_end.true)).1

pub returns-else-is_at_end : goal.returns-else-is_at_end
returns-else-is_at_end c =
    (goes_there c.args.self.now c.args.line.now.items c.extend_from_slice.new.self.items c.deref.result.now c.self.inside.bytes.items c.split_at.result.0.now c.split_at.result.1.now c.self.inside.at c.self.inside.end c.args.most c.end_of_line.result c.min-taken.result
    c.self.invariant.0 (sym c.self.view_is) c.deref.ensures.value c.end_of_line.ensures c.min-taken.ensures c.split_at.ensures.front c.split_at.ensures.back c.in_ok-extend_from_slice.ensures.items (sym c.is_at_end.ensures ∙ c.if-is_at_end.false)).1
