use Rattle.indexed_rows.proofs.Walked.{IsWalk}
use Rattle.indexed_rows.proofs.indexes.Indexes.of.Given as goal

abbrev pub invariant-rows : goal.invariant-rows
invariant-rows l = IsWalk l.rows l.cell-iterator l.nodes.items l.types.items l.terms.items l.parents.items l.comments.items l.blocks.items l.texts.items
