-- What places nodes, blocks, terms and comments among others.
use Rattle.std.specs.Prelude.{ℕ, List}
use Rattle.std.specs.declared.cmp.Ordering.{Ordering}
use Rattle.content_rows.specs.declared.row.Node.{Node}
use Rattle.content_rows.specs.declared.row.Block.{Block}
use Rattle.row_keys.specs.declared.rank.NodeRank.{NodeRank}
use Rattle.row_keys.specs.declared.rank.BlockRank.{BlockRank}
use Rattle.row_keys.specs.declared.rank.ParentKey.{ParentKey}
use Rattle.row_keys.specs.declared.rank.CommentKey.{CommentKey}
use Rattle.row_keys.specs.contracts.rank.NodeRankOrd.TheImpl as node_ranks
use Rattle.row_keys.specs.contracts.rank.BlockRankOrd.TheImpl as block_ranks
use Rattle.row_keys.specs.contracts.rank.ParentKeyOrd.TheImpl as parent_keys
use Rattle.row_keys.specs.contracts.rank.CommentKeyOrd.TheImpl as comment_keys

-- sticky nodes come first, then those made later, then those of greater ids
abbrev pub rank_of : (ℕ × Node) → NodeRank
rank_of e = record { sticky = record { 0 = e.1.sticky }; created = record { 0 = e.1.created }; id = record { 0 = e.0 } }

abbrev pub rank_cmp : NodeRank → NodeRank → Ordering
rank_cmp = node_ranks.ghosts.cmp

-- the block of the lesser weight comes first, then that of the lesser name
abbrev pub block_rank : (List ℕ × Block) → BlockRank
block_rank e = record { weight = e.1.weight; name = e.0 }

abbrev pub block_cmp : BlockRank → BlockRank → Ordering
block_cmp = block_ranks.ghosts.cmp

-- terms under none come first, then those under terms of lesser ids, and under one term those of lesser ids
abbrev pub parent_cmp : ParentKey → ParentKey → Ordering
parent_cmp = parent_keys.ghosts.cmp

-- comments on nodes of lesser ids come first, and on one node those of lesser ids
abbrev pub comment_cmp : CommentKey → CommentKey → Ordering
comment_cmp = comment_keys.ghosts.cmp
