-- Two keys that are level in their order are one key.
use Rattle.std.proofs.Common.{◌≡◌, ◌∙◌, true, sym, ap, rules}
use Rattle.std.specs.Ordering.{is_eq}
use Rattle.row_keys.specs.declared.rank.NodeRank.{NodeRank}
use Rattle.row_keys.specs.declared.rank.TypeKey.{TypeKey}
use Rattle.row_keys.specs.declared.rank.TermKey.{TermKey}
use Rattle.row_keys.specs.declared.rank.ParentKey.{ParentKey}
use Rattle.row_keys.specs.declared.rank.CommentKey.{CommentKey}
use Rattle.row_keys.specs.declared.rank.BlockKey.{BlockKey}
use Rattle.row_keys.specs.contracts.rank.NodeRankPartialEq.TheImpl as same_ranks
use Rattle.row_keys.specs.contracts.rank.NodeRankOrd.TheImpl as rank_order
use Rattle.row_keys.specs.contracts.rank.NodeRankOrd.TheImpl.Laws as rank_laws
use Rattle.row_keys.specs.contracts.rank.TypeKeyPartialEq.TheImpl as same_types
use Rattle.row_keys.specs.contracts.rank.TypeKeyOrd.TheImpl as type_order
use Rattle.row_keys.specs.contracts.rank.TypeKeyOrd.TheImpl.Laws as type_laws
use Rattle.row_keys.specs.contracts.rank.TermKeyPartialEq.TheImpl as same_terms
use Rattle.row_keys.specs.contracts.rank.TermKeyOrd.TheImpl as term_order
use Rattle.row_keys.specs.contracts.rank.TermKeyOrd.TheImpl.Laws as term_laws
use Rattle.row_keys.specs.contracts.rank.ParentKeyPartialEq.TheImpl as same_parents
use Rattle.row_keys.specs.contracts.rank.ParentKeyOrd.TheImpl as parent_order
use Rattle.row_keys.specs.contracts.rank.ParentKeyOrd.TheImpl.Laws as parent_laws
use Rattle.row_keys.specs.contracts.rank.CommentKeyPartialEq.TheImpl as same_comments
use Rattle.row_keys.specs.contracts.rank.CommentKeyOrd.TheImpl as comment_order
use Rattle.row_keys.specs.contracts.rank.CommentKeyOrd.TheImpl.Laws as comment_laws
use Rattle.row_keys.specs.contracts.rank.BlockKeyPartialEq.TheImpl as same_blocks
use Rattle.row_keys.specs.contracts.rank.BlockKeyOrd.TheImpl as block_order
use Rattle.row_keys.specs.contracts.rank.BlockKeyOrd.TheImpl.Laws as block_laws
use Rattle.index_law.specs.Index.{TellsApart}

same_rank : (a b : NodeRank) → same_ranks.ghosts.eq a b ≡ true → a ≡ b
same_rank a b h = search rules

same_type : (a b : TypeKey) → same_types.ghosts.eq a b ≡ true → a ≡ b
same_type a b h = search rules

same_term : (a b : TermKey) → same_terms.ghosts.eq a b ≡ true → a ≡ b
same_term a b h = search rules

same_parent : (a b : ParentKey) → same_parents.ghosts.eq a b ≡ true → a ≡ b
same_parent a b h = search rules

same_comment : (a b : CommentKey) → same_comments.ghosts.eq a b ≡ true → a ≡ b
same_comment a b h = search rules

same_block : (a b : BlockKey) → same_blocks.ghosts.eq a b ≡ true → a ≡ b
same_block a b h = search rules

pub rank_exact : TellsApart rank_order.ghosts.cmp
rank_exact a b h = same_rank a b (rank_laws.matches_eq-law a b ∙ ap is_eq h)

pub type_exact : TellsApart type_order.ghosts.cmp
type_exact a b h = same_type a b (type_laws.matches_eq-law a b ∙ ap is_eq h)

pub term_exact : TellsApart term_order.ghosts.cmp
term_exact a b h = same_term a b (term_laws.matches_eq-law a b ∙ ap is_eq h)

pub parent_exact : TellsApart parent_order.ghosts.cmp
parent_exact a b h = same_parent a b (parent_laws.matches_eq-law a b ∙ ap is_eq h)

pub comment_exact : TellsApart comment_order.ghosts.cmp
comment_exact a b h = same_comment a b (comment_laws.matches_eq-law a b ∙ ap is_eq h)

pub block_exact : TellsApart block_order.ghosts.cmp
block_exact a b h = same_block a b (block_laws.matches_eq-law a b ∙ ap is_eq h)
