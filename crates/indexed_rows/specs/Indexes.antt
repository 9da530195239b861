-- The indexes of a state's rows.
use Rattle.std.specs.Prelude.{List, ◌≡◌, IsPermutation}
use Rattle.std.specs.List.{flat_map}
use Rattle.content_rows.specs.declared.cell.Cell.{Cell}
use Rattle.content_rows.specs.declared.row.Row.{Row}
use Rattle.index_law.specs.Index.{index_of}
use Rattle.row_keys.specs.Keys.{node_keys, type_keys, term_keys, parent_keys, comment_keys, block_keys}
use Rattle.row_keys.specs.contracts.rank.NodeRankOrd.TheImpl as rank_order
use Rattle.row_keys.specs.contracts.rank.TypeKeyOrd.TheImpl as type_order
use Rattle.row_keys.specs.contracts.rank.TermKeyOrd.TheImpl as term_order
use Rattle.row_keys.specs.contracts.rank.ParentKeyOrd.TheImpl as parent_order
use Rattle.row_keys.specs.contracts.rank.CommentKeyOrd.TheImpl as comment_order
use Rattle.row_keys.specs.contracts.rank.BlockKeyOrd.TheImpl as block_order
use Rattle.indexed_rows.specs.TextKeys.{text_keys}
use Rattle.indexed_rows.specs.contracts.text_mark.TextKeyOrd.TheImpl as text_order
use Rattle.indexed_rows.specs.declared.indexes.Indexes.{Indexes}

-- all keys that some rows give, by some walk over these
pub record AreKeysOf {K : Type 0} (keys : Cell × Row → List K) (rows : List (Cell × Row)) (given : List K) : Type 0 where
  pub walked : List (Cell × Row)
  pub all : IsPermutation rows walked
  pub given_is : given ≡ flat_map keys walked

-- each index has the keys that the rows give, in order, each once, and no others
pub record AreIndexes (rows : List (Cell × Row)) (indexes : Indexes) : Type 0 where
  pub nodes : indexes.nodes ≡ index_of rank_order.ghosts.cmp node_keys rows
  pub types : indexes.types ≡ index_of type_order.ghosts.cmp type_keys rows
  pub terms : indexes.terms ≡ index_of term_order.ghosts.cmp term_keys rows
  pub parents : indexes.parents ≡ index_of parent_order.ghosts.cmp parent_keys rows
  pub comments : indexes.comments ≡ index_of comment_order.ghosts.cmp comment_keys rows
  pub blocks : indexes.blocks ≡ index_of block_order.ghosts.cmp block_keys rows
  pub texts : indexes.texts ≡ index_of text_order.ghosts.cmp text_keys rows
