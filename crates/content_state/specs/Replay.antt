-- What an accepted edit makes of a state, and what a log of edits does.
-- The tags that an edit invalidates: https://www.drupal.org/docs/drupal-apis/cache-api/cache-tags
use Rattle.std.specs.Prelude.{ℕ, List, [], ◌∷◌, ◌++◌, ◌≡◌, ◌+◌, ◌-◌, Option, Some, None, fold, map, take}
use Rattle.std.specs.List.{flat_map, IsDistinct}
use Rattle.std.specs.Ordering.{eq_by_cmp}
use Rattle.std.specs.BTreeSet.{insert_key}
use Rattle.cacheability.specs.declared.tag.Tag.{Tag}
use Rattle.cacheability.specs.declared.tag.Tag.TheVariants as tag
use Rattle.cacheability.specs.Tag.{tag_cmp}
use Rattle.tag_counts.specs.Counts.{bumped}
use Rattle.content_rows.specs.CellOrder.{cell_cmp}
use Rattle.content_rows.specs.declared.cell.Cell.{Cell}
use Rattle.content_rows.specs.declared.cell.Cell.TheVariants as cell
use Rattle.content_rows.specs.declared.row.Row.{Row}
use Rattle.content_rows.specs.declared.row.Row.TheVariants as row
use Rattle.content_state.specs.State.{State}
use Rattle.indexed_rows.specs.Write.{Write, written}
use Rattle.content_state.specs.declared.commit.Commit.{Commit}
use Rattle.indexed_rows.specs.Rows.{row_at}

-- that something is now there that was absent
abbrev pub if_absent : Option Row → List Tag
if_absent None = tag.NotFound ∷ []
if_absent (Some row) = []

-- the list of nodes of the type of a node's row
abbrev pub list_of_type : Option Row → List Tag
list_of_type (Some (row.Node node)) = tag.NodeListOf node.node_type ∷ []
list_of_type _ = []

-- the list of comments of the node of a comment's row
abbrev pub list_of_node : Option Row → List Tag
list_of_node (Some (row.Comment comment)) = tag.CommentList comment.node ∷ []
list_of_node _ = []

-- The tags that a write to a cell invalidates, by the row that was there and the one that is there now. No page reads
-- the ids that are next or the sessions but through contexts, so they have none.
abbrev pub bumps : Cell → Option Row → Option Row → List Tag
bumps cell.Site old new = tag.Site ∷ []
bumps cell.Seq old new = []
bumps (cell.NodeType t) old new = tag.NodeType t ∷ []
bumps (cell.Role r) old new = tag.Role r ∷ []
bumps (cell.User u) old new = tag.User u ∷ if_absent old
bumps (cell.Term t) old new = tag.Term t ∷ tag.TermList ∷ if_absent old
bumps (cell.Node n) old new = tag.Node n ∷ tag.NodeList ∷ tag.NotFound ∷ (list_of_type old ++ list_of_type new)
bumps (cell.Menu m) old new = tag.Menu m ∷ []
bumps (cell.Listing l) old new = tag.Listing l ∷ tag.NotFound ∷ []
bumps (cell.Block b) old new = tag.Block b ∷ tag.BlockList ∷ []
bumps (cell.Session s) old new = []
bumps (cell.Comment c) old new = tag.Comment c ∷ (list_of_node old ++ list_of_node new)
bumps cell.Talk old new = []
bumps cell.Head old new = []

-- the tags that a write invalidates where these rows stood before it
abbrev pub tags_of_write : List (Cell × Row) → Write → List Tag
tags_of_write rows write = bumps write.cell (row_at rows write.cell) write.row

-- the tags that an edit invalidates: those of its writes and its own, each once, in the order of their texts
abbrev pub tags_of_commit : List (Cell × Row) → Commit → List Tag
tags_of_commit rows commit = fold (insert_key tag_cmp) [] (flat_map (tags_of_write rows) commit.writes ++ commit.extra)

-- The writes of an edit are to distinct cells: so what it does, and the tags that it invalidates, do not hang on the
-- order of its writes, and the row that a write finds is the one that stood before the edit.
pub record IsCommit (commit : Commit) : Type 0 where
  pub distinct : IsDistinct (eq_by_cmp cell_cmp) (map (λ w. w.cell) commit.writes)

-- the state after an edit: its writes are made, the count of each tag that it invalidates is one greater, and so is
-- the number
unfoldable pub step : State → Commit → State
step state commit = record {
  rows = fold written state.rows commit.writes;
  counts = fold bumped state.counts (tags_of_commit state.rows commit);
  number = state.number + 1;
}

-- the state after a list of edits
unfoldable pub replay : State → List Commit → State
replay state [] = state
replay state (commit ∷ commits) = replay (step state commit) commits

-- the state of a number, where a log began at a state
unfoldable pub state_at : State → List Commit → ℕ → State
state_at base log number = replay base (take (number - base.number) log)

-- a log that has grown: the new one begins with the old one
abbrev pub Begins : List Commit → List Commit → Type 0
Begins old new = (more : List Commit) × (new ≡ old ++ more)
