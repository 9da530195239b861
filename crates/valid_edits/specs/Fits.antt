-- What is to be checked of the writes of an edit, so that the state after it is valid.
use Rattle.std.specs.Prelude.{ℕ, List, [], ◌∷◌, ◌≡◌, ◌<◌, ◌≤◌, ◌==◌, Bool, true, false, not, ◌&&◌, ◌||◌, Option, Some, None, is_none, length, map, All, Contains}
use Rattle.std.specs.Str.{bytes_eq}
use Rattle.content_rows.specs.Permission.{anonymous, authenticated}
use Rattle.content_rows.specs.ValidRow.{IsValidRow}
use Rattle.content_rows.specs.declared.cell.Cell.{Cell}
use Rattle.content_rows.specs.declared.cell.Cell.TheVariants as cell
use Rattle.content_rows.specs.declared.row.Row.{Row}
use Rattle.content_rows.specs.declared.row.Row.TheVariants as row
use Rattle.content_rows.specs.declared.row.Seq.{Seq}
use Rattle.content_rows.specs.declared.row.User.{User}
use Rattle.content_rows.specs.declared.row.Term.{Term}
use Rattle.content_rows.specs.declared.row.Node.{Node}
use Rattle.content_rows.specs.declared.row.Comment.{Comment}
use Rattle.content_rows.specs.declared.row.Talk.{Talk}
use Rattle.content_state.specs.State.{State}
use Rattle.indexed_rows.specs.Write.{Write, written}
use Rattle.content_state.specs.declared.commit.Commit.{Commit}
use Rattle.content_state.specs.declared.site_rules.Numbered.{Numbered}
use Rattle.content_state.specs.declared.site_rules.Numbered.TheVariants as numbered
use Rattle.indexed_rows.specs.declared.unique.Unique.TheVariants as unique
use Rattle.indexed_rows.specs.Rows.{row_at, with_row, seq_of, type_of, user_of, term_of, node_of, comment_of, comments_on, talk_of}
use Rattle.content_state.specs.Chain.{is_longer, parent_in, reply_in}
use Rattle.content_state.specs.Replay.{step}
use Rattle.content_state.specs.SiteRules.{is_absent, is_no_comment_of, has_id_from, IsValidState}
use Rattle.valid_edits.specs.Holders.{holder, path_holder}
use Rattle.valid_edits.specs.Named.{named_cells}

-- the id of a comment that is to be given next: the first one is 1
abbrev pub next_comment : Option Talk → ℕ
next_comment None = 1
next_comment (Some talk) = talk.comment

-- the id of a kind that is to be given next
abbrev pub next_id : Numbered → Seq → Option Talk → ℕ
next_id numbered.Node seq talk = seq.node
next_id numbered.Term seq talk = seq.term
next_id numbered.User seq talk = seq.user
next_id numbered.Comment seq talk = next_comment talk

-- the id was given: it is below the one of its kind that is to be given next
pub record IsGiven (rows : List (Cell × Row)) (kind : Numbered) (id : ℕ) : Type 0 where
  pub seq : Seq
  pub there : seq_of rows ≡ Some seq
  pub below : id < next_id kind seq (talk_of rows)

-- whether a user is neither 0, which is nobody, nor there
abbrev pub is_absent_user : List (Cell × Row) → ℕ → Bool
is_absent_user rows uid = not (uid == 0) && is_none (user_of rows uid)

-- whether a role is one of the two that every viewer or every user has
abbrev pub is_locked_role : List ℕ → Bool
is_locked_role name = bytes_eq name anonymous || bytes_eq name authenticated

-- the ids that are to be given next are above all ids of their kinds
pub record SeqFits (rows : List (Cell × Row)) (seq : Seq) : Type 0 where
  pub node : has_id_from rows numbered.Node seq.node ≡ false
  pub term : has_id_from rows numbered.Term seq.term ≡ false
  pub user : has_id_from rows numbered.User seq.user ≡ false

-- the user's id was given, and no other row has its uuid or its name
pub record UserFits (rows : List (Cell × Row)) (id : ℕ) (user : User) : Type 0 where
  pub given : IsGiven rows numbered.User id
  pub uuid : holder rows (cell.User id) unique.UserUuid user.uuid ≡ None
  pub name : holder rows (cell.User id) unique.UserName user.name ≡ None

-- no chain of parents has more than nine terms
abbrev pub IsShallow : List (Cell × Row) → Type 0
IsShallow rows = (id : ℕ) → is_longer (parent_in rows) 9 id ≡ false

-- The term's id was given, its parent is there, and no other row has its uuid. With it no chain of parents, also none of
-- the terms below it, has more than nine terms; so none comes back to itself.
pub record TermFits (rows : List (Cell × Row)) (id : ℕ) (term : Term) : Type 0 where
  pub given : IsGiven rows numbered.Term id
  pub parent : is_absent (term_of rows) term.parent ≡ false
  pub shallow : IsShallow (with_row rows (cell.Term id) (row.Term term))
  pub uuid : holder rows (cell.Term id) unique.TermUuid term.uuid ≡ None

-- the node's id was given, its type is there, its user is 0 or there, and no other row has its uuid or its path
pub record NodeFits (rows : List (Cell × Row)) (id : ℕ) (node : Node) : Type 0 where
  pub given : IsGiven rows numbered.Node id
  pub node_type : is_none (type_of rows node.node_type) ≡ false
  pub owner : is_absent_user rows node.uid ≡ false
  pub uuid : holder rows (cell.Node id) unique.NodeUuid node.uuid ≡ None
  pub path : path_holder rows (cell.Node id) node.path ≡ None

-- no chain of replies has more than nine comments
abbrev pub AreShallowReplies : List (Cell × Row) → Type 0
AreShallowReplies rows = (id : ℕ) → is_longer (reply_in rows) 9 id ≡ false

-- The comment's id was given, its node is there, its user is 0 or there, and its parent is none or a comment of that node; it
-- stays on its node, and no other row has its uuid. With it no chain of replies has more than nine comments, and the node
-- has 1,000 at most.
pub record CommentFits (rows : List (Cell × Row)) (id : ℕ) (comment : Comment) : Type 0 where
  pub given : IsGiven rows numbered.Comment id
  pub node : is_none (node_of rows comment.node) ≡ false
  pub owner : is_absent_user rows comment.uid ≡ false
  pub parent : is_no_comment_of rows comment.node comment.parent ≡ false
  pub stays : (old : Comment) → comment_of rows id ≡ Some old → old.node ≡ comment.node
  pub shallow : AreShallowReplies (with_row rows (cell.Comment id) (row.Comment comment))
  pub few : length (comments_on (with_row rows (cell.Comment id) (row.Comment comment)) comment.node) ≤ 1000
  pub uuid : holder rows (cell.Comment id) unique.CommentUuid comment.uuid ≡ None

-- What is to be checked of a row that is set, besides that it is right by itself: of a listing that no other row has
-- its path, of a session that its user is there, of the id of a comment to come that no comment has it or a greater one, and
-- of the other kinds nothing.
abbrev pub Fits : List (Cell × Row) → Cell → Row → Type 0
Fits rows cell.Seq (row.Seq seq) = SeqFits rows seq
Fits rows (cell.User id) (row.User user) = UserFits rows id user
Fits rows (cell.Term id) (row.Term term) = TermFits rows id term
Fits rows (cell.Node id) (row.Node node) = NodeFits rows id node
Fits rows (cell.Listing name) (row.Listing listing) = path_holder rows (cell.Listing name) listing.path ≡ None
Fits rows (cell.Session token) (row.Session session) = is_none (user_of rows session.uid) ≡ false
Fits rows (cell.Comment id) (row.Comment comment) = CommentFits rows id comment
Fits rows cell.Talk (row.Talk talk) = has_id_from rows numbered.Comment talk.comment ≡ false
Fits rows _ _ = Unit {0}

-- Whether the row of a cell stays: the settings, the ids that are next, the users, and the two roles that every viewer or every
-- user has.
-- https://api.drupal.org/api/drupal/core%21modules%21user%21src%21RoleAccessControlHandler.php/class/RoleAccessControlHandler/10
abbrev pub is_kept : Cell → Bool
is_kept cell.Site = true
is_kept cell.Seq = true
is_kept (cell.User id) = true
is_kept (cell.Role name) = is_locked_role name
is_kept cell.Talk = true
is_kept _ = false

-- What is to be checked of cells whose rows are removed together, of which none has to have a row: each may go, and no row
-- that stays names one. So a type that a node has stays, and a term that is another's parent; a node goes with its comments,
-- and a comment with the replies to it.
-- https://api.drupal.org/api/drupal/core%21modules%21node%21src%21Form%21NodeTypeDeleteConfirm.php/class/NodeTypeDeleteConfirm/10
pub record MayGoTogether (rows : List (Cell × Row)) (cells : List Cell) : Type 0 where
  pub free : All (λ c. is_kept c ≡ false) cells
  pub unnamed : (d : Cell) (r : Row) → row_at rows d ≡ Some r → (Contains cells d → ⊥)
      → (c : Cell) → Contains (named_cells r) c → Contains cells c → ⊥

-- what is to be checked of a write: the row is right by itself and fits, or none is set and the one there may go
abbrev pub FitsOrMayGo : List (Cell × Row) → Cell → Option Row → Type 0
FitsOrMayGo rows c None = MayGoTogether rows (c ∷ [])
FitsOrMayGo rows c (Some r) = IsValidRow c r × Fits rows c r

-- the same of each of some writes, on the rows that the writes before it leave
abbrev pub AllFit : List (Cell × Row) → List Write → Type 0
AllFit rows [] = Unit {0}
AllFit rows (w ∷ ws) = FitsOrMayGo rows w.cell w.row × AllFit (written rows w) ws

-- a valid state stays valid under an edit whose writes fit
abbrev pub KeepsValid : Type 0
KeepsValid =
    (state : State) (commit : Commit) → IsValidState state → AllFit state.rows commit.writes
    → IsValidState (step state commit)

-- a valid state stays valid under an edit that removes rows, where these may go together
abbrev pub RemovalsKeepValid : Type 0
RemovalsKeepValid =
    (state : State) (commit : Commit) → IsValidState state → All (λ w. w.row ≡ None) commit.writes
    → MayGoTogether state.rows (map (λ w. w.cell) commit.writes) → IsValidState (step state commit)
