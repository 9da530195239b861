-- The rules that the rows of a site keep together: which rows are there, that ids to come are free, that what a row
-- names is there, that terms and comments stand in trees of nine levels at most, that a node has 1,000 comments at most, and
-- that no two rows have one universal id, name or path.
use Rattle.std.specs.Prelude.{ℕ, List, [], ◌∷◌, ◌≡◌, ◌<◌, ◌^◌, ◌⊎◌, ◌==◌, Bool, false, not, ◌&&◌, ◌||◌, nat_le, nat_lt, Option, Some, None, is_none, length, if◌then◌else◌}
use Rattle.std.specs.List.{list_any, filter}
use Rattle.std.specs.Option.{option_map_or}
use Rattle.std.specs.Ordering.{is_lt}
use Rattle.std.specs.Str.{bytes_eq}
use Rattle.std.specs.declared.cmp.Ordering.TheVariants.{Less}
use Rattle.content_rows.specs.CellOrder.{cell_cmp}
use Rattle.content_rows.specs.Permission.{anonymous, authenticated}
use Rattle.content_rows.specs.declared.cell.Cell.{Cell}
use Rattle.content_rows.specs.declared.cell.Cell.TheVariants as cell
use Rattle.content_rows.specs.declared.row.Row.{Row}
use Rattle.content_rows.specs.declared.row.Seq.{Seq}
use Rattle.content_rows.specs.declared.row.User.{User}
use Rattle.content_rows.specs.declared.row.Term.{Term}
use Rattle.content_rows.specs.declared.row.Node.{Node}
use Rattle.content_rows.specs.declared.row.Listing.{Listing}
use Rattle.content_rows.specs.declared.row.Session.{Session}
use Rattle.content_rows.specs.declared.row.Comment.{Comment}
use Rattle.content_rows.specs.declared.row.Talk.{Talk}
use Rattle.tag_counts.specs.Counts.{IsInOrder}
use Rattle.indexed_rows.specs.Texts.{text_of, is_text}
use Rattle.indexed_rows.specs.Rows.{InOrder, AreValidRows, site_of, seq_of, type_of, role_of, user_of, term_of, node_of, listing_of, session_of, comment_of, talk_of, comments_on}
use Rattle.content_state.specs.Chain.{is_longer, comes_back, parent_in, reply_in}
use Rattle.content_state.specs.declared.site_rules.SiteRule.{SiteRule}
use Rattle.content_state.specs.declared.site_rules.SiteRule.TheVariants as rule
use Rattle.content_state.specs.declared.site_rules.SiteField.{SiteField}
use Rattle.content_state.specs.declared.site_rules.SiteField.TheVariants as field
use Rattle.content_state.specs.declared.site_rules.NotASite.{NotASite}
use Rattle.content_state.specs.declared.site_rules.Refusal.{Refusal}
use Rattle.content_state.specs.declared.site_rules.Refusal.TheVariants as refusal
use Rattle.content_state.specs.declared.site_rules.Numbered.{Numbered}
use Rattle.content_state.specs.declared.site_rules.Numbered.TheVariants as numbered
use Rattle.indexed_rows.specs.declared.unique.Unique.{Unique}
use Rattle.indexed_rows.specs.declared.unique.Unique.TheVariants as unique
use Rattle.content_state.specs.State.{State}

-- the first of some rules that is broken, with the field that breaks it
abbrev pub first_broken : List (Bool × SiteRule × SiteField) → Option (SiteRule × SiteField)
first_broken [] = None
first_broken (r ∷ rs) = if r.0 then Some (r.1, r.2) else first_broken rs

-- whether a cell is of that kind and its id is not below the one that is to be given next
abbrev pub is_id_from : Numbered → ℕ → Cell → Bool
is_id_from numbered.Node next (cell.Node id) = nat_le next id
is_id_from numbered.Term next (cell.Term id) = nat_le next id
is_id_from numbered.User next (cell.User id) = nat_le next id
is_id_from numbered.Comment next (cell.Comment id) = nat_le next id
is_id_from _ next _ = false

abbrev pub has_id_from : List (Cell × Row) → Numbered → ℕ → Bool
has_id_from rows kind next = list_any (λ e. is_id_from kind next e.0) rows

-- whether a row that stands before a cell has the text already
abbrev pub taken : List (Cell × Row) → Cell → Unique → Option (List ℕ) → Bool
taken rows c what None = false
taken rows c what (Some text) = list_any (λ e. is_lt (cell_cmp e.0 c) && is_text text (text_of what e.1)) rows

-- whether what a row names is not there, where it names any
abbrev pub is_absent : {A : Type 0} → (ℕ → Option A) → Option ℕ → Bool
is_absent of None = false
is_absent of (Some id) = is_none (of id)

-- whether a comment is not there, or not on that node, where one is named
abbrev pub is_no_comment_of : List (Cell × Row) → ℕ → Option ℕ → Bool
is_no_comment_of rows node None = false
is_no_comment_of rows node (Some id) = not (option_map_or (λ c. c.node == node) (comment_of rows id) false)

-- the comments of a node of lesser ids than a comment
abbrev pub comments_before : List (Cell × Row) → ℕ → ℕ → List (ℕ × Comment)
comments_before rows node id = filter (λ e. nat_lt e.0 id) (comments_on rows node)

-- The tests of a row, in the order in which they are told of: each with the rule that is broken where it is true, and
-- what of the row breaks it.

-- each number is above every id of its kind
abbrev pub seq_tests : List (Cell × Row) → Seq → List (Bool × SiteRule × SiteField)
seq_tests rows seq =
    (has_id_from rows numbered.Node seq.node, rule.Range, field.Node)
    ∷ (has_id_from rows numbered.Term seq.term, rule.Range, field.Term)
    ∷ (has_id_from rows numbered.User seq.user, rule.Range, field.User)
    ∷ []

-- the uuid and the name are its own
abbrev pub user_tests : List (Cell × Row) → Cell → User → List (Bool × SiteRule × SiteField)
user_tests rows c user =
    (taken rows c unique.UserUuid (Some user.uuid), rule.Taken, field.Uuid)
    ∷ (taken rows c unique.UserName (Some user.name), rule.Taken, field.Name)
    ∷ []

-- its parent is none or there, its chain of parents doesn't come back to itself and has nine terms at most, and the uuid
-- is its own
abbrev pub term_tests : List (Cell × Row) → Cell → ℕ → Term → List (Bool × SiteRule × SiteField)
term_tests rows c id term =
    (is_absent (term_of rows) term.parent, rule.Absent, field.Parent)
    ∷ (comes_back (parent_in rows) (length rows) id, rule.Cycle, field.Parent)
    ∷ (is_longer (parent_in rows) 9 id, rule.Deep, field.Parent)
    ∷ (taken rows c unique.TermUuid (Some term.uuid), rule.Taken, field.Uuid)
    ∷ []

-- its type is there, its user is 0 or there, and the uuid and the path are its own
abbrev pub node_tests : List (Cell × Row) → Cell → Node → List (Bool × SiteRule × SiteField)
node_tests rows c node =
    (is_none (type_of rows node.node_type), rule.Absent, field.Type)
    ∷ (not (node.uid == 0) && is_none (user_of rows node.uid), rule.Absent, field.Uid)
    ∷ (taken rows c unique.NodeUuid (Some node.uuid), rule.Taken, field.Uuid)
    ∷ (taken rows c unique.Path node.path, rule.Taken, field.Path)
    ∷ []

abbrev pub listing_tests : List (Cell × Row) → Cell → Listing → List (Bool × SiteRule × SiteField)
listing_tests rows c listing = (taken rows c unique.Path listing.path, rule.Taken, field.Path) ∷ []

-- its user is there
abbrev pub session_tests : List (Cell × Row) → Session → List (Bool × SiteRule × SiteField)
session_tests rows session = (is_none (user_of rows session.uid), rule.Absent, field.Uid) ∷ []

-- its node is there, its user is 0 or there, its parent is none or a comment of the same node, its chain of parents doesn't come
-- back to itself and has nine comments at most, fewer than 1,000 comments of the node have lesser ids, and the uuid is its own
abbrev pub comment_tests : List (Cell × Row) → Cell → ℕ → Comment → List (Bool × SiteRule × SiteField)
comment_tests rows c id comment =
    (is_none (node_of rows comment.node), rule.Absent, field.Node)
    ∷ (not (comment.uid == 0) && is_none (user_of rows comment.uid), rule.Absent, field.Uid)
    ∷ (is_no_comment_of rows comment.node comment.parent, rule.Absent, field.Parent)
    ∷ (comes_back (reply_in rows) (length rows) id, rule.Cycle, field.Parent)
    ∷ (is_longer (reply_in rows) 9 id, rule.Deep, field.Parent)
    ∷ (nat_le 1000 (length (comments_before rows comment.node id)), rule.Many, field.Node)
    ∷ (taken rows c unique.CommentUuid (Some comment.uuid), rule.Taken, field.Uuid)
    ∷ []

-- the next id of a comment is above each of a comment
abbrev pub talk_tests : List (Cell × Row) → Talk → List (Bool × SiteRule × SiteField)
talk_tests rows talk = (has_id_from rows numbered.Comment talk.comment, rule.Range, field.Comment) ∷ []

-- the rule that a row breaks, where it is there; the ids that are next have to be there
abbrev pub seq_fault : List (Cell × Row) → Option Seq → Option (SiteRule × SiteField)
seq_fault rows None = Some (rule.Missing, field.Cell)
seq_fault rows (Some seq) = first_broken (seq_tests rows seq)

abbrev pub user_fault : List (Cell × Row) → Cell → Option User → Option (SiteRule × SiteField)
user_fault rows c None = None
user_fault rows c (Some user) = first_broken (user_tests rows c user)

abbrev pub term_fault : List (Cell × Row) → Cell → ℕ → Option Term → Option (SiteRule × SiteField)
term_fault rows c id None = None
term_fault rows c id (Some term) = first_broken (term_tests rows c id term)

abbrev pub node_fault : List (Cell × Row) → Cell → Option Node → Option (SiteRule × SiteField)
node_fault rows c None = None
node_fault rows c (Some node) = first_broken (node_tests rows c node)

abbrev pub listing_fault : List (Cell × Row) → Cell → Option Listing → Option (SiteRule × SiteField)
listing_fault rows c None = None
listing_fault rows c (Some listing) = first_broken (listing_tests rows c listing)

abbrev pub session_fault : List (Cell × Row) → Option Session → Option (SiteRule × SiteField)
session_fault rows None = None
session_fault rows (Some session) = first_broken (session_tests rows session)

abbrev pub comment_fault : List (Cell × Row) → Cell → ℕ → Option Comment → Option (SiteRule × SiteField)
comment_fault rows c id None = None
comment_fault rows c id (Some comment) = first_broken (comment_tests rows c id comment)

-- where some comment is there, the next id of a comment has to be there
abbrev pub talk_fault : List (Cell × Row) → Option Talk → Option (SiteRule × SiteField)
talk_fault rows None = first_broken ((has_id_from rows numbered.Comment 0, rule.Missing, field.Cell) ∷ [])
talk_fault rows (Some talk) = first_broken (talk_tests rows talk)

-- The rule that a cell breaks, and with what. The settings, the ids that are next and the two roles that every viewer
-- or every user has are there, and so is the next id of a comment where there are comments; of the other cells none has to be.
abbrev pub cell_fault : List (Cell × Row) → Cell → Option (SiteRule × SiteField)
cell_fault rows cell.Site = first_broken ((is_none (site_of rows), rule.Missing, field.Cell) ∷ [])
cell_fault rows cell.Seq = seq_fault rows (seq_of rows)
cell_fault rows (cell.NodeType name) = None
cell_fault rows (cell.Role name) = first_broken (
    ((bytes_eq name anonymous || bytes_eq name authenticated) && is_none (role_of rows name), rule.Missing, field.Cell)
    ∷ [])
cell_fault rows (cell.User id) = user_fault rows (cell.User id) (user_of rows id)
cell_fault rows (cell.Term id) = term_fault rows (cell.Term id) id (term_of rows id)
cell_fault rows (cell.Node id) = node_fault rows (cell.Node id) (node_of rows id)
cell_fault rows (cell.Menu name) = None
cell_fault rows (cell.Listing name) = listing_fault rows (cell.Listing name) (listing_of rows name)
cell_fault rows (cell.Block name) = None
cell_fault rows (cell.Session name) = session_fault rows (session_of rows name)
cell_fault rows (cell.Comment id) = comment_fault rows (cell.Comment id) id (comment_of rows id)
cell_fault rows cell.Talk = talk_fault rows (talk_of rows)
cell_fault rows cell.Head = None

-- no cell breaks a rule
abbrev pub MeetsSiteRules : List (Cell × Row) → Type 0
MeetsSiteRules rows = (c : Cell) → cell_fault rows c ≡ None

-- The rows are a finite map in cell order and the counts one in the order of the tags, each row is right by itself, and
-- all of them are together.
pub record IsValidState (state : State) : Type 0 where
  pub in_order : InOrder state.rows
  pub counts_in_order : IsInOrder state.counts
  pub rows : AreValidRows state.rows
  pub together : MeetsSiteRules state.rows

-- the cell that is named breaks that rule with that field, and no cell before it breaks any
pub record IsFirstFault (rows : List (Cell × Row)) (fault : NotASite) : Type 0 where
  pub broken : cell_fault rows fault.cell ≡ Some (fault.rule, fault.field)
  pub first : (c : Cell) → cell_cmp c fault.cell ≡ Less → cell_fault rows c ≡ None

-- no cell breaks a rule, and the number is too great, which is said of the cell of the head number
pub record IsTooGreat (rows : List (Cell × Row)) (number : ℕ) (fault : NotASite) : Type 0 where
  pub together : MeetsSiteRules rows
  pub great : 2 ^ 62 < number
  pub named : fault ≡ record { cell = cell.Head; rule = rule.Range; field = field.Number }

-- why rows and a number are no site
abbrev pub IsNoSite : List (Cell × Row) → ℕ → NotASite → Type 0
IsNoSite rows number fault = IsFirstFault rows fault ⊎ IsTooGreat rows number fault

-- why no site was made of rows and a number: they are none, or memory was wanting
abbrev pub IsRefusal : List (Cell × Row) → ℕ → Refusal → Type 0
IsRefusal rows number (refusal.NoSite fault) = IsNoSite rows number fault
IsRefusal rows number refusal.OutOfMemory = Unit {0}
