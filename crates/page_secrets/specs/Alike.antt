-- States that are alike for a viewer: they differ in nothing but nodes that access denies the viewer to view in both,
-- values of fields that are hidden from the viewer in both, and bodies of comments that it denies the viewer to view in both.
-- https://www.drupal.org/docs/8/api/entity-api/access-on-entities
use Rattle.std.specs.Prelude.{ℕ, List, ◌≡◌, ◌⊎◌, ◌↔◌, false, Option, Some, IsTrue}
use Rattle.cacheability.specs.declared.op.Op.TheVariants as op
use Rattle.content_rows.specs.declared.cell.Cell.{Cell}
use Rattle.content_rows.specs.declared.cell.Cell.TheVariants as cell
use Rattle.content_rows.specs.declared.row.Row.{Row}
use Rattle.content_rows.specs.declared.row.Row.TheVariants as row
use Rattle.content_rows.specs.declared.row.Node.{Node}
use Rattle.content_rows.specs.declared.row.FieldValue.{FieldValue}
use Rattle.content_rows.specs.declared.row.Comment.{Comment}
use Rattle.content_state.specs.declared.ask.Ask.{Ask}
use Rattle.content_state.specs.declared.ask.Viewer.{Viewer}
use Rattle.content_state.specs.State.{State}
use Rattle.indexed_rows.specs.Rows.{row_at, user_of, InOrder}
use Rattle.content_state.specs.Viewer.{viewer_of}
use Rattle.site_access.specs.Access.{Access, access_to_node, access_to_field_of}
use Rattle.site_access.specs.Users.{is_active}
use Rattle.site_access.specs.Comments.{access_to_comment}
use Rattle.render_canvas.specs.Decision.{is_allowed}
use Rattle.render_array.specs.Nodes.{field_value}
use Rattle.render_array.specs.Shown.{IsPage}

-- a viewer of a state: nobody, or a user who is there and active
abbrev pub IsViewerOf : List (Cell × Row) → Viewer → Type 0
IsViewerOf rows viewer = (viewer.uid ≡ 0) ⊎ IsTrue (is_active (user_of rows viewer.uid))

abbrev pub IsDenied : Access → Type 0
IsDenied access = is_allowed access ≡ false

-- access denies the viewer to view the node on both rows; it has the same path on both, and may differ in all else
pub record IsHiddenNode (viewer : Viewer) (rows rows' : List (Cell × Row)) (n : ℕ) (node node' : Node) : Type 0 where
  pub denied : IsDenied (access_to_node rows viewer op.View n)
  pub denied_too : IsDenied (access_to_node rows' viewer op.View n)
  pub path : node.path ≡ node'.path

-- access denies the viewer to view the field of that name of the node on both rows
pub record IsHiddenField (viewer : Viewer) (rows rows' : List (Cell × Row)) (n : ℕ) (name : List ℕ) : Type 0 where
  pub denied : IsDenied (access_to_field_of rows viewer op.View n name)
  pub denied_too : IsDenied (access_to_field_of rows' viewer op.View n name)

-- the node with these values of its fields
abbrev pub with_fields : Node → List FieldValue → Node
with_fields node fields =
    record {
      changed = node.changed;
      created = node.created;
      fields = fields;
      grants = node.grants;
      path = node.path;
      promote = node.promote;
      refs = node.refs;
      status = node.status;
      sticky = node.sticky;
      terms = node.terms;
      title = node.title;
      node_type = node.node_type;
      uid = node.uid;
      uuid = node.uuid;
      vid = node.vid;
    }

-- it is the same but for its fields, and each of them has the same value or is hidden
pub record DiffersInHidden (viewer : Viewer) (rows rows' : List (Cell × Row)) (n : ℕ) (node node' : Node) : Type 0 where
  pub others : node' ≡ with_fields node node'.fields
  pub values : (name : List ℕ) → (field_value node name ≡ field_value node' name) ⊎ IsHiddenField viewer rows rows' n name

abbrev pub AreAlikeNodes : Viewer → List (Cell × Row) → List (Cell × Row) → ℕ → Node → Node → Type 0
AreAlikeNodes viewer rows rows' n node node' =
    IsHiddenNode viewer rows rows' n node node' ⊎ DiffersInHidden viewer rows rows' n node node'

-- what both have at a cell is one node, alike for the viewer
pub record HaveAlikeNodes (viewer : Viewer) (rows rows' : List (Cell × Row)) (c : Cell) (found found' : Option Row) : Type 0 where
  pub n : ℕ
  pub node : Node
  pub node' : Node
  pub cell_is : c ≡ cell.Node n
  pub found_is : found ≡ Some (row.Node node)
  pub found_too : found' ≡ Some (row.Node node')
  pub alike : AreAlikeNodes viewer rows rows' n node node'

-- the comment with this body
abbrev pub with_body : Comment → List ℕ → Comment
with_body comment body =
    record {
      body = body;
      created = comment.created;
      node = comment.node;
      parent = comment.parent;
      status = comment.status;
      uid = comment.uid;
      uuid = comment.uuid;
    }

-- what both have at a cell is one comment, which access denies the viewer to view on both rows; it may differ in its body
pub record HaveAlikeComments (viewer : Viewer) (rows rows' : List (Cell × Row)) (c : Cell) (found found' : Option Row) : Type 0 where
  pub k : ℕ
  pub comment : Comment
  pub comment' : Comment
  pub cell_is : c ≡ cell.Comment k
  pub found_is : found ≡ Some (row.Comment comment)
  pub found_too : found' ≡ Some (row.Comment comment')
  pub others : comment' ≡ with_body comment comment'.body
  pub denied : IsDenied (access_to_comment rows viewer op.View k)
  pub denied_too : IsDenied (access_to_comment rows' viewer op.View k)

-- at a cell both have the same row or none, or one node or one comment, alike for the viewer
abbrev pub AreAlikeAt : Viewer → List (Cell × Row) → List (Cell × Row) → Cell → Option Row → Option Row → Type 0
AreAlikeAt viewer rows rows' c found found' =
    ((found ≡ found') ⊎ HaveAlikeNodes viewer rows rows' c found found') ⊎ HaveAlikeComments viewer rows rows' c found found'

-- The viewer is one of both states. All rows are the same, but that a node which the viewer may view in neither differs in
-- all but its path, any other node in the values of fields that are hidden from the viewer in both, and a comment which
-- the viewer may view in neither in its body.
pub record AlikeFor (viewer : Viewer) (s s' : State) : Type 0 where
  pub of_one : IsViewerOf s.rows viewer
  pub of_other : IsViewerOf s'.rows viewer
  pub rows : (c : Cell) → AreAlikeAt viewer s.rows s'.rows c (row_at s.rows c) (row_at s'.rows c)

-- Whatever is asked, and whenever: where two states are alike for the viewer that the request's cookie names, a status and
-- a body are those of a page on the one exactly where they are on the other. What is told at a path of JSON is its page.
abbrev pub NothingLeaks : Type 0
NothingLeaks =
    (s s' : State) (ask : Ask) (now : ℕ)
    → InOrder s.rows → InOrder s'.rows → AlikeFor (viewer_of s.rows ask.cookie now) s s'
    → (status : ℕ) (body : List ℕ) → IsPage s.rows ask now status body ↔ IsPage s'.rows ask now status body
