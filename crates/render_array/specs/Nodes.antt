-- What a node shows, in each of its modes, as plans of reads.
-- https://www.drupal.org/docs/drupal-apis/entity-api/display-modes-view-modes-and-form-modes
use Rattle.std.specs.Prelude.{ℕ, zero, suc, Bool, false, List, [], ◌∷◌, ◌++◌, length, ◌==◌, Option, Some, None, unwrap_or, option_map, if◌then◌else◌}
use Rattle.std.specs.Fmt.{decimal}
use Rattle.std.specs.List.{find, list_any}
use Rattle.std.specs.Str.{bytes_eq}
use Rattle.cacheability.specs.declared.op.Op.TheVariants as op
use Rattle.content_rows.specs.declared.row.Node.{Node}
use Rattle.content_rows.specs.declared.row.NodeType.{NodeType}
use Rattle.content_rows.specs.declared.row.FieldRow.{FieldRow}
use Rattle.content_rows.specs.declared.row.Term.{Term}
use Rattle.content_rows.specs.declared.row.Comment.{Comment}
use Rattle.content_rows.specs.declared.row.User.{User}
use Rattle.content_state.specs.declared.element.Hole.TheVariants as hole
use Rattle.content_state.specs.declared.element.Fragment.TheVariants as fragment
use Rattle.content_state.specs.declared.element.Mode.{Mode}
use Rattle.content_state.specs.declared.element.Mode.TheVariants as mode
use Rattle.content_state.specs.declared.element.Depth.{Depth}
use Rattle.content_state.specs.declared.element.Depth.TheVariants as depth
use Rattle.content_state.specs.declared.element.Library.TheVariants as library
use Rattle.content_state.specs.Read.{TypeRow, NodeRow, TermRow, UserRow, CommentRow, CommentsOf}
use Rattle.content_state.specs.Plan.{Plan, Done, write, escaped, attach, part, reading, each, folded, ◌>>=◌, ◌>>◌}
use Rattle.site_access.specs.Plans.{holds, node_access, field_access}
use Rattle.site_access.specs.Terms.{term_access}
use Rattle.site_access.specs.Users.{user_access}
use Rattle.site_access.specs.Comments.{access_comments, administer_comments}
use Rattle.site_comments.specs.declared.reader.CommentReader.{CommentReader}
use Rattle.site_comments.specs.Viewed.{reads_some, is_shown}
use Rattle.site_dates.specs.Dates.{date_text_of}
use Rattle.render_canvas.specs.Decision.{is_allowed}
unfoldable pub use Rattle.render_canvas.specs.Reads.{may_view_node}
use Rattle.render_array.specs.Pieces as pieces

-- whether the viewer may view a field of a node of that type, a term, a user
unfoldable pub may_view_field : ℕ → List ℕ → List ℕ → Plan Bool
may_view_field n type name = field_access op.View n type name >>= λ access. Done (is_allowed access)

unfoldable pub may_view_term : ℕ → Plan Bool
may_view_term t = term_access t >>= λ access. Done (is_allowed access)

unfoldable pub may_view_user : ℕ → Plan Bool
may_view_user u = user_access u >>= λ access. Done (is_allowed access)

-- ---- who submitted it, and when

-- a user's name, as a link to its profile
unfoldable pub linked_author : ℕ → List ℕ → Plan (Unit {0})
linked_author u name = do
  write pieces.user_link_start
  write (decimal u)
  write pieces.link_between
  escaped name
  write pieces.link_end

abbrev pub author_found : ℕ → Option User → Plan (Unit {0})
author_found u None = write pieces.anonymous_name
author_found u (Some user) = do
  allowed ← may_view_user u
  if allowed then linked_author u user.name else escaped user.name

-- the name of who owns it, linked where the viewer may view the profile; user 0 is anonymous
unfoldable pub author : ℕ → Plan (Unit {0})
author uid = if uid == 0 then write pieces.anonymous_name else reading (UserRow uid) >>= author_found uid

-- by whom it was made, and on which day
unfoldable pub by_line : ℕ → ℕ → Plan (Unit {0})
by_line uid created = do
  write pieces.by_start
  author uid
  write pieces.by_between
  write (date_text_of created)
  write pieces.paragraph_end

unfoldable pub submitted : Node → Plan (Unit {0})
submitted node = by_line node.uid node.created

abbrev pub is_submitted : Option NodeType → Bool
is_submitted None = false
is_submitted (Some type) = type.submitted

-- where its type says so
unfoldable pub submitted_if : Node → Option NodeType → Plan (Unit {0})
submitted_if node type = if is_submitted type then submitted node else Done tt

-- ---- its fields

-- the value of a field in a node, empty where it has none
abbrev pub field_value : Node → List ℕ → List ℕ
field_value node name = unwrap_or (option_map (λ f. f.value) (find (λ f. bytes_eq f.name name) node.fields)) []

-- a field: a label and a value
unfoldable pub field_shown : List ℕ → List ℕ → Plan (Unit {0})
field_shown label value = do
  write pieces.field_start
  escaped label
  write pieces.field_between
  escaped value
  write pieces.field_end

-- a field with a value that isn't empty, where it may be viewed
abbrev pub field_with : ℕ → List ℕ → FieldRow → List ℕ → Plan (Unit {0})
field_with n type field value = if length value == 0 then Done tt else (do
  allowed ← may_view_field n type field.name
  if allowed then field_shown field.label value else Done tt)

unfoldable pub field : ℕ → Node → FieldRow → Plan (Unit {0})
field n node row = field_with n node.node_type row (field_value node row.name)

-- a field that is marked for teasers
unfoldable pub teaser_field : ℕ → Node → FieldRow → Plan (Unit {0})
teaser_field n node row = if row.teaser then field n node row else Done tt

-- the fields, in the order of the node's type
abbrev pub fields : ℕ → Node → Option NodeType → Plan (Unit {0})
fields n node None = Done tt
fields n node (Some type) = each (field n node) type.fields

abbrev pub teaser_fields : ℕ → Node → Option NodeType → Plan (Unit {0})
teaser_fields n node None = Done tt
teaser_fields n node (Some type) = each (teaser_field n node) type.fields

-- ---- its terms

abbrev pub with_term : List ℕ → ℕ → Option Term → Plan (List ℕ)
with_term found t None = Done found
with_term found t (Some term) = do
  allowed ← may_view_term t
  Done (if allowed then found ++ t ∷ [] else found)

-- with one more term, where it is there and may be viewed
unfoldable pub with_viewable_term : List ℕ → ℕ → Plan (List ℕ)
with_viewable_term found t = reading (TermRow t) >>= with_term found t

abbrev pub term_named : ℕ → Option Term → Plan (Unit {0})
term_named t None = Done tt
term_named t (Some term) = do
  write pieces.term_start
  write (decimal t)
  write pieces.link_between
  escaped term.name
  write pieces.term_end

unfoldable pub term_item : ℕ → Plan (Unit {0})
term_item t = reading (TermRow t) >>= term_named t

unfoldable pub terms_shown : List ℕ → Plan (Unit {0})
terms_shown ts = do
  write pieces.terms_start
  each term_item ts
  write pieces.terms_end

-- a list of the terms that are there and may be viewed; nothing where there is none
unfoldable pub terms : Node → Plan (Unit {0})
terms node = do
  found ← folded with_viewable_term [] node.terms
  if length found == 0 then Done tt else terms_shown found

-- ---- the nodes that it refers to

unfoldable pub embedded : Depth → ℕ → Plan (Unit {0})
embedded deep n = part (hole.Fragment (fragment.Node n (mode.Embed deep)))

unfoldable pub refs : Depth → Node → Plan (Unit {0})
refs deep node = each (embedded deep) node.refs

-- the nodes that an embedded node refers to stand one deeper, down to the third
abbrev pub refs_below : Depth → Node → Plan (Unit {0})
refs_below depth.One node = refs depth.Two node
refs_below depth.Two node = refs depth.Three node
refs_below depth.Three node = Done tt

-- ---- its comments

unfoldable pub comment_text : List ℕ → Plan (Unit {0})
comment_text text = do
  write pieces.paragraph_start
  escaped text
  write pieces.paragraph_end

-- a comment: who made it and when, what it says, and below it what answers it
unfoldable pub comment_shown : (Option ℕ → Plan (Unit {0})) → ℕ × Comment → Plan (Unit {0})
comment_shown below e = do
  found ← reading (CommentRow e.0)
  write pieces.comment_start
  by_line e.1.uid e.1.created
  comment_text e.1.body
  below (Some e.0)
  write pieces.article_end

-- a comment that answers the one of that number, or none, where it may be viewed; else nothing
unfoldable pub comment_below : (Option ℕ → Plan (Unit {0})) → CommentReader → Option ℕ → ℕ × Comment → Plan (Unit {0})
comment_below below reader parent e = if is_shown reader parent e.1 then comment_shown below e else Done tt

-- those of the comments of a node that answer the one of that number, or none, by their numbers, each with those that
-- answer it: so many levels deep
unfoldable pub replies : ℕ → CommentReader → List (ℕ × Comment) → Option ℕ → Plan (Unit {0})
replies zero reader all parent = Done tt
replies (suc levels) reader all parent = each (comment_below (replies levels reader all) reader parent) all

-- the comments of a node that the viewer may view, nine levels deep: a reply stands in what it answers, where that is
-- shown; nothing where none is shown
unfoldable pub comments_shown : CommentReader → List (ℕ × Comment) → Plan (Unit {0})
comments_shown reader all = if list_any (λ e. is_shown reader None e.1) all
    then (do
      attach library.Comment
      write pieces.comments_start
      replies 9 reader all None
      write pieces.comments_end)
    else Done tt

-- the comments of a node, which are looked for where the viewer may view some comments
unfoldable pub comments_for : CommentReader → ℕ → Plan (Unit {0})
comments_for reader n = if reads_some reader then (reading (CommentsOf n) >>= comments_shown reader) else Done tt

unfoldable pub comments : ℕ → Plan (Unit {0})
comments n = do
  administers ← holds administer_comments
  accesses ← holds access_comments
  comments_for (record { administers = administers; accesses = accesses }) n

-- ---- a node in each mode

-- in full: who submitted it, its fields, its terms, the nodes that it refers to, and its comments
unfoldable pub node_full : ℕ → Node → Plan (Unit {0})
node_full n node = do
  attach library.Node
  type ← reading (TypeRow node.node_type)
  write pieces.article_start
  submitted_if node type
  fields n node type
  terms node
  refs depth.One node
  comments n
  write pieces.article_end

-- where it stands: its own path, else by its number
abbrev pub href : ℕ → Option (List ℕ) → Plan (Unit {0})
href n None = do
  write pieces.node_path
  write (decimal n)
href n (Some path) = escaped path

-- its title, as a link to it
unfoldable pub linked_title : ℕ → Node → Plan (Unit {0})
linked_title n node = do
  write pieces.teaser_start
  href n node.path
  write pieces.link_between
  escaped node.title
  write pieces.teaser_end

unfoldable pub node_teaser : ℕ → Node → Plan (Unit {0})
node_teaser n node = do
  attach library.Node
  type ← reading (TypeRow node.node_type)
  linked_title n node
  submitted_if node type
  teaser_fields n node type
  write pieces.article_end

unfoldable pub node_embed : Depth → ℕ → Node → Plan (Unit {0})
node_embed deep n node = do
  attach library.Node
  type ← reading (TypeRow node.node_type)
  linked_title n node
  teaser_fields n node type
  refs_below deep node
  write pieces.article_end

abbrev pub node_in_mode : Mode → ℕ → Node → Plan (Unit {0})
node_in_mode mode.Full n node = node_full n node
node_in_mode mode.Teaser n node = node_teaser n node
node_in_mode (mode.Embed deep) n node = node_embed deep n node

abbrev pub node_or_nothing : Mode → ℕ → Option Node → Plan (Unit {0})
node_or_nothing mode n None = Done tt
node_or_nothing mode n (Some node) = do
  allowed ← may_view_node n
  if allowed then node_in_mode mode n node else Done tt

-- a node in a mode, where it is there and may be viewed; else nothing
unfoldable pub node_shown : ℕ → Mode → Plan (Unit {0})
node_shown n mode = reading (NodeRow n) >>= node_or_nothing mode n
