-- What is told as JSON of a node, a term, a user and a listing, as plans of reads: what is read is gathered, and the text is
-- written at once. It has no places and no libraries. RFC 8259 (JSON).
use Rattle.std.specs.Prelude.{ℕ, List, [], ◌∷◌, ◌++◌, length, ◌==◌, ◌+◌, ◌-◌, take, drop, Option, Some, None, if◌then◌else◌}
use Rattle.access_result.specs.declared.reason.Reason.{Reason}
use Rattle.cacheability.specs.declared.op.Op.TheVariants as op
use Rattle.content_rows.specs.declared.row.FieldRow.{FieldRow}
use Rattle.content_rows.specs.declared.row.FieldValue.{FieldValue}
use Rattle.content_rows.specs.declared.row.Node.{Node}
use Rattle.content_rows.specs.declared.row.NodeType.{NodeType}
use Rattle.content_rows.specs.declared.row.Term.{Term}
use Rattle.content_rows.specs.declared.row.User.{User}
use Rattle.content_rows.specs.declared.row.Listing.{Listing}
use Rattle.content_state.specs.declared.entity.Entity.{Entity}
use Rattle.content_state.specs.declared.entity.Entity.TheVariants as entity
use Rattle.content_state.specs.Read.{TypeRow, NodeRow, TermRow, UserRow, ListingRow}
use Rattle.content_state.specs.Plan.{Plan, Done, write, reading, folded, ◌>>=◌, ◌>>◌}
use Rattle.site_access.specs.Access.{Access, Allowed, Denied}
use Rattle.site_access.specs.Plans.{node_access}
use Rattle.site_access.specs.Terms.{term_access}
use Rattle.site_access.specs.Users.{user_access}
use Rattle.site_access.specs.Routes.{listing_access}
use Rattle.site_lists.specs.declared.paging.Page.{Page}
use Rattle.site_lists.specs.ListingPlan.{listing_rows, asked_page}
use Rattle.site_lists.specs.Paging.{page_at, last_page}
use Rattle.json_out.specs.Told.{node_json, term_json, user_json, listing_json, denied_json, no_target_json}
use Rattle.render_canvas.specs.Reads.{by_viewer}
use Rattle.render_array.specs.Nodes.{may_view_node, may_view_field, field_value, with_viewable_term}

-- a text, and the status of what it tells
unfoldable pub told : ℕ → List ℕ → Plan ℕ
told status text = do
  write text
  Done status

unfoldable pub json_denied : Reason → Plan ℕ
json_denied reason = told 403 (denied_json reason)

unfoldable pub json_not_found : Plan ℕ
json_not_found = told 404 no_target_json

-- ---- a node

-- with the value of one more field, where it isn't empty and may be viewed
abbrev pub with_value : ℕ → List ℕ → List FieldValue → List ℕ → List ℕ → Plan (List FieldValue)
with_value n type found name value = if length value == 0 then Done found else (do
  allowed ← may_view_field n type name
  Done (if allowed then found ++ record { name = name; value = value } ∷ [] else found))

unfoldable pub with_shown_field : ℕ → Node → List FieldValue → FieldRow → Plan (List FieldValue)
with_shown_field n node found row = with_value n node.node_type found row.name (field_value node row.name)

-- the values of the fields of the node's type
abbrev pub shown_fields : ℕ → Node → Option NodeType → Plan (List FieldValue)
shown_fields n node None = Done []
shown_fields n node (Some type) = folded (with_shown_field n node) [] type.fields

abbrev pub json_node_answer : ℕ → Node → Access → Plan ℕ
json_node_answer n node Allowed = do
  type ← reading (TypeRow node.node_type)
  fields ← shown_fields n node type
  terms ← folded with_viewable_term [] node.terms
  told 200 (node_json n node fields terms)
json_node_answer n node (Denied reason) = json_denied reason

abbrev pub json_node_found : ℕ → Option Node → Plan ℕ
json_node_found n None = json_not_found
json_node_found n (Some node) = node_access op.View n >>= json_node_answer n node

unfoldable pub json_node : ℕ → Plan ℕ
json_node n = reading (NodeRow n) >>= json_node_found n

-- ---- a term, a user

abbrev pub json_term_answer : ℕ → Term → Access → Plan ℕ
json_term_answer t term Allowed = told 200 (term_json t term)
json_term_answer t term (Denied reason) = json_denied reason

abbrev pub json_term_found : ℕ → Option Term → Plan ℕ
json_term_found t None = json_not_found
json_term_found t (Some term) = term_access t >>= json_term_answer t term

unfoldable pub json_term : ℕ → Plan ℕ
json_term t = reading (TermRow t) >>= json_term_found t

abbrev pub json_user_answer : ℕ → User → Access → Plan ℕ
json_user_answer u user Allowed = told 200 (user_json u user)
json_user_answer u user (Denied reason) = json_denied reason

abbrev pub json_user_found : ℕ → Option User → Plan ℕ
json_user_found u None = json_not_found
json_user_found u (Some user) = user_access u >>= json_user_answer u user

unfoldable pub json_user : ℕ → Plan ℕ
json_user u = reading (UserRow u) >>= json_user_found u

-- ---- a listing

-- with one more node, where it is there
abbrev pub with_row : List (ℕ × Node) → ℕ → Option Node → Plan (List (ℕ × Node))
with_row found n None = Done found
with_row found n (Some node) = Done (found ++ (n, node) ∷ [])

unfoldable pub with_listed : List (ℕ × Node) → ℕ → Plan (List (ℕ × Node))
with_listed found n = reading (NodeRow n) >>= with_row found n

-- a page of so many nodes that a listing has
unfoldable pub json_listing_page : List ℕ → Page → Plan ℕ
json_listing_page ids page = do
  nodes ← folded with_listed [] (take (page.end - page.start) (drop page.start ids))
  told 200 (listing_json nodes page.number (last_page (length ids) + 1))

-- the nodes that the viewer may view, ten a page
unfoldable pub json_listing_view : Listing → Plan ℕ
json_listing_view listing = do
  by_viewer
  ids ← listing_rows may_view_node listing
  asked ← asked_page
  json_listing_page ids (page_at (length ids) asked)

abbrev pub json_listing_answer : Listing → Access → Plan ℕ
json_listing_answer listing Allowed = json_listing_view listing
json_listing_answer listing (Denied reason) = json_denied reason

abbrev pub json_listing_found : Option Listing → Plan ℕ
json_listing_found None = json_not_found
json_listing_found (Some listing) = listing_access >>= json_listing_answer listing

unfoldable pub json_listing : List ℕ → Plan ℕ
json_listing name = reading (ListingRow name) >>= json_listing_found

abbrev pub json_page : Entity → Plan ℕ
json_page (entity.Node n) = json_node n
json_page (entity.Term t) = json_term t
json_page (entity.User u) = json_user u
json_page (entity.Listing name) = json_listing name
