-- What is told as JSON of a node to one who may view it: of its fields and terms those that the viewer may view, and no others.
-- https://www.drupal.org/docs/8/api/entity-api/access-on-entities
use Rattle.std.specs.Prelude.{ℕ, List, [], Bool, ◌≡◌, ◌==◌, ◌&&◌, length, is_some, Option, Some, None, if◌then◌else◌}
use Rattle.std.specs.List.{filter, filter_map}
use Rattle.cacheability.specs.declared.op.Op.TheVariants as op
use Rattle.content_rows.specs.declared.cell.Cell.{Cell}
use Rattle.content_rows.specs.declared.row.Row.{Row}
use Rattle.content_rows.specs.declared.row.Node.{Node}
use Rattle.content_rows.specs.declared.row.NodeType.{NodeType}
use Rattle.content_rows.specs.declared.row.FieldRow.{FieldRow}
use Rattle.content_rows.specs.declared.row.FieldValue.{FieldValue}
use Rattle.content_state.specs.declared.ask.Ask.{Ask}
use Rattle.content_state.specs.declared.ask.Viewer.{Viewer}
use Rattle.content_state.specs.declared.entity.Entity.TheVariants as entity
use Rattle.content_state.specs.declared.route.Route.TheVariants as route
use Rattle.content_state.specs.Route.{route_of}
use Rattle.content_state.specs.Viewer.{viewer_of}
use Rattle.indexed_rows.specs.Rows.{node_of, type_of, term_of}
use Rattle.site_access.specs.Access.{Allowed, access_to_node, access_to_field_of}
use Rattle.site_access.specs.Terms.{access_to_term}
use Rattle.json_out.specs.Told.{node_json}
use Rattle.render_canvas.specs.Decision.{is_allowed}
use Rattle.render_array.specs.Nodes.{field_value}
use Rattle.render_array.specs.Shown.{IsPage}

-- the value of a field, where the viewer may view it
abbrev pub allowed_value : Bool → List ℕ → List ℕ → Option FieldValue
allowed_value allowed name value = if allowed then Some (record { name = name; value = value }) else None

-- and where it isn't empty
abbrev pub seen_value : List (Cell × Row) → Viewer → ℕ → Node → FieldRow → Option FieldValue
seen_value rows viewer n node row =
    if length (field_value node row.name) == 0
    then None
    else allowed_value (is_allowed (access_to_field_of rows viewer op.View n row.name)) row.name (field_value node row.name)

-- the values that the viewer may view, of the fields of the node's type
abbrev pub seen_values : List (Cell × Row) → Viewer → ℕ → Node → Option NodeType → List FieldValue
seen_values rows viewer n node None = []
seen_values rows viewer n node (Some type) = filter_map (seen_value rows viewer n node) type.fields

-- a term is there, and the viewer may view it
abbrev pub is_seen_term : List (Cell × Row) → Viewer → ℕ → Bool
is_seen_term rows viewer t = is_some (term_of rows t) && is_allowed (access_to_term rows viewer t)

-- Whatever is asked, and whenever: where the path leads to the JSON of a node, and the viewer may view that, the page is the
-- node's object with the values and the terms that the viewer may view.
abbrev pub HiddenIsUntold : Type 0
HiddenIsUntold =
    (rows : List (Cell × Row)) (ask : Ask) (now n : ℕ) (node : Node)
    → route_of rows ask.path ≡ route.Json (entity.Node n)
    → node_of rows n ≡ Some node
    → access_to_node rows (viewer_of rows ask.cookie now) op.View n ≡ Allowed
    → (status : ℕ) (body : List ℕ) → IsPage rows ask now status body
    → (status ≡ 200)
    × (body ≡ node_json n node (seen_values rows (viewer_of rows ask.cookie now) n node (type_of rows node.node_type)) (filter (is_seen_term rows (viewer_of rows ask.cookie now)) node.terms))
