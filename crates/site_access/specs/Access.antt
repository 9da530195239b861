-- Access to nodes and to their fields: who may do what, and why not. Here it is said plainly, by votes in a set;
-- Plans.antt says the same as a plan of reads.
-- https://www.drupal.org/docs/8/api/entity-api/access-on-entities, and for grants
-- https://api.drupal.org/api/drupal/core!modules!node!node.api.php/group/node_access/10
use Rattle.std.specs.Prelude.{ℕ, List, [], ◌∷◌, ◌++◌, Bool, true, not, ◌==◌, ◌&&◌, ◌||◌, Option, Some, None, codes, if◌then◌else◌}
use Rattle.std.specs.List.{find, list_any}
use Rattle.std.specs.Str.{bytes_eq}
use Rattle.cacheability.specs.declared.op.Op.{Op}
use Rattle.cacheability.specs.declared.op.Op.TheVariants as op
use Rattle.access_result.specs.declared.reason.Reason.{Reason}
use Rattle.access_result.specs.declared.reason.Reason.TheVariants as reason
use Rattle.content_rows.specs.declared.cell.Cell.{Cell}
use Rattle.content_rows.specs.declared.row.Row.{Row}
use Rattle.content_rows.specs.declared.row.Node.{Node}
use Rattle.content_rows.specs.declared.row.NodeType.{NodeType}
use Rattle.content_rows.specs.declared.row.FieldRow.{FieldRow}
use Rattle.content_rows.specs.Permission.{records_of, grants_of, granted}
use Rattle.content_state.specs.declared.ask.Viewer.{Viewer}
use Rattle.indexed_rows.specs.Rows.{type_of, node_of, user_of}
use Rattle.content_state.specs.Viewer.{present_roles, may, bypass_node_access, access_content, view_own_unpublished, administer_nodes}

-- an answer: allowed, or denied for a reason
pub data Access : Type 0 where
  Allowed : Access
  Denied : Reason → Access

-- whether a viewer is logged in and owns what belongs to this user
abbrev pub owns : ℕ → ℕ → Bool
owns viewer uid = not (viewer == 0) && viewer == uid

-- the permission to do something to the content of a type: `edit any page content`
unfoldable pub verb_any : Op → List ℕ
verb_any op.View = codes "view any "
verb_any op.Update = codes "edit any "
verb_any op.Delete = codes "delete any "

unfoldable pub verb_own : Op → List ℕ
verb_own op.View = codes "view own "
verb_own op.Update = codes "edit own "
verb_own op.Delete = codes "delete own "

unfoldable pub content_end : List ℕ
content_end = codes " content"

abbrev pub any_content : Op → List ℕ → List ℕ
any_content op type = verb_any op ++ type ++ content_end

abbrev pub own_content : Op → List ℕ → List ℕ
own_content op type = verb_own op ++ type ++ content_end

unfoldable pub create_start : List ℕ
create_start = codes "create "

abbrev pub create_content : List ℕ → List ℕ
create_content type = create_start ++ type ++ content_end

-- The rules of the node itself: an unpublished node may be viewed by its logged-in owner, who needs a permission for
-- it; what a permission for the type allows to all, or to owners.
abbrev pub by_rules : List (Cell × Row) → Viewer → Op → Node → Bool
by_rules rows viewer op.View node =
    not node.status && owns viewer.uid node.uid && may rows viewer view_own_unpublished
by_rules rows viewer op.Update node =
    may rows viewer (any_content op.Update node.node_type)
    || (owns viewer.uid node.uid && may rows viewer (own_content op.Update node.node_type))
by_rules rows viewer op.Delete node =
    may rows viewer (any_content op.Delete node.node_type)
    || (owns viewer.uid node.uid && may rows viewer (own_content op.Delete node.node_type))

-- whether a grant record of the node names a grant of the viewer
abbrev pub by_grants : List (Cell × Row) → Viewer → Op → Node → Bool
by_grants rows viewer op node =
    granted op (records_of node) (grants_of (user_of rows viewer.uid) (present_roles rows viewer))

-- the votes for an operation on a node: one is enough
abbrev pub votes : List (Cell × Row) → Viewer → Op → Node → List Bool
votes rows viewer op node = by_rules rows viewer op node ∷ by_grants rows viewer op node ∷ []

-- a node that isn't there has no vote
abbrev pub votes_in : List (Cell × Row) → Viewer → Op → Option Node → List Bool
votes_in rows viewer op None = []
votes_in rows viewer op (Some node) = votes rows viewer op node

-- Access to a node with these votes: bypassing access allows; without `access content` it is denied; else at least one
-- vote is needed.
abbrev pub access_by : List (Cell × Row) → Viewer → Op → ℕ → List Bool → Access
access_by rows viewer op n votes =
    if may rows viewer bypass_node_access then Allowed
    else (if not (may rows viewer access_content) then Denied (reason.Permission access_content)
    else (if list_any (λ vote. vote) votes then Allowed else Denied (reason.Grant op n)))

abbrev pub access_to_row : List (Cell × Row) → Viewer → Op → ℕ → Node → Access
access_to_row rows viewer op n node = access_by rows viewer op n (votes rows viewer op node)

abbrev pub access_to_node : List (Cell × Row) → Viewer → Op → ℕ → Access
access_to_node rows viewer op n = access_by rows viewer op n (votes_in rows viewer op (node_of rows n))

-- access to creating a node of a type
abbrev pub access_to_create : List (Cell × Row) → Viewer → List ℕ → Access
access_to_create rows viewer type =
    if may rows viewer bypass_node_access then Allowed
    else (if not (may rows viewer access_content) then Denied (reason.Permission access_content)
    else (if may rows viewer (create_content type) then Allowed else Denied (reason.Permission (create_content type))))

-- whether a permission is held, where one is named
abbrev pub holds_named : List (Cell × Row) → Viewer → Option (List ℕ) → Bool
holds_named rows viewer None = true
holds_named rows viewer (Some permission) = may rows viewer permission

-- the reason of a permission that is missing
abbrev pub missing : Option (List ℕ) → Reason
missing None = reason.Permission []
missing (Some permission) = reason.Permission permission

-- the permission that viewing a field needs, or editing it
abbrev pub field_permission : Op → FieldRow → Option (List ℕ)
field_permission op.View field = field.view
field_permission op.Update field = field.edit
field_permission op.Delete field = field.edit

-- Access to a field of a node that belongs to this user: its permission is held, where it names one, and a field of
-- owners is the logged-in owner's, and theirs who may administer nodes.
abbrev pub access_to_field : List (Cell × Row) → Viewer → Op → ℕ → FieldRow → Access
access_to_field rows viewer op uid field =
    if not (holds_named rows viewer (field_permission op field)) then Denied (missing (field_permission op field))
    else (if not field.owner || owns viewer.uid uid || may rows viewer administer_nodes then Allowed
    else Denied (reason.OwnerOnly field.name))

-- the field of that name in a type, if it has one
abbrev pub field_in : NodeType → List ℕ → Option FieldRow
field_in type name = find (λ field. bytes_eq field.name name) type.fields

abbrev pub field_of_type : List ℕ → Option NodeType → Option FieldRow
field_of_type name None = None
field_of_type name (Some type) = field_in type name

-- the name of the type of a node, and its field of a name
abbrev pub type_in : Option Node → List ℕ
type_in None = []
type_in (Some node) = node.node_type

abbrev pub node_type_of : List (Cell × Row) → ℕ → List ℕ
node_type_of rows n = type_in (node_of rows n)

abbrev pub owner_in : Option Node → ℕ
owner_in None = 0
owner_in (Some node) = node.uid

abbrev pub field_of : List (Cell × Row) → List ℕ → List ℕ → Option FieldRow
field_of rows type name = field_of_type name (type_of rows type)

abbrev pub access_to_found_field : List (Cell × Row) → Viewer → Op → ℕ → List ℕ → Option FieldRow → Access
access_to_found_field rows viewer op uid name None = Denied (reason.OwnerOnly name)
access_to_found_field rows viewer op uid name (Some field) = access_to_field rows viewer op uid field

-- access to the field of that name of a node
abbrev pub access_to_field_of : List (Cell × Row) → Viewer → Op → ℕ → List ℕ → Access
access_to_field_of rows viewer op n name =
    access_to_found_field rows viewer op (owner_in (node_of rows n)) name (field_of rows (node_type_of rows n) name)
