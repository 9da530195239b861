-- Access as a plan of reads: what is read to decide it, in this order.
use Rattle.std.specs.Prelude.{ℕ, List, Bool, true, false, not, ◌&&◌, ◌||◌, Option, Some, None, if◌then◌else◌}
use Rattle.cacheability.specs.declared.op.Op.{Op}
use Rattle.cacheability.specs.declared.op.Op.TheVariants as op
use Rattle.cacheability.specs.declared.context.Context.TheVariants as context
use Rattle.access_result.specs.declared.reason.Reason.TheVariants as reason
use Rattle.content_rows.specs.declared.row.Node.{Node}
use Rattle.content_rows.specs.declared.row.FieldRow.{FieldRow}
use Rattle.content_rows.specs.declared.permission.ViewGrants.{ViewGrants}
use Rattle.content_rows.specs.declared.permission.ViewGrants.TheVariants as view_grants
use Rattle.content_rows.specs.Permission.{has, records_of, granted}
use Rattle.content_state.specs.Viewer.{bypass_node_access, access_content, view_own_unpublished, administer_nodes}
use Rattle.content_state.specs.Read.{NodeRow, TypeRow}
use Rattle.content_state.specs.Plan.{Plan, Done, reading, asking, ◌>>=◌}
use Rattle.site_access.specs.Access.{Access, Allowed, Denied, owns, any_content, own_content, create_content, field_permission, missing, field_of_type, owner_in}

-- whether the viewer holds a permission
unfoldable pub holds : List ℕ → Plan Bool
holds permission = asking context.UserPermissions >>= λ held. Done (has held permission)

-- whether the viewer is logged in and owns what belongs to this user
unfoldable pub is_owner : ℕ → Plan Bool
is_owner uid = asking context.User >>= λ viewer. Done (owns viewer uid)

-- the rules of the node itself
abbrev pub content_rules : Op → Node → Plan Bool
content_rules op node = do
  any ← holds (any_content op node.node_type)
  owner ← is_owner node.uid
  own ← holds (own_content op node.node_type)
  Done (any || (owner && own))

abbrev pub unpublished_rule : Node → Plan Bool
unpublished_rule node = if node.status then Done false else (do
  owner ← is_owner node.uid
  own ← holds view_own_unpublished
  Done (owner && own))

unfoldable pub rules : Op → Node → Plan Bool
rules op.View node = unpublished_rule node
rules op.Update node = content_rules op.Update node
rules op.Delete node = content_rules op.Delete node

-- whether a grant record of the node names a grant of the viewer
abbrev pub grants_allow : Op → Node → ViewGrants → Bool
grants_allow op node view_grants.All = true
grants_allow op node (view_grants.These grants) = granted op (records_of node) grants

unfoldable pub grants : Op → Node → Plan Bool
grants op node = asking context.NodeGrantsView >>= λ held. Done (grants_allow op node held)

-- what the node's row says
abbrev pub by_row : Op → ℕ → Option Node → Plan Access
by_row op n None = Done (Denied (reason.Grant op n))
by_row op n (Some node) = do
  ruled ← rules op node
  granted ← grants op node
  Done (if ruled || granted then Allowed else Denied (reason.Grant op n))

-- access to a node
unfoldable pub node_access : Op → ℕ → Plan Access
node_access op n = do
  bypass ← holds bypass_node_access
  if bypass then Done Allowed else (do
    content ← holds access_content
    if not content then Done (Denied (reason.Permission access_content)) else reading (NodeRow n) >>= by_row op n)

-- access to creating a node of a type
unfoldable pub create_access : List ℕ → Plan Access
create_access type = do
  bypass ← holds bypass_node_access
  if bypass then Done Allowed else (do
    content ← holds access_content
    if not content then Done (Denied (reason.Permission access_content)) else (do
      create ← holds (create_content type)
      Done (if create then Allowed else Denied (reason.Permission (create_content type)))))

-- whether a permission is held, where one is named
abbrev pub permitted : Option (List ℕ) → Plan Bool
permitted None = Done true
permitted (Some permission) = holds permission

-- whether a field is the viewer's to use, as far as owners go: one that is for owners is the logged-in owner's, and theirs
-- who may administer nodes
abbrev pub owner_rule : ℕ → FieldRow → Plan Bool
owner_rule n field = if field.owner then (do
  node ← reading (NodeRow n)
  owner ← is_owner (owner_in node)
  administers ← holds administer_nodes
  Done (owner || administers)) else Done true

-- what the owner's rule and the permission decide: where both deny, the permission is the reason
abbrev pub field_decision : Op → FieldRow → Bool → Bool → Access
field_decision op field owned permission =
    if not permission then Denied (missing (field_permission op field))
    else (if owned then Allowed else Denied (reason.OwnerOnly field.name))

-- The owner's rule is asked in any case, so that what is read doesn't hang on who views.
abbrev pub by_field : Op → ℕ → List ℕ → Option FieldRow → Plan Access
by_field op n name None = Done (Denied (reason.OwnerOnly name))
by_field op n name (Some field) = do
  owned ← owner_rule n field
  permission ← permitted (field_permission op field)
  Done (field_decision op field owned permission)

-- access to a field of a node of that type
unfoldable pub field_access : Op → ℕ → List ℕ → List ℕ → Plan Access
field_access op n type name = reading (TypeRow type) >>= λ found. by_field op n name (field_of_type name found)
