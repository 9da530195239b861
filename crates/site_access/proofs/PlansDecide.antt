-- Each plan of access gives the plain answer, and meets exactly what that depends on.
use Rattle.std.proofs.Common.{ℕ, List, [], ◌∷◌, ◌≡◌, Bool, true, false, ◌||◌, ◌&&◌, not, refl, sym, ap, arith, if◌then◌else◌, Option, Some, None, is_some, Contains}
use Rattle.std.specs.List.{list_any}
use Rattle.cacheability.specs.declared.op.Op.{Op}
use Rattle.cacheability.specs.declared.op.Op.TheVariants as op
use Rattle.cacheability.specs.declared.tag.Tag.{Tag}
use Rattle.cacheability.specs.declared.tag.Tag.TheVariants as tag
use Rattle.cacheability.specs.declared.context.Context.TheVariants as context
use Rattle.cacheability.specs.declared.cacheability.Cacheability.{Cacheability}
use Rattle.cacheability.specs.Cacheability.{always_same}
use Rattle.access_result.specs.declared.reason.Reason.TheVariants as reason
use Rattle.content_rows.specs.declared.cell.Cell.{Cell}
use Rattle.content_rows.specs.declared.row.Row.{Row}
use Rattle.content_rows.specs.declared.row.Node.{Node}
use Rattle.content_rows.specs.declared.row.Grant.{Grant}
use Rattle.content_rows.specs.declared.row.FieldRow.{FieldRow}
use Rattle.content_rows.specs.declared.permission.ViewGrants.TheVariants as view_grants
use Rattle.content_rows.specs.Permission.{has, records_of, granted, grants_of}
use Rattle.content_state.specs.declared.ask.Viewer.{Viewer}
use Rattle.indexed_rows.specs.Rows.{node_of, type_of, user_of}
use Rattle.content_state.specs.Read.{NodeRow, TypeRow}
use Rattle.content_state.specs.Context.{Visit}
use Rattle.content_state.specs.Viewer.{may, present_roles, view_grants_of, viewer_permissions, bypass_node_access, access_content, view_own_unpublished, administer_nodes}
use Rattle.content_state.specs.Plan.{Plan, Done, reading, asking, ◌>>=◌}
use Rattle.site_access.specs.Access.{Access, Allowed, Denied, owns, any_content, own_content, create_content, by_rules, by_grants, votes_in, access_to_node, access_to_create, holds_named, field_permission, owner_in, field_of, field_of_type, access_to_found_field}
use Rattle.site_access.specs.Plans.{holds, is_owner, rules, grants, grants_allow, content_rules, by_row, node_access, create_access, permitted, owner_rule, by_field, field_access}
use Rattle.site_access.specs.Depends.{lasting, by_permissions, asks_owner, votes_depend, votes_in_depend, node_depends, field_depends, found_field_depends}
use Rattle.site_access.proofs.SilentPlans.{Reads, reads_done, reads_next, reads_if, reads_row, reads_context, reads_again}

-- permissions, asked for first and again

pub held_with : (permission : List ℕ) (v : Visit) (tags : List Tag) → Reads (holds permission) v (lasting tags []) (may v.rows v.viewer permission) (lasting tags (context.UserPermissions ∷ []))
unfolding holds
held_with permission v tags =
    reads_next (asking context.UserPermissions) (λ held. Done (has held permission)) v _ (lasting tags (context.UserPermissions ∷ [])) _ (viewer_permissions v.rows v.viewer) (may v.rows v.viewer permission)
    (reads_context context.UserPermissions v tags [] [])
    (reads_done v (lasting tags (context.UserPermissions ∷ [])) _ _ refl)

pub first_held : (permission : List ℕ) (v : Visit) → Reads (holds permission) v always_same (may v.rows v.viewer permission) by_permissions
first_held permission v = held_with permission v []

pub held_again : (permission : List ℕ) (v : Visit) (c : Cacheability) → Contains c.contexts context.UserPermissions → Reads (holds permission) v c (may v.rows v.viewer permission) c
unfolding holds
held_again permission v c there =
    reads_next (asking context.UserPermissions) (λ held. Done (has held permission)) v c c c (viewer_permissions v.rows v.viewer) (may v.rows v.viewer permission)
    (reads_again context.UserPermissions v c there)
    (reads_done v c _ _ refl)

-- nodes

-- what was met when a node's rules were asked
abbrev rules_met : ℕ → Bool → Cacheability
rules_met n true = lasting (tag.Node n ∷ []) (context.User ∷ context.UserPermissions ∷ [])
rules_met n false = lasting (tag.Node n ∷ []) (context.UserPermissions ∷ [])

owner_read : (n uid : ℕ) (v : Visit) → Reads (is_owner uid) v (rules_met n false) (owns v.viewer.uid uid) (rules_met n true)
unfolding is_owner
owner_read n uid v =
    reads_next (asking context.User) (λ viewer. Done (owns viewer uid)) v (rules_met n false) (rules_met n true) (rules_met n true) v.viewer.uid (owns v.viewer.uid uid)
    (reads_context context.User v (tag.Node n ∷ []) [] (context.UserPermissions ∷ []))
    (reads_done v (rules_met n true) _ _ refl)

owner_with : (n uid : ℕ) (permission : List ℕ) (any : Bool) (v : Visit) → Reads (do
  owner ← is_owner uid
  own ← holds permission
  Done (any || (owner && own))) v (rules_met n false) (any || (owns v.viewer.uid uid && may v.rows v.viewer permission)) (rules_met n true)
owner_with n uid permission any v =
    reads_next (is_owner uid) _ v _ (rules_met n true) _ (owns v.viewer.uid uid) _ (owner_read n uid v)
    (reads_next (holds permission) _ v _ (rules_met n true) _ (may v.rows v.viewer permission) _ (held_again permission v (rules_met n true) (1, omega arith, refl))
    (reads_done v (rules_met n true) _ _ refl))

content_read : (o : Op) (n : ℕ) (node : Node) (v : Visit) → Reads (content_rules o node) v (rules_met n false) (may v.rows v.viewer (any_content o node.node_type) || (owns v.viewer.uid node.uid && may v.rows v.viewer (own_content o node.node_type))) (rules_met n true)
content_read o n node v =
    reads_next (holds (any_content o node.node_type)) _ v _ (rules_met n false) _ (may v.rows v.viewer (any_content o node.node_type)) _ (held_again (any_content o node.node_type) v (rules_met n false) (0, omega arith, refl))
    (owner_with n node.uid (own_content o node.node_type) (may v.rows v.viewer (any_content o node.node_type)) v)

unpublished_read : (n uid : ℕ) (status : Bool) (v : Visit) → Reads (if status then Done false else (do
  owner ← is_owner uid
  own ← holds view_own_unpublished
  Done (owner && own))) v (rules_met n false) (not status && owns v.viewer.uid uid && may v.rows v.viewer view_own_unpublished) (rules_met n (not status))
unpublished_read n uid true v = reads_done v (rules_met n false) _ _ refl
unpublished_read n uid false v = owner_with n uid view_own_unpublished false v

rules_read : (o : Op) (n : ℕ) (node : Node) (v : Visit) → Reads (rules o node) v (rules_met n false) (by_rules v.rows v.viewer o node) (rules_met n (asks_owner o node))
unfolding rules
rules_read op.View n node v = unpublished_read n node.uid node.status v
rules_read op.Update n node v = content_read op.Update n node v
rules_read op.Delete n node v = content_read op.Delete n node v

-- where access isn't bypassed, the grants held are those of the viewer and its roles
grants_without_bypass : (o : Op) (node : Node) (held : List Grant) (bypass : Bool) → bypass ≡ false → grants_allow o node (if bypass then view_grants.All else view_grants.These held) ≡ granted o (records_of node) held
grants_without_bypass o node held true absent = cc
grants_without_bypass o node held false absent = refl

pub grants_same : (rows : List (Cell × Row)) (viewer : Viewer) (o : Op) (node : Node) → may rows viewer bypass_node_access ≡ false → grants_allow o node (view_grants_of rows viewer) ≡ by_grants rows viewer o node
grants_same rows viewer o node absent =
    grants_without_bypass o node (grants_of (user_of rows viewer.uid) (present_roles rows viewer)) (may rows viewer bypass_node_access) absent

held_grants : (n : ℕ) (asks : Bool) (v : Visit) → Reads (asking context.NodeGrantsView) v (rules_met n asks) (view_grants_of v.rows v.viewer) (votes_depend n asks)
held_grants n true v =
    reads_context context.NodeGrantsView v (tag.Node n ∷ []) (context.User ∷ []) (context.UserPermissions ∷ [])
held_grants n false v = reads_context context.NodeGrantsView v (tag.Node n ∷ []) [] (context.UserPermissions ∷ [])

grants_read : (o : Op) (n : ℕ) (node : Node) (asks : Bool) (v : Visit) → may v.rows v.viewer bypass_node_access ≡ false → Reads (grants o node) v (rules_met n asks) (by_grants v.rows v.viewer o node) (votes_depend n asks)
unfolding grants
grants_read o n node asks v absent =
    reads_next (asking context.NodeGrantsView) (λ held. Done (grants_allow o node held)) v (rules_met n asks) (votes_depend n asks) (votes_depend n asks) (view_grants_of v.rows v.viewer) (by_grants v.rows v.viewer o node) (held_grants n asks v)
    (reads_done v (votes_depend n asks) _ _ (grants_same v.rows v.viewer o node absent))

any-two : (a b : Bool) → list_any (λ vote. vote) (a ∷ b ∷ []) ≡ (a || b)
any-two true b = refl
any-two false true = refl
any-two false false = refl

by_row_read : (o : Op) (n : ℕ) (found : Option Node) (v : Visit) → may v.rows v.viewer bypass_node_access ≡ false → Reads (by_row o n found) v (rules_met n false) (if list_any (λ vote. vote) (votes_in v.rows v.viewer o found) then Allowed else Denied (reason.Grant o n)) (votes_in_depend o n found)
by_row_read o n None v absent = reads_done v (rules_met n false) _ _ refl
by_row_read o n (Some node) v absent =
    let asks : Bool = asks_owner o node in
    reads_next (rules o node) _ v _ (rules_met n asks) _ (by_rules v.rows v.viewer o node) _ (rules_read o n node v)
    (reads_next (grants o node) _ v _ (votes_depend n asks) _ (by_grants v.rows v.viewer o node) _ (grants_read o n node asks v absent)
    (reads_done v (votes_depend n asks) _ _ (ap (λ (b : Bool). if b then Allowed else Denied (reason.Grant o n)) (sym (any-two (by_rules v.rows v.viewer o node) (by_grants v.rows v.viewer o node))))))

pub node_read : (o : Op) (n : ℕ) (v : Visit) → Reads (node_access o n) v always_same (access_to_node v.rows v.viewer o n) (node_depends v.rows v.viewer o n)
unfolding node_access
node_read o n v =
    reads_next (holds bypass_node_access) _ v _ by_permissions _ (may v.rows v.viewer bypass_node_access) _ (first_held bypass_node_access v)
    (reads_if (may v.rows v.viewer bypass_node_access) _ _ v by_permissions _ _ _ _ (λ _. reads_done v by_permissions _ _ refl) (λ absent.
    reads_next (holds access_content) _ v _ by_permissions _ (may v.rows v.viewer access_content) _ (held_again access_content v by_permissions (0, omega arith, refl))
    (reads_if (not (may v.rows v.viewer access_content)) _ _ v by_permissions _ _ _ _ (λ _. reads_done v by_permissions _ _ refl) (λ _.
    reads_next (reading (NodeRow n)) (by_row o n) v by_permissions (rules_met n false) _ (node_of v.rows n) _ (reads_row (NodeRow n) v [] [] (context.UserPermissions ∷ []))
    (by_row_read o n (node_of v.rows n) v absent)))))

-- creation

permission_decides : (b : Bool) (p q : Plan Access) (v : Visit) (x y : Access) → Reads p v by_permissions x by_permissions → Reads q v by_permissions y by_permissions → Reads (if b then p else q) v by_permissions (if b then x else y) by_permissions
permission_decides true p q v x y first second = first
permission_decides false p q v x y first second = second

pub create_read : (type : List ℕ) (v : Visit) → Reads (create_access type) v always_same (access_to_create v.rows v.viewer type) by_permissions
unfolding create_access
create_read type v =
    reads_next (holds bypass_node_access) _ v _ by_permissions _ (may v.rows v.viewer bypass_node_access) _ (first_held bypass_node_access v)
    (permission_decides (may v.rows v.viewer bypass_node_access) _ _ v _ _ (reads_done v by_permissions _ _ refl)
    (reads_next (holds access_content) _ v _ by_permissions _ (may v.rows v.viewer access_content) _ (held_again access_content v by_permissions (0, omega arith, refl))
    (permission_decides (not (may v.rows v.viewer access_content)) _ _ v _ _ (reads_done v by_permissions _ _ refl)
    (reads_next (holds (create_content type)) _ v _ by_permissions _ (may v.rows v.viewer (create_content type)) _ (held_again (create_content type) v by_permissions (0, omega arith, refl))
    (reads_done v by_permissions _ _ refl)))))

-- fields

owner_rule_read : (type : List ℕ) (n : ℕ) (owner : Bool) (v : Visit) → Reads (if owner then (do
  node ← reading (NodeRow n)
  owns_it ← is_owner (owner_in node)
  administers ← holds administer_nodes
  Done (owns_it || administers)) else Done true) v (lasting (tag.NodeType type ∷ []) []) (not owner || owns v.viewer.uid (owner_in (node_of v.rows n)) || may v.rows v.viewer administer_nodes) (field_depends type n false owner)
unfolding is_owner holds asking
owner_rule_read type n false v = reads_done v (lasting (tag.NodeType type ∷ []) []) _ _ refl
owner_rule_read type n true v =
    let tags = tag.NodeType type ∷ tag.Node n ∷ [] in
    let whole = field_depends type n false true in
    reads_next (reading (NodeRow n)) _ v _ (lasting tags []) _ (node_of v.rows n) _ (reads_row (NodeRow n) v (tag.NodeType type ∷ []) [] [])
    (reads_next (asking context.User) _ v _ (lasting tags (context.User ∷ [])) _ v.viewer.uid _ (reads_context context.User v tags [] [])
    (reads_next (asking context.UserPermissions) _ v _ whole _ (viewer_permissions v.rows v.viewer) _ (reads_context context.UserPermissions v tags (context.User ∷ []) [])
    (reads_done v whole _ _ refl)))

permitted_read : (type : List ℕ) (n : ℕ) (permission : Option (List ℕ)) (owner : Bool) (v : Visit) → Reads (permitted permission) v (field_depends type n false owner) (holds_named v.rows v.viewer permission) (field_depends type n (is_some permission) owner)
unfolding holds
permitted_read type n None owner v = reads_done v (field_depends type n false owner) _ _ refl
permitted_read type n (Some permission) true v =
    held_again permission v (field_depends type n true true) (1, omega arith, refl)
permitted_read type n (Some permission) false v =
    reads_next (asking context.UserPermissions) _ v _ (field_depends type n true false) _ (viewer_permissions v.rows v.viewer) _ (reads_context context.UserPermissions v (tag.NodeType type ∷ []) [] [])
    (reads_done v (field_depends type n true false) _ _ refl)

by_field_read : (o : Op) (n : ℕ) (type name : List ℕ) (found : Option FieldRow) (v : Visit) → Reads (by_field o n name found) v (lasting (tag.NodeType type ∷ []) []) (access_to_found_field v.rows v.viewer o (owner_in (node_of v.rows n)) name found) (found_field_depends o n type found)
by_field_read o n type name None v = reads_done v (lasting (tag.NodeType type ∷ []) []) _ _ refl
by_field_read o n type name (Some field) v =
    let permission = field_permission o field in
    reads_next (owner_rule n field) _ v _ (field_depends type n false field.owner) _ (not field.owner || owns v.viewer.uid (owner_in (node_of v.rows n)) || may v.rows v.viewer administer_nodes) _ (owner_rule_read type n field.owner v)
    (reads_next (permitted permission) _ v _ (field_depends type n (is_some permission) field.owner) _ (holds_named v.rows v.viewer permission) _ (permitted_read type n permission field.owner v)
    (reads_done v (field_depends type n (is_some permission) field.owner) _ _ refl))

pub field_read : (o : Op) (n : ℕ) (type name : List ℕ) (v : Visit) → Reads (field_access o n type name) v always_same (access_to_found_field v.rows v.viewer o (owner_in (node_of v.rows n)) name (field_of v.rows type name)) (found_field_depends o n type (field_of v.rows type name))
unfolding field_access
field_read o n type name v =
    reads_next (reading (TypeRow type)) _ v _ (lasting (tag.NodeType type ∷ []) []) _ (type_of v.rows type) _ (reads_row (TypeRow type) v [] [] [])
    (by_field_read o n type name (field_of_type name (type_of v.rows type)) v)
