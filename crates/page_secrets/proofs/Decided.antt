-- Access, by what a viewer is permitted and granted.
use Rattle.std.proofs.Common.{◌≡◌, ℕ, List, [], ◌∷◌, true, false, refl, ap}
use Rattle.std.specs.Prelude.{Bool, ◌&&◌, ◌||◌, not, Option, Some, None, if◌then◌else◌}
use Rattle.std.specs.List.{list_any}
use Rattle.cacheability.specs.declared.op.Op.TheVariants as op
use Rattle.access_result.specs.declared.reason.Reason.TheVariants as reason
use Rattle.content_rows.specs.Permission.{has, records_of, granted, grants_of}
use Rattle.content_rows.specs.declared.cell.Cell.{Cell}
use Rattle.content_rows.specs.declared.row.Row.{Row}
use Rattle.content_rows.specs.declared.row.Grant.{Grant}
use Rattle.content_rows.specs.declared.row.Node.{Node}
use Rattle.content_rows.specs.declared.row.FieldRow.{FieldRow}
use Rattle.content_rows.specs.declared.permission.Permissions.{Permissions}
use Rattle.content_state.specs.declared.ask.Viewer.{Viewer}
use Rattle.indexed_rows.specs.Rows.{user_of}
use Rattle.content_state.specs.Viewer.{present_roles, viewer_permissions, may, bypass_node_access, access_content, view_own_unpublished, administer_nodes}
use Rattle.site_access.specs.Access.{Access, Allowed, Denied, owns, votes_in, holds_named, access_to_found_field, missing}
use Rattle.render_canvas.specs.Decision.{is_allowed}

-- what permissions and votes decide of viewing a node
abbrev pub decided : ℕ → Permissions → List Bool → Access
decided n held votes =
    if has held bypass_node_access then Allowed
    else (if not (has held access_content) then Denied (reason.Permission access_content)
    else (if list_any (λ vote. vote) votes then Allowed else Denied (reason.Grant op.View n)))

abbrev pub votes_by : Viewer → Permissions → List Grant → Option Node → List Bool
votes_by viewer held grants None = []
votes_by viewer held grants (Some node) =
    (not node.status && owns viewer.uid node.uid && has held view_own_unpublished)
    ∷ granted op.View (records_of node) grants
    ∷ []

-- the plain definitions say the same
pub as_votes : (rows : List (Cell × Row)) (viewer : Viewer) (found : Option Node)
    → votes_in rows viewer op.View found ≡ votes_by viewer (viewer_permissions rows viewer) (grants_of (user_of rows viewer.uid) (present_roles rows viewer)) found
as_votes rows viewer None = refl
as_votes rows viewer (Some node) = refl

-- where both deny, they deny for one reason
denied_by : (n : ℕ) (bypass content vote vote' : Bool)
    → is_allowed (if bypass then Allowed else (if not content then Denied (reason.Permission access_content) else (if vote then Allowed else Denied (reason.Grant op.View n)))) ≡ false
    → is_allowed (if bypass then Allowed else (if not content then Denied (reason.Permission access_content) else (if vote' then Allowed else Denied (reason.Grant op.View n)))) ≡ false
    → (if bypass then Allowed else (if not content then Denied (reason.Permission access_content) else (if vote then Allowed else Denied (reason.Grant op.View n))))
    ≡ (if bypass then Allowed else (if not content then Denied (reason.Permission access_content) else (if vote' then Allowed else Denied (reason.Grant op.View n))))
denied_by n true content vote vote' denied denied' = refl
denied_by n false false vote vote' denied denied' = refl
denied_by n false true false false denied denied' = refl
denied_by n false true true vote' denied denied' = cc
denied_by n false true false true denied denied' = cc

pub both_denied : (n : ℕ) (held : Permissions) (votes votes' : List Bool)
    → is_allowed (decided n held votes) ≡ false → is_allowed (decided n held votes') ≡ false → decided n held votes ≡ decided n held votes'
both_denied n held votes votes' =
    denied_by n (has held bypass_node_access) (has held access_content) (list_any (λ vote. vote) votes) (list_any (λ vote. vote) votes')

-- what permissions decide of viewing a field
abbrev holds_with : Permissions → Option (List ℕ) → Bool
holds_with held None = true
holds_with held (Some permission) = has held permission

abbrev pub field_by : Viewer → Permissions → ℕ → List ℕ → Option FieldRow → Access
field_by viewer held uid name None = Denied (reason.OwnerOnly name)
field_by viewer held uid name (Some field) =
    if not (holds_with held field.view) then Denied (missing field.view)
    else (if not field.owner || owns viewer.uid uid || has held administer_nodes then Allowed else Denied (reason.OwnerOnly field.name))

as_holds : (rows : List (Cell × Row)) (viewer : Viewer) (permission : Option (List ℕ)) → holds_named rows viewer permission ≡ holds_with (viewer_permissions rows viewer) permission
as_holds rows viewer None = refl
as_holds rows viewer (Some permission) = refl

pub as_field : (rows : List (Cell × Row)) (viewer : Viewer) (uid : ℕ) (name : List ℕ) (found : Option FieldRow)
    → access_to_found_field rows viewer op.View uid name found ≡ field_by viewer (viewer_permissions rows viewer) uid name found
as_field rows viewer uid name None = refl
as_field rows viewer uid name (Some field) =
    ap (λ b. if not b then Denied (missing field.view) else (if not field.owner || owns viewer.uid uid || may rows viewer administer_nodes then Allowed else Denied (reason.OwnerOnly field.name)))
    (as_holds rows viewer field.view)
