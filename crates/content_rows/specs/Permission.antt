-- What the roles of a user give: names, permissions, grants.
-- https://www.drupal.org/docs/user_guide/en/user-concept.html, and for grants
-- https://api.drupal.org/api/drupal/core!modules!node!node.api.php/function/hook_node_grants/10
use Rattle.std.specs.Prelude.{ℕ, List, [], ◌∷◌, ◌++◌, Bool, true, false, ◌==◌, ◌&&◌, ◌||◌, nat_lt, Option, Some, None, codes, fold, if◌then◌else◌}
use Rattle.std.specs.List.{flat_map, list_any}
use Rattle.std.specs.Ordering.{nat_cmp}
use Rattle.std.specs.Cmp.Lexicographic.{slice_cmp}
use Rattle.std.specs.BTreeSet.{insert_key}
use Rattle.std.specs.Str.{bytes_eq}
use Rattle.cacheability.specs.declared.op.Op.{Op}
use Rattle.cacheability.specs.declared.op.Op.TheVariants as op
use Rattle.content_rows.specs.declared.row.Grant.{Grant}
use Rattle.content_rows.specs.declared.row.GrantRow.{GrantRow}
use Rattle.content_rows.specs.declared.row.Role.{Role}
use Rattle.content_rows.specs.declared.row.User.{User}
use Rattle.content_rows.specs.declared.row.Node.{Node}
use Rattle.content_rows.specs.declared.row.Session.{Session}
use Rattle.content_rows.specs.declared.permission.Permissions.{Permissions}
use Rattle.content_rows.specs.declared.permission.Permissions.TheVariants as permissions
use Rattle.content_rows.specs.GrantOrder.{grant_cmp}

-- the texts in their order, each once
abbrev pub text_set : List (List ℕ) → List (List ℕ)
text_set texts = fold (insert_key (slice_cmp nat_cmp)) [] texts

-- the grants in their order, each once
abbrev pub grant_set : List Grant → List Grant
grant_set grants = fold (insert_key grant_cmp) [] grants

unfoldable pub anonymous : List ℕ
anonymous = codes "anonymous"

unfoldable pub authenticated : List ℕ
authenticated = codes "authenticated"

abbrev pub roles_of_user : Option User → List (List ℕ)
roles_of_user None = []
roles_of_user (Some user) = user.roles

-- the names of a user's roles: `anonymous` alone for 0, else `authenticated` and those of the user's row
abbrev pub role_names : ℕ → Option User → List (List ℕ)
role_names uid user = if uid == 0 then anonymous ∷ [] else text_set (authenticated ∷ roles_of_user user)

-- what the present roles of a user permit: everything for user 1 and where a role is marked admin
abbrev pub permissions_of : ℕ → List Role → Permissions
permissions_of uid roles =
    if uid == 1 || list_any (λ r. r.admin) roles
    then permissions.All
    else permissions.These (text_set (flat_map (λ r. r.permissions) roles))

-- whether a permission is held
abbrev pub has : Permissions → List ℕ → Bool
has permissions.All permission = true
has (permissions.These held) permission = list_any (λ p. bytes_eq p permission) held

-- whether a session is live: it isn't over, and its user is active
abbrev pub session_live : Session → User → ℕ → Bool
session_live session user moment = nat_lt moment session.expires && user.status

unfoldable pub realm_all : List ℕ
realm_all = codes "all"

-- the one record of a published node without records of its own: everybody may view it
abbrev pub default_record : GrantRow
default_record = record { delete = false; gid = 0; realm = realm_all; update = false; view = true }

abbrev pub records_or_default : Bool → List GrantRow → List GrantRow
records_or_default published [] = if published then default_record ∷ [] else []
records_or_default published (r ∷ rs) = r ∷ rs

-- the grant records of a node
abbrev pub records_of : Node → List GrantRow
records_of node = records_or_default node.status node.grants

abbrev pub everybody : Grant
everybody = record { gid = 0; realm = realm_all }

abbrev pub grants_of_user : Option User → List Grant
grants_of_user None = []
grants_of_user (Some user) = user.grants

-- what a viewer is granted: what everybody is, and what the user's row and roles say
abbrev pub grants_of : Option User → List Role → List Grant
grants_of user roles = grant_set (everybody ∷ (grants_of_user user ++ flat_map (λ r. r.grants) roles))

-- whether a record is about an operation
abbrev pub is_about : Op → GrantRow → Bool
is_about op.View row = row.view
is_about op.Update row = row.update
is_about op.Delete row = row.delete

-- whether a record names a grant
abbrev pub names : GrantRow → Grant → Bool
names row grant = row.gid == grant.gid && bytes_eq row.realm grant.realm

-- whether a record with that operation names one of the grants
abbrev pub granted : Op → List GrantRow → List Grant → Bool
granted op records grants = list_any (λ r. is_about op r && list_any (names r) grants) records
