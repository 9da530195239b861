-- Access to viewing a user's profile: plainly, as a plan of reads, and what it depends on.
-- https://api.drupal.org/api/drupal/core!modules!user!src!UserAccessControlHandler.php/class/UserAccessControlHandler/10
use Rattle.std.specs.Prelude.{ℕ, List, [], ◌∷◌, Bool, false, ◌&&◌, ◌||◌, Option, Some, None, codes, if◌then◌else◌}
use Rattle.cacheability.specs.declared.tag.Tag.TheVariants as tag
use Rattle.cacheability.specs.declared.context.Context.TheVariants as context
use Rattle.cacheability.specs.declared.cacheability.Cacheability.{Cacheability}
use Rattle.access_result.specs.declared.reason.Reason.TheVariants as reason
use Rattle.content_rows.specs.declared.cell.Cell.{Cell}
use Rattle.content_rows.specs.declared.row.Row.{Row}
use Rattle.content_rows.specs.declared.row.User.{User}
use Rattle.content_state.specs.declared.ask.Viewer.{Viewer}
use Rattle.indexed_rows.specs.Rows.{user_of}
use Rattle.content_state.specs.Viewer.{may}
use Rattle.content_state.specs.Read.{UserRow}
use Rattle.content_state.specs.Context.{Visit}
use Rattle.content_state.specs.Plan.{Plan, Done, reading, ◌>>=◌}
use Rattle.site_access.specs.Access.{Access, Allowed, Denied, owns}
use Rattle.site_access.specs.Plans.{holds, is_owner}
use Rattle.site_access.specs.Depends.{lasting}
use Rattle.site_access.specs.Laws.{GivesOnly}
use Rattle.site_access.specs.Exact.{DecidesExactly}

unfoldable pub access_user_profiles : List ℕ
access_user_profiles = codes "access user profiles"

unfoldable pub administer_users : List ℕ
administer_users = codes "administer users"

abbrev pub is_active : Option User → Bool
is_active None = false
is_active (Some user) = user.status

-- an active user's profile needs `access user profiles`, any other's `administer users`
abbrev pub user_permission : Bool → List ℕ
user_permission active = if active then access_user_profiles else administer_users

-- who may access profiles views each active user's, who administers users each user's
abbrev pub permitted_profile : Bool → Bool → Bool → Bool
permitted_profile active profiles administers = (active && profiles) || administers

-- where no permission allows it, being that user does
abbrev pub own_decision : Bool → Bool → Access
own_decision active own = if own then Allowed else Denied (reason.Permission (user_permission active))

abbrev pub is_permitted_profile : List (Cell × Row) → Viewer → ℕ → Bool
is_permitted_profile rows viewer u =
    permitted_profile (is_active (user_of rows u)) (may rows viewer access_user_profiles) (may rows viewer administer_users)

abbrev pub access_to_user : List (Cell × Row) → Viewer → ℕ → Access
access_to_user rows viewer u =
    if is_permitted_profile rows viewer u then Allowed else own_decision (is_active (user_of rows u)) (owns viewer.uid u)

-- the plan of it
unfoldable pub user_access : ℕ → Plan Access
user_access u = do
  found ← reading (UserRow u)
  profiles ← holds access_user_profiles
  administers ← holds administer_users
  if permitted_profile (is_active found) profiles administers then Done Allowed else (do
    own ← is_owner u
    Done (own_decision (is_active found) own))

-- exactly what it depends on: on who views only where no permission decides
abbrev pub profile_depends : ℕ → Bool → Cacheability
profile_depends u permitted =
    if permitted then lasting (tag.User u ∷ []) (context.UserPermissions ∷ [])
    else lasting (tag.User u ∷ []) (context.User ∷ context.UserPermissions ∷ [])

abbrev pub user_depends : List (Cell × Row) → Viewer → ℕ → Cacheability
user_depends rows viewer u = profile_depends u (is_permitted_profile rows viewer u)

abbrev pub UserAccessIsExact : Type 0
UserAccessIsExact =
    (u : ℕ) (v : Visit)
    → DecidesExactly (user_access u) v (access_to_user v.rows v.viewer u) (user_depends v.rows v.viewer u)

abbrev pub UserPlanAnswers : Type 0
UserPlanAnswers = (u : ℕ) (v : Visit) → GivesOnly (user_access u) v (access_to_user v.rows v.viewer u)
