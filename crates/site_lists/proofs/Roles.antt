-- A viewer's roles, without making their set.
use Rattle.std.proofs.Common.{◌≡◌, ℕ, List, [], ◌∷◌, true, false, refl, sym, ap}
use Rattle.std.proofs.Math.Path.{fun_ext}
use Rattle.std.specs.Prelude.{Bool, ◌==◌, ◌||◌, Option, if◌then◌else◌}
use Rattle.std.specs.List.{list_any}
use Rattle.std.specs.Str.{bytes_eq}
use Rattle.content_rows.specs.Permission.{anonymous, authenticated, role_names, roles_of_user, text_set}
use Rattle.content_rows.specs.declared.row.User.{User}
use Rattle.user_roles.proofs.Permitting.{any-text_set}
use Rattle.site_lists.specs.Visible.{has_role, is_met}

or_false : (a : Bool) → (a || false) ≡ a
or_false true = refl
or_false false = refl

among : (zero : Bool) (own : List (List ℕ)) (role : List ℕ)
    → (if zero then bytes_eq role anonymous else bytes_eq role authenticated || list_any (bytes_eq role) own)
    ≡ list_any (bytes_eq role) (if zero then anonymous ∷ [] else text_set (authenticated ∷ own))
among true own role = sym (or_false (bytes_eq role anonymous))
among false own role = sym (any-text_set (bytes_eq role) (authenticated ∷ own))

pub met_by_names : (uid : ℕ) (user : Option User) (roles : List (List ℕ)) → list_any (has_role uid (roles_of_user user)) roles ≡ is_met roles (role_names uid user)
met_by_names uid user roles = ap (λ f. list_any f roles) (fun_ext (λ role. among (uid == 0) (roles_of_user user) role))
