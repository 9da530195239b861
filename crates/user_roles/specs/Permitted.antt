-- What roles permit, said without sets.
-- https://www.drupal.org/docs/user_guide/en/user-concept.html
use Rattle.std.specs.Prelude.{ℕ, List, Bool, ◌==◌, ◌||◌}
use Rattle.std.specs.List.{list_any}
use Rattle.std.specs.Str.{bytes_eq}
use Rattle.content_rows.specs.declared.row.Role.{Role}

-- whether a role permits this: it is marked admin, or it lists the permission
abbrev pub permits : List ℕ → Role → Bool
permits permission role = role.admin || list_any (λ p. bytes_eq p permission) role.permissions

-- whether a user of these roles may: user 1 may everything, another user what one of the roles permits
abbrev pub is_permitted : ℕ → List Role → List ℕ → Bool
is_permitted uid roles permission = uid == 1 || list_any (permits permission) roles
