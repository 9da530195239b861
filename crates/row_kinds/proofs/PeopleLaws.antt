-- Roles, users, sessions and grants: what is let through is right, what is right comes back, and what is let through is
-- written again as it was.
use Rattle.std.proofs.Common.{◌≡◌, List, None, option_map, refl, ap, codes}
use Rattle.serde_json.specs.Data.{Data, array}
use Rattle.content_rows.specs.Kinds.{is_permission, is_hex}
use Rattle.content_rows.specs.ValidRow.{IsValidRole, IsValidUser, IsValidSession}
use Rattle.json_keys.specs.Fault.{ask_fault, is_wanted, entry_fault, always, row_fault, columns_of, shape_fault, members_in}
use Rattle.json_keys.specs.Order.{AllInOrder}
use Rattle.json_keys.proofs.Held.{object_fine}
use Rattle.row_kinds.specs.Look.{value_at, with_cell, list_in, items_in, items_data}
use Rattle.row_kinds.specs.Rows.{grant_in, grant_data, role_in, role_data, user_in, user_data, session_in, session_data, IsTypedGrant, IsTypedRole, IsTypedUser}
use Rattle.row_kinds.specs.Tables.{role_row, user_row, session_row, role_keys, user_keys, session_keys}
use Rattle.row_kinds.proofs.Codec.{Codec, Back, any, ComesBack}
use Rattle.row_kinds.proofs.Keys.{zero_least, below_top, below_next, gid, id, moment, maybe_hex, permissions, names}
use Rattle.row_kinds.proofs.Lists.{table, IsListOf, passing, of_passing, some_passes, of_some_passes}
use Rattle.row_kinds.proofs.Numbers.{flag}
use Rattle.row_kinds.proofs.Objects.{good, keeps, rebuilt, columns_passed, held, IsHeld, IsPassed}
use Rattle.row_kinds.proofs.Strings.{line, uuid, name, hex_or_empty}
use Rattle.content_rows.specs.declared.row.Grant.{Grant}
use Rattle.content_rows.specs.declared.row.Role.{Role}
use Rattle.content_rows.specs.declared.row.User.{User}
use Rattle.content_rows.specs.declared.row.Session.{Session}
use Rattle.json_keys.specs.declared.shape.Columns.TheVariants as columns
use Rattle.json_keys.specs.declared.shape.Shape.TheVariants as shape

grant_right : (d : Data) → AllInOrder d → row_fault columns.Grant d ≡ None → IsTypedGrant (grant_in d)
grant_right d o h =
    let p = held (columns_passed columns.Grant d o h) in
    let gid_is = good p (codes "gid") _ refl refl gid in
    let realm_is = good p (codes "realm") _ refl refl name in
    (below_next (grant_in d).gid gid_is.1, realm_is)

grant_back : (x : Grant) → IsTypedGrant x → Back (row_fault columns.Grant) grant_in grant_data x
grant_back x t =
    let gid_back = gid.back x.gid (zero_least, below_top x.gid t.0) in
    let realm_back = name.back x.realm t.1 in
    (ap (option_map (λ f. f.1)) (object_fine entry_fault always (columns_of columns.Grant) (members_in (grant_data x)) (gid_back.0, (realm_back.0, tt)) refl), λ i. record { gid = gid_back.1 i; realm = realm_back.1 i })

grant_kept : (d : Data) → AllInOrder d → row_fault columns.Grant d ≡ None → grant_data (grant_in d) ≡ d
grant_kept d o h =
    let p = columns_passed columns.Grant d o h in
    rebuilt p (codes "gid") _ refl refl (members_in (grant_data (grant_in d))) refl refl (
      keeps p (codes "gid") _ refl refl gid,
      (keeps p (codes "realm") _ refl refl name, tt),
    )

grant : Codec Grant (row_fault columns.Grant) grant_in grant_data IsTypedGrant
grant = record { right = grant_right; back = grant_back; kept = grant_kept }

pub grants : Codec (List Grant) (shape_fault (shape.Table 64 columns.Grant)) (λ d. list_in grant_in (items_in d)) (λ xs. array (items_data grant_data xs)) (IsListOf 64 IsTypedGrant)
grants = table 64 columns.Grant grant

pub role_right : (d : Data) → IsHeld ask_fault is_wanted role_keys d → IsValidRole (role_in d) × IsTypedRole (role_in d)
role_right d p =
    let grants_is = good p (codes "grants") _ refl refl grants in
    let label_is = good p (codes "label") _ refl refl (line 255) in
    let permissions_is = good p (codes "permissions") _ refl refl permissions in (
      record {
        few_grants = grants_is.0;
        label = label_is;
        few_permissions = permissions_is.0;
        permissions = passing is_permission (role_in d).permissions permissions_is.1;
      },
      grants_is.1,
    )

pub role_back : (cell : Data) (x : Role) → IsValidRole x → IsTypedRole x → ComesBack role_row role_in (with_cell cell role_data) x
role_back cell x v t =
    let grants_back = grants.back x.grants (v.few_grants, t) in
    let label_back = (line 255).back x.label v.label in
    let permissions_back = permissions.back x.permissions (v.few_permissions, of_passing is_permission x.permissions v.permissions) in (
      object_fine ask_fault is_wanted role_row (members_in (with_cell cell role_data x)) (refl, (refl, (grants_back.0, (label_back.0, (permissions_back.0, tt))))) refl,
      λ i. record {
        admin = x.admin;
        grants = grants_back.1 i;
        label = label_back.1 i;
        permissions = permissions_back.1 i;
      },
    )

pub role_kept : (d : Data) → IsPassed ask_fault is_wanted role_row d → with_cell (value_at (codes "cell") d) role_data (role_in d) ≡ d
role_kept d p =
    rebuilt p (codes "cell") _ refl refl (members_in (with_cell (value_at (codes "cell") d) role_data (role_in d))) refl refl (
      keeps p (codes "cell") _ refl refl any,
      (
        keeps p (codes "admin") _ refl refl flag,
        (
          keeps p (codes "grants") _ refl refl grants,
          (
            keeps p (codes "label") _ refl refl (line 255),
            (keeps p (codes "permissions") _ refl refl permissions, tt),
          ),
        ),
      ),
    )

pub user_right : (d : Data) → IsHeld ask_fault is_wanted user_keys d → IsValidUser (user_in d) × IsTypedUser (user_in d)
user_right d p =
    let created_is = good p (codes "created") _ refl refl moment in
    let digest_is = good p (codes "digest") _ refl refl (maybe_hex 64) in
    let grants_is = good p (codes "grants") _ refl refl grants in
    let name_is = good p (codes "name") _ refl refl (line 60) in
    let roles_is = good p (codes "roles") _ refl refl names in
    let salt_is = good p (codes "salt") _ refl refl (hex_or_empty 32) in
    let uuid_is = good p (codes "uuid") _ refl refl uuid in (
      record {
        created = created_is.1;
        digest = some_passes (is_hex 64) (user_in d).digest digest_is;
        few_grants = grants_is.0;
        name = name_is;
        few_roles = roles_is.0;
        salt = salt_is;
        uuid = uuid_is;
      },
      (grants_is.1, roles_is.1),
    )

pub user_back : (cell : Data) (x : User) → IsValidUser x → IsTypedUser x → ComesBack user_row user_in (with_cell cell user_data) x
user_back cell x v t =
    let created_back = moment.back x.created (zero_least, v.created) in
    let digest_back = (maybe_hex 64).back x.digest (of_some_passes (is_hex 64) x.digest v.digest) in
    let grants_back = grants.back x.grants (v.few_grants, t.0) in
    let name_back = (line 60).back x.name v.name in
    let roles_back = names.back x.roles (v.few_roles, t.1) in
    let salt_back = (hex_or_empty 32).back x.salt v.salt in
    let uuid_back = uuid.back x.uuid v.uuid in (
      object_fine ask_fault is_wanted user_row (members_in (with_cell cell user_data x)) (refl, (created_back.0, (digest_back.0, (grants_back.0, (name_back.0, (roles_back.0, (salt_back.0, (refl, (uuid_back.0, tt))))))))) refl,
      λ i. record {
        created = created_back.1 i;
        digest = digest_back.1 i;
        grants = grants_back.1 i;
        name = name_back.1 i;
        roles = roles_back.1 i;
        salt = salt_back.1 i;
        status = x.status;
        uuid = uuid_back.1 i;
      },
    )

pub user_kept : (d : Data) → IsPassed ask_fault is_wanted user_row d → with_cell (value_at (codes "cell") d) user_data (user_in d) ≡ d
user_kept d p =
    rebuilt p (codes "cell") _ refl refl (members_in (with_cell (value_at (codes "cell") d) user_data (user_in d))) refl refl (
      keeps p (codes "cell") _ refl refl any,
      (
        keeps p (codes "created") _ refl refl moment,
        (
          keeps p (codes "digest") _ refl refl (maybe_hex 64),
          (
            keeps p (codes "grants") _ refl refl grants,
            (
              keeps p (codes "name") _ refl refl (line 60),
              (
                keeps p (codes "roles") _ refl refl names,
                (
                  keeps p (codes "salt") _ refl refl (hex_or_empty 32),
                  (
                    keeps p (codes "status") _ refl refl flag,
                    (keeps p (codes "uuid") _ refl refl uuid, tt),
                  ),
                ),
              ),
            ),
          ),
        ),
      ),
    )

pub session_right : (d : Data) → IsHeld ask_fault is_wanted session_keys d → IsValidSession (session_in d)
session_right d p =
    let expires_is = good p (codes "expires") _ refl refl moment in
    let uid_is = good p (codes "uid") _ refl refl id in
    record {
      expires = expires_is.1;
      uid = uid_is;
    }

pub session_back : (cell : Data) (x : Session) → IsValidSession x → ComesBack session_row session_in (with_cell cell session_data) x
session_back cell x v =
    let expires_back = moment.back x.expires (zero_least, v.expires) in
    let uid_back = id.back x.uid v.uid in (
      object_fine ask_fault is_wanted session_row (members_in (with_cell cell session_data x)) (refl, (expires_back.0, (uid_back.0, tt))) refl,
      λ i. record {
        expires = expires_back.1 i;
        uid = uid_back.1 i;
      },
    )

pub session_kept : (d : Data) → IsPassed ask_fault is_wanted session_row d → with_cell (value_at (codes "cell") d) session_data (session_in d) ≡ d
session_kept d p =
    rebuilt p (codes "cell") _ refl refl (members_in (with_cell (value_at (codes "cell") d) session_data (session_in d))) refl refl (
      keeps p (codes "cell") _ refl refl any,
      (
        keeps p (codes "expires") _ refl refl moment,
        (keeps p (codes "uid") _ refl refl id, tt),
      ),
    )
