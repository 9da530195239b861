-- Terms and users: what is let through is right.
use Rattle.std.proofs.Common.{◌≡◌, ◌≤◌, [], length, true, refl, codes, lit≤}
use Rattle.serde_json.specs.Data.{Data}
use Rattle.std.specs.Option.{ForSome}
use Rattle.content_rows.specs.Kinds.{IsId, is_line, is_text, is_uuid_byte}
use Rattle.json_keys.specs.Checked.{read_checked}
use Rattle.json_keys.specs.Fault.{ask_fault, is_wanted}
use Rattle.json_keys.specs.Order.{AllInOrder}
use Rattle.row_kinds.specs.Look.{small_in, text_in, name_in, option_in, items_in, list_in, OrNone, IsNameText}
use Rattle.row_kinds.specs.Rows.{grant_in, IsTypedGrant}
use Rattle.row_kinds.proofs.Codec.{Between}
use Rattle.row_kinds.proofs.Keys.{maybe_id, names}
use Rattle.row_kinds.proofs.Lists.{IsListOf, for_some}
use Rattle.row_kinds.proofs.Objects.{IsPassed, held, good, read_right}
use Rattle.row_kinds.proofs.PeopleLaws.{grants}
use Rattle.row_kinds.proofs.Strings.{Passes, line, body, uuid}
use Rattle.row_kinds.proofs.Utf8.{ascii_utf8, uuid_byte}
use Rattle.site_commands.specs.Right.{OfBody, IsRightNewTerm, IsRightTermPatch, IsRightNewUser, IsRightUserPatch}
use Rattle.body_kinds.specs.Bodies.{new_term_in, term_patch_in, new_user_in, user_patch_in}
use Rattle.body_kinds.specs.Tables.{new_term_keys, term_patch_keys, new_user_keys, user_patch_keys}
use Rattle.body_kinds.proofs.Said.{sent_right, checked_right}

-- ---- terms

pub empty_text : is_text [] ≡ true
empty_text = ascii_utf8 is_uuid_byte uuid_byte [] refl

new_term : (d : Data) → IsPassed ask_fault is_wanted new_term_keys d → IsRightNewTerm (new_term_in d)
new_term d p =
    let description_is = read_right text_in (Passes is_text) p (codes "description") _ refl body.right empty_text in
    let name_is = good (held p) (codes "name") _ refl refl (line 255) in
    let parent_is = read_right (option_in small_in) (OrNone (Between 1 4294967294)) p (codes "parent") _ refl maybe_id.right tt in
    let uuid_is = good (held p) (codes "uuid") _ refl refl uuid in
    record {
      description = description_is;
      name = name_is;
      parent = for_some (Between 1 4294967294) IsId (λ n g. g) (new_term_in d).parent parent_is;
      uuid = uuid_is;
    }

pub new_term_right : (d : Data) → AllInOrder d → OfBody IsRightNewTerm (read_checked new_term_in new_term_keys d)
new_term_right d o = checked_right new_term_in new_term_keys IsRightNewTerm d o (new_term d)

term_patch : (d : Data) → IsPassed ask_fault is_wanted term_patch_keys d → IsRightTermPatch (term_patch_in d)
term_patch d p =
    let description_is = sent_right p (codes "description") _ refl body in
    let name_is = sent_right p (codes "name") _ refl (line 255) in
    let parent_is = sent_right p (codes "parent") _ refl maybe_id in
    record {
      description = for_some (Passes is_text) (Passes is_text) (λ t g. g) (term_patch_in d).description description_is;
      name = for_some (Passes (is_line 255)) (Passes (is_line 255)) (λ t g. g) (term_patch_in d).name name_is;
      parent = for_some (OrNone (Between 1 4294967294)) (λ parent. ForSome parent IsId) (for_some (Between 1 4294967294) IsId (λ n g. g)) (term_patch_in d).parent parent_is;
    }

pub term_patch_right : (d : Data) → AllInOrder d → OfBody IsRightTermPatch (read_checked term_patch_in term_patch_keys d)
term_patch_right d o = checked_right term_patch_in term_patch_keys IsRightTermPatch d o (term_patch d)

-- ---- users

new_user : (d : Data) → IsPassed ask_fault is_wanted new_user_keys d → IsRightNewUser (new_user_in d)
new_user d p =
    let grants_is = read_right (λ v. list_in grant_in (items_in v)) (IsListOf 64 IsTypedGrant) p (codes "grants") _ refl grants.right (lit≤ tt, tt) in
    let name_is = good (held p) (codes "name") _ refl refl (line 60) in
    let pass_is = sent_right p (codes "pass") _ refl (line 128) in
    let roles_is = read_right (λ v. list_in name_in (items_in v)) (IsListOf 32 IsNameText) p (codes "roles") _ refl names.right (lit≤ tt, tt) in
    let uuid_is = good (held p) (codes "uuid") _ refl refl uuid in
    record {
      few_grants = grants_is.0;
      name = name_is;
      pass = for_some (Passes (is_line 128)) (Passes (is_line 128)) (λ t g. g) (new_user_in d).pass pass_is;
      few_roles = roles_is.0;
      uuid = uuid_is;
    }

pub new_user_right : (d : Data) → AllInOrder d → OfBody IsRightNewUser (read_checked new_user_in new_user_keys d)
new_user_right d o = checked_right new_user_in new_user_keys IsRightNewUser d o (new_user d)

user_patch : (d : Data) → IsPassed ask_fault is_wanted user_patch_keys d → IsRightUserPatch (user_patch_in d)
user_patch d p =
    let grants_is = sent_right p (codes "grants") _ refl grants in
    let name_is = sent_right p (codes "name") _ refl (line 60) in
    let pass_is = sent_right p (codes "pass") _ refl (line 128) in
    let roles_is = sent_right p (codes "roles") _ refl names in
    record {
      few_grants = for_some (IsListOf 64 IsTypedGrant) (λ xs. length xs ≤ 64) (λ xs g. g.0) (user_patch_in d).grants grants_is;
      name = for_some (Passes (is_line 60)) (Passes (is_line 60)) (λ t g. g) (user_patch_in d).name name_is;
      pass = for_some (Passes (is_line 128)) (Passes (is_line 128)) (λ t g. g) (user_patch_in d).pass pass_is;
      few_roles = for_some (IsListOf 32 IsNameText) (λ xs. length xs ≤ 32) (λ xs g. g.0) (user_patch_in d).roles roles_is;
    }

pub user_patch_right : (d : Data) → AllInOrder d → OfBody IsRightUserPatch (read_checked user_patch_in user_patch_keys d)
user_patch_right d o = checked_right user_patch_in user_patch_keys IsRightUserPatch d o (user_patch d)
