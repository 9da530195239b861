-- Comments and their next id: what is let through is right, what is right comes back, and what is let through is written
-- again as it was.
use Rattle.std.proofs.Common.{◌≡◌, None, refl, codes}
use Rattle.serde_json.specs.Data.{Data}
use Rattle.content_rows.specs.Kinds.{IsId}
use Rattle.content_rows.specs.ValidRow.{IsValidComment, IsValidTalk}
use Rattle.json_keys.specs.Fault.{ask_fault, is_wanted, members_in}
use Rattle.json_keys.proofs.Held.{object_fine}
use Rattle.row_kinds.specs.Look.{value_at, with_cell}
use Rattle.row_kinds.specs.Rows.{comment_in, comment_data, talk_in, talk_data, IsTypedTalk}
use Rattle.row_kinds.specs.Tables.{comment_row, talk_row, comment_keys, talk_keys}
use Rattle.row_kinds.proofs.Codec.{any, Between, ComesBack}
use Rattle.row_kinds.proofs.Keys.{zero_least, below_top, below_next, id, next_id, owner_id, moment, maybe_id}
use Rattle.row_kinds.proofs.Lists.{for_some, of_for_some}
use Rattle.row_kinds.proofs.Numbers.{flag}
use Rattle.row_kinds.proofs.Objects.{good, keeps, rebuilt, IsHeld, IsPassed}
use Rattle.row_kinds.proofs.Strings.{comment_body, uuid}
use Rattle.content_rows.specs.declared.row.Comment.{Comment}
use Rattle.content_rows.specs.declared.row.Talk.{Talk}

pub comment_right : (d : Data) → IsHeld ask_fault is_wanted comment_keys d → IsValidComment (comment_in d)
comment_right d p =
    let body_is = good p (codes "body") _ refl refl comment_body in
    let created_is = good p (codes "created") _ refl refl moment in
    let node_is = good p (codes "node") _ refl refl id in
    let parent_is = good p (codes "parent") _ refl refl maybe_id in
    let uid_is = good p (codes "uid") _ refl refl owner_id in
    let uuid_is = good p (codes "uuid") _ refl refl uuid in
    record {
      body = body_is;
      created = created_is.1;
      node = node_is;
      parent = for_some (Between 1 4294967294) IsId (λ n g. g) (comment_in d).parent parent_is;
      uid = uid_is.1;
      uuid = uuid_is;
    }

pub comment_back : (cell : Data) (x : Comment) → IsValidComment x → ComesBack comment_row comment_in (with_cell cell comment_data) x
comment_back cell x v =
    let body_back = comment_body.back x.body v.body in
    let created_back = moment.back x.created (zero_least, v.created) in
    let node_back = id.back x.node v.node in
    let parent_back = maybe_id.back x.parent (of_for_some IsId (Between 1 4294967294) (λ n g. g) x.parent v.parent) in
    let uid_back = owner_id.back x.uid (zero_least, v.uid) in
    let uuid_back = uuid.back x.uuid v.uuid in (
      object_fine ask_fault is_wanted comment_row (members_in (with_cell cell comment_data x)) (body_back.0, (refl, (created_back.0, (node_back.0, (parent_back.0, (refl, (uid_back.0, (uuid_back.0, tt)))))))) refl,
      λ i. record {
        body = body_back.1 i;
        created = created_back.1 i;
        node = node_back.1 i;
        parent = parent_back.1 i;
        status = x.status;
        uid = uid_back.1 i;
        uuid = uuid_back.1 i;
      },
    )

pub comment_kept : (d : Data) → IsPassed ask_fault is_wanted comment_row d → with_cell (value_at (codes "cell") d) comment_data (comment_in d) ≡ d
comment_kept d p =
    rebuilt p (codes "cell") _ refl refl (members_in (with_cell (value_at (codes "cell") d) comment_data (comment_in d))) refl refl (
      keeps p (codes "cell") _ refl refl any,
      (
        keeps p (codes "body") _ refl refl comment_body,
        (
          keeps p (codes "created") _ refl refl moment,
          (
            keeps p (codes "node") _ refl refl id,
            (
              keeps p (codes "parent") _ refl refl maybe_id,
              (
                keeps p (codes "status") _ refl refl flag,
                (
                  keeps p (codes "uid") _ refl refl owner_id,
                  (keeps p (codes "uuid") _ refl refl uuid, tt),
                ),
              ),
            ),
          ),
        ),
      ),
    )

pub talk_right : (d : Data) → IsHeld ask_fault is_wanted talk_keys d → IsValidTalk (talk_in d) × IsTypedTalk (talk_in d)
talk_right d p =
    let comment_is = good p (codes "comment") _ refl refl next_id in (
      record {
        comment = comment_is.0;
      },
      below_next (talk_in d).comment comment_is.1,
    )

pub talk_back : (cell : Data) (x : Talk) → IsValidTalk x → IsTypedTalk x → ComesBack talk_row talk_in (with_cell cell talk_data) x
talk_back cell x v t =
    let comment_back = next_id.back x.comment (v.comment, below_top x.comment t) in (
      object_fine ask_fault is_wanted talk_row (members_in (with_cell cell talk_data x)) (refl, (comment_back.0, tt)) refl,
      λ i. record {
        comment = comment_back.1 i;
      },
    )

pub talk_kept : (d : Data) → IsPassed ask_fault is_wanted talk_row d → with_cell (value_at (codes "cell") d) talk_data (talk_in d) ≡ d
talk_kept d p =
    rebuilt p (codes "cell") _ refl refl (members_in (with_cell (value_at (codes "cell") d) talk_data (talk_in d))) refl refl (
      keeps p (codes "cell") _ refl refl any,
      (keeps p (codes "comment") _ refl refl next_id, tt),
    )
