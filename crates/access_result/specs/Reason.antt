-- The texts of reasons.
use Rattle.std.specs.Prelude.{ℕ, List, ◌++◌, codes}
use Rattle.std.specs.Fmt.{decimal}
use Rattle.cacheability.specs.declared.op.Op.{Op}
use Rattle.cacheability.specs.declared.op.Op.TheVariants as op
use Rattle.access_result.specs.declared.reason.Reason.{Reason}
use Rattle.access_result.specs.declared.reason.Reason.TheVariants as reason

unfoldable pub permission_start : List ℕ
permission_start = codes "The '"

unfoldable pub permission_end : List ℕ
permission_end = codes "' permission is required."

unfoldable pub grant_start : List ℕ
grant_start = codes "A '"

unfoldable pub grant_between : List ℕ
grant_between = codes "' grant for node "

unfoldable pub grant_end : List ℕ
grant_end = codes " is required."

unfoldable pub owner_start : List ℕ
owner_start = codes "Only the owner may use the field '"

unfoldable pub owner_end : List ℕ
owner_end = codes "'."

unfoldable pub unrecognized : List ℕ
unrecognized = codes "Unrecognized username or password."

unfoldable pub no_session : List ℕ
no_session = codes "A session is required."

-- the name of an operation
unfoldable pub op_text : Op → List ℕ
op_text op.View = codes "view"
op_text op.Update = codes "update"
op_text op.Delete = codes "delete"

-- the text of a reason
abbrev pub reason_text : Reason → List ℕ
reason_text (reason.Permission permission) = permission_start ++ permission ++ permission_end
reason_text (reason.Grant op n) = grant_start ++ op_text op ++ grant_between ++ decimal n ++ grant_end
reason_text (reason.OwnerOnly field) = owner_start ++ field ++ owner_end
reason_text reason.Unrecognized = unrecognized
reason_text reason.NoSession = no_session
