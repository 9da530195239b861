-- What is told of an edit: an object of JSON, compact, its keys in the order of their bytes.
-- RFC 8259 (JSON); RFC 9110, sections 15.3.1, 15.3.2, 15.4.4, 15.5.4, 15.5.5, 15.5.10 and 15.5.21 (the codes).
use Rattle.std.specs.Prelude.{ℕ, List, [], ◌++◌, codes}
use Rattle.std.specs.Fmt.{decimal}
use Rattle.serde_json.specs.Data.{Data, number, unsigned, string, object, Members, no_members, member}
use Rattle.serde_json.specs.Written.{compact_text}
use Rattle.access_result.specs.Reason.{reason_text}
use Rattle.cacheability.specs.Tag.{tag_text}
use Rattle.content_rows.specs.CellText.{cell_text}
use Rattle.json_keys.specs.Words.{rule_word}
use Rattle.row_kinds.specs.Look.{text_data}
use Rattle.site_commands.specs.declared.answer.Done.{Done}
use Rattle.site_commands.specs.declared.answer.Done.TheVariants as done
use Rattle.site_commands.specs.declared.answer.Refusal.{Refusal}
use Rattle.site_commands.specs.declared.answer.Refusal.TheVariants as refusal

-- ---- refusals

-- an object with a code, and what else is told
abbrev pub coded : List ℕ → Members → Data
coded code more = object (member (codes "code") (string code) more)

abbrev pub told : List ℕ → Data → Members
told key value = member key value no_members

abbrev pub whole : ℕ → Data
whole n = number (unsigned n)

abbrev pub refusal_data : Refusal → Data
refusal_data refusal.Csrf = coded (codes "csrf") no_members
refusal_data refusal.NoTarget = coded (codes "no-target") no_members
refusal_data (refusal.Denied reason) = coded (codes "denied") (told (codes "reason") (text_data (reason_text reason)))
refusal_data refusal.TokenClash = coded (codes "token-clash") no_members
refusal_data (refusal.Broken field rule) =
    coded (codes "rule") (member (codes "field") (text_data field) (told (codes "rule") (string (rule_word rule))))
refusal_data (refusal.UuidTaken id) = coded (codes "uuid-taken") (told (codes "holder") (whole id))
refusal_data (refusal.Stale vid) = coded (codes "stale") (told (codes "vid") (whole vid))
refusal_data (refusal.PathTaken cell) = coded (codes "path-taken") (told (codes "holder") (text_data (cell_text cell)))
refusal_data (refusal.CountFull tag) = coded (codes "count-full") (told (codes "tag") (text_data (tag_text tag)))
refusal_data refusal.LogFull = coded (codes "log-full") no_members

unfoldable pub refusal_body : Refusal → List ℕ
refusal_body r = compact_text (refusal_data r)

-- what may not be done, what is not there, what stands against what is there, and what cannot be processed
abbrev pub refusal_status : Refusal → ℕ
refusal_status refusal.Csrf = 403
refusal_status refusal.NoTarget = 404
refusal_status (refusal.Denied reason) = 403
refusal_status refusal.TokenClash = 409
refusal_status (refusal.Broken field rule) = 422
refusal_status (refusal.UuidTaken id) = 409
refusal_status (refusal.Stale vid) = 409
refusal_status (refusal.PathTaken cell) = 409
refusal_status (refusal.CountFull tag) = 422
refusal_status refusal.LogFull = 422

-- ---- what was done

abbrev pub nid_start : List ℕ
nid_start = codes "{\"nid\":"

abbrev pub vid_between : List ℕ
vid_between = codes ",\"vid\":"

abbrev pub tid_start : List ℕ
tid_start = codes "{\"tid\":"

abbrev pub uid_start : List ℕ
uid_start = codes "{\"uid\":"

abbrev pub cid_start : List ℕ
cid_start = codes "{\"cid\":"

abbrev pub object_end : List ℕ
object_end = codes "}"

abbrev pub ok_body : List ℕ
ok_body = codes "{\"ok\":true}"

-- the id, and the version of a node; who logs in is told nothing but where the page of the user is
unfoldable pub done_body : Done → List ℕ
done_body (done.NodeCreated nid) = nid_start ++ decimal nid ++ vid_between ++ decimal 1 ++ object_end
done_body (done.NodeChanged nid vid) = nid_start ++ decimal nid ++ vid_between ++ decimal vid ++ object_end
done_body (done.TermCreated tid) = tid_start ++ decimal tid ++ object_end
done_body (done.UserCreated uid) = uid_start ++ decimal uid ++ object_end
done_body (done.CommentCreated cid) = cid_start ++ decimal cid ++ object_end
done_body done.Saved = ok_body
done_body (done.LoggedIn uid token) = []
done_body done.LoggedOut = ok_body

abbrev pub done_status : Done → ℕ
done_status (done.NodeCreated nid) = 201
done_status (done.NodeChanged nid vid) = 200
done_status (done.TermCreated tid) = 201
done_status (done.UserCreated uid) = 201
done_status (done.CommentCreated cid) = 201
done_status done.Saved = 200
done_status (done.LoggedIn uid token) = 303
done_status done.LoggedOut = 200
