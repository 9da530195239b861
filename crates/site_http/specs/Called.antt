-- What a request is for: the page of its path, as one text or with its parts sent late, or an edit, by its method and path, its
-- media type and its body.
-- RFC 9110, sections 9.3.1 (GET), 15.5.6 (405) and 15.5.16 (415).
use Rattle.std.specs.Prelude.{ℕ, List, Option, Some, None, codes, if◌then◌else◌}
use Rattle.std.specs.Str.{bytes_eq}
use Rattle.content_state.specs.declared.ask.Ask.{Ask}
use Rattle.http_heads.specs.declared.request.Request.{Request}
use Rattle.edit_paths.specs.Media.{reads_of, media_fits}
use Rattle.edit_paths.specs.Paired.{paired}
use Rattle.edit_paths.specs.declared.edit.Edit.{Edit}
use Rattle.edit_bodies.specs.Bodies.{Sent, sent, sent_of}
use Rattle.site_http.specs.declared.call.Call.{Call}
use Rattle.site_http.specs.declared.call.Call.TheVariants as call
use Rattle.site_http.specs.declared.call.Reading.{Reading}
use Rattle.site_http.specs.declared.call.Reading.TheVariants as reading

-- an edit that is asked for: which one, what its body says, the value that was sent to guard the forms of a session, and from
-- where it is asked
pub record Wish : Type 0 where
  pub edit : Edit
  pub sent : Sent
  pub csrf : Option (List ℕ)

-- to read the newest state, to read the page of the path there with its parts sent late, or to change it
pub data Called : Type 0 where
  ToRead : Reading → Called
  ToLate : Called
  ToEdit : Wish → Called

-- what a request asks of the site
abbrev pub ask_of : Request → Ask
ask_of request = record { target = request.target; path = request.path; query = request.query; cookie = request.session }

unfoldable pub get : List ℕ
get = codes "GET"

-- an edit, with what its body says, where that is what the edit reads
abbrev pub called_with : Edit → Option (List ℕ) → Option Sent → Called
called_with edit csrf None = ToRead reading.BadJson
called_with edit csrf (Some said) = ToEdit (record { edit = edit; sent = said; csrf = csrf })

-- an edit, where its body is of the media type that the edit reads
abbrev pub called_by : Request → Option Edit → Called
called_by request None = ToRead reading.NoPairing
called_by request (Some edit) =
    if media_fits (reads_of edit) request.content_type
    then called_with edit request.csrf (sent (reads_of edit) request.body)
    else ToRead reading.NoMedia

-- What a request is for that doesn't ask for parts sent late: GET asks for the page of the path; another method and a path that
-- name an edit, for that edit; all others for nothing that is served.
unfoldable pub called_whole : Request → Called
called_whole request =
    if bytes_eq request.method get then ToRead reading.Page else called_by request (paired request.method request.path)

-- What a request is for: a GET that asks for parts sent late has the page of the path so.
unfoldable pub called : Request → Called
called request = if request.late then ToLate else called_whole request

-- what was read of a request, with the value that it sent to guard the forms of a session
abbrev pub called_of : Call → Option (List ℕ) → Called
called_of (call.Reading r) csrf = ToRead r
called_of (call.Edit edit body) csrf = ToEdit (record { edit = edit; sent = sent_of body; csrf = csrf })
