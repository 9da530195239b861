-- The text of a reply (RFC 9112, section 4; RFC 9110, sections 8.3, 8.6, 10.2.1 and 10.2.2;
-- RFC 6265, section 4.1).
use Rattle.std.specs.Prelude.{ℕ, List, [], ◌∷◌, ◌++◌, ◌==◌, Bool, true, false, codes, Option, Some, None, unwrap_or}
use Rattle.std.specs.List.{list_any}
use Rattle.std.specs.Fmt.{decimal}
use Rattle.http.specs.StatusCode.{reason_phrase}
use Rattle.http_heads.specs.declared.reply.ReplyHead.{ReplyHead}
use Rattle.http_heads.specs.declared.reply.Media.{Media}
use Rattle.http_heads.specs.declared.reply.Media.TheVariants.{Html, Json}
use Rattle.http_heads.specs.declared.reply.CookieOut.{CookieOut}
use Rattle.http_heads.specs.declared.reply.CookieOut.TheVariants.{Nothing, Set, Clear}

-- a line ends in CR LF
unfoldable pub line_end : List ℕ
line_end = codes "\r\n"

unfoldable pub version_mark : List ℕ
version_mark = codes "HTTP/1.1 "

unfoldable pub space : List ℕ
space = codes " "

unfoldable pub html_line : List ℕ
html_line = codes "Content-Type: text/html; charset=UTF-8\r\n"

unfoldable pub json_line : List ℕ
json_line = codes "Content-Type: application/json\r\n"

unfoldable pub length_mark : List ℕ
length_mark = codes "Content-Length: "

unfoldable pub location_mark : List ℕ
location_mark = codes "Location: /user/"

unfoldable pub set_mark : List ℕ
set_mark = codes "Set-Cookie: SESS="

unfoldable pub set_end : List ℕ
set_end = codes "; Path=/; HttpOnly; SameSite=Lax\r\n"

unfoldable pub clear_line : List ℕ
clear_line = codes "Set-Cookie: SESS=; Path=/; Max-Age=0\r\n"

unfoldable pub allow_line : List ℕ
allow_line = codes "Allow: GET, POST, PATCH, DELETE\r\n"

unfoldable pub state_mark : List ℕ
state_mark = codes "X-Site-State: "

unfoldable pub close_line : List ℕ
close_line = codes "Connection: close\r\n"

-- the codes of replies
abbrev pub is_reply_status : ℕ → Bool
is_reply_status status =
    list_any (λ code. status == code)
    (200 ∷ 201 ∷ 303 ∷ 400 ∷ 403 ∷ 404 ∷ 405 ∷ 409 ∷ 413 ∷ 415 ∷ 422 ∷ 431 ∷ 501 ∷ 503 ∷ 507 ∷ [])

-- the phrase of a code (RFC 9110, section 15)
unfoldable pub phrase_of : ℕ → List ℕ
phrase_of status = unwrap_or (reason_phrase status) []

-- the status line
abbrev pub status_text : ℕ → List ℕ
status_text status = version_mark ++ decimal status ++ space ++ phrase_of status ++ line_end

-- the line of a field whose value ends in a number
abbrev pub number_text : List ℕ → ℕ → List ℕ
number_text mark n = mark ++ decimal n ++ line_end

-- Content-Type
abbrev pub media_text : Media → List ℕ
media_text Html = html_line
media_text Json = json_line

-- Content-Length
abbrev pub length_text : Option ℕ → List ℕ
length_text None = []
length_text (Some n) = number_text length_mark n

-- Location
abbrev pub location_text : Option ℕ → List ℕ
location_text None = []
location_text (Some user) = number_text location_mark user

-- Set-Cookie
abbrev pub cookie_text : CookieOut → List ℕ
cookie_text Nothing = []
cookie_text (Set token) = set_mark ++ token ++ set_end
cookie_text Clear = clear_line

-- Allow
abbrev pub allow_text : Bool → List ℕ
allow_text false = []
allow_text true = allow_line

-- X-Site-State
abbrev pub state_text : Option ℕ → List ℕ
state_text None = []
state_text (Some number) = number_text state_mark number

-- Connection
abbrev pub close_text : Bool → List ℕ
close_text false = []
close_text true = close_line

-- the head: the status line, the fields that apply, in this order, and the empty line
unfoldable pub head_text : ReplyHead → List ℕ
head_text head =
    status_text head.status
    ++ media_text head.media
    ++ length_text head.length
    ++ location_text head.location
    ++ cookie_text head.cookie
    ++ allow_text head.allow
    ++ state_text head.state
    ++ close_text head.close
    ++ line_end

-- the reply: its head, and then its body
abbrev pub reply_text : ReplyHead → List ℕ → List ℕ
reply_text head body = head_text head ++ body
