-- What a whole head says: the fields of the request that is made of it.
use Rattle.std.specs.Prelude.{ℕ, suc, zero, List, ◌≡◌, ◌==◌, ◌||◌, ◌&&◌, Bool, codes}
use Rattle.std.specs.Str.{bytes_eq}
use Rattle.httparse.specs.Grammar.{RequestHead}
use Rattle.http_heads.specs.declared.request.Request.{Request}
use Rattle.http_heads.specs.declared.request.Version.{Version}
use Rattle.http_heads.specs.declared.request.Version.TheVariants as version
use Rattle.http_heads.specs.Target.{path_of, query_of}
use Rattle.http_heads.specs.Fields.{fields_of, first_value, asks_close, asks_late, content_type, csrf_token}
use Rattle.http_heads.specs.Cookies.{token_of, NamesSession}

-- the version of a minor number (RFC 9112, section 2.3)
abbrev pub version_of : ℕ → Version
version_of zero = version.Http10
version_of (suc n) = version.Http11

unfoldable pub get : List ℕ
get = codes "GET"

-- parts of the page are to be sent late, by the method and the fields
abbrev pub late_by : List ℕ → List (List ℕ × List ℕ) → Bool
late_by method fields = bytes_eq method get && asks_late fields

-- the connection is to close after the reply, by the minor version and the fields
-- (RFC 9112, section 9.6), or since parts of the page are to be sent late, which the end of the
-- connection ends
abbrev pub closes_by : ℕ → List ℕ → List (List ℕ × List ℕ) → Bool
closes_by minor method fields = (minor == 0) || (asks_close fields || late_by method fields)

-- each part of the request but its body is what the head says
pub record IsRequestOf (head : RequestHead) (request : Request) : Type 0 where
  pub method : request.method ≡ head.method
  pub target : request.target ≡ head.target
  pub path : request.path ≡ path_of head.target
  pub query : request.query ≡ query_of head.target
  pub version : request.version ≡ version_of head.minor
  pub closes : request.closes ≡ closes_by head.minor head.method (fields_of head)
  pub late : request.late ≡ late_by head.method (fields_of head)
  pub content_type : request.content_type ≡ first_value content_type (fields_of head)
  pub csrf : request.csrf ≡ first_value csrf_token (fields_of head)
  pub session : NamesSession (token_of (fields_of head)) request.session
