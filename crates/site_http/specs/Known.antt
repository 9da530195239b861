-- Requests that are known by their bytes.
use Rattle.std.specs.Prelude.{ℕ, List, ◌++◌, ◌≡◌, false, take, length}
use Rattle.http_heads.specs.declared.request.Request.{Request}
use Rattle.http_heads.specs.declared.parsed.Parsed.TheVariants.{Whole}
use Rattle.http_heads.specs.Parses.{Parses}
use Rattle.site_http.specs.declared.call.Asked.{Asked}
use Rattle.site_http.specs.declared.known.KnownRequest.{KnownRequest}
use Rattle.site_http.specs.Called.{ask_of, called, called_of}

-- bytes begin with a known request
abbrev pub Begins : KnownRequest → List ℕ → Type 0
Begins known bytes = take (length known.bytes.items) bytes ≡ known.bytes.items

-- bytes are a whole request, whatever follows them
abbrev pub IsAlone : List ℕ → Request → Type 0
IsAlone bytes request = (more : List ℕ) → Parses (bytes ++ more) (Whole request (length bytes))

-- and it doesn't ask to close
pub record IsPlain (bytes : List ℕ) (request : Request) : Type 0 where
  pub alone : IsAlone bytes request
  pub goes_on : request.closes ≡ false

-- what a request asks
pub record IsAskedBy (request : Request) (asked : Asked) : Type 0 where
  pub call : called_of asked.call asked.csrf ≡ called request
  pub ask : asked.ask ≡ ask_of request

-- A known request is a whole one that goes on, and asks what is known of it.
pub record IsKnown (known : KnownRequest) : Type 0 where
  pub request : Request
  pub plain : IsPlain known.bytes.items request
  pub asks : IsAskedBy request known.asked
