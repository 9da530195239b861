-- How far the bytes of a socket reach, by what they begin with as HTTP.
use Rattle.std.specs.Prelude.{ℕ, List}
use Rattle.request_framing.specs.declared.framing.Extent.{Extent}
use Rattle.request_framing.specs.declared.framing.Extent.TheVariants.{Whole, Head, Body, Refused}
use Rattle.http_heads.specs.declared.extent.Extent.TheVariants as http
use Rattle.http_heads.specs.Extents.{Reaches}

-- a whole request of HTTP, a part of one, or what is refused
abbrev pub reaches : List ℕ → Extent → Type 0
reaches bytes (Whole size) = Reaches bytes (http.Whole size)
reaches bytes Head = Reaches bytes http.Head
reaches bytes (Body size) = Reaches bytes (http.Body size)
reaches bytes Refused = Reaches bytes http.Refused
