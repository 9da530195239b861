-- What a request asks for is read from its target: the path and the query (RFC 3986, sections 2.1, 3.3 and 3.4).
use Rattle.std.specs.Prelude.{ℕ, List, [], Bool, ◌≡◌, ◌==◌, ◌+◌, Option, Some, None, position, take, drop}
use Rattle.percent_encoding.specs.Percent.{percent_decode}
use Rattle.content_state.specs.declared.ask.Ask.{Ask}

-- a question mark
abbrev pub is_question : ℕ → Bool
is_question b = b == 63

-- what stands before the place, or all
abbrev pub cut_before : List ℕ → Option ℕ → List ℕ
cut_before bytes None = bytes
cut_before bytes (Some i) = take i bytes

-- what stands after the place, or nothing
abbrev pub cut_after : List ℕ → Option ℕ → List ℕ
cut_after bytes None = []
cut_after bytes (Some i) = drop (i + 1) bytes

-- the path runs to the first question mark, percent-decoded
abbrev pub path_of : List ℕ → List ℕ
path_of target = percent_decode (cut_before target (position is_question target))

-- the query is what follows it, as it was sent
abbrev pub query_of : List ℕ → List ℕ
query_of target = cut_after target (position is_question target)

-- the path and the query are the target's
pub record IsAsk (ask : Ask) : Type 0 where
  pub path : ask.path ≡ path_of ask.target
  pub query : ask.query ≡ query_of ask.target
