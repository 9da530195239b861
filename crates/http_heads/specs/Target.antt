-- The parts of a request's target (RFC 3986, sections 2.1, 3.3 and 3.4).
use Rattle.std.specs.Prelude.{ℕ, List, [], Bool, ◌==◌, ◌+◌, Option, Some, None, position, take, drop}
use Rattle.percent_encoding.specs.Percent.{percent_decode}

-- a question mark
abbrev pub is_question : ℕ → Bool
is_question b = b == 63

-- what stands before the place, or all
abbrev pub cut_before : List ℕ → Option ℕ → List ℕ
cut_before bytes None = bytes
cut_before bytes (Some i) = take i bytes

-- what stands after the place, or nothing
abbrev pub cut_after : List ℕ → Option ℕ → List ℕ
cut_after bytes None = []
cut_after bytes (Some i) = drop (i + 1) bytes

-- the path runs to the first question mark, percent-decoded (RFC 3986, sections 2.1 and 3.3)
abbrev pub path_of : List ℕ → List ℕ
path_of target = percent_decode (cut_before target (position is_question target))

-- the query is what follows it (RFC 3986, section 3.4)
abbrev pub query_of : List ℕ → List ℕ
query_of target = cut_after target (position is_question target)
