-- The fields that spans of a buffer cover.
use Rattle.std.specs.Prelude.{ℕ, List, map, length, ◌≡◌}
use Rattle.std.specs.List.{All}
use Rattle.httparse.specs.declared.spans.HeaderSpan.{HeaderSpan}
use Rattle.httparse.specs.declared.spans.RequestSpans.{RequestSpans}
use Rattle.httparse.specs.Grammar.{RequestHead}
use Rattle.httparse.specs.Spans.{span_bytes, header_bytes, IsHeaderWithin}
use Rattle.http_heads.specs.Fields.{fields_of}

-- the names and the values
abbrev pub lines : List ℕ → List HeaderSpan → List (List ℕ × List ℕ)
lines bytes rows = map (header_bytes bytes) rows

-- each span lies in the bytes
abbrev pub AreWithin : List ℕ → List HeaderSpan → Type 0
AreWithin bytes rows = All (IsHeaderWithin (length bytes)) rows

-- the spans cover the parts of the head
pub record IsPartsOf (bytes : List ℕ) (rows : List HeaderSpan) (spans : RequestSpans) (head : RequestHead) : Type 0 where
  pub method : span_bytes bytes spans.method ≡ head.method
  pub target : span_bytes bytes spans.path ≡ head.target
  pub minor : spans.version ≡ head.minor
  pub fields : lines bytes rows ≡ fields_of head
