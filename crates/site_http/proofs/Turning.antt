-- A turn whose reply was written in part.
use Rattle.std.proofs.Common.{◌≡◌, ◌++◌, ◌⊎◌, List, ℕ, Bool, subst, inl, inr}
use Rattle.http_heads.specs.declared.request.Request.{Request}
use Rattle.http_heads.specs.declared.parsed.Parsed.TheVariants.{Whole}
use Rattle.http_heads.specs.Parses.{Parses}
use Rattle.site_house.specs.History.{History}
use Rattle.site_io.specs.Told.{before}
use Rattle.site_http.specs.Connection.{Around, closes_after}
use Rattle.site_http.specs.Turn.{HalfAnswered, HalfRefused, HalfReplied, LateAnswered, LateReplied, ReadInNeed}

pub late_turned : {old new : Around} {history : History} {limit index low least : ℕ} {buffer : List ℕ} (request : Request) (size : ℕ) (more : List ℕ) (closing : Bool) → closing ≡ closes_after limit index request
    → old.left ≡ before more new.left → ReadInNeed buffer more → Parses (buffer ++ more) (Whole request size) → LateReplied old.out new.out history low request closing least → LateAnswered old new history limit index low buffer least
late_turned {old} {new} {history} {limit} {index} {low} {least} {buffer} request size more closing closes source needed parses late = record {
  more = more;
  request = request;
  size = size;
  source = source;
  needed = needed;
  parses = parses;
  replied = subst (λ (b : Bool). LateReplied old.out new.out history low request b least) closes late;
}

pub half_turned : {old new : Around} {history : History} {limit index low : ℕ} {buffer : List ℕ} (request : Request) (size : ℕ) (more : List ℕ) (closing : Bool) → closing ≡ closes_after limit index request
    → old.left ≡ before more new.left → ReadInNeed buffer more → Parses (buffer ++ more) (Whole request size) → HalfReplied old.out new.out history low request closing ⊎ LateReplied old.out new.out history low request closing 0
    → HalfAnswered old new history limit index low buffer ⊎ (HalfRefused old new buffer low ⊎ LateAnswered old new history limit index low buffer 0)
half_turned {old} {new} {history} {limit} {index} {low} {buffer} request size more closing closes source needed parses replied = elim replied [
  | inl half ↦ inl (record {
    more = more;
    request = request;
    size = size;
    source = source;
    needed = needed;
    parses = parses;
    replied = subst (λ (b : Bool). HalfReplied old.out new.out history low request b) closes half;
  })
  | inr late ↦ inr (inr (late_turned request size more closing closes source needed parses late))
]
