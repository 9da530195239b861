use Rattle.std.proofs.Common.{◌≡◌, ◌∙◌, ◌++◌, List, ℕ, Option, Some, ap, refl, sym, subst, inr}
use Rattle.site_io.specs.Told.{before}
use Rattle.http_heads.specs.declared.parsed.Parsed.TheVariants.{More}
use Rattle.http_heads.specs.Parses.{Parses}
use Rattle.site_http.specs.declared.next.Next.{Next}
use Rattle.site_http.specs.declared.next.Next.TheVariants as next
use Rattle.site_http.specs.declared.next.Trouble.{Trouble}
use Rattle.site_http.specs.declared.next.Trouble.TheVariants.{ReadFault, OutOfMemory}
use Rattle.site_http.specs.Turn.{NotRead, ReadInNeed, Fetches, Decided, Faulted, FaultedNext}
use Rattle.site_late.proofs.Told.{before_before}

-- one piece more, where the bytes so far are a part of a request
pub piece_needed : (buffer more piece all : List ℕ) → all ≡ buffer ++ more → Parses all More → ReadInNeed buffer (more ++ piece)
piece_needed buffer more piece all whole part =
    inr (record { early = more; last = piece; more_is = refl; part = subst (λ (l : List ℕ). Parses l More) whole part })

-- what is found among the bytes that came counts no fault
pub found_steady : (found : Next) (buffer buffer' : List ℕ) (old new : ℕ) → Decided (Some found) buffer buffer' → new ≡ old → FaultedNext found old new
found_steady (next.Request r bytes) buffer buffer' old new decided same = same
found_steady (next.Known k) buffer buffer' old new decided same = same
found_steady (next.Refused code) buffer buffer' old new decided same = same
found_steady (next.End n) buffer buffer' old new decided same = absurd decided
found_steady (next.Trouble t) buffer buffer' old new decided same = subst (λ (u : Trouble). Faulted u old new) (sym decided) same

-- reading on failed where the bytes so far are a part of a request
pub fails_to_fetch : (trouble : Trouble) (left left' left'' : Option (List ℕ)) (buffer more all buffer' : List ℕ) → left ≡ before more left' → ReadInNeed buffer more → all ≡ buffer ++ more → Parses all More → NotRead trouble left' left'' → Fetches left left'' buffer buffer' (next.Trouble trouble)
fails_to_fetch ReadFault left left' left'' buffer more all buffer' source needed whole parses none = record {
  more = more;
  source = source ∙ ap (before more) (sym none);
  needed = needed;
  decides = subst (λ (l : List ℕ). Parses l More) whole parses;
}
fails_to_fetch OutOfMemory left left' left'' buffer more all buffer' source needed whole parses taken = record {
  more = more ++ taken.more;
  source = source ∙ ap (before more) taken.source ∙ before_before left'' more taken.more;
  needed = piece_needed buffer more taken.more all whole parses;
  decides = tt;
}
