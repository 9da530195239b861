use Rattle.std.proofs.Common.{◌≡◌, ◌∙◌, ℕ, List, sym}
use Rattle.std.specs.Prelude.{Result, Ok, Err}
use Rattle.std.specs.Result.{MatchResult, is_ok}
use Rattle.std.specs.Str.{IsUtf8, is_utf8}
use Rattle.std.proofs.lemmas.Bool.{false_from_ne_true}
use Rattle.std.proofs.lemmas.Str.{IsUtf8-from_is_utf8, is_utf8-from_IsUtf8}
use Rattle.content_rows.proofs.kinds.is_utf8.Goals as goal

tested : {S E : Type 0} (shows : S → Type 0) (points : E → Type 0) (bytes : List ℕ) (r : Result S E)
    → MatchResult r (λ s. shows s × IsUtf8 bytes) (λ e. ¬ (IsUtf8 bytes) × points e) → is_ok r ≡ is_utf8 bytes
tested shows points bytes (Ok s) h = sym (is_utf8-from_IsUtf8 bytes h.1)
tested shows points bytes (Err e) h = sym (false_from_ne_true (is_utf8 bytes) (λ yes. h.0 (IsUtf8-from_is_utf8 bytes yes)))

pub returns : goal.returns
returns c = c.is_ok.ensures.value ∙ tested _ _ c.args.text.now c.from_utf8.result c.from_utf8.ensures.cases
