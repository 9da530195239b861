use Rattle.std.proofs.Common.{◌≡◌, ◌++◌, ◌+◌, ◌∙◌, List, [], ℕ, take, drop, Option, Some, None, ap, sym, refl, append_assoc}
use Rattle.std.proofs.Math.Seq.{take-add}
use Rattle.std.proofs.lemmas.List.{append-nil}
use Rattle.site_io.specs.Told.{after}

-- two pieces, one after the other
pub after_after : (told : Option (List ℕ)) (first second : List ℕ) → after (after told first) second ≡ after told (first ++ second)
after_after None first second = refl
after_after (Some told) first second = ap Some (append_assoc told first second)

pub after_none : (told : Option (List ℕ)) → after told [] ≡ told
after_none None = refl
after_none (Some told) = ap Some (append-nil told)

-- a front of the bytes, and a front of what is left of them
pub after_more : (told : Option (List ℕ)) (bytes : List ℕ) (sent more : ℕ) → after (after told (take sent bytes)) (take more (drop sent bytes)) ≡ after told (take (sent + more) bytes)
after_more told bytes sent more =
    after_after told (take sent bytes) (take more (drop sent bytes)) ∙ ap (after told) (sym (take-add sent more bytes))
