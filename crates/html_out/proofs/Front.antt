use Rattle.std.proofs.Common.{◌≡◌, ◌++◌, List, length, take, ap, ◌∙◌}
use Rattle.std.proofs.Math.Seq.{take-append_seam}

-- what stood there is the front of what stands there once more is added
pub front_of_more : {A : Type 0} (old more new : List A) → new ≡ old ++ more → take (length old) new ≡ old
front_of_more old more new added = ap (take (length old)) added ∙ take-append_seam old more
