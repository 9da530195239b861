-- The moments of a drill, one by one.
use Rattle.std.proofs.Common.{◌≡◌, ◌++◌, ◌+◌, [], ◌∷◌, ℕ, ap, refl, add-one}
use Rattle.site_drill.specs.Drill.{moments_to}

pub no_moment : moments_to 0 ≡ []
unfolding moments_to
no_moment = refl

pub next_moment : (count : ℕ) → moments_to (count + 1) ≡ moments_to count ++ (1000 + count) ∷ []
unfolding moments_to
next_moment count = ap moments_to (add-one count)
