-- The length of a digest, under a name that an attribute can give.
use Rattle.std.proofs.Common.{◌≡◌, ℕ, List, length}
use Rattle.sha2.specs.Sha256.{sha256}
use Rattle.sha2.proofs.Facts256.{length-sha256}

pub sha256_len : (m : List ℕ) → length (sha256 m) ≡ 32
sha256_len m = length-sha256 m
