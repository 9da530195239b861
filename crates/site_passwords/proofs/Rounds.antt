-- The rounds of a digest.
use Rattle.std.proofs.Common.{◌≡◌, ◌∙◌, ◌+◌, ◌++◌, ℕ, List, length, ap, add-one}
use Rattle.sha2.specs.Sha256.{sha256}
use Rattle.sha2.proofs.Facts256.{length-sha256}
use Rattle.site_passwords.specs.Password.{digest_after}

-- one round more
pub next_round : (rounds : ℕ) (salt password : List ℕ)
    → digest_after (rounds + 1) salt password ≡ sha256 (digest_after rounds salt password ++ password)
unfolding digest_after
next_round rounds salt password = ap (λ n. digest_after n salt password) (add-one rounds)

-- the last round is 32 bytes
pub round_len : (salt password : List ℕ) → length (digest_after 1000 salt password) ≡ 32
round_len salt password =
    ap length (next_round 999 salt password) ∙ length-sha256 (digest_after 999 salt password ++ password)
