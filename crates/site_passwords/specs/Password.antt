-- What a user's row keeps of a password.
use Rattle.std.specs.Prelude.{ℕ, zero, suc, List, ◌++◌, codes}
use Rattle.sha2.specs.Sha256.{sha256}
use Rattle.hex.specs.Hex.{encode_lower}

-- the bytes after so many rounds: at first the salt and a colon, and each round takes the SHA-256 of what is there and
-- the password
unfoldable pub digest_after : ℕ → List ℕ → List ℕ → List ℕ
digest_after zero salt password = salt ++ codes ":"
digest_after (suc rounds) salt password = sha256 (digest_after rounds salt password ++ password)

-- what is kept: the thousandth round as 64 hex digits, `0` to `9` and `a` to `f`
abbrev pub digest_text : List ℕ → List ℕ → List ℕ
digest_text salt password = encode_lower (digest_after 1000 salt password)
