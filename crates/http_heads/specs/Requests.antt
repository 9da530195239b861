-- The requests of the bytes of a connection, and what follows the last of them
-- (RFC 9112, sections 9.3 and 9.6).
use Rattle.std.specs.Prelude.{ℕ, zero, suc, List, [], ◌∷◌, ◌≡◌, Bool, true, false, length, drop}
use Rattle.http_heads.specs.declared.request.Request.{Request}
use Rattle.http_heads.specs.declared.parsed.Parsed.{Parsed}
use Rattle.http_heads.specs.declared.parsed.Parsed.TheVariants.{Whole, More, Refused}
use Rattle.http_heads.specs.Parses.{Parses}

-- what follows the last whole request: nothing; whatever there is, after a request that asks to
-- close or after as many requests as are served; what a code answers; or so many bytes of a request
pub data End : Type 0 where
  Empty : End
  Asks : End
  Limit : End
  Code : ℕ → End
  Cut : ℕ → End

-- the end of bytes that hold no whole request
abbrev pub ending : List ℕ → End
ending [] = Empty
ending (b ∷ bytes) = Cut (length (b ∷ bytes))

-- after a request: nothing more where it asks to close, else what follows
abbrev pub ReadsAfter : Bool → (List Request → End → Type 0) → List Request → End → Type 0
ReadsAfter true Next requests end = (requests ≡ []) × (end ≡ Asks)
ReadsAfter false Next requests end = Next requests end

-- by what the bytes begin with
abbrev pub ReadsOn : (List ℕ → List Request → End → Type 0) → List ℕ → Parsed → List Request → End → Type 0
ReadsOn Next bytes (Whole request size) requests end =
    (rest : List Request) × (requests ≡ request ∷ rest) × ReadsAfter request.closes (Next (drop size bytes)) rest end
ReadsOn Next bytes More requests end = (requests ≡ []) × (end ≡ ending bytes)
ReadsOn Next bytes (Refused code) requests end = (requests ≡ []) × (end ≡ Code code)

-- the requests of whole bytes, no more than k of them, and the end
abbrev pub Reads : ℕ → List ℕ → List Request → End → Type 0
Reads zero bytes requests end = (requests ≡ []) × (end ≡ Limit)
Reads (suc k) bytes requests end = (parsed : Parsed) × Parses bytes parsed × ReadsOn (Reads k) bytes parsed requests end
