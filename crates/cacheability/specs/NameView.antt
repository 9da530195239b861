-- How a name's room holds it.
use Rattle.std.specs.Prelude.{ℕ, List, length, take, drop, replicate, ◌≡◌, ◌≤◌, ◌-◌, ◌++◌}
use Rattle.std.proofs.Common.{sym, ◌∙◌, ap, arith, length-take-le}
use Rattle.std.proofs.Math.ListN.{take-append-drop}
use Rattle.cacheability.specs.Name.{IsName}
use Rattle.cacheability.specs.declared.name.Name.TheInside.{Inside}

-- the bytes in use
abbrev pub held_bytes : Inside → List ℕ
held_bytes n = take n.len n.buf

-- the bytes in use are a name, and the room past them is zero
abbrev pub IsFilled : Inside → Type 0
IsFilled n = (n.len ≤ 64) × (length n.buf ≡ 64) × (drop n.len n.buf ≡ replicate (64 - n.len) 0) × IsName (held_bytes n)

-- the room that holds these bytes
abbrev pub fields_of : List ℕ → Inside
fields_of bytes = record { buf = bytes ++ replicate (64 - length bytes) 0; len = length bytes }

pub fields_back : (n : Inside) → IsFilled n → fields_of (held_bytes n) ≡ n
fields_back n h =
    let short : length (take n.len n.buf) ≡ n.len = length-take-le n.len n.buf (omega (arith, h.0, h.1)) in
    let tail : replicate (64 - length (take n.len n.buf)) 0 ≡ drop n.len n.buf = ap (λ k. replicate (64 - k) 0) short ∙ sym h.2 in
    let whole : take n.len n.buf ++ replicate (64 - length (take n.len n.buf)) 0 ≡ n.buf = ap (λ t. take n.len n.buf ++ t) tail ∙ take-append-drop n.len n.buf in
    λ i. record { buf = whole i; len = short i }
