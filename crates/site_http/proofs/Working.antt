-- A worker's connections, one after the other.
use Rattle.std.proofs.Common.{◌≡◌, ◌+◌, suc, ℕ, arith}
use Rattle.site_http.specs.Work.{Bench, ServesBetween, ServesOne}

-- leave was given for one more, and it was served
pub one_more : {first middle new : Bench} {claims before after : ℕ} → ServesBetween first middle claims before → after ≡ before + 1 → ServesOne middle new → ServesBetween first new claims after
one_more {first} {middle} served claimed one =
    let claimed-before = served.claimed in
    record {
      count = suc served.count;
      serves = record { middle = middle; before = served.serves; last = one };
      claimed = omega arith;
    }
