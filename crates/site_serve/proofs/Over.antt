-- Connections over a log are connections over each longer one.
use Rattle.std.proofs.Common.{◌≡◌, ◌∙◌, ℕ, zero, suc, List, subst, sym}
use Rattle.content_state.specs.declared.commit.Commit.{Commit}
use Rattle.site_io.specs.declared.ended.Ended.{Ended}
use Rattle.site_house.specs.History.{History, longer, newest}
use Rattle.site_house.proofs.Moving.{begins_more}
use Rattle.site_http.specs.Connection.{Around, Connection}
use Rattle.site_http.specs.Work.{Bench, Serves, ServesOne, Follows, around_of}
use Rattle.site_serve.specs.Serving.{ServesOver}

-- the law of `connection_grows`
abbrev pub Grows : Type 0
Grows = (end : Ended) → (old : Around) → (new : Around) → (history : History) → (more : List Commit) → (limit : ℕ) → (low : ℕ) → Connection end old new history limit low → Connection end old new (longer history more) limit low

pub follows_then : (a b c : History) → Follows a b → Follows b c → Follows a c
follows_then a b c one other = record {
  base = other.base ∙ one.base;
  pass = other.pass ∙ one.pass;
  grows = begins_more a.log b.log c.log one.grows other.grows;
}

-- what follows a history is longer
is_longer : (old new : History) → (follows : Follows old new) → longer old follows.grows.0 ≡ new
is_longer old new follows = let b = follows.base in let p = follows.pass in let g = follows.grows.1 in
    λ i. record { base = sym b i; log = sym g i; pass = sym p i }

one_over : Grows → (whole : History) (old new : Bench) → ServesOne old new → Follows new.history whole → ServesOne old (record new { history = whole })
one_over law whole old new one follows = record {
  line = one.line;
  back = one.back;
  next = one.next;
  later = one.later;
  given_back = one.given_back;
  reads = one.reads;
  writes = one.writes;
  connection = subst (λ history. Connection one.back.end (around_of old one.line) (around_of new one.back.line) history 1000 (newest old.history)) (is_longer new.history whole follows)
      (law one.back.end (around_of old one.line) (around_of new one.back.line) new.history follows.grows.0 1000 (newest old.history) one.connection);
  follows = follows_then old.history new.history whole one.follows follows;
}

pub over : Grows → (count : ℕ) (whole : History) (old new : Bench) → Serves count old new → Follows new.history whole → ServesOver whole count old new
over law zero whole old new served follows = served
over law (suc count) whole old new served follows = record {
  middle = served.middle;
  before = over law count whole old served.middle served.before (follows_then served.middle.history new.history whole served.last.follows follows);
  next = one_over law whole served.middle new served.last follows;
  follows = served.last.follows;
}
