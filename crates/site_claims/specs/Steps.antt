-- What each kind of step tells, and does to what a seat knows.
use Rattle.std.specs.Prelude.{◌≡◌, ◌+◌, ◌-◌, ℕ, nat_lt, if◌then◌else◌}
use Rattle.atomic_table.specs.Table.{Me}
use Rattle.site_claims.specs.declared.rule.ClaimNote.{ClaimNote}
pub use Rattle.site_claims.specs.Rule.{spent}

-- one number more was claimed, or was refused
abbrev pub claimed : ClaimNote → ClaimNote
claimed note = record note { claims = note.claims + 1 }

abbrev pub refused : ClaimNote → ClaimNote
refused note = record note { over = note.over + 1 }

-- a number is claimed where fewer were drawn than there are
pub record Asks {S : Type 0} (old : Me S ClaimNote) (found : ℕ) (new : Me S ClaimNote) : Type 0 where
  pub note : new.0 ≡ (if nat_lt found old.0.limit then claimed old.0 else refused old.0)
  pub slots : new.1 ≡ old.1

-- a worker takes room for one refusal
abbrev pub without_worker : ClaimNote → ClaimNote
without_worker note = record note { room = note.room - 1 }

abbrev pub worker_of : ClaimNote → ClaimNote
worker_of note = record { claims = 0; over = 0; room = 1; limit = note.limit }

-- what two seats know together
abbrev pub joined : ClaimNote → ClaimNote → ClaimNote
joined note other = record {
  claims = note.claims + other.claims;
  over = note.over + other.over;
  room = note.room + other.room;
  limit = note.limit;
}
