-- The devices of a drill, before it.
use Rattle.std.specs.Prelude.{ℕ, List, [], ◌≡◌}
use Rattle.site_drill.specs.declared.job.Devices.{Devices}
use Rattle.site_drill.specs.Drill.{moments_to}

-- the source has these bytes, the clock is to give the moments of a drill, and nothing was written, given, drawn or told yet
pub record AreFresh (bytes : List ℕ) (devices : Devices) : Type 0 where
  pub source : devices.source ≡ bytes
  pub sink : devices.sink.written ≡ []
  pub moments : devices.clock.values ≡ moments_to 900
  pub given : devices.clock.given ≡ []
  pub drawn : devices.entropy.given ≡ []
  pub told : devices.gate.points ≡ []
