-- What was written on a canvas, once it is finished.
use Rattle.std.specs.Prelude.{ℕ, Option, true, ◌≡◌, ◌≤◌}
use Rattle.content_state.specs.Plan.{Needs}
use Rattle.render_canvas.specs.declared.built.Built.{Built}
use Rattle.render_canvas.specs.Board.{pieces_of}
use Rattle.render_canvas.specs.Canvas.{Sheet}

-- what it depends on
abbrev pub needs_of : Built → Needs
needs_of built = record { tags = built.cacheability.tags; contexts = built.cacheability.contexts; last = built.last }

-- a finished sheet
pub record Finishes (sheet : Sheet) (status : Option ℕ) (built : Built) : Type 0 where
  pub whole : sheet.whole ≡ true
  pub shown : pieces_of built.segments ≡ sheet.shown
  pub libraries : built.libraries ≡ sheet.libraries
  pub needs : needs_of built ≡ sheet.needs
  pub age : built.cacheability.max_age ≡ sheet.age
  pub not_over : sheet.visit.moment ≤ built.last
  pub status_is : built.status ≡ status
