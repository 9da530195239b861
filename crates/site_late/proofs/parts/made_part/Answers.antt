use Rattle.std.proofs.Common.{subst}
use Rattle.cache_contexts.specs.Values.{visit_on}
use Rattle.content_state.specs.declared.ask.Viewer.{Viewer}
use Rattle.kept_pages.specs.Held.{Tells}
use Rattle.late_pages.specs.Late.{PartShows}
use Rattle.late_pages.specs.Needed.{OfPart}
use Rattle.late_pages.specs.Parts.{part_of}
use Rattle.site_late.proofs.parts.made_part.Goals as goal

pub returns-clause-made : goal.returns-clause-made
returns-clause-made g c =
    let state = c.args.state.now in
    let ask = c.args.ask.now in
    let moment = c.args.now in
    let old = g.H.House.sees c.args.house.now in
    let new = g.H.House.sees c.late_part.new.house in
    let built = c.in_ok-part.part.built in
    record {
      built = built;
      moves = c.late_part.ensures.moves;
      told = subst (λ (v : Viewer). Tells (record { state = state; viewer = v; ask = ask; moment = moment }) (OfPart (visit_on state v ask moment) c.args.hole.now) old new 0 built) c.requires.viewer c.in_ok-part.ensures.told;
    }

pub returns-clause-part : goal.returns-clause-part
returns-clause-part g c = (
  part_of c.in_ok-part.part,
  subst (λ (v : Viewer). PartShows (visit_on c.args.state.now v c.args.ask.now c.args.now) c.args.hole.now (part_of c.in_ok-part.part)) c.requires.viewer c.in_ok-part.ensures.shows,
  c.in_ok-text.ensures,
)
