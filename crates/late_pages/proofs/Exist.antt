-- Each place has a part on each visit.
use Rattle.std.proofs.Common.{ℕ, [], ◌∷◌, refl, subst, Option}
use Rattle.content_state.specs.declared.element.Hole.{Hole}
use Rattle.content_state.specs.declared.element.Hole.TheVariants as hole
use Rattle.content_state.specs.Context.{Visit}
use Rattle.content_state.specs.Met.{result_of}
use Rattle.content_state.specs.Plan.{Plan, Made}
use Rattle.content_state.proofs.Filled.{same_refl}
use Rattle.page_meaning.proofs.Totality.{every_plan_shows}
use Rattle.render_array.specs.declared.element.Element.TheVariants as element
use Rattle.render_array.specs.Whole.{whole}
use Rattle.render_array.proofs.Leaves.{fragment_written}
use Rattle.late_pages.specs.Late.{LatePart, PartShows}
use Rattle.late_pages.specs.Laws.{EveryPartShows}

part_of_place : (v : Visit) (h : Hole) → (p : LatePart) × PartShows v h p
part_of_place v hole.Meta = (record { libraries = []; text = [] }, record { text = refl; libraries = refl })
part_of_place v (hole.Fragment f) =
    let plan : Plan (Option ℕ) = whole [] (element.Fragment f) in
    let some = every_plan_shows plan v in
    let shows = some.2 in
    let text = fragment_written [] f v (result_of plan v) some.0 some.1 shows.needs shows.made in (
      record { libraries = some.1; text = text.0 },
      record {
        status = result_of plan v;
        attached = some.1;
        shows = record {
          needs = shows.needs;
          not_over = shows.not_over;
          made = subst (λ ps. Made plan v (result_of plan v) ps some.1 shows.needs) text.1 shows.made;
        };
        same = same_refl some.1;
      },
    )

pub parts_exist : EveryPartShows
parts_exist v [] = ([], tt)
parts_exist v (h ∷ holes) =
    let one = part_of_place v h in
    let others = parts_exist v holes in
    (one.0 ∷ others.0, (one.1, others.1))
