use Rattle.page_meaning.proofs.Totality.{every_plan_shows}
use Rattle.page_meaning.proofs.laws.every_plan_shows.Goals as goal

pub returns : goal.returns
returns c = every_plan_shows
