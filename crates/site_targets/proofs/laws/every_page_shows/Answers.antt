use Rattle.site_targets.proofs.EveryPage.{every_page}
use Rattle.site_targets.proofs.laws.every_page_shows.Goals as goal

pub returns : goal.returns
returns c = every_page
