use Rattle.late_pages.proofs.Placing.{late_is_page}
use Rattle.late_pages.proofs.laws.late_is_page.Goals as goal

pub returns : goal.returns
returns c = late_is_page
