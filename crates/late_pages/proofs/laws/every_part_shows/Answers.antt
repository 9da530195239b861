use Rattle.late_pages.proofs.Exist.{parts_exist}
use Rattle.late_pages.proofs.laws.every_part_shows.Goals as goal

pub returns : goal.returns
returns c = parts_exist
