use Rattle.site_import.proofs.LineTells.{lines_tell_rows}
use Rattle.site_import.proofs.laws.equal_lines_mean_equal_rows.Goals as goal

pub returns : goal.returns
returns c = lines_tell_rows
