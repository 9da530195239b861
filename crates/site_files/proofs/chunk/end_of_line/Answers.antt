use Rattle.site_files.proofs.TakenPieces.{end_found, no_end}
use Rattle.site_files.proofs.chunk.end_of_line.Goals as goal

pub returns-in-Some : goal.returns-in-Some
returns-in-Some c = end_found c.args.bytes.now c.in-Some.end c.in-Some.ensures

pub returns-in-None : goal.returns-in-None
returns-in-None c = no_end c.args.bytes.now c.in-None.ensures
