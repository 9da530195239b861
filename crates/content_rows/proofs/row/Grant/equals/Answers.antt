use Rattle.content_rows.proofs.GrantLemmas.{tells_grants_apart}
use Rattle.content_rows.proofs.row.Grant.equals.Goals as goal

pub returns-clause-apart : goal.returns-clause-apart
returns-clause-apart c = tells_grants_apart
