use Rattle.site_import.proofs.ComingBack.{comes_back, changes_nothing}
use Rattle.site_import.proofs.laws.import_of_export_changes_nothing.Goals as goal

pub returns-clause-back : goal.returns-clause-back
returns-clause-back c = comes_back

pub returns-clause-nothing : goal.returns-clause-nothing
returns-clause-nothing c = changes_nothing
