-- What a file is imported onto.
use Rattle.std.specs.Prelude.{[]}
use Rattle.indexed_rows.specs.Rows.{AreValidRows}
use Rattle.content_state.specs.State.{State}
use Rattle.site_import.specs.declared.onto.Onto.{Onto}
use Rattle.site_import.specs.declared.onto.Onto.TheVariants as onto

-- a site, or the stored counts where no row is stored
abbrev pub ground : Onto → State
ground (onto.Site state) = state.now
ground (onto.Empty counts) = record { rows = []; counts = counts.now; number = 0 }

-- each row that is stored is right, by itself
abbrev pub HasValidRows : Onto → Type 0
HasValidRows o = AreValidRows (ground o).rows
