-- What a whole page shows and attaches, whether it is kept or not.
use Rattle.std.specs.Prelude.{ℕ, List, Option}
use Rattle.html_out.specs.Part.{Part}
use Rattle.content_state.specs.declared.element.Hole.{Hole}
use Rattle.content_state.specs.declared.element.Library.{Library}
use Rattle.kept_pages.specs.declared.pieces.Pieces.{Pieces}
use Rattle.kept_pages.specs.declared.pieces.Pieces.TheVariants.{Kept, Own}

abbrev pub parts_in : Pieces → List (Part Hole)
parts_in (Kept entry) = entry.now.segments
parts_in (Own joined) = joined.now.segments

abbrev pub libraries_in : Pieces → List Library
libraries_in (Kept entry) = entry.now.libraries
libraries_in (Own joined) = joined.now.libraries.items

abbrev pub status_in : Pieces → Option ℕ
status_in (Kept entry) = entry.now.status
status_in (Own joined) = joined.now.status

-- the last moment at which it may be shown
abbrev pub last_in : Pieces → ℕ
last_in (Kept entry) = entry.now.last
last_in (Own joined) = joined.now.last
