-- Parts as they are made.
use Rattle.late_pages.specs.declared.part.Part.{Part}
use Rattle.late_pages.specs.Late.{LatePart}

-- what is sent of a part
abbrev pub part_of : Part → LatePart
part_of p = record { libraries = p.libraries.items; text = p.parts }
