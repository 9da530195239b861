-- What is printed of a drill.
use Rattle.std.specs.Prelude.{ℕ, List, ◌++◌, codes}
use Rattle.std.specs.Fmt.{decimal}
use Rattle.site_drill.specs.declared.figures.Figures.{Figures}

-- a line that names a number
abbrev pub line : List ℕ → ℕ → List ℕ
line word number = word ++ decimal number ++ codes "\n"

-- what is printed of a drill
unfoldable pub drill_text : ℕ → Figures → List ℕ
drill_text number figures =
    line (codes "drill ") number
    ++ line (codes "requests ") 900
    ++ line (codes "pages ") figures.pages
    ++ line (codes "edits ") figures.edits
    ++ line (codes "built ") figures.built
    ++ line (codes "bytes ") figures.bytes
    ++ codes "sha256 " ++ figures.sha256 ++ codes "\n"
