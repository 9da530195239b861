-- What marks the parts of a page that are sent after the rest: in the page an empty element with the part's number stands in its
-- place, and behind the page a template has its text, which a script of the client may put there. Drupal's BigPipe does so with
-- scripts of its own.
-- https://www.drupal.org/docs/8/core/modules/big-pipe/overview
use Rattle.std.specs.Prelude.{ℕ, List, [], ◌∷◌, ◌++◌, codes}
use Rattle.std.specs.Fmt.{decimal}
use Rattle.std.specs.List.{flat_map}

unfoldable pub place_start : List ℕ
place_start = codes "<div data-late=\""

unfoldable pub place_end : List ℕ
place_end = codes "\"></div>"

-- the mark of a place, by its number
abbrev pub place_mark : ℕ → List ℕ
place_mark number = place_start ++ decimal number ++ place_end

unfoldable pub number_start : List ℕ
number_start = codes "<template data-late=\""

unfoldable pub names_start : List ℕ
names_start = codes "\" data-library=\""

unfoldable pub start_end : List ℕ
start_end = codes "\">"

-- names behind another one, a space before each
unfoldable pub names_behind : List (List ℕ) → List ℕ
names_behind names = flat_map (λ name. 32 ∷ name) names

-- names with a space between two
abbrev pub spaced : List (List ℕ) → List ℕ
spaced [] = []
spaced (name ∷ names) = name ++ names_behind names

-- the start of a template: the number of its place, and the names of the libraries that its text wants
abbrev pub template_start : ℕ → List (List ℕ) → List ℕ
template_start number names = number_start ++ decimal number ++ names_start ++ spaced names ++ start_end

unfoldable pub template_end : List ℕ
template_end = codes "</template>"

-- the template of a text
abbrev pub template_text : ℕ → List (List ℕ) → List ℕ → List ℕ
template_text number names text = template_start number names ++ text ++ template_end

-- what ends a page, whose parts stand before it
unfoldable pub body_end : List ℕ
body_end = codes "</body></html>"
