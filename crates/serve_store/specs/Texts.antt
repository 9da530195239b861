-- What is printed of serving.
use Rattle.std.specs.Prelude.{ℕ, List, ◌++◌, codes}
use Rattle.std.specs.Fmt.{decimal}

-- the doors at an address are open
abbrev pub listening_text : List ℕ → List ℕ
listening_text address = codes "listening " ++ address ++ codes "\n"

-- so many pages were rendered
abbrev pub warmed_text : ℕ → List ℕ
warmed_text count = codes "warmed " ++ decimal count ++ codes "\n"

-- so many connections were served
abbrev pub served_text : ℕ → List ℕ
served_text count = codes "served " ++ decimal count ++ codes "\n"
