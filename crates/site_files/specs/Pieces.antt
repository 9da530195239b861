-- Pieces of lines.
use Rattle.std.specs.Prelude.{ℕ, List, ◌++◌, ◌∷◌, ◌≡◌, ◌≤◌, Bool, true, false, length, IsTrue}
use Rattle.site_files.specs.Lines.{is_one_line}

-- a piece of at most so many bytes without a line end was taken onto the line, and the line's end where it ended; where
-- it didn't, as many bytes as were asked for were taken, or all that there were
pub record IsPiece (ended : Bool) (most : ℕ) (bytes line-before line rest : List ℕ) : Type 0 where
  pub piece : List ℕ
  pub line_is : line ≡ line-before ++ piece
  pub few : length piece ≤ most
  pub one : IsTrue (is_one_line piece)
  pub at_end : ended ≡ true → bytes ≡ piece ++ 10 ∷ rest
  pub going : ended ≡ false → bytes ≡ piece ++ rest
  pub some : ended ≡ false → 1 ≤ length bytes → 1 ≤ most → 1 ≤ length piece
