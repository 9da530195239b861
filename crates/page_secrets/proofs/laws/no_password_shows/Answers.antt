use Rattle.std.proofs.Common.{◌≡◌, List, inl, inr}
use Rattle.std.specs.Prelude.{◌⊎◌, Option}
use Rattle.content_rows.specs.declared.cell.Cell.{Cell}
use Rattle.content_rows.specs.declared.row.Row.{Row}
use Rattle.content_state.specs.declared.ask.Viewer.{Viewer}
use Rattle.indexed_rows.specs.Rows.{row_at}
use Rattle.content_state.specs.Viewer.{viewer_of}
use Rattle.page_secrets.specs.Passwords.{HaveOneUser}
use Rattle.page_secrets.proofs.Likeness.{LookAlikeAt}
use Rattle.page_secrets.proofs.LikePages.{same_pages}
use Rattle.page_secrets.proofs.laws.no_password_shows.Goals as goal

looks : (viewer : Viewer) (rows rows' : List (Cell × Row)) (c : Cell) (found found' : Option Row)
    → (found ≡ found') ⊎ HaveOneUser c found found' → LookAlikeAt viewer rows rows' c found found'
looks viewer rows rows' c found found' (inl same) = inl (inl same)
looks viewer rows rows' c found found' (inr users) = inr (inl users)

pub returns : goal.returns
returns c = λ s s' ask now one other alike status body.
    same_pages s.rows s'.rows ask now one other
    (λ c. looks (viewer_of s.rows ask.cookie now) s.rows s'.rows c (row_at s.rows c) (row_at s'.rows c) (alike c)) status body
