-- States that are the same but for the digests and salts by which the passwords of users are kept.
use Rattle.std.specs.Prelude.{ℕ, List, ◌≡◌, ◌⊎◌, ◌↔◌, Option, Some}
use Rattle.content_rows.specs.declared.cell.Cell.{Cell}
use Rattle.content_rows.specs.declared.cell.Cell.TheVariants as cell
use Rattle.content_rows.specs.declared.row.Row.{Row}
use Rattle.content_rows.specs.declared.row.Row.TheVariants as row
use Rattle.content_rows.specs.declared.row.User.{User}
use Rattle.content_state.specs.declared.ask.Ask.{Ask}
use Rattle.content_state.specs.State.{State}
use Rattle.indexed_rows.specs.Rows.{row_at, InOrder}
use Rattle.render_array.specs.Shown.{IsPage}

-- the user with this digest and salt of its password
abbrev pub with_password : User → Option (List ℕ) → List ℕ → User
with_password user digest salt =
    record {
      created = user.created;
      digest = digest;
      grants = user.grants;
      name = user.name;
      roles = user.roles;
      salt = salt;
      status = user.status;
      uuid = user.uuid;
    }

-- what both have at a cell is one user, the same but for the digest and the salt
pub record HaveOneUser (c : Cell) (found found' : Option Row) : Type 0 where
  pub u : ℕ
  pub user : User
  pub user' : User
  pub cell_is : c ≡ cell.User u
  pub found_is : found ≡ Some (row.User user)
  pub found_too : found' ≡ Some (row.User user')
  pub others : user' ≡ with_password user user'.digest user'.salt

-- at each cell both have the same row or none, or one user
abbrev pub AreSameButPasswords : List (Cell × Row) → List (Cell × Row) → Type 0
AreSameButPasswords rows rows' = (c : Cell) → (row_at rows c ≡ row_at rows' c) ⊎ HaveOneUser c (row_at rows c) (row_at rows' c)

-- Whoever asks, whatever and whenever: where two states are the same but for passwords, a status and a body are those of a
-- page on the one exactly where they are on the other, and so of what is told as JSON of a user.
abbrev pub NoPasswordShows : Type 0
NoPasswordShows =
    (s s' : State) (ask : Ask) (now : ℕ)
    → InOrder s.rows → InOrder s'.rows → AreSameButPasswords s.rows s'.rows
    → (status : ℕ) (body : List ℕ) → IsPage s.rows ask now status body ↔ IsPage s'.rows ask now status body
