-- Who has a name and a password has the name.
use Rattle.std.proofs.Common.{◌≡◌, ℕ, List, true, sym, subst}
use Rattle.std.specs.Prelude.{◌&&◌, Some}
use Rattle.std.specs.Str.{bytes_eq}
use Rattle.std.proofs.lemmas.Bool.{and_parts}
use Rattle.content_rows.specs.declared.cell.Cell.{Cell}
use Rattle.content_rows.specs.declared.cell.Cell.TheVariants as cell
use Rattle.content_rows.specs.declared.row.Row.{Row}
use Rattle.content_rows.specs.declared.row.Row.TheVariants as row
use Rattle.content_rows.specs.declared.row.User.{User}
use Rattle.indexed_rows.specs.Texts.{is_text, text_of}
use Rattle.indexed_rows.specs.declared.unique.Unique.TheVariants as unique
use Rattle.site_commands.specs.Sessions.{is_user_with, user_entry}
use Rattle.site_passwords.specs.Password.{digest_text}

same_some : {X : Type 0} (a b : X) → Some a ≡ Some b → a ≡ b
same_some a b e = cc

has_name : (name pass : List ℕ) (user : User) → is_user_with name pass user ≡ true → bytes_eq user.name name ≡ true
has_name name pass user passes =
    (and_parts user.status (bytes_eq user.name name)
    (and_parts (user.status && bytes_eq user.name name) (is_text (digest_text user.salt pass) user.digest) passes).0).1

pub named : (name pass : List ℕ) (e : Cell × Row) (u : ℕ × User) → user_entry e ≡ Some u → is_user_with name pass u.1 ≡ true
    → is_text name (text_of unique.UserName e.1) ≡ true
named name pass (cell.User n, row.User r) u is passes =
    has_name name pass r (subst (λ (x : ℕ × User). is_user_with name pass x.1 ≡ true) (sym (same_some (n, r) u is)) passes)
named name pass _ u is passes = cc
