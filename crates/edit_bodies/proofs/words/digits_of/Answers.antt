use Rattle.std.proofs.Common.{ℕ, List, IsTrue, subst, sym}
use Rattle.content_rows.specs.Kinds.{is_hex}
use Rattle.content_rows.specs.LiteralName.{is_name}
use Rattle.edit_bodies.proofs.HexDigits.{digits_name, digits_hex}
use Rattle.edit_bodies.proofs.words.digits_of.Goals as goal

pub name_of-requires : goal.name_of-requires
name_of-requires c = subst (λ (t : List ℕ). IsTrue (is_name t)) (sym c.hex_of.ensures) (digits_name c.args.words)

pub returns-clause-hex : goal.returns-clause-hex
returns-clause-hex c =
    subst (λ (t : List ℕ). IsTrue (is_hex 32 t)) (sym c.name_of.ensures)
    (subst (λ (t : List ℕ). IsTrue (is_hex 32 t)) (sym c.hex_of.ensures) (digits_hex c.args.words))
