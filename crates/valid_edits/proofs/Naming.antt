-- What a row names, told of one of its cells.
use Rattle.std.proofs.Common.{◌≡◌, ℕ, zero, suc, List, [], ◌∷◌, true, false, refl, subst, arith}
use Rattle.std.specs.Prelude.{Option, Some, None, ◌==◌, if◌then◌else◌, Contains}
use Rattle.std.specs.List.{AllByRecursion}
use Rattle.content_rows.specs.declared.cell.Cell.{Cell}
use Rattle.content_rows.specs.declared.cell.Cell.TheVariants as cell
use Rattle.content_rows.specs.declared.row.Row.{Row}
use Rattle.content_rows.specs.declared.row.Row.TheVariants as row
use Rattle.valid_edits.specs.Named.{user_cells, parent_cells, named_cells}
use Rattle.valid_edits.proofs.Together.{all_both}

-- what is so of each of some cells is so of one of them
pub one_of : (P : Cell → Type 0) (cs : List Cell) → AllByRecursion P cs → (c : Cell) → Contains cs c → P c
one_of P [] all c held = absurd (let l = held.1 in omega arith)
one_of P (d ∷ cs) all c (zero, l, is) = subst P is all.0
one_of P (d ∷ cs) all c (suc k, l, is) = one_of P cs all.1 c (k, omega arith, is)

-- a row names a type, a term, a node or a comment
abbrev pub NamesType : List ℕ → Row → Type 0
NamesType name (row.Node r) = r.node_type ≡ name
NamesType name _ = ⊥

abbrev pub NamesTerm : ℕ → Row → Type 0
NamesTerm id (row.Term r) = r.parent ≡ Some id
NamesTerm id _ = ⊥

abbrev pub NamesNode : ℕ → Row → Type 0
NamesNode id (row.Comment r) = r.node ≡ id
NamesNode id _ = ⊥

abbrev pub NamesComment : ℕ → Row → Type 0
NamesComment id (row.Comment r) = r.parent ≡ Some id
NamesComment id _ = ⊥

-- what a cell that is named says of the row; of users nothing
abbrev pub Names : Cell → Row → Type 0
Names (cell.NodeType name) r = NamesType name r
Names (cell.Term id) r = NamesTerm id r
Names (cell.Node id) r = NamesNode id r
Names (cell.Comment id) r = NamesComment id r
Names (cell.User id) r = Unit {0}
Names _ r = ⊥

users : (uid : ℕ) (r : Row) → AllByRecursion (λ c. Names c r) (user_cells uid)
users uid r = elim (uid == 0) as (λ b. AllByRecursion (λ c. Names c r) (if b then [] else cell.User uid ∷ [])) [
  | true ↦ tt
  | false ↦ (tt, tt)
]

under_term : (r : Row) (parent : Option ℕ) → ((id : ℕ) → parent ≡ Some id → NamesTerm id r) → AllByRecursion (λ c. Names c r) (parent_cells cell.Term parent)
under_term r None names = tt
under_term r (Some id) names = (names id refl, tt)

under_comment : (r : Row) (parent : Option ℕ) → ((id : ℕ) → parent ≡ Some id → NamesComment id r) → AllByRecursion (λ c. Names c r) (parent_cells cell.Comment parent)
under_comment r None names = tt
under_comment r (Some id) names = (names id refl, tt)

all_named : (r : Row) → AllByRecursion (λ c. Names c r) (named_cells r)
all_named (row.Node r) = (refl, users r.uid (row.Node r))
all_named (row.Session r) = (tt, tt)
all_named (row.Term r) = under_term (row.Term r) r.parent (λ id is. is)
all_named (row.Comment r) = (
  refl,
  all_both (λ c. Names c (row.Comment r)) (user_cells r.uid) (parent_cells cell.Comment r.parent) (users r.uid (row.Comment r)) (under_comment (row.Comment r) r.parent (λ id is. is)),
)
all_named _ = tt

pub naming : (r : Row) (c : Cell) → Contains (named_cells r) c → Names c r
naming r c held = one_of (λ d. Names d r) (named_cells r) (all_named r) c held
