-- Chains of parents, said of the map from cells to rows: which stay after a write, and that none is long.
use Rattle.std.proofs.Common.{◌≡◌, ◌∙◌, ◌⊎◌, inl, inr, ℕ, zero, suc, List, [], ◌∷◌, true, false, refl, ap, subst, sym, arith, length}
use Rattle.std.specs.Prelude.{Bool, Option, Some, None, ◌||◌, ◌++◌, nat_lt, option_and_then, Contains}
use Rattle.std.specs.List.{cons_option, filter_map, list_any}
use Rattle.std.specs.Option.{option_map_or}
use Rattle.std.proofs.lemmas.Bool.{false_from_ne_true}
use Rattle.std.proofs.lemmas.List.Elements.{Contains-append_right}
use Rattle.content_rows.specs.declared.cell.Cell.{Cell}
use Rattle.content_rows.specs.declared.cell.Cell.TheVariants as cell
use Rattle.content_rows.specs.declared.row.Row.{Row}
use Rattle.content_rows.specs.declared.row.Row.TheVariants as row
use Rattle.content_rows.specs.declared.row.Term.{Term}
use Rattle.indexed_rows.specs.Rows.{row_at, as_term, as_comment, term_of, term_entry, terms_of}
use Rattle.content_state.specs.Chain.{Up, is_longer, parent_in}
use Rattle.content_state.proofs.Chains.{chains_stay, not_longer}
use Rattle.valid_edits.specs.Named.{user_cells, parent_cells, named_cells}
use Rattle.valid_edits.specs.Fits.{IsShallow}
use Rattle.valid_edits.proofs.Rows.{clash, it_passes, one_cell_or_two, is_term}

-- the rows that stand in trees: terms, and comments with the replies to them
pub data Tree : Type 0 where
  Terms : Tree
  Replies : Tree

abbrev pub cell_in : Tree → ℕ → Cell
cell_in Terms id = cell.Term id
cell_in Replies id = cell.Comment id

-- the parent that a row of the tree names, if it is there
abbrev pub parent_of : Tree → Option Row → Option ℕ
parent_of Terms o = option_and_then (λ t. t.parent) (option_and_then as_term o)
parent_of Replies o = option_and_then (λ c. c.parent) (option_and_then as_comment o)

abbrev pub above_at : Tree → (Cell → Option Row) → Up
above_at tree at id = parent_of tree (at (cell_in tree id))

-- no chain of parents has more than nine
abbrev pub AreShort : Tree → (Cell → Option Row) → Type 0
AreShort tree at = (id : ℕ) → is_longer (above_at tree at) 9 id ≡ false

-- a parent that is named is among the cells that the row names
pub names_parent : (of : ℕ → Cell) (parent : Option ℕ) (above : ℕ) → parent ≡ Some above → Contains (parent_cells of parent) (of above)
names_parent of parent above is = subst (λ p. Contains (parent_cells of p) (of above)) (sym is) (0, omega arith, refl)

pub reply_names : (node uid : ℕ) (parent : Option ℕ) (above : ℕ) → parent ≡ Some above → Contains (cell.Node node ∷ (user_cells uid ++ parent_cells cell.Comment parent)) (cell.Comment above)
reply_names node uid parent above is =
    Contains-append_right (cell.Node node ∷ []) (user_cells uid ++ parent_cells cell.Comment parent) (cell.Comment above)
    (Contains-append_right (user_cells uid) (parent_cells cell.Comment parent) (cell.Comment above) (names_parent cell.Comment parent above is))

-- a row that has a parent is there, and names it
pub record HasParent (tree : Tree) (o : Option Row) (above : ℕ) : Type 0 where
  pub found : Row
  pub there : o ≡ Some found
  pub names : Contains (named_cells found) (cell_in tree above)

pub has_parent : (tree : Tree) (o : Option Row) (above : ℕ) → parent_of tree o ≡ Some above → HasParent tree o above
has_parent Terms None above h = cc
has_parent Terms (Some (row.Term t)) above h = record { found = row.Term t; there = refl; names = names_parent cell.Term t.parent above h }
has_parent Terms (Some _) above h = cc
has_parent Replies None above h = cc
has_parent Replies (Some (row.Comment c)) above h = record { found = row.Comment c; there = refl; names = reply_names c.node c.uid c.parent above h }
has_parent Replies (Some _) above h = cc

-- ---- a cell is among some, or not

not_first : (c d : Cell) (cells : List Cell) → (c ≡ d → ⊥) → (Contains cells d → ⊥) → Contains (c ∷ cells) d → ⊥
not_first c d cells other none (zero, l, is) = other is
not_first c d cells other none (suc k, l, is) = none (k, omega arith, is)

pub among_or_not : (d : Cell) (cells : List Cell) → Contains cells d ⊎ (Contains cells d → ⊥)
among_or_not d [] = inr (λ held. absurd (let l = held.1 in omega arith))
among_or_not d (c ∷ cells) = elim (one_cell_or_two c d) as (λ _. Contains (c ∷ cells) d ⊎ (Contains (c ∷ cells) d → ⊥)) [
  | inl same ↦ inl (0, omega arith, same)
  | inr other ↦ elim (among_or_not d cells) as (λ _. Contains (c ∷ cells) d ⊎ (Contains (c ∷ cells) d → ⊥)) [
    | inl held ↦ inl (suc held.0, (let l = held.1 in omega arith), held.2)
    | inr none ↦ inr (not_first c d cells other none)
  ]
]

abbrev is_no : {A : Type 0} → A ⊎ (A → ⊥) → Bool
is_no (inl a) = false
is_no (inr never) = true

no_from : {A : Type 0} (s : A ⊎ (A → ⊥)) → is_no s ≡ true → A → ⊥
no_from (inl a) is = cc
no_from (inr never) is = never

to_no : {A : Type 0} (s : A ⊎ (A → ⊥)) → (A → ⊥) → is_no s ≡ true
to_no (inl a) never = absurd (never a)
to_no (inr other) never = refl

-- ---- chains that stay

-- where the rows that stay are as they were, and what they name stays, a chain has as many as it had
same_long : (up up' : Up) (stays : ℕ → Bool) → ((k : ℕ) → stays k ≡ true → up' k ≡ up k) → ((k above : ℕ) → stays k ≡ true → up k ≡ Some above → stays above ≡ true)
    → (most k : ℕ) → stays k ≡ true → is_longer up' most k ≡ is_longer up most k
same_long up up' stays same closed most k is = ap (λ l. nat_lt most (length l)) (chains_stay up up' stays same closed (suc most) k is)

-- where each row has the parent that it had, all chains stay
pub short_still : (tree : Tree) (at at' : Cell → Option Row) → ((id : ℕ) → above_at tree at' id ≡ above_at tree at id) → AreShort tree at → AreShort tree at'
short_still tree at at' same short id =
    same_long (above_at tree at) (above_at tree at') (λ k. true) (λ k is. same k) (λ k above is e. refl) 9 id refl ∙ short id

-- a row without a parent is a chain alone
pub short_alone : (tree : Tree) (at : Cell → Option Row) (id : ℕ) → above_at tree at id ≡ None → is_longer (above_at tree at) 9 id ≡ false
short_alone tree at id top = not_longer (above_at tree at) 8 id top

-- where no row changes but those of some cells, and none of the others stands under one of them, the chains of the others stay
pub short_beside : (tree : Tree) (at at' : Cell → Option Row) (cells : List Cell) → ((d : Cell) → (Contains cells d → ⊥) → at' d ≡ at d)
    → ((id above : ℕ) → (Contains cells (cell_in tree id) → ⊥) → above_at tree at id ≡ Some above → Contains cells (cell_in tree above) → ⊥)
    → AreShort tree at → (id : ℕ) → (Contains cells (cell_in tree id) → ⊥) → is_longer (above_at tree at') 9 id ≡ false
short_beside tree at at' cells elsewhere none_below short id other =
    same_long (above_at tree at) (above_at tree at') (λ k. is_no (among_or_not (cell_in tree k) cells))
    (λ k is. ap (parent_of tree) (elsewhere (cell_in tree k) (no_from (among_or_not (cell_in tree k) cells) is)))
    (λ k above is e. to_no (among_or_not (cell_in tree above) cells) (none_below k above (no_from (among_or_not (cell_in tree k) cells) is) e))
    9 id (to_no (among_or_not (cell_in tree id) cells) other) ∙ short id

-- ---- all terms

any_gathered : {X Y : Type 0} (p : Y → Bool) (f : X → Option Y) (xs : List X) → list_any p (filter_map f xs) ≡ list_any (λ x. option_map_or p (f x) false) xs
any_gathered p f [] = refl
any_gathered {X} {Y} p f (x ∷ xs) = go (f x) (any_gathered p f xs)
  where
    go : (o : Option Y) → list_any p (filter_map f xs) ≡ list_any (λ x. option_map_or p (f x) false) xs
        → list_any p (cons_option o (filter_map f xs)) ≡ (option_map_or p o false || list_any (λ x. option_map_or p (f x) false) xs)
    go None rest = rest
    go (Some y) rest = ap (λ b. p y || b) rest

-- a term that is found is among all terms
pub some_term : (p : ℕ × Term → Bool) (rows : List (Cell × Row)) (id : ℕ) (t : Term) → row_at rows (cell.Term id) ≡ Some (row.Term t) → p (id, t) ≡ true → list_any p (terms_of rows) ≡ true
some_term p rows id t at passes =
    any_gathered p term_entry rows ∙ it_passes (λ e. option_map_or p (term_entry e) false) rows (cell.Term id) (row.Term t) at passes

-- where the chain of no term is long, none is
pub none_deep : (rows : List (Cell × Row)) → list_any (λ e. is_longer (parent_in rows) 9 e.0) (terms_of rows) ≡ false → IsShallow rows
none_deep rows none id = go (term_of rows id) refl
  where
    go : (o : Option Term) → term_of rows id ≡ o → is_longer (parent_in rows) 9 id ≡ false
    go None top = short_alone Terms (row_at rows) id (ap (option_and_then (λ t. t.parent)) top)
    go (Some t) is =
        false_from_ne_true _ (λ long. clash (some_term (λ e. is_longer (parent_in rows) 9 e.0) rows id t (is_term (row_at rows (cell.Term id)) t is) long) none)
