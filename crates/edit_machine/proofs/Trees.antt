-- The terms and their chains of parents once a term is set: its own parent is another, and where it was there, the terms are
-- the same.
use Rattle.std.proofs.Common.{◌≡◌, ◌∙◌, ℕ, suc, List, [], ◌∷◌, length, map, Bool, true, false, Option, Some, None, refl, sym, ap}
use Rattle.std.specs.Prelude.{◌||◌, ◌&&◌, nat_lt, is_some, option_and_then, codes}
use Rattle.std.specs.List.{list_any}
use Rattle.content_rows.specs.CellOrder.{cell_cmp}
use Rattle.content_rows.proofs.CellLemmas.{cell_cmp_exact, cell_cmp_total}
use Rattle.content_rows.specs.declared.cell.Cell.{Cell}
use Rattle.content_rows.specs.declared.cell.Cell.TheVariants as cell
use Rattle.content_rows.specs.declared.row.Row.{Row}
use Rattle.content_rows.specs.declared.row.Row.TheVariants as row
use Rattle.content_rows.specs.declared.row.Term.{Term}
use Rattle.content_state.specs.Chain.{is_longer, comes_back, with_parent, parent_in}
use Rattle.indexed_rows.specs.Rows.{row_at, with_row, as_term, term_of, term_entry, terms_of, InOrder}
use Rattle.state_commits.proofs.Parents.{chain_set}
use Rattle.json_keys.specs.declared.rule.Rule.TheVariants as rule
use Rattle.site_commands.specs.Causes.{breaks}
use Rattle.site_commands.specs.Terms.{is_deep, is_cyclic, bad_trees}
use Rattle.edit_machine.specs.First.{first_cause}
use Rattle.edit_machine.proofs.Exchanged.{as_many, gathered_same}

-- ---- the chains

pub longer_set : (rows : List (Cell × Row)) (tid : ℕ) (new : Term) (most k : ℕ)
    → is_longer (with_parent (parent_in rows) tid new.parent) most k ≡ is_longer (parent_in (with_row rows (cell.Term tid) (row.Term new))) most k
longer_set rows tid new most k = sym (ap (λ c. nat_lt most (length c)) (chain_set rows tid new (suc most) k))

-- ---- where the term was there

-- its row, by the term
there : (o : Option Row) (old : Term) → option_and_then as_term o ≡ Some old → o ≡ Some (row.Term old)
there (Some (row.Term r)) old is = let same : r ≡ old = cc in ap (λ t. Some (row.Term t)) same
there None old is = cc
there (Some _) old is = cc

record WasThere (rows : List (Cell × Row)) (tid : ℕ) : Type 0 where
  old : Term
  at : row_at rows (cell.Term tid) ≡ Some (row.Term old)

was_there : (rows : List (Cell × Row)) (tid : ℕ) → is_some (term_of rows tid) ≡ true → WasThere rows tid
was_there rows tid some = go (term_of rows tid) refl some
  where
    go : (o : Option Term) → term_of rows tid ≡ o → is_some o ≡ true → WasThere rows tid
    go (Some old) is some = record { old = old; at = there (row_at rows (cell.Term tid)) old is }
    go None is some = cc

any_by : (f : ℕ → Bool) (es : List (ℕ × Term)) → list_any f (map (λ e. e.0) es) ≡ list_any (λ e. f e.0) es
any_by f [] = refl
any_by f (e ∷ es) = ap (λ b. f e.0 || b) (any_by f es)

module _ (rows : List (Cell × Row)) (sorted : InOrder rows) (tid : ℕ) (some : is_some (term_of rows tid) ≡ true) (new : Term) where
  -- the rows with the term set
  abbrev After : List (Cell × Row)
  After = with_row rows (cell.Term tid) (row.Term new)

  was : WasThere rows tid
  was = was_there rows tid some

  pub comes_back_set : (k : ℕ) → comes_back (with_parent (parent_in rows) tid new.parent) (length rows) k ≡ is_cyclic After k
  comes_back_set k =
      let many : length After ≡ length rows = as_many cell_cmp cell_cmp_total cell_cmp_exact rows (cell.Term tid) (row.Term was.old) (row.Term new) sorted was.at in
      ap (λ b. b && is_longer (with_parent (parent_in rows) tid new.parent) (suc (length rows)) k) (longer_set rows tid new 9 k)
      ∙ ap (λ b. is_longer (parent_in After) 9 k && b) (longer_set rows tid new (suc (length rows)) k)
      ∙ sym (ap (λ n. comes_back (parent_in After) n k) many)

  -- whether some term passes by its number: the same of those that were there
  pub any_set : (f : ℕ → Bool) → list_any (λ e. f e.0) (terms_of rows) ≡ list_any (λ e. f e.0) (terms_of After)
  any_set f =
      sym (any_by f (terms_of rows))
      ∙ sym (ap (list_any f) (gathered_same cell_cmp cell_cmp_total cell_cmp_exact term_entry (λ e. e.0) rows (cell.Term tid) (row.Term was.old) (row.Term new) sorted was.at refl))
      ∙ any_by f (terms_of After)

-- a chain that comes back is too long as well
deep_too : (rows : List (Cell × Row)) (es : List (ℕ × Term)) → list_any (λ e. is_deep rows e.0) es ≡ false → list_any (λ e. is_cyclic rows e.0) es ≡ false
deep_too rows [] none = refl
deep_too rows (e ∷ es) none =
    both (is_deep rows e.0) (is_longer (parent_in rows) (suc (length rows)) e.0) (list_any (λ d. is_deep rows d.0) es) (list_any (λ d. is_cyclic rows d.0) es) none (deep_too rows es)
  where
    both : (a b c d : Bool) → (a || c) ≡ false → (c ≡ false → d ≡ false) → ((a && b) || d) ≡ false
    both true b c d none rest = cc
    both false b c d none rest = rest none

-- where none is too long, nothing refuses them
pub no_bad_trees : (rows : List (Cell × Row)) → list_any (λ e. is_deep rows e.0) (terms_of rows) ≡ false → None ≡ first_cause (bad_trees rows)
no_bad_trees rows none = neither (list_any (λ e. is_cyclic rows e.0) (terms_of rows)) (list_any (λ e. is_deep rows e.0) (terms_of rows)) (deep_too rows (terms_of rows) none) none
  where
    neither : (cyclic deep : Bool) → cyclic ≡ false → deep ≡ false
        → None ≡ first_cause (breaks (codes "parent") rule.Cycle cyclic ∷ breaks (codes "parent") rule.Deep deep ∷ [])
    neither false false _ _ = refl
    neither true deep is _ = cc
    neither false true _ is = cc
