-- The chains of parents after the row of a term or of a comment is set: as if that one alone stood elsewhere.
use Rattle.std.proofs.Common.{ℕ, List, ◌≡◌, ◌≢◌, ◌∙◌, ◌⊎◌, inl, inr, true, false, refl, sym, ap}
use Rattle.std.specs.Prelude.{◌==◌, Option, option_and_then, if◌then◌else◌}
use Rattle.std.proofs.lemmas.Bool.Decides.{eqb_tells}
use Rattle.content_rows.specs.CellOrder.{cell_cmp}
use Rattle.content_rows.proofs.CellLemmas.{cell_cmp_exact, cell_cmp_total}
use Rattle.content_rows.specs.declared.cell.Cell.{Cell}
use Rattle.content_rows.specs.declared.cell.Cell.TheVariants as cell
use Rattle.content_rows.specs.declared.row.Row.{Row}
use Rattle.content_rows.specs.declared.row.Row.TheVariants as row
use Rattle.content_rows.specs.declared.row.Term.{Term}
use Rattle.content_rows.specs.declared.row.Comment.{Comment}
use Rattle.content_state.specs.Chain.{chain, parent_in, reply_in, with_parent}
use Rattle.indexed_rows.specs.Rows.{with_row, as_term, as_comment}
use Rattle.content_state.proofs.Chains.{chains_stay}
use Rattle.state_commits.proofs.Entries.{found_put_same, found_put_other}

module _ (rows : List (Cell × Row)) (id : ℕ) (term : Term) where
  -- the rows with the term's row set
  abbrev After : List (Cell × Row)
  After = with_row rows (cell.Term id) (row.Term term)

  abbrev parent_at : Option Row → Option ℕ
  parent_at o = option_and_then (λ t. t.parent) (option_and_then as_term o)

  same_id : (k : ℕ) → cell.Term k ≡ cell.Term id → k ≡ id
  same_id k e = cc

  pub parent_set : (k : ℕ) → parent_in After k ≡ with_parent (parent_in rows) id term.parent k
  parent_set k = elim (eqb_tells k id) as (λ _. parent_in After k ≡ with_parent (parent_in rows) id term.parent k) [
    | inl is ↦ ap (λ n. parent_in After n) is.1
        ∙ ap parent_at (found_put_same cell_cmp cell_cmp_total cell_cmp_exact rows (cell.Term id) (row.Term term))
        ∙ sym (ap (λ b. if b then term.parent else parent_in rows k) is.0)
    | inr is ↦ ap parent_at (found_put_other cell_cmp cell_cmp_total cell_cmp_exact rows (cell.Term id) (row.Term term) (cell.Term k) (λ e. is.1 (same_id k e)))
        ∙ sym (ap (λ b. if b then term.parent else parent_in rows k) is.0)
  ]

  pub chain_set : (most k : ℕ) → chain (parent_in After) most k ≡ chain (with_parent (parent_in rows) id term.parent) most k
  chain_set most k = chains_stay (with_parent (parent_in rows) id term.parent) (parent_in After) (λ _. true) (λ j _. parent_set j) (λ j above is e. refl) most k refl

module _ (rows : List (Cell × Row)) (id : ℕ) (comment : Comment) where
  -- the rows with the comment's row set
  abbrev WithComment : List (Cell × Row)
  WithComment = with_row rows (cell.Comment id) (row.Comment comment)

  abbrev reply_at : Option Row → Option ℕ
  reply_at o = option_and_then (λ c. c.parent) (option_and_then as_comment o)

  same_comment : (k : ℕ) → cell.Comment k ≡ cell.Comment id → k ≡ id
  same_comment k e = cc

  pub reply_set : (k : ℕ) → reply_in WithComment k ≡ with_parent (reply_in rows) id comment.parent k
  reply_set k = elim (eqb_tells k id) as (λ _. reply_in WithComment k ≡ with_parent (reply_in rows) id comment.parent k) [
    | inl is ↦ ap (λ n. reply_in WithComment n) is.1
        ∙ ap reply_at (found_put_same cell_cmp cell_cmp_total cell_cmp_exact rows (cell.Comment id) (row.Comment comment))
        ∙ sym (ap (λ b. if b then comment.parent else reply_in rows k) is.0)
    | inr is ↦ ap reply_at (found_put_other cell_cmp cell_cmp_total cell_cmp_exact rows (cell.Comment id) (row.Comment comment) (cell.Comment k) (λ e. is.1 (same_comment k e)))
        ∙ sym (ap (λ b. if b then comment.parent else reply_in rows k) is.0)
  ]

  pub reply_chain_set : (most k : ℕ) → chain (reply_in WithComment) most k ≡ chain (with_parent (reply_in rows) id comment.parent) most k
  reply_chain_set most k = chains_stay (with_parent (reply_in rows) id comment.parent) (reply_in WithComment) (λ _. true) (λ j _. reply_set j) (λ j above is e. refl) most k refl
