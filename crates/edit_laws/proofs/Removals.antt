-- Edits that remove comments: their writes remove rows, and are to distinct cells.
use Rattle.std.proofs.Common.{◌≡◌, ◌∙◌, ℕ, List, [], ◌∷◌, refl, sym, ap, subst}
use Rattle.std.specs.Prelude.{Bool, true, false, Option, Some, None, cond, map, All}
use Rattle.std.specs.List.{AllByRecursion, IsDistinct, cons_option, filter, filter_map}
use Rattle.std.specs.List.Sorted.{IsStrictlySortedBy}
use Rattle.std.specs.Map.{keys_of}
use Rattle.std.specs.Ordering.{eq_by_cmp}
use Rattle.std.specs.declared.cmp.Ordering.TheVariants.{Less}
use Rattle.std.proofs.lemmas.List.Elements.{All-nil, All-cons}
use Rattle.std.proofs.lemmas.Map.Keys.{IsDistinct-from_sorted}
use Rattle.content_rows.specs.CellOrder.{cell_cmp}
use Rattle.content_rows.proofs.CellLemmas.{cell_cmp_told}
use Rattle.content_rows.specs.declared.cell.Cell.{Cell}
use Rattle.content_rows.specs.declared.cell.Cell.TheVariants as cell
use Rattle.content_rows.specs.declared.row.Row.{Row}
use Rattle.content_rows.specs.declared.row.Comment.{Comment}
use Rattle.indexed_rows.specs.Write.{Write}
use Rattle.indexed_rows.specs.Rows.{comments_on, InOrder}
use Rattle.state_commits.proofs.Covered.{kept_if, comment_on, gathered_at_once}
use Rattle.valid_edits.proofs.Counts.{gathered_on, entry_on}
use Rattle.site_commands.specs.Causes.{removed}

abbrev pub removals : List (ℕ × Comment) → List Write
removals es = map (λ e. removed (cell.Comment e.0)) es

abbrev pub cells_of : List (ℕ × Comment) → List Cell
cells_of es = map (λ e. cell.Comment e.0) es

pub removed_cells : (es : List (ℕ × Comment)) → map (λ w. w.cell) (removals es) ≡ cells_of es
removed_cells [] = refl
removed_cells (e ∷ es) = ap (λ l. cell.Comment e.0 ∷ l) (removed_cells es)

pub all_removed : (es : List (ℕ × Comment)) → All (λ w. w.row ≡ None) (removals es)
all_removed [] = All-nil (λ w. w.row ≡ None)
all_removed (e ∷ es) = All-cons (λ w. w.row ≡ None) (removed (cell.Comment e.0)) (removals es) refl (all_removed es)

-- ---- comments that are gathered stand in order

-- what is gathered of an entry has its cell
module _ (g : Cell × Row → Option (ℕ × Comment)) (own : (e : Cell × Row) (y : ℕ × Comment) → g e ≡ Some y → e.0 ≡ cell.Comment y.0) where
  all_gathered : (P : Cell → Type 0) (es : List (Cell × Row)) → AllByRecursion P (keys_of es) → AllByRecursion P (cells_of (filter_map g es))
  all_gathered P [] all = tt
  all_gathered P (e ∷ es) all = go (g e) refl (all_gathered P es all.1)
    where
      go : (o : Option (ℕ × Comment)) → g e ≡ o → AllByRecursion P (cells_of (filter_map g es)) → AllByRecursion P (cells_of (cons_option o (filter_map g es)))
      go None is rest = rest
      go (Some y) is rest = (subst P (own e y is) all.0, rest)

  sorted_gathered : (es : List (Cell × Row)) → InOrder es → IsStrictlySortedBy cell_cmp (cells_of (filter_map g es))
  unfolding IsStrictlySortedBy
  sorted_gathered [] sorted = tt
  sorted_gathered (e ∷ es) sorted = go (g e) refl (sorted_gathered es sorted.1)
    where
      go : (o : Option (ℕ × Comment)) → g e ≡ o → IsStrictlySortedBy cell_cmp (cells_of (filter_map g es)) → IsStrictlySortedBy cell_cmp (cells_of (cons_option o (filter_map g es)))
      go None is rest = rest
      go (Some y) is rest = (all_gathered (λ c. cell_cmp (cell.Comment y.0) c ≡ Less) es (subst (λ d. AllByRecursion (λ c. cell_cmp d c ≡ Less) (keys_of es)) (own e y is) sorted.0), rest)

kept_is : (p : ℕ × Comment → Bool) (o : Option (ℕ × Comment)) (y : ℕ × Comment) → kept_if p o ≡ Some y → o ≡ Some y
kept_is p None y is = cc
kept_is p (Some x) y is = go (p x) is
  where
    go : (b : Bool) → cond b (Some x) None ≡ Some y → Some x ≡ Some y
    go true same = same
    go false same = cc

module _ (rows : List (Cell × Row)) (sorted : InOrder rows) (n : ℕ) where
  -- the comments of a node
  sorted_on : IsStrictlySortedBy cell_cmp (cells_of (comments_on rows n))
  sorted_on =
      subst (λ (l : List (ℕ × Comment)). IsStrictlySortedBy cell_cmp (cells_of l)) (sym (gathered_on rows n))
      (sorted_gathered (comment_on n) (λ e y is. ap (λ (x : Cell × Row). x.0) (entry_on n e y is).0) rows sorted)

  -- those of them that pass a test
  sorted_kept : (p : ℕ × Comment → Bool) → IsStrictlySortedBy cell_cmp (cells_of (filter p (comments_on rows n)))
  sorted_kept p =
      subst (λ (l : List (ℕ × Comment)). IsStrictlySortedBy cell_cmp (cells_of l)) (sym (ap (filter p) (gathered_on rows n) ∙ gathered_at_once p (comment_on n) rows))
      (sorted_gathered (λ e. kept_if p (comment_on n e)) (λ e y is. ap (λ (x : Cell × Row). x.0) (entry_on n e y (kept_is p (comment_on n e) y is)).0) rows sorted)

  pub distinct_kept : (p : ℕ × Comment → Bool) → IsDistinct (eq_by_cmp cell_cmp) (cells_of (filter p (comments_on rows n)))
  distinct_kept p = IsDistinct-from_sorted cell_cmp (cells_of (filter p (comments_on rows n))) (sorted_kept p)

  -- a node stands before all comments
  before_all : (es : List (ℕ × Comment)) → AllByRecursion (λ c. cell_cmp (cell.Node n) c ≡ Less) (cells_of es)
  before_all [] = tt
  before_all (e ∷ es) = (cell_cmp_told (cell.Node n) (cell.Comment e.0), before_all es)

  with_node : IsStrictlySortedBy cell_cmp (cell.Node n ∷ cells_of (comments_on rows n))
  unfolding IsStrictlySortedBy
  with_node = (before_all (comments_on rows n), sorted_on)

  pub distinct_with_node : IsDistinct (eq_by_cmp cell_cmp) (cell.Node n ∷ cells_of (comments_on rows n))
  distinct_with_node = IsDistinct-from_sorted cell_cmp (cell.Node n ∷ cells_of (comments_on rows n)) with_node
