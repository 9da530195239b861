-- The site that a new installation begins with is valid.
use Rattle.std.proofs.Common.{◌≡◌, refl, sym, subst}
use Rattle.std.specs.Prelude.{[], None, All}
use Rattle.std.specs.List.Sorted.{IsStrictlySortedBy}
use Rattle.std.specs.declared.cmp.Ordering.{Ordering}
use Rattle.cacheability.specs.Tag.{tag_cmp}
use Rattle.content_rows.specs.StarterRows.{starter_rows}
use Rattle.content_rows.specs.ValidRow.{IsValidRow}
use Rattle.content_rows.specs.Permission.{anonymous, authenticated}
use Rattle.content_rows.proofs.StarterLemmas.{in_cell_order, starter_valid}
use Rattle.content_state.specs.State.{State}
use Rattle.indexed_rows.specs.Rows.{InOrder}
use Rattle.content_state.specs.SiteRules.{MeetsSiteRules, IsValidState}
use Rattle.content_state.proofs.Faults.{found_later}
use Rattle.site_alone.specs.Sites.{rows_of, starter_site}

-- the rows stand in the order of their cells, so setting them in turn gives them as they are
pub in_turn : rows_of starter_rows ≡ starter_rows
unfolding starter_rows
in_turn = refl

meets : MeetsSiteRules starter_rows
unfolding starter_rows anonymous authenticated
meets = found_later starter_rows None in_cell_order refl refl

none_in_order : {K : Type 0} (cmp : K → K → Ordering) → IsStrictlySortedBy cmp []
unfolding IsStrictlySortedBy
none_in_order cmp = tt

pub valid : IsValidState starter_site
valid = record {
  in_order = subst InOrder (sym in_turn) in_cell_order;
  counts_in_order = none_in_order tag_cmp;
  rows = subst (λ rows. All (λ e. IsValidRow e.0 e.1) rows) (sym in_turn) starter_valid;
  together = subst MeetsSiteRules (sym in_turn) meets;
}

pub valid_as : (state : State) → state ≡ starter_site → IsValidState state
valid_as state is = subst IsValidState (sym is) valid
