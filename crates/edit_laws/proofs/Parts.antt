-- What the edits of several kinds of rows have in common: values that may be left out, tests that are not passed, ids, users
-- and cells.
use Rattle.std.proofs.Common.{◌≡◌, ◌<◌, ◌≤◌, ◌∙◌, inl, inr, ℕ, List, [], ◌∷◌, true, false, refl, sym, ap, arith}
use Rattle.std.specs.Prelude.{Bool, Option, Some, None, not, ◌&&◌, ◌==◌, is_none, is_some, unwrap_or, nat_le}
use Rattle.std.specs.Option.{ForSome}
use Rattle.std.specs.List.{IsDistinct}
use Rattle.std.specs.Ordering.{eq_by_cmp}
use Rattle.std.proofs.lemmas.Bool.{cases_Bool, false_from_ne_true, eqb-true, leb-false}
use Rattle.std.specs.Cmp.{Equal-is}
use Rattle.content_rows.specs.CellOrder.{cell_cmp}
use Rattle.content_rows.specs.Kinds.{IsId}
use Rattle.content_rows.specs.ValidRow.{IsValidSeq}
use Rattle.content_rows.proofs.CellLemmas.{cell_cmp_exact}
use Rattle.content_rows.specs.declared.cell.Cell.{Cell}
use Rattle.content_rows.specs.declared.cell.Cell.TheVariants as cell
use Rattle.content_rows.specs.declared.row.Row.{Row}
use Rattle.content_rows.specs.declared.row.Row.TheVariants as row
use Rattle.content_rows.specs.declared.row.Seq.{Seq}
use Rattle.content_rows.specs.declared.row.User.{User}
use Rattle.content_state.specs.State.{State}
use Rattle.indexed_rows.specs.Rows.{row_at, seq_of, user_of}
use Rattle.content_state.specs.SiteRules.{IsValidState}
use Rattle.valid_edits.specs.Fits.{is_absent_user, FitsOrMayGo}
use Rattle.valid_edits.proofs.Together.{is_seq, is_user}
use Rattle.valid_edits.proofs.Valid.{right_at, raised_seq_fits}
use Rattle.site_commands.specs.Causes.{where_true}
use Rattle.site_commands.specs.Nodes.{absent_uid, no_id_left}
use Rattle.site_commands.specs.declared.answer.Refusal.{Refusal}

-- ---- values that may be left out

-- what is so of a value that is sent, and of the one that stands without it
pub sent_or_kept : {X : Type 0} (P : X → Type 0) (sent : Option X) (kept : X) → ForSome sent P → P kept → P (unwrap_or sent kept)
sent_or_kept P None kept of_sent of_kept = of_kept
sent_or_kept P (Some x) kept of_sent of_kept = of_sent x refl

-- ---- tests

-- a cause that is not there is a test that was not true
pub untrue : (b : Bool) (r : Refusal) → where_true b r ≡ None → b ≡ false
untrue true r h = cc
untrue false r h = refl

pub none_there : {X : Type 0} (o : Option X) → is_some o ≡ false → o ≡ None
none_there None h = refl
none_there (Some x) h = cc

-- ---- ids

-- where an id is left to give, the next one is one
pub next_is_id : (next : ℕ) → 1 ≤ next → no_id_left next ≡ None → IsId next
next_is_id next some left =
    let below : next < 4294967295 = leb-false 4294967295 next (untrue (nat_le 4294967295 next) _ left) in
    (some, omega arith)

-- the ids that are next are each one at least
pub seq_right : (state : State) → IsValidState state → (seq : Seq) → seq_of state.rows ≡ Some seq → IsValidSeq seq
seq_right state valid seq is = right_at state valid cell.Seq (row.Seq seq) (is_seq (row_at state.rows cell.Seq) seq is)

-- ids fit that are no less than those that are next
pub seq_written : (state : State) → IsValidState state → (seq next : Seq) → seq_of state.rows ≡ Some seq
    → seq.node ≤ next.node → seq.term ≤ next.term → seq.user ≤ next.user → FitsOrMayGo state.rows cell.Seq (Some (row.Seq next))
seq_written state valid seq next is node term user =
    let old = seq_right state valid seq is in
    (record { node = omega arith; term = omega arith; user = omega arith }, raised_seq_fits state valid seq next is node term user)

-- ---- users

-- a user that is 0 or there has a number below the last
pub user_in_range : (state : State) → IsValidState state → (uid : ℕ) → is_absent_user state.rows uid ≡ false → uid ≤ 4294967294
user_in_range state valid uid present = elim (cases_Bool (uid == 0)) as (λ _. uid ≤ 4294967294) [
  | inl nobody ↦ let zero = eqb-true uid 0 nobody in omega arith
  | inr other ↦ there (user_of state.rows uid) refl (sym (ap (λ b. not b && is_none (user_of state.rows uid)) other) ∙ present)
]
  where
    there : (o : Option User) → user_of state.rows uid ≡ o → is_none o ≡ false → uid ≤ 4294967294
    there None is h = cc
    there (Some user) is h =
        let right = right_at state valid (cell.User uid) (row.User user) (is_user (row_at state.rows (cell.User uid)) user is) in right.0.1

-- the user that is sent, or the one that stands without it, is 0 or there
pub user_present : (rows : List (Cell × Row)) (sent : Option ℕ) (kept : ℕ) → absent_uid rows sent ≡ None → is_absent_user rows kept ≡ false → is_absent_user rows (unwrap_or sent kept) ≡ false
user_present rows None kept h present = present
user_present rows (Some uid) kept h present = untrue (is_absent_user rows uid) _ h

-- ---- cells

pub no_cell : IsDistinct (eq_by_cmp cell_cmp) []
unfolding IsDistinct
no_cell = tt

pub one_cell : (c : Cell) → IsDistinct (eq_by_cmp cell_cmp) (c ∷ [])
unfolding IsDistinct
one_cell c = (tt, tt)

pub two_cells : (c d : Cell) → (c ≡ d → ⊥) → IsDistinct (eq_by_cmp cell_cmp) (c ∷ d ∷ [])
unfolding IsDistinct
two_cells c d apart = ((false_from_ne_true (eq_by_cmp cell_cmp c d) (λ same. apart (cell_cmp_exact c d ((Equal-is (cell_cmp c d)).0 same))), tt), (tt, tt))
