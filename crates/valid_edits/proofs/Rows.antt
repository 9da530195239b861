-- The rows of a state as a map: an entry that passes a test is found at its cell, and what is found passes.
use Rattle.std.proofs.Common.{◌≡◌, ◌⊎◌, ◌∙◌, ℕ, List, [], ◌∷◌, true, false, refl, sym, ap, inl, inr}
use Rattle.std.specs.Prelude.{Bool, Option, Some, None, cond, not, ◌||◌, option_map, option_and_then, find}
use Rattle.std.specs.List.{list_any}
use Rattle.std.specs.Cmp.{Equal-is}
use Rattle.std.specs.Ordering.{is_eq}
use Rattle.std.proofs.lemmas.Bool.{cases_Bool, both_ways, false_from_ne_true, or_parts}
use Rattle.std.proofs.lemmas.List.Folds.{Any-from_list_any, list_any-from_Any}
use Rattle.std.proofs.lemmas.Slice.Eq.{bytes_eq-Decides}
use Rattle.content_rows.specs.CellOrder.{cell_cmp}
use Rattle.content_rows.proofs.CellLemmas.{cell_cmp_exact, cell_cmp_total, tells_cells_apart}
use Rattle.content_rows.specs.declared.cell.Cell.{Cell}
use Rattle.content_rows.specs.declared.row.Row.{Row}
use Rattle.content_rows.specs.declared.row.Row.TheVariants as row
use Rattle.content_rows.specs.declared.row.Seq.{Seq}
use Rattle.content_rows.specs.declared.row.User.{User}
use Rattle.content_rows.specs.declared.row.Term.{Term}
use Rattle.content_rows.specs.declared.row.Node.{Node}
use Rattle.content_rows.specs.declared.row.Listing.{Listing}
use Rattle.content_rows.specs.declared.row.Session.{Session}
use Rattle.content_rows.specs.declared.row.Comment.{Comment}
use Rattle.content_rows.specs.declared.row.Talk.{Talk}
use Rattle.indexed_rows.specs.Rows.{row_at, as_seq, as_user, as_term, as_node, as_listing, as_session, as_comment, as_talk, InOrder}
use Rattle.indexed_rows.specs.Texts.{is_text}
use Rattle.state_commits.proofs.Entries.{same_or_not}
use Rattle.state_commits.proofs.Owners.{is_found, is_held}

-- a test that is both true and false
pub clash : {P : Type 0} {b : Bool} → b ≡ true → b ≡ false → P
clash if_true if_false = absurd (both_ways _ if_false if_true)

pub one_cell_or_two : (d c : Cell) → (d ≡ c) ⊎ (d ≡ c → ⊥)
one_cell_or_two d c = same_or_not cell_cmp cell_cmp_total cell_cmp_exact d c

-- whether a cell is another than this one
abbrev pub is_other : Cell → Cell → Bool
is_other c d = not (is_eq (cell_cmp d c))

pub other_cell : (d c : Cell) → is_other c d ≡ true → d ≡ c → ⊥
other_cell d c other same =
    let level : is_eq (cell_cmp d c) ≡ true = ap is_eq ((tells_cells_apart d c).1 same) in both_ways _ (ap not level) other

pub is_other_cell : (d c : Cell) → (d ≡ c → ⊥) → is_other c d ≡ true
is_other_cell d c other = ap not (false_from_ne_true _ (λ level. other (cell_cmp_exact d c ((Equal-is (cell_cmp d c)).0 level))))

-- a row that is found, and passes a test
pub record PassesAt (p : Cell × Row → Bool) (rows : List (Cell × Row)) : Type 0 where
  pub cell : Cell
  pub row : Row
  pub at : row_at rows cell ≡ Some row
  pub passes : p (cell, row) ≡ true

pub some_passes : (p : Cell × Row → Bool) (rows : List (Cell × Row)) → InOrder rows → list_any p rows ≡ true → PassesAt p rows
some_passes p rows sorted any =
    let e = Any-from_list_any p rows any in
    record {
      cell = e.1.0;
      row = e.1.1;
      at = is_found rows e.1.0 e.1.1 sorted (e.0, e.2, e.3);
      passes = e.4;
    }

pub it_passes : (p : Cell × Row → Bool) (rows : List (Cell × Row)) (c : Cell) (r : Row) → row_at rows c ≡ Some r → p (c, r) ≡ true → list_any p rows ≡ true
it_passes p rows c r at passes =
    let e = is_held rows c r at in list_any-from_Any p rows (e.0, (c, r), e.1, e.2, passes)

-- none that is found is none that passes
pub none_found : {X : Type 0} (p : X → Bool) (xs : List X) → find p xs ≡ None → list_any p xs ≡ false
none_found p [] h = refl
none_found p (x ∷ xs) h = elim (cases_Bool (p x)) as (λ _. list_any p (x ∷ xs) ≡ false) [
  | inl passes ↦ let e : Some x ≡ None = sym (ap (λ b. cond b (Some x) (find p xs)) passes) ∙ h in cc
  | inr fails ↦ ap (λ b. b || list_any p xs) fails ∙ none_found p xs (sym (ap (λ b. cond b (Some x) (find p xs)) fails) ∙ h)
]

pub find_none : {X : Type 0} (p : X → Bool) (xs : List X) → list_any p xs ≡ false → find p xs ≡ None
find_none p [] h = refl
find_none p (x ∷ xs) h =
    let parts = or_parts (p x) (list_any p xs) h in
    ap (λ b. cond b (Some x) (find p xs)) parts.0 ∙ find_none p xs parts.1

pub no_map : {X Y : Type 0} (f : X → Y) (o : Option X) → option_map f o ≡ None → o ≡ None
no_map f None h = refl
no_map f (Some x) h = cc

-- a text and the one that a row has
pub text_is : (text : List ℕ) (own : Option (List ℕ)) → is_text text own ≡ true → own ≡ Some text
text_is text None h = cc
text_is text (Some own) h = ap Some ((bytes_eq-Decides own text).0 h)

pub is_text_of : (text : List ℕ) (own : Option (List ℕ)) → own ≡ Some text → is_text text own ≡ true
is_text_of text None h = cc
is_text_of text (Some own) h = let same : own ≡ text = cc in (bytes_eq-Decides own text).1 same

-- ---- a row that is found as its kind

pub is_seq : (o : Option Row) (r : Seq) → option_and_then as_seq o ≡ Some r → o ≡ Some (row.Seq r)
is_seq None r h = cc
is_seq (Some (row.Seq q)) r h = cc
is_seq (Some _) r h = cc

pub is_user : (o : Option Row) (r : User) → option_and_then as_user o ≡ Some r → o ≡ Some (row.User r)
is_user None r h = cc
is_user (Some (row.User q)) r h = cc
is_user (Some _) r h = cc

pub is_term : (o : Option Row) (r : Term) → option_and_then as_term o ≡ Some r → o ≡ Some (row.Term r)
is_term None r h = cc
is_term (Some (row.Term q)) r h = cc
is_term (Some _) r h = cc

pub is_node : (o : Option Row) (r : Node) → option_and_then as_node o ≡ Some r → o ≡ Some (row.Node r)
is_node None r h = cc
is_node (Some (row.Node q)) r h = cc
is_node (Some _) r h = cc

pub is_listing : (o : Option Row) (r : Listing) → option_and_then as_listing o ≡ Some r → o ≡ Some (row.Listing r)
is_listing None r h = cc
is_listing (Some (row.Listing q)) r h = cc
is_listing (Some _) r h = cc

pub is_session : (o : Option Row) (r : Session) → option_and_then as_session o ≡ Some r → o ≡ Some (row.Session r)
is_session None r h = cc
is_session (Some (row.Session q)) r h = cc
is_session (Some _) r h = cc

pub is_comment : (o : Option Row) (r : Comment) → option_and_then as_comment o ≡ Some r → o ≡ Some (row.Comment r)
is_comment None r h = cc
is_comment (Some (row.Comment q)) r h = cc
is_comment (Some _) r h = cc

pub is_talk : (o : Option Row) (r : Talk) → option_and_then as_talk o ≡ Some r → o ≡ Some (row.Talk r)
is_talk None r h = cc
is_talk (Some (row.Talk q)) r h = cc
is_talk (Some _) r h = cc
