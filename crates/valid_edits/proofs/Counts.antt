-- How many comments a node has, along the rows: after a write, and before a comment.
use Rattle.std.proofs.Common.{◌≡◌, ◌≤◌, ◌<◌, ◌+◌, ◌∙◌, ◌⊎◌, inl, inr, ℕ, zero, suc, List, [], ◌∷◌, true, false, refl, sym, ap, subst, arith, length}
use Rattle.std.specs.Prelude.{Bool, Option, Some, None, cond, ◌==◌, nat_lt, Contains}
use Rattle.std.specs.List.{AllByRecursion, cons_option, filter, filter_map}
use Rattle.std.specs.Map.{keys_of, remove_entry}
use Rattle.std.specs.BTreeMap.{is_at, insert_entry}
use Rattle.std.specs.Ordering.{is_eq, match_ordering}
use Rattle.std.specs.declared.cmp.Ordering.{Ordering}
use Rattle.std.specs.declared.cmp.Ordering.TheVariants.{Less, Equal, Greater}
use Rattle.std.proofs.lemmas.Bool.{le-ltb, eq-eqb}
use Rattle.std.proofs.lemmas.Bool.Decides.{eqb_tells}
use Rattle.std.proofs.lemmas.Map.{lookup-none}
use Rattle.std.proofs.lemmas.Map.Entries.{none_below_head}
use Rattle.std.proofs.lemmas.Map.Keys.{sorted_head, sorted_tail}
use Rattle.content_rows.specs.CellOrder.{cell_cmp}
use Rattle.content_rows.proofs.CellLemmas.{cell_cmp_exact, cell_cmp_total, cell_cmp_told}
use Rattle.content_rows.specs.declared.cell.Cell.{Cell}
use Rattle.content_rows.specs.declared.cell.Cell.TheVariants as cell
use Rattle.content_rows.specs.declared.row.Row.{Row}
use Rattle.content_rows.specs.declared.row.Row.TheVariants as row
use Rattle.content_rows.specs.declared.row.Comment.{Comment}
use Rattle.indexed_rows.specs.Rows.{row_at, with_row, comment_entry, comments_on, InOrder}
use Rattle.state_commits.proofs.Covered.{is_on, comment_on, gathered_at_once}

-- the comments of a node, gathered at once
pub gathered_on : (rows : List (Cell × Row)) (n : ℕ) → comments_on rows n ≡ filter_map (comment_on n) rows
gathered_on rows n = gathered_at_once (is_on n) comment_entry rows

-- ---- lists

length_cons : {Y : Type 0} (o : Option Y) (l : List Y) → length (cons_option o l) ≡ length l + length (cons_option o [])
length_cons None l = let same : length l ≡ length l + 0 = omega arith in same
length_cons (Some y) l = let same : suc (length l) ≡ length l + 1 = omega arith in same

pub one_at_most : {Y : Type 0} (o : Option Y) → length (cons_option o []) ≤ 1
one_at_most None = let least : 0 ≤ 1 = omega arith in least
one_at_most (Some y) = let least : 1 ≤ 1 = omega arith in least

passing_at_most : {X : Type 0} (p : X → Bool) (xs : List X) → length (filter p xs) ≤ length xs
passing_at_most p [] = let least : 0 ≤ 0 = omega arith in least
passing_at_most {X} p (x ∷ xs) = go (p x) (passing_at_most p xs)
  where
    go : (b : Bool) → length (filter p xs) ≤ length xs → length (cond b (x ∷ filter p xs) (filter p xs)) ≤ suc (length xs)
    go true rest = let one : suc (length (filter p xs)) ≤ suc (length xs) = omega arith in one
    go false rest = let one : length (filter p xs) ≤ suc (length xs) = omega arith in one

-- where one doesn't pass, at least one fewer pass
pub fewer_pass : {X : Type 0} (p : X → Bool) (xs : List X) (x : X) → Contains xs x → p x ≡ false → length (filter p xs) + 1 ≤ length xs
fewer_pass p [] x held fails = absurd (let l = held.1 in omega arith)
fewer_pass {X} p (y ∷ ys) x (zero, l, is) fails = go (p y) (ap p is ∙ fails)
  where
    go : (b : Bool) → b ≡ false → length (cond b (y ∷ filter p ys) (filter p ys)) + 1 ≤ suc (length ys)
    go true fails = cc
    go false fails =
        let rest = passing_at_most p ys in
        let one : length (filter p ys) + 1 ≤ suc (length ys) = omega arith in one
fewer_pass {X} p (y ∷ ys) x (suc k, l, is) fails = go (p y) (fewer_pass p ys x (k, omega arith, is) fails)
  where
    go : (b : Bool) → length (filter p ys) + 1 ≤ length ys → length (cond b (y ∷ filter p ys) (filter p ys)) + 1 ≤ suc (length ys)
    go true rest = let one : suc (length (filter p ys)) + 1 ≤ suc (length ys) = omega arith in one
    go false rest = let one : length (filter p ys) + 1 ≤ suc (length ys) = omega arith in one

-- what is gathered of an entry is among all that is gathered
pub gathered_held : {X Y : Type 0} (f : X → Option Y) (xs : List X) (x : X) (y : Y) → Contains xs x → f x ≡ Some y → Contains (filter_map f xs) y
gathered_held f [] x y held gives = absurd (let l = held.1 in omega arith)
gathered_held f (z ∷ zs) x y (zero, l, is) gives =
    subst (λ o. Contains (cons_option o (filter_map f zs)) y) (sym (ap f is ∙ gives)) (0, omega arith, refl)
gathered_held {X} {Y} f (z ∷ zs) x y (suc k, l, is) gives = go (f z) (gathered_held f zs x y (k, omega arith, is) gives)
  where
    go : (o : Option Y) → Contains (filter_map f zs) y → Contains (cons_option o (filter_map f zs)) y
    go None held = held
    go (Some w) held = (suc held.0, (let l = held.1 in omega arith), held.2)

-- ---- after a write

-- sums of what is gathered
gathers_more : (made rest own all one : ℕ) → made ≡ rest + own → all ≡ rest → one ≡ own → made ≤ all + one
gathers_more made rest own all one is of_all of_one = omega arith

gathers_in_place : (made rest new all old one : ℕ) → made ≡ rest + new → all ≡ rest + old → one ≡ new → made ≤ all + one
gathers_in_place made rest new all old one is of_all of_one = omega arith

gathers_behind : (made rest all before own one : ℕ) → made ≡ rest + own → all ≡ before + own → rest ≤ before + one → made ≤ all + one
gathers_behind made rest all before own one is of_all less = omega arith

gathers_over : (made rest new all old : ℕ) → made ≡ rest + new → all ≡ rest + old → old ≡ 1 → new ≤ 1 → made ≤ all
gathers_over made rest new all old is of_all one most = omega arith

gathers_same : (made rest all before own : ℕ) → made ≡ rest + own → all ≡ before + own → rest ≤ before → made ≤ all
gathers_same made rest all before own is of_all less = omega arith

gathers_fewer : (all rest own : ℕ) → all ≡ rest + own → rest ≤ all
gathers_fewer all rest own is = omega arith

module _ {Y : Type 0} (f : Cell × Row → Option Y) where
  -- how many are gathered of a list, with an entry before it, and of an entry
  abbrev many : List (Cell × Row) → ℕ
  many es = length (filter_map f es)

  abbrev many_of : Cell × Row → ℕ
  many_of e = length (cons_option (f e) [])

  with_first : (e : Cell × Row) (es : List (Cell × Row)) → many (e ∷ es) ≡ many es + many_of e
  with_first e es = length_cons (f e) (filter_map f es)

  -- a row that is set adds at most what is gathered of it
  pub more_put : (es : List (Cell × Row)) (k : Cell) (v : Row) → length (filter_map f (with_row es k v)) ≤ length (filter_map f es) + length (cons_option (f (k, v)) [])
  more_put [] k v = gathers_more (many ((k, v) ∷ [])) (many []) (many_of (k, v)) (many []) (many_of (k, v)) (with_first (k, v) []) refl refl
  more_put (e ∷ es) k v = go (cell_cmp k e.0) refl (more_put es k v)
    where
      go : (o : Ordering) → cell_cmp k e.0 ≡ o → many (with_row es k v) ≤ many es + many_of (k, v)
          → many (match_ordering o ((k, v) ∷ e ∷ es) ((e.0, v) ∷ es) (e ∷ insert_entry cell_cmp es k v)) ≤ many (e ∷ es) + many_of (k, v)
      go Less is rest = gathers_more (many ((k, v) ∷ e ∷ es)) (many (e ∷ es)) (many_of (k, v)) (many (e ∷ es)) (many_of (k, v)) (with_first (k, v) (e ∷ es)) refl refl
      go Equal is rest =
          gathers_in_place (many ((e.0, v) ∷ es)) (many es) (many_of (e.0, v)) (many (e ∷ es)) (many_of e) (many_of (k, v)) (with_first (e.0, v) es) (with_first e es)
          (ap (λ c. many_of (c, v)) (cell_cmp_exact k e.0 is))
      go Greater is rest =
          gathers_behind (many (e ∷ insert_entry cell_cmp es k v)) (many (insert_entry cell_cmp es k v)) (many (e ∷ es)) (many es) (many_of e) (many_of (k, v))
          (with_first e (insert_entry cell_cmp es k v)) (with_first e es) rest

  -- and where it takes the place of a row of which something is gathered, nothing
  pub over_put : (es : List (Cell × Row)) (k : Cell) (v old : Row) (y : Y) → InOrder es → row_at es k ≡ Some old → f (k, old) ≡ Some y → length (filter_map f (with_row es k v)) ≤ length (filter_map f es)
  over_put [] k v old y sorted at gives = cc
  over_put (e ∷ es) k v old y sorted at gives = go (cell_cmp k e.0) refl (over_put es k v old y)
    where
      never : Some old ≡ None → ⊥
      never h = cc

      row_is : Some e.1 ≡ Some old → e.1 ≡ old
      row_is h = cc

      go : (o : Ordering) → cell_cmp k e.0 ≡ o → (InOrder es → row_at es k ≡ Some old → f (k, old) ≡ Some y → many (with_row es k v) ≤ many es)
          → many (match_ordering o ((k, v) ∷ e ∷ es) ((e.0, v) ∷ es) (e ∷ insert_entry cell_cmp es k v)) ≤ many (e ∷ es)
      go Less is rest = absurd (never (sym at ∙ lookup-none (is_at (cell_cmp k)) (e ∷ es) (none_below_head cell_cmp_total k e es sorted is)))
      go Equal is rest =
          let here : Some e.1 ≡ Some old = sym (ap (λ o. cond (is_eq o) (Some e.1) (row_at es k)) is) ∙ at in
          let one : f e ≡ Some y = ap (λ c. f (c, e.1)) (sym (cell_cmp_exact k e.0 is)) ∙ ap (λ r. f (k, r)) (row_is here) ∙ gives in
          gathers_over (many ((e.0, v) ∷ es)) (many es) (many_of (e.0, v)) (many (e ∷ es)) (many_of e) (with_first (e.0, v) es) (with_first e es)
          (ap (λ o. length (cons_option o [])) one) (one_at_most (f (e.0, v)))
      go Greater is rest =
          gathers_same (many (e ∷ insert_entry cell_cmp es k v)) (many (insert_entry cell_cmp es k v)) (many (e ∷ es)) (many es) (many_of e)
          (with_first e (insert_entry cell_cmp es k v)) (with_first e es)
          (rest (sorted_tail cell_cmp e.0 (keys_of es) sorted) (sym (ap (λ o. cond (is_eq o) (Some e.1) (row_at es k)) is) ∙ at) gives)

  -- and one that is removed leaves no more
  pub fewer_cut : (t : Cell → Bool) (es : List (Cell × Row)) → length (filter_map f (remove_entry t es)) ≤ length (filter_map f es)
  fewer_cut t [] = let least : 0 ≤ 0 = omega arith in least
  fewer_cut t (e ∷ es) = go (t e.0) (fewer_cut t es)
    where
      go : (b : Bool) → many (remove_entry t es) ≤ many es → many (cond b es (e ∷ remove_entry t es)) ≤ many (e ∷ es)
      go true rest = gathers_fewer (many (e ∷ es)) (many es) (many_of e) (with_first e es)
      go false rest = gathers_same (many (e ∷ remove_entry t es)) (many (remove_entry t es)) (many (e ∷ es)) (many es) (many_of e) (with_first e (remove_entry t es)) (with_first e es) rest

-- a number of comments that is 1,000 at most stays so
pub still_few : (before first last all extra : ℕ) → before ≤ 1000 → before ≡ first → last ≤ first + extra → extra ≡ 0 → all ≡ last → all ≤ 1000
still_few before first last all extra few is more none of_all = omega arith

pub few_with_one : (before first between last all extra : ℕ) → before < 1000 → before ≡ first → between ≤ first + 0 → last ≤ between + extra → extra ≤ 1 → all ≡ last → all ≤ 1000
few_with_one before first between last all extra few is same more one of_all = omega arith

pub few_by_last : (before all count : ℕ) → before < 1000 → before + 1 ≡ all → count ≡ all → count ≤ 1000
few_by_last before all count few is of_all = omega arith

-- ---- before a comment

-- whether a comment has a lesser id
abbrev pub is_before : ℕ → ℕ × Comment → Bool
is_before id e = nat_lt e.0 id

less_id : (a b : ℕ) → cell_cmp (cell.Comment a) (cell.Comment b) ≡ Less → nat_lt a b ≡ true
less_id a b less = go (nat_lt a b) (a == b) (sym (cell_cmp_told (cell.Comment a) (cell.Comment b)) ∙ less)
  where
    go : (l e : Bool) → cond l Less (cond e Equal Greater) ≡ Less → l ≡ true
    go true e h = refl
    go false true h = cc
    go false false h = cc

pub not_itself : (a : ℕ) → nat_lt a a ≡ false
not_itself a = le-ltb a a (omega arith)

-- what is gathered is a comment of the node
abbrev pub IsOn : ℕ → Cell × Row → ℕ × Comment → Type 0
IsOn n e y = (e ≡ (cell.Comment y.0, row.Comment y.1)) × (y.1.node ≡ n)

pub entry_on : (n : ℕ) (e : Cell × Row) (y : ℕ × Comment) → comment_on n e ≡ Some y → IsOn n e y
entry_on n (cell.Comment id, row.Comment r) y gives = elim (eqb_tells r.node n) as (λ _. IsOn n (cell.Comment id, row.Comment r) y) [
  | inl is ↦
      let same : Some (id, r) ≡ Some y = sym (ap (λ b. cond {A = Option (ℕ × Comment)} b (Some (id, r)) None) is.0) ∙ gives in
      let one : (id, r) ≡ y = cc in
      (ap (λ x. (cell.Comment x.0, row.Comment x.1)) one, ap (λ x. x.1.node) (sym one) ∙ is.1)
  | inr is ↦
      let never : None ≡ Some y = sym (ap (λ b. cond {A = Option (ℕ × Comment)} b (Some (id, r)) None) is.0) ∙ gives in cc
]
entry_on n _ y gives = cc

pub on_own : (n id : ℕ) (r : Comment) → r.node ≡ n → comment_on n (cell.Comment id, row.Comment r) ≡ Some (id, r)
on_own n id r on = ap (λ b. cond {A = Option (ℕ × Comment)} b (Some (id, r)) None) (eq-eqb r.node n on)

-- what is so of all cells in order is so of one that is held
below_held : (P : Cell → Type 0) (es : List (Cell × Row)) → AllByRecursion P (keys_of es) → (c : Cell) (r : Row) → Contains es (c, r) → P c
below_held P [] all c r held = absurd (let l = held.1 in omega arith)
below_held P (e ∷ es) all c r (zero, l, is) = subst (λ (x : Cell × Row). P x.0) is all.0
below_held P (e ∷ es) all c r (suc k, l, is) = below_held P es all.1 c r (k, omega arith, is)

-- the last comment of a node: all its others stand before it
pub record Last (n : ℕ) (es : List (Cell × Row)) : Type 0 where
  pub id : ℕ
  pub comment : Comment
  pub held : Contains es (cell.Comment id, row.Comment comment)
  pub on : comment.node ≡ n
  pub all_before : length (filter (is_before id) (filter_map (comment_on n) es)) + 1 ≡ length (filter_map (comment_on n) es)

one_more : (a b c : ℕ) → a ≡ suc b → b + 1 ≡ c → a + 1 ≡ suc c
one_more a b c is all = omega arith

pub last_of : (n : ℕ) (es : List (Cell × Row)) → InOrder es → (filter_map (comment_on n) es ≡ []) ⊎ Last n es
last_of n [] sorted = inl refl
last_of n (e ∷ es) sorted = go (comment_on n e) refl (last_of n es (sorted_tail cell_cmp e.0 (keys_of es) sorted))
  where
    later : (c : Cell) (r : Row) → Contains es (c, r) → Contains (e ∷ es) (c, r)
    later c r held = (suc held.0, (let l = held.1 in omega arith), held.2)

    go : (o : Option (ℕ × Comment)) → comment_on n e ≡ o → (filter_map (comment_on n) es ≡ []) ⊎ Last n es → (filter_map (comment_on n) (e ∷ es) ≡ []) ⊎ Last n (e ∷ es)
    go None is (inl none) = inl (ap (λ o. cons_option o (filter_map (comment_on n) es)) is ∙ none)
    go None is (inr last) = inr (record {
      id = last.id;
      comment = last.comment;
      held = later (cell.Comment last.id) (row.Comment last.comment) last.held;
      on = last.on;
      all_before = subst (λ o. length (filter (is_before last.id) (cons_option o (filter_map (comment_on n) es))) + 1 ≡ length (cons_option o (filter_map (comment_on n) es))) (sym is) last.all_before;
    })
    go (Some y) is (inl none) = inr (record {
      id = y.0;
      comment = y.1;
      held = (0, omega arith, (entry_on n e y is).0);
      on = (entry_on n e y is).1;
      all_before =
          let gathered : filter_map (comment_on n) (e ∷ es) ≡ y ∷ [] = ap (λ o. cons_option o (filter_map (comment_on n) es)) is ∙ ap (λ l. y ∷ l) none in
          let tied : is_before y.0 y ≡ false = not_itself y.0 in
          let alone : length (filter (is_before y.0) (y ∷ [])) + 1 ≡ 1 = ap (λ b. length (cond b (y ∷ []) []) + 1) tied in
          subst (λ (l : List (ℕ × Comment)). length (filter (is_before y.0) l) + 1 ≡ length l) (sym gathered) alone;
    })
    go (Some y) is (inr last) = inr (record {
      id = last.id;
      comment = last.comment;
      held = later (cell.Comment last.id) (row.Comment last.comment) last.held;
      on = last.on;
      all_before =
          let less : cell_cmp e.0 (cell.Comment last.id) ≡ Less = below_held (λ k. cell_cmp e.0 k ≡ Less) es (sorted_head cell_cmp e.0 (keys_of es) sorted) (cell.Comment last.id) (row.Comment last.comment) last.held in
          let here : e.0 ≡ cell.Comment y.0 = ap (λ (x : Cell × Row). x.0) (entry_on n e y is).0 in
          let first : is_before last.id y ≡ true = less_id y.0 last.id (subst (λ c. cell_cmp c (cell.Comment last.id) ≡ Less) here less) in
          let counted : length (filter (is_before last.id) (y ∷ filter_map (comment_on n) es)) ≡ suc (length (filter (is_before last.id) (filter_map (comment_on n) es))) =
          ap (λ b. length (cond b (y ∷ filter (is_before last.id) (filter_map (comment_on n) es)) (filter (is_before last.id) (filter_map (comment_on n) es)))) first in
          subst (λ o. length (filter (is_before last.id) (cons_option o (filter_map (comment_on n) es))) + 1 ≡ length (cons_option o (filter_map (comment_on n) es))) (sym is)
          (one_more (length (filter (is_before last.id) (y ∷ filter_map (comment_on n) es))) (length (filter (is_before last.id) (filter_map (comment_on n) es))) (length (filter_map (comment_on n) es)) counted last.all_before);
    })
