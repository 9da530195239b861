-- What the rows before a cell have, in a set that is made along the rows.
use Rattle.std.proofs.Common.{◌≡◌, ◌∙◌, ℕ, List, [], ◌∷◌, ◌++◌, true, false, refl, sym, ap, subst}
use Rattle.std.specs.Prelude.{Bool, Option, Some, None, cond, ◌&&◌, ◌||◌, is_some}
use Rattle.std.specs.Option.{option_or}
use Rattle.std.specs.List.{list_any, AllByRecursion}
use Rattle.std.specs.Map.{keys_of}
use Rattle.std.specs.BTreeMap.{is_at}
use Rattle.std.specs.BTreeSet.{BTreeSet}
use Rattle.std.specs.Ordering.{is_eq, is_lt, ordering_reverse, ordering_then, nat_cmp}
use Rattle.std.specs.Cmp.{tied_itself}
use Rattle.std.specs.Cmp.Lexicographic.{texts_ties, slice_cmp}
use Rattle.std.specs.Str.{bytes_eq}
use Rattle.std.specs.declared.cmp.Ordering.{Ordering}
use Rattle.std.specs.declared.cmp.Ordering.TheVariants.{Less}
use Rattle.std.proofs.lemmas.List.Folds.{list_any-append}
use Rattle.std.proofs.lemmas.Map.Keys.{sorted_head, sorted_tail}
use Rattle.content_rows.specs.CellOrder.{cell_cmp}
use Rattle.content_rows.proofs.CellLemmas.{cell_cmp_total}
use Rattle.content_rows.specs.declared.cell.Cell.{Cell}
use Rattle.content_rows.specs.declared.row.Row.{Row}
use Rattle.content_state.specs.declared.seen.Held.{Held}
use Rattle.content_state.specs.declared.site_rules.NotASite.{NotASite}
use Rattle.indexed_rows.specs.declared.unique.Unique.{Unique}
use Rattle.indexed_rows.specs.declared.unique.Unique.TheVariants as unique
use Rattle.indexed_rows.specs.contracts.unique.UniqueOrd.TheImpl as order_of_kinds
use Rattle.content_state.specs.FirstFault.{fault_at, first_among}
use Rattle.indexed_rows.specs.Rows.{InOrder}
use Rattle.indexed_rows.specs.Texts.{text_of, is_text}
use Rattle.content_state.specs.SiteRules.{cell_fault}
use Rattle.content_state.specs.Seen.{held_cmp, is_seen, is_kind, IsSeenBefore, AddsRow}

abbrev kind_cmp : Unique → Unique → Ordering
kind_cmp = order_of_kinds.ghosts.cmp

-- two texts are level where they are of one kind and the same
level_by : (m n : Unique) (t u : List ℕ) → is_eq (ordering_then (kind_cmp m n) (slice_cmp nat_cmp t u)) ≡ (is_kind m n && bytes_eq t u)
level_by unique.NodeUuid unique.NodeUuid t u = sym (texts_ties t u)
level_by unique.TermUuid unique.TermUuid t u = sym (texts_ties t u)
level_by unique.UserUuid unique.UserUuid t u = sym (texts_ties t u)
level_by unique.UserName unique.UserName t u = sym (texts_ties t u)
level_by unique.Path unique.Path t u = sym (texts_ties t u)
level_by unique.CommentUuid unique.CommentUuid t u = sym (texts_ties t u)
level_by _ _ t u = refl

level : (a held : Held) → is_at (held_cmp a) held ≡ (is_kind a.what held.what && bytes_eq a.text.now held.text.now)
level a held = level_by a.what held.what a.text.now held.text.now

either : (b c : Bool) → cond b true c ≡ (c || b)
either true true = refl
either true false = refl
either false true = refl
either false false = refl

-- a set with one more text
pub got_text : (old new : BTreeSet Held) (a held : Held)
    → is_seen new held ≡ cond (is_at (held_cmp a) held) true (is_seen old held)
    → is_seen new held ≡ (is_seen old held || (is_kind a.what held.what && is_text held.text.now (Some a.text.now)))
got_text old new a held is =
    is ∙ either (is_at (held_cmp a) held) (is_seen old held) ∙ ap (λ b. is_seen old held || b) (level a held)

-- whether a row has a text
abbrev pub has : Held → (Cell × Row) → Bool
has held e = is_text held.text.now (text_of held.what e.1)

-- the set has exactly what these rows have
abbrev pub IsOf : List (Cell × Row) → BTreeSet Held → Type 0
IsOf before seen = (held : Held) → is_seen seen held ≡ list_any (has held) before

abbrev is_below_with : Cell → (Cell × Row → Bool) → Cell × Row → Bool
is_below_with c p e = is_lt (cell_cmp e.0 c) && p e

below_next : (c d : Cell) (r : Row) (before after : List (Cell × Row))
    → AllByRecursion (λ y. cell_cmp c y ≡ Less) (keys_of (before ++ (d, r) ∷ after)) → cell_cmp c d ≡ Less
below_next c d r [] after h = h.0
below_next c d r (b ∷ bs) after h = below_next c d r bs after h.1

none_after : (c : Cell) (p : Cell × Row → Bool) (after : List (Cell × Row))
    → AllByRecursion (λ y. cell_cmp c y ≡ Less) (keys_of after) → list_any (is_below_with c p) after ≡ false
none_after c p [] h = refl
none_after c p (e ∷ es) h =
    let above : is_lt (cell_cmp e.0 c) ≡ false = ap is_lt (cell_cmp_total.antisymm e.0 c ∙ ap ordering_reverse h.0) in
    ap (λ b. b && p e || list_any (is_below_with c p) es) above ∙ none_after c p es h.1

-- where rows are in order, those below a cell are those before it
below_are_before : (p : Cell × Row → Bool) (before : List (Cell × Row)) (c : Cell) (r : Row) (after : List (Cell × Row))
    → InOrder (before ++ (c, r) ∷ after) → list_any (is_below_with c p) (before ++ (c, r) ∷ after) ≡ list_any p before
below_are_before p [] c r after sorted =
    ap (λ o. is_lt o && p (c, r) || list_any (is_below_with c p) after) (tied_itself cell_cmp_total c)
    ∙ none_after c p after (sorted_head cell_cmp c (keys_of after) sorted)
below_are_before p (b ∷ bs) c r after sorted =
    let keys = keys_of (bs ++ (c, r) ∷ after) in
    let below : cell_cmp b.0 c ≡ Less = below_next b.0 c r bs after (sorted_head cell_cmp b.0 keys sorted) in
    ap (λ o. is_lt o && p b || list_any (is_below_with c p) (bs ++ (c, r) ∷ after)) below
    ∙ ap (λ t. p b || t) (below_are_before p bs c r after (sorted_tail cell_cmp b.0 keys sorted))

-- what was seen so far is what the rows before the next cell have
pub seen_before : (rows before after : List (Cell × Row)) (c : Cell) (r : Row) (seen : BTreeSet Held)
    → InOrder rows → rows ≡ before ++ (c, r) ∷ after → IsOf before seen → IsSeenBefore rows c seen
seen_before rows before after c r seen sorted split of held =
    of held
    ∙ sym (below_are_before (has held) before c r after (subst InOrder split sorted))
    ∙ sym (ap (list_any (is_below_with c (has held))) split)

or_false : (b : Bool) → (b || false) ≡ b
or_false true = refl
or_false false = refl

-- one more row was looked at
pub seen_one_more : (before : List (Cell × Row)) (c : Cell) (r : Row) (old new : BTreeSet Held)
    → IsOf before old → AddsRow old new r → IsOf (before ++ (c, r) ∷ []) new
seen_one_more before c r old new of adds held =
    adds held
    ∙ ap (λ b. b || has held (c, r)) (of held)
    ∙ sym (list_any-append (has held) before ((c, r) ∷ []) ∙ ap (λ b. list_any (has held) before || b) (or_false (has held (c, r))))

-- a cell that breaks no rule is passed over
pub passed_over : (rows left after : List (Cell × Row)) (c : Cell) (r : Row) (fault : Option NotASite)
    → left ≡ (c, r) ∷ after → fault ≡ fault_at c (cell_fault rows c) → is_some fault ≡ false
    → first_among rows (keys_of left) ≡ first_among rows (keys_of after)
passed_over rows left after c r None split is none =
    ap (λ l. first_among rows (keys_of l)) split ∙ ap (λ f. option_or f (first_among rows (keys_of after))) (sym is)
passed_over rows left after c r (Some found) split is none = cc
