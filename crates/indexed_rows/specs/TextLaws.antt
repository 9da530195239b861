-- The keys of texts: two that are level are one, each names its cell, and those of one mark stand together.
use Rattle.std.proofs.Common.{ℕ, List, [], ◌∷◌, ◌++◌, ◌≡◌, ◌∙◌, refl, ap, subst, Bool, true, false, Option, Some, None, ◌<◌}
use Rattle.std.specs.Prelude.{◌||◌}
use Rattle.std.specs.List.{list_any, AllByRecursion}
use Rattle.std.specs.Ordering.{MatchOrdering, eq_by_cmp, nat_cmp, ordering_then}
use Rattle.std.specs.Cmp.{IsTotalOrder, ranks}
use Rattle.std.specs.declared.cmp.Ordering.{Ordering}
use Rattle.std.specs.declared.cmp.Ordering.TheVariants.{Less, Equal, Greater}
use Rattle.std.proofs.lemmas.Map.Views.{tells_apart}
use Rattle.content_rows.specs.declared.cell.Cell.{Cell}
use Rattle.content_rows.specs.declared.row.Row.{Row}
use Rattle.content_rows.specs.CellOrder.{cell_cmp}
use Rattle.content_rows.proofs.CellLemmas.{cell_cmp_exact}
use Rattle.indexed_rows.specs.declared.unique.Unique.{Unique}
use Rattle.indexed_rows.specs.declared.unique.Unique.TheVariants as unique
use Rattle.indexed_rows.specs.declared.text_mark.TextMark.{TextMark}
use Rattle.indexed_rows.specs.declared.text_mark.TextKey.{TextKey}
use Rattle.indexed_rows.specs.contracts.text_mark.TextMarkOrd.TheImpl.Laws as mark_laws
use Rattle.indexed_rows.specs.contracts.unique.UniqueOrd.TheImpl as unique_order
use Rattle.indexed_rows.specs.contracts.text_mark.TextKeyOrd.TheImpl as key_order
use Rattle.indexed_rows.specs.Texts.{text_of}
use Rattle.indexed_rows.specs.TextKeys.{mark_cmp, key_of, text_key, text_keys}
use Rattle.index_law.specs.Index.{TellsApart, NameOwners}
use Rattle.row_keys.specs.Spans.{by_first, behind, before}

-- ---- two that are level are one

pub nat_exact : (a b : ℕ) → nat_cmp a b ≡ Equal → a ≡ b
nat_exact a b h = subst (λ r. MatchOrdering r (a < b) (a ≡ b) (b < a)) h (ranks a b)

unique_exact : (a b : Unique) → unique_order.ghosts.cmp a b ≡ Equal → a ≡ b
unique_exact unique.NodeUuid unique.NodeUuid h = refl
unique_exact unique.NodeUuid unique.TermUuid h = cc
unique_exact unique.NodeUuid unique.UserUuid h = cc
unique_exact unique.NodeUuid unique.UserName h = cc
unique_exact unique.NodeUuid unique.Path h = cc
unique_exact unique.NodeUuid unique.CommentUuid h = cc
unique_exact unique.TermUuid unique.NodeUuid h = cc
unique_exact unique.TermUuid unique.TermUuid h = refl
unique_exact unique.TermUuid unique.UserUuid h = cc
unique_exact unique.TermUuid unique.UserName h = cc
unique_exact unique.TermUuid unique.Path h = cc
unique_exact unique.TermUuid unique.CommentUuid h = cc
unique_exact unique.UserUuid unique.NodeUuid h = cc
unique_exact unique.UserUuid unique.TermUuid h = cc
unique_exact unique.UserUuid unique.UserUuid h = refl
unique_exact unique.UserUuid unique.UserName h = cc
unique_exact unique.UserUuid unique.Path h = cc
unique_exact unique.UserUuid unique.CommentUuid h = cc
unique_exact unique.UserName unique.NodeUuid h = cc
unique_exact unique.UserName unique.TermUuid h = cc
unique_exact unique.UserName unique.UserUuid h = cc
unique_exact unique.UserName unique.UserName h = refl
unique_exact unique.UserName unique.Path h = cc
unique_exact unique.UserName unique.CommentUuid h = cc
unique_exact unique.Path unique.NodeUuid h = cc
unique_exact unique.Path unique.TermUuid h = cc
unique_exact unique.Path unique.UserUuid h = cc
unique_exact unique.Path unique.UserName h = cc
unique_exact unique.Path unique.Path h = refl
unique_exact unique.Path unique.CommentUuid h = cc
unique_exact unique.CommentUuid unique.NodeUuid h = cc
unique_exact unique.CommentUuid unique.TermUuid h = cc
unique_exact unique.CommentUuid unique.UserUuid h = cc
unique_exact unique.CommentUuid unique.UserName h = cc
unique_exact unique.CommentUuid unique.Path h = cc
unique_exact unique.CommentUuid unique.CommentUuid h = refl

level_twice : (r s : Ordering) → ordering_then r s ≡ Equal → (r ≡ Equal) × (s ≡ Equal)
level_twice Less s h = cc
level_twice Equal s h = (refl, h)
level_twice Greater s h = cc

mark_exact : (a b : TextMark) → mark_cmp a b ≡ Equal → a ≡ b
mark_exact a b h =
    let parts = level_twice (unique_order.ghosts.cmp a.what b.what) (nat_cmp a.digest b.digest) h in
    let what = unique_exact a.what b.what parts.0 in
    let digest = nat_exact a.digest b.digest parts.1 in
    λ i. record { what = what i; digest = digest i }

pub text_exact : TellsApart key_order.ghosts.cmp
text_exact a b h =
    let parts = level_twice (mark_cmp a.mark b.mark) (cell_cmp a.cell b.cell) h in
    let mark = mark_exact a.mark b.mark parts.0 in
    let cell = cell_cmp_exact a.cell b.cell parts.1 in
    λ i. record { mark = mark i; cell = cell i }

-- ---- each names its cell

abbrev Names : Cell → TextKey → Type 0
Names c k = k.cell ≡ c

both : (P : TextKey → Type 0) (xs ys : List TextKey) → AllByRecursion P xs → AllByRecursion P ys → AllByRecursion P (xs ++ ys)
both P [] ys one other = other
both P (x ∷ xs) ys one other = (one.0, both P xs ys one.1 other)

one_names : (what : Unique) (c : Cell) (text : Option (List ℕ)) → AllByRecursion (Names c) (key_of what c text)
one_names what c None = tt
one_names what c (Some text) = (refl, tt)

all_name : (e : Cell × Row) → AllByRecursion (Names e.0) (text_keys e)
all_name e =
    let p = Names e.0 in
    let one = λ (what : Unique). one_names what e.0 (text_of what e.1) in
    both p _ (text_key unique.CommentUuid e)
    (both p _ (text_key unique.Path e)
    (both p _ (text_key unique.UserName e)
    (both p _ (text_key unique.UserUuid e) (both p (text_key unique.NodeUuid e) (text_key unique.TermUuid e) (one unique.NodeUuid) (one unique.TermUuid)) (one unique.UserUuid))
    (one unique.UserName))
    (one unique.Path))
    (one unique.CommentUuid)

named : (c : Cell) (ks : List TextKey) (k : TextKey) → AllByRecursion (Names c) ks → list_any (eq_by_cmp key_order.ghosts.cmp k) ks ≡ true → k.cell ≡ c
named c [] k all h = cc
named c (j ∷ js) k all h = go (eq_by_cmp key_order.ghosts.cmp k j) refl h (named c js k all.1)
  where
    go : (b : Bool) → eq_by_cmp key_order.ghosts.cmp k j ≡ b → (b || list_any (eq_by_cmp key_order.ghosts.cmp k) js) ≡ true → (list_any (eq_by_cmp key_order.ghosts.cmp k) js ≡ true → k.cell ≡ c) → k.cell ≡ c
    go true e h rest = ap (λ (q : TextKey). q.cell) (tells_apart text_exact k j e) ∙ all.0
    go false e h rest = rest h

pub texts_named : NameOwners key_order.ghosts.cmp text_keys (λ k. k.cell)
texts_named c x k h = named c (text_keys (c, x)) k (all_name (c, x)) h

-- ---- those of one mark stand together

pub mark_total : IsTotalOrder mark_cmp
mark_total = mark_laws.total-law

pub mark_behind : (s : TextMark) (a b : TextKey) → key_order.ghosts.cmp a b ≡ Less → mark_cmp s a.mark ≡ Less → mark_cmp s b.mark ≡ Less
mark_behind s a b less h = behind mark_total s a.mark b.mark (by_first (mark_cmp a.mark b.mark) (cell_cmp a.cell b.cell) less) h

pub mark_before : (s : TextMark) (a b : TextKey) → key_order.ghosts.cmp a b ≡ Less → mark_cmp s b.mark ≡ Greater → mark_cmp s a.mark ≡ Greater
mark_before s a b less h = before mark_total s a.mark b.mark (by_first (mark_cmp a.mark b.mark) (cell_cmp a.cell b.cell) less) h
