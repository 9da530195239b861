-- What was needed for the parts that are sent late, and what became of what is kept.
use Rattle.std.proofs.Common.{◌≡◌, ◌∙◌, ◌+◌, ◌-◌, ◌++◌, ◌≤◌, ℕ, suc, List, [], ◌∷◌, Bool, true, false, Option, Some, None, replicate, take, drop, length, refl, sym, ap, subst, arith, inl, inr, length-take-le}
use Rattle.std.proofs.Math.Seq.{take-length, take-append_seam}
use Rattle.std.proofs.lemmas.List.{append-nil, take-append-drop}
use Rattle.content_state.specs.declared.element.Hole.{Hole}
use Rattle.content_state.specs.declared.element.Hole.TheVariants as hole
use Rattle.content_state.specs.Context.{Visit}
use Rattle.content_state.specs.Entities.{is_json}
use Rattle.cache_entries.specs.declared.entry.Entry.{Entry}
use Rattle.cache_entries.specs.declared.key.Subject.TheVariants as subject
use Rattle.cache_entries.specs.declared.kept.Bin.TheVariants as bin
use Rattle.element_entries.specs.Keys.{visit}
use Rattle.element_entries.specs.Readers.{Reader}
use Rattle.kept_pages.specs.Held.{IsTold, GoesTo, Shelves}
use Rattle.kept_pages.specs.Needed.{ForSession, OfRequest, either_shape}
use Rattle.kept_pages.specs.Went.{Went, Done, Found}
use Rattle.late_pages.specs.Needed.{OfFirst, OpenedFor}
use Rattle.site_house.specs.House.{HouseView, Moves}
use Rattle.site_late.specs.Making.{MakesLast, MakesParts}
use Rattle.site_http.specs.Kept.{Need, KeepsFor, OfParts, needs_of, shelves_of}
use Rattle.site_http.proofs.Kept.{keeps_more, keeps_nothing, keeps_page, keeps_unknown}

-- ---- an entry

for_session : (session : Option (List ℕ)) (v : Visit) (t : Went) → ForSession session v t → Entry
for_session None v t whole = whole.entry
for_session (Some token) v t whole = whole.page

opened_for : (session : Option (List ℕ)) (v : Visit) (t : Went) → OpenedFor session v t → Entry
opened_for None v t (inl found) = found.entry
opened_for None v t (inr opened) = opened.page
opened_for (Some token) v t opened = opened.page

by_shape : (one : Bool) (One Other : Went → Type 0) (t : Went) → (One t → Entry) → (Other t → Entry) → either_shape one One Other t → Entry
by_shape true One Other t entry other shape = entry shape
by_shape false One Other t entry other shape = other shape

-- what is sent first has one
entry_first : (v : Visit) (t : Went) → OfFirst v t → Entry
entry_first v t first =
    by_shape (is_json v.ask.path) (OfRequest v) (OpenedFor v.viewer.session v) t (for_session v.viewer.session v t) (opened_for v.viewer.session v t) first

-- ---- parts

-- something may be needed for each part, whether it was made or not
others : (v : Visit) → Entry → (places : List Hole) → (wents : List Went) × OfParts v places wents
others v e [] = ([], tt)
others v e (hole.Meta ∷ places) = let rest = others v e places in (Done ∷ rest.0, (refl, rest.1))
others v e (hole.Fragment f ∷ places) =
    let rest = others v e places in
    (Found bin.Fragments (subject.Fragment f) e Done ∷ rest.0, (record { entry = e; element = inl refl }, rest.1))

parts_both : (v : Visit) (first second : List Hole) (ts us : List Went) → OfParts v first ts → OfParts v second us → OfParts v (first ++ second) (ts ++ us)
parts_both v [] second [] us a b = b
parts_both v [] second (t ∷ ts) us a b = absurd a
parts_both v (hole ∷ holes) second [] us a b = absurd a
parts_both v (hole ∷ holes) second (t ∷ ts) us a b = (a.0, parts_both v holes second ts us a.1 b)

parts_count : (v : Visit) (places : List Hole) (wents : List Went) → OfParts v places wents → length wents ≡ length places
parts_count v [] [] a = refl
parts_count v [] (t ∷ wents) a = absurd a
parts_count v (hole ∷ places) [] a = absurd a
parts_count v (hole ∷ places) (t ∷ wents) a = ap suc (parts_count v places wents a.1)

-- what was needed for parts that were made, and what became of what is kept
kept_parts : (r : Reader) (places : List Hole) (old new : HouseView) → MakesParts r places old new → (wents : List Went) × OfParts (visit r) places wents × KeepsFor (needs_of r wents) (shelves_of old) (shelves_of new)
kept_parts r [] old new made = ([], tt, keeps_nothing (shelves_of old) (shelves_of new) (ap shelves_of made))
kept_parts r (hole ∷ places) old new made =
    let told = (made.1).told in
    let rest = kept_parts r places made.0 new made.2 in (
      told.tree ∷ rest.0,
      (told.shape, rest.1),
      keeps_more (Some (record { reader = r; went = told.tree }) ∷ []) (needs_of r rest.0) (shelves_of old) (shelves_of made.0) (shelves_of new)
          (keeps_page r told.tree (made.1).moves told.goes) rest.2,
    )

-- ---- all parts, of which the first ones were made

pub record Needed (r : Reader) (places : List Hole) (count : ℕ) (old new : HouseView) : Type 0 where
  pub made : List Went
  pub others : List Went
  pub of_made : OfParts (visit r) (take count places) made
  pub of_others : OfParts (visit r) (drop count places) others
  pub kept : KeepsFor (needs_of r made) (shelves_of old) (shelves_of new)

pub needed : (r : Reader) (places : List Hole) (count : ℕ) (old new : HouseView) (went : Went) → OfFirst (visit r) went → MakesParts r (take count places) old new → Needed r places count old new
needed r places count old new went first parts =
    let kept = kept_parts r (take count places) old new parts in
    let more = others (visit r) (entry_first (visit r) went first) (drop count places) in
    record { made = kept.0; others = more.0; of_made = kept.1; of_others = more.1; kept = kept.2 }

pub needed_all : (r : Reader) (places : List Hole) (count : ℕ) (old new : HouseView) (n : Needed r places count old new) → OfParts (visit r) places (n.made ++ n.others)
needed_all r places count old new n =
    subst (λ (hs : List Hole). OfParts (visit r) hs (n.made ++ n.others)) (take-append-drop count places)
    (parts_both (visit r) (take count places) (drop count places) n.made n.others n.of_made n.of_others)

needed_count : (r : Reader) (places : List Hole) (count : ℕ) (old new : HouseView) (n : Needed r places count old new) → count ≤ length places → length n.made ≡ count
needed_count r places count old new n few = parts_count (visit r) (take count places) n.made n.of_made ∙ length-take-le _ _ few

-- ---- what is told of them

needs_both : (r : Reader) (ts us : List Went) → needs_of r (ts ++ us) ≡ needs_of r ts ++ needs_of r us
needs_both r [] us = refl
needs_both r (t ∷ ts) us = ap (λ (l : List (Option Need)). Some (record { reader = r; went = t }) ∷ l) (needs_both r ts us)

needs_count : (r : Reader) (ts : List Went) → length (needs_of r ts) ≡ length ts
needs_count r [] = refl
needs_count r (t ∷ ts) = ap suc (needs_count r ts)

-- no more is told than what was needed for those that were made
pub told_made : (r : Reader) (first : Went) (made others : List Went) (count : ℕ) → count ≡ suc (length made) → take count (needs_of r (first ∷ (made ++ others))) ≡ needs_of r (first ∷ made)
told_made r first made others count is =
    ap (λ (n : ℕ). take n (needs_of r (first ∷ (made ++ others)))) (is ∙ sym (needs_count r (first ∷ made)))
    ∙ ap (take (length (needs_of r (first ∷ made)))) (needs_both r (first ∷ made) others)
    ∙ take-append_seam (needs_of r (first ∷ made)) (needs_of r others)

-- how many parts memory was wanting for
abbrev pub short_count : Bool → ℕ
short_count true = 1
short_count false = 0

kept_last : (short : Bool) (made begun : ℕ) (old new : HouseView) → MakesLast short made begun old new → KeepsFor (replicate (short_count short) None) (shelves_of old) (shelves_of new)
kept_last false made begun old new last = keeps_nothing (shelves_of old) (shelves_of new) (ap shelves_of last.1)
kept_last true made begun old new last = keeps_unknown last.1

begun_of : (short : Bool) (made begun : ℕ) (old new : HouseView) → MakesLast short made begun old new → begun ≡ made + short_count short
begun_of false made begun old new last = last.0 ∙ omega arith
begun_of true made begun old new last = last.0 ∙ omega arith

-- what is sent first, and then parts, of which the last one may not have been made
pub keeps_late : (old middle between new : HouseView) (short : Bool) (r : Reader) (first : Went) (places : List Hole) (made begun : ℕ) (n : Needed r places made middle between) → begun ≤ length places → Moves old middle
    → ((s : Shelves) → IsTold old s → GoesTo r s first middle) → MakesLast short made begun between new
    → KeepsFor (take (suc (begun - short_count short)) (needs_of r (first ∷ (n.made ++ n.others))) ++ replicate (short_count short) None) (shelves_of old) (shelves_of new)
keeps_late old middle between new short r first places made begun n few before goes last =
    let so_many = begun_of short made begun between new last in
    let count = needed_count r places made middle between n (omega (arith, few, so_many)) in
    let told : take (suc (begun - short_count short)) (needs_of r (first ∷ (n.made ++ n.others))) ≡ needs_of r (first ∷ n.made) =
    told_made r first n.made n.others (suc (begun - short_count short)) (omega (arith, so_many, count)) in
    subst (λ (l : List (Option Need)). KeepsFor (l ++ replicate (short_count short) None) (shelves_of old) (shelves_of new)) (sym told)
    (keeps_more (needs_of r (first ∷ n.made)) (replicate (short_count short) None) (shelves_of old) (shelves_of between) (shelves_of new)
    (keeps_more (Some (record { reader = r; went = first }) ∷ []) (needs_of r n.made) (shelves_of old) (shelves_of middle) (shelves_of between) (keeps_page r first before goes) n.kept)
    (kept_last short made begun between new last))

-- where all were made, all is told
pub keeps_whole : (old middle between new : HouseView) (r : Reader) (first : Went) (places : List Hole) (made begun : ℕ) (n : Needed r places made middle between) → begun ≡ length places → Moves old middle
    → ((s : Shelves) → IsTold old s → GoesTo r s first middle) → MakesLast false made begun between new → KeepsFor (needs_of r (first ∷ (n.made ++ n.others))) (shelves_of old) (shelves_of new)
keeps_whole old middle between new r first places made begun n all before goes last =
    let all_needs = needs_of r (first ∷ (n.made ++ n.others)) in
    let count = parts_count (visit r) places (n.made ++ n.others) (needed_all r places made middle between n) in
    let long : length all_needs ≡ suc (begun - 0) = needs_count r (first ∷ (n.made ++ n.others)) ∙ omega (arith, all, count) in
    subst (λ (l : List (Option Need)). KeepsFor l (shelves_of old) (shelves_of new))
    (append-nil (take (suc (begun - 0)) all_needs) ∙ ap (λ (k : ℕ). take k all_needs) (sym long) ∙ take-length all_needs)
    (keeps_late old middle between new false r first places made begun n (omega (arith, all)) before goes last)
