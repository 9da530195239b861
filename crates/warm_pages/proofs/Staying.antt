-- A page that is held stays held where the pages of other targets are rendered, and where its own is.
use Rattle.std.proofs.Common.{ℕ, List, ◌≡◌, ◌⊎◌, ◌∙◌, Bool, true, false, inl, inr, refl, sym, subst, arith, Option, Contains}
use Rattle.std.specs.Str.{bytes_eq}
use Rattle.std.proofs.lemmas.Slice.Eq.{bytes_eq-Decides}
use Rattle.std.proofs.lemmas.Bool.Decides.{not_from_Decides}
use Rattle.cacheability.specs.declared.context.Context.{Context}
use Rattle.content_state.specs.State.{State}
use Rattle.content_state.specs.Met.{met_nothing}
use Rattle.cache_entries.specs.declared.entry.Entry.{Entry}
use Rattle.cache_entries.specs.declared.key.Key.{Key}
use Rattle.cache_entries.specs.declared.key.Subject.{Subject}
use Rattle.cache_entries.specs.declared.key.Subject.TheVariants as subject
use Rattle.cache_entries.specs.declared.kept.Bin.{Bin}
use Rattle.cache_entries.specs.declared.kept.Bin.TheVariants as bin
use Rattle.fragment_cache.specs.Bins.{Thing}
use Rattle.element_entries.specs.Readers.{Reader}
use Rattle.element_entries.specs.Keys.{visit}
use Rattle.kept_pages.specs.Held.{Shelves, things_in, NothingLost, Rises, StaysKept, Held, ClosesTo, Goes}
use Rattle.kept_pages.specs.Needed.{OfWhole}
use Rattle.kept_pages.specs.Went.{Went, Done, Found, Built}
use Rattle.kept_pages.proofs.Shelves.{rises-then, lost_first, lost_then}
use Rattle.kept_pages.proofs.Using.{stays_held}
use Rattle.warm_pages.specs.Asked.{reader_of}
use Rattle.warm_pages.specs.Warm.{PageHeld, IsRendered}
use Rattle.warm_pages.proofs.Apart.{LeavesAlone, leaves_element, leaves_whole}

-- ---- counts that never fall

stays_rises : (a b : Shelves) → StaysKept a b → Rises a b
stays_rises a b stays = let d = stays.dropped in let u = stays.unkept in record { dropped = omega arith; unkept = omega arith }

pub goes_rises : (r : Reader) (old : Shelves) (t : Went) (new : Shelves) → Goes r old t new → Rises old new
goes_rises r old Done new g = stays_rises old new g
goes_rises r old (Found b s e rest) new (h, (mid, stays, g)) = rises-then old mid new (stays_rises old mid stays) (goes_rises r mid rest new g)
goes_rises r old (Built b s e inner rest) new (h, (told, looked, filled, kept, t, stays, g, closes, k)) =
    rises-then old looked new (stays_rises old looked stays)
    (rises-then looked filled new (goes_rises r looked inner filled g)
    (rises-then filled kept new closes.rises (goes_rises r kept rest new k)))

-- ---- where other things are built

-- only things of a subject changed in a bin
abbrev ChangesOnly : Shelves → Bin → Subject → Shelves → Type 0
ChangesOnly old b s new = (c : Bin) (p : Key × Thing) → Contains (things_in old c) p → Contains (things_in new c) p ⊎ ((c ≡ b) × (p.0.subject ≡ s))

stands_apart : (old new : Shelves) (b : Bin) (s x : Subject) → ((bin.Anonymous ≡ b) × (x ≡ s) → ⊥) → ChangesOnly old b s new
    → (p : Key × Thing) → p.0.subject ≡ x → Contains (things_in old bin.Anonymous) p → Contains (things_in new bin.Anonymous) p
stands_apart old new b s x apart others p is h = elim (others bin.Anonymous p h) [
  | inl there ↦ there
  | inr k ↦ absurd (apart (k.0, sym is ∙ k.1))
]

held_apart : (q : Reader) (old new : Shelves) (x : Subject) → ((p : Key × Thing) → p.0.subject ≡ x → Contains (things_in old bin.Anonymous) p → Contains (things_in new bin.Anonymous) p)
    → Held q old bin.Anonymous x → Held q new bin.Anonymous x
held_apart q old new x stands (e, inl h) = (e, inl (record { there = stands _ refl h.there; fresh = h.fresh }))
held_apart q old new x stands (e, inr (two, h)) =
    (e, inr (two, record { contexts = h.contexts; redirect = stands _ refl h.redirect; second = record { there = stands _ refl h.second.there; fresh = h.second.fresh } }))

module _ (q r : Reader) (x : Subject) where
  closes_apart : (old : Shelves) (b : Bin) (s : Subject) (told : Option (List Context)) (e : Entry) (new : Shelves) → ((bin.Anonymous ≡ b) × (x ≡ s) → ⊥) → ClosesTo r old b s told e new → NothingLost old new
      → Held q old bin.Anonymous x → Held q new bin.Anonymous x
  closes_apart old b s told e new apart closes none held = elim closes.either [
    | inl m ↦ held_apart q old new x (stands_apart old new b s x apart (m.1 none).others) held
    | inr n ↦ stays_held q old new n.1 bin.Anonymous x held
  ]

  goes_apart : (old : Shelves) (t : Went) (new : Shelves) → LeavesAlone x t → Goes r old t new → NothingLost old new → Held q old bin.Anonymous x → Held q new bin.Anonymous x
  goes_apart old Done new leaves g none held = stays_held q old new g bin.Anonymous x held
  goes_apart old (Found b s e rest) new leaves (h, (mid, stays, g)) none held =
      goes_apart mid rest new leaves g (lost_then old mid new (stays_rises old mid stays) (goes_rises r mid rest new g) none) (stays_held q old mid stays bin.Anonymous x held)
  goes_apart old (Built b s e inner rest) new leaves (h, (told, looked, filled, kept, t, stays, g, closes, k)) none held =
      let in_places = goes_rises r looked inner filled g in
      let in_rest = goes_rises r kept rest new k in
      let from_filled = rises-then filled kept new closes.rises in_rest in
      let since_looked = lost_then old looked new (stays_rises old looked stays) (rises-then looked filled new in_places from_filled) none in
      let since_filled = lost_then looked filled new in_places from_filled since_looked in
      goes_apart kept rest new leaves.2 k (lost_then filled kept new closes.rises in_rest since_filled)
      (closes_apart filled b s told e kept leaves.0 closes (lost_first filled kept new closes.rises in_rest since_filled)
      (goes_apart looked inner filled leaves.1 g (lost_first looked filled new in_places from_filled since_looked) (stays_held q old looked stays bin.Anonymous x held)))

-- ---- where the page itself is rendered

found_stays : (r : Reader) (old new : Shelves) (s : Subject) (e : Entry) → Goes r old (Found bin.Anonymous s e Done) new → Held r old bin.Anonymous s → Held r new bin.Anonymous s
found_stays r old new s e (h, (mid, first, second)) held = stays_held r mid new second bin.Anonymous s (stays_held r old mid first bin.Anonymous s held)

not_built : (r : Reader) (old new : Shelves) (s : Subject) (e : Entry) (inner : Went) → Goes r old (Built bin.Anonymous s e inner Done) new → Held r old bin.Anonymous s → ⊥
not_built r old new s e inner g held = g.0 held

itself_stays : (r : Reader) (old : Shelves) (e : Entry) (new : Shelves) → IsRendered r old e new → PageHeld r old → PageHeld r new
itself_stays r old e new p held = elim p.needed [
  | inl is ↦ found_stays r old new (subject.Target r.ask.target) e (subst (λ t. Goes r old t new) is p.goes) held
  | inr b ↦ absurd (not_built r old new (subject.Target r.ask.target) e b.inner (subst (λ t. Goes r old t new) b.is p.goes) held)
]

-- ---- either

same_or_not : (xs ys : List ℕ) → (xs ≡ ys) ⊎ (xs ≡ ys → ⊥)
same_or_not xs ys = go (bytes_eq xs ys) refl
  where
    go : (b : Bool) → bytes_eq xs ys ≡ b → (xs ≡ ys) ⊎ (xs ≡ ys → ⊥)
    go true is = inl ((bytes_eq-Decides xs ys).0 is)
    go false is = inr (not_from_Decides (bytes_eq xs ys) (bytes_eq-Decides xs ys) is)

target_is : (a b : List ℕ) → subject.Target a ≡ subject.Target b → a ≡ b
target_is a b is = cc

-- rendering the page of a target takes no page away that is held on the same state at the same moment
pub page_stays : (state : State) (moment : ℕ) (target other : List ℕ) (old : Shelves) (e : Entry) (new : Shelves) → IsRendered (reader_of state moment target) old e new → NothingLost old new
    → PageHeld (reader_of state moment other) old → PageHeld (reader_of state moment other) new
page_stays state moment target other old e new p none held = elim (same_or_not other target) [
  | inl is ↦ subst (λ t. PageHeld (reader_of state moment t) new) (sym is)
      (itself_stays (reader_of state moment target) old e new p (subst (λ t. PageHeld (reader_of state moment t) old) is held))
  | inr differ ↦ goes_apart (reader_of state moment other) (reader_of state moment target) (subject.Target other) old p.page new (apart differ) p.goes none held
]
  where
    apart : (other ≡ target → ⊥) → LeavesAlone (subject.Target other) p.page
    apart differ =
        leaves_element (subject.Target other) (visit (reader_of state moment target)) met_nothing (OfWhole (reader_of state moment target).ask.path (visit (reader_of state moment target))) bin.Anonymous (subject.Target target) e
        (λ k. differ (target_is other target k.1))
        (leaves_whole (subject.Target other) (reader_of state moment target).ask.path (visit (reader_of state moment target))) p.page p.needed
