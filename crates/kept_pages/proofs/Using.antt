-- What is kept is used, and what may be kept is.
use Rattle.std.proofs.Common.{List, Option, ◌≡◌, inl, inr, sym, subst, arith}
use Rattle.cacheability.specs.declared.context.Context.{Context}
use Rattle.cache_entries.specs.declared.entry.Entry.{Entry}
use Rattle.cache_entries.specs.declared.key.Subject.{Subject}
use Rattle.cache_entries.specs.declared.kept.Bin.{Bin}
use Rattle.element_entries.specs.Readers.{Reader}
use Rattle.element_entries.specs.Keeping.{MayKeep}
use Rattle.element_entries.specs.Keys.{first_contexts}
use Rattle.site_house.specs.House.{HouseView}
use Rattle.kept_pages.specs.Held.{Shelves, IsTold, NothingLost, Rises, StaysKept, HeldBy, Held, IsHeldBy, ClosesTo, Goes, AllHeld, JustHeld, RestIsBuilt, GoesTo}
use Rattle.kept_pages.specs.Went.{Went, Done, Found, Built}
use Rattle.kept_pages.proofs.Shelves.{rises-then, lost_first, lost_then, stands_held}

-- what stays kept stays held
pub stays_back : (r : Reader) (a b : Shelves) → StaysKept a b → (d : Bin) (x : Subject) (e : Entry) → HeldBy r b d x e → HeldBy r a d x e
stays_back r a b stays d x e (inl k) = inl (record { there = (stays.things d).back _ k.there; fresh = k.fresh })
stays_back r a b stays d x e (inr (two, k)) = inr (two, record { contexts = k.contexts; redirect = (stays.things d).back _ k.redirect; second = record { there = (stays.things d).back _ k.second.there; fresh = k.second.fresh } })

pub stays_held : (r : Reader) (a b : Shelves) → StaysKept a b → (d : Bin) (x : Subject) → Held r a d x → Held r b d x
stays_held r a b stays d x (e, inl k) = (e, inl (record { there = (stays.things d).there _ k.there; fresh = k.fresh }))
stays_held r a b stays d x (e, inr (two, k)) = (e, inr (two, record { contexts = k.contexts; redirect = (stays.things d).there _ k.redirect; second = record { there = (stays.things d).there _ k.second.there; fresh = k.second.fresh } }))

stays_rises : (a b : Shelves) → StaysKept a b → Rises a b
stays_rises a b stays = let d = stays.dropped in let u = stays.unkept in record { dropped = omega arith; unkept = omega arith }

goes_rises : (r : Reader) (old : Shelves) (t : Went) (new : Shelves) → Goes r old t new → Rises old new
goes_rises r old Done new g = stays_rises old new g
goes_rises r old (Found b s e rest) new (h, (mid, stays, g)) = rises-then old mid new (stays_rises old mid stays) (goes_rises r mid rest new g)
goes_rises r old (Built b s e inner rest) new (h, (told, looked, filled, kept, t, stays, g, closes, k)) =
    rises-then old looked new (stays_rises old looked stays)
    (rises-then looked filled new (goes_rises r looked inner filled g)
    (rises-then filled kept new closes.rises (goes_rises r kept rest new k)))

-- where nothing was lost in all, nothing was while something was built
record BuiltUnlost (looked filled kept new : Shelves) : Type 0 where
  inner : NothingLost looked filled
  closing : NothingLost filled kept
  others : NothingLost kept new

unlost : (r : Reader) (old looked filled kept new : Shelves) → Rises old looked → Rises looked filled → Rises filled kept → Rises kept new → NothingLost old new → BuiltUnlost looked filled kept new
unlost r old looked filled kept new a b c d none =
    let later = rises-then filled kept new c d in
    let from_looked = lost_then old looked new a (rises-then looked filled new b later) none in
    let from_filled = lost_then looked filled new b later from_looked in
    record {
      inner = lost_first looked filled new b later from_looked;
      closing = lost_first filled kept new c d from_filled;
      others = lost_then filled kept new c d from_filled;
    }

one_of : (r : Reader) (new : Shelves) (b c : Bin) (s x : Subject) (e : Entry) → HeldBy r new b s e → (c ≡ b) × (x ≡ s) → Held r new c x
one_of r new b c s x e held is =
    subst (λ y. Held r new c y) (sym is.1) (subst (λ d. Held r new d s) (sym is.0) (e, held))

held_of : (r : Reader) (old new : Shelves) (b : Bin) (s : Subject) (told : Option (List Context)) (e : Entry) → IsHeldBy r old b s told e new → HeldBy r new b s e
held_of r old new b s told e kept = stands_held r new b s (first_contexts r.state.rows s) told e.cacheability.contexts e kept.held

kept_held : (r : Reader) (old new : Shelves) (b : Bin) (s : Subject) (told : Option (List Context)) (e : Entry) → IsHeldBy r old b s told e new → (c : Bin) (x : Subject) → Held r old c x → Held r new c x
kept_held r old new b s told e kept c x (f, inl h) = elim (kept.others c _ h.there) [
  | inl there ↦ (f, inl (record { there = there; fresh = h.fresh }))
  | inr is ↦ one_of r new b c s x e (held_of r old new b s told e kept) is
]
kept_held r old new b s told e kept c x (f, inr (two, h)) = elim (kept.others c _ h.redirect) [
  | inl redirect ↦ elim (kept.others c _ h.second.there) [
    | inl there ↦ (f, inr (two, record { contexts = h.contexts; redirect = redirect; second = record { there = there; fresh = h.second.fresh } }))
    | inr is ↦ one_of r new b c s x e (held_of r old new b s told e kept) is
  ]
  | inr is ↦ one_of r new b c s x e (held_of r old new b s told e kept) is
]

closes_held : (r : Reader) (old : Shelves) (b : Bin) (s : Subject) (told : Option (List Context)) (e : Entry) (new : Shelves) → ClosesTo r old b s told e new → NothingLost old new → (c : Bin) (x : Subject) → Held r old c x → Held r new c x
closes_held r old b s told e new closes none c x held = elim closes.either [
  | inl m ↦ kept_held r old new b s told e (m.1 none) c x held
  | inr n ↦ stays_held r old new n.1 c x held
]

closed_held : (r : Reader) (old : Shelves) (b : Bin) (s : Subject) (told : Option (List Context)) (e : Entry) (new : Shelves) → ClosesTo r old b s told e new → NothingLost old new → MayKeep b e.cacheability → Held r new b s
closed_held r old b s told e new closes none may = elim closes.either [
  | inl m ↦ (e, held_of r old new b s told e (m.1 none))
  | inr n ↦ absurd (n.0 may)
]

goes_held : (r : Reader) (old : Shelves) (t : Went) (new : Shelves) → Goes r old t new → NothingLost old new → (c : Bin) (x : Subject) → Held r old c x → Held r new c x
goes_held r old Done new g none c x held = stays_held r old new g c x held
goes_held r old (Found b s e rest) new (h, (mid, stays, g)) none c x held =
    goes_held r mid rest new g (lost_then old mid new (stays_rises old mid stays) (goes_rises r mid rest new g) none) c x (stays_held r old mid stays c x held)
goes_held r old (Built b s e inner rest) new (h, (told, looked, filled, kept, t, stays, g, closes, k)) none c x held =
    let n = unlost r old looked filled kept new (stays_rises old looked stays) (goes_rises r looked inner filled g) closes.rises (goes_rises r kept rest new k) none in
    goes_held r kept rest new k n.others c x
    (closes_held r filled b s told e kept closes n.closing c x
    (goes_held r looked inner filled g n.inner c x (stays_held r old looked stays c x held)))

all_more : (r : Reader) (a b : Shelves) (t : Went) → ((c : Bin) (x : Subject) → Held r a c x → Held r b c x) → AllHeld r a t → AllHeld r b t
all_more r a b Done more all = tt
all_more r a b (Found c s e rest) more all = (more c s all.0, all_more r a b rest more all.1)
all_more r a b (Built c s e inner rest) more all = ((λ may. more c s (all.0 may)), all_more r a b inner more all.1, all_more r a b rest more all.2)

-- where nothing was lost, what was needed and may be kept is held
all_held : (r : Reader) (old : Shelves) (t : Went) (new : Shelves) → Goes r old t new → NothingLost old new → AllHeld r new t
all_held r old Done new g none = tt
all_held r old (Found b s e rest) new (h, (mid, stays, g)) none =
    let n = lost_then old mid new (stays_rises old mid stays) (goes_rises r mid rest new g) none in
    (goes_held r mid rest new g n b s (stays_held r old mid stays b s (e, h)), all_held r mid rest new g n)
all_held r old (Built b s e inner rest) new (h, (told, looked, filled, kept, t, stays, g, closes, k)) none =
    let n = unlost r old looked filled kept new (stays_rises old looked stays) (goes_rises r looked inner filled g) closes.rises (goes_rises r kept rest new k) none in (
      (λ may. goes_held r kept rest new k n.others b s (closed_held r filled b s told e kept closes n.closing may)),
      all_more r filled new inner (λ c x held. goes_held r kept rest new k n.others c x (closes_held r filled b s told e kept closes n.closing c x held)) (all_held r looked inner filled g n.inner),
      all_held r kept rest new k n.others,
    )

-- the same is held
record Alike (r : Reader) (a b : Shelves) : Type 0 where
  there : (c : Bin) (x : Subject) → Held r a c x → Held r b c x
  back : (c : Bin) (x : Subject) → Held r b c x → Held r a c x

alike_stays : (r : Reader) (a b c : Shelves) → Alike r a b → StaysKept b c → Alike r a c
alike_stays r a b c alike stays = record {
  there = λ d x h. stays_held r b c stays d x (alike.there d x h);
  back = λ d x h. alike.back d x (h.0, stays_back r b c stays d x h.0 h.1);
}

not_kept : (r : Reader) (old : Shelves) (b : Bin) (s : Subject) (told : Option (List Context)) (e : Entry) (new : Shelves) → ClosesTo r old b s told e new → (MayKeep b e.cacheability → ⊥) → StaysKept old new
not_kept r old b s told e new closes may_not = elim closes.either [
  | inl m ↦ absurd (may_not m.0)
  | inr n ↦ n.1
]

record Rest (r : Reader) (first : Shelves) (t : Went) (new : Shelves) : Type 0 where
  rest : RestIsBuilt t
  alike : Alike r first new

rest_of : (r : Reader) (first old : Shelves) (t : Went) (new : Shelves) → Alike r first old → Goes r old t new → JustHeld r first t → Rest r first t new
rest_of r first old Done new alike g just = record { rest = tt; alike = alike_stays r first old new alike g }
rest_of r first old (Found b s e rest) new alike (h, (mid, stays, g)) just =
    let others = rest_of r first mid rest new (alike_stays r first old mid alike stays) g just.1 in
    record { rest = (just.0 (alike.back b s (e, h)), others.rest); alike = others.alike }
rest_of r first old (Built b s e inner rest) new alike (h, (told, looked, filled, kept, t, stays, g, closes, k)) just =
    let may_not : MayKeep b e.cacheability → ⊥ = λ may. h (alike.there b s (just.0 may)) in
    let i = rest_of r first looked inner filled (alike_stays r first old looked alike stays) g just.1 in
    let others = rest_of r first kept rest new (alike_stays r first filled kept i.alike (not_kept r filled b s told e kept closes may_not)) k just.2 in
    record { rest = (may_not, i.rest, others.rest); alike = others.alike }

-- what became of it, and what follows
pub goes_to : (r : Reader) (old : Shelves) (t : Went) (new : HouseView) (after : Shelves) → IsTold new after → Goes r old t after → GoesTo r old t new
goes_to r old t new after is g = record {
  after = after;
  is = is;
  goes = g;
  held = λ none. all_held r old t after g none;
  rest = λ just. (rest_of r old old t after (record { there = λ c x h. h; back = λ c x h. h }) g just).rest;
}
