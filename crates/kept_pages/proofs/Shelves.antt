-- What a look and a keep do to what is kept.
use Rattle.std.proofs.Common.{ℕ, List, [], ◌∷◌, ◌++◌, ◌≡◌, ◌≤◌, ◌<◌, ◌⊎◌, min, inl, inr, refl, sym, ◌∙◌, ap, subst, arith, Contains, true, Option, Some, None, IfSome, IsSomeAnd, MatchOption, option_copied, option_map, OnOk, Result, Ok, Err, Bor}
use Rattle.std.proofs.lemmas.List.Elements.{All-head, All-tail}
use Rattle.std.specs.Arc.{arc_value}
use Rattle.std.specs.declared.sync.Arc.{Arc}
use Rattle.std.specs.declared.alloc.Global.{Global}
use Rattle.std.specs.declared.alloc.AllocError.{AllocError}
use Rattle.cacheability.specs.declared.context.Context.{Context}
use Rattle.content_state.specs.Places.{SameMembers}
use Rattle.content_state.proofs.Filled.{in_append, in_left, in_right, same_refl, same_trans}
use Rattle.cache_contexts.proofs.Tests.{at_head, at_tail, head_or_tail, nowhere}
use Rattle.cache_entries.specs.declared.entry.Entry.{Entry}
use Rattle.cache_entries.specs.declared.key.Key.{Key}
use Rattle.cache_entries.specs.declared.key.Subject.{Subject}
use Rattle.cache_entries.specs.declared.kept.Bin.{Bin}
use Rattle.cache_entries.specs.declared.kept.Bin.TheVariants as bin
use Rattle.cache_entries.specs.declared.kept.Found.{Found as Answer}
use Rattle.cache_entries.specs.declared.kept.Found.TheVariants as found
use Rattle.cache_entries.specs.declared.kept.Kept.{Kept as Offer}
use Rattle.cache_entries.specs.Entries.{IsFresh}
use Rattle.fragment_cache.specs.Bins.{Bins, Shelf, Thing, Whole, Towards, shelf_of, with_shelf, thing_of, thing_found, IsAbsent, MovesUp, LooksIn, Replaces, KeepsAt}
use Rattle.element_entries.specs.Readers.{Reader}
use Rattle.element_entries.specs.Keeping.{MayKeep}
use Rattle.element_entries.specs.Keys.{visit, declared_by, first_by, first_contexts, key_by}
use Rattle.element_entries.specs.declared.first.Declared.{Declared}
use Rattle.site_house.specs.House.{HouseView}
use Rattle.site_house.specs.Bins.{LooksAt, LooksUp, KeepsUnder, KeepsAt as KeepsInHouse, unkept_by}
use Rattle.kept_pages.specs.declared.looking.Seen.{Seen}
use Rattle.kept_pages.specs.Held.{Shelves, IsTold, first_of, things_in, NothingLost, Rises, StaysKept, StandsFresh, has_second, HeldBy, Held, StandsAlone, SeenOnce, SeenIn, Landed, Puts, StandsBy, second_in, IsHeldBy, Offers, Closes}

pub stays-refl : (s : Shelves) → StaysKept s s
stays-refl s = record { things = λ b. same_refl (things_in s b); dropped = refl; unkept = refl }

pub stays-then : (a b c : Shelves) → StaysKept a b → StaysKept b c → StaysKept a c
stays-then a b c first second = record {
  things = λ d. same_trans (things_in a d) (things_in b d) (things_in c d) (first.things d) (second.things d);
  dropped = second.dropped ∙ first.dropped;
  unkept = second.unkept ∙ first.unkept;
}

-- the first goes to the front
up_there : (front rest : List (Key × Thing)) (p x : Key × Thing) → Contains (front ++ p ∷ rest) x → Contains (p ∷ front ++ rest) x
up_there front rest p x h = elim (in_append front (p ∷ rest) x h) [
  | inl a ↦ at_tail p (front ++ rest) x (in_left front rest x a)
  | inr b ↦ elim (head_or_tail p rest x b) [
    | inl is ↦ subst (λ z. Contains (p ∷ front ++ rest) z) (sym is) (at_head p (front ++ rest))
    | inr c ↦ at_tail p (front ++ rest) x (in_right front rest x c)
  ]
]

up_back : (front rest : List (Key × Thing)) (p x : Key × Thing) → Contains (p ∷ front ++ rest) x → Contains (front ++ p ∷ rest) x
up_back front rest p x h = elim (head_or_tail p (front ++ rest) x h) [
  | inl is ↦ subst (λ z. Contains (front ++ p ∷ rest) z) (sym is) (in_right front (p ∷ rest) p (at_head p rest))
  | inr b ↦ elim (in_append front rest x b) [
    | inl a ↦ in_left front (p ∷ rest) x a
    | inr c ↦ in_right front (p ∷ rest) x (at_tail p rest x c)
  ]
]

moved : (old : List (Key × Thing)) (key : Key) (thing : Thing) (new : List (Key × Thing)) → MovesUp old key thing new → SameMembers old new
moved old key thing new m = record {
  there = λ x h. subst (λ l. Contains l x) (sym m.after) (up_there m.front m.rest (key, thing) x (subst (λ l. Contains l x) m.before h));
  back = λ x h. subst (λ l. Contains l x) (sym m.before) (up_back m.front m.rest (key, thing) x (subst (λ l. Contains l x) m.after h));
}

stood : (old : List (Key × Thing)) (key : Key) (thing : Thing) (new : List (Key × Thing)) → MovesUp old key thing new → Contains old (key, thing)
stood old key thing new m = subst (λ l. Contains l (key, thing)) (sym m.before) (in_right m.front ((key, thing) ∷ m.rest) (key, thing) (at_head (key, thing) m.rest))

none_there : (key : Key) (l : List (Key × Thing)) (t : Thing) → IsAbsent key l → Contains l (key, t) → ⊥
none_there key [] t absent h = nowhere (key, t) h
none_there key (p ∷ l) t absent h = elim (head_or_tail p l (key, t) h) [
  | inl is ↦ All-head (λ (q : Key × Thing). q.0 ≡ key → ⊥) p l absent (ap (λ (q : Key × Thing). q.0) (sym is))
  | inr k ↦ none_there key l t (All-tail (λ (q : Key × Thing). q.0 ≡ key → ⊥) p l absent) k
]

-- one shelf is changed, and its things stay
same_bins : (old : Bins) (b : Bin) (shelf : Shelf) → SameMembers (shelf_of old b).things shelf.things → (c : Bin) → SameMembers (shelf_of old c).things (shelf_of (with_shelf old b shelf) c).things
same_bins old bin.Fragments shelf same bin.Fragments = same
same_bins old bin.Fragments shelf same bin.Dynamic = same_refl old.dynamic.things
same_bins old bin.Fragments shelf same bin.Anonymous = same_refl old.anonymous.things
same_bins old bin.Dynamic shelf same bin.Fragments = same_refl old.fragments.things
same_bins old bin.Dynamic shelf same bin.Dynamic = same
same_bins old bin.Dynamic shelf same bin.Anonymous = same_refl old.anonymous.things
same_bins old bin.Anonymous shelf same bin.Fragments = same_refl old.fragments.things
same_bins old bin.Anonymous shelf same bin.Dynamic = same_refl old.dynamic.things
same_bins old bin.Anonymous shelf same bin.Anonymous = same

same_dropped : (old : Bins) (b : Bin) (shelf : Shelf) → (with_shelf old b shelf).dropped ≡ old.dropped
same_dropped old bin.Fragments shelf = refl
same_dropped old bin.Dynamic shelf = refl
same_dropped old bin.Anonymous shelf = refl

-- what a look does
looked_up : (old : Shelves) (b : Bin) (key : Key) (o : Option Thing) (bins : Bins) (unkept : ℕ) → LooksIn old.bins b key o bins → unkept ≡ old.unkept → SameMembers (things_in old b) (shelf_of bins b).things → StaysKept old (record { bins = bins; unkept = unkept })
looked_up old b key o bins unkept looks same members = record {
  things = λ c. subst (λ (x : Bins). SameMembers (things_in old c) (shelf_of x c).things) (sym looks.others) (same_bins old.bins b (shelf_of bins b) members c);
  dropped = ap (λ (x : Bins). x.dropped) looks.others ∙ same_dropped old.bins b (shelf_of bins b);
  unkept = same;
}

-- ---- a look at one key
module _ (r : Reader) (old : Shelves) (b : Bin) (key : Key) where
  whole_is : (x y : Entry) → Whole x ≡ Whole y → x ≡ y
  whole_is x y e = cc

  not_whole : (x : List Context) (y : Entry) → Towards x ≡ Whole y → ⊥
  not_whole x y e = cc

  not_towards_is : (x : Entry) (y : List Context) → Whole x ≡ Towards y → ⊥
  not_towards_is x y e = cc

  some_none : {A : Type 0} (x : A) → Some x ≡ None → ⊥
  some_none x e = cc

  saw_entry : (was : Entry) (o : Option (Arc Entry Global)) (bins : Bins) (new : HouseView) → new.bins ≡ Some bins → new.unkept ≡ old.unkept → LooksIn old.bins b key (Some (Whole was)) bins
      → IfSome o (λ e. (arc_value e ≡ was) × IsFresh r.state r.viewer r.ask r.moment (arc_value e)) → (o ≡ None → IsFresh r.state r.viewer r.ask r.moment was → ⊥)
      → SeenOnce r old b key (record { entry = o; told = None }) new
  saw_entry was o bins new is same looks fresh stale = record {
    after = record { bins = bins; unkept = new.unkept };
    is = record { bins = is; unkept = refl };
    stays = looked_up old b key (Some (Whole was)) bins new.unkept looks same (moved (things_in old b) key (Whole was) (shelf_of bins b).things up);
    here = here_of o fresh;
    towards = tt;
    not_here = λ e x f. stale e (subst (IsFresh r.state r.viewer r.ask r.moment) (whole_is x was (up.only (Whole x) f.there)) f.fresh);
    not_towards = λ e x h. not_whole x was (up.only (Towards x) h);
  }
    where
      up : MovesUp (things_in old b) key (Whole was) (shelf_of bins b).things
      up = looks.looks.things

      here_of : (o : Option (Arc Entry Global)) → IfSome o (λ e. (arc_value e ≡ was) × IsFresh r.state r.viewer r.ask r.moment (arc_value e)) → IfSome o (λ e. StandsFresh r (things_in old b) key (arc_value e))
      here_of None h = tt
      here_of (Some e) h = record { there = subst (λ x. Contains (things_in old b) (key, Whole x)) (sym h.0) (stood (things_in old b) key (Whole was) (shelf_of bins b).things up); fresh = h.1 }

  saw_redirect : (was : Arc (List Context) Global) (bins : Bins) (new : HouseView) → new.bins ≡ Some bins → new.unkept ≡ old.unkept → LooksIn old.bins b key (Some (Towards (arc_value was))) bins
      → SeenOnce r old b key (record { entry = None; told = Some was }) new
  saw_redirect was bins new is same looks = record {
    after = record { bins = bins; unkept = new.unkept };
    is = record { bins = is; unkept = refl };
    stays = looked_up old b key (Some (Towards (arc_value was))) bins new.unkept looks same (moved (things_in old b) key (Towards (arc_value was)) (shelf_of bins b).things up);
    here = tt;
    towards = record { there = stood (things_in old b) key (Towards (arc_value was)) (shelf_of bins b).things up; only = up.only };
    not_here = λ e x f. not_towards_is x (arc_value was) (up.only (Whole x) f.there);
    not_towards = λ e x h. some_none was e;
  }
    where
      up : MovesUp (things_in old b) key (Towards (arc_value was)) (shelf_of bins b).things
      up = looks.looks.things

  saw_nothing : (bins : Bins) (new : HouseView) → new.bins ≡ Some bins → new.unkept ≡ old.unkept → LooksIn old.bins b key None bins
      → SeenOnce r old b key (record { entry = None; told = None }) new
  saw_nothing bins new is same looks = record {
    after = record { bins = bins; unkept = new.unkept };
    is = record { bins = is; unkept = refl };
    stays = looked_up old b key None bins new.unkept looks same (subst (SameMembers (things_in old b)) (sym (looks.looks.things).1) (same_refl (things_in old b)));
    here = tt;
    towards = tt;
    not_here = λ e x f. none_there key (things_in old b) (Whole x) (looks.looks.things).0 f.there;
    not_towards = λ e x h. none_there key (things_in old b) (Towards x) (looks.looks.things).0 h;
  }

-- the same from what a house does
module _ (r : Reader) (house new : HouseView) (b : Bin) (key : Key) where
  at_shelves : (seen : Answer) (old : Shelves) → IsTold house old → LooksUp house new b key (Ok seen) → (bins : Bins) × (new.bins ≡ Some bins) × LooksIn old.bins b key (thing_found seen) bins
  at_shelves seen old told looks = subst (λ (o : Option Bins). LooksAt o b key (Ok seen) new.bins) told.bins looks.bins

  pub entry_seen : (was : Arc Entry Global) (seen : Answer) (o : Option (Arc Entry Global)) → seen ≡ found.Entry was → LooksUp house new b key (Ok seen)
      → IfSome o (λ e. (arc_value e ≡ arc_value was) × IsFresh r.state r.viewer r.ask r.moment (arc_value e)) → (o ≡ None → IsFresh r.state r.viewer r.ask r.moment (arc_value was) → ⊥)
      → (old : Shelves) → IsTold house old → SeenOnce r old b key (record { entry = o; told = None }) new
  entry_seen was seen o is looks fresh stale old told =
      let k = at_shelves seen old told looks in
      saw_entry r old b key (arc_value was) o k.0 new k.1 (looks.unkept ∙ told.unkept) (subst (λ (x : Answer). LooksIn old.bins b key (thing_found x) k.0) is k.2) fresh stale

  pub redirect_seen : (was : Arc (List Context) Global) (seen : Answer) → seen ≡ found.Redirect was → LooksUp house new b key (Ok seen)
      → (old : Shelves) → IsTold house old → SeenOnce r old b key (record { entry = None; told = Some was }) new
  redirect_seen was seen is looks old told =
      let k = at_shelves seen old told looks in
      saw_redirect r old b key was k.0 new k.1 (looks.unkept ∙ told.unkept) (subst (λ (x : Answer). LooksIn old.bins b key (thing_found x) k.0) is k.2)

  pub nothing_seen : (seen : Answer) → seen ≡ found.Absent → LooksUp house new b key (Ok seen)
      → (old : Shelves) → IsTold house old → SeenOnce r old b key (record { entry = None; told = None }) new
  nothing_seen seen is looks old told =
      let k = at_shelves seen old told looks in
      saw_nothing r old b key k.0 new k.1 (looks.unkept ∙ told.unkept) (subst (λ (x : Answer). LooksIn old.bins b key (thing_found x) k.0) is k.2)

-- ---- a look at both keys

-- the key with the values of the first contexts is the first one
pub first_is : (r : Reader) (key : Key) (declared : Declared) → key ≡ key_by (visit r) key.subject (first_by declared) → declared ≡ declared_by r.state.rows key.subject → key ≡ first_of r key.subject
first_is r key declared is same = is ∙ ap (λ (d : Declared). key_by (visit r) key.subject (first_by d)) same

module _ (r : Reader) (old : Shelves) (b : Bin) (s : Subject) where
  abbrev first_key : Key
  first_key = first_of r s

  pub seen_first : (key : Key) (seen : Seen) (new : HouseView) → key ≡ first_key → SeenOnce r old b key seen new → (has_second b ≡ true → seen.told ≡ None) → SeenIn r old b s (record { entry = seen.entry; told = None }) new
  seen_first key seen new is once none =
      let t : SeenOnce r old b first_key seen new = subst (λ k. SeenOnce r old b k seen new) is once in
      record {
        after = t.after;
        is = t.is;
        stays = t.stays;
        held = held_of seen.entry t.here;
        not_held = λ e h. not_of t e h;
        told = λ two c h. t.not_towards (none two) c h;
      }
    where
      held_of : (o : Option (Arc Entry Global)) → IfSome o (λ e. StandsFresh r (things_in old b) first_key (arc_value e)) → IfSome o (λ e. HeldBy r old b s (arc_value e))
      held_of None h = tt
      held_of (Some e) h = inl h

      not_of : SeenOnce r old b first_key seen new → seen.entry ≡ None → Held r old b s → ⊥
      not_of t e (x, inl h) = t.not_here e x h
      not_of t e (x, inr (two, h)) = t.not_towards (none two) h.contexts h.redirect

  towards_is : (x y : List Context) → Towards x ≡ Towards y → x ≡ y
  towards_is x y e = cc

  whole_towards : (x : Entry) (y : List Context) → Whole x ≡ Towards y → ⊥
  whole_towards x y e = cc

  pub seen_second : (mid : Shelves) (contexts : List Context) (two : Seen) (told : Arc (List Context) Global) (new : HouseView) → has_second b ≡ true → arc_value told ≡ contexts → StaysKept old mid → StandsAlone (things_in old b) first_key contexts
      → SeenOnce r mid b (key_by (visit r) s contexts) two new → SeenIn r old b s (record { entry = two.entry; told = Some told }) new
  seen_second mid contexts two told new has same stays alone u = record {
    after = u.after;
    is = u.is;
    stays = stays-then old mid u.after stays u.stays;
    held = held_of two.entry u.here;
    not_held = λ e h. not_of e h;
    told = (has, subst (λ c. StandsAlone (things_in old b) first_key c) (sym same) alone);
  }
    where
      held_of : (o : Option (Arc Entry Global)) → IfSome o (λ e. StandsFresh r (things_in mid b) (key_by (visit r) s contexts) (arc_value e)) → IfSome o (λ e. HeldBy r old b s (arc_value e))
      held_of None h = tt
      held_of (Some e) h = inr (has, record { contexts = contexts; redirect = alone.there; second = record { there = (stays.things b).back _ h.there; fresh = h.fresh } })

      not_of : two.entry ≡ None → Held r old b s → ⊥
      not_of e (x, inl h) = whole_towards x contexts (alone.only (Whole x) h.there)
      not_of e (x, inr (_, h)) =
          let those = towards_is h.contexts contexts (alone.only (Towards h.contexts) h.redirect) in
          u.not_here e x (record {
            there = (stays.things b).there _ (subst (λ cs. Contains (things_in old b) (key_by (visit r) s cs, Whole x)) those h.second.there);
            fresh = h.second.fresh;
          })

  pub seen_both : (first second : Key) (one two : Seen) (contexts : Arc (List Context) Global) (mid new : HouseView) → has_second b ≡ true
      → first ≡ first_key → (o : SeenOnce r old b first one mid) → one.told ≡ Some contexts
      → second ≡ key_by (visit r) s (arc_value contexts) → SeenOnce r o.after b second two new
      → SeenIn r old b s (record { entry = two.entry; told = Some contexts }) new
  seen_both first second one two contexts mid new has is o some is2 t =
      seen_second o.after (arc_value contexts) two contexts new has refl o.stays
      (subst (λ k. StandsAlone (things_in old b) k (arc_value contexts)) is
      (subst (λ (x : Option (Arc (List Context) Global)). IfSome x (λ c. StandsAlone (things_in old b) first (arc_value c))) some o.towards))
      (subst (λ k. SeenOnce r o.after b k two new) is2 t)

-- ---- a keep

-- one key of a shelf is written
written : (old : Bins) (b : Bin) (shelf : Shelf) (dropped : ℕ) (key : Key) (thing : Thing) → Contains shelf.things (key, thing) → ((p : Key × Thing) → Contains (shelf_of old b).things p → Contains shelf.things p ⊎ (p.0 ≡ key))
    → (unkept unkept' : ℕ) → Landed (record { bins = old; unkept = unkept }) b key thing (record { bins = record (with_shelf old b shelf) { dropped = dropped }; unkept = unkept' })
written old b shelf dropped key thing there others unkept unkept' = record { there = at b; others = go b others }
  where
    at : (b : Bin) → Contains (shelf_of (record (with_shelf old b shelf) { dropped = dropped }) b).things (key, thing)
    at bin.Fragments = there
    at bin.Dynamic = there
    at bin.Anonymous = there

    own : (b c : Bin) (p : Key × Thing) → c ≡ b → Contains shelf.things p ⊎ (p.0 ≡ key) → Contains shelf.things p ⊎ ((c ≡ b) × (p.0 ≡ key))
    own b c p e (inl h) = inl h
    own b c p e (inr k) = inr (e, k)

    go : (b : Bin) → ((p : Key × Thing) → Contains (shelf_of old b).things p → Contains shelf.things p ⊎ (p.0 ≡ key)) → (c : Bin) (p : Key × Thing) → Contains (shelf_of old c).things p → Contains (shelf_of (record (with_shelf old b shelf) { dropped = dropped }) c).things p ⊎ ((c ≡ b) × (p.0 ≡ key))
    go bin.Fragments f bin.Fragments p h = own bin.Fragments bin.Fragments p refl (f p h)
    go bin.Fragments f bin.Dynamic p h = inl h
    go bin.Fragments f bin.Anonymous p h = inl h
    go bin.Dynamic f bin.Fragments p h = inl h
    go bin.Dynamic f bin.Dynamic p h = own bin.Dynamic bin.Dynamic p refl (f p h)
    go bin.Dynamic f bin.Anonymous p h = inl h
    go bin.Anonymous f bin.Fragments p h = inl h
    go bin.Anonymous f bin.Dynamic p h = inl h
    go bin.Anonymous f bin.Anonymous p h = own bin.Anonymous bin.Anonymous p refl (f p h)

replaced : (old : List (Key × Thing)) (key : Key) (thing : Thing) (new : List (Key × Thing)) → Replaces old key thing new → (p : Key × Thing) → Contains old p → Contains new p ⊎ (p.0 ≡ key)
replaced old key thing new r p h = elim (in_append r.front ((key, r.was) ∷ r.rest) p (subst (λ l. Contains l p) r.before h)) [
  | inl a ↦ inl (subst (λ l. Contains l p) (sym r.after) (at_tail (key, thing) (r.front ++ r.rest) p (in_left r.front r.rest p a)))
  | inr b ↦ elim (head_or_tail (key, r.was) r.rest p b) [
    | inl is ↦ inr (ap (λ (q : Key × Thing). q.0) is)
    | inr c ↦ inl (subst (λ l. Contains l p) (sym r.after) (at_tail (key, thing) (r.front ++ r.rest) p (in_right r.front r.rest p c)))
  ]
]

-- what stands on the shelf, where no key was dropped
record OnShelf (old : List (Key × Thing)) (key : Key) (thing : Thing) (new : List (Key × Thing)) : Type 0 where
  there : Contains new (key, thing)
  others : (p : Key × Thing) → Contains old p → Contains new p ⊎ (p.0 ≡ key)

on_shelf : (room : ℕ) (old : List (Key × Thing)) (key : Key) (thing : Thing) (new : List (Key × Thing)) (dropped dropped' : ℕ) → KeepsAt room old key thing new dropped dropped' → dropped' ≡ dropped → dropped < 18446744073709551615 → OnShelf old key thing new
on_shelf room old key thing new dropped dropped' (inr d) e short = absurd (let k = d.1 in omega arith)
on_shelf room old key thing new dropped dropped' (inl (inl r, same)) e short = record {
  there = subst (λ x. Contains x (key, thing)) (sym r.after) (at_head (key, thing) (r.front ++ r.rest));
  others = replaced old key thing new r;
}
on_shelf room old key thing new dropped dropped' (inl (inr a, same)) e short = record {
  there = subst (λ x. Contains x (key, thing)) (sym a.after) (at_head (key, thing) old);
  others = λ p h. inl (subst (λ x. Contains x p) (sym a.after) (at_tail (key, thing) old p h));
}

rises_at : (room : ℕ) (old : List (Key × Thing)) (key : Key) (thing : Thing) (new : List (Key × Thing)) (dropped dropped' : ℕ) → KeepsAt room old key thing new dropped dropped' → min dropped 18446744073709551615 ≤ dropped'
rises_at room old key thing new dropped dropped' (inl a) = let e = a.1 in omega arith
rises_at room old key thing new dropped dropped' (inr d) = let e = d.1 in omega arith

-- counts alone: where what is kept is known too, `omega` reads it through
at_least : (n : ℕ) → min n 18446744073709551615 ≤ n
at_least n = omega arith

least_then : (a b c : ℕ) → min a 18446744073709551615 ≤ b → min b 18446744073709551615 ≤ c → min a 18446744073709551615 ≤ c
least_then a b c first second = omega arith

same_between : (a b c : ℕ) → min a 18446744073709551615 ≤ b → min b 18446744073709551615 ≤ c → c ≡ a → a < 18446744073709551615 → b ≡ a
same_between a b c first second same short = omega arith

pub rises-refl : (s : Shelves) → Rises s s
rises-refl s = record { dropped = at_least s.bins.dropped; unkept = at_least s.unkept }

pub rises-then : (a b c : Shelves) → Rises a b → Rises b c → Rises a c
rises-then a b c first second = record {
  dropped = least_then a.bins.dropped b.bins.dropped c.bins.dropped first.dropped second.dropped;
  unkept = least_then a.unkept b.unkept c.unkept first.unkept second.unkept;
}

-- where nothing was lost in all, nothing was at first, nor then
pub lost_first : (a b c : Shelves) → Rises a b → Rises b c → NothingLost a c → NothingLost a b
lost_first a b c first second none = record {
  dropped = same_between a.bins.dropped b.bins.dropped c.bins.dropped first.dropped second.dropped none.dropped none.dropped_short;
  unkept = same_between a.unkept b.unkept c.unkept first.unkept second.unkept none.unkept none.unkept_short;
  dropped_short = none.dropped_short;
  unkept_short = none.unkept_short;
}

pub lost_then : (a b c : Shelves) → Rises a b → Rises b c → NothingLost a c → NothingLost b c
lost_then a b c first second none =
    let before = lost_first a b c first second none in
    record {
      dropped = none.dropped ∙ sym before.dropped;
      unkept = none.unkept ∙ sym before.unkept;
      dropped_short = subst (λ n. n < 18446744073709551615) (sym before.dropped) none.dropped_short;
      unkept_short = subst (λ n. n < 18446744073709551615) (sym before.unkept) none.unkept_short;
    }

-- a call of a house
puts_of : (old : Shelves) (b : Bin) (key : Key) (kept : Offer) (result : Result (Unit {0}) AllocError) (new : HouseView) → KeepsInHouse (Some old.bins) b key kept result new.bins → new.unkept ≡ unkept_by result old.unkept → Puts old b key (thing_of kept) new
puts_of old b key kept (Err fault) new is unkept = record {
  after = record { bins = old.bins; unkept = new.unkept };
  is = record { bins = is; unkept = refl };
  rises = record { dropped = omega arith; unkept = omega arith };
  landed = λ none. absurd (let same = none.unkept in let short = none.unkept_short in omega arith);
}
puts_of old b key kept (Ok done) new k unkept = record {
  after = record { bins = k.0; unkept = new.unkept };
  is = record { bins = k.1; unkept = refl };
  rises = record { dropped = rises_at (shelf_of old.bins b).room (things_in old b) key (thing_of kept) (shelf_of k.0 b).things old.bins.dropped (k.0).dropped (k.2).keeps.things; unkept = omega arith };
  landed = λ none.
      let on = on_shelf (shelf_of old.bins b).room (things_in old b) key (thing_of kept) (shelf_of k.0 b).things old.bins.dropped (k.0).dropped (k.2).keeps.things none.dropped none.dropped_short in
      subst (λ (x : Bins). Landed old b key (thing_of kept) (record { bins = x; unkept = new.unkept })) (sym (k.2).others)
      (written old.bins b (shelf_of k.0 b) (k.0).dropped key (thing_of kept) on.there on.others old.unkept new.unkept);
}

pub put_told : (house new : HouseView) (b : Bin) (key key' : Key) (kept : Offer) (thing : Thing) (result : Result (Unit {0}) AllocError) → KeepsUnder house new b key kept result → key ≡ key' → thing_of kept ≡ thing
    → (old : Shelves) → IsTold house old → Puts old b key' thing new
put_told house new b key key' kept thing result keeps is same old told =
    subst (λ t. Puts old b key' t new) same
    (subst (λ k. Puts old b k (thing_of kept) new) is
    (puts_of old b key kept result new (subst (λ (o : Option Bins). KeepsInHouse o b key kept result new.bins) told.bins keeps.bins)
    (keeps.unkept ∙ ap (unkept_by result) told.unkept)))

-- ---- one entry is offered

-- something has a second key in a bin that has such keys
in_second : (b : Bin) (first : List Context) (told : Option (List Context)) (contexts those : List Context) → second_in b first told contexts ≡ Some those → has_second b ≡ true
in_second bin.Fragments first told contexts those is = refl
in_second bin.Dynamic first told contexts those is = refl
in_second bin.Anonymous first told contexts those is = absurd (cc)

-- what stands so is held
stands_so : (r : Reader) (shelves : Shelves) (b : Bin) (s : Subject) (second : Option (List Context)) (e : Entry) → ((contexts : List Context) → second ≡ Some contexts → has_second b ≡ true) → StandsBy r (things_in shelves b) s second e → HeldBy r shelves b s e
stands_so r shelves b s None e has h = inl h
stands_so r shelves b s (Some contexts) e has (h, inl redirect) = inr (has contexts refl, record { contexts = contexts; redirect = redirect; second = h })
stands_so r shelves b s (Some contexts) e has (h, inr same) = inl (subst (λ k. StandsFresh r (things_in shelves b) k e) (sym same) h)

pub stands_held : (r : Reader) (shelves : Shelves) (b : Bin) (s : Subject) (first : List Context) (told : Option (List Context)) (contexts : List Context) (e : Entry) → StandsBy r (things_in shelves b) s (second_in b first told contexts) e → HeldBy r shelves b s e
stands_held r shelves b s first told contexts e = stands_so r shelves b s (second_in b first told contexts) e (in_second b first told contexts)

-- contexts that are lent are the same
pub lent : (o : Option (Arc (List Context) Global)) (given : Option (Bor (List Context))) → MatchOption o (given ≡ None) (λ x. IsSomeAnd given (λ y. y.now ≡ arc_value x)) → option_copied given ≡ option_map arc_value o
lent None given same = ap option_copied same
lent (Some x) None h = absurd h
lent (Some x) (Some y) h = ap Some h

-- the contexts of a second key, if there is one
pub no_second : (o : Option (Arc (List Context) Global)) (second : Option (List Context)) → o ≡ None → option_map arc_value o ≡ second → second ≡ None
no_second o second is same = sym same ∙ ap (option_map arc_value) is

pub one_second : (o : Option (Arc (List Context) Global)) (second : Option (List Context)) (x : Arc (List Context) Global) → o ≡ Some x → option_map arc_value o ≡ second → second ≡ Some (arc_value x)
one_second o second x is same = sym same ∙ ap (option_map arc_value) is

module _ (r : Reader) (old : Shelves) (b : Bin) (s : Subject) (e : Entry) (fresh : IsFresh r.state r.viewer r.ask r.moment e) where
  pub offered_first : (told : Option (List Context)) (new : HouseView) → second_in b (first_contexts r.state.rows s) told e.cacheability.contexts ≡ None → Puts old b (first_of r s) (Whole e) new → Offers r old b s told e new
  offered_first told new is p = record {
    after = p.after;
    is = p.is;
    rises = p.rises;
    kept = λ none. record {
      held = subst (λ (second : Option (List Context)). StandsBy r (things_in p.after b) s second e) (sym is) (record { there = (p.landed none).there; fresh = fresh });
      others = λ c x h. elim ((p.landed none).others c x h) [ inl a ↦ inl a | inr k ↦ inr (k.0, ap (λ (y : Key). y.subject) k.1) ];
    };
  }

  pub offered_second : (told : Option (List Context)) (contexts : List Context) (mid new : HouseView) → second_in b (first_contexts r.state.rows s) told e.cacheability.contexts ≡ Some contexts
      → (p : Puts old b (first_of r s) (Towards contexts) mid) → Puts p.after b (key_by (visit r) s contexts) (Whole e) new → Offers r old b s told e new
  offered_second told contexts mid new is p q = record {
    after = q.after;
    is = q.is;
    rises = rises-then old p.after q.after p.rises q.rises;
    kept = λ none. go (p.landed (lost_first old p.after q.after p.rises q.rises none)) (q.landed (lost_then old p.after q.after p.rises q.rises none));
  }
    where
      go : Landed old b (first_of r s) (Towards contexts) p.after → Landed p.after b (key_by (visit r) s contexts) (Whole e) q.after → IsHeldBy r old b s told e q.after
      go l m = record {
        held = subst (λ (second : Option (List Context)). StandsBy r (things_in q.after b) s second e) (sym is)
            (record { there = m.there; fresh = fresh }, elim (m.others b _ l.there) [ inl a ↦ inl a | inr k ↦ inr k.1 ]);
        others = λ c x h. elim (l.others c x h) [
          | inl a ↦ elim (m.others c x a) [ inl d ↦ inl d | inr k ↦ inr (k.0, ap (λ (y : Key). y.subject) k.1) ]
          | inr k ↦ inr (k.0, ap (λ (y : Key). y.subject) k.1)
        ];
      }

pub closes_may : (r : Reader) (old : Shelves) (b : Bin) (s : Subject) (told : Option (List Context)) (e : Entry) (new : HouseView) → MayKeep b e.cacheability → Offers r old b s told e new → Closes r old b s told e new
closes_may r old b s told e new may o = record { after = o.after; is = o.is; rises = o.rises; either = inl (may, o.kept) }

pub closes_not : (r : Reader) (old : Shelves) (b : Bin) (s : Subject) (told : Option (List Context)) (e : Entry) (new : HouseView) → (MayKeep b e.cacheability → ⊥) → IsTold new old → Closes r old b s told e new
closes_not r old b s told e new may_not is = record { after = old; is = is; rises = rises-refl old; either = inr (may_not, stays-refl old) }

-- ---- what holds of a call that ends well
pub on_ok_map : {A E P Q : Type 0} (r : Result A E) → OnOk r P → (P → Q) → OnOk r Q
on_ok_map (Ok x) h f = f h
on_ok_map (Err e) h f = tt
