-- A map in the order of use does what is said of a bin.
use Rattle.std.proofs.Common.{ℕ, zero, suc, List, [], ◌∷◌, ◌++◌, ◌≡◌, ◌<◌, ◌≤◌, ◌-◌, ◌==◌, Bool, true, false, not, ◌&&◌, true≢false, cond, inl, inr, refl, sym, ◌∙◌, ap, subst, arith, length, take, take_all, Option, Some, None, is_some}
use Rattle.std.specs.List.{IsDistinct, slice_get}
use Rattle.std.specs.Option.{option_map, option_map_or}
use Rattle.std.specs.Map.{keys_of, lookup, lookup_entry, remove_entry}
use Rattle.std.proofs.lemmas.Bool.Decides.{Decides-eqb, not_from_Decides}
use Rattle.std.proofs.lemmas.List.Elements.{All-nil, All-cons}
use Rattle.std.proofs.lemmas.Map.Views.{lookup-from_Contains}
use Rattle.std.proofs.Math.Nat.{eq-or-lt_of_le}
use Rattle.lru.specs.LruCache.{LruCache, lru_cache, promoted, put_entries}
use Rattle.cache_entries.specs.declared.key.Key.{Key}
use Rattle.cache_entries.specs.declared.kept.Kept.{Kept}
use Rattle.cache_entries.specs.Keys.{same_key}
use Rattle.cache_entries.specs.KeyLaws.{key_decided, keys_equiv}
use Rattle.fragment_cache.specs.Bins.{Thing, thing_of, things_of, thing_entry, seen, IsShelf, IsAbsent, MovesUp, LooksFor, Looks, Replaces, Adds, Drops, up, KeepsAt, Keeps, must_drop}
use Rattle.fragment_cache.proofs.Seen.{seen_value, seen_promoted, seen_put}

value_of : {A : Type 0} (a b : A) → Some a ≡ Some b → a ≡ b
value_of a b e = cc

-- where a key stands in a list
record StandsIn (key : Key) (things : List (Key × Thing)) (thing : Thing) : Type 0 where
  front : List (Key × Thing)
  rest : List (Key × Thing)
  whole : things ≡ front ++ (key, thing) ∷ rest
  others : remove_entry (same_key key) things ≡ front ++ rest
  entry : lookup_entry (same_key key) things ≡ Some (key, thing)

-- where it doesn't
record Misses (key : Key) (things : List (Key × Thing)) : Type 0 where
  absent : IsAbsent key things
  entry : lookup_entry (same_key key) things ≡ None

module _ (key : Key) where
  abbrev is : Key → Bool
  is = same_key key

  stands_in : (things : List (Key × Thing)) (thing : Thing) → lookup is things ≡ Some thing → StandsIn key things thing
  stands_in [] thing found = cc
  stands_in (e ∷ es) thing found = go (stands_in es thing) (is e.0) refl found
    where
      here : is e.0 ≡ true → Some e.1 ≡ Some thing → e ≡ (key, thing)
      here same value i = (sym ((key_decided key e.0).0 same) i, value_of e.1 thing value i)

      go : (lookup is es ≡ Some thing → StandsIn key es thing) → (b : Bool) → is e.0 ≡ b → cond b (Some e.1) (lookup is es) ≡ Some thing → StandsIn key (e ∷ es) thing
      go later true same value = record {
        front = [];
        rest = es;
        whole = ap (λ x. x ∷ es) (here same value);
        others = ap (λ b. cond b es (e ∷ remove_entry is es)) same;
        entry = ap (λ b. cond b (Some e) (lookup_entry is es)) same ∙ ap Some (here same value);
      }
      go later false other more =
          let s = later more in
          record {
            front = e ∷ s.front;
            rest = s.rest;
            whole = ap (λ l. e ∷ l) s.whole;
            others = ap (λ b. cond b es (e ∷ remove_entry is es)) other ∙ ap (λ l. e ∷ l) s.others;
            entry = ap (λ b. cond b (Some e) (lookup_entry is es)) other ∙ s.entry;
          }

  misses : (things : List (Key × Thing)) → lookup is things ≡ None → Misses key things
  misses [] none = record { absent = All-nil _; entry = refl }
  misses (e ∷ es) none = go (misses es) (is e.0) refl none
    where
      go : (lookup is es ≡ None → Misses key es) → (b : Bool) → is e.0 ≡ b → cond b (Some e.1) (lookup is es) ≡ None → Misses key (e ∷ es)
      go later true same found = cc
      go later false other more =
          let m = later more in
          record {
            absent = All-cons (λ (p : Key × Thing). p.0 ≡ key → ⊥) e es (λ same. true≢false (sym ((key_decided key e.0).1 (sym same)) ∙ other)) m.absent;
            entry = ap (λ b. cond b (Some e) (lookup_entry is es)) other ∙ m.entry;
          }

  pub looked : (things : List (Key × Thing)) → IsDistinct same_key (keys_of things) → (found : Option Thing) → found ≡ lookup is things → LooksFor things key found (promoted is things)
  looked things distinct None e =
      let m = misses things (sym e) in
      (m.absent, ap (λ o. option_map_or (λ x. x ∷ remove_entry is things) o things) m.entry)
  looked things distinct (Some thing) e =
      let s = stands_in things thing (sym e) in
      record {
        front = s.front;
        rest = s.rest;
        before = s.whole;
        after = ap (λ o. option_map_or (λ x. x ∷ remove_entry is things) o things) s.entry ∙ ap (λ l. (key, thing) ∷ l) s.others;
        only = λ other there. value_of other thing (sym (lookup-from_Contains keys_equiv key other things distinct there) ∙ sym e);
      }

-- the last of a list that isn't empty
record Ends (things : List (Key × Thing)) (n : ℕ) : Type 0 where
  last : Key × Thing
  parts : things ≡ take n things ++ last ∷ []

ends : (things : List (Key × Thing)) (n : ℕ) → length things ≡ suc n → Ends things n
ends [] n e = absurd (omega arith)
ends (x ∷ []) zero e = record { last = x; parts = refl }
ends (x ∷ y ∷ es) zero e = absurd (omega arith)
ends (x ∷ []) (suc n) e = absurd (omega arith)
ends (x ∷ y ∷ es) (suc n) e =
    let more = ends (y ∷ es) n (omega arith) in
    record { last = more.last; parts = ap (λ l. x ∷ l) more.parts }

module _ (key : Key) (things : List (Key × Thing)) (room : ℕ) (thing : Thing) where
  abbrev put : List (Key × Thing)
  put = put_entries same_key (lru_cache things room) key thing

  abbrev put_by : Option (Key × Thing) → List (Key × Thing)
  put_by o = option_map_or (λ e. (e.0, thing) ∷ remove_entry (same_key key) things) o ((key, thing) ∷ take (room - 1) things)

  replaced : (was : Thing) → lookup (same_key key) things ≡ Some was → Replaces things key thing put
  replaced was found =
      let s = stands_in key things was found in
      record { front = s.front; rest = s.rest; was = was; before = s.whole; after = ap put_by s.entry ∙ ap (λ l. (key, thing) ∷ l) s.others }

  added : lookup (same_key key) things ≡ None → length things < room → Adds room things key thing put
  added none short =
      let m = misses key things none in
      record { absent = m.absent; short = short; after = ap put_by m.entry ∙ ap (λ l. (key, thing) ∷ l) (take_all (room - 1) things (omega arith)) }

  dropped : lookup (same_key key) things ≡ None → 0 < room → length things ≡ room → Drops room things key thing put
  dropped none some full =
      let m = misses key things none in
      let e = ends things (room - 1) (omega arith) in
      record { absent = m.absent; full = full; front = take (room - 1) things; last = e.last; before = e.parts; after = ap put_by m.entry }

-- over the map
below : {m n : ℕ} → m ≤ n → (m ≡ n → ⊥) → m < n
below within apart = elim (eq-or-lt_of_le within) [ inl e ↦ absurd (apart e) | inr h ↦ h ]

and_false : (b : Bool) → (b && false) ≡ false
and_false true = refl
and_false false = refl

pub same_length : (es : List (Key × Kept)) → length es ≡ length (things_of es)
same_length [] = refl
same_length (e ∷ es) = ap suc (same_length es)

same_some : (o : Option Kept) → is_some o ≡ is_some (option_map thing_of o)
same_some None = refl
same_some (Some kept) = refl

pub looked_seen : (cache new : LruCache Key Kept) (key : Key) (found : Option Thing) → IsShelf (seen cache) → found ≡ lookup (same_key key) (things_of cache.entries)
    → new ≡ lru_cache (promoted (same_key key) cache.entries) cache.cap → Looks (seen cache) key found (seen new)
looked_seen cache new key found valid told is = record {
  room = ap (λ (c : LruCache Key Kept). c.cap) is;
  things =
      subst (LooksFor (things_of cache.entries) key found)
      (seen_promoted (same_key key) cache.entries ∙ sym (ap (λ (c : LruCache Key Kept). things_of c.entries) is))
      (looked key (things_of cache.entries) valid.distinct found told);
}

-- what stands first already stays there
first_stays : (key : Key) (kept : Kept) (es : List (Key × Kept)) → IsDistinct same_key (keys_of (things_of es)) → slice_get es 0 ≡ Some (key, kept) → MovesUp (things_of es) key (thing_of kept) (things_of es)
first_stays key kept [] distinct first = cc
first_stays key kept (e ∷ es) distinct first =
    let thing = thing_of kept in
    let whole : things_of (e ∷ es) ≡ (key, thing) ∷ things_of es = ap (λ x. thing_entry x ∷ things_of es) (value_of e (key, kept) first) in
    let found : lookup (same_key key) (things_of (e ∷ es)) ≡ Some thing =
    ap (λ l. lookup (same_key key) l) whole ∙ ap (λ b. cond b (Some thing) (lookup (same_key key) (things_of es))) ((key_decided key key).1 refl) in
    record {
      front = [];
      rest = things_of es;
      before = whole;
      after = whole;
      only = λ other there. value_of other thing (sym (lookup-from_Contains keys_equiv key other (things_of (e ∷ es)) distinct there) ∙ found);
    }

pub first_seen : (cache : LruCache Key Kept) (key : Key) (kept : Kept) (found : Option Thing) → IsShelf (seen cache) → slice_get cache.entries 0 ≡ Some (key, kept) → found ≡ Some (thing_of kept)
    → Looks (seen cache) key found (seen cache)
first_seen cache key kept found valid first is =
    subst (λ o. Looks (seen cache) key o (seen cache)) (sym is)
    (record { room = refl; things = first_stays key kept cache.entries valid.distinct first })

-- where nothing is found all stays
pub missed_seen : (cache : LruCache Key Kept) (key : Key) (found : Option Thing) → is_some found ≡ false → found ≡ lookup (same_key key) (things_of cache.entries)
    → Looks (seen cache) key found (seen cache)
missed_seen cache key None none told = record { room = refl; things = ((misses key (things_of cache.entries) (sym told)).absent, refl) }
missed_seen cache key (Some thing) none told = absurd (true≢false none)

module _ (cache : LruCache Key Kept) (key : Key) (kept : Kept) (valid : IsShelf (seen cache)) where
  abbrev things : List (Key × Thing)
  things = things_of cache.entries

  abbrev after : List (Key × Thing)
  after = put_entries same_key (lru_cache things cache.cap) key (thing_of kept)

  short : (length things == cache.cap) ≡ false → length things < cache.cap
  short is = below valid.within (not_from_Decides (length things == cache.cap) (Decides-eqb (length things) cache.cap) is)

  -- another key is dropped where this one is new and the list is full
  at_once : (o : Option Thing) → lookup (same_key key) things ≡ o → (full : Bool) → (length things == cache.cap) ≡ full → (drops : Bool) → drops ≡ (full && not (is_some o)) → (count count' : ℕ)
      → (drops ≡ true → count' ≡ up count) → (drops ≡ false → count' ≡ count) → KeepsAt cache.cap things key (thing_of kept) after count count'
  at_once (Some was) found full is true e count count' a b = absurd (true≢false (e ∙ and_false full))
  at_once (Some was) found full is false e count count' a b = inl (inl (replaced key things cache.cap (thing_of kept) was found), b refl)
  at_once None none true is true e count count' a b = inr (dropped key things cache.cap (thing_of kept) none valid.has_room ((Decides-eqb (length things) cache.cap).0 is), a refl)
  at_once None none true is false e count count' a b = absurd (true≢false (sym e))
  at_once None none false is true e count count' a b = absurd (true≢false e)
  at_once None none false is false e count count' a b = inl (inr (added key things cache.cap (thing_of kept) none (short is)), b refl)

  drops_seen : must_drop cache key ≡ (length things == cache.cap && not (is_some (lookup (same_key key) things)))
  drops_seen i = same_length cache.entries i == cache.cap && not ((same_some (lookup (same_key key) cache.entries) ∙ ap (λ (o : Option Thing). is_some o) (sym (seen_value (same_key key) cache.entries))) i)

  pub kept_seen : (new : LruCache Key Kept) (drops : Bool) → drops ≡ must_drop cache key → new ≡ lru_cache (put_entries same_key cache key kept) cache.cap → (count count' : ℕ)
      → (drops ≡ true → count' ≡ up count) → (drops ≡ false → count' ≡ count) → Keeps (seen cache) key (thing_of kept) (seen new) count count'
  kept_seen new drops told is count count' a b = record {
    room = ap (λ (c : LruCache Key Kept). c.cap) is;
    things =
        subst (λ l. KeepsAt cache.cap things key (thing_of kept) l count count')
        (seen_put same_key cache.entries cache.cap key kept ∙ sym (ap (λ (c : LruCache Key Kept). things_of c.entries) is))
        (at_once (lookup (same_key key) things) refl (length things == cache.cap) refl drops (told ∙ drops_seen) count count' a b);
  }
