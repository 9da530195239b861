-- What is kept of pages stays sound: when the log grows, when it is looked for, and when more is kept.
use Rattle.std.proofs.Common.{◌∙◌, ◌++◌, ℕ, List, [], ◌∷◌, Option, Some, None, length, ap, sym, subst, inl, inr, arith, length-append}
use Rattle.std.specs.Prelude.{All, take}
use Rattle.std.specs.Arc.{arc_value}
use Rattle.std.proofs.lemmas.List.{take-append-le}
use Rattle.std.proofs.lemmas.List.Elements.{All-nil, All-cons, All-head, All-tail, All-append, All-weaker}
use Rattle.content_state.specs.State.{State}
use Rattle.content_state.specs.Replay.{replay, Begins}
use Rattle.content_state.specs.declared.commit.Commit.{Commit}
use Rattle.cache_entries.specs.declared.key.Key.{Key}
use Rattle.cache_entries.specs.declared.kept.Bin.{Bin}
use Rattle.cache_entries.specs.declared.kept.Bin.TheVariants as bin
use Rattle.cache_entries.specs.declared.kept.Found.{Found}
use Rattle.cache_entries.specs.declared.kept.Found.TheVariants as found
use Rattle.cache_entries.specs.declared.kept.Kept.{Kept}
use Rattle.cache_entries.specs.declared.kept.Kept.TheVariants as kept
use Rattle.cache_entries.specs.Sound.{IsOf, IsSoundKept, IsSoundFound}
use Rattle.fragment_cache.specs.Bins.{Bins, Shelf, Thing, Whole, Towards, thing_of, thing_found, shelf_of, with_shelf, MovesUp, LooksFor, LooksIn, KeepsAt, KeepsIn}
use Rattle.page_meaning.specs.Meaning.{meaning}
use Rattle.site_hall.specs.Stock.{IsSoundThing, IsSoundShelf, AreSound, empty_bins}

-- ---- when the log grows

of_more : (base : State) (log new : List Commit) (state : State) → Begins log new → IsOf base log state → IsOf base new state
of_more base log new state more of =
    let within = of.within in
    let longer = ap length more.1 in
    record {
      in_order = of.in_order;
      count = of.count;
      within = omega (arith, longer, length-append log more.0);
      state_is =
          of.state_is
          ∙ ap (replay base) (sym (take-append-le of.count log more.0 within))
          ∙ ap (λ (l : List Commit). replay base (take of.count l)) (sym more.1);
      valid = of.valid;
    }

pub thing_more : (base : State) (log new : List Commit) → Begins log new → (p : Key × Thing) → IsSoundThing base log p → IsSoundThing base new p
thing_more base log new more (key, Whole e) sound = record {
  state = sound.state;
  of_log = of_more base log new sound.state more sound.of_log;
  viewer = sound.viewer;
  ask = sound.ask;
  right = sound.right;
  fits = sound.fits;
  made_on = sound.made_on;
}
thing_more base log new more (key, Towards contexts) sound = tt

shelf_more : (base : State) (log new : List Commit) → Begins log new → (shelf : Shelf) → IsSoundShelf base log shelf → IsSoundShelf base new shelf
shelf_more base log new more shelf sound = All-weaker (IsSoundThing base log) (IsSoundThing base new) (thing_more base log new more) shelf.things sound

pub bins_more : (base : State) (log new : List Commit) (bins : Bins) → Begins log new → AreSound base log bins → AreSound base new bins
bins_more base log new bins more are = record {
  fragments = shelf_more base log new more bins.fragments are.fragments;
  dynamic = shelf_more base log new more bins.dynamic are.dynamic;
  anonymous = shelf_more base log new more bins.anonymous are.anonymous;
}

-- what is to be kept
pub kept_more : (base : State) (log new : List Commit) → Begins log new → (key : Key) (k : Kept) → IsSoundKept meaning base log key k → IsSoundKept meaning base new key k
kept_more base log new more key (kept.Entry e) sound = thing_more base log new more (key, Whole (arc_value e)) sound
kept_more base log new more key (kept.Redirect contexts) sound = tt

-- ---- as they are opened

pub empty_sound : (base : State) (log : List Commit) (fragments dynamic anonymous : ℕ) → AreSound base log (empty_bins fragments dynamic anonymous)
empty_sound base log fragments dynamic anonymous = record {
  fragments = All-nil (IsSoundThing base log);
  dynamic = All-nil (IsSoundThing base log);
  anonymous = All-nil (IsSoundThing base log);
}

-- ---- one shelf of them

module _ (base : State) (log : List Commit) where
  abbrev Good : Key × Thing → Type 0
  Good = IsSoundThing base log

  -- what stands before a place, there, and behind it
  all_front : (xs ys : List (Key × Thing)) → All Good (xs ++ ys) → All Good xs
  all_front [] ys all = All-nil Good
  all_front (x ∷ xs) ys all = All-cons Good x xs (All-head Good x (xs ++ ys) all) (all_front xs ys (All-tail Good x (xs ++ ys) all))

  all_rest : (xs ys : List (Key × Thing)) → All Good (xs ++ ys) → All Good ys
  all_rest [] ys all = all
  all_rest (x ∷ xs) ys all = all_rest xs ys (All-tail Good x (xs ++ ys) all)

  -- one of them goes first, or another in its place
  goes_first : (front rest : List (Key × Thing)) (was now : Key × Thing) → All Good (front ++ was ∷ rest) → Good now → All Good (now ∷ front ++ rest)
  goes_first front rest was now all good =
      All-cons Good now (front ++ rest) good
      (All-append Good front rest (all_front front (was ∷ rest) all) (All-tail Good was rest (all_rest front (was ∷ rest) all)))

  -- what is found is sound
  found_good : (old new : List (Key × Thing)) (key : Key) (thing : Thing) → MovesUp old key thing new → All Good old → Good (key, thing)
  found_good old new key thing up all =
      let here = subst (All Good) up.before all in
      All-head Good (key, thing) up.rest (all_rest up.front ((key, thing) ∷ up.rest) here)

  looked_good : (old new : List (Key × Thing)) (key : Key) (thing : Option Thing) → LooksFor old key thing new → All Good old → All Good new
  looked_good old new key None looks all = subst (All Good) (sym looks.1) all
  looked_good old new key (Some thing) looks all =
      subst (All Good) (sym looks.after)
      (goes_first looks.front looks.rest (key, thing) (key, thing) (subst (All Good) looks.before all) (found_good old new key thing looks all))

  kept_good : (room : ℕ) (old new : List (Key × Thing)) (key : Key) (thing : Thing) (dropped dropped' : ℕ) → KeepsAt room old key thing new dropped dropped' → Good (key, thing) → All Good old → All Good new
  kept_good room old new key thing dropped dropped' keeps good all = elim keeps [
    | inl stays ↦ elim stays.0 [
      | inl r ↦ subst (All Good) (sym r.after) (goes_first r.front r.rest (key, r.was) (key, thing) (subst (All Good) r.before all) good)
      | inr a ↦ subst (All Good) (sym a.after) (All-cons Good (key, thing) old good all)
    ]
    | inr drops ↦
        let d = drops.0 in
        subst (All Good) (sym d.after)
        (All-cons Good (key, thing) d.front good (all_front d.front (d.last ∷ []) (subst (All Good) d.before all)))
  ]

  -- ---- all of them

  at_bin : (bins : Bins) (b : Bin) → AreSound base log bins → All Good (shelf_of bins b).things
  at_bin bins bin.Fragments are = are.fragments
  at_bin bins bin.Dynamic are = are.dynamic
  at_bin bins bin.Anonymous are = are.anonymous

  with_good : (bins : Bins) (b : Bin) (shelf : Shelf) (dropped : ℕ) → AreSound base log bins → All Good shelf.things → AreSound base log (record (with_shelf bins b shelf) { dropped = dropped })
  with_good bins bin.Fragments shelf dropped are all = record { fragments = all; dynamic = are.dynamic; anonymous = are.anonymous }
  with_good bins bin.Dynamic shelf dropped are all = record { fragments = are.fragments; dynamic = all; anonymous = are.anonymous }
  with_good bins bin.Anonymous shelf dropped are all = record { fragments = are.fragments; dynamic = are.dynamic; anonymous = all }

  with_same : (bins : Bins) (b : Bin) (shelf : Shelf) → AreSound base log bins → All Good shelf.things → AreSound base log (with_shelf bins b shelf)
  with_same bins bin.Fragments shelf are all = record { fragments = all; dynamic = are.dynamic; anonymous = are.anonymous }
  with_same bins bin.Dynamic shelf are all = record { fragments = are.fragments; dynamic = all; anonymous = are.anonymous }
  with_same bins bin.Anonymous shelf are all = record { fragments = are.fragments; dynamic = are.dynamic; anonymous = all }

  pub bins_looked : (old new : Bins) (b : Bin) (key : Key) (thing : Option Thing) → LooksIn old b key thing new → AreSound base log old → AreSound base log new
  bins_looked old new b key thing looks are =
      subst (AreSound base log) (sym looks.others)
      (with_same old b (shelf_of new b) are (looked_good (shelf_of old b).things (shelf_of new b).things key thing looks.looks.things (at_bin old b are)))

  pub bins_kept : (old new : Bins) (b : Bin) (key : Key) (thing : Thing) → KeepsIn old b key thing new → IsSoundThing base log (key, thing) → AreSound base log old → AreSound base log new
  bins_kept old new b key thing keeps good are =
      subst (AreSound base log) (sym keeps.others)
      (with_good old b (shelf_of new b) new.dropped are
      (kept_good (shelf_of old b).room (shelf_of old b).things (shelf_of new b).things key thing old.dropped new.dropped keeps.keeps.things good (at_bin old b are)))

  -- ---- as they are found and kept

  pub good_kept : (key : Key) (k : Kept) → IsSoundKept meaning base log key k → IsSoundThing base log (key, thing_of k)
  good_kept key (kept.Entry e) sound = sound
  good_kept key (kept.Redirect contexts) sound = tt

  pub sound_found : (old new : Bins) (b : Bin) (key : Key) (f : Found) → LooksIn old b key (thing_found f) new → AreSound base log old → IsSoundFound meaning base log key f
  sound_found old new b key (found.Entry e) looks are =
      found_good (shelf_of old b).things (shelf_of new b).things key (Whole (arc_value e)) looks.looks.things (at_bin old b are)
  sound_found old new b key (found.Redirect contexts) looks are = tt
  sound_found old new b key found.Absent looks are = tt
