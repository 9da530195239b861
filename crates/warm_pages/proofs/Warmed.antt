-- The pages of targets are rendered one after the other, and stay held.
use Rattle.std.proofs.Common.{ℕ, List, [], ◌∷◌, ◌++◌, ◌≡◌, ◌∙◌, ◌≤◌, ◌<◌, ◌+◌, min, inl, inr, refl, sym, ap, subst, arith, take, take_all, length, get_or}
use Rattle.std.proofs.Math.Seq.{take-length}
use Rattle.std.proofs.lemmas.List.{take_min}
use Rattle.std.proofs.lemmas.Grind.{take_at_read}
use Rattle.content_state.specs.State.{State}
use Rattle.content_state.specs.Met.{met_nothing}
use Rattle.content_state.specs.Replay.{replay}
use Rattle.content_state.specs.SiteRules.{IsValidState}
use Rattle.cache_entries.specs.declared.entry.Entry.{Entry}
use Rattle.cache_entries.specs.declared.key.Subject.TheVariants as subject
use Rattle.cache_entries.specs.declared.kept.Bin.TheVariants as bin
use Rattle.element_entries.specs.Readers.{Reader}
use Rattle.element_entries.specs.Keeping.{MayKeep}
use Rattle.element_entries.specs.Keys.{visit}
use Rattle.site_house.specs.House.{HouseView, AreValid, Moves, KeepsAll}
use Rattle.site_house.specs.Bins.{IsSeenIn}
use Rattle.kept_pages.specs.Held.{Shelves, IsTold, Rises, AllHeld, Tells}
use Rattle.kept_pages.specs.Needed.{OfWhole, OfTarget}
use Rattle.kept_pages.specs.Went.{Went, OfElement}
use Rattle.kept_pages.proofs.Shelves.{rises-refl, rises-then, lost_first, lost_then}
use Rattle.warm_pages.specs.Asked.{reader_of}
use Rattle.warm_pages.specs.Warm.{PageHeld, IsRendered, Renders, AreRendered, AreHeld, Warms, OnSnapshot}
use Rattle.warm_pages.proofs.Staying.{goes_rises, page_stays}

-- ---- one page

held_there : (r : Reader) (shelves : Shelves) (e : Entry) (t : Went) → OfElement (visit r) met_nothing (OfWhole r.ask.path (visit r)) bin.Anonymous (subject.Target r.ask.target) e t
    → AllHeld r shelves t → MayKeep bin.Anonymous e.cacheability → PageHeld r shelves
held_there r shelves e t (inl is) all may = (subst (λ u. AllHeld r shelves u) is all).0
held_there r shelves e t (inr b) all may = (subst (λ u. AllHeld r shelves u) b.is all).0 may

pub renders_of : (r : Reader) (old new : HouseView) (built : ℕ) → Tells r (OfTarget (visit r)) old new 0 built → (shelves : Shelves) → IsTold old shelves → Renders r shelves new
renders_of r old new built told shelves is =
    let g = told.goes shelves is in
    record {
      after = g.after;
      is = g.is;
      entry = told.shape.entry;
      rendered = record { page = told.tree; needed = told.shape.element; goes = g.goes };
      held = λ none may. held_there r g.after told.shape.entry told.tree told.shape.element (g.held none) may;
    }

-- ---- one more page

module _ (state : State) (moment : ℕ) where
  rendered_more : (old : Shelves) (targets : List (List ℕ)) (entries : List Entry) (mid : Shelves) (target : List ℕ) (e : Entry) (new : Shelves) → AreRendered state moment old targets entries mid
      → IsRendered (reader_of state moment target) mid e new → AreRendered state moment old (targets ++ target ∷ []) (entries ++ e ∷ []) new
  rendered_more old [] [] mid target e new is p = (new, subst (λ (s : Shelves). IsRendered (reader_of state moment target) s e new) is p, refl)
  rendered_more old (t ∷ targets) (f ∷ entries) mid target e new all p = (all.0, all.1, rendered_more all.0 targets entries mid target e new all.2 p)
  rendered_more old [] (f ∷ entries) mid target e new all p = absurd all
  rendered_more old (t ∷ targets) [] mid target e new all p = absurd all

  rendered_rises : (old : Shelves) (targets : List (List ℕ)) (entries : List Entry) (new : Shelves) → AreRendered state moment old targets entries new → Rises old new
  rendered_rises old [] [] new is = subst (λ (s : Shelves). Rises old s) (sym is) (rises-refl old)
  rendered_rises old (t ∷ targets) (f ∷ entries) new all =
      rises-then old all.0 new (goes_rises (reader_of state moment t) old (all.1).page all.0 (all.1).goes) (rendered_rises all.0 targets entries new all.2)
  rendered_rises old [] (f ∷ entries) new all = absurd all
  rendered_rises old (t ∷ targets) [] new all = absurd all

  held_on : (a b : Shelves) → ((t : List ℕ) → PageHeld (reader_of state moment t) a → PageHeld (reader_of state moment t) b)
      → (targets : List (List ℕ)) (entries : List Entry) → AreHeld state moment a targets entries → AreHeld state moment b targets entries
  held_on a b stay [] [] all = tt
  held_on a b stay (t ∷ targets) (e ∷ entries) all = ((λ may. stay t (all.0 may)), held_on a b stay targets entries all.1)
  held_on a b stay [] (e ∷ entries) all = absurd all
  held_on a b stay (t ∷ targets) [] all = absurd all

  held_more : (shelves : Shelves) (targets : List (List ℕ)) (entries : List Entry) (target : List ℕ) (e : Entry) → AreHeld state moment shelves targets entries
      → (MayKeep bin.Anonymous e.cacheability → PageHeld (reader_of state moment target) shelves) → AreHeld state moment shelves (targets ++ target ∷ []) (entries ++ e ∷ [])
  held_more shelves [] [] target e all one = (one, tt)
  held_more shelves (t ∷ targets) (f ∷ entries) target e all one = (all.0, held_more shelves targets entries target e all.1 one)
  held_more shelves [] (f ∷ entries) target e all one = absurd all
  held_more shelves (t ∷ targets) [] target e all one = absurd all

  pub warms_none : (house : HouseView) (shelves : Shelves) → IsTold house shelves → Warms state moment [] shelves house
  warms_none house shelves is = record { after = shelves; is = is; entries = []; rendered = refl; held = λ none. tt }

  warms_more : (targets : List (List ℕ)) (target : List ℕ) (old : Shelves) (mid new : HouseView) → Warms state moment targets old mid
      → ((shelves : Shelves) → IsTold mid shelves → Renders (reader_of state moment target) shelves new) → Warms state moment (targets ++ target ∷ []) old new
  warms_more targets target old mid new w renders =
      let p = renders w.after w.is in
      let before = rendered_rises old targets w.entries w.after w.rendered in
      let then = goes_rises (reader_of state moment target) w.after p.rendered.page p.after p.rendered.goes in
      record {
        after = p.after;
        is = p.is;
        entries = w.entries ++ p.entry ∷ [];
        rendered = rendered_more old targets w.entries w.after target p.entry p.after w.rendered p.rendered;
        held = λ none.
            let later = lost_then old w.after p.after before then none in
            held_more p.after targets w.entries target p.entry
            (held_on w.after p.after (λ t held. page_stays state moment target t w.after p.entry p.after p.rendered later held) targets w.entries
            (w.held (lost_first old w.after p.after before then none)))
            (p.held later);
      }

  pub warms_next : (targets : List (List ℕ)) (i : ℕ) (target : List ℕ) (old : Shelves) (mid new : HouseView) → i < length targets → target ≡ get_or targets i target → Warms state moment (take i targets) old mid
      → ((shelves : Shelves) → IsTold mid shelves → Renders (reader_of state moment target) shelves new) → Warms state moment (take (i + 1) targets) old new
  warms_next targets i target old mid new within is w renders =
      rw ((take_at_read targets i target within).1)
      (warms_more (take i targets) (get_or targets i target) old mid new w
      (subst (λ t. (shelves : Shelves) → IsTold mid shelves → Renders (reader_of state moment t) shelves new) is renders))

  pub warms_all : (targets : List (List ℕ)) (i : ℕ) (old : Shelves) (new : HouseView) → length targets ≤ i → Warms state moment (take i targets) old new → Warms state moment targets old new
  warms_all targets i old new over w = subst (λ (ts : List (List ℕ)). Warms state moment ts old new) (take_all i targets over) w

-- ---- on the newest state

pub newest_seen : (house : HouseView) (state : State) → state ≡ replay house.base house.seen → AreValid house.base house.seen → IsSeenIn house state
unfolding replay
newest_seen house state is valid = record {
  in_order = (valid.states 0).in_order;
  count = length house.seen;
  within = omega arith;
  state_is = is ∙ ap (replay house.base) (sym (take-length house.seen));
  valid = subst IsValidState (ap (replay house.base) (take-length house.seen) ∙ sym is) (valid.states (length house.seen));
}

pub first_of_all : (most count : ℕ) (targets : List (List ℕ)) → count ≡ min (length targets) most → take count targets ≡ take most targets
first_of_all most count targets is = ap (λ n. take n targets) {x = count} {y = min most (length targets)} (omega arith) ∙ take_min most targets

pub on_snapshot : (old mid new : HouseView) (state : State) (moment : ℕ) (targets : List (List ℕ)) → Moves old mid → KeepsAll old mid → AreValid mid.base mid.seen → state ≡ replay mid.base mid.seen → Moves mid new
    → ((shelves : Shelves) → IsTold mid shelves → Warms state moment targets shelves new)
    → OnSnapshot old new (λ (s : State). (shelves : Shelves) → IsTold old shelves → Warms s moment targets shelves new)
on_snapshot old mid new state moment targets before keeps valid is later warms = record {
  seen = mid.seen;
  since = before.grows;
  still = later.grows;
  valid = subst IsValidState (ap (replay mid.base) (take-length mid.seen) ∙ same_base) (valid.states (length mid.seen));
  holds = λ shelves told.
      subst (λ (s : State). Warms s moment targets shelves new) (is ∙ same_base)
      (warms shelves (record { bins = keeps.bins ∙ told.bins; unkept = keeps.unkept ∙ told.unkept }));
}
  where
    same_base : replay mid.base mid.seen ≡ replay old.base mid.seen
    same_base = ap (λ (b : State). replay b mid.seen) before.base
