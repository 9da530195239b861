-- What was found, and what was made.
use Rattle.std.proofs.Common.{refl, ℕ, List, [], ◌∷◌, ◌≡◌, ◌+◌, sym, ◌∙◌, ap, subst, arith, Option, Some, None, IfSome, inl, inr, map, length, take, length-append}
use Rattle.std.proofs.lemmas.List.{take-append-le, length-take-le}
use Rattle.std.specs.Arc.{arc_value}
use Rattle.std.specs.declared.sync.Arc.{Arc}
use Rattle.std.specs.declared.alloc.Global.{Global}
use Rattle.content_state.specs.declared.element.Fragment.{Fragment}
use Rattle.content_state.specs.declared.element.Hole.TheVariants.{Meta, Fragment as FragmentHole}
use Rattle.tag_counts.specs.Counts.{sum_of}
use Rattle.content_state.specs.State.{State}
use Rattle.content_state.specs.declared.commit.Commit.{Commit}
use Rattle.content_state.specs.Replay.{replay}
use Rattle.indexed_rows.specs.Rows.{InOrder}
use Rattle.content_state.specs.Plan.{Piece, Byte, Place}
use Rattle.content_state.specs.Places.{open_places, MakesWhole}
use Rattle.cache_contexts.specs.Values.{visit_on, valued}
use Rattle.cache_contexts.proofs.Tests.{head_or_tail, nowhere}
use Rattle.cache_entries.specs.declared.entry.Entry.{Entry}
use Rattle.cache_entries.specs.declared.key.Key.{Key}
use Rattle.cache_entries.specs.declared.key.Subject.{Subject}
use Rattle.cache_entries.specs.declared.kept.Found.{Found}
use Rattle.cache_entries.specs.declared.kept.Found.TheVariants as found
use Rattle.cache_entries.specs.Entries.{IsHere, IsFresh, Has, HasSumOfNumber, IsClosed, HasNoParts}
use Rattle.cache_entries.specs.Sound.{IsOf, IsSound, IsAskedFor}
use Rattle.render_canvas.specs.Board.{pieces_of}
use Rattle.render_array.specs.declared.element.Element.TheVariants as element
use Rattle.render_array.specs.Shown.{OnlyMeta}
use Rattle.render_array.specs.Whole.{whole}
use Rattle.render_array.proofs.Leaves.{fragment_closed, page_closed}
use Rattle.fragment_cache.proofs.Fresh.{fresh_is_shown}
use Rattle.page_meaning.specs.Meaning.{meaning}
use Rattle.element_entries.specs.declared.making.Joined.{Joined}
use Rattle.element_entries.specs.Readers.{Reader}
use Rattle.element_entries.specs.Keys.{visit}
use Rattle.element_entries.specs.Making.{needs_of, IsEntryOf}
use Rattle.element_entries.proofs.Entries.{made_on}
use Rattle.site_house.specs.House.{HouseView, Moves, Stays}
use Rattle.site_house.specs.Bins.{IsSeenIn, IsSoundIn}
use Rattle.site_house.proofs.Histories.{replay_number}
use Rattle.site_house.proofs.Moving.{moves_same, moves_on}
use Rattle.kept_pages.specs.Houses.{Steady, Reads, IsMadeFor}
use Rattle.kept_pages.specs.Joins.{IsWhole}
use Rattle.kept_pages.proofs.Parts.{same_pieces}

-- a house that goes on
pub steady_on : {first second third : HouseView} → Steady first second → Steady second third → Steady first third
steady_on a b = record { moves = moves_on a.moves b.moves; stays = record { handed = b.stays.handed ∙ a.stays.handed; keepers = b.stays.keepers ∙ a.stays.keepers } }

pub steady_of : {old new : HouseView} → Moves old new → Stays old new → Steady old new
steady_of moves stays = record { moves = moves; stays = stays }

pub steady_same : (house : HouseView) → Steady house house
steady_same house = record { moves = moves_same house; stays = record { handed = refl; keepers = refl } }

-- a state that was seen is still seen
pub seen_on : (old new : HouseView) (s : State) → Moves old new → IsSeenIn old s → IsSeenIn new s
seen_on old new s moves seen = record {
  in_order = subst (λ (b : State). InOrder b.rows) (sym moves.base) seen.in_order;
  count = seen.count;
  within = (let within = seen.within in omega (arith, simp length-append at (ap length moves.grows.1)));
  state_is = seen.state_is ∙ ap (λ (b : State). replay b (take seen.count old.seen)) (sym moves.base)
      ∙ ap (replay new.base) (sym (ap (take seen.count) moves.grows.1 ∙ take-append-le seen.count old.seen moves.grows.0 seen.within));
  valid = seen.valid;
}

pub reads_on : {old new : HouseView} {r : Reader} → Steady old new → Reads old r → Reads new r
reads_on {old} {new} {r} steady reads = record { seen = seen_on old new r.state steady.moves reads.seen; right = reads.right }

-- what was found and is fresh may be shown
pub fresh_here : (house : HouseView) (r : Reader) (key : Key) (o : Option (Arc Entry Global)) (was : Arc Entry Global) (seen : Found) → seen ≡ found.Entry was → IsSoundIn house key seen → Reads house r
    → IfSome o (λ e. (arc_value e ≡ arc_value was) × IsFresh r.state r.viewer r.ask r.moment (arc_value e)) → IfSome o (λ e. IsHere meaning key.subject (visit r) (arc_value e))
fresh_here house r key None was seen is sound reads h = tt
fresh_here house r key (Some e) was seen is sound reads h =
    fresh_is_shown meaning house.base house.seen key (arc_value e) r.state r.viewer r.ask r.moment reads.seen reads.right
    (subst (IsSound meaning house.base house.seen key) (sym h.0) (subst (IsSoundIn house key) is sound)) h.1

-- there is one state of each number in a log
pub one_of_number : (base : State) (log : List Commit) (s t : State) → IsOf base log s → IsOf base log t → s.number ≡ t.number → s ≡ t
one_of_number base log s t one other same =
    let taken : length (take one.count log) ≡ one.count = length-take-le one.count log one.within in
    let taken' : length (take other.count log) ≡ other.count = length-take-le other.count log other.within in
    let at : s.number ≡ base.number + length (take one.count log) = ap (λ (x : State). x.number) one.state_is ∙ replay_number base (take one.count log) in
    let at' : t.number ≡ base.number + length (take other.count log) = ap (λ (x : State). x.number) other.state_is ∙ replay_number base (take other.count log) in
    let counts : one.count ≡ other.count = omega arith in
    one.state_is ∙ ap (λ (n : ℕ). replay base (take n log)) counts ∙ sym other.state_is

-- what was found has the sum of its state, where that is the one that is read
pub found_has_sum : (house : HouseView) (r : Reader) (key : Key) (was : Arc Entry Global) (seen : Found) → seen ≡ found.Entry was → IsSoundIn house key seen → Reads house r → HasSumOfNumber r.state (arc_value was)
found_has_sum house r key was seen is sound reads same =
    let made : IsSound meaning house.base house.seen key (arc_value was) = subst (IsSoundIn house key) is sound in
    made.made_on.sum ∙ ap (λ (x : State). sum_of x.counts (arc_value was).cacheability.tags) (one_of_number house.base house.seen made.state r.state made.of_log reads.seen (sym made.made_on.made_at ∙ same))

-- what was made for a reader may be shown to it, and is fresh
module _ (r : Reader) (s : Subject) (e : Entry) (made : IsMadeFor r s e) where
  pub made_is_here : IsHere meaning s (visit r) e
  made_is_here = record {
    has = subst (λ (m : ℕ). Has (meaning s) s (visit_on r.state r.viewer r.ask m) e) made.moment made.made_on.has;
    not_over = made.not_over;
  }

  pub made_is_fresh : IsFresh r.state r.viewer r.ask r.moment e
  made_is_fresh = record {
    values_are = subst (λ (m : ℕ). e.values ≡ map (valued (visit_on r.state r.viewer r.ask m)) e.cacheability.contexts) made.moment made.made_on.values;
    sum = made.made_on.sum;
    not_before = (let same = made.moment in omega arith);
    not_after = made.not_over;
  }

-- where no place is open but that of the libraries, no part is open
pub no_parts : (ps : List Piece) → OnlyMeta ps → HasNoParts ps
no_parts [] only f h = nowhere (FragmentHole f) h
no_parts (Byte b ∷ ps) only f h = no_parts ps only f h
no_parts (Place Meta ∷ ps) only f h = elim (head_or_tail Meta (open_places ps) (FragmentHole f) h) [
  | inl e ↦ absurd (let same = e in cc)
  | inr g ↦ no_parts ps only f g
]
no_parts (Place (FragmentHole g) ∷ ps) only f h = absurd only

-- it has the values of its contexts
pub entry_valued : (r : Reader) (s : Subject) (e : Entry) → IsMadeFor r s e → e.values ≡ map (valued (visit r)) e.cacheability.contexts
entry_valued r s e made =
    subst (λ (m : ℕ). e.values ≡ map (valued (visit_on r.state r.viewer r.ask m)) e.cacheability.contexts) made.moment made.made_on.values

-- an entry of what was put together for a reader was made for it
pub entry_made_for : (r : Reader) (s : Subject) (j : Joined) (e : Entry) → IsWhole (meaning s) (visit r) j → IsClosed s (pieces_of j.segments) → IsAskedFor s r.viewer r.ask → IsEntryOf r j e → IsMadeFor r s e
entry_made_for r s j e is closed asked of = record {
  made_on = made_on (meaning s) s r j e of
      (subst (λ ps. MakesWhole (meaning s) (visit r) j.status ps j.libraries.items (needs_of j)) (sym (same_pieces j.segments)) is.makes)
      (subst (IsClosed s) (sym (same_pieces j.segments)) closed);
  moment = of.made_moment;
  not_over = (let same = of.last in let over = is.not_over in omega arith);
  asked = asked;
}

-- no part of a whole fragment is open, nor of a whole page
pub fragment_has_no_parts : (r : Reader) (f : Fragment) (j : Joined) → IsWhole (whole r.ask.path (element.Fragment f)) (visit r) j → HasNoParts (pieces_of j.segments)
fragment_has_no_parts r f j is = no_parts (pieces_of j.segments) (fragment_closed r.ask.path f (visit r) j.status (pieces_of j.segments) is.makes.attached (needs_of j) is.makes.made)

pub page_has_no_parts : (r : Reader) (j : Joined) → IsWhole (whole r.ask.path element.Page) (visit r) j → HasNoParts (pieces_of j.segments)
page_has_no_parts r j is = no_parts (pieces_of j.segments) (page_closed r.ask.path (visit r) j.status (pieces_of j.segments) is.makes.attached (needs_of j) is.makes.made)
