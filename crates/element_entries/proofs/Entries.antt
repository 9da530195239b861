-- What an entry depends on covers what was needed.
use Rattle.std.proofs.Common.{ℕ, List, [], ◌∷◌, ◌≡◌, refl, sym, subst, arith, inl, inr, Contains, Option, map}
use Rattle.html_out.specs.Part.{Part}
use Rattle.cacheability.specs.declared.tag.Tag.{Tag}
use Rattle.cacheability.specs.declared.tag.Tag.TheVariants as tag
use Rattle.cacheability.specs.declared.context.Context.{Context}
use Rattle.cacheability.specs.declared.context.Context.TheVariants as context
use Rattle.content_state.specs.declared.element.Hole.{Hole}
use Rattle.content_state.specs.declared.element.Library.{Library}
use Rattle.content_state.specs.Context.{above, dropped_tags}
use Rattle.content_state.specs.Plan.{Plan, AllIn, CoversContext, Made}
use Rattle.content_state.specs.Places.{MakesWhole, SameMembers}
use Rattle.content_state.proofs.Made.{AllIn-more, CoversContext-more, Made-more}
use Rattle.cache_contexts.specs.Values.{visit_on, valued}
use Rattle.cache_contexts.proofs.LeftOut.{all_covered}
use Rattle.cache_contexts.proofs.Tests.{at_tail, head_or_tail, nowhere}
use Rattle.cache_entries.specs.declared.entry.Entry.{Entry}
use Rattle.cache_entries.specs.Entries.{pieces_of, needs_of, Has, IsClosed}
use Rattle.element_entries.specs.declared.making.Joined.{Joined}
use Rattle.element_entries.specs.Readers.{Reader}
use Rattle.element_entries.specs.Keys.{visit}
use Rattle.element_entries.specs.Making.{needs_of as needs_joined, IsEntryOf}
use Rattle.element_entries.specs.Laws.{EntriesAreMadeOn, EntriesAreFresh}

below_one : {G : Type 0} (u c x : Context) → Contains (u ∷ []) c → above u ≡ [] → Contains (above c) x → G
below_one u c x h e g = elim (head_or_tail u [] c h) [
  | inl is ↦ nowhere x (subst (λ l. Contains l x) e (subst (λ d. Contains (above d) x) is g))
  | inr k ↦ nowhere c k
]

-- what stands above what stands above a context stands above it
above_above : (c u x : Context) → Contains (above c) u → Contains (above u) x → Contains (above c) x
above_above context.UserRoles u x h g = below_one context.User u x h refl g
above_above context.UserPermissions u x h g = below_one context.User u x h refl g
above_above context.UrlPath u x h g = below_one context.Url u x h refl g
above_above context.IsFront u x h g = elim (head_or_tail context.UrlPath (context.Url ∷ []) u h) [
  | inl is ↦ at_tail context.UrlPath (context.Url ∷ []) x (subst (λ d. Contains (above d) x) is g)
  | inr k ↦ below_one context.Url u x k refl g
]
above_above context.QueryArgs u x h g = below_one context.Url u x h refl g
above_above (context.QueryArg name) u x h g = elim (head_or_tail context.QueryArgs (context.Url ∷ []) u h) [
  | inl is ↦ at_tail context.QueryArgs (context.Url ∷ []) x (subst (λ d. Contains (above d) x) is g)
  | inr k ↦ below_one context.Url u x k refl g
]
above_above context.SessionExists u x h g = below_one context.Session u x h refl g
above_above _ u x h g = nowhere u h

module _ (r : Reader) (j : Joined) (e : Entry) (of : IsEntryOf r j e) where
  tags_stay : (t : Tag) → Contains j.cacheability.tags t → Contains e.cacheability.tags t
  tags_stay t h = (of.bubbles.tags_are t).1 (inl (inl h))

  named_covered : (c : Context) → Contains of.bubbles.all c → CoversContext (visit r) (needs_of e) c
  named_covered c h =
      CoversContext-more (visit r) (record { tags = of.bubbles.stand_ins; contexts = e.cacheability.contexts; last = e.last }) (needs_of e) c
      (λ t g. (of.bubbles.tags_are t).1 (inr g)) (λ d g. g)
      (all_covered (visit r) of.bubbles.all e.cacheability.contexts of.bubbles.stand_ins e.last of.bubbles.leaves_out c h)

  needed_covered : (c : Context) → Contains j.cacheability.contexts c → CoversContext (visit r) (needs_of e) c
  needed_covered c h = named_covered c ((of.bubbles.all_are c).1 (inl h))

  covered_still : (c : Context) → CoversContext (visit r) (needs_joined j) c → CoversContext (visit r) (needs_of e) c
  covered_still c (inl held) = needed_covered c held
  covered_still c (inr other) = go (needed_covered other.0 other.2)
    where
      tags : AllIn (dropped_tags (visit r) c) e.cacheability.tags
      tags = AllIn-more (dropped_tags (visit r) c) j.cacheability.tags e.cacheability.tags tags_stay other.3

      go : CoversContext (visit r) (needs_of e) other.0 → CoversContext (visit r) (needs_of e) c
      go (inl held) = inr (other.0, other.1, held, tags)
      go (inr more) = inr (more.0, above_above c other.0 more.0 other.1 more.1, more.2, tags)

  whole_still : (p : Plan (Option ℕ)) → MakesWhole p (visit r) j.status (pieces_of j.segments) j.libraries.items (needs_joined j) → MakesWhole p (visit r) e.status (pieces_of e.segments) e.libraries (needs_of e)
  whole_still p makes = record {
    attached = makes.attached;
    made = subst (λ (s : Option ℕ). Made p (visit r) s (pieces_of e.segments) makes.attached (needs_of e)) (sym of.status)
        (subst (λ (ps : List (Part Hole)). Made p (visit r) j.status (pieces_of ps) makes.attached (needs_of e)) (sym of.segments)
        (Made-more p (visit r) j.status (pieces_of j.segments) makes.attached (needs_joined j) (needs_of e) tags_stay covered_still (let same = of.last in omega arith) makes.made));
    same = subst (λ (l : List Library). SameMembers makes.attached l) (sym of.libraries) makes.same;
  }

pub made_on : EntriesAreMadeOn
made_on p s r j e of makes closed = record {
  made_at = of.made_at;
  has = subst (λ (m : ℕ). Has p s (visit_on r.state r.viewer r.ask m) e) (sym of.made_moment) (record {
    makes = whole_still r j e of p makes;
    closed = subst (λ (ps : List (Part Hole)). IsClosed s (pieces_of ps)) (sym of.segments) closed;
  });
  values = subst (λ (m : ℕ). e.values ≡ map (valued (visit_on r.state r.viewer r.ask m)) e.cacheability.contexts) (sym of.made_moment) of.values;
  sum = of.sum;
  rendered = (of.bubbles.tags_are tag.Rendered).1 (inl (inr refl));
}

pub fresh_on : EntriesAreFresh
fresh_on r j e of not_over = record {
  values_are = of.values;
  sum = of.sum;
  not_before = (let same = of.made_moment in omega arith);
  not_after = (let same = of.last in omega arith);
}
