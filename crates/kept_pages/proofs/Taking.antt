-- What entries say that were taken in, and what bubbles of it.
use Rattle.std.proofs.Common.{ℕ, List, [], ◌∷◌, ◌++◌, ◌≡◌, ◌⊎◌, refl, sym, ◌∙◌, ap, subst, append-nil, Bool, Option, Contains, inl, inr}
use Rattle.std.proofs.lemmas.Grind.{flat_map-append}
use Rattle.cacheability.specs.declared.cacheability.Cacheability.{Cacheability}
use Rattle.cacheability.specs.declared.tag.Tag.{Tag}
use Rattle.cacheability.specs.InOrder.{HasBoth}
use Rattle.cacheability.specs.MaxAge.{least}
use Rattle.content_state.specs.declared.element.Fragment.{Fragment}
use Rattle.content_state.specs.Context.{Visit}
use Rattle.content_state.specs.Met.{Met, met_nothing, met_tags, met_both, met}
use Rattle.content_state.specs.Plan.{Plan}
use Rattle.content_state.specs.Places.{SameMembers}
use Rattle.content_state.proofs.Filled.{in_append, in_left, in_right}
use Rattle.content_state.proofs.Meets.{least_assoc, least_permanent}
use Rattle.render_canvas.proofs.Run.{both_then, both_none}
use Rattle.render_canvas.proofs.Timeless.{both_same}
use Rattle.render_array.specs.Built.{TellsExactly}
use Rattle.cache_contexts.proofs.Tests.{nowhere}
use Rattle.cache_entries.specs.declared.entry.Entry.{Entry}
use Rattle.cache_entries.specs.declared.key.Subject.{Subject}
use Rattle.cache_entries.specs.declared.kept.Bin.{Bin}
use Rattle.element_entries.specs.declared.making.Joined.{Joined}
use Rattle.element_entries.specs.Making.{Bubbles}
use Rattle.kept_pages.specs.Went.{Went, Done, Found, Built, then_went, entries_in, tags_in, contexts_in, least_age, Gathers, Says, OfElement, TakesIn, GathersIn}
use Rattle.kept_pages.specs.Joins.{Takes, AsksLazy}
use Rattle.kept_pages.specs.Needed.{tags_of_lazy}

entries_then : (t u : Went) → entries_in (then_went t u) ≡ entries_in t ++ entries_in u
entries_then Done u = refl
entries_then (Found b s e rest) u = ap (λ es. e ∷ es) (entries_then rest u)
entries_then (Built b s e inner rest) u = ap (λ es. e ∷ es) (entries_then rest u)

least_then : (xs ys : List Entry) → least_age (xs ++ ys) ≡ least (least_age xs) (least_age ys)
least_then [] ys = refl
least_then (e ∷ xs) ys = ap (least e.cacheability.max_age) (least_then xs ys) ∙ sym (least_assoc e.cacheability.max_age (least_age xs) (least_age ys))

-- the members of four lists, however they stand
four : {A : Type 0} (a b c d : List A) → SameMembers ((a ++ c) ++ (b ++ d)) ((a ++ b) ++ (c ++ d))
four a b c d = record {
  there = λ x h. elim (in_append (a ++ c) (b ++ d) x h) [
    | inl l ↦ elim (in_append a c x l) [
      | inl g ↦ in_left (a ++ b) (c ++ d) x (in_left a b x g)
      | inr g ↦ in_right (a ++ b) (c ++ d) x (in_left c d x g)
    ]
    | inr r ↦ elim (in_append b d x r) [
      | inl g ↦ in_left (a ++ b) (c ++ d) x (in_right a b x g)
      | inr g ↦ in_right (a ++ b) (c ++ d) x (in_right c d x g)
    ]
  ];
  back = λ x h. elim (in_append (a ++ b) (c ++ d) x h) [
    | inl l ↦ elim (in_append a b x l) [
      | inl g ↦ in_left (a ++ c) (b ++ d) x (in_left a c x g)
      | inr g ↦ in_right (a ++ c) (b ++ d) x (in_left b d x g)
    ]
    | inr r ↦ elim (in_append c d x r) [
      | inl g ↦ in_left (a ++ c) (b ++ d) x (in_right a c x g)
      | inr g ↦ in_right (a ++ c) (b ++ d) x (in_right b d x g)
    ]
  ];
}

-- some were taken in, and then others
pub takes_then : (One Two Both : Went → Type 0) (first second : List Tag) (old mid new : Cacheability) (t u : Went) → (One t → Two u → Both (then_went t u)) → TakesIn One first old mid t → TakesIn Two second mid new u
    → TakesIn Both (first ++ second) old new (then_went t u)
takes_then One Two Both first second old mid new t u both one two = record {
  shape = both one.shape two.shape;
  tags = subst (λ es. HasBoth old.tags ((first ++ second) ++ tags_in es) new.tags) (sym (entries_then t u))
      (subst (λ ts. HasBoth old.tags ((first ++ second) ++ ts) new.tags) (sym (flat_map-append (λ (e : Entry). e.cacheability.tags) (entries_in t) (entries_in u)))
      (both_same old.tags ((first ++ tags_in (entries_in t)) ++ (second ++ tags_in (entries_in u))) ((first ++ second) ++ (tags_in (entries_in t) ++ tags_in (entries_in u))) new.tags
      (four first (tags_in (entries_in t)) second (tags_in (entries_in u)))
      (both_then old.tags mid.tags new.tags (first ++ tags_in (entries_in t)) (second ++ tags_in (entries_in u)) one.tags two.tags)));
  contexts = subst (λ es. HasBoth old.contexts (contexts_in es) new.contexts) (sym (entries_then t u))
      (subst (λ cs. HasBoth old.contexts cs new.contexts) (sym (flat_map-append (λ (e : Entry). e.cacheability.contexts) (entries_in t) (entries_in u)))
      (both_then old.contexts mid.contexts new.contexts (contexts_in (entries_in t)) (contexts_in (entries_in u)) one.contexts two.contexts));
  age = two.age ∙ ap (λ a. least a (least_age (entries_in u))) one.age ∙ least_assoc old.max_age (least_age (entries_in t)) (least_age (entries_in u))
      ∙ ap (least old.max_age) (sym (least_then (entries_in t) (entries_in u)) ∙ ap least_age (sym (entries_then t u)));
}

-- nothing was
pub takes_none : (Shape : Went → Type 0) (old new : Cacheability) → Shape Done → new ≡ old → TakesIn Shape [] old new Done
takes_none Shape old new shape same = record {
  shape = shape;
  tags = both_none old.tags new.tags (ap (λ (c : Cacheability). c.tags) same);
  contexts = both_none old.contexts new.contexts (ap (λ (c : Cacheability). c.contexts) same);
  age = ap (λ (c : Cacheability). c.max_age) same ∙ sym (least_permanent old.max_age);
}

-- the entry of what was found or built
one_entry : (v : Visit) (own : Met) (Inner : Went → Type 0) (b : Bin) (s : Subject) (e : Entry) (t : Went) → OfElement v own Inner b s e t → entries_in t ≡ e ∷ []
one_entry v own Inner b s e t (inl is) = ap entries_in is
one_entry v own Inner b s e t (inr b') = ap entries_in b'.is

-- what was found or built was taken in as a child
pub takes_child : (v : Visit) (own : Met) (Inner : Went → Type 0) (b : Bin) (s : Subject) (e : Entry) (Shape : Went → Type 0) (old new : Joined) (t : Went) → (OfElement v own Inner b s e t → Shape t)
    → Takes e old new → OfElement v own Inner b s e t → TakesIn Shape [] old.cacheability new.cacheability t
takes_child v own Inner b s e Shape old new t shape takes of =
    let one = sym (one_entry v own Inner b s e t of) in
    record {
      shape = shape of;
      tags = subst (λ es. HasBoth old.cacheability.tags (tags_in es) new.cacheability.tags) one
          (subst (λ ts. HasBoth old.cacheability.tags ts new.cacheability.tags) (sym (append-nil e.cacheability.tags)) takes.tags);
      contexts = subst (λ es. HasBoth old.cacheability.contexts (contexts_in es) new.cacheability.contexts) one
          (subst (λ cs. HasBoth old.cacheability.contexts cs new.cacheability.contexts) (sym (append-nil e.cacheability.contexts)) takes.contexts);
      age = takes.age ∙ ap (least old.cacheability.max_age) (sym (least_permanent e.cacheability.max_age) ∙ ap least_age one);
    }

-- first it was asked which places stay open
pub takes_asked : (Shape : Went → Type 0) (v : Visit) (f : Fragment) (lazy : Bool) (old mid : Joined) (new : Cacheability) (t : Went) → AsksLazy v f old lazy mid → TakesIn Shape [] mid.cacheability new t
    → TakesIn Shape (tags_of_lazy v f ++ []) old.cacheability new t
takes_asked Shape v f lazy old mid new t asks takes = record {
  shape = takes.shape;
  tags = subst (λ ts. HasBoth old.cacheability.tags (ts ++ tags_in (entries_in t)) new.tags) (sym (append-nil (tags_of_lazy v f)))
      (both_then old.cacheability.tags mid.cacheability.tags new.tags (tags_of_lazy v f) (tags_in (entries_in t)) asks.tags takes.tags);
  contexts = subst (λ cs. HasBoth cs (contexts_in (entries_in t)) new.contexts) asks.contexts takes.contexts;
  age = takes.age ∙ ap (λ a. least a (least_age (entries_in t))) asks.age;
}

-- what was met itself, and what was taken in then, are all that is needed
module _ (Shape : Went → Type 0) (p : Plan (Option ℕ)) (v : Visit) (old new : Cacheability) (t : Went) (exact : TellsExactly p v old) where
  pub gathers_met : TakesIn Shape [] old new t → GathersIn Shape (met p v) new t
  gathers_met takes = record {
    shape = takes.shape;
    gathers = record {
      tags = λ x. ((λ h. elim ((takes.tags x).0 h) [ inl g ↦ inl (exact.tags.there x g) | inr g ↦ inr g ]), (λ h. (takes.tags x).1 (elim h [ inl g ↦ inl (exact.tags.back x g) | inr g ↦ inr g ])));
      contexts = λ x. ((λ h. elim ((takes.contexts x).0 h) [ inl g ↦ inl (exact.contexts.there x g) | inr g ↦ inr g ]), (λ h. (takes.contexts x).1 (elim h [ inl g ↦ inl (exact.contexts.back x g) | inr g ↦ inr g ])));
      age = takes.age ∙ ap (λ a. least a (least_age (entries_in t))) exact.age;
    };
  }

  pub gathers_asked : (asked : List Tag) → TakesIn Shape asked old new t → GathersIn Shape (met_both (met_tags asked) (met p v)) new t
  gathers_asked asked takes = record {
    shape = takes.shape;
    gathers = record {
      tags = λ x. (
        (λ h. elim ((takes.tags x).0 h) [
          | inl g ↦ inl (in_right asked (met p v).tags x (exact.tags.there x g))
          | inr g ↦ elim (in_append asked (tags_in (entries_in t)) x g) [ inl a ↦ inl (in_left asked (met p v).tags x a) | inr e ↦ inr e ]
        ]),
        (λ h. (takes.tags x).1 (elim h [
          | inl g ↦ elim (in_append asked (met p v).tags x g) [ inl a ↦ inr (in_left asked (tags_in (entries_in t)) x a) | inr m ↦ inl (exact.tags.back x m) ]
          | inr e ↦ inr (in_right asked (tags_in (entries_in t)) x e)
        ])),
      );
      contexts = λ x. ((λ h. elim ((takes.contexts x).0 h) [ inl g ↦ inl (exact.contexts.there x g) | inr g ↦ inr g ]), (λ h. (takes.contexts x).1 (elim h [ inl g ↦ inl (exact.contexts.back x g) | inr g ↦ inr g ])));
      age = takes.age ∙ ap (λ a. least a (least_age (entries_in t))) exact.age;
    };
  }

-- a page that is kept for whoever views it, and what was taken in where it is left open
pub gathers_whole : (v : Visit) (own : Met) (Inner : Went → Type 0) (b : Bin) (s : Subject) (page : Entry) (Rest Both : Went → Type 0) (new : Cacheability) (t u : Went) → (OfElement v own Inner b s page t → Rest u → Both (then_went t u))
    → OfElement v own Inner b s page t → TakesIn Rest [] page.cacheability new u → GathersIn Both met_nothing new (then_went t u)
gathers_whole v own Inner b s page Rest Both new t u both of takes =
    let all : entries_in (then_went t u) ≡ page ∷ entries_in u = entries_then t u ∙ ap (λ es. es ++ entries_in u) (one_entry v own Inner b s page t of) in
    record {
      shape = both of takes.shape;
      gathers = subst (λ es. Gathers met_nothing es new) (sym all) (record {
        tags = λ x. ((λ h. inr (from_both page.cacheability.tags (tags_in (entries_in u)) x ((takes.tags x).0 h))), (λ h. (takes.tags x).1 (to_both page.cacheability.tags (tags_in (entries_in u)) x h)));
        contexts = λ x. ((λ h. inr (from_both page.cacheability.contexts (contexts_in (entries_in u)) x ((takes.contexts x).0 h))), (λ h. (takes.contexts x).1 (to_both page.cacheability.contexts (contexts_in (entries_in u)) x h)));
        age = takes.age;
      });
    }
  where
    from_both : {A : Type 0} (xs ys : List A) (x : A) → Contains xs x ⊎ Contains ys x → Contains (xs ++ ys) x
    from_both xs ys x (inl h) = in_left xs ys x h
    from_both xs ys x (inr h) = in_right xs ys x h

    to_both : {A : Type 0} (xs ys : List A) (x : A) → Contains [] x ⊎ Contains (xs ++ ys) x → Contains xs x ⊎ Contains ys x
    to_both xs ys x (inl h) = nowhere x h
    to_both xs ys x (inr h) = in_append xs ys x h

-- an entry of it says what bubbles
pub says_of : (v : Visit) (own : Met) (entries : List Entry) (needed : Cacheability) (e : Entry) → Gathers own entries needed → Bubbles v needed e.cacheability → Says v own entries e
says_of v own entries needed e gathers bubbles = record { needed = needed; gathers = gathers; bubbles = bubbles }
