-- What is told is what was met, whether in the plan of an element or in its places.
use Rattle.std.proofs.Common.{ℕ, List, [], ◌∷◌, ◌++◌, ◌≡◌, min, refl, sym, ◌∙◌, ap, subst, append-nil, arith, Option, Some, None, Contains, inl, inr}
use Rattle.cacheability.specs.declared.cacheability.Cacheability.{Cacheability}
use Rattle.cacheability.specs.declared.max_age.MaxAge.{MaxAge}
use Rattle.cacheability.specs.declared.max_age.MaxAge.TheVariants.{Permanent, Seconds}
use Rattle.cacheability.specs.InOrder.{HasBoth}
use Rattle.cacheability.specs.MaxAge.{least}
use Rattle.content_state.specs.declared.element.Hole.{Hole}
use Rattle.content_state.specs.Read.{answer, cover}
use Rattle.content_state.specs.Context.{Visit, value}
use Rattle.content_state.specs.Plan.{Plan, Done, Write, Attach, Reading, Asking, Clock, Part}
use Rattle.content_state.specs.Met.{Met, met_nothing, met_tags, met_context, met_age, met_both, met}
use Rattle.content_state.specs.Places.{Filling, at_place, filled_in, SameMembers}
use Rattle.content_state.proofs.Filled.{in_append, in_left, in_right}
use Rattle.content_state.proofs.Meets.{least_assoc, least_permanent, both_assoc, met-bind}
use Rattle.render_canvas.proofs.Run.{both_then, both_none}
use Rattle.render_canvas.proofs.Timeless.{both_same}
use Rattle.render_array.specs.Built.{TellsExactly}
use Rattle.renderer.specs.declared.filled.Filled.{Filled}
use Rattle.renderer.specs.Filled.{met_at, met_in, TellsMore, IsWhole, Takes}

pub both_nothing : (a : Met) → met_both a met_nothing ≡ a
both_nothing a = λ i. record {
  tags = append-nil a.tags i;
  contexts = append-nil a.contexts i;
  age = least_permanent a.age i;
  places = append-nil a.places i;
}

least_swap : (a b c : MaxAge) → least a (least b c) ≡ least b (least a c)
least_swap Permanent b c = refl
least_swap (Seconds a) Permanent c = refl
least_swap (Seconds a) (Seconds b) Permanent =
    let same : min a b ≡ min b a = omega arith in ap Seconds same
least_swap (Seconds a) (Seconds b) (Seconds c) =
    let same : min a (min b c) ≡ min b (min a c) = omega arith in ap Seconds same

-- ---- what is told, one after the other

pub tells_none : (old new : Cacheability) → new ≡ old → TellsMore met_nothing old new
tells_none old new same = record {
  tags = both_none old.tags new.tags (ap (λ (c : Cacheability). c.tags) same);
  contexts = both_none old.contexts new.contexts (ap (λ (c : Cacheability). c.contexts) same);
  age = ap (λ (c : Cacheability). c.max_age) same ∙ sym (least_permanent old.max_age);
}

pub tells_then : (a b : Met) (old mid new : Cacheability) → TellsMore a old mid → TellsMore b mid new → TellsMore (met_both a b) old new
tells_then a b old mid new first second = record {
  tags = both_then old.tags mid.tags new.tags a.tags b.tags first.tags second.tags;
  contexts = both_then old.contexts mid.contexts new.contexts a.contexts b.contexts first.contexts second.contexts;
  age = second.age ∙ ap (λ o. least o b.age) first.age ∙ least_assoc old.max_age a.age b.age;
}

met_in-append : (fill : Filling) (v : Visit) (hs is : List Hole) → met_in fill v (hs ++ is) ≡ met_both (met_in fill v hs) (met_in fill v is)
met_in-append fill v [] is = refl
met_in-append fill v (h ∷ hs) is =
    ap (met_both (met_at (fill h) v)) (met_in-append fill v hs is)
    ∙ sym (both_assoc (met_at (fill h) v) (met_in fill v hs) (met_in fill v is))

-- in some places, and then in others
pub tells_places : (fill : Filling) (v : Visit) (hs is all : List Hole) (old mid new : Cacheability) → all ≡ hs ++ is → TellsMore (met_in fill v hs) old mid → TellsMore (met_in fill v is) mid new → TellsMore (met_in fill v all) old new
tells_places fill v hs is all old mid new both first second =
    subst (λ (m : Met). TellsMore m old new) (sym (met_in-append fill v hs is) ∙ ap (met_in fill v) (sym both))
    (tells_then (met_in fill v hs) (met_in fill v is) old mid new first second)

-- a place that stays open
pub tells_open : (fill : Filling) (v : Visit) (h : Hole) (old new : Cacheability) → fill h ≡ None → new ≡ old → TellsMore (met_in fill v (h ∷ [])) old new
tells_open fill v h old new stays same =
    subst (λ o. TellsMore (met_both (met_at o v) met_nothing) old new) (sym stays) (tells_none old new same)

-- one place
pub tells_one : (fill : Filling) (v : Visit) (h : Hole) (p : Plan (Option ℕ)) (old new : Cacheability) → fill h ≡ Some p → TellsMore (met p v) old new → TellsMore (met_in fill v (h ∷ [])) old new
tells_one fill v h p old new stands tells =
    subst (λ o. TellsMore (met_both (met_at o v) met_nothing) old new) (sym stands)
    (subst (λ (m : Met). TellsMore m old new) (sym (both_nothing (met p v))) tells)

-- a child
pub tells_child : (p : Plan (Option ℕ)) (v : Visit) (count : ℕ) (child old new : Filled) → IsWhole p v count child → Takes child old new → TellsMore (met p v) old.cacheability new.cacheability
tells_child p v count child old new whole takes = record {
  tags = both_same old.cacheability.tags child.cacheability.tags (met p v).tags new.cacheability.tags
      (record { there = whole.exact.tags.back; back = whole.exact.tags.there }) takes.tags;
  contexts = both_same old.cacheability.contexts child.cacheability.contexts (met p v).contexts new.cacheability.contexts
      (record { there = whole.exact.contexts.back; back = whole.exact.contexts.there }) takes.contexts;
  age = takes.age ∙ ap (least old.cacheability.max_age) whole.exact.age;
}

-- ---- what a plan meets whose places are filled in

-- it is what the plan meets, and what is met in its places
record AreMet (own inner all : Met) : Type 0 where
  tags : HasBoth own.tags inner.tags all.tags
  contexts : HasBoth own.contexts inner.contexts all.contexts
  age : all.age ≡ least own.age inner.age

-- a step before both
before : {A : Type 0} (s own inner all : List A) → HasBoth own inner all → HasBoth (s ++ own) inner (s ++ all)
before s own inner all both = λ x. (
  λ h. elim (in_append s all x h) [
    | inl g ↦ inl (in_left s own x g)
    | inr g ↦ elim ((both x).0 g) [ inl o ↦ inl (in_right s own x o) | inr i ↦ inr i ]
  ],
  λ h. elim h [
    | inl l ↦ elim (in_append s own x l) [ inl g ↦ in_left s all x g | inr o ↦ in_right s all x ((both x).1 (inl o)) ]
    | inr i ↦ in_right s all x ((both x).1 (inr i))
  ],
)

after_step : (step own inner all : Met) → AreMet own inner all → AreMet (met_both step own) inner (met_both step all)
after_step step own inner all are = record {
  tags = before step.tags own.tags inner.tags all.tags are.tags;
  contexts = before step.contexts own.contexts inner.contexts all.contexts are.contexts;
  age = ap (least step.age) are.age ∙ sym (least_assoc step.age own.age inner.age);
}

-- what stands in a place before both
beside : {A : Type 0} (c own inner all : List A) → HasBoth own inner all → HasBoth own (c ++ inner) (c ++ all)
beside c own inner all both = λ x. (
  λ h. elim (in_append c all x h) [
    | inl g ↦ inr (in_left c inner x g)
    | inr g ↦ elim ((both x).0 g) [ inl o ↦ inl o | inr i ↦ inr (in_right c inner x i) ]
  ],
  λ h. elim h [
    | inl o ↦ in_right c all x ((both x).1 (inl o))
    | inr r ↦ elim (in_append c inner x r) [ inl g ↦ in_left c all x g | inr i ↦ in_right c all x ((both x).1 (inr i)) ]
  ],
)

after_child : (child own inner all : Met) → AreMet own inner all → AreMet own (met_both child inner) (met_both child all)
after_child child own inner all are = record {
  tags = beside child.tags own.tags inner.tags all.tags are.tags;
  contexts = beside child.contexts own.contexts inner.contexts all.contexts are.contexts;
  age = ap (least child.age) are.age ∙ least_swap child.age own.age inner.age;
}

nothing_met : {A : Type 0} → HasBoth {X = A} [] [] []
nothing_met = λ x. (λ h. inl h, λ h. elim h [ inl g ↦ g | inr g ↦ g ])

module _ (fill : Filling) (v : Visit) where
  at_one : {A : Type 0} (o : Option (Plan (Option ℕ))) (h : Hole) (rest : Plan A) (own inner : Met) → AreMet own inner (met rest v) → AreMet own (met_both (met_at o v) inner) (met (at_place o h rest) v)
  at_one None h rest own inner are = record { tags = are.tags; contexts = are.contexts; age = are.age }
  at_one (Some child) h rest own inner are =
      subst (λ (m : Met). AreMet own (met_both (met child v) inner) m) (sym (met-bind child (λ _. rest) v))
      (after_child (met child v) own inner (met rest v) are)

  are_met : {A : Type 0} (p : Plan A) → AreMet (met p v) (met_in fill v (met p v).places) (met (filled_in fill p) v)
  are_met (Done a) = record { tags = nothing_met; contexts = nothing_met; age = refl }
  are_met (Write bs k) = are_met k
  are_met (Attach l k) = are_met k
  are_met (Reading r k) = after_step (met_tags (cover v.rows r)) (met (k (answer v.rows r)) v) _ _ (are_met (k (answer v.rows r)))
  are_met (Asking c k) = after_step (met_context c) (met (k (value v c)) v) _ _ (are_met (k (value v c)))
  are_met (Clock age k) = after_step (met_age (Seconds age)) (met (k v.moment) v) _ _ (are_met (k v.moment))
  are_met (Part h k) =
      let rest = at_one (fill h) h (filled_in fill k) (met k v) (met_in fill v (met k v).places) (are_met k) in
      record { tags = rest.tags; contexts = rest.contexts; age = rest.age }

  -- what is told of a plan and of its places is just what it meets with its places filled in
  pub tells_filled : (p : Plan (Option ℕ)) (old new : Cacheability) → TellsExactly p v old → TellsMore (met_in fill v (met p v).places) old new → TellsExactly (filled_in fill p) v new
  tells_filled p old new exact told =
      let are = are_met p in
      record {
        tags = record {
          there = λ x h. elim ((told.tags x).0 h) [ inl o ↦ (are.tags x).1 (inl (exact.tags.there x o)) | inr i ↦ (are.tags x).1 (inr i) ];
          back = λ x h. elim ((are.tags x).0 h) [ inl o ↦ (told.tags x).1 (inl (exact.tags.back x o)) | inr i ↦ (told.tags x).1 (inr i) ];
        };
        contexts = record {
          there = λ x h. elim ((told.contexts x).0 h) [ inl o ↦ (are.contexts x).1 (inl (exact.contexts.there x o)) | inr i ↦ (are.contexts x).1 (inr i) ];
          back = λ x h. elim ((are.contexts x).0 h) [ inl o ↦ (told.contexts x).1 (inl (exact.contexts.back x o)) | inr i ↦ (told.contexts x).1 (inr i) ];
        };
        age = told.age ∙ ap (λ a. least a (met_in fill v (met p v).places).age) exact.age ∙ sym are.age;
      }
