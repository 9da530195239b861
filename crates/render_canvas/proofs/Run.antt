-- The laws of canvases that proofs of builders apply.
use Rattle.std.proofs.Common.{ℕ, zero, suc, List, [], ◌∷◌, ◌++◌, ◌≡◌, ◌≤◌, ◌+◌, ◌<◌, refl, sym, ◌∙◌, ap, subst, append_assoc, arith, Bool, true, false, Contains, append-nil, length, take, take_all, get_or, inl, inr}
use Rattle.std.proofs.lemmas.Grind.{take_at_read}
use Rattle.std.proofs.Math.Path.{fun_ext}
use Rattle.std.specs.Prelude.{map}
use Rattle.std.specs.Prelude.{if◌then◌else◌}
use Rattle.std.specs.Prelude.{Result, Ok, Err, OnOk}
use Rattle.std.specs.Result.{is_err, is_ok}
use Rattle.access_result.specs.declared.reason.Reason.{Reason}
use Rattle.site_access.specs.Access.{Access}
use Rattle.site_access.specs.Decided.{needs_of}
use Rattle.render_canvas.specs.Decision.{decision_of, is_allowed}
use Rattle.cacheability.specs.InOrder.{AddsItem, HasBoth}
use Rattle.cacheability.specs.declared.max_age.MaxAge.{MaxAge}
use Rattle.cacheability.specs.declared.max_age.MaxAge.TheVariants.{Permanent, Seconds}
use Rattle.cacheability.specs.MaxAge.{least}
use Rattle.html_out.specs.Escape.{escaped as escaped_bytes}
use Rattle.cacheability.specs.declared.tag.Tag.{Tag}
use Rattle.cacheability.specs.declared.context.Context.{Context}
use Rattle.content_state.specs.declared.element.Hole.{Hole}
use Rattle.content_state.specs.declared.element.Library.{Library}
use Rattle.content_state.specs.Read.{Read, Answer, answer, cover}
use Rattle.content_state.specs.Context.{Visit, Value, value}
use Rattle.content_state.specs.Plan.{Piece, Place, bytes, Plan, Done, ◌>>=◌, ◌>>◌, Needs, AllIn, Made, write, escaped, attach, part, reading, asking, clock, each, folded}
use Rattle.content_state.specs.Met.{Met, met_both, result_of, met}
use Rattle.content_state.specs.Places.{SameMembers, open_places}
use Rattle.content_state.proofs.Made.{CoversContext-more, Made-more, Made-then, bind_done, bind_assoc}
use Rattle.content_state.proofs.Meets.{least_assoc, least_permanent, result-bind, met-bind}
use Rattle.content_state.proofs.Filled.{in_append, in_left, in_right}
use Rattle.render_canvas.specs.Canvas.{Sheet, Keeps, Exact, Writes, Renders, NeedsTags, AddsTags, NeedsContext, AddsContext, NeedsBoth, RestsOn, Fails, blank}
use Rattle.render_canvas.proofs.BoardLaws.{places_of_bytes, places-append}
use Rattle.render_canvas.proofs.Timeless.{IsMetBy, met_by, both_same}

pub Keeps-refl : (a : Needs) → Keeps a a
Keeps-refl a = record { tags = λ t h. h; contexts = λ c h. h; last = omega arith }

pub Keeps-trans : (a b c : Needs) → Keeps a b → Keeps b c → Keeps a c
Keeps-trans a b c p q = record {
  tags = λ t h. q.tags t (p.tags t h);
  contexts = λ x h. q.contexts x (p.contexts x h);
  last = (let l = p.last in let m = q.last in omega arith);
}

-- what was made stays made where what was needed stays needed
pub Made-kept : {A : Type 0} (p : Plan A) (v : Visit) (x : A) (shown : List Piece) (libraries : List Library) (old new : Needs) → Keeps old new → Made p v x shown libraries old → Made p v x shown libraries new
Made-kept p v x shown libraries old new keeps made =
    Made-more p v x shown libraries old new keeps.tags
    (λ c covered. CoversContext-more v old new c keeps.tags keeps.contexts covered) keeps.last made

-- the old ones and those of two lists, and no other
pub both_then : {A : Type 0} (old mid new xs ys : List A) → HasBoth old xs mid → HasBoth mid ys new → HasBoth old (xs ++ ys) new
both_then old mid new xs ys first second = λ x. (
  λ h. elim ((second x).0 h) [
    | inl m ↦ elim ((first x).0 m) [ inl o ↦ inl o | inr a ↦ inr (in_left xs ys x a) ]
    | inr b ↦ inr (in_right xs ys x b)
  ],
  λ h. elim h [
    | inl o ↦ (second x).1 (inl ((first x).1 (inl o)))
    | inr g ↦ elim (in_append xs ys x g) [ inl a ↦ (second x).1 (inl ((first x).1 (inr a))) | inr b ↦ (second x).1 (inr b) ]
  ],
)

pub both_none : {A : Type 0} (old new : List A) → new ≡ old → HasBoth old [] new
both_none old new e = λ x. (
  λ h. inl (subst (λ l. Contains l x) e h),
  λ h. elim h [ inl o ↦ subst (λ l. Contains l x) (sym e) o | inr g ↦ absurd (let l = g.1 in omega arith) ],
)

-- one item is a list of one
only_one : {A : Type 0} (x y : A) → Contains (y ∷ []) x → x ≡ y
only_one x y (zero, l, is) = sym is
only_one x y (suc i, l, is) = absurd (omega arith)

both_one : {A : Type 0} (old new : List A) (y : A) → AddsItem old y new → HasBoth old (y ∷ []) new
both_one old new y adds = λ x. (
  λ h. elim ((adds x).0 h) [ inl o ↦ inl o | inr is ↦ inr (0, omega arith, sym is) ],
  λ h. elim h [ inl o ↦ (adds x).1 (inl o) | inr g ↦ (adds x).1 (inr (only_one x y g)) ],
)

-- each of a list is among what has the same members
all_of : {A : Type 0} (xs ys : List A) → ((x : A) → Contains xs x → Contains ys x) → AllIn xs ys
all_of [] ys each = tt
all_of (x ∷ xs) ys each = (each x (0, omega arith, refl), all_of xs ys (λ y h. each y (suc h.0, (let l = h.1 in omega arith), h.2)))

-- one plan after another notes what both meet
Exact-then : {A B : Type 0} (p : Plan A) (f : A → Plan B) (old mid new : Sheet) (a : A) (x : B) → mid.visit ≡ old.visit → Exact p old a mid → Exact (f a) mid x new → Exact (p >>= f) old x new
Exact-then p f old mid new a x same first second =
    let v : Visit = old.visit in
    let m : met (p >>= f) v ≡ met_both (met p v) (met (f (result_of p v)) v) = met-bind p f v in
    let after : met (f a) mid.visit ≡ met (f (result_of p v)) v = ap (met (f a)) same ∙ ap (λ b. met (f b) v) first.result in
    record {
      result = second.result ∙ ap (result_of (f a)) same ∙ ap (λ b. result_of (f b) v) first.result ∙ sym (result-bind p f v);
      tags = subst (λ (n : Met). HasBoth old.needs.tags n.tags new.needs.tags) (sym m)
          (both_then old.needs.tags mid.needs.tags new.needs.tags (met p v).tags (met (f (result_of p v)) v).tags first.tags
          (subst (λ (n : Met). HasBoth mid.needs.tags n.tags new.needs.tags) after second.tags));
      contexts = subst (λ (n : Met). HasBoth old.needs.contexts n.contexts new.needs.contexts) (sym m)
          (both_then old.needs.contexts mid.needs.contexts new.needs.contexts (met p v).contexts (met (f (result_of p v)) v).contexts first.contexts
          (subst (λ (n : Met). HasBoth mid.needs.contexts n.contexts new.needs.contexts) after second.contexts));
      age = second.age ∙ ap (λ o. least o (met (f a) mid.visit).age) first.age ∙ least_assoc old.age (met p v).age (met (f a) mid.visit).age
          ∙ ap (λ (n : Met). least old.age (least (met p v).age n.age)) after ∙ sym (ap (λ (n : Met). least old.age n.age) m);
      places = second.places ∙ ap (λ o. o ++ (met (f a) mid.visit).places) first.places
          ∙ append_assoc (open_places old.shown) (met p v).places (met (f a) mid.visit).places
          ∙ ap (λ (n : Met). open_places old.shown ++ ((met p v).places ++ n.places)) after ∙ sym (ap (λ (n : Met). open_places old.shown ++ n.places) m);
    }

Writes-then : {A B : Type 0} (p : Plan A) (f : A → Plan B) (old mid new : Sheet) (a : A) (x : B) → mid.visit ≡ old.visit → Writes p old a mid → Writes (f a) mid x new → Writes (p >>= f) old x new
Writes-then p f old mid new a x same first second = record {
  shown = first.shown ++ second.shown;
  libraries = first.libraries ++ second.libraries;
  appended = second.appended ∙ ap (λ v. v ++ second.shown) first.appended ∙ append_assoc old.shown first.shown second.shown;
  attached = second.attached ∙ ap (λ v. v ++ second.libraries) first.attached ∙ append_assoc old.libraries first.libraries second.libraries;
  kept = Keeps-trans old.needs mid.needs new.needs first.kept second.kept;
  made = Made-then p f old.visit a x first.shown second.shown first.libraries second.libraries new.needs
      (Made-kept p old.visit a first.shown first.libraries mid.needs new.needs second.kept first.made)
      (subst (λ v. Made (f a) v x second.shown second.libraries new.needs) same second.made);
  exact = Exact-then p f old mid new a x same first.exact second.exact;
}

-- one call after another
pub next : {A B : Type 0} {p : Plan A} (f : A → Plan B) {old mid new : Sheet} {a : A} {x : B} → Renders p old a mid → Renders (f a) mid x new → Renders (p >>= f) old x new
next {p = p} f {old = old} {mid = mid} {new = new} {a = a} {x = x} first second = record {
  visit = second.visit ∙ first.visit;
  whole_before = λ w. first.whole_before (second.whole_before w);
  writes = λ w. Writes-then p f old mid new a x first.visit (first.writes (second.whole_before w)) (second.writes w);
}

-- nothing more
pub done : {A : Type 0} {old : Sheet} {x : A} → Renders (Done x) old x old
done {old = old} = record {
  visit = refl;
  whole_before = λ w. w;
  writes = λ w. record {
    shown = [];
    libraries = [];
    appended = sym (append-nil old.shown);
    attached = sym (append-nil old.libraries);
    kept = Keeps-refl old.needs;
    made = (refl, refl, refl);
    exact = record {
      result = refl;
      tags = both_none old.needs.tags old.needs.tags refl;
      contexts = both_none old.needs.contexts old.needs.contexts refl;
      age = sym (least_permanent old.age);
      places = sym (append-nil (open_places old.shown));
    };
  };
}

-- nothing more, where what is given is told by an equation
pub given_by : {A : Type 0} {old : Sheet} {x y : A} → y ≡ x → Renders (Done y) old x old
given_by {old = old} {y = y} e = subst (λ z. Renders (Done y) old z old) e done

-- a decision gives access where it is no denial
pub allowed_is : (r : Result (Unit {0}) Reason) → is_allowed (decision_of r) ≡ is_ok r
allowed_is (Ok x) = refl
allowed_is (Err reason) = refl

-- a choice whose test is known
pub if_true : {A : Type 0} {b : Bool} {p : Plan A} (q : Plan A) {old new : Sheet} {x : A} → b ≡ true → Renders p old x new → Renders (if b then p else q) old x new
if_true {p = p} q {old = old} {new = new} {x = x} e r = subst (λ v. Renders (if v then p else q) old x new) (sym e) r

pub if_false : {A : Type 0} {b : Bool} (p : Plan A) {q : Plan A} {old new : Sheet} {x : A} → b ≡ false → Renders q old x new → Renders (if b then p else q) old x new
if_false p {q = q} {old = old} {new = new} {x = x} e r = subst (λ v. Renders (if v then p else q) old x new) (sym e) r

-- the same, where what is written is given by an equation
pub next_write : {B : Type 0} (f : Unit {0} → Plan B) (bs bs' : List ℕ) {old mid new : Sheet} {x : B} → Renders (write bs) old tt mid → bs ≡ bs' → Renders (f tt) mid x new → Renders (write bs' >>= f) old x new
next_write f bs bs' {old = old} {mid = mid} first e second = next f (subst (λ b. Renders (write b) old tt mid) e first) second

pub next_escaped : {B : Type 0} (f : Unit {0} → Plan B) (bs bs' : List ℕ) {old mid new : Sheet} {x : B} → Renders (escaped bs) old tt mid → bs ≡ bs' → Renders (f tt) mid x new → Renders (escaped bs' >>= f) old x new
next_escaped f bs bs' {old = old} {mid = mid} first e second = next f (subst (λ b. Renders (escaped b) old tt mid) e first) second

-- a text that is given by an equation
pub escaped_by : {bs bs' : List ℕ} {old new : Sheet} → Renders (escaped bs) old tt new → bs ≡ bs' → Renders (escaped bs') old tt new
escaped_by {old = old} {new = new} first e = subst (λ b. Renders (escaped b) old tt new) e first

-- the same of any plan over a text
pub over_text : {A : Type 0} (p : List ℕ → Plan A) {bs bs' : List ℕ} {x : A} {old new : Sheet} → Renders (p bs) old x new → bs ≡ bs' → Renders (p bs') old x new
over_text p {x = x} {old = old} {new = new} first e = subst (λ b. Renders (p b) old x new) e first

pub ruleset runs = (next, done, if_true, if_false)

pub ruleset runs_by_equations = (next, next_write, next_escaped, done, if_true, if_false)

-- what the primitive calls make of a sheet
-- a plan that meets nothing but places
unmet : {A : Type 0} (x : A) (p : Plan A) (old new : Sheet) → new.needs ≡ old.needs → new.age ≡ old.age → x ≡ result_of p old.visit → met p old.visit ≡ record { tags = []; contexts = []; age = Permanent; places = (met p old.visit).places } → open_places new.shown ≡ open_places old.shown ++ (met p old.visit).places → Exact p old x new
unmet x p old new needs age result none places = record {
  result = result;
  tags = subst (λ (n : Met). HasBoth old.needs.tags n.tags new.needs.tags) (sym none) (both_none old.needs.tags new.needs.tags (ap (λ (n : Needs). n.tags) needs));
  contexts = subst (λ (n : Met). HasBoth old.needs.contexts n.contexts new.needs.contexts) (sym none) (both_none old.needs.contexts new.needs.contexts (ap (λ (n : Needs). n.contexts) needs));
  age = age ∙ sym (least_permanent old.age) ∙ sym (ap (λ (n : Met). least old.age n.age) none);
  places = places;
}

pub wrote : (bs : List ℕ) (old new : Sheet) → new.visit ≡ old.visit → new.whole ≡ old.whole → new.needs ≡ old.needs → new.age ≡ old.age → new.libraries ≡ old.libraries → new.shown ≡ old.shown ++ bytes bs → Renders (write bs) old tt new
unfolding write
wrote bs old new visit whole needs age libraries shown = record {
  visit = visit;
  whole_before = λ w. sym whole ∙ w;
  writes = λ w. record {
    shown = bytes bs;
    libraries = [];
    appended = shown;
    attached = libraries ∙ sym (append-nil old.libraries);
    kept = subst (λ n. Keeps old.needs n) (sym needs) (Keeps-refl old.needs);
    made = ([], sym (append-nil (bytes bs)), (refl, refl, refl));
    exact = unmet tt (write bs) old new needs age refl refl
        (ap open_places shown ∙ places-append old.shown (bytes bs) ∙ ap (λ l. open_places old.shown ++ l) (places_of_bytes bs));
  };
}

pub wrote_escaped : (text : List ℕ) (old new : Sheet) → new.visit ≡ old.visit → new.whole ≡ old.whole → new.needs ≡ old.needs → new.age ≡ old.age → new.libraries ≡ old.libraries → new.shown ≡ old.shown ++ bytes (escaped_bytes text) → Renders (escaped text) old tt new
unfolding escaped
wrote_escaped text old new visit whole needs age libraries shown = wrote (escaped_bytes text) old new visit whole needs age libraries shown

pub attached : (l : Library) (old new : Sheet) → new.visit ≡ old.visit → new.whole ≡ old.whole → new.needs ≡ old.needs → new.age ≡ old.age → new.shown ≡ old.shown → new.libraries ≡ old.libraries ++ l ∷ [] → Renders (attach l) old tt new
unfolding attach
attached l old new visit whole needs age shown libraries = record {
  visit = visit;
  whole_before = λ w. sym whole ∙ w;
  writes = λ w. record {
    shown = [];
    libraries = l ∷ [];
    appended = shown ∙ sym (append-nil old.shown);
    attached = libraries;
    kept = subst (λ n. Keeps old.needs n) (sym needs) (Keeps-refl old.needs);
    made = ([], refl, (refl, refl, refl));
    exact = unmet tt (attach l) old new needs age refl refl (ap open_places shown ∙ sym (append-nil (open_places old.shown)));
  };
}

pub opened : (h : Hole) (old new : Sheet) → new.visit ≡ old.visit → new.whole ≡ old.whole → new.needs ≡ old.needs → new.age ≡ old.age → new.libraries ≡ old.libraries → new.shown ≡ old.shown ++ Place h ∷ [] → Renders (part h) old tt new
unfolding part
opened h old new visit whole needs age libraries shown = record {
  visit = visit;
  whole_before = λ w. sym whole ∙ w;
  writes = λ w. record {
    shown = Place h ∷ [];
    libraries = [];
    appended = shown;
    attached = libraries ∙ sym (append-nil old.libraries);
    kept = subst (λ n. Keeps old.needs n) (sym needs) (Keeps-refl old.needs);
    made = ([], refl, (refl, refl, refl));
    exact = unmet tt (part h) old new needs age refl refl (ap open_places shown ∙ places-append old.shown (Place h ∷ []));
  };
}

-- what is ensured at `Ok`, where it is no error
pub where_ok : {T E P : Type 0} (r : Result T E) → is_err r ≡ false → OnOk r P → P
where_ok (Ok x) no_error p = p
where_ok (Err x) no_error p = absurd (true_is_false no_error)
  where
    true_is_false : true ≡ false → ⊥
    true_is_false e = cc

pub tagged : (t : Tag) (old new : Sheet) → new.visit ≡ old.visit → new.whole ≡ old.whole → new.shown ≡ old.shown → new.libraries ≡ old.libraries → new.needs.contexts ≡ old.needs.contexts → new.needs.last ≡ old.needs.last → new.age ≡ old.age → AddsItem old.needs.tags t new.needs.tags → AddsTags old new (t ∷ [])
tagged t old new visit whole shown libraries contexts last age adds = record {
  visit = visit;
  whole_before = λ w. sym whole ∙ w;
  shown = shown;
  libraries = libraries;
  added = λ w. record { tags = both_one old.needs.tags new.needs.tags t adds; contexts = contexts; last = last; age = age };
}

pub varied : (c : Context) (old new : Sheet) → new.visit ≡ old.visit → new.whole ≡ old.whole → new.shown ≡ old.shown → new.libraries ≡ old.libraries → new.needs.tags ≡ old.needs.tags → new.needs.last ≡ old.needs.last → new.age ≡ old.age → AddsItem old.needs.contexts c new.needs.contexts → AddsContext old new c
varied c old new visit whole shown libraries tags last age adds = record {
  visit = visit;
  whole_before = λ w. sym whole ∙ w;
  shown = shown;
  libraries = libraries;
  added = λ w. record { tags = tags; contexts = adds; last = last; age = age };
}

-- the tags of a list, one after another
pub retagged : {old new : Sheet} {t u : Tag} → t ≡ u → AddsTags old new (t ∷ []) → AddsTags old new (u ∷ [])
retagged {old = old} {new = new} e adds = subst (λ t. AddsTags old new (t ∷ [])) e adds

pub tags_none : {old : Sheet} → AddsTags old old []
tags_none {old = old} = record {
  visit = refl;
  whole_before = λ w. w;
  shown = refl;
  libraries = refl;
  added = λ w. record { tags = both_none old.needs.tags old.needs.tags refl; contexts = refl; last = refl; age = refl };
}

pub tags_append : (ts us : List Tag) (old mid new : Sheet) → AddsTags old mid ts → AddsTags mid new us → AddsTags old new (ts ++ us)
tags_append ts us old mid new first second = record {
  visit = second.visit ∙ first.visit;
  whole_before = λ w. first.whole_before (second.whole_before w);
  shown = second.shown ∙ first.shown;
  libraries = second.libraries ∙ first.libraries;
  added = λ w.
      let a : NeedsTags old mid ts = first.added (second.whole_before w) in
      let b : NeedsTags mid new us = second.added w in
      record {
        tags = both_then old.needs.tags mid.needs.tags new.needs.tags ts us a.tags b.tags;
        contexts = b.contexts ∙ a.contexts;
        last = b.last ∙ a.last;
        age = b.age ∙ a.age;
      };
}

pub tags_more : (ts : List Tag) (i : ℕ) (d : Tag) {old mid new : Sheet} → i < length ts → AddsTags old mid (take i ts) → AddsTags mid new (get_or ts i d ∷ []) → AddsTags old new (take (i + 1) ts)
tags_more ts i d {old = old} {mid = mid} {new = new} below first second =
    rw ((take_at_read ts i d below).1) (tags_append (take i ts) (get_or ts i d ∷ []) old mid new first second)

pub tags_item : (ts : List Tag) (i : ℕ) (t : Tag) {old mid new : Sheet} → i < length ts → t ≡ get_or ts i t → AddsTags old mid (take i ts) → AddsTags mid new (t ∷ []) → AddsTags old new (take (i + 1) ts)
tags_item ts i t below is first second = tags_more ts i t below first (retagged is second)

pub tags_by : {old new : Sheet} {ts us : List Tag} → ts ≡ us → AddsTags old new ts → AddsTags old new us
tags_by {old = old} {new = new} e adds = subst (λ ts. AddsTags old new ts) e adds

pub tags_all : (ts : List Tag) (i : ℕ) {old new : Sheet} → AddsTags old new (take i ts) → length ts ≤ i → AddsTags old new ts
tags_all ts i {old = old} {new = new} adds over = subst (λ us. AddsTags old new us) (take_all i ts over) adds

-- what a decision depends on is taken in
pub merged_in : (tags : List Tag) (contexts : List Context) (age : MaxAge) (old new : Sheet) → new.visit ≡ old.visit → new.whole ≡ old.whole → new.shown ≡ old.shown → new.libraries ≡ old.libraries → new.needs.last ≡ old.needs.last → new.needs.last ≤ 18446744073709551615 → new.age ≡ least old.age age → HasBoth old.needs.tags tags new.needs.tags → HasBoth old.needs.contexts contexts new.needs.contexts → RestsOn old new tags contexts age
merged_in tags contexts age old new visit whole shown libraries last fits same_age both_tags both_contexts = record {
  visit = visit;
  whole_before = λ w. sym whole ∙ w;
  shown = shown;
  libraries = libraries;
  added = λ w. record { tags = both_tags; contexts = both_contexts; last = last; fits = fits; age = same_age };
}

-- what is shown and attached is as it was
same_shown : (old new : Sheet) → new.shown ≡ old.shown → open_places new.shown ≡ open_places old.shown ++ []
same_shown old new e = ap open_places e ∙ sym (append-nil (open_places old.shown))

pub read : (r : Read) (old new : Sheet) (x : Answer r) → AddsTags old new (cover old.visit.rows r) → x ≡ answer old.visit.rows r → Renders (reading r) old x new
unfolding reading
read r old new x adds e = record {
  visit = adds.visit;
  whole_before = adds.whole_before;
  writes = λ w.
      let a : NeedsTags old new (cover old.visit.rows r) = adds.added w in
      record {
        shown = [];
        libraries = [];
        appended = adds.shown ∙ sym (append-nil old.shown);
        attached = adds.libraries ∙ sym (append-nil old.libraries);
        kept = record {
          tags = λ t h. (a.tags t).1 (inl h);
          contexts = λ c h. subst (λ (l : List Context). Contains l c) (sym a.contexts) h;
          last = (let l = a.last in omega arith);
        };
        made = (all_of (cover old.visit.rows r) new.needs.tags (λ t h. (a.tags t).1 (inr h)), (e, refl, refl));
        exact = record {
          result = e;
          tags = subst (λ l. HasBoth old.needs.tags l new.needs.tags) (sym (append-nil (cover old.visit.rows r))) a.tags;
          contexts = both_none old.needs.contexts new.needs.contexts a.contexts;
          age = a.age ∙ sym (least_permanent old.age);
          places = same_shown old new adds.shown;
        };
      };
}

pub asked : (c : Context) (old new : Sheet) (x : Value c) → AddsContext old new c → x ≡ value old.visit c → Renders (asking c) old x new
unfolding asking
asked c old new x adds e = record {
  visit = adds.visit;
  whole_before = adds.whole_before;
  writes = λ w.
      let a : NeedsContext old new c = adds.added w in
      record {
        shown = [];
        libraries = [];
        appended = adds.shown ∙ sym (append-nil old.shown);
        attached = adds.libraries ∙ sym (append-nil old.libraries);
        kept = record {
          tags = λ t h. subst (λ l. Contains l t) (sym a.tags) h;
          contexts = λ d h. (a.contexts d).1 (inl h);
          last = (let l = a.last in omega arith);
        };
        made = (inl ((a.contexts c).1 (inr refl)), (e, refl, refl));
        exact = record {
          result = e;
          tags = both_none old.needs.tags new.needs.tags a.tags;
          contexts = both_one old.needs.contexts new.needs.contexts c a.contexts;
          age = a.age ∙ sym (least_permanent old.age);
          places = same_shown old new adds.shown;
        };
      };
}

pub read_clock : (seconds : ℕ) (old new : Sheet) → new.visit ≡ old.visit → new.whole ≡ old.whole → new.shown ≡ old.shown → new.libraries ≡ old.libraries → new.needs.tags ≡ old.needs.tags → new.needs.contexts ≡ old.needs.contexts → new.needs.last ≤ old.needs.last → new.needs.last ≤ old.visit.moment + seconds → new.age ≡ least old.age (Seconds seconds) → Renders (clock seconds) old old.visit.moment new
unfolding clock
read_clock seconds old new visit whole shown libraries tags contexts last bound age = record {
  visit = visit;
  whole_before = λ w. sym whole ∙ w;
  writes = λ w. record {
    shown = [];
    libraries = [];
    appended = shown ∙ sym (append-nil old.shown);
    attached = libraries ∙ sym (append-nil old.libraries);
    kept = record {
      tags = λ t h. subst (λ ts. Contains ts t) (sym tags) h;
      contexts = λ c h. subst (λ cs. Contains cs c) (sym contexts) h;
      last = last;
    };
    made = (old.visit.moment, omega arith, bound, (refl, refl, refl));
    exact = record {
      result = refl;
      tags = both_none old.needs.tags new.needs.tags tags;
      contexts = both_none old.needs.contexts new.needs.contexts contexts;
      age = age;
      places = same_shown old new shown;
    };
  };
}

-- A decision that is taken in: its plan shows nothing, reads no clock, and meets what the decision depends on, and
-- nothing else.
pub decided : (p : Plan Access) (old new : Sheet) (x : Access) (r : Result (Unit {0}) Reason) (tags : List Tag) (contexts : List Context)
    → decision_of r ≡ x → RestsOn old new tags contexts Permanent
    → Made p old.visit x [] [] (needs_of tags contexts)
    → SameMembers (met p old.visit).tags tags → SameMembers (met p old.visit).contexts contexts → (met p old.visit).age ≡ Permanent
    → Renders p old (decision_of r) new
decided p old new x r tags contexts e rests made same_tags same_contexts age = subst (λ y. Renders p old y new) (sym e) (record {
  visit = rests.visit;
  whole_before = rests.whole_before;
  writes = λ w.
      let a : NeedsBoth old new tags contexts Permanent = rests.added w in
      let only : IsMetBy p old.visit x [] = met_by p old.visit x [] [] (needs_of tags contexts) age made in
      record {
        shown = [];
        libraries = [];
        appended = rests.shown ∙ sym (append-nil old.shown);
        attached = rests.libraries ∙ sym (append-nil old.libraries);
        kept = record {
          tags = λ t h. (a.tags t).1 (inl h);
          contexts = λ c h. (a.contexts c).1 (inl h);
          last = (let l = a.last in omega arith);
        };
        made = Made-kept p old.visit x [] [] (needs_of tags contexts) new.needs
            (record { tags = λ t h. (a.tags t).1 (inr h); contexts = λ c h. (a.contexts c).1 (inr h); last = a.fits }) made;
        exact = record {
          result = only.result;
          tags = both_same old.needs.tags tags (met p old.visit).tags new.needs.tags same_tags a.tags;
          contexts = both_same old.needs.contexts contexts (met p old.visit).contexts new.needs.contexts same_contexts a.contexts;
          age = a.age ∙ ap (least old.age) (sym age);
          places = same_shown old new rests.shown ∙ ap (λ l. open_places old.shown ++ l) (sym only.places);
        };
      };
})

-- what was written on a blank sheet is what the plan makes, and what it depends on is what the plan meets
pub on_blank : {A : Type 0} (p : Plan A) (v : Visit) (last : ℕ) (x : A) (new : Sheet) → Renders p (blank v last) x new → new.whole ≡ true → Made p v x new.shown new.libraries new.needs
on_blank p v last x new run whole =
    let w = run.writes whole in
    subst (λ t. Made p v x t new.libraries new.needs) (sym w.appended)
    (subst (λ l. Made p v x w.shown l new.needs) (sym w.attached) w.made)

pub exact_on_blank : {A : Type 0} (p : Plan A) (v : Visit) (last : ℕ) (x : A) (new : Sheet) → Renders p (blank v last) x new → new.whole ≡ true → Exact p (blank v last) x new
exact_on_blank p v last x new run whole = (run.writes whole).exact

-- where memory was wanting, nothing is claimed
pub failed : {A : Type 0} (p : Plan A) (x : A) {old new : Sheet} → Fails old new → Renders p old x new
failed p x {old = old} {new = new} fails = record {
  visit = fails.visit;
  whole_before = λ w. absurd (let n = fails.not_whole in no_more w n);
  writes = λ w. absurd (let n = fails.not_whole in no_more w n);
}
  where
    no_more : {b : Bool} → b ≡ true → b ≡ false → ⊥
    no_more t f = cc

-- a loop over a list: what was written for the first i
pub each_none : {A : Type 0} (f : A → Plan (Unit {0})) {old : Sheet} → Renders (each f []) old tt old
unfolding each
each_none f = done

each-append : {A : Type 0} (f : A → Plan (Unit {0})) (xs : List A) (y : A) → each f (xs ++ y ∷ []) ≡ (each f xs >> f y)
unfolding each
each-append f [] y = bind_done (f y)
each-append f (x ∷ xs) y = ap (λ q. f x >> q) (each-append f xs y) ∙ sym (bind_assoc (f x) (λ _. each f xs) (λ _. f y))

each_append : {A : Type 0} (f : A → Plan (Unit {0})) (xs : List A) (y : A) (old mid new : Sheet) → Renders (each f xs) old tt mid → Renders (f y) mid tt new → Renders (each f (xs ++ y ∷ [])) old tt new
each_append f xs y old mid new first second = rw (each-append f xs y) (next _ first second)

pub each_more : {A : Type 0} (f : A → Plan (Unit {0})) (xs : List A) (i : ℕ) (d : A) {old mid new : Sheet} → i < length xs → Renders (each f (take i xs)) old tt mid → Renders (f (get_or xs i d)) mid tt new → Renders (each f (take (i + 1) xs)) old tt new
each_more f xs i d {old = old} {mid = mid} {new = new} below first second =
    rw ((take_at_read xs i d below).1) (each_append f (take i xs) (get_or xs i d) old mid new first second)

pub each_item : {A : Type 0} (f : A → Plan (Unit {0})) (xs : List A) (i : ℕ) (x : A) {old mid new : Sheet} → i < length xs → x ≡ get_or xs i x → Renders (each f (take i xs)) old tt mid → Renders (f x) mid tt new → Renders (each f (take (i + 1) xs)) old tt new
each_item f xs i x {mid = mid} {new = new} below is first second = each_more f xs i x below first (subst (λ y. Renders (f y) mid tt new) is second)

pub each_by : {A : Type 0} (f : A → Plan (Unit {0})) {xs ys : List A} {old new : Sheet} → Renders (each f xs) old tt new → xs ≡ ys → Renders (each f ys) old tt new
each_by f {old = old} {new = new} run e = subst (λ zs. Renders (each f zs) old tt new) e run

pub each_all : {A : Type 0} (f : A → Plan (Unit {0})) (xs ys : List A) (i : ℕ) {old new : Sheet} → Renders (each f (take i xs)) old tt new → length xs ≤ i → xs ≡ ys → Renders (each f ys) old tt new
each_all f xs ys i {old = old} {new = new} run over same = subst (λ zs. Renders (each f zs) old tt new) (take_all i xs over ∙ same) run

-- a loop that gathers: what was gathered from the first i
pub folded_none : {A B : Type 0} (f : B → A → Plan B) {b : B} {old : Sheet} → Renders (folded f b []) old b old
unfolding folded
folded_none f = done

folded-append : {A B : Type 0} (f : B → A → Plan B) (b : B) (xs : List A) (y : A) → folded f b (xs ++ y ∷ []) ≡ (folded f b xs >>= λ c. f c y)
unfolding folded
folded-append f b [] y = bind_done (f b y)
folded-append f b (x ∷ xs) y =
    ap (λ k. f b x >>= k) (fun_ext (λ c. folded-append f c xs y)) ∙ sym (bind_assoc (f b x) (λ c. folded f c xs) (λ c. f c y))

folded_append : {A B : Type 0} (f : B → A → Plan B) (b c d : B) (xs : List A) (y : A) (old mid new : Sheet) → Renders (folded f b xs) old c mid → Renders (f c y) mid d new → Renders (folded f b (xs ++ y ∷ [])) old d new
folded_append f b c d xs y old mid new first second = rw (folded-append f b xs y) (next (λ e. f e y) first second)

pub folded_more : {A B : Type 0} (f : B → A → Plan B) (b : B) {c d : B} (xs : List A) (i : ℕ) (default : A) {old mid new : Sheet} → i < length xs → Renders (folded f b (take i xs)) old c mid → Renders (f c (get_or xs i default)) mid d new → Renders (folded f b (take (i + 1) xs)) old d new
folded_more f b {c = c} {d = d} xs i default {old = old} {mid = mid} {new = new} below first second =
    rw ((take_at_read xs i default below).1) (folded_append f b c d (take i xs) (get_or xs i default) old mid new first second)

pub folded_item : {A B : Type 0} (f : B → A → Plan B) (b : B) {c d : B} (xs : List A) (i : ℕ) (x : A) {old mid new : Sheet} → i < length xs → x ≡ get_or xs i x → Renders (folded f b (take i xs)) old c mid → Renders (f c x) mid d new → Renders (folded f b (take (i + 1) xs)) old d new
folded_item f b {c = c} {d = d} xs i x {mid = mid} {new = new} below is first second =
    folded_more f b xs i x below first (subst (λ y. Renders (f c y) mid d new) is second)

pub folded_all : {A B : Type 0} (f : B → A → Plan B) (b : B) {c : B} (xs ys : List A) (i : ℕ) {old new : Sheet} → Renders (folded f b (take i xs)) old c new → length xs ≤ i → xs ≡ ys → Renders (folded f b ys) old c new
folded_all f b {c = c} xs ys i {old = old} {new = new} run over same = subst (λ zs. Renders (folded f b zs) old c new) (take_all i xs over ∙ same) run

-- a loop that gathers from items that are seen as others, as rows behind references are
mapped-take : {A B : Type 0} (g : A → B) (i : ℕ) (xs : List A) → map g (take i xs) ≡ take i (map g xs)
mapped-take g zero xs = refl
mapped-take g (suc i) [] = refl
mapped-take g (suc i) (x ∷ xs) = ap (λ l. g x ∷ l) (mapped-take g i xs)

mapped-read : {A B : Type 0} (g : A → B) (xs : List A) (i : ℕ) (x : A) → i < length xs → x ≡ get_or xs i x → g x ≡ get_or (map g xs) i (g x)
mapped-read g [] i x below is = absurd (omega arith)
mapped-read g (y ∷ xs) zero x below is = ap g is
mapped-read g (y ∷ xs) (suc i) x below is = mapped-read g xs i x (omega arith) is

mapped-length : {A B : Type 0} (g : A → B) (xs : List A) → length (map g xs) ≡ length xs
mapped-length g [] = refl
mapped-length g (x ∷ xs) = ap suc (mapped-length g xs)

pub mapped_item : {A B C : Type 0} (g : A → B) (f : C → B → Plan C) (b : C) {c d : C} (xs : List A) (i : ℕ) (x : A) {old mid new : Sheet} → i < length xs → x ≡ get_or xs i x → Renders (folded f b (map g (take i xs))) old c mid → Renders (f c (g x)) mid d new → Renders (folded f b (map g (take (i + 1) xs))) old d new
mapped_item g f b {c = c} {d = d} xs i x {old = old} {mid = mid} {new = new} below is first second =
    subst (λ l. Renders (folded f b l) old d new) (sym (mapped-take g (i + 1) xs))
    (folded_item f b (map g xs) i (g x) (let e = mapped-length g xs in omega arith) (mapped-read g xs i x below is)
    (subst (λ l. Renders (folded f b l) old c mid) (mapped-take g i xs) first) second)

pub mapped_all : {A B C : Type 0} (g : A → B) (f : C → B → Plan C) (b : C) {c : C} (xs : List A) (ys : List B) (i : ℕ) {old new : Sheet} → Renders (folded f b (map g (take i xs))) old c new → length xs ≤ i → map g xs ≡ ys → Renders (folded f b ys) old c new
mapped_all g f b {c = c} xs ys i {old = old} {new = new} run over same =
    subst (λ zs. Renders (folded f b zs) old c new) (ap (map g) (take_all i xs over) ∙ same) run

pub each_mapped_item : {A B : Type 0} (g : A → B) (f : B → Plan (Unit {0})) (xs : List A) (i : ℕ) (x : A) {old mid new : Sheet} → i < length xs → x ≡ get_or xs i x → Renders (each f (map g (take i xs))) old tt mid → Renders (f (g x)) mid tt new → Renders (each f (map g (take (i + 1) xs))) old tt new
each_mapped_item g f xs i x {old = old} {mid = mid} {new = new} below is first second =
    subst (λ l. Renders (each f l) old tt new) (sym (mapped-take g (i + 1) xs))
    (each_item f (map g xs) i (g x) (let e = mapped-length g xs in omega arith) (mapped-read g xs i x below is)
    (subst (λ l. Renders (each f l) old tt mid) (mapped-take g i xs) first) second)

pub each_mapped_all : {A B : Type 0} (g : A → B) (f : B → Plan (Unit {0})) (xs : List A) (ys : List B) (i : ℕ) {old new : Sheet} → Renders (each f (map g (take i xs))) old tt new → length xs ≤ i → map g xs ≡ ys → Renders (each f ys) old tt new
each_mapped_all g f xs ys i {old = old} {new = new} run over same =
    subst (λ zs. Renders (each f zs) old tt new) (ap (map g) (take_all i xs over) ∙ same) run

pub ruleset loops = (each_none, each_more, each_all, folded_none, folded_more, folded_all)
