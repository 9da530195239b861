-- What is noted of plans that show nothing.
use Rattle.std.proofs.Common.{ℕ, Option, Some, None, List, [], ◌∷◌, ◌≡◌, ◌<◌, ◌≤◌, Bool, length, refl, sym, ◌∙◌, ap, subst, arith, Contains, append-nil, inl, inr, map}
use Rattle.cacheability.specs.InOrder.{HasBoth}
use Rattle.cacheability.specs.declared.tag.Tag.{Tag}
use Rattle.cacheability.specs.declared.tag.Tag.TheVariants as tag
use Rattle.cacheability.specs.declared.context.Context.{Context}
use Rattle.cacheability.specs.declared.context.Context.TheVariants as context
use Rattle.content_state.specs.Read.{AllNodes, NodesOfType, AllTerms}
use Rattle.content_state.specs.Plan.{Plan, Done}
use Rattle.content_state.specs.Met.{result_of}
use Rattle.content_state.specs.Places.{open_places}
use Rattle.content_state.proofs.Meets.{least_permanent}
use Rattle.content_state.proofs.Filled.{in_append, in_left, in_right}
use Rattle.site_lists.specs.Listed.{list_tags}
use Rattle.site_lists.specs.ListingPlan.{of_types, among, terms_for}
use Rattle.site_lists.specs.Visible.{for_viewer, at_front, on_path, names_front}
use Rattle.render_canvas.specs.Canvas.{Sheet, Writes, Renders, NeedsTags, AddsTags, AddsContext}
use Rattle.render_canvas.proofs.Run.{both_none, next, done, read, asked}

-- what is given is what the plan gives, told by an equation
pub by_result : {A : Type 0} {p : Plan A} {old new : Sheet} {x y : A} → Renders p old x new → y ≡ result_of p old.visit → Renders p old y new
by_result {p = p} {old = old} {new = new} run e = record {
  visit = run.visit;
  whole_before = run.whole_before;
  writes = λ w. let written = run.writes w in subst (λ z. Writes p old z new) (written.exact.result ∙ sym e) written;
}

-- no tag is needed besides
none_noted : {A : Type 0} (x : A) (old new : Sheet) → AddsTags old new [] → Renders (Done x) old x new
none_noted x old new adds = record {
  visit = adds.visit;
  whole_before = adds.whole_before;
  writes = λ w.
      let a : NeedsTags old new [] = adds.added w in
      record {
        shown = [];
        libraries = [];
        appended = adds.shown ∙ sym (append-nil old.shown);
        attached = adds.libraries ∙ sym (append-nil old.libraries);
        kept = record {
          tags = λ t h. (a.tags t).1 (inl h);
          contexts = λ c h. subst (λ (l : List Context). Contains l c) (sym a.contexts) h;
          last = (let l = a.last in omega arith);
        };
        made = (refl, refl, refl);
        exact = record {
          result = refl;
          tags = a.tags;
          contexts = both_none old.needs.contexts new.needs.contexts a.contexts;
          age = a.age ∙ sym (least_permanent old.age);
          places = ap open_places adds.shown ∙ sym (append-nil (open_places old.shown));
        };
      };
}

-- ---- the first of some tags, and the others

first_of : {A : Type 0} (x : A) (xs : List A) → HasBoth xs (x ∷ []) (x ∷ xs)
first_of x xs = λ y. (
  λ h. elim (in_append (x ∷ []) xs y h) [ inl a ↦ inr a | inr b ↦ inl b ],
  λ h. elim h [ inl a ↦ in_right (x ∷ []) xs y a | inr b ↦ in_left (x ∷ []) xs y b ],
)

others_of : {A : Type 0} (x : A) (xs more all : List A) → HasBoth xs (x ∷ more) all → HasBoth (x ∷ xs) more all
others_of x xs more all both = λ y. (
  λ h. elim ((both y).0 h) [
    | inl a ↦ inl (in_right (x ∷ []) xs y a)
    | inr b ↦ elim (in_append (x ∷ []) more y b) [ inl k ↦ inl (in_left (x ∷ []) xs y k) | inr k ↦ inr k ]
  ],
  λ h. elim h [
    | inl a ↦ elim (in_append (x ∷ []) xs y a) [ inl k ↦ (both y).1 (inr (in_left (x ∷ []) more y k)) | inr k ↦ (both y).1 (inl k) ]
    | inr b ↦ (both y).1 (inr (in_right (x ∷ []) more y b))
  ],
)

-- a sheet with one more tag
abbrev with_tag : Sheet → Tag → Sheet
with_tag sheet t = record {
  visit = sheet.visit;
  shown = sheet.shown;
  libraries = sheet.libraries;
  needs = record { tags = t ∷ sheet.needs.tags; contexts = sheet.needs.contexts; last = sheet.needs.last };
  age = sheet.age;
  whole = sheet.whole;
}

first_noted : (old : Sheet) (t : Tag) → AddsTags old (with_tag old t) (t ∷ [])
first_noted old t = record {
  visit = refl;
  whole_before = λ w. w;
  shown = refl;
  libraries = refl;
  added = λ w. record { tags = first_of t old.needs.tags; contexts = refl; last = refl; age = refl };
}

others_noted : (old new : Sheet) (t : Tag) (ts : List Tag) → AddsTags old new (t ∷ ts) → AddsTags (with_tag old t) new ts
others_noted old new t ts adds = record {
  visit = adds.visit;
  whole_before = adds.whole_before;
  shown = adds.shown;
  libraries = adds.libraries;
  added = λ w.
      let a : NeedsTags old new (t ∷ ts) = adds.added w in
      record { tags = others_of t old.needs.tags ts new.needs.tags a.tags; contexts = a.contexts; last = a.last; age = a.age };
}

-- ---- what a listing chooses among

types_noted : (ts : List (List ℕ)) (old new : Sheet) → AddsTags old new (map tag.NodeListOf ts) → Renders (of_types ts) old (result_of (of_types ts) old.visit) new
unfolding of_types
types_noted [] old new adds = none_noted [] old new adds
types_noted (t ∷ ts) old new adds =
    let mid = with_tag old (tag.NodeListOf t) in
    by_result
    (next _ (read (NodesOfType t) old mid _ (first_noted old (tag.NodeListOf t)) refl)
    (next _ (types_noted ts mid new (others_noted old new (tag.NodeListOf t) (map tag.NodeListOf ts) adds)) done))
    refl

pub among_noted : (ts : List (List ℕ)) (old new : Sheet) → AddsTags old new (list_tags ts) → Renders (among ts) old (result_of (among ts) old.visit) new
among_noted [] old new adds = by_result (read AllNodes old new _ adds refl) refl
among_noted (t ∷ ts) old new adds = types_noted (t ∷ ts) old new adds

pub no_term : (term : Option ℕ) {old : Sheet} → term ≡ None → Renders (terms_for term) old (result_of (terms_for term) old.visit) old
no_term None none = by_result done refl
no_term (Some t) none = cc

pub some_term : (term : Option ℕ) {t : ℕ} {old new : Sheet} → term ≡ Some t → AddsTags old new (tag.TermList ∷ []) → Renders (terms_for term) old (result_of (terms_for term) old.visit) new
some_term None some adds = cc
some_term (Some t) {old = old} {new = new} some adds = by_result (read AllTerms old new _ adds refl) refl

-- ---- what decides whether a block shows

pub no_roles : (roles : List (List ℕ)) {old : Sheet} → length roles < 1 → Renders (for_viewer roles) old (result_of (for_viewer roles) old.visit) old
unfolding for_viewer
no_roles [] below = by_result done refl
no_roles (r ∷ rs) below = absurd (omega arith)

pub some_roles : (roles : List (List ℕ)) {old new : Sheet} → 1 ≤ length roles → AddsContext old new context.UserRoles → Renders (for_viewer roles) old (result_of (for_viewer roles) old.visit) new
unfolding for_viewer
some_roles [] above adds = absurd (omega arith)
some_roles (r ∷ rs) above adds = by_result (next _ (asked context.UserRoles _ _ _ adds refl) done) refl

pub no_paths : (hide : Bool) (paths : List (List ℕ)) {old : Sheet} → length paths < 1 → Renders (on_path hide paths) old (result_of (on_path hide paths) old.visit) old
unfolding on_path
no_paths hide [] below = by_result done refl
no_paths hide (p ∷ ps) below = absurd (omega arith)

pub some_paths : (hide : Bool) (paths : List (List ℕ)) {old mid new : Sheet} (named : Bool) → 1 ≤ length paths → AddsContext old mid context.UrlPath → named ≡ names_front paths → Renders (at_front named) mid (result_of (at_front named) mid.visit) new → Renders (on_path hide paths) old (result_of (on_path hide paths) old.visit) new
unfolding on_path
some_paths hide [] named above adds is front = absurd (omega arith)
some_paths hide (p ∷ ps) {mid = mid} {new = new} named above adds is front =
    by_result
    (next _ (asked context.UrlPath _ _ _ adds refl)
    (next _ (subst (λ b. Renders (at_front b) mid (result_of (at_front b) mid.visit) new) is front) done))
    refl
