-- A plan whose reads and questions were carried out on a visit: what is left is what it shows and attaches, the places that it
-- leaves open, and when it looks at the clock. Plans that are left as one plan show the same.
use Rattle.std.proofs.Common.{◌≡◌, ◌∙◌, ℕ, List, [], ◌∷◌, ◌++◌, Bool, true, false, refl, sym, ap, subst, arith, Contains, inl}
use Rattle.std.proofs.Math.Path.{fun_ext}
use Rattle.std.specs.Prelude.{Option, Some, None, option_map, if◌then◌else◌}
use Rattle.std.proofs.lemmas.List.Elements.{Contains-append_left, Contains-append_right}
use Rattle.cacheability.specs.declared.tag.Tag.{Tag}
use Rattle.cacheability.specs.declared.context.Context.{Context}
use Rattle.content_state.specs.declared.element.Hole.{Hole}
use Rattle.content_state.specs.declared.element.Library.{Library}
use Rattle.content_state.specs.Read.{answer, cover}
use Rattle.content_state.specs.Context.{Visit, value}
use Rattle.content_state.specs.Plan.{Piece, Plan, Done, Write, Attach, Reading, Asking, Clock, Part, ◌>>=◌, Needs, AllIn, Made, Shows, write, escaped, attach, part, clock, each, folded}
use Rattle.content_state.specs.Places.{Filling, at_place, filled_in}
use Rattle.content_state.proofs.Made.{Made-more, CoversContext-more}

abbrev pub settled : {A : Type 0} → Visit → Plan A → Plan A
settled v (Done a) = Done a
settled v (Write bs k) = Write bs (settled v k)
settled v (Attach l k) = Attach l (settled v k)
settled v (Reading r k) = settled v (k (answer v.rows r))
settled v (Asking c k) = settled v (k (value v c))
settled v (Clock age k) = Clock age (λ t. settled v (k t))
settled v (Part h k) = Part h (settled v k)

pub settled_bind : {A B : Type 0} (v : Visit) (p : Plan A) (f : A → Plan B) → settled v (p >>= f) ≡ (settled v p >>= λ a. settled v (f a))
settled_bind v (Done a) f = refl
settled_bind v (Write bs k) f = ap (Write bs) (settled_bind v k f)
settled_bind v (Attach l k) f = ap (Attach l) (settled_bind v k f)
settled_bind v (Reading r k) f = settled_bind v (k (answer v.rows r)) f
settled_bind v (Asking c k) f = settled_bind v (k (value v c)) f
settled_bind v (Clock age k) f = ap (Clock age) (fun_ext (λ t. settled_bind v (k t) f))
settled_bind v (Part h k) f = ap (Part h) (settled_bind v k f)

-- ---- places filled in

settled_at : {A : Type 0} (v : Visit) (o : Option (Plan (Option ℕ))) (h : Hole) (rest : Plan A)
    → settled v (at_place o h rest) ≡ at_place (option_map (settled v) o) h (settled v rest)
settled_at v None h rest = refl
settled_at v (Some child) h rest = settled_bind v child (λ _. rest)

-- what stands in the places, carried out
abbrev pub settled_filling : Visit → Filling → Filling
settled_filling v fill h = option_map (settled v) (fill h)

pub settled_filled : {A : Type 0} (fill : Filling) (v : Visit) (p : Plan A)
    → settled v (filled_in fill p) ≡ filled_in (settled_filling v fill) (settled v p)
settled_filled fill v (Done a) = refl
settled_filled fill v (Write bs k) = ap (Write bs) (settled_filled fill v k)
settled_filled fill v (Attach l k) = ap (Attach l) (settled_filled fill v k)
settled_filled fill v (Reading r k) = settled_filled fill v (k (answer v.rows r))
settled_filled fill v (Asking c k) = settled_filled fill v (k (value v c))
settled_filled fill v (Clock age k) = ap (Clock age) (fun_ext (λ t. settled_filled fill v (k t)))
settled_filled fill v (Part h k) =
    settled_at v (fill h) h (filled_in fill k)
    ∙ ap (at_place (option_map (settled v) (fill h)) h) (settled_filled fill v k)

-- ---- what is made

-- what a plan makes on a visit is made on any visit of the same moment by what is left of it
pub left_makes : {A : Type 0} (p : Plan A) (v w : Visit) (x : A) (shown : List Piece) (libraries : List Library) (needs : Needs)
    → v.moment ≡ w.moment → Made p v x shown libraries needs → Made (settled v p) w x shown libraries needs
left_makes (Done a) v w x shown libraries needs same made = made
left_makes (Write bs k) v w x shown libraries needs same made =
    (made.0, made.1, left_makes k v w x made.0 libraries needs same made.2)
left_makes (Attach l k) v w x shown libraries needs same made =
    (made.0, made.1, left_makes k v w x shown made.0 needs same made.2)
left_makes (Reading r k) v w x shown libraries needs same made =
    left_makes (k (answer v.rows r)) v w x shown libraries needs same made.1
left_makes (Asking c k) v w x shown libraries needs same made =
    left_makes (k (value v c)) v w x shown libraries needs same made.1
left_makes (Clock age k) v w x shown libraries needs same made =
    (made.0, (let m = made.1 in omega arith), made.2, left_makes (k made.0) v w x shown libraries needs same made.3)
left_makes (Part h k) v w x shown libraries needs same made =
    (made.0, made.1, left_makes k v w x made.0 libraries needs same made.2)

all_in : {A : Type 0} (xs ys : List A) → ((x : A) → Contains xs x → Contains ys x) → AllIn xs ys
all_in [] ys held = tt
all_in (x ∷ xs) ys held =
    (held x (0, omega arith, refl), all_in xs ys (λ y h. held y (Contains-append_right (x ∷ []) xs y h)))

-- made, with some needs of this last moment
pub record IsMadeBy {A : Type 0} (p : Plan A) (v : Visit) (x : A) (shown : List Piece) (libraries : List Library) (last : ℕ) : Type 0 where
  pub tags : List Tag
  pub contexts : List Context
  pub made : Made p v x shown libraries (record { tags = tags; contexts = contexts; last = last })

-- where more is needed
made_with : {A : Type 0} (p : Plan A) (v : Visit) (x : A) (shown : List Piece) (libraries : List Library) (last : ℕ) (tags more : List Tag) (contexts varied : List Context)
    → Made p v x shown libraries (record { tags = tags; contexts = contexts; last = last })
    → Made p v x shown libraries (record { tags = more ++ tags; contexts = varied ++ contexts; last = last })
made_with p v x shown libraries last tags more contexts varied made =
    let old : Needs = record { tags = tags; contexts = contexts; last = last } in
    let new : Needs = record { tags = more ++ tags; contexts = varied ++ contexts; last = last } in
    let in_tags : (t : Tag) → Contains tags t → Contains (more ++ tags) t = λ t h. Contains-append_right more tags t h in
    let in_contexts : (c : Context) → Contains contexts c → Contains (varied ++ contexts) c = λ c h. Contains-append_right varied contexts c h in
    Made-more p v x shown libraries old new in_tags (λ c. CoversContext-more v old new c in_tags in_contexts) (omega arith) made

-- what is left of a plan makes nothing that the plan doesn't
pub makes_left : {A : Type 0} (p : Plan A) (v w : Visit) (x : A) (shown : List Piece) (libraries : List Library) (needs : Needs)
    → v.moment ≡ w.moment → Made (settled v p) w x shown libraries needs → IsMadeBy p v x shown libraries needs.last
makes_left (Done a) v w x shown libraries needs same made = record { tags = []; contexts = []; made = made }
makes_left (Write bs k) v w x shown libraries needs same made =
    let m = makes_left k v w x made.0 libraries needs same made.2 in
    record { tags = m.tags; contexts = m.contexts; made = (made.0, made.1, m.made) }
makes_left (Attach l k) v w x shown libraries needs same made =
    let m = makes_left k v w x shown made.0 needs same made.2 in
    record { tags = m.tags; contexts = m.contexts; made = (made.0, made.1, m.made) }
makes_left (Reading r k) v w x shown libraries needs same made =
    let m = makes_left (k (answer v.rows r)) v w x shown libraries needs same made in
    let covered = cover v.rows r in
    record {
      tags = covered ++ m.tags;
      contexts = m.contexts;
      made = (
        all_in covered (covered ++ m.tags) (λ t h. Contains-append_left covered m.tags t h),
        made_with (k (answer v.rows r)) v x shown libraries needs.last m.tags covered m.contexts [] m.made,
      );
    }
makes_left (Asking c k) v w x shown libraries needs same made =
    let m = makes_left (k (value v c)) v w x shown libraries needs same made in
    record {
      tags = m.tags;
      contexts = c ∷ m.contexts;
      made = (
        inl (0, omega arith, refl),
        made_with (k (value v c)) v x shown libraries needs.last m.tags [] m.contexts (c ∷ []) m.made,
      );
    }
makes_left (Clock age k) v w x shown libraries needs same made =
    let m = makes_left (k made.0) v w x shown libraries needs same made.3 in
    record { tags = m.tags; contexts = m.contexts; made = (made.0, (let l = made.1 in omega arith), made.2, m.made) }
makes_left (Part h k) v w x shown libraries needs same made =
    let m = makes_left k v w x made.0 libraries needs same made.2 in
    record { tags = m.tags; contexts = m.contexts; made = (made.0, made.1, m.made) }

-- ---- plans that are left as one plan, each on its visit

pub record Alike {A : Type 0} (v v' : Visit) (p q : Plan A) : Type 0 where
  pub same : settled v p ≡ settled v' q

-- such plans show the same
pub shows_same : {A : Type 0} (p q : Plan A) (v v' : Visit) (x : A) (shown : List Piece) (libraries : List Library)
    → v.moment ≡ v'.moment → settled v p ≡ settled v' q → Shows p v x shown libraries → Shows q v' x shown libraries
shows_same p q v v' x shown libraries moment same shows =
    let left : Made (settled v p) v' x shown libraries shows.needs = left_makes p v v' x shown libraries shows.needs moment shows.made in
    let m = makes_left q v' v' x shown libraries shows.needs refl (subst (λ l. Made l v' x shown libraries shows.needs) same left) in
    record {
      needs = record { tags = m.tags; contexts = m.contexts; last = shows.needs.last };
      not_over = (let l = shows.not_over in omega arith);
      made = m.made;
    }

pub alike_bind : {A B : Type 0} {v v' : Visit} {p q : Plan A} (f g : A → Plan B) → Alike v v' p q → ((a : A) → Alike v v' (f a) (g a)) → Alike v v' (p >>= f) (q >>= g)
alike_bind {v = v} {v' = v'} {p = p} {q = q} f g first second = record {
  same =
      settled_bind v p f
      ∙ ap (λ l. l >>= λ a. settled v (f a)) first.same
      ∙ ap (λ h. settled v' q >>= h) (fun_ext (λ a. (second a).same))
      ∙ sym (settled_bind v' q g);
}

-- after what gives a value on the one visit and a value on the other
pub alike_after : {A B : Type 0} {v v' : Visit} (p q : Plan A) (a b : A) (f g : A → Plan B)
    → settled v p ≡ Done a → settled v' q ≡ Done b → Alike v v' (f a) (g b) → Alike v v' (p >>= f) (q >>= g)
alike_after {v = v} {v' = v'} p q a b f g first other after = record {
  same =
      settled_bind v p f
      ∙ ap (λ l. l >>= λ a. settled v (f a)) first
      ∙ after.same
      ∙ sym (settled_bind v' q g ∙ ap (λ l. l >>= λ a. settled v' (g a)) other);
}

pub alike_done : {A : Type 0} {v v' : Visit} (a : A) → Alike v v' (Done a) (Done a)
alike_done a = record { same = refl }

pub alike_write : {v v' : Visit} (bs : List ℕ) → Alike v v' (write bs) (write bs)
unfolding write
alike_write bs = record { same = refl }

pub alike_escaped : {v v' : Visit} (text : List ℕ) → Alike v v' (escaped text) (escaped text)
unfolding escaped write
alike_escaped text = record { same = refl }

pub alike_attach : {v v' : Visit} (l : Library) → Alike v v' (attach l) (attach l)
unfolding attach
alike_attach l = record { same = refl }

pub alike_part : {v v' : Visit} (h : Hole) → Alike v v' (part h) (part h)
unfolding part
alike_part h = record { same = refl }

pub alike_clock : {v v' : Visit} (age : ℕ) → Alike v v' (clock age) (clock age)
unfolding clock
alike_clock age = record { same = refl }

pub alike_if : {A : Type 0} {v v' : Visit} {p q p' q' : Plan A} (b : Bool) → Alike v v' p p' → Alike v v' q q' → Alike v v' (if b then p else q) (if b then p' else q')
alike_if true one other = one
alike_if false one other = other

pub alike_each : {A : Type 0} {v v' : Visit} (f g : A → Plan (Unit {0})) (xs : List A) → ((x : A) → Alike v v' (f x) (g x)) → Alike v v' (each f xs) (each g xs)
unfolding each
alike_each f g [] same = alike_done tt
alike_each f g (x ∷ xs) same = alike_bind _ _ (same x) (λ _. alike_each f g xs same)

pub alike_folded : {A B : Type 0} {v v' : Visit} (f g : B → A → Plan B) (b : B) (xs : List A) → ((c : B) (x : A) → Alike v v' (f c x) (g c x)) → Alike v v' (folded f b xs) (folded g b xs)
unfolding folded
alike_folded f g b [] same = alike_done b
alike_folded f g b (x ∷ xs) same = alike_bind _ _ (same b x) (λ c. alike_folded f g c xs same)

-- with their places filled in, where what stands in each is left as one plan
pub alike_filled : {A : Type 0} {v v' : Visit} (fill : Filling) (p q : Plan A)
    → ((h : Hole) → settled_filling v fill h ≡ settled_filling v' fill h) → Alike v v' p q → Alike v v' (filled_in fill p) (filled_in fill q)
alike_filled {v = v} {v' = v'} fill p q filling plans = record {
  same =
      settled_filled fill v p
      ∙ ap (λ f. filled_in f (settled v p)) (fun_ext filling)
      ∙ ap (filled_in (settled_filling v' fill)) plans.same
      ∙ sym (settled_filled fill v' q);
}
