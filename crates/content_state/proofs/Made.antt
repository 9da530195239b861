-- The laws of plans: what is made stays made where more is needed, and one plan after another makes both in turn.
use Rattle.std.proofs.Common.{List, [], ◌∷◌, ◌++◌, ◌≡◌, ◌≤◌, refl, sym, ◌∙◌, ap, subst, append_assoc, arith, Contains, inl, inr}
use Rattle.std.proofs.Math.Path.{fun_ext}
use Rattle.cacheability.specs.declared.tag.Tag.{Tag}
use Rattle.cacheability.specs.declared.context.Context.{Context}
use Rattle.content_state.specs.declared.element.Library.{Library}
use Rattle.content_state.specs.Read.{answer, cover}
use Rattle.content_state.specs.Context.{Visit, value, dropped_tags}
use Rattle.content_state.specs.Plan.{Piece, bytes, Plan, Done, Write, Attach, Reading, Asking, Clock, Part, ◌>>=◌, Needs, AllIn, CoversContext, Made}

pub AllIn-more : {A : Type 0} (xs ys zs : List A) → ((x : A) → Contains ys x → Contains zs x) → AllIn xs ys → AllIn xs zs
AllIn-more [] ys zs more all = tt
AllIn-more (x ∷ xs) ys zs more all = (more x all.0, AllIn-more xs ys zs more all.1)

-- a context that was covered stays covered where more is needed
pub CoversContext-more : (v : Visit) (needs needs' : Needs) (c : Context) → ((t : Tag) → Contains needs.tags t → Contains needs'.tags t) → ((d : Context) → Contains needs.contexts d → Contains needs'.contexts d) → CoversContext v needs c → CoversContext v needs' c
CoversContext-more v needs needs' c tags contexts (inl held) = inl (contexts c held)
CoversContext-more v needs needs' c tags contexts (inr other) =
    inr (other.0, other.1, contexts other.0 other.2, AllIn-more (dropped_tags v c) needs.tags needs'.tags tags other.3)

-- What was made stays made where more is needed: each tag stays, each context that was covered stays covered, and the
-- last moment is no later.
pub Made-more : {A : Type 0} (p : Plan A) (v : Visit) (x : A) (shown : List Piece) (libraries : List Library) (needs needs' : Needs) → ((t : Tag) → Contains needs.tags t → Contains needs'.tags t) → ((c : Context) → CoversContext v needs c → CoversContext v needs' c) → needs'.last ≤ needs.last → Made p v x shown libraries needs → Made p v x shown libraries needs'
Made-more (Done a) v x shown libraries needs needs' tags contexts last made = made
Made-more (Write bs k) v x shown libraries needs needs' tags contexts last made =
    (made.0, made.1, Made-more k v x made.0 libraries needs needs' tags contexts last made.2)
Made-more (Attach l k) v x shown libraries needs needs' tags contexts last made =
    (made.0, made.1, Made-more k v x shown made.0 needs needs' tags contexts last made.2)
Made-more (Reading r k) v x shown libraries needs needs' tags contexts last made =
    (AllIn-more (cover v.rows r) needs.tags needs'.tags tags made.0, Made-more (k (answer v.rows r)) v x shown libraries needs needs' tags contexts last made.1)
Made-more (Asking c k) v x shown libraries needs needs' tags contexts last made =
    (contexts c made.0, Made-more (k (value v c)) v x shown libraries needs needs' tags contexts last made.1)
Made-more (Clock age k) v x shown libraries needs needs' tags contexts last made =
    (made.0, made.1, (let m = made.2 in omega arith), Made-more (k made.0) v x shown libraries needs needs' tags contexts last made.3)
Made-more (Part h k) v x shown libraries needs needs' tags contexts last made =
    (made.0, made.1, Made-more k v x made.0 libraries needs needs' tags contexts last made.2)

-- one after the other: what they show and attach is appended
pub Made-then : {A B : Type 0} (p : Plan A) (f : A → Plan B) (v : Visit) (a : A) (x : B) (t u : List Piece) (l m : List Library) (needs : Needs) → Made p v a t l needs → Made (f a) v x u m needs → Made (p >>= f) v x (t ++ u) (l ++ m) needs
Made-then (Done a') f v a x t u l m needs first second =
    subst (λ s. Made (f a') v x (s ++ u) (l ++ m) needs) (sym first.1)
    (subst (λ s. Made (f a') v x u (s ++ m) needs) (sym first.2) (subst (λ y. Made (f y) v x u m needs) first.0 second))
Made-then (Write bs k) f v a x t u l m needs first second =
    (first.0 ++ u, ap (λ s. s ++ u) first.1 ∙ append_assoc (bytes bs) first.0 u, Made-then k f v a x first.0 u l m needs first.2 second)
Made-then (Attach b k) f v a x t u l m needs first second =
    (first.0 ++ m, ap (λ s. s ++ m) first.1, Made-then k f v a x t u first.0 m needs first.2 second)
Made-then (Reading r k) f v a x t u l m needs first second =
    (first.0, Made-then (k (answer v.rows r)) f v a x t u l m needs first.1 second)
Made-then (Asking c k) f v a x t u l m needs first second =
    (first.0, Made-then (k (value v c)) f v a x t u l m needs first.1 second)
Made-then (Clock age k) f v a x t u l m needs first second =
    (first.0, first.1, first.2, Made-then (k first.0) f v a x t u l m needs first.3 second)
Made-then (Part h k) f v a x t u l m needs first second =
    (first.0 ++ u, ap (λ s. s ++ u) first.1, Made-then k f v a x first.0 u l m needs first.2 second)

-- the laws of a monad
pub bind_done : {A : Type 0} (p : Plan A) → (p >>= λ x. Done x) ≡ p
bind_done (Done a) = refl
bind_done (Write bs k) = ap (Write bs) (bind_done k)
bind_done (Attach l k) = ap (Attach l) (bind_done k)
bind_done (Reading r k) = ap (Reading r) (fun_ext (λ x. bind_done (k x)))
bind_done (Asking c k) = ap (Asking c) (fun_ext (λ x. bind_done (k x)))
bind_done (Clock a k) = ap (Clock a) (fun_ext (λ x. bind_done (k x)))
bind_done (Part h k) = ap (Part h) (bind_done k)

pub bind_assoc : {A B C : Type 0} (p : Plan A) (f : A → Plan B) (g : B → Plan C) → ((p >>= f) >>= g) ≡ (p >>= (λ x. f x >>= g))
bind_assoc (Done a) f g = refl
bind_assoc (Write bs k) f g = ap (Write bs) (bind_assoc k f g)
bind_assoc (Attach l k) f g = ap (Attach l) (bind_assoc k f g)
bind_assoc (Reading r k) f g = ap (Reading r) (fun_ext (λ x. bind_assoc (k x) f g))
bind_assoc (Asking c k) f g = ap (Asking c) (fun_ext (λ x. bind_assoc (k x) f g))
bind_assoc (Clock a k) f g = ap (Clock a) (fun_ext (λ x. bind_assoc (k x) f g))
bind_assoc (Part h k) f g = ap (Part h) (bind_assoc k f g)
