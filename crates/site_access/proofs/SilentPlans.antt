-- Plans that show nothing and look at no clock, as those of access are: what they give, what they read, and that what
-- covers all that they meet covers them.
use Rattle.std.proofs.Common.{zero, suc, List, [], ◌∷◌, ◌++◌, ◌≡◌, ◌⊎◌, Bool, true, false, if◌then◌else◌, refl, sym, ◌∙◌, subst, arith, inl, inr, Contains}
use Rattle.std.proofs.lemmas.List.{append-nil}
use Rattle.std.proofs.lemmas.List.Elements.{Contains-append_left, Contains-append_right, Contains-append_cases}
use Rattle.cacheability.specs.declared.tag.Tag.{Tag}
use Rattle.cacheability.specs.declared.context.Context.{Context}
use Rattle.cacheability.specs.declared.max_age.MaxAge.TheVariants.{Permanent}
use Rattle.cacheability.specs.declared.cacheability.Cacheability.{Cacheability}
use Rattle.cacheability.specs.Cacheability.{always_same}
use Rattle.cacheability.specs.InOrder.{HasBoth}
use Rattle.content_state.specs.Read.{Read, answer, cover}
use Rattle.content_state.specs.Context.{Visit, value}
use Rattle.content_state.specs.Plan.{Plan, Done, Write, Attach, Reading, Asking, Clock, Part, ◌>>=◌, reading, asking, Needs, AllIn, Made}
use Rattle.content_state.specs.Met.{Met, result_of, met}
use Rattle.content_state.proofs.Meets.{result-bind, met-bind}
use Rattle.site_access.specs.Access.{Access}
use Rattle.site_access.specs.Depends.{lasting}
use Rattle.site_access.specs.Laws.{GivesOnly}
use Rattle.site_access.specs.Exact.{DecidesExactly}

-- members of lists

none : {A : Type 0} (x : A) → Contains [] x → {G : Type 0} → G
none x h = absurd (let within = h.1 in omega arith)

only_one : {A : Type 0} (k x : A) → Contains (k ∷ []) x → k ≡ x
only_one k x (zero, l, e) = e
only_one k x (suc i, l, e) = absurd (omega arith)

both_none : {A : Type 0} (xs : List A) → HasBoth xs [] xs
both_none xs x = (λ h. inl h, both)
  where
    both : Contains xs x ⊎ Contains [] x → Contains xs x
    both (inl h) = h
    both (inr h) = none x h

-- what is there already comes to nothing new
both_again : {A : Type 0} (xs : List A) (k : A) → Contains xs k → HasBoth xs (k ∷ []) xs
both_again xs k there x = (λ h. inl h, both)
  where
    both : Contains xs x ⊎ Contains (k ∷ []) x → Contains xs x
    both (inl h) = h
    both (inr h) = subst (Contains xs) (only_one k x h) there

-- some more, at any place
pub both_between : {A : Type 0} (xs ys more : List A) → HasBoth (xs ++ ys) more (xs ++ (more ++ ys))
both_between xs ys more x = (λ h. apart (Contains-append_cases xs (more ++ ys) x h), both)
  where
    apart_more : Contains more x ⊎ Contains ys x → Contains (xs ++ ys) x ⊎ Contains more x
    apart_more (inl h) = inr h
    apart_more (inr h) = inl (Contains-append_right xs ys x h)

    apart : Contains xs x ⊎ Contains (more ++ ys) x → Contains (xs ++ ys) x ⊎ Contains more x
    apart (inl h) = inl (Contains-append_left xs ys x h)
    apart (inr h) = apart_more (Contains-append_cases more ys x h)

    old : Contains xs x ⊎ Contains ys x → Contains (xs ++ (more ++ ys)) x
    old (inl h) = Contains-append_left xs (more ++ ys) x h
    old (inr h) = Contains-append_right xs (more ++ ys) x (Contains-append_right more ys x h)

    both : Contains (xs ++ ys) x ⊎ Contains more x → Contains (xs ++ (more ++ ys)) x
    both (inl h) = old (Contains-append_cases xs ys x h)
    both (inr h) = Contains-append_right xs (more ++ ys) x (Contains-append_left more ys x h)

both_next : {A : Type 0} (a b c d e : List A) → HasBoth a b c → HasBoth c d e → HasBoth a (b ++ d) e
both_next a b c d e first second x = (λ h. apart ((second x).0 h), both)
  where
    apart_first : Contains a x ⊎ Contains b x → Contains a x ⊎ Contains (b ++ d) x
    apart_first (inl h) = inl h
    apart_first (inr h) = inr (Contains-append_left b d x h)

    apart : Contains c x ⊎ Contains d x → Contains a x ⊎ Contains (b ++ d) x
    apart (inl h) = apart_first ((first x).0 h)
    apart (inr h) = inr (Contains-append_right b d x h)

    both_later : Contains b x ⊎ Contains d x → Contains e x
    both_later (inl h) = (second x).1 (inl ((first x).1 (inr h)))
    both_later (inr h) = (second x).1 (inr h)

    both : Contains a x ⊎ Contains (b ++ d) x → Contains e x
    both (inl h) = (second x).1 (inl ((first x).1 (inl h)))
    both (inr h) = both_later (Contains-append_cases b d x h)

all_in : {A : Type 0} (xs ys : List A) → ((x : A) → Contains xs x → Contains ys x) → AllIn xs ys
all_in [] ys held = tt
all_in (x ∷ xs) ys held =
    (held x (0, omega arith, refl), all_in xs ys (λ y h. held y (Contains-append_right (x ∷ []) xs y h)))

-- plans that show nothing and look at no clock

abbrev pub IsSilent : {A : Type 0} → Plan A → Visit → Type 0
IsSilent (Done a) v = Unit {0}
IsSilent (Reading r k) v = IsSilent (k (answer v.rows r)) v
IsSilent (Asking c k) v = IsSilent (k (value v c)) v
IsSilent (Write bs k) v = ⊥
IsSilent (Attach l k) v = ⊥
IsSilent (Clock age k) v = ⊥
IsSilent (Part h k) v = ⊥

silent-bind : {A B : Type 0} (p : Plan A) (f : A → Plan B) (v : Visit) → IsSilent p v → IsSilent (f (result_of p v)) v → IsSilent (p >>= f) v
silent-bind (Done a) f v first second = second
silent-bind (Reading r k) f v first second = silent-bind (k (answer v.rows r)) f v first second
silent-bind (Asking c k) f v first second = silent-bind (k (value v c)) f v first second
silent-bind (Write bs k) f v first second = absurd first
silent-bind (Attach l k) f v first second = absurd first
silent-bind (Clock age k) f v first second = absurd first
silent-bind (Part h k) f v first second = absurd first

-- such a plan gives one thing, whatever is needed
silent_only : {A : Type 0} (p : Plan A) (v : Visit) → IsSilent p v → GivesOnly p v (result_of p v)
silent_only (Done a) v silent y shown libraries needs made = made.0
silent_only (Reading r k) v silent y shown libraries needs made =
    silent_only (k (answer v.rows r)) v silent y shown libraries needs made.1
silent_only (Asking c k) v silent y shown libraries needs made =
    silent_only (k (value v c)) v silent y shown libraries needs made.1
silent_only (Write bs k) v silent y shown libraries needs made = absurd silent
silent_only (Attach l k) v silent y shown libraries needs made = absurd silent
silent_only (Clock age k) v silent y shown libraries needs made = absurd silent
silent_only (Part h k) v silent y shown libraries needs made = absurd silent

-- and gives it where all that it meets is needed
silent_made : {A : Type 0} (p : Plan A) (v : Visit) (needs : Needs) → IsSilent p v → ((t : Tag) → Contains (met p v).tags t → Contains needs.tags t) → ((c : Context) → Contains (met p v).contexts c → Contains needs.contexts c) → Made p v (result_of p v) [] [] needs
silent_made (Done a) v needs silent tags contexts = (refl, refl, refl)
silent_made (Reading r k) v needs silent tags contexts = (
  all_in (cover v.rows r) needs.tags (λ t h. tags t (Contains-append_left (cover v.rows r) (met (k (answer v.rows r)) v).tags t h)),
  silent_made (k (answer v.rows r)) v needs silent (λ t h. tags t (Contains-append_right (cover v.rows r) (met (k (answer v.rows r)) v).tags t h)) contexts,
)
silent_made (Asking c k) v needs silent tags contexts = (
  inl (contexts c (0, omega arith, refl)),
  silent_made (k (value v c)) v needs silent tags (λ d h. contexts d (Contains-append_right (c ∷ []) (met (k (value v c)) v).contexts d h)),
)
silent_made (Write bs k) v needs silent tags contexts = absurd silent
silent_made (Attach l k) v needs silent tags contexts = absurd silent
silent_made (Clock age k) v needs silent tags contexts = absurd silent
silent_made (Part h k) v needs silent tags contexts = absurd silent

silent_age : {A : Type 0} (p : Plan A) (v : Visit) → IsSilent p v → (met p v).age ≡ Permanent
silent_age (Done a) v silent = refl
silent_age (Reading r k) v silent = silent_age (k (answer v.rows r)) v silent
silent_age (Asking c k) v silent = silent_age (k (value v c)) v silent
silent_age (Write bs k) v silent = absurd silent
silent_age (Attach l k) v silent = absurd silent
silent_age (Clock age k) v silent = absurd silent
silent_age (Part h k) v silent = absurd silent

-- The plan gives x, silently. Where this was met before, exactly that has been met after it.
pub record Reads {A : Type 0} (p : Plan A) (v : Visit) (before : Cacheability) (x : A) (after : Cacheability) : Type 0 where
  pub silent : IsSilent p v
  pub result : result_of p v ≡ x
  pub tags : HasBoth before.tags (met p v).tags after.tags
  pub contexts : HasBoth before.contexts (met p v).contexts after.contexts
  pub age : after.max_age ≡ before.max_age

pub reads_done : {A : Type 0} (v : Visit) (c : Cacheability) (x y : A) → x ≡ y → Reads (Done x) v c y c
reads_done v c x y same =
    record { silent = tt; result = same; tags = both_none c.tags; contexts = both_none c.contexts; age = refl }

pub reads_next : {A B : Type 0} (p : Plan A) (f : A → Plan B) (v : Visit) (c d e : Cacheability) (a : A) (x : B) → Reads p v c a d → Reads (f a) v d x e → Reads (p >>= f) v c x e
reads_next p f v c d e a x first told =
    let second : Reads (f (result_of p v)) v d x e = subst (λ b. Reads (f b) v d x e) (sym first.result) told in
    let next : Met = met (f (result_of p v)) v in
    record {
      silent = silent-bind p f v first.silent second.silent;
      result = result-bind p f v ∙ second.result;
      tags = subst (λ (m : Met). HasBoth c.tags m.tags e.tags) (sym (met-bind p f v)) (both_next c.tags (met p v).tags d.tags next.tags e.tags first.tags second.tags);
      contexts = subst (λ (m : Met). HasBoth c.contexts m.contexts e.contexts) (sym (met-bind p f v)) (both_next c.contexts (met p v).contexts d.contexts next.contexts e.contexts first.contexts second.contexts);
      age = second.age ∙ first.age;
    }

pub reads_if : {A : Type 0} (b : Bool) (p q : Plan A) (v : Visit) (c d e : Cacheability) (x y : A) → (b ≡ true → Reads p v c x d) → (b ≡ false → Reads q v c y e) → Reads (if b then p else q) v c (if b then x else y) (if b then d else e)
reads_if true p q v c d e x y where_true where_false = where_true refl
reads_if false p q v c d e x y where_true where_false = where_false refl

-- rows that weren't read before, whose tags come at a place among those that were met
pub reads_row : (r : Read) (v : Visit) (before after : List Tag) (contexts : List Context) → Reads (reading r) v (lasting (before ++ after) contexts) (answer v.rows r) (lasting (before ++ (cover v.rows r ++ after)) contexts)
unfolding reading
reads_row r v before after contexts = record {
  silent = tt;
  result = refl;
  tags = subst (λ ts. HasBoth (before ++ after) ts (before ++ (cover v.rows r ++ after))) (sym (append-nil (cover v.rows r))) (both_between before after (cover v.rows r));
  contexts = both_none contexts;
  age = refl;
}

-- a context that wasn't asked for before, and one that was
pub reads_context : (k : Context) (v : Visit) (tags : List Tag) (before after : List Context) → Reads (asking k) v (lasting tags (before ++ after)) (value v k) (lasting tags (before ++ (k ∷ after)))
unfolding asking
reads_context k v tags before after = record {
  silent = tt;
  result = refl;
  tags = both_none tags;
  contexts = both_between before after (k ∷ []);
  age = refl;
}

pub reads_again : (k : Context) (v : Visit) (c : Cacheability) → Contains c.contexts k → Reads (asking k) v c (value v k) c
unfolding asking
reads_again k v c there = record {
  silent = tt;
  result = refl;
  tags = both_none c.tags;
  contexts = both_again c.contexts k there;
  age = refl;
}

-- what a whole plan of access gives and meets

pub reads_only : {A : Type 0} (p : Plan A) (v : Visit) (x : A) (depends : Cacheability) → Reads p v always_same x depends → GivesOnly p v x
reads_only p v x depends reads y shown libraries needs made =
    silent_only p v reads.silent y shown libraries needs made ∙ reads.result

pub reads_made : {A : Type 0} (p : Plan A) (v : Visit) (x : A) (depends : Cacheability) (needs : Needs) → Reads p v always_same x depends → needs.tags ≡ depends.tags → needs.contexts ≡ depends.contexts → Made p v x [] [] needs
reads_made p v x depends needs reads tags contexts =
    subst (λ y. Made p v y [] [] needs) reads.result
    (silent_made p v needs reads.silent (λ t h. subst (λ ts. Contains ts t) (sym tags) ((reads.tags t).1 (inr h))) (λ c h. subst (λ cs. Contains cs c) (sym contexts) ((reads.contexts c).1 (inr h))))

same_as_none : {A : Type 0} (xs ys : List A) → HasBoth [] xs ys → (x : A) → Contains ys x → Contains xs x
same_as_none xs ys both x h = among ((both x).0 h)
  where
    among : Contains [] x ⊎ Contains xs x → Contains xs x
    among (inl g) = none x g
    among (inr g) = g

pub reads_exactly : (p : Plan Access) (v : Visit) (x : Access) (depends : Cacheability) → Reads p v always_same x depends → DecidesExactly p v x depends
reads_exactly p v x depends reads = record {
  answer = reads.result;
  tags = λ t. (λ h. (reads.tags t).1 (inr h), same_as_none (met p v).tags depends.tags reads.tags t);
  contexts = λ c. (λ h. (reads.contexts c).1 (inr h), same_as_none (met p v).contexts depends.contexts reads.contexts c);
  age = silent_age p v reads.silent ∙ sym reads.age;
}
