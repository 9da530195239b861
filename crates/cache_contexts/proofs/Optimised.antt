-- What is left out, one context after the other, is what is to be left out.
use Rattle.std.proofs.Common.{ℕ, List, [], ◌∷◌, ◌≡◌, ◌↔◌, ◌⊎◌, Bool, true, false, true≢false, refl, sym, ◌∙◌, ap, subst, arith, inl, inr, Contains, fold}
use Rattle.std.specs.Prelude.{if◌then◌else◌}
use Rattle.std.specs.List.{list_any}
use Rattle.cacheability.specs.declared.cacheability.Cacheability.{Cacheability}
use Rattle.cacheability.specs.declared.context.Context.{Context}
use Rattle.cacheability.specs.declared.context.Context.TheVariants as context
use Rattle.cacheability.specs.declared.tag.Tag.{Tag}
use Rattle.cacheability.specs.Cacheability.{always_same}
use Rattle.cacheability.specs.Context.{context_cmp}
use Rattle.cacheability.specs.Tag.{tag_cmp}
use Rattle.cacheability.proofs.InOrder.{Contains-insert_key, Contains-union}
use Rattle.cacheability.proofs.Texts.{exact_tags, exact_contexts}
use Rattle.content_state.specs.State.{State}
use Rattle.content_state.specs.declared.ask.Ask.{Ask}
use Rattle.content_state.specs.declared.ask.Viewer.{Viewer}
use Rattle.content_state.specs.Context.{Visit, above, dropped_tags}
use Rattle.content_state.specs.Plan.{AllIn}
use Rattle.cache_contexts.specs.Values.{visit_on}
use Rattle.cache_contexts.specs.LeftOut.{IsRedundant, LeavesOut, AreCovered}
use Rattle.cache_contexts.specs.Optimised.{has, is_redundant, visit_by, with_tags, with_context, taken_in, optimised}
use Rattle.cache_contexts.proofs.LeftOut.{all_covered}
use Rattle.cache_contexts.proofs.Tests.{at_head, at_tail, head_or_tail, nowhere, alone, redundant_decided}

-- what stands in for a context does not hang on what is asked for, nor on the moment
same_tags : (state : State) (viewer : Viewer) (ask : Ask) (moment : ℕ) (c : Context) → dropped_tags (visit_by state viewer) c ≡ dropped_tags (visit_on state viewer ask moment) c
same_tags state viewer ask moment context.UserRoles = refl
same_tags state viewer ask moment context.UserPermissions = refl
same_tags state viewer ask moment context.IsFront = refl
same_tags state viewer ask moment _ = refl

-- a context that is left out of all, and a tag that stands in for it
record Gives (v : Visit) (all xs : List Context) (t : Tag) : Type 0 where
  for : Context
  named : Contains xs for
  left_out : is_redundant all for ≡ true
  stands : Contains (dropped_tags v for) t

gives_later : (v : Visit) (all : List Context) (x : Context) (xs : List Context) (t : Tag) → Gives v all xs t → Gives v all (x ∷ xs) t
gives_later v all x xs t g = record { for = g.for; named = at_tail x xs g.for g.named; left_out = g.left_out; stands = g.stands }

module _ (v : Visit) (all : List Context) where
  -- the contexts that are kept
  abbrev KeptBy : Cacheability → Cacheability → List Context → Context → Type 0
  KeptBy said after xs c = Contains after.contexts c ↔ (Contains said.contexts c ⊎ (Contains xs c × (is_redundant all c ≡ false)))

  kept_by : (said : Cacheability) (xs : List Context) (c : Context) → KeptBy said (fold (taken_in v all) said xs) xs c
  kept_by said [] c = (λ h. inl h, λ h. elim h [ inl g ↦ g | inr g ↦ nowhere c g.0 ])
  kept_by said (x ∷ xs) c = go (λ s. kept_by s xs c) (is_redundant all x) refl
    where
      go : ((s : Cacheability) → KeptBy s (fold (taken_in v all) s xs) xs c) → (b : Bool) → is_redundant all x ≡ b
          → KeptBy said (fold (taken_in v all) (if b then with_tags said (dropped_tags v x) else with_context said x) xs) (x ∷ xs) c
      go later true is =
          let rest = later (with_tags said (dropped_tags v x)) in (
            λ h. elim (rest.0 h) [ inl g ↦ inl g | inr g ↦ inr (at_tail x xs c g.0, g.1) ],
            λ h. rest.1 (elim h [
              | inl g ↦ inl g
              | inr g ↦ elim (head_or_tail x xs c g.0) [ inl e ↦ absurd (true≢false (sym is ∙ ap (is_redundant all) (sym e) ∙ g.1)) | inr k ↦ inr (k, g.1) ]
            ]),
          )
      go later false is =
          let rest = later (with_context said x) in
          let put = Contains-insert_key context_cmp exact_contexts said.contexts x c in (
            λ h. elim (rest.0 h) [
              | inl g ↦ elim (put.0 g) [ inl k ↦ inl k | inr e ↦ inr (subst (Contains (x ∷ xs)) (sym e) (at_head x xs), ap (is_redundant all) e ∙ is) ]
              | inr g ↦ inr (at_tail x xs c g.0, g.1)
            ],
            λ h. rest.1 (elim h [
              | inl g ↦ inl (put.1 (inl g))
              | inr g ↦ elim (head_or_tail x xs c g.0) [ inl e ↦ inl (put.1 (inr e)) | inr k ↦ inr (k, g.1) ]
            ]),
          )

  -- the tags that stand in
  abbrev ToldBy : Cacheability → Cacheability → List Context → Tag → Type 0
  ToldBy said after xs t = Contains after.tags t ↔ (Contains said.tags t ⊎ Gives v all xs t)

  told_by : (said : Cacheability) (xs : List Context) (t : Tag) → ToldBy said (fold (taken_in v all) said xs) xs t
  told_by said [] t = (λ h. inl h, λ h. elim h [ inl g ↦ g | inr g ↦ nowhere g.for g.named ])
  told_by said (x ∷ xs) t = go (λ s. told_by s xs t) (is_redundant all x) refl
    where
      go : ((s : Cacheability) → ToldBy s (fold (taken_in v all) s xs) xs t) → (b : Bool) → is_redundant all x ≡ b
          → ToldBy said (fold (taken_in v all) (if b then with_tags said (dropped_tags v x) else with_context said x) xs) (x ∷ xs) t
      go later true is =
          let rest = later (with_tags said (dropped_tags v x)) in
          let both = Contains-union tag_cmp exact_tags said.tags (dropped_tags v x) t in (
            λ h. elim (rest.0 h) [
              | inl g ↦ elim (both.0 g) [ inl k ↦ inl k | inr k ↦ inr (record { for = x; named = at_head x xs; left_out = is; stands = k }) ]
              | inr g ↦ inr (gives_later v all x xs t g)
            ],
            λ h. rest.1 (elim h [
              | inl g ↦ inl (both.1 (inl g))
              | inr g ↦ elim (head_or_tail x xs g.for g.named) [
                | inl e ↦ inl (both.1 (inr (subst (λ c. Contains (dropped_tags v c) t) e g.stands)))
                | inr k ↦ inr (record { for = g.for; named = k; left_out = g.left_out; stands = g.stands })
              ]
            ]),
          )
      go later false is =
          let rest = later (with_context said x) in (
            λ h. elim (rest.0 h) [ inl g ↦ inl g | inr g ↦ inr (gives_later v all x xs t g) ],
            λ h. rest.1 (elim h [
              | inl g ↦ inl g
              | inr g ↦ elim (head_or_tail x xs g.for g.named) [
                | inl e ↦ absurd (true≢false (sym g.left_out ∙ ap (is_redundant all) e ∙ is))
                | inr k ↦ inr (record { for = g.for; named = k; left_out = g.left_out; stands = g.stands })
              ]
            ]),
          )

-- what stands above one that a context stands below stands above that context, and below none
abbrev Highest : Context → Context → Type 0
Highest c w = Contains (above c) w × (above w ≡ [])

by_url : (c u w : Context) → Contains (above c) context.Url → (Contains (above u) w → w ≡ context.Url) → Contains (above u) w → Highest c w
by_url c u w there is k = (subst (Contains (above c)) (sym (is k)) there, ap above (is k))

highest : (c u w : Context) → Contains (above c) u → Contains (above u) w → Highest c w
highest context.UserRoles u w h k = nowhere w (subst (λ x. Contains (above x) w) (alone context.User u h) k)
highest context.UserPermissions u w h k = nowhere w (subst (λ x. Contains (above x) w) (alone context.User u h) k)
highest context.UrlPath u w h k = nowhere w (subst (λ x. Contains (above x) w) (alone context.Url u h) k)
highest context.IsFront u w h k = elim (head_or_tail context.UrlPath (context.Url ∷ []) u h) [
  | inl e ↦ by_url context.IsFront u w (1, omega arith, refl) (λ l. alone context.Url w (subst (λ x. Contains (above x) w) e l)) k
  | inr g ↦ nowhere w (subst (λ x. Contains (above x) w) (alone context.Url u g) k)
]
highest context.QueryArgs u w h k = nowhere w (subst (λ x. Contains (above x) w) (alone context.Url u h) k)
highest (context.QueryArg name) u w h k = elim (head_or_tail context.QueryArgs (context.Url ∷ []) u h) [
  | inl e ↦ by_url (context.QueryArg name) u w (1, omega arith, refl) (λ l. alone context.Url w (subst (λ x. Contains (above x) w) e l)) k
  | inr g ↦ nowhere w (subst (λ x. Contains (above x) w) (alone context.Url u g) k)
]
highest context.SessionExists u w h k = nowhere w (subst (λ x. Contains (above x) w) (alone context.Session u h) k)
highest _ u w h k = nowhere u h

AllIn-from : {A : Type 0} (xs ys : List A) → ((x : A) → Contains xs x → Contains ys x) → AllIn xs ys
AllIn-from [] ys all = tt
AllIn-from (x ∷ xs) ys all = (all x (at_head x xs), AllIn-from xs ys (λ y h. all y (at_tail x xs y h)))

module _ (state : State) (viewer : Viewer) (all : List Context) (said : Cacheability) (is : said ≡ optimised (visit_by state viewer) all) where
  abbrev v : Visit
  v = visit_by state viewer

  kept : (c : Context) → Contains said.contexts c ↔ (Contains [] c ⊎ (Contains all c × (is_redundant all c ≡ false)))
  kept c = subst (λ (s : Cacheability). Contains s.contexts c ↔ (Contains [] c ⊎ (Contains all c × (is_redundant all c ≡ false)))) (sym is) (kept_by v all always_same all c)

  told : (t : Tag) → Contains said.tags t ↔ (Contains [] t ⊎ Gives v all all t)
  told t = subst (λ (s : Cacheability). Contains s.tags t ↔ (Contains [] t ⊎ Gives v all all t)) (sym is) (told_by v all always_same all t)

  is_kept : (c : Context) → Contains all c → is_redundant all c ≡ false → Contains said.contexts c
  is_kept c named needed = (kept c).1 (inr (named, needed))

  was_needed : (c : Context) → Contains said.contexts c → Contains all c × (is_redundant all c ≡ false)
  was_needed c held = elim ((kept c).0 held) [ inl none ↦ nowhere c none | inr g ↦ g ]

  -- what one of all makes redundant, one that is kept makes so
  by_kept : (c : Context) → is_redundant all c ≡ true → IsRedundant said.contexts c
  by_kept c left = let upper = (redundant_decided all c).0 left in go upper.0 upper.1 upper.2 (is_redundant all upper.0) refl
    where
      go : (u : Context) → Contains (above c) u → Contains all u → (b : Bool) → is_redundant all u ≡ b → IsRedundant said.contexts c
      go u over there false needed = (u, over, is_kept u there needed)
      go u over there true left' =
          let second = (redundant_decided all u).0 left' in
          let high = highest c u second.0 over second.1 in
          (second.0, high.0, is_kept second.0 second.2 (ap (λ l. list_any (has all) l) high.1))

  still : (c : Context) → IsRedundant said.contexts c → is_redundant all c ≡ true
  still c (u, over, held) = (redundant_decided all c).1 (u, over, (was_needed u held).0)

  pub leaves_out : (ask : Ask) (moment : ℕ) → LeavesOut (visit_on state viewer ask moment) all said.contexts said.tags
  leaves_out ask moment = record {
    kept_are = λ c. (
      λ held. ((was_needed c held).0, λ over. true≢false (sym (still c over) ∙ (was_needed c held).1)),
      λ h. needed c h.0 h.1 (is_redundant all c) refl,
    );
    tags_are = λ t. (
      λ held. elim ((told t).0 held) [
        | inl none ↦ nowhere t none
        | inr g ↦ record {
          for = g.for;
          named = g.named;
          left_out = λ k. true≢false (sym g.left_out ∙ (was_needed g.for k).1);
          stands = subst (λ ts. Contains ts t) (same_tags state viewer ask moment g.for) g.stands;
        }
      ],
      λ s. (told t).1 (inr (record {
        for = s.for;
        named = s.named;
        left_out = left s.for s.named s.left_out (is_redundant all s.for) refl;
        stands = subst (λ ts. Contains ts t) (sym (same_tags state viewer ask moment s.for)) s.stands;
      })),
    );
  }
    where
      needed : (c : Context) → Contains all c → (IsRedundant said.contexts c → ⊥) → (b : Bool) → is_redundant all c ≡ b → Contains said.contexts c
      needed c named free false e = is_kept c named e
      needed c named free true e = absurd (free (by_kept c e))

      left : (c : Context) → Contains all c → (Contains said.contexts c → ⊥) → (b : Bool) → is_redundant all c ≡ b → is_redundant all c ≡ true
      left c named out true e = e
      left c named out false e = absurd (out (is_kept c named e))

  pub covers : (ask : Ask) (moment last : ℕ) → AreCovered (visit_on state viewer ask moment) all said last
  covers ask moment last c named = all_covered (visit_on state viewer ask moment) all said.contexts said.tags last (leaves_out ask moment) c named
