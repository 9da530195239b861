-- Where no write finds a full count, the edit can raise its counts.
use Rattle.std.proofs.Common.{◌≡◌, ◌++◌, List, [], ◌∷◌, Bool, true, false, cond, Option, Some, None, refl, ap, ◌∙◌, inl, inr, find, flat_map, All, Contains, arith, option_map}
use Rattle.std.proofs.lemmas.Bool.{or_parts}
use Rattle.std.proofs.lemmas.List.Elements.{All-nil, All-cons, All-head, All-tail, All-contains, All-weaker, All-contains_itself, Contains-append_cases}
use Rattle.std.specs.List.{list_any}
use Rattle.cacheability.proofs.InOrder.{Contains-union}
use Rattle.cacheability.specs.Tag.{tag_cmp}
use Rattle.cacheability.specs.declared.tag.Tag.{Tag}
use Rattle.tag_counts.proofs.Tags.{tag_cmp_exact}
use Rattle.content_state.specs.Replay.{tags_of_commit, tags_of_write}
use Rattle.content_state.specs.State.{State}
use Rattle.indexed_rows.specs.Write.{Write}
use Rattle.state_commits.specs.Apply.{full_tag}
use Rattle.site_import.specs.Changes.{edit_of}
use Rattle.site_import.specs.Full.{finds_full, first_full_cell, is_full}

-- no one passes
abbrev NonePass : {X : Type 0} → (X → Bool) → List X → Type 0
NonePass p xs = All (λ x. p x ≡ false) xs

none_any : {X : Type 0} (p : X → Bool) (xs : List X) → list_any p xs ≡ false → NonePass p xs
none_any p [] h = All-nil (λ x. p x ≡ false)
none_any p (x ∷ xs) h =
    let parts = or_parts (p x) (list_any p xs) h in
    All-cons (λ y. p y ≡ false) x xs parts.0 (none_any p xs parts.1)

none_here : {X : Type 0} (b : Bool) (x : X) (rest : Option X) → cond b (Some x) rest ≡ None → (b ≡ false) × (rest ≡ None)
none_here true x rest h = absurd cc
none_here false x rest h = (refl, h)

none_found : {X : Type 0} (p : X → Bool) (xs : List X) → find p xs ≡ None → NonePass p xs
none_found p [] h = All-nil (λ x. p x ≡ false)
none_found p (x ∷ xs) h =
    let parts = none_here (p x) x (find p xs) h in
    All-cons (λ y. p y ≡ false) x xs parts.0 (none_found p xs parts.1)

finds_none : {X : Type 0} (p : X → Bool) (xs : List X) → NonePass p xs → find p xs ≡ None
finds_none p [] all = refl
finds_none p (x ∷ xs) all =
    ap (λ b. cond b (Some x) (find p xs)) (All-head (λ y. p y ≡ false) x xs all) ∙ finds_none p xs (All-tail (λ y. p y ≡ false) x xs all)

none_of_all : (state : State) (writes : List Write) → NonePass (finds_full state) writes → (g : Tag) → Contains (flat_map (tags_of_write state.rows) writes) g → is_full state.counts g ≡ false
none_of_all state [] all g held = absurd (let few = held.1 in omega arith)
none_of_all state (w ∷ writes) all g held =
    elim (Contains-append_cases (tags_of_write state.rows w) (flat_map (tags_of_write state.rows) writes) g held) [
      | inl here ↦ All-contains (λ h. is_full state.counts h ≡ false) (tags_of_write state.rows w) g (none_any (is_full state.counts) (tags_of_write state.rows w) (All-head (λ v. finds_full state v ≡ false) w writes all)) here
      | inr later ↦ none_of_all state writes (All-tail (λ v. finds_full state v ≡ false) w writes all) g later
    ]

no_write : (o : Option Write) → option_map (λ w. w.cell) o ≡ None → o ≡ None
no_write None h = refl
no_write (Some w) h = absurd cc

abbrev no_tags : List Tag
no_tags = []

none_held : (g : Tag) → Contains no_tags g → ⊥
none_held g held = let few = held.1 in omega arith

pub no_full_tag : (state : State) (writes : List Write) → first_full_cell state writes ≡ None → full_tag state (edit_of writes) ≡ None
no_full_tag state writes none =
    let all = none_found (finds_full state) writes (no_write (find (finds_full state) writes) none) in
    let own = flat_map (tags_of_write state.rows) writes in
    let tags = tags_of_commit state.rows (edit_of writes) in
    finds_none (is_full state.counts) tags
    (All-weaker (Contains tags) (λ g. is_full state.counts g ≡ false)
    (λ g held. elim ((Contains-union tag_cmp tag_cmp_exact [] (own ++ []) g).0 held) [
      | inl never ↦ absurd (none_held g never)
      | inr there ↦ elim (Contains-append_cases own [] g there) [
        | inl one ↦ none_of_all state writes all g one
        | inr never ↦ absurd (none_held g never)
      ]
    ])
    tags (All-contains_itself tags))
