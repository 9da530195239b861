-- A link that alone leads to a path is the first in preorder that does, where one comes from it to the top.
use Rattle.std.proofs.Common.{ℕ, zero, suc, List, [], ◌∷◌, ◌++◌, ◌≡◌, ◌+◌, ◌-◌, ◌⊎◌, inl, inr, true, false, true≢false, refl, sym, ◌∙◌, ap, subst, arith, Contains, fold}
use Rattle.std.specs.Prelude.{Bool, ◌||◌, ◌&&◌, cond, not, Option, Some, None, option_map, if◌then◌else◌}
use Rattle.std.specs.List.{filter, find, flat_map, list_all}
use Rattle.std.specs.Str.{bytes_eq}
use Rattle.std.specs.Ordering.{int_cmp, is_gt}
use Rattle.std.proofs.lemmas.Slice.Eq.{bytes_eq-Decides}
use Rattle.std.proofs.lemmas.List.Elements.{Contains-append_left, Contains-append_right, Contains-append_cases}
use Rattle.content_rows.specs.declared.row.Link.{Link}
use Rattle.content_state.specs.Context.{links_below, preorder, same_parent, with_link}
use Rattle.site_lists.specs.MenuPlaces.{onward, reaches}

-- ---- members of lists

at_head : {A : Type 0} (x : A) (xs : List A) → Contains (x ∷ xs) x
at_head x xs = (0, omega arith, refl)

at_tail : {A : Type 0} (x : A) (xs : List A) (y : A) → Contains xs y → Contains (x ∷ xs) y
at_tail x xs y h = (suc h.0, (let l = h.1 in omega arith), h.2)

head_or_tail : {A : Type 0} (x : A) (xs : List A) (y : A) → Contains (x ∷ xs) y → (y ≡ x) ⊎ Contains xs y
head_or_tail x xs y (zero, l, e) = inl (sym e)
head_or_tail x xs y (suc i, l, e) = inr (i, omega arith, e)

no_member : {A : Type 0} {G : Type 0} (y : A) → Contains [] y → G
no_member y h = absurd (let l = h.1 in omega arith)

module _ {X Y : Type 0} (f : X → List Y) where
  in_some : (xs : List X) (x : X) (y : Y) → Contains xs x → Contains (f x) y → Contains (flat_map f xs) y
  in_some [] x y h k = no_member x h
  in_some (z ∷ zs) x y h k = elim (head_or_tail z zs x h) [
    | inl e ↦ Contains-append_left (f z) (flat_map f zs) y (subst (λ w. Contains (f w) y) e k)
    | inr g ↦ Contains-append_right (f z) (flat_map f zs) y (in_some zs x y g k)
  ]

  from_some : (xs : List X) (y : Y) → Contains (flat_map f xs) y → (x : X) × Contains xs x × Contains (f x) y
  from_some [] y h = no_member y h
  from_some (z ∷ zs) y h = elim (Contains-append_cases (f z) (flat_map f zs) y h) [
    | inl g ↦ (z, at_head z zs, g)
    | inr g ↦ (let more = from_some zs y g in (more.0, at_tail z zs more.0 more.1, more.2))
  ]

module _ {X : Type 0} (p : X → Bool) where
  passed : (xs : List X) (x : X) → Contains xs x → p x ≡ true → Contains (filter p xs) x
  passed [] x h t = no_member x h
  passed (z ∷ zs) x h t = go (p z) refl (passed zs x)
    where
      go : (b : Bool) → p z ≡ b → (Contains zs x → p x ≡ true → Contains (filter p zs) x) → Contains (cond b (z ∷ filter p zs) (filter p zs)) x
      go true is later = elim (head_or_tail z zs x h) [ inl e ↦ subst (λ w. Contains (w ∷ filter p zs) x) e (at_head x (filter p zs)) | inr g ↦ at_tail z (filter p zs) x (later g t) ]
      go false is later = elim (head_or_tail z zs x h) [ inl e ↦ absurd (true≢false (sym t ∙ ap p e ∙ is)) | inr g ↦ later g t ]

  passed_from : (xs : List X) (x : X) → Contains (filter p xs) x → Contains xs x
  passed_from [] x h = no_member x h
  passed_from (z ∷ zs) x h = go (p z) h (passed_from zs x)
    where
      go : (b : Bool) → Contains (cond b (z ∷ filter p zs) (filter p zs)) x → (Contains (filter p zs) x → Contains zs x) → Contains (z ∷ zs) x
      go true k later = elim (head_or_tail z (filter p zs) x k) [ inl e ↦ subst (λ w. Contains (w ∷ zs) x) e (at_head x zs) | inr g ↦ at_tail z zs x (later g) ]
      go false k later = at_tail z zs x (later k)

  -- what is found where something passes
  pub record Found (xs : List X) : Type 0 where
    pub item : X
    pub found : find p xs ≡ Some item
    pub there : Contains xs item
    pub passes : p item ≡ true

  first_found : (xs : List X) (x : X) → Contains xs x → p x ≡ true → Found xs
  first_found [] x h t = no_member x h
  first_found (z ∷ zs) x h t = go (p z) refl (first_found zs x)
    where
      go : (b : Bool) → p z ≡ b → (Contains zs x → p x ≡ true → Found zs) → Found (z ∷ zs)
      go true is later = record { item = z; found = ap (λ b. cond b (Some z) (find p zs)) is; there = at_head z zs; passes = is }
      go false is later = elim (head_or_tail z zs x h) [
        | inl e ↦ absurd (true≢false (sym t ∙ ap p e ∙ is))
        | inr g ↦ (let more = later g t in record { item = more.item; found = ap (λ b. cond b (Some z) (find p zs)) is ∙ more.found; there = at_tail z zs more.item more.there; passes = more.passes })
      ]

  found_there : (xs : List X) (x : X) → find p xs ≡ Some x → Contains xs x × (p x ≡ true)
  found_there [] x e = cc
  found_there (z ∷ zs) x e = go (p z) refl e (found_there zs x)
    where
      go : (b : Bool) → p z ≡ b → cond b (Some z) (find p zs) ≡ Some x → (find p zs ≡ Some x → Contains zs x × (p x ≡ true)) → Contains (z ∷ zs) x × (p x ≡ true)
      go true is same later = let eq : z ≡ x = cc in (subst (Contains (z ∷ zs)) eq (at_head z zs), ap p (sym eq) ∙ is)
      go false is same later = let more = later same in (at_tail z zs x more.0, more.1)

  all_pass : (xs : List X) (x : X) → list_all p xs ≡ true → Contains xs x → p x ≡ true
  all_pass [] x all h = no_member x h
  all_pass (z ∷ zs) x all h = go (p z) refl all (all_pass zs x)
    where
      go : (b : Bool) → p z ≡ b → (b && list_all p zs) ≡ true → (list_all p zs ≡ true → Contains zs x → p x ≡ true) → p x ≡ true
      go true is more later = elim (head_or_tail z zs x h) [ inl e ↦ ap p e ∙ is | inr g ↦ later more g ]
      go false is more later = absurd (true≢false (sym more))

-- ---- links below a parent

with_link-from : (xs : List Link) (l x : Link) → Contains (with_link xs l) x → Contains (l ∷ xs) x
with_link-from [] l x h = h
with_link-from (y ∷ ys) l x h = go (is_gt (int_cmp y.weight l.weight)) h (with_link-from ys l x)
  where
    go : (b : Bool) → Contains (if b then l ∷ y ∷ ys else y ∷ with_link ys l) x → (Contains (with_link ys l) x → Contains (l ∷ ys) x) → Contains (l ∷ y ∷ ys) x
    go true k later = k
    go false k later = elim (head_or_tail y (with_link ys l) x k) [
      | inl e ↦ at_tail l (y ∷ ys) x (subst (λ w. Contains (w ∷ ys) x) e (at_head x ys))
      | inr g ↦ elim (head_or_tail l ys x (later g)) [ inl e ↦ subst (λ w. Contains (w ∷ y ∷ ys) x) e (at_head x (y ∷ ys)) | inr i ↦ at_tail l (y ∷ ys) x (at_tail y ys x i) ]
    ]

with_link-in : (xs : List Link) (l x : Link) → Contains (l ∷ xs) x → Contains (with_link xs l) x
with_link-in [] l x h = h
with_link-in (y ∷ ys) l x h = go (is_gt (int_cmp y.weight l.weight)) (with_link-in ys l x)
  where
    go : (b : Bool) → (Contains (l ∷ ys) x → Contains (with_link ys l) x) → Contains (if b then l ∷ y ∷ ys else y ∷ with_link ys l) x
    go true later = h
    go false later = elim (head_or_tail l (y ∷ ys) x h) [
      | inl e ↦ at_tail y (with_link ys l) x (later (subst (λ w. Contains (w ∷ ys) x) e (at_head x ys)))
      | inr g ↦ elim (head_or_tail y ys x g) [ inl e ↦ subst (λ w. Contains (w ∷ with_link ys l) x) e (at_head x (with_link ys l)) | inr i ↦ at_tail y (with_link ys l) x (later (at_tail l ys x i)) ]
    ]

folded-from : (acc es : List Link) (x : Link) → Contains (fold with_link acc es) x → Contains acc x ⊎ Contains es x
folded-from acc [] x h = inl h
folded-from acc (e ∷ es) x h = elim (folded-from (with_link acc e) es x h) [
  | inl g ↦ elim (head_or_tail e acc x (with_link-from acc e x g)) [ inl i ↦ inr (subst (λ w. Contains (w ∷ es) x) i (at_head x es)) | inr i ↦ inl i ]
  | inr g ↦ inr (at_tail e es x g)
]

folded-in : (acc es : List Link) (x : Link) → Contains acc x ⊎ Contains es x → Contains (fold with_link acc es) x
folded-in acc [] x (inl h) = h
folded-in acc [] x (inr h) = no_member x h
folded-in acc (e ∷ es) x (inl h) = folded-in (with_link acc e) es x (inl (with_link-in acc e x (at_tail e acc x h)))
folded-in acc (e ∷ es) x (inr h) = elim (head_or_tail e es x h) [
  | inl i ↦ folded-in (with_link acc e) es x (inl (with_link-in acc e x (subst (λ w. Contains (w ∷ acc) x) i (at_head x acc))))
  | inr i ↦ folded-in (with_link acc e) es x (inr i)
]

same_self : (q : Option (List ℕ)) → same_parent q q ≡ true
same_self None = refl
same_self (Some a) = (bytes_eq-Decides a a).1 refl

module _ (links : List Link) where
  below-in : (m : Link) → Contains links m → Contains (links_below links m.parent) m
  below-in m h = folded-in [] (filter (λ l. same_parent l.parent m.parent) links) m (inr (passed (λ l. same_parent l.parent m.parent) links m h (same_self m.parent)))

  below-from : (q : Option (List ℕ)) (m : Link) → Contains (links_below links q) m → Contains links m
  below-from q m h = elim (folded-from [] (filter (λ l. same_parent l.parent q) links) m h) [
    | inl g ↦ no_member m g
    | inr g ↦ passed_from (λ l. same_parent l.parent q) links m g
  ]

  -- ---- the tree

  abbrev under : ℕ → Link → List Link
  under d l = l ∷ preorder d links (Some l.id)

  tree-from : (d : ℕ) (q : Option (List ℕ)) (x : Link) → Contains (preorder d links q) x → Contains links x
  tree-from zero q x h = no_member x h
  tree-from (suc d) q x h =
      let some = from_some (under d) (links_below links q) x h in
      elim (head_or_tail some.0 (preorder d links (Some some.0.id)) x some.2) [
        | inl e ↦ subst (Contains links) (sym e) (below-from q some.0 some.1)
        | inr g ↦ tree-from d (Some some.0.id) x g
      ]

  deeper : (d : ℕ) (q : Option (List ℕ)) (x : Link) → Contains (preorder d links q) x → Contains (preorder (suc d) links q) x
  deeper zero q x h = no_member x h
  deeper (suc d) q x h =
      let some = from_some (under d) (links_below links q) x h in
      in_some (under (suc d)) (links_below links q) some.0 x some.1 (elim (head_or_tail some.0 (preorder d links (Some some.0.id)) x some.2) [
        | inl e ↦ subst (λ w. Contains (w ∷ preorder (suc d) links (Some some.0.id)) x) e (at_head x (preorder (suc d) links (Some some.0.id)))
        | inr g ↦ at_tail some.0 (preorder (suc d) links (Some some.0.id)) x (deeper d (Some some.0.id) x g)
      ])

  higher : (d : ℕ) (m x : Link) → Contains links m → Contains (preorder d links (Some m.id)) x → Contains (preorder (suc d) links m.parent) x
  higher d m x h k = in_some (under d) (links_below links m.parent) m x (below-in m h) (at_tail m (preorder d links (Some m.id)) x k)

  pub at_top : (h : ℕ) → reaches h links None ≡ true
  at_top zero = refl
  at_top (suc h) = refl

  climb : (h d : ℕ) (q : Option (List ℕ)) (x : Link) → reaches h links q ≡ true → Contains (preorder d links q) x → Contains (preorder (h + d) links None) x
  climb zero d None x r k = let same : d ≡ 0 + d = omega arith in subst (λ n. Contains (preorder n links None) x) same k
  climb zero d (Some id) x r k = absurd (true≢false (sym r))
  climb (suc h) d None x r k =
      let same : suc (h + d) ≡ suc h + d = omega arith in
      subst (λ n. Contains (preorder n links None) x) same (deeper (h + d) None x (climb h d None x (at_top h) k))
  climb (suc h) d (Some id) x r k = go (find (λ l. bytes_eq l.id id) links) refl r (climb h (suc d))
    where
      go : (o : Option Link) → find (λ l. bytes_eq l.id id) links ≡ o → onward (reaches h links) o ≡ true
          → ((q : Option (List ℕ)) (y : Link) → reaches h links q ≡ true → Contains (preorder (suc d) links q) y → Contains (preorder (h + suc d) links None) y)
          → Contains (preorder (suc h + d) links None) x
      go None e t later = absurd (true≢false (sym t))
      go (Some m) e t later =
          let there = found_there (λ l. bytes_eq l.id id) links m e in
          let same : m.id ≡ id = (bytes_eq-Decides m.id id).0 there.1 in
          let moved : h + suc d ≡ suc h + d = omega arith in
          subst (λ n. Contains (preorder n links None) x) moved
          (later m.parent x t (higher d m x there.0 (subst (λ i. Contains (preorder d links (Some i)) x) (sym same) k)))

  implied : (a b : Bool) → (not a || b) ≡ true → a ≡ true → b ≡ true
  implied true b h t = h
  implied false b h t = absurd (true≢false (sym t))

  pub only_first : (path : List ℕ) (l : Link) → find (λ x. bytes_eq x.path path) links ≡ Some l
      → list_all (λ x. not (bytes_eq x.path path) || bytes_eq x.id l.id) links ≡ true → reaches 8 links l.parent ≡ true
      → option_map (λ x. x.id) (find (λ x. bytes_eq x.path path) (preorder 9 links None)) ≡ Some l.id
  only_first path l is all top =
      let leads : Link → Bool = λ x. bytes_eq x.path path in
      let there = found_there leads links l is in
      let one : Contains (preorder 1 links l.parent) l = in_some (under 0) (links_below links l.parent) l l (below-in l there.0) (at_head l []) in
      let first = first_found leads (preorder 9 links None) l (climb 8 1 l.parent l top one) there.1 in
      let same : bytes_eq first.item.id l.id ≡ true =
      implied (leads first.item) (bytes_eq first.item.id l.id) (all_pass (λ x. not (bytes_eq x.path path) || bytes_eq x.id l.id) links first.item all (tree-from 9 None first.item first.there)) first.passes in
      ap (option_map (λ x. x.id)) first.found ∙ ap Some ((bytes_eq-Decides first.item.id l.id).0 same)

-- one link further up
pub one_up : (n : ℕ) (links : List Link) (q : Option (List ℕ)) (id : List ℕ) (o : Option Link) → (n ≡ 0 → ⊥) → q ≡ Some id → o ≡ find (λ l. bytes_eq l.id id) links
    → onward (reaches (n - 1) links) o ≡ reaches n links q
one_up n links q id o some is found =
    let up : n ≡ suc (n - 1) = omega arith in
    ap (onward (reaches (n - 1) links)) found ∙ sym (ap (λ m. reaches m links (Some id)) up) ∙ ap (reaches n links) (sym is)
