-- Which rows a query of one table shows: those that pass its test, each as it is projected, in some order.
use Rattle.std.proofs.Common.{inl, inr, ◌≡◌, ℕ, List, [], ◌∷◌, ◌++◌, map, Bool, true, false, cond, refl, sym, ap, subst, ◌∙◌, IsPermutation, flat_map}
use Rattle.std.proofs.lemmas.List.Sorted.{IsPermutation-sym, IsPermutation-map}
use Rattle.std.specs.List.{list_all}
use Rattle.sqlite.specs.Order.{Row}
use Rattle.sqlite.specs.Query.{Query, inner, end, IsAnswer, matches, output, Output}
use Rattle.sqlite.specs.Term.{Term, eval_all, holds}
use Rattle.sqlite.specs.Tree.{Trees}
use Rattle.sqlite_rules.proofs.ListLemmas.{all_has, all_from, has_right}
use Rattle.sqlite_rules.proofs.ProbeLemmas.{has_mapped, mapped_has}
use Rattle.sqlite_rules.specs.Lists.{Has}
use Rattle.sqlite_trees.proofs.ListLemmas.{all-permutation}
use Rattle.sqlite_value.specs.declared.keys.Key.{Key}
use Rattle.table_laws.proofs.Texts.{from_tree}

-- ---- lists

passed_from : {X Y : Type 0} (p : X → Bool) (f : X → Y) (xs : List X) (y : Y) → Has (flat_map (λ x. cond (p x) (f x ∷ []) []) xs) y → (x : X) × Has xs x × (p x ≡ true) × (y ≡ f x)
passed_from p f [] y h = absurd h
passed_from {X} {Y} p f (x ∷ xs) y h = at (p x) refl h (passed_from p f xs y)
  where
    at : (b : Bool) → p x ≡ b → Has (cond b (f x ∷ []) [] ++ flat_map (λ z. cond (p z) (f z ∷ []) []) xs) y
        → (Has (flat_map (λ z. cond (p z) (f z ∷ []) []) xs) y → (z : X) × Has xs z × (p z ≡ true) × (y ≡ f z)) → (z : X) × Has (x ∷ xs) z × (p z ≡ true) × (y ≡ f z)
    at true passes (inl same) later = (x, inl refl, passes, same)
    at true passes (inr more) later = let z = later more in (z.0, inr z.1, z.2, z.3)
    at false fails more later = let z = later more in (z.0, inr z.1, z.2, z.3)

passed_has : {X Y : Type 0} (p : X → Bool) (f : X → Y) (xs : List X) (x : X) → Has xs x → p x ≡ true → Has (flat_map (λ z. cond (p z) (f z ∷ []) []) xs) (f x)
passed_has p f [] x h passes = absurd h
passed_has p f (z ∷ xs) x (inl same) passes = rw (← same, passes) (inl refl)
passed_has p f (z ∷ xs) x (inr more) passes = has_right (cond (p z) (f z ∷ []) []) (flat_map (λ w. cond (p w) (f w ∷ []) []) xs) (f x) (passed_has p f xs x more passes)

pub has_permuted : {X : Type 0} (xs ys : List X) (x : X) → IsPermutation xs ys → Has ys x → Has xs x
has_permuted xs ys x same = all_has (Has xs) ys x (all-permutation (Has xs) xs ys same (all_from (Has xs) xs (λ e h. h)))

-- ---- the query

abbrev env : Row → Row → List Row
env params r = params ∷ r ∷ []

abbrev pub passes : List Term → Row → Row → Bool
passes filter params r = list_all (holds (params ∷ r ∷ [])) filter

-- the rows that pass the test, each as it is projected, and no others
pub record ArePicked (filter project : List Term) (rows : List Row) (params : Row) (shown : List Row) : Type 0 where
  pub sound : (x : Row) → Has shown x → (r : Row) × Has rows r × (passes filter params r ≡ true) × (x ≡ eval_all project (params ∷ r ∷ []))
  pub complete : (r : Row) → Has rows r → passes filter params r ≡ true → Has shown (eval_all project (params ∷ r ∷ []))

module _ (tree : ℕ) (filter project : List Term) (order : List (Term × Key)) (db : Trees) (params : Row) (shown : List Row) where
  abbrev query : Query
  query = (from_tree tree filter project order).body

  abbrev all : List (List Row)
  all = matches db filter (inner tree end) (params ∷ [])

  pub picked : IsAnswer query db params shown → ArePicked filter project (db tree) params shown
  picked answer =
      let kept : answer.kept ≡ map (output query) all = answer.distinct ∙ ap (map (output query)) answer.grouped in
      record {
        sound = λ x h.
            let out = has_mapped (λ (o : Output). o.1) answer.ordered x (subst (λ l. Has l x) answer.shown h) in
            let row = has_mapped (output query) all out.0 (subst (λ l. Has l out.0) kept (has_permuted answer.kept answer.ordered out.0 answer.same out.1)) in
            let r = passed_from (passes filter params) (env params) (db tree) row.0 row.1 in
            (r.0, r.1, r.2, out.2 ∙ ap (λ (o : Output). o.1) (row.2 ∙ ap (output query) r.3));
        complete = λ r h passes_it.
            let out = output query (env params r) in
            let there = subst (λ l. Has l out) (sym kept) (mapped_has (output query) all (env params r) (passed_has (passes filter params) (env params) (db tree) r h passes_it)) in
            subst (λ l. Has l (eval_all project (params ∷ r ∷ []))) (sym answer.shown)
            (mapped_has (λ (o : Output). o.1) answer.ordered out (has_permuted answer.ordered answer.kept out (IsPermutation-sym _ _ answer.same) there));
      }

-- ---- a query without a test

all_passed : {X Y : Type 0} (f : X → Y) (xs : List X) → flat_map (λ x. cond true (f x ∷ []) []) xs ≡ map f xs
all_passed f [] = refl
all_passed f (x ∷ xs) = ap (λ l. f x ∷ l) (all_passed f xs)

mapped_twice : {X Y Z : Type 0} (f : X → Y) (g : Y → Z) (xs : List X) → map g (map f xs) ≡ map (λ x. g (f x)) xs
mapped_twice f g [] = refl
mapped_twice f g (x ∷ xs) = ap (λ l. g (f x) ∷ l) (mapped_twice f g xs)

-- it shows each row once
pub shows_each : (tree : ℕ) (project : List Term) (order : List (Term × Key)) (db : Trees) (params : Row) (shown : List Row) → IsAnswer (query tree [] project order db params shown) db params shown
    → IsPermutation (map (λ r. eval_all project (params ∷ r ∷ [])) (db tree)) shown
shows_each tree project order db params shown answer =
    let q = query tree [] project order db params shown in
    let kept : answer.kept ≡ map (output q) (map (env params) (db tree)) = answer.distinct ∙ ap (map (output q)) (answer.grouped ∙ all_passed (env params) (db tree)) in
    let values : map (λ (o : Output). o.1) answer.kept ≡ map (λ r. eval_all project (params ∷ r ∷ [])) (db tree) =
    ap (map (λ (o : Output). o.1)) kept ∙ mapped_twice (output q) (λ (o : Output). o.1) (map (env params) (db tree)) ∙ mapped_twice (env params) (λ e. (output q e).1) (db tree) in
    subst (λ l. IsPermutation l shown) values (subst (IsPermutation (map (λ (o : Output). o.1) answer.kept)) (sym answer.shown) (IsPermutation-map (λ (o : Output). o.1) answer.kept answer.ordered answer.same))
