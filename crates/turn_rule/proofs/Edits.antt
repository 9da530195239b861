-- Lists of edits that stand in others, fronts of logs, and counts that stay at the greatest u64.
use Rattle.std.proofs.Common.{◌≡◌, ◌≢◌, ℕ, zero, suc, ◌+◌, ◌≤◌, List, [], ◌∷◌, ◌++◌, length, get_or, drop, ◌==◌, cond, Bool, true, false, ltb, ltb-true, ltb-false, ◌⊎◌, inl, inr, ⊎_elim, refl, sym, ap, ◌∙◌, subst, arith, append_assoc, append-nil, length-append, ne_eqb, eq-eqb}
use Rattle.std.specs.List.{All}
use Rattle.std.proofs.lemmas.List.Elements.{All-nil, All-cons, All-head, All-tail, filter-append}
use Rattle.content_state.specs.Replay.{Begins}
use Rattle.content_state.specs.declared.commit.Commit.{Commit}
use Rattle.site_house.specs.House.{IsSublist, by_pass}
use Rattle.turn_rule.specs.Rule.{capped}
use Rattle.turn_rule.specs.Steps.{plus, longer, front}

-- ---- lists that stand in others

sub_nil : (ys : List Commit) → IsSublist [] ys
sub_nil [] = refl
sub_nil (y ∷ ys) = inl (sub_nil ys)

pub sub_same : (xs : List Commit) → IsSublist xs xs
sub_same [] = refl
sub_same (x ∷ xs) = inr (xs, refl, sub_same xs)

sub_beside : (xs ys zs ws : List Commit) → IsSublist xs ys → IsSublist zs ws → IsSublist (xs ++ zs) (ys ++ ws)
sub_beside xs [] zs ws e t = subst (λ (l : List Commit). IsSublist (l ++ zs) ws) (sym e) t
sub_beside xs (y ∷ ys) zs ws (inl s) t = inl (sub_beside xs ys zs ws s t)
sub_beside xs (y ∷ ys) zs ws (inr s) t = inr (s.0 ++ zs, ap (λ (l : List Commit). l ++ zs) s.1, sub_beside s.0 ys zs ws s.2 t)

sub_through : (xs ys zs : List Commit) → IsSublist xs ys → IsSublist ys zs → IsSublist xs zs
sub_through xs ys [] s t = subst (λ (l : List Commit). IsSublist xs l) t s
sub_through xs ys (z ∷ zs) s (inl t) = inl (sub_through xs ys zs s t)
sub_through xs ys (z ∷ zs) s (inr t) = ⊎_elim
    (λ (u : IsSublist xs t.0). inl (sub_through xs t.0 zs u t.2))
    (λ (u : (rest : List Commit) × (xs ≡ z ∷ rest) × IsSublist rest t.0). inr (u.0, u.1, sub_through u.0 t.0 zs u.2 t.2))
    (subst (λ (l : List Commit). IsSublist xs l) t.1 s)

pub sub_left : (xs ys zs : List Commit) → IsSublist (xs ++ ys) zs → IsSublist xs zs
sub_left xs ys zs s = sub_through xs (xs ++ ys) zs (subst (λ (l : List Commit). IsSublist l (xs ++ ys)) (append-nil xs) (sub_beside xs xs [] ys (sub_same xs) (sub_nil ys))) s

pub sub_all : (P : Commit → Type 0) (xs ys : List Commit) → IsSublist xs ys → All P ys → All P xs
sub_all P xs [] e h = subst (All P) (sym e) (All-nil P)
sub_all P xs (y ∷ ys) (inl s) h = sub_all P xs ys s (All-tail P y ys h)
sub_all P xs (y ∷ ys) (inr s) h = subst (All P) (sym s.1) (All-cons P y s.0 (All-head P y ys h) (sub_all P s.0 ys s.2 (All-tail P y ys h)))

last_one : (xs : List Commit) (c y : Commit) (rest : List Commit) → xs ++ c ∷ [] ≡ y ∷ rest → rest ≡ [] → xs ≡ []
last_one [] c y rest e n = refl
last_one (x ∷ xs) c y rest e n =
    let l : suc (length (xs ++ c ∷ [])) ≡ suc (length rest) = ap length e in
    let m : length rest ≡ 0 = ap length n in
    let k = length-append xs (c ∷ []) in absurd (omega (arith, k))

no_more : (xs : List Commit) (c : Commit) → xs ++ c ∷ [] ≡ [] → ⊥
no_more xs c e = let l : length (xs ++ c ∷ []) ≡ 0 = ap length e in let k = length-append xs (c ∷ []) in omega (arith, k)

-- the same last edit is left out of both
pub sub_cancel : (xs ys : List Commit) (c : Commit) → IsSublist (xs ++ c ∷ []) (ys ++ c ∷ []) → IsSublist xs ys
sub_cancel xs [] c (inl e) = absurd (no_more xs c e)
sub_cancel xs [] c (inr s) = last_one xs c c s.0 s.1 s.2
sub_cancel xs (y ∷ ys) c (inl s) = inl (sub_cancel xs ys c s)
sub_cancel [] (y ∷ ys) c (inr s) = sub_nil (y ∷ ys)
sub_cancel (x ∷ xs) (y ∷ ys) c (inr s) =
    let tails : xs ++ c ∷ [] ≡ s.0 = ap (drop 1) s.1 in
    inr (xs, (λ i. ap (λ (z : List Commit). get_or z 0 x) s.1 i ∷ xs), sub_cancel xs ys c (subst (λ (l : List Commit). IsSublist l (ys ++ c ∷ [])) (sym tails) s.2))

-- all but the last
pub front_snoc : (xs : List Commit) (c : Commit) → front (xs ++ c ∷ []) ≡ xs
front_snoc [] c = refl
front_snoc (x ∷ []) c = refl
front_snoc (x ∷ y ∷ xs) c = λ i. x ∷ front_snoc (y ∷ xs) c i

-- ---- the edits of one pass

skips : (b : Bool) (y : Commit) (xs ys : List Commit) → IsSublist xs ys → IsSublist xs (cond b (y ∷ ys) ys)
skips true y xs ys s = inl s
skips false y xs ys s = s

takes_both : (b : Bool) (y : Commit) (xs ys : List Commit) → IsSublist xs ys → IsSublist (cond b (y ∷ xs) xs) (cond b (y ∷ ys) ys)
takes_both true y xs ys s = inr (xs, refl, s)
takes_both false y xs ys s = s

own_of : (n : ℕ) (xs ys : List Commit) → IsSublist xs ys → IsSublist (by_pass n xs) (by_pass n ys)
own_of n xs [] e = ap (by_pass n) e
own_of n xs (y ∷ ys) (inl s) = skips (y.pass == n) y (by_pass n xs) (by_pass n ys) (own_of n xs ys s)
own_of n xs (y ∷ ys) (inr s) = subst (λ (l : List Commit). IsSublist (by_pass n l) (by_pass n (y ∷ ys))) (sym s.1) (takes_both (y.pass == n) y (by_pass n s.0) (by_pass n ys) (own_of n s.0 ys s.2))

pub own_all : (n : ℕ) (cs : List Commit) → All (λ c. c.pass ≡ n) cs → by_pass n cs ≡ cs
own_all n [] h = refl
own_all n (c ∷ cs) h =
    ap (λ (b : Bool). cond b (c ∷ by_pass n cs) (by_pass n cs)) (eq-eqb c.pass n (All-head (λ c. c.pass ≡ n) c cs h))
    ∙ ap (λ (l : List Commit). c ∷ l) (own_all n cs (All-tail (λ c. c.pass ≡ n) c cs h))

pub own_none : (n : ℕ) (cs : List Commit) → All (λ c. c.pass ≢ n) cs → by_pass n cs ≡ []
own_none n [] h = refl
own_none n (c ∷ cs) h =
    ap (λ (b : Bool). cond b (c ∷ by_pass n cs) (by_pass n cs)) (ne_eqb c.pass n (All-head (λ c. c.pass ≢ n) c cs h))
    ∙ own_none n cs (All-tail (λ c. c.pass ≢ n) c cs h)

-- what came and what waits now is of what had come, what waited and what was handed in
pub edits_go_on : (past more left wait gave : List Commit) → IsSublist (more ++ left) (wait ++ gave) → IsSublist ((past ++ more) ++ left) ((past ++ wait) ++ gave)
edits_go_on past more left wait gave t =
    subst (λ (l : List Commit × List Commit). IsSublist l.0 l.1) (λ i. (sym (append_assoc past more left) i, sym (append_assoc past wait gave) i))
    (sub_beside past past (more ++ left) (wait ++ gave) (sub_same past) t)

-- those of the number q stay a sublist of what the pass q handed in
pub own_goes_on : (q : ℕ) (past more left wait gave handed : List Commit) → IsSublist (by_pass q (past ++ wait)) handed → IsSublist (more ++ left) (wait ++ gave)
    → IsSublist (by_pass q ((past ++ more) ++ left)) (handed ++ by_pass q gave)
own_goes_on q past more left wait gave handed s t =
    let old = by_pass q (past ++ wait) in
    let new = by_pass q ((past ++ more) ++ left) in
    sub_through new (old ++ by_pass q gave) (handed ++ by_pass q gave)
    (subst (IsSublist new) (filter-append (λ c. c.pass == q) (past ++ wait) gave) (own_of q ((past ++ more) ++ left) ((past ++ wait) ++ gave) (edits_go_on past more left wait gave t)))
    (sub_beside old handed (by_pass q gave) (by_pass q gave) s (sub_same (by_pass q gave)))

-- ---- fronts of logs

pub begins_same : (xs : List Commit) → Begins xs xs
begins_same xs = ([], sym (append-nil xs))

pub begins_more : (xs ys more : List Commit) → Begins xs ys → Begins xs (ys ++ more)
begins_more xs ys more b = (b.0 ++ more, ap (λ (l : List Commit). l ++ more) b.1 ∙ append_assoc xs b.0 more)

pub begins_then : (xs ys zs : List Commit) → Begins xs ys → Begins ys zs → Begins xs zs
begins_then xs ys zs b c = (b.0 ++ c.0, c.1 ∙ ap (λ (l : List Commit). l ++ c.0) b.1 ∙ append_assoc xs b.0 c.0)

pub drop_front : (xs ys : List Commit) → drop (length xs) (xs ++ ys) ≡ ys
drop_front [] ys = refl
drop_front (x ∷ xs) ys = drop_front xs ys

-- the edits of a pass in a front of the log that has all that the site was opened with
pub own_front : (number : ℕ) (opened past left log handed : List Commit) → Begins opened log → Begins log (opened ++ past) → IsSublist (by_pass number (past ++ left)) handed → IsSublist (by_pass number (drop (length opened) log)) handed
own_front number opened past left log handed whole seen own =
    let front = whole.0 in
    let more = seen.0 in
    let past_is : past ≡ front ++ more = sym (drop_front opened past) ∙ ap (drop (length opened)) (seen.1 ∙ ap (λ (l : List Commit). l ++ more) whole.1 ∙ append_assoc opened front more) ∙ drop_front opened (front ++ more) in
    let all : by_pass number (past ++ left) ≡ by_pass number front ++ by_pass number (more ++ left) =
    ap (λ (l : List Commit). by_pass number (l ++ left)) past_is ∙ ap (by_pass number) (append_assoc front more left) ∙ filter-append (λ c. c.pass == number) front (more ++ left) in
    let front_is : drop (length opened) log ≡ front = ap (drop (length opened)) whole.1 ∙ drop_front opened front in
    subst (λ (l : List Commit). IsSublist (by_pass number l) handed) (sym front_is)
    (sub_left (by_pass number front) (by_pass number (more ++ left)) handed (subst (λ (l : List Commit). IsSublist l handed) all own))

shorter : (xs r ys s : List Commit) → xs ++ r ≡ ys ++ s → length xs ≤ length ys → Begins xs ys
shorter [] r ys s e l = (ys, refl)
shorter (x ∷ xs) r [] s e l = absurd (omega arith)
shorter (x ∷ xs) r (y ∷ ys) s e l =
    let t = shorter xs r ys s (ap (drop 1) e) (omega arith) in
    (t.0, λ i. ap (λ (z : List Commit). get_or z 0 x) (sym e) i ∷ t.1 i)

-- of two fronts of one log, both begin the longer, which is one of them
pub record IsLonger (xs ys zs : List Commit) : Type 0 where
  pub first : Begins xs zs
  pub second : Begins ys zs
  pub one : (zs ≡ xs) ⊎ (zs ≡ ys)

pub longer_is : (xs ys log : List Commit) → Begins xs log → Begins ys log → IsLonger xs ys (longer xs ys)
longer_is xs ys log b c = by_test (ltb (length xs) (length ys)) refl
  where
    by_test : (t : Bool) → ltb (length xs) (length ys) ≡ t → IsLonger xs ys (cond t ys xs)
    by_test true e = let l = ltb-true (length xs) (length ys) e in record { first = shorter xs b.0 ys c.0 (sym b.1 ∙ c.1) (omega arith); second = begins_same ys; one = inr refl }
    by_test false e = let l = ltb-false (length xs) (length ys) e in record { first = begins_same xs; second = shorter ys c.0 xs b.0 (sym c.1 ∙ b.1) (omega arith); one = inl refl }

-- ---- counts

-- a sum that stays at the greatest u64 goes on as its parts do
pub capped_on : (h o t u p d : ℕ) → h ≡ capped (o + t) → p ≤ t → u + p ≡ t + plus p d → plus h d ≡ capped (o + u)
capped_on h o t u p zero e l s = let r : u ≡ t = omega arith in e ∙ ap (λ (n : ℕ). capped (o + n)) (sym r)
capped_on h o t u p (suc d) e l s = omega arith
