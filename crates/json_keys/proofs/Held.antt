-- What a table that lets an object through says of each of its keys.
use Rattle.std.proofs.Common.{◌≡◌, ℕ, List, [], ◌∷◌, Bool, true, false, ◌&&◌, cond, Option, Some, None, unwrap_or, Ordering, Less, Equal, Greater, is_none, refl, sym, ap, ◌∙◌, nat_cmp}
use Rattle.std.specs.Cmp.Lexicographic.{slice_cmp}
use Rattle.std.specs.Ordering.{match_ordering, is_eq}
use Rattle.std.specs.Str.{bytes_eq}
use Rattle.std.proofs.lemmas.Map.Text.{is_eq-slice_cmp}
use Rattle.std.proofs.lemmas.Slice.Eq.{bytes_eq-Decides}
use Rattle.serde_json.specs.Data.{Data, null, boolean, number, string, array, object, Members, no_members, member}
use Rattle.serde_json.specs.Find.{get, get_member}
use Rattle.json_keys.specs.Fault.{or_else, named, asked_fault, at_key, members_fault, missing_key, members_in, object_fault}
use Rattle.json_keys.specs.declared.rule.Rule.{Rule}
use Rattle.json_keys.specs.declared.rule.Rule.TheVariants as rule

pub equal_texts : (k l : List ℕ) → slice_cmp nat_cmp k l ≡ Equal → k ≡ l
equal_texts k l h = (bytes_eq-Decides k l).0 (sym (is_eq-slice_cmp k l) ∙ ap is_eq h)

pub some_same : {X : Type 0} (a b : X) → Some a ≡ Some b → a ≡ b
some_same a b h = cc

pub neither : {X : Type 0} (a b : Option X) → or_else a b ≡ None → (a ≡ None) × (b ≡ None)
neither None b h = (refl, h)
neither (Some x) b h = absurd cc

pub unfaulted : (k : List ℕ) (r : Option Rule) → at_key k r ≡ None → r ≡ None
unfaulted k None h = refl
unfaulted k (Some r) h = absurd cc

pub get_in : (k : List ℕ) (d : Data) → get k d ≡ get_member k (members_in d)
get_in k null = refl
get_in k (boolean b) = refl
get_in k (number n) = refl
get_in k (string s) = refl
get_in k (array ds) = refl
get_in k (object ms) = refl

-- ---- a member that is there

found_at : {X : Type 0} (fault : X → Data → Option Rule) (o : Ordering) (ks : List (List ℕ × X)) (l k : List ℕ) (e v : Data) (rest : Option Data) (x : X) → slice_cmp nat_cmp k l ≡ o
    → asked_fault fault (named ks l) e ≡ None → named ks k ≡ Some x → (rest ≡ Some v → fault x v ≡ None) → match_ordering o rest (Some e) rest ≡ Some v → fault x v ≡ None
found_at fault Less ks l k e v rest x is fine n later h = later h
found_at fault Greater ks l k e v rest x is fine n later h = later h
found_at fault Equal ks l k e v rest x is fine n later h =
    let asked : named ks l ≡ Some x = ap (named ks) (sym (equal_texts k l is)) ∙ n in
    let value : e ≡ v = cc in
    sym (ap (λ o. asked_fault fault o v) asked) ∙ ap (asked_fault fault (named ks l)) (sym value) ∙ fine

found_member : {X : Type 0} (fault : X → Data → Option Rule) (ks : List (List ℕ × X)) (ms : Members) (k : List ℕ) (v : Data) (x : X) → members_fault fault ks ms ≡ None → named ks k ≡ Some x
    → get_member k ms ≡ Some v → fault x v ≡ None
found_member fault ks no_members k v x h n g = absurd cc
found_member fault ks (member l e ms) k v x h n g =
    let both = neither (at_key l (asked_fault fault (named ks l) e)) (members_fault fault ks ms) h in
    found_at fault (slice_cmp nat_cmp k l) ks l k e v (get_member k ms) x refl (unfaulted l _ both.0) n (found_member fault ks ms k v x both.1 n) g

-- ---- a key that is to be there

there_at : {X : Type 0} (wanted : X → Bool) (b c : Bool) (e : List ℕ × X) (ks : List (List ℕ × X)) (k : List ℕ) (x : X) (d : Data) → wanted x ≡ true → bytes_eq e.0 k ≡ b
    → (wanted e.1 && is_none (get e.0 d)) ≡ c → cond c (Some (e.0, rule.Missing)) (missing_key wanted ks d) ≡ None → cond b (Some e.1) (named ks k) ≡ Some x
    → (missing_key wanted ks d ≡ None → named ks k ≡ Some x → is_none (get k d) ≡ false) → is_none (get k d) ≡ false
there_at wanted b true e ks k x d w same there h n later = absurd cc
there_at wanted false false e ks k x d w same there h n later = later h n
there_at wanted true false e ks k x d w same there h n later =
    let name : e.0 ≡ k = (bytes_eq-Decides e.0 k).0 same in
    let what : wanted e.1 ≡ true = ap wanted (some_same e.1 x n) ∙ w in
    sym (ap (λ z. z && is_none (get k d)) what) ∙ ap (λ q. wanted e.1 && is_none (get q d)) (sym name) ∙ there

there : {X : Type 0} (wanted : X → Bool) (ks : List (List ℕ × X)) (k : List ℕ) (x : X) (d : Data) → wanted x ≡ true → missing_key wanted ks d ≡ None → named ks k ≡ Some x
    → is_none (get k d) ≡ false
there wanted [] k x d w h n = absurd cc
there wanted (e ∷ ks) k x d w h n =
    there_at wanted (bytes_eq e.0 k) (wanted e.1 && is_none (get e.0 d)) e ks k x d w refl refl h n (there wanted ks k x d w)

some_value : (o : Option Data) → is_none o ≡ false → o ≡ Some (unwrap_or o null)
some_value None h = absurd cc
some_value (Some d) h = refl

-- ---- both

pub present : {X : Type 0} (fault : X → Data → Option Rule) (wanted : X → Bool) (ks : List (List ℕ × X)) (k : List ℕ) (x : X) (d : Data) → object_fault fault wanted ks d ≡ None
    → named ks k ≡ Some x → wanted x ≡ true → get k d ≡ Some (unwrap_or (get k d) null)
present fault wanted ks k x d h n w =
    some_value (get k d) (there wanted ks k x d w (neither (members_fault fault ks (members_in d)) (missing_key wanted ks d) h).1 n)

-- the value of any key that is there is let through
pub may : {X : Type 0} (fault : X → Data → Option Rule) (wanted : X → Bool) (ks : List (List ℕ × X)) (k : List ℕ) (x : X) (d v : Data) → object_fault fault wanted ks d ≡ None → named ks k ≡ Some x
    → get k d ≡ Some v → fault x v ≡ None
may fault wanted ks k x d v h n g =
    found_member fault ks (members_in d) k v x (neither (members_fault fault ks (members_in d)) (missing_key wanted ks d) h).0 n (sym (get_in k d) ∙ g)

-- the value of a key that is to be there is let through
pub must : {X : Type 0} (fault : X → Data → Option Rule) (wanted : X → Bool) (ks : List (List ℕ × X)) (k : List ℕ) (x : X) (d : Data) → object_fault fault wanted ks d ≡ None → named ks k ≡ Some x
    → wanted x ≡ true → fault x (unwrap_or (get k d) null) ≡ None
must fault wanted ks k x d h n w = may fault wanted ks k x d (unwrap_or (get k d) null) h n (present fault wanted ks k x d h n w)

-- ---- an object of which every member is let through

abbrev pub AllFine : {X : Type 0} → (X → Data → Option Rule) → List (List ℕ × X) → Members → Type 0
AllFine fault ks no_members = Unit {0}
AllFine fault ks (member k d ms) = (asked_fault fault (named ks k) d ≡ None) × AllFine fault ks ms

all_fine : {X : Type 0} (fault : X → Data → Option Rule) (ks : List (List ℕ × X)) (ms : Members) → AllFine fault ks ms → members_fault fault ks ms ≡ None
all_fine fault ks no_members h = refl
all_fine fault ks (member k d ms) h = rw h.0 (all_fine fault ks ms h.1)

pub object_fine : {X : Type 0} (fault : X → Data → Option Rule) (wanted : X → Bool) (ks : List (List ℕ × X)) (ms : Members) → AllFine fault ks ms → missing_key wanted ks (object ms) ≡ None
    → object_fault fault wanted ks (object ms) ≡ None
object_fine fault wanted ks ms fine none = rw (all_fine fault ks ms fine) none
