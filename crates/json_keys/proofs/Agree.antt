-- Two objects in the order of their keys that have no keys but those of one table, and agree on these, are the same.
use Rattle.std.proofs.Common.{◌≡◌, ℕ, List, [], ◌∷◌, Bool, true, false, ◌&&◌, cond, Option, Some, None, Ordering, Less, Equal, Greater, is_some, refl, sym, ap, subst, ◌∙◌, nat_cmp}
use Rattle.std.proofs.lemmas.Bool.{and_parts}
use Rattle.std.proofs.lemmas.Cmp.{nat_list_cmp_total, tied_itself}
use Rattle.std.proofs.lemmas.Slice.Eq.{bytes_eq-Decides}
use Rattle.std.specs.Cmp.Lexicographic.{slice_cmp}
use Rattle.std.specs.List.{AllByRecursion}
use Rattle.std.specs.List.Sorted.{IsStrictlySortedBy}
use Rattle.std.specs.Ordering.{match_ordering, ordering_reverse, is_lt}
use Rattle.std.specs.Str.{bytes_eq}
use Rattle.serde_json.specs.Data.{Data, Members, no_members, member}
use Rattle.serde_json.specs.Find.{get_member}
use Rattle.json_keys.specs.Fault.{named, asked_fault, at_key, members_fault}
use Rattle.json_keys.specs.Order.{names_of, IsInOrder}
use Rattle.json_keys.specs.declared.rule.Rule.{Rule}
use Rattle.json_keys.proofs.Held.{equal_texts, neither, unfaulted, some_same}

abbrev text_cmp : List ℕ → List ℕ → Ordering
text_cmp = slice_cmp nat_cmp

-- ---- a test of order, which computes on members that stand in the code

abbrev pub is_above : List ℕ → Members → Bool
is_above k no_members = true
is_above k (member l d ms) = is_lt (text_cmp k l) && is_above k ms

abbrev pub is_ascending : Members → Bool
is_ascending no_members = true
is_ascending (member k d ms) = is_above k ms && is_ascending ms

less : (o : Ordering) → is_lt o ≡ true → o ≡ Less
less Less h = refl
less Equal h = cc
less Greater h = cc

above : (k : List ℕ) (ms : Members) → is_above k ms ≡ true → AllByRecursion (λ l. text_cmp k l ≡ Less) (names_of ms)
above k no_members h = tt
above k (member l d ms) h = let both = and_parts (is_lt (text_cmp k l)) (is_above k ms) h in (less (text_cmp k l) both.0, above k ms both.1)

pub ascending : (ms : Members) → is_ascending ms ≡ true → IsInOrder ms
unfolding IsStrictlySortedBy
ascending no_members h = tt
ascending (member k d ms) h = let both = and_parts (is_above k ms) (is_ascending ms) h in (above k ms both.0, ascending ms both.1)

-- ---- members that are found alike are the same

same_text : (k : List ℕ) → text_cmp k k ≡ Equal
same_text k = tied_itself nat_list_cmp_total k

-- a name below all of them is not there
below_all : (q : List ℕ) (ms : Members) → AllByRecursion (λ k. text_cmp q k ≡ Less) (names_of ms) → get_member q ms ≡ None
below_all q no_members h = refl
below_all q (member k d ms) h = rw h.0 (below_all q ms h.1)

-- what is below the first is below those above it
below_more : (q k : List ℕ) (ms : Members) → text_cmp q k ≡ Less → AllByRecursion (λ l. text_cmp k l ≡ Less) (names_of ms) → AllByRecursion (λ l. text_cmp q l ≡ Less) (names_of ms)
below_more q k no_members h more = tt
below_more q k (member l d ms) h more = (nat_list_cmp_total.trans q k l h more.0, below_more q k ms h more.1)

abbrev SameLook : Members → Members → Type 0
SameLook a b = (k : List ℕ) → get_member k a ≡ get_member k b

found : (k : List ℕ) (d : Data) (ms : Members) → get_member k (member k d ms) ≡ Some d
found k d ms = rw (same_text k) refl

not_found : {X : Type 0} (o : Option Data) (d : Data) → o ≡ None → o ≡ Some d → X
not_found o d h k = absurd cc

-- what the first members do not decide, the others do
rest_at : (o : Ordering) (q k : List ℕ) (d e : Data) (a b : Members) → text_cmp q k ≡ o → AllByRecursion (λ l. text_cmp k l ≡ Less) (names_of a) → AllByRecursion (λ l. text_cmp k l ≡ Less) (names_of b)
    → match_ordering o (get_member q a) (Some d) (get_member q a) ≡ match_ordering o (get_member q b) (Some e) (get_member q b) → get_member q a ≡ get_member q b
rest_at Less q k d e a b is x y s = s
rest_at Greater q k d e a b is x y s = s
rest_at Equal q k d e a b is x y s =
    let same : k ≡ q = sym (equal_texts q k is) in
    subst (λ (n : List ℕ). get_member n a ≡ None) same (below_all k a x) ∙ sym (subst (λ (n : List ℕ). get_member n b ≡ None) same (below_all k b y))

same_head : (k : List ℕ) (d e : Data) (a b : Members) → IsInOrder (member k d a) → IsInOrder (member k e b) → SameLook (member k d a) (member k e b) → (SameLook a b → a ≡ b)
    → member k d a ≡ member k e b
unfolding IsStrictlySortedBy
same_head k d e a b x y s more =
    let value : d ≡ e = some_same d e (sym (found k d a) ∙ s k ∙ found k e b) in
    let others : a ≡ b = more (λ q. rest_at (text_cmp q k) q k d e a b refl x.0 y.0 (s q)) in
    rw (value, others) refl

same_at : (o : Ordering) (k l : List ℕ) (d e : Data) (a b : Members) → text_cmp k l ≡ o → IsInOrder (member k d a) → IsInOrder (member l e b) → SameLook (member k d a) (member l e b)
    → (SameLook a b → a ≡ b) → member k d a ≡ member l e b
unfolding IsStrictlySortedBy
same_at Less k l d e a b is x y s more =
    not_found (get_member k (member l e b)) d (below_all k (member l e b) (is, below_more k l b is y.0)) (sym (s k) ∙ found k d a)
same_at Greater k l d e a b is x y s more =
    let lower : text_cmp l k ≡ Less = nat_list_cmp_total.antisymm l k ∙ ap ordering_reverse is in
    not_found (get_member l (member k d a)) e (below_all l (member k d a) (lower, below_more l k a lower x.0)) (s l ∙ found l e b)
same_at Equal k l d e a b is x y s more =
    subst
    (λ (n : List ℕ). IsInOrder (member n e b) → SameLook (member k d a) (member n e b) → member k d a ≡ member n e b)
    (equal_texts k l is) (λ y s. same_head k d e a b x y s more) y s

same_members : (a b : Members) → IsInOrder a → IsInOrder b → SameLook a b → a ≡ b
unfolding IsStrictlySortedBy
same_members no_members no_members x y s = refl
same_members no_members (member l e b) x y s = not_found None e refl (s l ∙ found l e b)
same_members (member k d a) no_members x y s = not_found None d refl (sym (s k) ∙ found k d a)
same_members (member k d a) (member l e b) x y s = same_at (text_cmp k l) k l d e a b refl x y s (same_members a b x.1 y.1)

-- ---- by a table

-- a test of the keys, which computes on members that stand in the code
abbrev pub all_named : {X : Type 0} → List (List ℕ × X) → Members → Bool
all_named ks no_members = true
all_named ks (member k d ms) = is_some (named ks k) && all_named ks ms

named_asked : {X : Type 0} (fault : X → Data → Option Rule) (o : Option X) (d : Data) → asked_fault fault o d ≡ None → is_some o ≡ true
named_asked fault None d h = absurd cc
named_asked fault (Some x) d h = refl

-- a table that lets members through has all their keys
all_listed : {X : Type 0} (fault : X → Data → Option Rule) (ks : List (List ℕ × X)) (ms : Members) → members_fault fault ks ms ≡ None → all_named ks ms ≡ true
all_listed fault ks no_members h = refl
all_listed fault ks (member k d ms) h =
    let both = neither (at_key k (asked_fault fault (named ks k) d)) (members_fault fault ks ms) h in
    rw (named_asked fault (named ks k) d (unfaulted k _ both.0)) (all_listed fault ks ms both.1)

unlisted_at : {X : Type 0} (o : Ordering) (ks : List (List ℕ × X)) (q k : List ℕ) (d : Data) (rest : Option Data) → text_cmp q k ≡ o → named ks q ≡ None → is_some (named ks k) ≡ true → rest ≡ None
    → match_ordering o rest (Some d) rest ≡ None
unlisted_at Less ks q k d rest is n some more = more
unlisted_at Greater ks q k d rest is n some more = more
unlisted_at Equal ks q k d rest is n some more =
    let none : is_some (named ks k) ≡ false = ap (λ z. is_some (named ks z)) (sym (equal_texts q k is)) ∙ ap is_some n in absurd cc

unlisted : {X : Type 0} (ks : List (List ℕ × X)) (q : List ℕ) (ms : Members) → named ks q ≡ None → all_named ks ms ≡ true → get_member q ms ≡ None
unlisted ks q no_members n h = refl
unlisted ks q (member k d ms) n h =
    let both = and_parts (is_some (named ks k)) (all_named ks ms) h in
    unlisted_at (text_cmp q k) ks q k d (get_member q ms) refl n both.0 (unlisted ks q ms n both.1)

abbrev pub AgreesOn : {X : Type 0} → List (List ℕ × X) → Members → Members → Type 0
AgreesOn [] a b = Unit {0}
AgreesOn (k ∷ ks) a b = (get_member k.0 a ≡ get_member k.0 b) × AgreesOn ks a b

agree_at : {X : Type 0} (same : Bool) (k : List ℕ × X) (ks : List (List ℕ × X)) (q : List ℕ) (x : X) (a b : Members) → bytes_eq k.0 q ≡ same → get_member k.0 a ≡ get_member k.0 b
    → cond same (Some k.1) (named ks q) ≡ Some x → (named ks q ≡ Some x → get_member q a ≡ get_member q b) → get_member q a ≡ get_member q b
agree_at true k ks q x a b is here n more = subst (λ (z : List ℕ). get_member z a ≡ get_member z b) ((bytes_eq-Decides k.0 q).0 is) here
agree_at false k ks q x a b is here n more = more n

agree : {X : Type 0} (ks : List (List ℕ × X)) (q : List ℕ) (x : X) (a b : Members) → AgreesOn ks a b → named ks q ≡ Some x → get_member q a ≡ get_member q b
agree [] q x a b h n = absurd cc
agree (k ∷ ks) q x a b h n = agree_at (bytes_eq k.0 q) k ks q x a b refl h.0 n (agree ks q x a b h.1)

looks_at : {X : Type 0} (o : Option X) (ks : List (List ℕ × X)) (a b : Members) (q : List ℕ) → named ks q ≡ o → all_named ks a ≡ true → all_named ks b ≡ true → AgreesOn ks a b
    → get_member q a ≡ get_member q b
looks_at None ks a b q n x y h = unlisted ks q a n x ∙ sym (unlisted ks q b n y)
looks_at (Some v) ks a b q n x y h = agree ks q v a b h n

-- members that stand in the code are those that a table lets through, where they agree on its keys
pub same_by_table : {X : Type 0} (fault : X → Data → Option Rule) (ks : List (List ℕ × X)) (a b : Members) → is_ascending a ≡ true → all_named ks a ≡ true → IsInOrder b
    → members_fault fault ks b ≡ None → AgreesOn ks a b → a ≡ b
same_by_table fault ks a b up listed order fine h =
    same_members a b (ascending a up) order (λ q. looks_at (named ks q) ks a b q refl listed (all_listed fault ks b fine) h)
