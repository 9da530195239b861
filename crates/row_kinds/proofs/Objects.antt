-- What a table that lets an object through says of what is read of each of its keys.
use Rattle.std.proofs.Common.{◌≡◌, ℕ, List, ◌∷◌, Bool, true, false, cond, Option, Some, None, is_some, unwrap_or, refl, sym, ap, subst, ◌∙◌, option_map}
use Rattle.std.specs.Cmp.Lexicographic.{slice_cmp}
use Rattle.std.specs.List.Sorted.{IsStrictlySortedBy}
use Rattle.std.specs.Ordering.{nat_cmp, match_ordering}
use Rattle.std.specs.declared.cmp.Ordering.{Ordering}
use Rattle.std.specs.declared.cmp.Ordering.TheVariants.{Less, Equal, Greater}
use Rattle.std.specs.Str.{bytes_eq}
use Rattle.std.proofs.lemmas.Slice.Eq.{bytes_eq-Decides}
use Rattle.serde_json.specs.Data.{Data, null, boolean, number, string, array, object, Members, no_members, member}
use Rattle.serde_json.specs.Find.{get, get_member}
use Rattle.json_keys.specs.Fault.{named, members_in, members_fault, missing_key, object_fault, row_fault, columns_of, entry_fault, always, ask_fault, is_wanted}
use Rattle.json_keys.specs.Order.{AllInOrder, MembersInOrder, IsInOrder}
use Rattle.json_keys.specs.declared.rule.Rule.{Rule}
use Rattle.json_keys.specs.declared.shape.Ask.{Ask}
use Rattle.json_keys.specs.declared.shape.Columns.{Columns}
use Rattle.json_keys.proofs.Agree.{is_ascending, all_named, AgreesOn, same_by_table}
use Rattle.json_keys.proofs.Held.{neither, some_same, get_in, present, may, must}
use Rattle.row_kinds.specs.Look.{value_at}
use Rattle.row_kinds.proofs.Codec.{Codec}

-- ---- what is inside is in order

inside_one : (o : Ordering) (d v : Data) (rest : Option Data) → AllInOrder d → (rest ≡ Some v → AllInOrder v) → match_ordering o rest (Some d) rest ≡ Some v → AllInOrder v
inside_one Less d v rest o more g = more g
inside_one Greater d v rest o more g = more g
inside_one Equal d v rest o more g = subst AllInOrder (some_same d v g) o

inside_at : (ms : Members) (k : List ℕ) (v : Data) → MembersInOrder ms → get_member k ms ≡ Some v → AllInOrder v
inside_at no_members k v o g = absurd cc
inside_at (member l d ms) k v o g = inside_one (slice_cmp nat_cmp k l) d v (get_member k ms) o.0 (inside_at ms k v o.1) g

pub inside : (d : Data) (k : List ℕ) (v : Data) → AllInOrder d → get k d ≡ Some v → AllInOrder v
inside (object ms) k v o g = inside_at ms k v o.1 g
inside null k v o g = absurd cc
inside (boolean b) k v o g = absurd cc
inside (number n) k v o g = absurd cc
inside (string s) k v o g = absurd cc
inside (array ds) k v o g = absurd cc

-- ---- objects

is_object : (d : Data) (k : List ℕ) (v : Data) → get k d ≡ Some v → object (members_in d) ≡ d
is_object (object ms) k v g = refl
is_object null k v g = absurd cc
is_object (boolean b) k v g = absurd cc
is_object (number n) k v g = absurd cc
is_object (string s) k v g = absurd cc
is_object (array ds) k v g = absurd cc

in_order : (d : Data) → AllInOrder d → IsInOrder (members_in d)
unfolding IsStrictlySortedBy
in_order (object ms) o = o.0
in_order null o = tt
in_order (boolean b) o = tt
in_order (number n) o = tt
in_order (string s) o = tt
in_order (array ds) o = tt

-- an object in order that a table lets through
pub record IsPassed {A : Type 0} (fault : A → Data → Option Rule) (wanted : A → Bool) (ks : List (List ℕ × A)) (d : Data) : Type 0 where
  pub order : AllInOrder d
  pub passed : object_fault fault wanted ks d ≡ None

-- an object in which each key of a table that is to be there has a value that is let through
pub record IsHeld {A : Type 0} (fault : A → Data → Option Rule) (wanted : A → Bool) (ks : List (List ℕ × A)) (d : Data) : Type 0 where
  pub held : (k : List ℕ) (a : A) → named ks k ≡ Some a → wanted a ≡ true → AllInOrder (value_at k d) × (fault a (value_at k d) ≡ None)

-- the keys of a table that lets an object through are held
pub held : {A : Type 0} {fault : A → Data → Option Rule} {wanted : A → Bool} {ks : List (List ℕ × A)} {d : Data} → IsPassed fault wanted ks d → IsHeld fault wanted ks d
held {A} {fault} {wanted} {ks} {d} p = record {
  held = λ k a n w.
      (inside d k (value_at k d) p.order (present fault wanted ks k a d p.passed n w), must fault wanted ks k a d p.passed n w);
}

later_at : {A : Type 0} (here : Bool) (first k : List ℕ) (b a : A) (ks : List (List ℕ × A)) → bytes_eq first k ≡ here → named ks first ≡ None → named ks k ≡ Some a → cond here (Some b) (named ks k) ≡ Some a
later_at false first k b a ks is none n = n
later_at true first k b a ks is none n =
    let gone : named ks k ≡ None = ap (named ks) (sym ((bytes_eq-Decides first k).0 is)) ∙ none in absurd cc

-- and so are those after its first one
pub held_later : {A : Type 0} {fault : A → Data → Option Rule} {wanted : A → Bool} {ks : List (List ℕ × A)} {d : Data} (first : List ℕ) (b : A)
    → IsPassed fault wanted ((first, b) ∷ ks) d → named ks first ≡ None → IsHeld fault wanted ks d
held_later {A} {fault} {wanted} {ks} {d} first b p none = record {
  held = λ k a n w. (held p).held k a (later_at (bytes_eq first k) first k b a ks refl none n) w;
}

-- what is read at a key that is to be there is good
pub good : {A X : Type 0} {of : Data → X} {shown : X → Data} {Good : X → Type 0} {fault : A → Data → Option Rule} {wanted : A → Bool} {ks : List (List ℕ × A)} {d : Data}
    → IsHeld fault wanted ks d → (k : List ℕ) (a : A) → named ks k ≡ Some a → wanted a ≡ true → Codec X (fault a) of shown Good → Good (of (value_at k d))
good {A} {X} {of} {shown} {Good} {fault} {wanted} {ks} {d} h k a n w c =
    let value = h.held k a n w in c.right (value_at k d) value.0 value.1

-- what is written of what is read there is what is there
pub keeps : {A X : Type 0} {of : Data → X} {shown : X → Data} {Good : X → Type 0} {fault : A → Data → Option Rule} {wanted : A → Bool} {ks : List (List ℕ × A)} {d : Data}
    → IsPassed fault wanted ks d → (k : List ℕ) (a : A) → named ks k ≡ Some a → wanted a ≡ true → Codec X (fault a) of shown Good → Some (shown (of (value_at k d))) ≡ get_member k (members_in d)
keeps {A} {X} {of} {shown} {Good} {fault} {wanted} {ks} {d} p k a n w c =
    let there = present fault wanted ks k a d p.passed n w in
    ap Some (c.kept (value_at k d) (inside d k (value_at k d) p.order there) (must fault wanted ks k a d p.passed n w)) ∙ sym there ∙ get_in k d

-- ---- a key that may be missing

-- a value that may be there is in order and let through
abbrev pub IsLet : (Data → Option Rule) → Option Data → Type 0
IsLet fault o = (v : Data) → o ≡ Some v → AllInOrder v × (fault v ≡ None)

pub let_through : {ks : List (List ℕ × Ask)} {d : Data} → IsPassed ask_fault is_wanted ks d → (k : List ℕ) (a : Ask) → named ks k ≡ Some a → IsLet (ask_fault a) (get k d)
let_through {ks} {d} p k a n v is = (inside d k v p.order is, may ask_fault is_wanted ks k a d v p.passed n is)

read_at : {X : Type 0} (fault : Data → Option Rule) (of : Data → X) (Good : X → Type 0) → ((v : Data) → AllInOrder v → fault v ≡ None → Good (of v)) → (o : Option Data) → IsLet fault o → Good (of null)
    → Good (of (unwrap_or o null))
read_at fault of Good right None h none = none
read_at fault of Good right (Some v) h none = let is = h v refl in right v is.0 is.1

-- what is read at a key is good, where what its absence says is
pub read_right : {X : Type 0} {ks : List (List ℕ × Ask)} {d : Data} (of : Data → X) (Good : X → Type 0) → IsPassed ask_fault is_wanted ks d → (k : List ℕ) (a : Ask) → named ks k ≡ Some a
    → ((v : Data) → AllInOrder v → ask_fault a v ≡ None → Good (of v)) → Good (of null) → Good (of (value_at k d))
read_right {X} {ks} {d} of Good p k a n right none = read_at (ask_fault a) of Good right (get k d) (let_through p k a n) none

is_value : (o : Option Data) → is_some o ≡ true → o ≡ Some (unwrap_or o null)
is_value None h = absurd cc
is_value (Some d) h = refl

-- where the key is there, what is written of what is read at it is what is there
pub keeps_sent : {X : Type 0} {of : Data → X} {shown : X → Data} {Good : X → Type 0} {ks : List (List ℕ × Ask)} {d : Data} → IsPassed ask_fault is_wanted ks d → (k : List ℕ) (a : Ask)
    → named ks k ≡ Some a → is_some (get k d) ≡ true → Codec X (ask_fault a) of shown Good → Some (shown (of (value_at k d))) ≡ get_member k (members_in d)
keeps_sent {X} {of} {shown} {Good} {ks} {d} p k a n is c =
    let there = is_value (get k d) is in
    let one = let_through p k a n (value_at k d) there in
    ap Some (c.kept (value_at k d) one.0 one.1) ∙ sym there ∙ get_in k d

-- ---- all keys

-- members that stand in the code, in order and with the keys of the table, are all that is there, where they agree with
-- what is there
pub rebuilt : {A : Type 0} {fault : A → Data → Option Rule} {wanted : A → Bool} {ks : List (List ℕ × A)} {d : Data}
    → IsPassed fault wanted ks d → (k : List ℕ) (a : A) → named ks k ≡ Some a → wanted a ≡ true → (ms : Members) → is_ascending ms ≡ true → all_named ks ms ≡ true → AgreesOn ks ms (members_in d)
    → object ms ≡ d
rebuilt {A} {fault} {wanted} {ks} {d} p k a n w ms up listed agree =
    ap object (same_by_table fault ks ms (members_in d) up listed (in_order d p.order) (neither (members_fault fault ks (members_in d)) (missing_key wanted ks d) p.passed).0 agree) ∙ is_object d k (value_at k d) (present fault wanted ks k a d p.passed n w)

-- ---- objects in lists

unmapped : (o : Option (List ℕ × Rule)) → option_map (λ f. f.1) o ≡ None → o ≡ None
unmapped None h = refl
unmapped (Some f) h = absurd cc

row_passed : (cs : Columns) (d : Data) → row_fault cs d ≡ None → object_fault entry_fault always (columns_of cs) d ≡ None
row_passed cs (object ms) h = unmapped (object_fault entry_fault always (columns_of cs) (object ms)) h
row_passed cs null h = absurd cc
row_passed cs (boolean b) h = absurd cc
row_passed cs (number n) h = absurd cc
row_passed cs (string s) h = absurd cc
row_passed cs (array ds) h = absurd cc

pub columns_passed : (cs : Columns) (d : Data) → AllInOrder d → row_fault cs d ≡ None → IsPassed entry_fault always (columns_of cs) d
columns_passed cs d o h = record { order = o; passed = row_passed cs d h }
