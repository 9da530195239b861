-- What is written of a value at a key is let through, and is read back as the value.
use Rattle.std.proofs.Common.{◌≡◌, ℕ, List, [], ◌∷◌, Bool, true, false, ◌&&◌, cond, Option, None, Some, unwrap_or, option_map, is_none, Ordering, Less, Equal, Greater, refl, sym, ap, ◌∙◌, inl, inr, nat_cmp}
use Rattle.std.specs.Prelude.{◌⊎◌}
use Rattle.std.specs.Cmp.Lexicographic.{slice_cmp}
use Rattle.std.specs.Ordering.{match_ordering}
use Rattle.serde_json.specs.Data.{Data, null, object, Members, no_members, member}
use Rattle.serde_json.specs.Find.{get, get_member}
use Rattle.json_keys.specs.Checked.{unless_faulty}
use Rattle.json_keys.specs.Fault.{or_else, named, at_key, asked_fault, members_fault, missing_key, ask_fault, is_wanted, first_fault}
use Rattle.json_keys.specs.declared.checked.Checked.TheVariants as checked
use Rattle.json_keys.specs.declared.rule.Rule.{Rule}
use Rattle.json_keys.specs.declared.rule.Rule.TheVariants as rule
use Rattle.json_keys.specs.declared.shape.Ask.{Ask}
use Rattle.row_kinds.specs.Look.{OrNone, value_at}
use Rattle.row_kinds.proofs.Codec.{Codec}
use Rattle.body_kinds.specs.Bodies.{sent}
use Rattle.body_kinds.specs.Written.{Said, and_member, members_of, ComesBack}

-- ---- what stands at a key

abbrev pub found : List ℕ → Said → Option Data
found k [] = None
found k (s ∷ ss) = match_ordering (slice_cmp nat_cmp k s.0) (found k ss) (or_else s.1 (found k ss)) (found k ss)

same_thrice : (o : Ordering) (x : Option Data) → match_ordering o x x x ≡ x
same_thrice Less x = refl
same_thrice Equal x = refl
same_thrice Greater x = refl

found_one : (k l : List ℕ) (o : Option Data) (ms : Members) (rest : Option Data) → get_member k ms ≡ rest
    → get_member k (and_member l o ms) ≡ match_ordering (slice_cmp nat_cmp k l) rest (or_else o rest) rest
found_one k l None ms rest h = h ∙ sym (same_thrice (slice_cmp nat_cmp k l) rest)
found_one k l (Some d) ms rest h = ap (λ r. match_ordering (slice_cmp nat_cmp k l) r (Some d) r) h

get_said : (k : List ℕ) (ss : Said) → get_member k (members_of ss) ≡ found k ss
get_said k [] = refl
get_said k (s ∷ ss) = found_one k s.0 s.1 (members_of ss) (found k ss) (get_said k ss)

or_none : (o : Option Data) → or_else o None ≡ o
or_none None = refl
or_none (Some d) = refl

-- where a key is said once
stands : (k : List ℕ) (ss : Said) (o : Option Data) → found k ss ≡ or_else o None → get k (object (members_of ss)) ≡ o
stands k ss o h = get_said k ss ∙ h ∙ or_none o

-- ---- the first rule

abbrev pub value_fault : (Data → Option Rule) → Option Data → Option Rule
value_fault fault None = None
value_fault fault (Some d) = fault d

-- each value that is said is let through
abbrev pub AllLet : List (List ℕ × Ask) → Said → Type 0
AllLet ks [] = Unit {0}
AllLet ks (s ∷ ss) = (value_fault (asked_fault ask_fault (named ks s.0)) s.1 ≡ None) × AllLet ks ss

let_one : (ks : List (List ℕ × Ask)) (k : List ℕ) (o : Option Data) (ms : Members) → value_fault (asked_fault ask_fault (named ks k)) o ≡ None → members_fault ask_fault ks ms ≡ None
    → members_fault ask_fault ks (and_member k o ms) ≡ None
let_one ks k None ms h more = more
let_one ks k (Some d) ms h more = rw h more

all_let : (ks : List (List ℕ × Ask)) (ss : Said) → AllLet ks ss → members_fault ask_fault ks (members_of ss) ≡ None
all_let ks [] h = refl
all_let ks (s ∷ ss) h = let_one ks s.0 s.1 (members_of ss) h.0 (all_let ks ss h.1)

-- the first key of a table that is to be said and is not
abbrev pub unsaid : List (List ℕ × Ask) → Said → Option (List ℕ × Rule)
unsaid [] ss = None
unsaid (k ∷ ks) ss = cond (is_wanted k.1 && is_none (found k.0 ss)) (Some (k.0, rule.Missing)) (unsaid ks ss)

missing : (ks : List (List ℕ × Ask)) (ss : Said) → missing_key is_wanted ks (object (members_of ss)) ≡ unsaid ks ss
missing [] ss = refl
missing (k ∷ ks) ss = rw (get_said k.0 ss, missing ks ss) refl

checked_back : {X : Type 0} (of : Data → X) (d : Data) (x : X) (f : Option (List ℕ × Rule)) → f ≡ None → of d ≡ x → unless_faulty (of d) f ≡ checked.Right x
checked_back of d x f h same = rw h (ap checked.Right same)

-- what is said of a body comes back, where each key is let through, those of the table are there, and it reads as the body
pub comes_back : {X : Type 0} (of : Data → X) (ks : List (List ℕ × Ask)) (ss : Said) (x : X) → AllLet ks ss → unsaid ks ss ≡ None → of (object (members_of ss)) ≡ x → ComesBack of ks ss x
comes_back of ks ss x fine none same =
    checked_back of (object (members_of ss)) x (first_fault ks (object (members_of ss)))
    (rw (all_let ks ss fine) (missing ks ss ∙ none)) same

-- ---- what is read at a key

-- a key that is there or not
pub record SentBack {X : Type 0} (fault : Data → Option Rule) (of : Data → X) (o : Option Data) (v : Option X) : Type 0 where
  pub fine : value_fault fault o ≡ None
  pub read : option_map of o ≡ v

pub sent_back : {X : Type 0} {fault : Data → Option Rule} {of : Data → X} {shown : X → Data} {Good : X → Type 0} → Codec X fault of shown Good → (v : Option X) → OrNone Good v
    → SentBack fault of (option_map shown v) v
sent_back {X} {fault} {of} {shown} {Good} c None g = record { fine = refl; read = refl }
sent_back {X} {fault} {of} {shown} {Good} c (Some x) g = let back = c.back x g in record { fine = back.0; read = ap Some back.1 }

-- a key whose absence says something
pub record ReadBack {X : Type 0} (fault : Data → Option Rule) (of : Data → X) (o : Option Data) (x : X) : Type 0 where
  pub fine : value_fault fault o ≡ None
  pub read : of (unwrap_or o null) ≡ x

pub whole_back : {X : Type 0} {fault : Data → Option Rule} {of : Data → X} {shown : X → Data} {Good : X → Type 0} → Codec X fault of shown Good → (x : X) → Good x → ReadBack fault of (Some (shown x)) x
whole_back {X} {fault} {of} {shown} {Good} c x g = let back = c.back x g in record { fine = back.0; read = back.1 }

pub left_out : {X : Type 0} (fault : Data → Option Rule) (of : Data → X) (x : X) → of null ≡ x → ReadBack fault of None x
left_out fault of x is = record { fine = refl; read = is }

-- and the key stands in what is said
pub sent_is : {X : Type 0} {fault : Data → Option Rule} {of : Data → X} (ss : Said) (k : List ℕ) (o : Option Data) (v : Option X) → found k ss ≡ or_else o None → SentBack fault of o v
    → sent of k (object (members_of ss)) ≡ v
sent_is {X} {fault} {of} ss k o v here back = ap (option_map of) (stands k ss o here) ∙ back.read

pub read_is : {X : Type 0} {fault : Data → Option Rule} {of : Data → X} (ss : Said) (k : List ℕ) (o : Option Data) (x : X) → found k ss ≡ or_else o None → ReadBack fault of o x
    → of (value_at k (object (members_of ss))) ≡ x
read_is {X} {fault} {of} ss k o x here back = ap (λ o. of (unwrap_or o null)) (stands k ss o here) ∙ back.read
