-- A tag is read of its own text, and of no other.
use Rattle.std.proofs.Common.{◌≡◌, ◌<◌, ◌≤◌, ◌+◌, ◌/◌, ◌%◌, ◌^◌, ◌⊎◌, inl, inr, ℕ, List, [], ◌∷◌, ◌++◌, length, drop, Bool, true, false, cond, Option, Some, None, option_map, refl, sym, ap, subst, ◌∙◌, arith, codes}
use Rattle.std.specs.Prelude.{nat_eq}
use Rattle.std.specs.Fmt as std
use Rattle.std.specs.List.{starts_with}
use Rattle.std.specs.Str.{bytes_eq}
use Rattle.std.proofs.lemmas.Bool.Decides.{Decides-eqb}
use Rattle.std.proofs.lemmas.Fmt.{decimal_by_steps}
use Rattle.std.proofs.lemmas.Slice.Eq.{bytes_eq-Decides, starts_is}
use Rattle.cacheability.specs.Decimal.{decimal}
use Rattle.cacheability.specs.Tag.{tag_text}
use Rattle.cacheability.specs.declared.tag.Tag.{Tag}
use Rattle.cacheability.specs.declared.tag.Tag.TheVariants as tag
use Rattle.cacheability.proofs.Digits.{decimal-small, decimal-large}
use Rattle.content_rows.specs.IdText.{id_of}
use Rattle.content_rows.specs.LiteralName.{is_name}
use Rattle.content_rows.proofs.Ids.{id_some, id_told}
use Rattle.json_keys.specs.Fault.{or_else}
use Rattle.row_json.specs.Cells.{name_if, name_after}
use Rattle.keeper_sqlite.specs.Tags.{number_of, number_after, word_tag, named_tag, placed_tag, numbered_tag, comment_tag, tag_of, IsTypedTag}

-- ---- numbers

-- the two ways to write a number in decimal agree
same_decimal : (n : ℕ) → n < 2 ^ 64 → std.decimal n ≡ decimal n
same_decimal n small = sym (decimal_by_steps (λ m ds. decimal m ≡ ds) one more n small)
  where
    one : (m : ℕ) → m < 10 → decimal m ≡ (48 + m) ∷ []
    one m l = let last : m % 10 ≡ m = omega arith in decimal-small m l ∙ ap (λ d. (48 + d) ∷ []) last

    more : (m : ℕ) (ds : List ℕ) → 10 ≤ m → decimal (m / 10) ≡ ds → decimal m ≡ ds ++ (48 + m % 10) ∷ []
    more m ds l h = decimal-large m l ∙ ap (λ xs. xs ++ (48 + m % 10) ∷ []) h

kind_of : (n : ℕ) → n < 2 ^ 32 → (n ≡ 0) ⊎ ((n ≡ 4294967295) ⊎ ((1 ≤ n) × (n ≤ 4294967294)))
kind_of n small = grind arith

number_back : (n : ℕ) → n < 2 ^ 32 → number_of (std.decimal n) ≡ Some n
unfolding std.digits
number_back n small =
    elim (kind_of n small) as (λ _. number_of (std.decimal n) ≡ Some n) [
      | inl zero ↦ subst (λ (m : ℕ). number_of (std.decimal m) ≡ Some m) (sym zero) refl
      | inr (inl last) ↦ subst (λ (m : ℕ). number_of (std.decimal m) ≡ Some m) (sym last) refl
      | inr (inr id) ↦ rw (id_some (std.decimal n) n (record { text_is = refl; low = id.0; high = id.1 })) refl
    ]

number_back_of : (n : ℕ) → n < 2 ^ 32 → number_of (decimal n) ≡ Some n
number_back_of n small = subst (λ (t : List ℕ). number_of t ≡ Some n) (same_decimal n (omega arith)) (number_back n small)

-- ---- of its own text

pub tag_back : (t : Tag) → IsTypedTag t → tag_of (tag_text t) ≡ Some t
tag_back tag.Site s = refl
tag_back tag.TermList s = refl
tag_back tag.NodeList s = refl
tag_back tag.BlockList s = refl
tag_back tag.Rendered s = refl
tag_back tag.NotFound s = refl
tag_back (tag.NodeType name) s = rw s refl
tag_back (tag.Role name) s = rw s refl
tag_back (tag.NodeListOf name) s = rw s refl
tag_back (tag.Menu name) s = rw s refl
tag_back (tag.Listing name) s = rw s refl
tag_back (tag.Block name) s = rw s refl
tag_back (tag.User n) s = ap (λ o. or_else (or_else (option_map tag.User o) None) None) (number_back_of n s)
tag_back (tag.Term n) s = ap (λ o. or_else (or_else (option_map tag.Term o) None) None) (number_back_of n s)
tag_back (tag.Node n) s = ap (λ o. or_else (option_map tag.Node o) None) (number_back_of n s)
tag_back (tag.Comment n) s = ap (λ o. or_else (option_map tag.Comment o) None) (number_back_of n s)
tag_back (tag.CommentList n) s = ap (option_map tag.CommentList) (number_back_of n s)

-- ---- of no other text

goes_on : (front t : List ℕ) → starts_with nat_eq t front ≡ true → front ++ drop (length front) t ≡ t
goes_on front t h = sym ((starts_is Decides-eqb t front true (sym h)).0 refl)

name_at : (test : Bool) (t name : List ℕ) → cond test (Some t) None ≡ Some name → t ≡ name
name_at true t name h = cc
name_at false t name h = absurd cc

after_at : (front t name : List ℕ) (here : Bool) → starts_with nat_eq t front ≡ here → cond here (name_if (drop (length front) t)) None ≡ Some name → front ++ name ≡ t
after_at front t name true is h =
    ap (λ s. front ++ s) (sym (name_at (is_name (drop (length front) t)) (drop (length front) t) name h)) ∙ goes_on front t is
after_at front t name false is h = absurd cc

id_text : (t : List ℕ) (n : ℕ) → id_of t ≡ Some n → t ≡ decimal n
id_text t n h = let id = id_told t n h in id.text_is ∙ same_decimal n (omega (arith, id.high))

one_text : (t word : List ℕ) (m n : ℕ) (here : Bool) (rest : Option ℕ) → bytes_eq t word ≡ here → word ≡ decimal m → (rest ≡ Some n → t ≡ decimal n) → cond here (Some m) rest ≡ Some n → t ≡ decimal n
one_text t word m n true rest is text more h =
    let same : m ≡ n = cc in (bytes_eq-Decides t word).0 is ∙ text ∙ ap (λ (k : ℕ). decimal k) same
one_text t word m n false rest is text more h = more h

none_there : (t : List ℕ) (n : ℕ) → None ≡ Some n → t ≡ decimal n
none_there t n h = absurd cc

first_of : {X : Type 0} (a b : Option X) (x : X) (P : Type 0) → (a ≡ Some x → P) → (b ≡ Some x → P) → or_else a b ≡ Some x → P
first_of (Some y) b x P f g h = f h
first_of None b x P f g h = g h

number_text : (t : List ℕ) (n : ℕ) → number_of t ≡ Some n → t ≡ decimal n
unfolding std.digits
number_text t n h =
    first_of (id_of t) _ n (t ≡ decimal n) (id_text t n)
    (one_text t (codes "0") 0 n (bytes_eq t (codes "0")) _ refl (same_decimal 0 (omega arith))
    (one_text t (codes "4294967295") 4294967295 n (bytes_eq t (codes "4294967295")) None refl (same_decimal 4294967295 (omega arith)) (none_there t n))) h

number_at : (front t : List ℕ) (n : ℕ) (here : Bool) → starts_with nat_eq t front ≡ here → cond here (number_of (drop (length front) t)) None ≡ Some n → front ++ decimal n ≡ t
number_at front t n true is h = ap (λ s. front ++ s) (sym (number_text (drop (length front) t) n h)) ∙ goes_on front t is
number_at front t n false is h = absurd cc

mapped : {X : Type 0} (make : X → Tag) (o : Option X) (k : Tag) → option_map make o ≡ Some k → (x : X) × (o ≡ Some x) × (make x ≡ k)
mapped make None k h = absurd cc
mapped make (Some x) k h = (x, refl, cc)

abbrev IsOf : List ℕ → Tag → Type 0
IsOf t k = tag_text k ≡ t

named_told : (make : List ℕ → Tag) (front t : List ℕ) (k : Tag) → ((n : List ℕ) → tag_text (make n) ≡ front ++ n) → option_map make (name_after front t) ≡ Some k → IsOf t k
named_told make front t k text h =
    let (name, found, is) = mapped make (name_after front t) k h in
    subst (IsOf t) is (text name ∙ after_at front t name (starts_with nat_eq t front) refl found)

numbered_told : (make : ℕ → Tag) (front t : List ℕ) (k : Tag) → ((n : ℕ) → tag_text (make n) ≡ front ++ decimal n) → option_map make (number_after front t) ≡ Some k → IsOf t k
numbered_told make front t k text h =
    let (n, found, is) = mapped make (number_after front t) k h in
    subst (IsOf t) is (text n ∙ number_at front t n (starts_with nat_eq t front) refl found)

word_told : (t word : List ℕ) (k j : Tag) (here : Bool) (rest : Option Tag) → bytes_eq t word ≡ here → tag_text j ≡ word → (rest ≡ Some k → IsOf t k) → cond here (Some j) rest ≡ Some k → IsOf t k
word_told t word k j true rest is text more h =
    let same : j ≡ k = cc in subst (IsOf t) same (text ∙ sym ((bytes_eq-Decides t word).0 is))
word_told t word k j false rest is text more h = more h

no_word : (t : List ℕ) (k : Tag) → None ≡ Some k → IsOf t k
no_word t k h = absurd cc

pub is_word : (t : List ℕ) (k : Tag) → word_tag t ≡ Some k → IsOf t k
is_word t k h =
    word_told t (codes "config:system.site") k tag.Site (bytes_eq t (codes "config:system.site")) _ refl refl
    (word_told t (codes "taxonomy_term_list") k tag.TermList (bytes_eq t (codes "taxonomy_term_list")) _ refl refl
    (word_told t (codes "node_list") k tag.NodeList (bytes_eq t (codes "node_list")) _ refl refl
    (word_told t (codes "config:block_list") k tag.BlockList (bytes_eq t (codes "config:block_list")) _ refl refl
    (word_told t (codes "rendered") k tag.Rendered (bytes_eq t (codes "rendered")) _ refl refl
    (word_told t (codes "4xx-response") k tag.NotFound (bytes_eq t (codes "4xx-response")) None refl refl (no_word t k)))))) h

pub is_named : (t : List ℕ) (k : Tag) → named_tag t ≡ Some k → IsOf t k
is_named t k h =
    first_of (option_map tag.NodeType (name_after (codes "config:node.type.") t)) _ k (IsOf t k) (named_told tag.NodeType (codes "config:node.type.") t k (λ n. refl))
    (first_of (option_map tag.Role (name_after (codes "config:user.role.") t)) _ k (IsOf t k) (named_told tag.Role (codes "config:user.role.") t k (λ n. refl))
    (named_told tag.NodeListOf (codes "node_list:") t k (λ n. refl))) h

pub is_placed : (t : List ℕ) (k : Tag) → placed_tag t ≡ Some k → IsOf t k
is_placed t k h =
    first_of (option_map tag.Menu (name_after (codes "config:system.menu.") t)) _ k (IsOf t k) (named_told tag.Menu (codes "config:system.menu.") t k (λ n. refl))
    (first_of (option_map tag.Listing (name_after (codes "config:views.view.") t)) _ k (IsOf t k) (named_told tag.Listing (codes "config:views.view.") t k (λ n. refl))
    (named_told tag.Block (codes "config:block.block.") t k (λ n. refl))) h

pub is_numbered : (t : List ℕ) (k : Tag) → numbered_tag t ≡ Some k → IsOf t k
is_numbered t k h =
    first_of (option_map tag.User (number_after (codes "user:") t)) _ k (IsOf t k) (numbered_told tag.User (codes "user:") t k (λ n. refl))
    (first_of (option_map tag.Term (number_after (codes "taxonomy_term:") t)) _ k (IsOf t k) (numbered_told tag.Term (codes "taxonomy_term:") t k (λ n. refl))
    (numbered_told tag.Node (codes "node:") t k (λ n. refl))) h

pub is_of_comment : (t : List ℕ) (k : Tag) → comment_tag t ≡ Some k → IsOf t k
is_of_comment t k h =
    first_of (option_map tag.Comment (number_after (codes "comment:") t)) _ k (IsOf t k) (numbered_told tag.Comment (codes "comment:") t k (λ n. refl))
    (numbered_told tag.CommentList (codes "comment_list:") t k (λ n. refl)) h

pub tag_told : (t : List ℕ) (k : Tag) → tag_of t ≡ Some k → tag_text k ≡ t
tag_told t k h =
    first_of (word_tag t) _ k (IsOf t k) (is_word t k)
    (first_of (named_tag t) _ k (IsOf t k) (is_named t k)
    (first_of (placed_tag t) _ k (IsOf t k) (is_placed t k)
    (first_of (numbered_tag t) _ k (IsOf t k) (is_numbered t k) (is_of_comment t k)))) h
