-- A cell is read of its own text, and of no other.
use Rattle.std.proofs.Common.{◌≡◌, ℕ, List, ◌++◌, length, drop, Bool, true, false, cond, Option, Some, None, option_map, refl, sym, ap, subst, ◌∙◌, arith, codes, IsTrue}
use Rattle.std.specs.Prelude.{nat_eq, nat_lt}
use Rattle.std.specs.Fmt.{decimal}
use Rattle.std.specs.List.{starts_with, list_all}
use Rattle.std.specs.Str.{is_utf8, bytes_eq, IsAscii}
use Rattle.std.proofs.lemmas.Bool.{ltb-true}
use Rattle.std.proofs.lemmas.Slice.Eq.{bytes_eq-Decides, starts_is}
use Rattle.std.proofs.lemmas.Bool.Decides.{Decides-eqb}
use Rattle.std.proofs.lemmas.Fmt.{IsAscii-decimal}
use Rattle.std.proofs.lemmas.Str.{is_utf8-from_IsUtf8, IsUtf8-from_ascii, IsAscii-append}
use Rattle.content_rows.specs.CellText.{cell_text}
use Rattle.content_rows.specs.IdText.{id_of}
use Rattle.content_rows.specs.Kinds.{IsId}
use Rattle.content_rows.specs.LiteralName.{is_name}
use Rattle.content_rows.specs.declared.cell.Cell.{Cell}
use Rattle.content_rows.specs.declared.cell.Cell.TheVariants as cell
use Rattle.content_rows.proofs.Ids.{id_some, id_told}
use Rattle.json_keys.specs.Fault.{or_else}
use Rattle.row_kinds.proofs.Names.{name_is_ascii}
use Rattle.row_kinds.proofs.Utf8.{ascii_bytes}
use Rattle.row_json.specs.Cells.{name_if, name_after, id_after, named_cell, placed_cell, numbered_cell, talked_cell, cell_of}

-- the cell of a row: its name is one, or its number is an id
abbrev pub IsSound : Cell → Type 0
IsSound (cell.User id) = IsId id
IsSound (cell.Term id) = IsId id
IsSound (cell.Node id) = IsId id
IsSound (cell.Comment id) = IsId id
IsSound cell.Talk = Unit {0}
IsSound cell.Head = ⊥
IsSound cell.Site = Unit {0}
IsSound cell.Seq = Unit {0}
IsSound (cell.NodeType name) = IsTrue (is_name name)
IsSound (cell.Role name) = IsTrue (is_name name)
IsSound (cell.Menu name) = IsTrue (is_name name)
IsSound (cell.Listing name) = IsTrue (is_name name)
IsSound (cell.Block name) = IsTrue (is_name name)
IsSound (cell.Session name) = IsTrue (is_name name)

-- ---- of its own text

id_back : (n : ℕ) → IsId n → id_of (decimal n) ≡ Some n
id_back n id = id_some (decimal n) n (record { text_is = refl; low = id.0; high = id.1 })

pub cell_back : (c : Cell) → IsSound c → cell_of (cell_text c) ≡ Some c
cell_back cell.Site s = refl
cell_back cell.Seq s = refl
cell_back (cell.NodeType name) s = rw s refl
cell_back (cell.Role name) s = rw s refl
cell_back (cell.Menu name) s = rw s refl
cell_back (cell.Listing name) s = rw s refl
cell_back (cell.Block name) s = rw s refl
cell_back (cell.Session name) s = rw s refl
cell_back (cell.User id) s = ap (λ o. or_else (or_else (option_map cell.User o) None) None) (id_back id s)
cell_back (cell.Term id) s = ap (λ o. or_else (or_else (option_map cell.Term o) None) None) (id_back id s)
cell_back (cell.Node id) s = ap (λ o. or_else (option_map cell.Node o) None) (id_back id s)
cell_back (cell.Comment id) s = ap (option_map cell.Comment) (id_back id s)
cell_back cell.Talk s = refl
cell_back cell.Head s = absurd s

-- ---- of no other text

pub record IsTold (t : List ℕ) (c : Cell) : Type 0 where
  pub text : cell_text c ≡ t
  pub sound : IsSound c

-- a text that starts with a front is the front and what follows
goes_on : (front t : List ℕ) → starts_with nat_eq t front ≡ true → front ++ drop (length front) t ≡ t
goes_on front t h = sym ((starts_is Decides-eqb t front true (sym h)).0 refl)

name_at : (test : Bool) (t name : List ℕ) → is_name t ≡ test → cond test (Some t) None ≡ Some name → (t ≡ name) × IsTrue (is_name name)
name_at true t name is h = let same : t ≡ name = cc in (same, subst (λ (s : List ℕ). IsTrue (is_name s)) same is)
name_at false t name is h = absurd cc

after_at : (front t name : List ℕ) (here : Bool) → starts_with nat_eq t front ≡ here → cond here (name_if (drop (length front) t)) None ≡ Some name → (front ++ name ≡ t) × IsTrue (is_name name)
after_at front t name true is h =
    let n = name_at (is_name (drop (length front) t)) (drop (length front) t) name refl h in
    (ap (λ s. front ++ s) (sym n.0) ∙ goes_on front t is, n.1)
after_at front t name false is h = absurd cc

number_at : (front t : List ℕ) (n : ℕ) (here : Bool) → starts_with nat_eq t front ≡ here → cond here (id_of (drop (length front) t)) None ≡ Some n → (front ++ decimal n ≡ t) × IsId n
number_at front t n true is h =
    let id = id_told (drop (length front) t) n h in
    (ap (λ s. front ++ s) (sym id.text_is) ∙ goes_on front t is, (id.low, id.high))
number_at front t n false is h = absurd cc

mapped : {X : Type 0} (make : X → Cell) (o : Option X) (c : Cell) → option_map make o ≡ Some c → (x : X) × (o ≡ Some x) × (make x ≡ c)
mapped make None c h = absurd cc
mapped make (Some x) c h = (x, refl, cc)

named_told : (make : List ℕ → Cell) (front t : List ℕ) (c : Cell) → ((n : List ℕ) → cell_text (make n) ≡ front ++ n) → ((n : List ℕ) → IsTrue (is_name n) → IsSound (make n))
    → option_map make (name_after front t) ≡ Some c → IsTold t c
named_told make front t c text sound h =
    let (name, found, is) = mapped make (name_after front t) c h in
    let after = after_at front t name (starts_with nat_eq t front) refl found in
    subst (IsTold t) is (record { text = text name ∙ after.0; sound = sound name after.1 })

numbered_told : (make : ℕ → Cell) (front t : List ℕ) (c : Cell) → ((n : ℕ) → cell_text (make n) ≡ front ++ decimal n) → ((n : ℕ) → IsId n → IsSound (make n))
    → option_map make (id_after front t) ≡ Some c → IsTold t c
numbered_told make front t c text sound h =
    let (n, found, is) = mapped make (id_after front t) c h in
    let after = number_at front t n (starts_with nat_eq t front) refl found in
    subst (IsTold t) is (record { text = text n ∙ after.0; sound = sound n after.1 })

one_of : (t : List ℕ) (c : Cell) (a b : Option Cell) → (a ≡ Some c → IsTold t c) → (b ≡ Some c → IsTold t c) → or_else a b ≡ Some c → IsTold t c
one_of t c (Some x) b f g h = f h
one_of t c None b f g h = g h

word_told : (t word : List ℕ) (c k : Cell) (here : Bool) (rest : Option Cell) → bytes_eq t word ≡ here → cell_text k ≡ word → IsSound k → (rest ≡ Some c → IsTold t c) → cond here (Some k) rest ≡ Some c
    → IsTold t c
word_told t word c k true rest is text sound more h =
    let same : k ≡ c = cc in subst (IsTold t) same (record { text = text ∙ sym ((bytes_eq-Decides t word).0 is); sound = sound })
word_told t word c k false rest is text sound more h = more h

pub cell_told : (t : List ℕ) (c : Cell) → cell_of t ≡ Some c → IsTold t c
cell_told t c h =
    word_told t (codes "site") c cell.Site (bytes_eq t (codes "site")) _ refl refl tt
    (word_told t (codes "seq") c cell.Seq (bytes_eq t (codes "seq")) _ refl refl tt
    (one_of t c (named_cell t) (or_else (placed_cell t) (or_else (numbered_cell t) (talked_cell t)))
    (one_of t c (option_map cell.NodeType (name_after (codes "type:") t)) _ (named_told cell.NodeType (codes "type:") t c (λ n. refl) (λ n s. s))
    (one_of t c (option_map cell.Role (name_after (codes "role:") t)) _ (named_told cell.Role (codes "role:") t c (λ n. refl) (λ n s. s)) (named_told cell.Session (codes "session:") t c (λ n. refl) (λ n s. s))))
    (one_of t c (placed_cell t) (or_else (numbered_cell t) (talked_cell t))
    (one_of t c (option_map cell.Menu (name_after (codes "menu:") t)) _ (named_told cell.Menu (codes "menu:") t c (λ n. refl) (λ n s. s))
    (one_of t c (option_map cell.Listing (name_after (codes "listing:") t)) _ (named_told cell.Listing (codes "listing:") t c (λ n. refl) (λ n s. s)) (named_told cell.Block (codes "block:") t c (λ n. refl) (λ n s. s))))
    (one_of t c (numbered_cell t) (talked_cell t)
    (one_of t c (option_map cell.User (id_after (codes "user:") t)) _ (numbered_told cell.User (codes "user:") t c (λ n. refl) (λ n s. s))
    (one_of t c (option_map cell.Term (id_after (codes "term:") t)) _ (numbered_told cell.Term (codes "term:") t c (λ n. refl) (λ n s. s)) (numbered_told cell.Node (codes "node:") t c (λ n. refl) (λ n s. s))))
    (word_told t (codes "talk") c cell.Talk (bytes_eq t (codes "talk")) _ refl refl tt (numbered_told cell.Comment (codes "comment:") t c (λ n. refl) (λ n s. s))))))) h

-- ---- the text of a cell is UTF-8

front_ascii : (t : List ℕ) → list_all (λ b. nat_lt b 128) t ≡ true → IsAscii t
front_ascii t h = ascii_bytes (λ b. nat_lt b 128) (λ b. ltb-true b 128) t h

joined : (front t : List ℕ) → list_all (λ b. nat_lt b 128) front ≡ true → IsAscii t → is_utf8 (front ++ t) ≡ true
joined front t h k = is_utf8-from_IsUtf8 (front ++ t) (IsUtf8-from_ascii (front ++ t) (IsAscii-append front t (front_ascii front h) k))

named_utf8 : (front name : List ℕ) → list_all (λ b. nat_lt b 128) front ≡ true → IsTrue (is_name name) → is_utf8 (front ++ name) ≡ true
named_utf8 front name h s = joined front name h (name_is_ascii name s)

numbered_utf8 : (front : List ℕ) (n : ℕ) → list_all (λ b. nat_lt b 128) front ≡ true → IsId n → is_utf8 (front ++ decimal n) ≡ true
numbered_utf8 front n h s = joined front (decimal n) h (IsAscii-decimal n (omega (arith, s.1)))

word_utf8 : (t : List ℕ) → list_all (λ b. nat_lt b 128) t ≡ true → is_utf8 t ≡ true
word_utf8 t h = is_utf8-from_IsUtf8 t (IsUtf8-from_ascii t (front_ascii t h))

pub cell_utf8 : (c : Cell) → IsSound c → is_utf8 (cell_text c) ≡ true
cell_utf8 cell.Site s = word_utf8 (codes "site") refl
cell_utf8 cell.Seq s = word_utf8 (codes "seq") refl
cell_utf8 (cell.NodeType name) s = named_utf8 (codes "type:") name refl s
cell_utf8 (cell.Role name) s = named_utf8 (codes "role:") name refl s
cell_utf8 (cell.Menu name) s = named_utf8 (codes "menu:") name refl s
cell_utf8 (cell.Listing name) s = named_utf8 (codes "listing:") name refl s
cell_utf8 (cell.Block name) s = named_utf8 (codes "block:") name refl s
cell_utf8 (cell.Session name) s = named_utf8 (codes "session:") name refl s
cell_utf8 (cell.User id) s = numbered_utf8 (codes "user:") id refl s
cell_utf8 (cell.Term id) s = numbered_utf8 (codes "term:") id refl s
cell_utf8 (cell.Node id) s = numbered_utf8 (codes "node:") id refl s
cell_utf8 (cell.Comment id) s = numbered_utf8 (codes "comment:") id refl s
cell_utf8 cell.Talk s = word_utf8 (codes "talk") refl
cell_utf8 cell.Head s = absurd s
