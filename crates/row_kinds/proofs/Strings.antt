-- Texts, by what they are to be.
use Rattle.std.proofs.Common.{◌≡◌, ℕ, List, [], ◌∷◌, length, Bool, true, false, not, ◌&&◌, ◌||◌, ◌==◌, cond, Some, None, refl, sym, ap, subst, ◌∙◌, arith, codes, IsTrue}
use Rattle.std.specs.Prelude.{nat_le}
use Rattle.std.specs.List.{list_all, slice_split}
use Rattle.std.specs.Str.{is_utf8, bytes_eq, chars}
use Rattle.std.proofs.lemmas.Bool.{and_parts, le-leb, leb-true}
use Rattle.std.proofs.lemmas.Slice.Eq.{bytes_eq-Decides}
use Rattle.serde_json.specs.Data.{Data, null, boolean, number, string, array, object}
use Rattle.cacheability.specs.Name.{is_name_byte}
use Rattle.content_rows.specs.Kinds.{is_line_byte, is_text_byte, is_uuid_byte, is_hex_digit, is_target_byte, is_slash, is_something, is_line, is_text, is_comment_body, is_uuid, is_hex, is_target, is_reserved, is_path, is_listing_path, is_block_path}
use Rattle.content_rows.specs.LiteralName.{is_name}
use Rattle.json_keys.specs.Fault.{plain_fault}
use Rattle.json_keys.specs.Form.{is_bare, has_path_length, is_long, is_written, is_kept, text_fault}
use Rattle.json_keys.specs.Order.{AllInOrder}
use Rattle.json_keys.specs.declared.rule.Rule.TheVariants as rule
use Rattle.json_keys.specs.declared.shape.Form.{Form}
use Rattle.json_keys.specs.declared.shape.Form.TheVariants as form
use Rattle.json_keys.specs.declared.shape.Plain.TheVariants as plain
use Rattle.row_kinds.specs.Look.{text_in, name_in, name_or_blank, text_data, IsNameText}
use Rattle.row_kinds.proofs.Codec.{Codec}
use Rattle.row_kinds.proofs.Utf8.{text_written, ascii_utf8, name_byte, uuid_byte, hex_digit, target_byte, slash_byte}

-- ---- the stages of a form, and the test that is all of them

pub both_true : (a b : Bool) → a ≡ true → b ≡ true → (a && b) ≡ true
both_true a b h k = rw (h, k) refl

left_true : (a b : Bool) → a ≡ true → (a || b) ≡ true
left_true a b h = rw h refl

either_true : (a b : Bool) → b ≡ true → (a || b) ≡ true
either_true true b h = refl
either_true false b h = h

left_only : (a b : Bool) → (a || b) ≡ true → b ≡ false → a ≡ true
left_only true b h k = refl
left_only false b h k = absurd cc

-- the second, where the first is not
right_only : (a b : Bool) → (a || b) ≡ true → a ≡ false → b ≡ true
right_only true b h k = absurd cc
right_only false b h k = h

let_in : (a b c : Bool) → a ≡ true → b ≡ true → c ≡ false → cond (not a) (Some rule.Length) (cond (not b) (Some rule.Bytes) (cond c (Some rule.Reserved) None)) ≡ None
let_in a b c h i j = rw (h, i, j) refl

three_stages : (a b c : Bool) → cond (not a) (Some rule.Length) (cond (not b) (Some rule.Bytes) (cond c (Some rule.Reserved) None)) ≡ None → (a ≡ true) × (b ≡ true) × (c ≡ false)
three_stages true true false h = (refl, refl, refl)
three_stages true true true h = absurd cc
three_stages true false c h = absurd cc
three_stages false b c h = absurd cc

pub stages : (f : Form) (t : List ℕ) → text_fault f t ≡ None → (is_long f t ≡ true) × (is_written f t ≡ true) × (is_kept f t ≡ false)
stages f t h = three_stages (is_long f t) (is_written f t) (is_kept f t) h

-- the form lets through exactly what passes the test, and that is UTF-8
pub record IsFormOf (f : Form) (test : List ℕ → Bool) : Type 0 where
  pub passes : (t : List ℕ) → text_fault f t ≡ None → IsTrue (test t)
  pub fine : (t : List ℕ) → IsTrue (test t) → text_fault f t ≡ None
  pub utf8 : (t : List ℕ) → IsTrue (test t) → is_utf8 t ≡ true

text_right : (f : Form) (test : List ℕ → Bool) → IsFormOf f test → (d : Data) → AllInOrder d → plain_fault (plain.Text f) d ≡ None → IsTrue (test (text_in d))
text_right f test form (string t) o h = form.passes t h
text_right f test form null o h = absurd cc
text_right f test form (boolean b) o h = absurd cc
text_right f test form (number n) o h = absurd cc
text_right f test form (array ds) o h = absurd cc
text_right f test form (object ms) o h = absurd cc

text_kept : (f : Form) (test : List ℕ → Bool) → IsFormOf f test → (d : Data) → AllInOrder d → plain_fault (plain.Text f) d ≡ None → text_data (text_in d) ≡ d
text_kept f test form (string t) o h = text_written t (form.utf8 t (form.passes t h))
text_kept f test form null o h = absurd cc
text_kept f test form (boolean b) o h = absurd cc
text_kept f test form (number n) o h = absurd cc
text_kept f test form (array ds) o h = absurd cc
text_kept f test form (object ms) o h = absurd cc

abbrev pub Passes : (List ℕ → Bool) → List ℕ → Type 0
Passes test t = IsTrue (test t)

pub text : (f : Form) (test : List ℕ → Bool) → IsFormOf f test → Codec (List ℕ) (plain_fault (plain.Text f)) text_in text_data (Passes test)
text f test form = record {
  right = text_right f test form;
  back = λ t g. let same = text_written t (form.utf8 t g) in (rw same (form.fine t g), rw same refl);
  kept = text_kept f test form;
}

-- ---- lines and bodies

line_form : (most : ℕ) → IsFormOf (form.Line most) (is_line most)
line_form most = record {
  passes = λ t h.
      let s = stages (form.Line most) t h in
      let w = and_parts (list_all is_line_byte t) (is_utf8 t) s.1 in
      both_true _ _ (both_true _ _ s.0 w.0) w.1;
  fine = λ t g.
      let three = and_parts (nat_le 1 (length t) && nat_le (length t) most && list_all is_line_byte t) (is_utf8 t) g in
      let two = and_parts (nat_le 1 (length t) && nat_le (length t) most) (list_all is_line_byte t) three.0 in
      let_in (is_long (form.Line most) t) (is_written (form.Line most) t) false two.0 (both_true _ _ two.1 three.1) refl;
  utf8 = λ t g. (and_parts (nat_le 1 (length t) && nat_le (length t) most && list_all is_line_byte t) (is_utf8 t) g).1;
}

pub line : (most : ℕ) → Codec (List ℕ) (plain_fault (plain.Text (form.Line most))) text_in text_data (Passes (is_line most))
line most = text (form.Line most) (is_line most) (line_form most)

pub body_form : IsFormOf form.Body is_text
body_form = record {
  passes = λ t h.
      let s = stages form.Body t h in
      let w = and_parts (list_all is_text_byte t) (is_utf8 t) s.1 in
      both_true _ _ (both_true _ _ s.0 w.0) w.1;
  fine = λ t g.
      let three = and_parts (nat_le (length t) 65536 && list_all is_text_byte t) (is_utf8 t) g in
      let two = and_parts (nat_le (length t) 65536) (list_all is_text_byte t) three.0 in
      let_in (is_long form.Body t) (is_written form.Body t) false two.0 (both_true _ _ two.1 three.1) refl;
  utf8 = λ t g. (and_parts (nat_le (length t) 65536 && list_all is_text_byte t) (is_utf8 t) g).1;
}

pub body : Codec (List ℕ) (plain_fault (plain.Text form.Body)) text_in text_data (Passes is_text)
body = text form.Body is_text body_form

-- a body that has a byte
comment_form : IsFormOf form.Comment is_comment_body
comment_form = record {
  passes = λ t h.
      let s = stages form.Comment t h in
      let long = and_parts (nat_le 1 (length t)) (nat_le (length t) 65536) s.0 in
      let w = and_parts (list_all is_text_byte t) (is_utf8 t) s.1 in
      both_true _ _ long.0 (both_true _ _ (both_true _ _ long.1 w.0) w.1);
  fine = λ t g.
      let some = and_parts (nat_le 1 (length t)) (is_text t) g in
      let three = and_parts (nat_le (length t) 65536 && list_all is_text_byte t) (is_utf8 t) some.1 in
      let two = and_parts (nat_le (length t) 65536) (list_all is_text_byte t) three.0 in
      let_in (is_long form.Comment t) (is_written form.Comment t) false (both_true _ _ some.0 two.0) (both_true _ _ two.1 three.1) refl;
  utf8 = λ t g. body_form.utf8 t (and_parts (nat_le 1 (length t)) (is_text t) g).1;
}

pub comment_body : Codec (List ℕ) (plain_fault (plain.Text form.Comment)) text_in text_data (Passes is_comment_body)
comment_body = text form.Comment is_comment_body comment_form

-- a line that may be empty
abbrev pub is_heading : ℕ → List ℕ → Bool
is_heading most t = is_line most t || bytes_eq t []

no_text : (t : List ℕ) → nat_le 1 (length t) ≡ false → bytes_eq t [] ≡ true
no_text [] h = refl
no_text (b ∷ t) h = let some : nat_le 1 (length (b ∷ t)) ≡ true = le-leb 1 (length (b ∷ t)) (omega arith) in absurd cc

heading_at : (some : Bool) (most : ℕ) (t : List ℕ) → nat_le 1 (length t) ≡ some → nat_le (length t) most ≡ true → list_all is_line_byte t ≡ true → is_utf8 t ≡ true → is_heading most t ≡ true
heading_at true most t is few bytes utf8 =
    left_true (is_line most t) (bytes_eq t []) (both_true _ _ (both_true _ _ (both_true _ _ is few) bytes) utf8)
heading_at false most t is few bytes utf8 = rw is (no_text t is)

empty_line : (list_all is_line_byte [] && is_utf8 []) ≡ true
unfolding is_utf8 chars lib.Utf8.encode
empty_line = refl

heading_fine : (b : Bool) (most : ℕ) (t : List ℕ) → is_line most t ≡ b → is_heading most t ≡ true → (is_long (form.Heading most) t ≡ true) × (is_written (form.Heading most) t ≡ true)
heading_fine true most t is g =
    let three = and_parts (nat_le 1 (length t) && nat_le (length t) most && list_all is_line_byte t) (is_utf8 t) is in
    let two = and_parts (nat_le 1 (length t) && nat_le (length t) most) (list_all is_line_byte t) three.0 in
    ((and_parts (nat_le 1 (length t)) (nat_le (length t) most) two.0).1, both_true _ _ two.1 three.1)
heading_fine false most t is g =
    let empty : t ≡ [] = (bytes_eq-Decides t []).0 (right_only (is_line most t) (bytes_eq t []) g is) in
    (subst (λ (s : List ℕ). nat_le (length s) most ≡ true) (sym empty) (le-leb 0 most (omega arith)), subst (λ (s : List ℕ). (list_all is_line_byte s && is_utf8 s) ≡ true) (sym empty) empty_line)

heading_form : (most : ℕ) → IsFormOf (form.Heading most) (is_heading most)
heading_form most = record {
  passes = λ t h.
      let s = stages (form.Heading most) t h in
      let w = and_parts (list_all is_line_byte t) (is_utf8 t) s.1 in
      heading_at (nat_le 1 (length t)) most t refl s.0 w.0 w.1;
  fine = λ t g. let two = heading_fine (is_line most t) most t refl g in let_in (is_long (form.Heading most) t) (is_written (form.Heading most) t) false two.0 two.1 refl;
  utf8 = λ t g. (and_parts (list_all is_line_byte t) (is_utf8 t) (heading_fine (is_line most t) most t refl g).1).1;
}

pub heading : (most : ℕ) → Codec (List ℕ) (plain_fault (plain.Text (form.Heading most))) text_in text_data (Passes (is_heading most))
heading most = text (form.Heading most) (is_heading most) (heading_form most)

-- ---- uuids and hex digits

uuid_form : IsFormOf form.Uuid is_uuid
uuid_form = record {
  passes = λ t h. let s = stages form.Uuid t h in both_true _ _ s.0 s.1;
  fine = λ t g.
      let two = and_parts (nat_le 1 (length t) && nat_le (length t) 64) (list_all is_uuid_byte t) g in
      let_in (is_long form.Uuid t) (is_written form.Uuid t) false two.0 two.1 refl;
  utf8 = λ t g.
      ascii_utf8 is_uuid_byte uuid_byte t (and_parts (nat_le 1 (length t) && nat_le (length t) 64) (list_all is_uuid_byte t) g).1;
}

pub uuid : Codec (List ℕ) (plain_fault (plain.Text form.Uuid)) text_in text_data (Passes is_uuid)
uuid = text form.Uuid is_uuid uuid_form

hex_form : (count : ℕ) → IsFormOf (form.Hex count) (is_hex count)
hex_form count = record {
  passes = λ t h. let s = stages (form.Hex count) t h in both_true _ _ s.0 s.1;
  fine = λ t g.
      let two = and_parts (length t == count) (list_all is_hex_digit t) g in
      let_in (is_long (form.Hex count) t) (is_written (form.Hex count) t) false two.0 two.1 refl;
  utf8 = λ t g. ascii_utf8 is_hex_digit hex_digit t (and_parts (length t == count) (list_all is_hex_digit t) g).1;
}

pub hex : (count : ℕ) → Codec (List ℕ) (plain_fault (plain.Text (form.Hex count))) text_in text_data (Passes (is_hex count))
hex count = text (form.Hex count) (is_hex count) (hex_form count)

abbrev pub is_hex_or_empty : ℕ → List ℕ → Bool
is_hex_or_empty count t = is_hex count t || bytes_eq t []

hex_at : (full : Bool) (count : ℕ) (t : List ℕ) → (length t == count) ≡ full → ((length t == count) || bytes_eq t []) ≡ true → list_all is_hex_digit t ≡ true → is_hex_or_empty count t ≡ true
hex_at true count t is long bytes = left_true (is_hex count t) (bytes_eq t []) (both_true _ _ is bytes)
hex_at false count t is long bytes = rw is (right_only (length t == count) (bytes_eq t []) long is)

hex_fine : (b : Bool) (count : ℕ) (t : List ℕ) → is_hex count t ≡ b → is_hex_or_empty count t ≡ true → (is_long (form.HexOrEmpty count) t ≡ true) × (list_all is_hex_digit t ≡ true)
hex_fine true count t is g =
    let two = and_parts (length t == count) (list_all is_hex_digit t) is in (left_true (length t == count) (bytes_eq t []) two.0, two.1)
hex_fine false count t is g =
    let none : bytes_eq t [] ≡ true = right_only (is_hex count t) (bytes_eq t []) g is in
    (either_true (length t == count) (bytes_eq t []) none, subst (λ (s : List ℕ). list_all is_hex_digit s ≡ true) (sym ((bytes_eq-Decides t []).0 none)) refl)

hex_or_empty_form : (count : ℕ) → IsFormOf (form.HexOrEmpty count) (is_hex_or_empty count)
hex_or_empty_form count = record {
  passes = λ t h. let s = stages (form.HexOrEmpty count) t h in hex_at (length t == count) count t refl s.0 s.1;
  fine = λ t g.
      let two = hex_fine (is_hex count t) count t refl g in
      let_in (is_long (form.HexOrEmpty count) t) (is_written (form.HexOrEmpty count) t) false two.0 two.1 refl;
  utf8 = λ t g. ascii_utf8 is_hex_digit hex_digit t (hex_fine (is_hex count t) count t refl g).1;
}

pub hex_or_empty : (count : ℕ) → Codec (List ℕ) (plain_fault (plain.Text (form.HexOrEmpty count))) text_in text_data (Passes (is_hex_or_empty count))
hex_or_empty count = text (form.HexOrEmpty count) (is_hex_or_empty count) (hex_or_empty_form count)

-- ---- names

pub name_form : IsFormOf form.Name is_name
name_form = record {
  passes = λ t h. let s = stages form.Name t h in both_true _ _ s.0 s.1;
  fine = λ t g.
      let two = and_parts (nat_le 1 (length t) && nat_le (length t) 64) (list_all is_name_byte t) g in
      let_in (is_long form.Name t) (is_written form.Name t) false two.0 two.1 refl;
  utf8 = λ t g.
      ascii_utf8 is_name_byte name_byte t (and_parts (nat_le 1 (length t) && nat_le (length t) 64) (list_all is_name_byte t) g).1;
}

pub name_same : (t : List ℕ) → IsTrue (is_name t) → name_or_blank t ≡ t
name_same t h = rw h refl

pub name : Codec (List ℕ) (plain_fault (plain.Text form.Name)) name_in text_data IsNameText
name = record {
  right = λ d o h.
      let good = text_right form.Name is_name name_form d o h in
      subst (λ (t : List ℕ). IsTrue (is_name t)) (sym (name_same (text_in d) good)) good;
  back = λ t g. let same = text_written t (name_form.utf8 t g) in (rw same (name_form.fine t g), ap name_in same ∙ name_same t g);
  kept = λ d o h.
      ap text_data (name_same (text_in d) (text_right form.Name is_name name_form d o h)) ∙ text_kept form.Name is_name name_form d o h;
}

-- ---- paths

target_parts : (b : ℕ) (t : List ℕ) → is_target (b ∷ t) ≡ true → (nat_le 1 (length t) ≡ true) × (nat_le (length t) 255 ≡ true) × (list_all is_target_byte (b ∷ t) ≡ true)
target_parts b t h =
    let four = and_parts (is_slash b && nat_le 1 (length t) && nat_le (length t) 255 && list_all is_target_byte t) (list_all is_something (slice_split is_slash t)) h in
    let three = and_parts (is_slash b && nat_le 1 (length t) && nat_le (length t) 255) (list_all is_target_byte t) four.0 in
    let two = and_parts (is_slash b && nat_le 1 (length t)) (nat_le (length t) 255) three.0 in
    let one = and_parts (is_slash b) (nat_le 1 (length t)) two.0 in
    (one.1, two.1, both_true _ _ (slash_byte b one.0) three.1)

target_long : (t : List ℕ) → is_target t ≡ true → has_path_length t ≡ true
target_long [] h = absurd cc
target_long (b ∷ t) h =
    let parts = target_parts b t h in
    let low = leb-true 1 (length t) parts.0 in
    let high = leb-true (length t) 255 parts.1 in
    both_true _ _ (le-leb 2 (length (b ∷ t)) (omega arith)) (le-leb (length (b ∷ t)) 256 (omega arith))

target_utf8 : (t : List ℕ) → is_target t ≡ true → is_utf8 t ≡ true
target_utf8 [] h = absurd cc
target_utf8 (b ∷ t) h = ascii_utf8 is_target_byte target_byte (b ∷ t) (target_parts b t h).2

target_form : IsFormOf form.Target is_target
target_form = record {
  passes = λ t h. (stages form.Target t h).1;
  fine = λ t g. let_in (is_long form.Target t) (is_written form.Target t) false (target_long t g) g refl;
  utf8 = target_utf8;
}

pub target : Codec (List ℕ) (plain_fault (plain.Text form.Target)) text_in text_data (Passes is_target)
target = text form.Target is_target target_form

not_bare : (b : Bool) (t : List ℕ) → bytes_eq t (codes "/") ≡ b → is_target t ≡ true → b ≡ false
not_bare false t is h = refl
not_bare true t is h =
    let bare : t ≡ codes "/" = (bytes_eq-Decides t (codes "/")).0 is in
    let none : is_target t ≡ false = ap is_target bare in absurd cc

front_form : IsFormOf form.Front is_target
front_form = record {
  passes = λ t h. let s = stages form.Front t h in left_only (is_target t) (is_bare t) s.1 s.2;
  fine = λ t g.
      let_in (is_long form.Front t) (is_written form.Front t) (is_bare t) (left_true (has_path_length t) (is_bare t) (target_long t g)) (left_true (is_target t) (is_bare t) g) (not_bare (is_bare t) t refl g);
  utf8 = target_utf8;
}

pub front : Codec (List ℕ) (plain_fault (plain.Text form.Front)) text_in text_data (Passes is_target)
front = text form.Front is_target front_form

not_true : (b : Bool) → b ≡ false → not b ≡ true
not_true b h = rw h refl

not_false : (b : Bool) → not b ≡ true → b ≡ false
not_false true h = absurd cc
not_false false h = refl

path_form : IsFormOf form.Path is_path
path_form = record {
  passes = λ t h. let s = stages form.Path t h in both_true _ _ s.1 (not_true _ s.2);
  fine = λ t g.
      let both = and_parts (is_target t) (not (is_reserved t)) g in
      let_in (is_long form.Path t) (is_written form.Path t) (is_kept form.Path t) (target_long t both.0) both.0 (not_false _ both.1);
  utf8 = λ t g. target_utf8 t (and_parts (is_target t) (not (is_reserved t)) g).0;
}

pub path : Codec (List ℕ) (plain_fault (plain.Text form.Path)) text_in text_data (Passes is_path)
path = text form.Path is_path path_form

unreserved : (t r n : Bool) → t ≡ true → (r && not n) ≡ false → ((t && not r) || n) ≡ true
unreserved true false n h k = refl
unreserved true true true h k = refl
unreserved true true false h k = absurd cc
unreserved false r n h k = absurd cc

all_nodes : (n : Bool) (t : List ℕ) → bytes_eq t (codes "/node") ≡ n → is_listing_path t ≡ true → (is_target t ≡ true) × ((is_reserved t && not n) ≡ false)
all_nodes true t is g =
    let node : t ≡ codes "/node" = (bytes_eq-Decides t (codes "/node")).0 is in (ap is_target node, ap (λ (s : List ℕ). is_reserved s && false) node)
all_nodes false t is g =
    let both = and_parts (is_target t) (not (is_reserved t)) (left_only (is_path t) (bytes_eq t (codes "/node")) g is) in
    (both.0, ap (λ r. r && true) (not_false (is_reserved t) both.1))

listing_path_form : IsFormOf form.ListingPath is_listing_path
listing_path_form = record {
  passes = λ t h. let s = stages form.ListingPath t h in unreserved (is_target t) (is_reserved t) (bytes_eq t (codes "/node")) s.1 s.2;
  fine = λ t g.
      let both = all_nodes (bytes_eq t (codes "/node")) t refl g in
      let_in (is_long form.ListingPath t) (is_written form.ListingPath t) (is_kept form.ListingPath t) (target_long t both.0) both.0 both.1;
  utf8 = λ t g. target_utf8 t (all_nodes (bytes_eq t (codes "/node")) t refl g).0;
}

pub listing_path : Codec (List ℕ) (plain_fault (plain.Text form.ListingPath)) text_in text_data (Passes is_listing_path)
listing_path = text form.ListingPath is_listing_path listing_path_form

block_at : (a b : Bool) (t : List ℕ) → is_target t ≡ a → bytes_eq t (codes "/") ≡ b → is_block_path t ≡ true → (is_long form.BlockPath t ≡ true) × (is_utf8 t ≡ true)
unfolding is_utf8 chars lib.Utf8.encode
block_at true b t is bare g = (left_true (has_path_length t) (is_bare t) (target_long t is), target_utf8 t is)
block_at false true t is bare g = let same = sym ((bytes_eq-Decides t (codes "/")).0 bare) in (either_true (has_path_length t) (is_bare t) bare, subst (λ (s : List ℕ). is_utf8 s ≡ true) same refl)
block_at false false t is bare g =
    let word : bytes_eq t (codes "<front>") ≡ true = right_only (is_target t || bytes_eq t (codes "/")) (bytes_eq t (codes "<front>")) g (rw (is, bare) refl) in
    let same = sym ((bytes_eq-Decides t (codes "<front>")).0 word) in
    (subst (λ (s : List ℕ). is_long form.BlockPath s ≡ true) same refl, subst (λ (s : List ℕ). is_utf8 s ≡ true) same refl)

block_path_form : IsFormOf form.BlockPath is_block_path
block_path_form = record {
  passes = λ t h. (stages form.BlockPath t h).1;
  fine = λ t g.
      let_in (is_long form.BlockPath t) (is_written form.BlockPath t) false (block_at (is_target t) (is_bare t) t refl refl g).0 g refl;
  utf8 = λ t g. (block_at (is_target t) (is_bare t) t refl refl g).1;
}

pub block_path : Codec (List ℕ) (plain_fault (plain.Text form.BlockPath)) text_in text_data (Passes is_block_path)
block_path = text form.BlockPath is_block_path block_path_form
