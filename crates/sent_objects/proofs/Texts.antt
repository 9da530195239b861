-- The object that a text is, by its tokens.
use Rattle.std.proofs.Common.{◌≡◌, ℕ, List, [], ◌∷◌, length, Bool, true, false, Option, Some, None, option_map, option_and_then, is_some, refl, ap, ◌∙◌, arith}
use Rattle.std.specs.Prelude.{unwrap_or}
use Rattle.std.specs.Str.{is_utf8, IsUtf8}
use Rattle.std.proofs.lemmas.Str.{is_utf8-from_IsUtf8, IsUtf8-from_is_utf8}
use Rattle.json.specs.Token.{Token}
use Rattle.json.specs.Json as json
use Rattle.json.specs.Json.{value, items, members, parse_map, if_last}
use Rattle.json.specs.Lex.{tokens}
use Rattle.json.proofs.Grammar.{value_is, value-begin_array}
use Rattle.json.specs.Reads.{token_of, Yields}
use Rattle.json.specs.declared.token.Token.{Token as Handed}
use Rattle.serde_json.specs.Data.{Num, Data, number, array, object, Items, Members, no_members}
use Rattle.serde_json.specs.Read.{of_json, of_items, of_members, number_of, converted}
use Rattle.sent_objects.specs.Brief.{brief}
use Rattle.sent_objects.specs.Object.{object_if, text_object, object_of, no_object, opens_object}
use Rattle.sent_objects.proofs.Reading.{last, last_read, last_and_more, last_refused, object_opened}

abbrev pub object_at : List Token → Option Data
object_at ts = option_and_then object_if (last (value 127 ts))

abbrev pub members_at : List Token → Option (Members × List Token)
members_at ts = converted (λ ms. of_members ms no_members) (members (value 126) (length ts) ts)

opened : (ts : List Token) → converted of_json (value 127 (Token.begin_object ∷ ts)) ≡ parse_map object (members_at ts)
opened ts = object_opened 127 ts (omega arith)

-- ---- where the text begins with a brace

pub object_read : (text : List ℕ) (ts : List Token) (ms : Members) → tokens text ≡ Token.begin_object ∷ ts → members_at ts ≡ Some (ms, []) → text_object text ≡ Some (object ms)
object_read text ts ms is e =
    ap object_at is ∙ ap (option_and_then object_if) (last_read (value 127 (Token.begin_object ∷ ts)) (object ms) (opened ts ∙ ap (parse_map object) e))

pub object_refused : (text : List ℕ) (ts : List Token) → tokens text ≡ Token.begin_object ∷ ts → members_at ts ≡ None → text_object text ≡ None
object_refused text ts is e = ap object_at is ∙ ap (option_and_then object_if) (last_refused (value 127 (Token.begin_object ∷ ts)) (opened ts ∙ ap (parse_map object) e))

pub more_after : (text : List ℕ) (ts : List Token) (ms : Members) (t : Token) (r : List Token) → tokens text ≡ Token.begin_object ∷ ts → members_at ts ≡ Some (ms, t ∷ r) → text_object text ≡ None
more_after text ts ms t r is e =
    ap object_at is ∙ ap (option_and_then object_if) (last_and_more (value 127 (Token.begin_object ∷ ts)) (object ms) t r (opened ts ∙ ap (parse_map object) e))

pub next_some : (o : Option Handed) (old new : List Token) → Yields old o new → is_some o ≡ true → (t : Token) × (old ≡ t ∷ new)
next_some None old new y h = absurd (cc)
next_some (Some t) old new y h = (token_of t, y)

-- ---- where it doesn't

abbrev told : json.Json → List Token → Option Data
told j ts = option_and_then object_if (option_and_then of_json (if_last j ts))

no_array : (o : Option Items) → option_and_then object_if (option_map array o) ≡ None
no_array None = refl
no_array (Some ds) = refl

array_told : (o : Option (json.Items × List Token)) → option_and_then object_if (last (parse_map json.array o)) ≡ None
array_told None = refl
array_told (Some (js, [])) = no_array (of_items js)
array_told (Some (js, t ∷ ts)) = refl

number_at : (o : Option Num) → option_and_then object_if (option_map number o) ≡ None
number_at None = refl
number_at (Some n) = refl

no_number : (s : List ℕ) → option_and_then object_if (option_map number (number_of s)) ≡ None
no_number s = number_at (number_of s)

string_told : (s : List ℕ) (ts : List Token) → told (json.string s) ts ≡ None
string_told s [] = refl
string_told s (t ∷ ts) = refl

number_told : (s : List ℕ) (ts : List Token) → told (json.number s) ts ≡ None
number_told s [] = no_number s
number_told s (t ∷ ts) = refl

boolean_told : (b : Bool) (ts : List Token) → told (json.boolean b) ts ≡ None
boolean_told b [] = refl
boolean_told b (t ∷ ts) = refl

null_told : (ts : List Token) → told json.null ts ≡ None
null_told [] = refl
null_told (t ∷ ts) = refl

other_at : (ts : List Token) → opens_object ts ≡ false → object_at ts ≡ None
other_at [] h = ap (λ o. option_and_then object_if (last o)) (value_is 127 [])
other_at (Token.begin_object ∷ ts) h = absurd (cc)
other_at (Token.end_object ∷ ts) h = ap (λ o. option_and_then object_if (last o)) (value_is 127 (Token.end_object ∷ ts))
other_at (Token.begin_array ∷ ts) h = ap (λ o. option_and_then object_if (last o)) (value-begin_array 127 ts (omega arith)) ∙ array_told (items (value 126) (length ts) ts)
other_at (Token.end_array ∷ ts) h = ap (λ o. option_and_then object_if (last o)) (value_is 127 (Token.end_array ∷ ts))
other_at (Token.key s ∷ ts) h = ap (λ o. option_and_then object_if (last o)) (value_is 127 (Token.key s ∷ ts))
other_at (Token.string s ∷ ts) h = ap (λ o. option_and_then object_if (last o)) (value_is 127 (Token.string s ∷ ts)) ∙ string_told s ts
other_at (Token.number s ∷ ts) h = ap (λ o. option_and_then object_if (last o)) (value_is 127 (Token.number s ∷ ts)) ∙ number_told s ts
other_at (Token.boolean b ∷ ts) h = ap (λ o. option_and_then object_if (last o)) (value_is 127 (Token.boolean b ∷ ts)) ∙ boolean_told b ts
other_at (Token.null ∷ ts) h = ap (λ o. option_and_then object_if (last o)) (value_is 127 (Token.null ∷ ts)) ∙ null_told ts
other_at (Token.bad ∷ ts) h = ap (λ o. option_and_then object_if (last o)) (value_is 127 (Token.bad ∷ ts))

pub other_text : (text : List ℕ) → opens_object (tokens text) ≡ false → text_object text ≡ None
other_text text h = other_at (tokens text) h

-- ---- bytes

pub of_utf8 : (bytes : List ℕ) → IsUtf8 bytes → object_of bytes ≡ text_object bytes
of_utf8 bytes utf8 = rw (is_utf8-from_IsUtf8 bytes utf8) refl

not_at : (b : Bool) (bytes : List ℕ) → is_utf8 bytes ≡ b → (IsUtf8 bytes → ⊥) → object_of bytes ≡ None
not_at true bytes is h = absurd (h (IsUtf8-from_is_utf8 bytes is))
not_at false bytes is h = rw is refl

pub of_other : (bytes : List ℕ) → (IsUtf8 bytes → ⊥) → object_of bytes ≡ None
of_other bytes h = not_at (is_utf8 bytes) bytes refl h

pub short_one : (o : Option Data) (d : Data) → Some d ≡ option_map brief o → (d ≡ brief (unwrap_or o no_object)) × (Some (unwrap_or o no_object) ≡ o)
short_one None d e = absurd (cc)
short_one (Some x) d e = (cc, refl)

pub short_none : (o : Option Data) → None ≡ option_map brief o → None ≡ o
short_none None e = refl
short_none (Some x) e = absurd (cc)
