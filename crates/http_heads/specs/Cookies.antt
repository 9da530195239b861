-- The session's cookie (RFC 6265, sections 4.2.1 and 5.4).
use Rattle.std.specs.Prelude.{ℕ, List, [], ◌∷◌, Bool, ◌≡◌, ◌==◌, codes, find, drop, if◌then◌else◌, Option, Some, None, nat_eq}
use Rattle.std.specs.List.{slice_split, starts_with}
use Rattle.std.specs.Option.{option_map, option_or}
use Rattle.httparse.specs.Grammar.{trim_ows}
use Rattle.cacheability.specs.Name.{IsName}
use Rattle.http_heads.specs.Fields.{cookie, is_named}

-- the name of the session's cookie, and the sign after it
unfoldable pub session_mark : List ℕ
session_mark = codes "SESS="

-- the pair's name is `SESS`, once the spaces and tabs round the pair are dropped
abbrev pub is_session_pair : List ℕ → Bool
is_session_pair pair = starts_with nat_eq (trim_ows pair) session_mark

-- the first such pair of those between the semicolons of a value
abbrev pub session_pair : List ℕ → Option (List ℕ)
session_pair value = find is_session_pair (slice_split (λ b. b == 59) value)

-- the token of a session pair, which follows the sign
abbrev pub pair_token : List ℕ → List ℕ
pair_token pair = drop 5 (trim_ows pair)

-- the token of the first session pair of a value
abbrev pub token_in : List ℕ → Option (List ℕ)
token_in value = option_map pair_token (session_pair value)

-- the token of a Cookie field
abbrev pub field_token : List ℕ × List ℕ → Option (List ℕ)
field_token field = if is_named cookie field then token_in field.1 else None

-- the first token over all Cookie fields, in order
abbrev pub token_of : List (List ℕ × List ℕ) → Option (List ℕ)
token_of [] = None
token_of (field ∷ fields) = option_or (field_token field) (token_of fields)

-- the session that a token names: a token that is no name counts as none
abbrev pub NamesSession : Option (List ℕ) → Option (List ℕ) → Type 0
NamesSession None session = session ≡ None
NamesSession (Some token) None = ¬ (IsName token)
NamesSession (Some token) (Some name) = IsName token × (name ≡ token)
