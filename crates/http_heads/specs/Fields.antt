-- The fields of a request's head (RFC 9110, sections 5.1 and 5.6.1; RFC 9112, section 5).
use Rattle.std.specs.Prelude.{ℕ, List, Bool, ◌==◌, ◌&&◌, codes, map, find, Option}
use Rattle.std.specs.List.{list_any, slice_split}
use Rattle.std.specs.Option.{option_map}
use Rattle.std.specs.Str.{bytes_eq, str_eq_ignore_ascii_case}
use Rattle.httparse.specs.Grammar.{RequestHead, trim_ows}
use Rattle.httparse.specs.Spans.{name_and_value}

unfoldable pub content_length : List ℕ
content_length = codes "Content-Length"

unfoldable pub transfer_encoding : List ℕ
transfer_encoding = codes "Transfer-Encoding"

unfoldable pub connection : List ℕ
connection = codes "Connection"

unfoldable pub content_type : List ℕ
content_type = codes "Content-Type"

unfoldable pub csrf_token : List ℕ
csrf_token = codes "X-CSRF-Token"

unfoldable pub cookie : List ℕ
cookie = codes "Cookie"

unfoldable pub late : List ℕ
late = codes "X-Late"

unfoldable pub late_value : List ℕ
late_value = codes "1"

unfoldable pub close : List ℕ
close = codes "close"

-- the name of each field, and its value without the spaces and tabs round it
abbrev pub fields_of : RequestHead → List (List ℕ × List ℕ)
fields_of head = map name_and_value head.fields

-- names compare without ASCII case
abbrev pub is_named : List ℕ → List ℕ × List ℕ → Bool
is_named name field = str_eq_ignore_ascii_case field.0 name

-- a field of that name stands
abbrev pub stands : List ℕ → List (List ℕ × List ℕ) → Bool
stands name fields = list_any (is_named name) fields

-- the value of the first field of that name
abbrev pub first_value : List ℕ → List (List ℕ × List ℕ) → Option (List ℕ)
first_value name fields = option_map (λ field. field.1) (find (is_named name) fields)

-- the element is the option `close`, in any case, with spaces and tabs round it or none
abbrev pub is_close : List ℕ → Bool
is_close element = str_eq_ignore_ascii_case (trim_ows element) close

-- `close` is one of the elements between the commas of a value (RFC 9110, section 7.6.1)
abbrev pub lists_close : List ℕ → Bool
lists_close value = list_any is_close (slice_split (λ b. b == 44) value)

-- a Connection field that lists `close`
abbrev pub is_closing : List ℕ × List ℕ → Bool
is_closing field = is_named connection field && lists_close field.1

-- some Connection field lists `close`
abbrev pub asks_close : List (List ℕ × List ℕ) → Bool
asks_close fields = list_any is_closing fields

-- an X-Late field whose value is `1`
abbrev pub is_late : List ℕ × List ℕ → Bool
is_late field = is_named late field && bytes_eq field.1 late_value

-- the value of some X-Late field is `1`
abbrev pub asks_late : List (List ℕ × List ℕ) → Bool
asks_late fields = list_any is_late fields
