-- Ten rows a page, and which page a query asks for.
-- https://www.drupal.org/docs/user_guide/en/views-concept.html
use Rattle.std.specs.Prelude.{ℕ, List, Bool, ◌+◌, ◌-◌, ◌*◌, ◌/◌, ◌==◌, ◌&&◌, nat_le, min, length, Option, Some, None, codes, if◌then◌else◌}
use Rattle.std.specs.List.{list_all}
use Rattle.std.specs.Map.{lookup}
use Rattle.std.specs.Str.{bytes_eq}
use Rattle.std.specs.Str.Parse.{digits_value}
use Rattle.form_urlencoded.specs.Form.{parse as form_pairs}
use Rattle.site_lists.specs.declared.paging.Page.{Page}

-- the first value of a name in a query, if there is one
abbrev pub value_in : List ℕ → List ℕ → Option (List ℕ)
value_in query name = lookup (bytes_eq name) (form_pairs query)

abbrev pub is_digit : ℕ → Bool
is_digit b = nat_le 48 b && nat_le b 57

-- one to nine digits
abbrev pub is_page_text : List ℕ → Bool
is_page_text text = nat_le 1 (length text) && nat_le (length text) 9 && list_all is_digit text

-- the page that a value asks for; anything but one to nine digits asks for the first
abbrev pub page_asked : Option (List ℕ) → ℕ
page_asked None = 0
page_asked (Some text) = if is_page_text text then digits_value 10 text else 0

-- the number of the last page, counted from 0; no rows fill one page
abbrev pub last_page : ℕ → ℕ
last_page len = (len - 1) / 10

-- a page of rows; one past the last is the last
abbrev pub page_at : ℕ → ℕ → Page
page_at len asked =
    let number = min asked (last_page len) in
    record {
      number = number;
      start = 10 * number;
      end = min (10 * number + 10) len;
      is_first = number == 0;
      is_last = number == last_page len;
    }

unfoldable pub page_name : List ℕ
page_name = codes "page"

-- the page of so many rows that a query asks for
abbrev pub page_of : ℕ → List ℕ → Page
page_of len query = page_at len (page_asked (value_in query page_name))
