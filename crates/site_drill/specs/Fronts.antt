-- What a reply is, by how it begins.
use Rattle.std.specs.Prelude.{ℕ, List, Bool, nat_eq, codes}
use Rattle.std.specs.List.{starts_with}

-- how a reply begins that shows a page, and how one begins that says that memory was wanting
unfoldable pub page_front : List ℕ
page_front = codes "HTTP/1.1 200 OK\r\nContent-Type: text/html"

unfoldable pub wanting_front : List ℕ
wanting_front = codes "HTTP/1.1 507 "

-- whether a reply shows a page, and whether it says that memory was wanting
abbrev pub shows_page : List ℕ → Bool
shows_page text = starts_with nat_eq text page_front

abbrev pub is_wanting : List ℕ → Bool
is_wanting text = starts_with nat_eq text wanting_front
