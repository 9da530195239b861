-- The requests that are drawn: to see a node or the front page's listing, by one of the eight users or by nobody, to give a
-- node a new title, and to rebuild the caches, by the site's first user.
use Rattle.std.specs.Prelude.{ℕ, zero, suc, List, [], ◌∷◌, ◌++◌, ◌+◌, ◌==◌, nat_lt, codes, length, if◌then◌else◌}
use Rattle.std.specs.List.{count_by}
use Rattle.std.specs.Fmt.{decimal}
use Rattle.drill_input.specs.Draws.{drawn, after}
use Rattle.drill_input.specs.SiteDrawn.{numbered}

-- the requests so far, one after the other; the nodes that they give a new title, in order; and the member that the last draw
-- used
pub record Asked : Type 0 where
  pub text : List ℕ
  pub edited : List ℕ
  pub seed : ℕ

-- who asks: a user from 2 to 9, by its session; 10 is nobody
abbrev pub cookie_line : ℕ → List ℕ
cookie_line viewer = if viewer == 10 then [] else codes "Cookie: SESS=s" ++ decimal viewer ++ codes "\r\n"

-- to see what a target shows, with this line of a cookie
abbrev pub get_with : List ℕ → List ℕ → List ℕ
get_with target cookie = codes "GET " ++ target ++ codes " HTTP/1.1\r\nHost: a\r\n" ++ cookie ++ codes "\r\n"

-- to see what a target shows
unfoldable pub get_text : List ℕ → ℕ → List ℕ
get_text target viewer = get_with target (cookie_line viewer)

-- what stands in an edit's head for the session `abc`: its cookie and the value that guards its forms
unfoldable pub session_lines : List ℕ
session_lines = codes "Host: a\r\nCookie: SESS=abc\r\nX-CSRF-Token: ba7816bf8f01cfea414140de5dae2223\r\n"

-- the new title of a node, and the version that it has
unfoldable pub title_body : ℕ → ℕ → List ℕ
title_body title version = codes "{\"title\":\"m" ++ decimal title ++ codes "\",\"vid\":" ++ decimal version ++ codes "}"

-- to edit a node so
unfoldable pub patch_text : ℕ → List ℕ → List ℕ
patch_text node body =
    codes "PATCH /node/" ++ decimal node ++ codes " HTTP/1.1\r\n" ++ session_lines
    ++ codes "Content-Type: application/json\r\nContent-Length: " ++ decimal (length body) ++ codes "\r\n\r\n" ++ body

-- to rebuild the caches
unfoldable pub rebuild_text : List ℕ
rebuild_text = codes "POST /cache/rebuild HTTP/1.1\r\n" ++ session_lines ++ codes "\r\n"

-- the version of a node: 1, and one more for each edit of it so far
abbrev pub version_of : List ℕ → ℕ → ℕ
version_of edited node = 1 + count_by (λ other. other == node) edited

-- one request more, by what it asks for
abbrev pub and_node_page : Asked → Asked
and_node_page so_far = record so_far {
  text = so_far.text ++ get_text (numbered (codes "/node/") (1 + drawn 200 (after 1 so_far.seed))) (2 + drawn 9 (after 2 so_far.seed));
  seed = after 2 so_far.seed;
}

abbrev pub and_listing_page : Asked → Asked
and_listing_page so_far = record so_far {
  text = so_far.text ++ get_text (numbered (codes "/node?page=") (drawn 21 (after 1 so_far.seed))) (2 + drawn 9 (after 2 so_far.seed));
  seed = after 2 so_far.seed;
}

abbrev pub and_edit : Asked → Asked
and_edit so_far = record {
  text = so_far.text ++ patch_text (1 + drawn 200 (after 1 so_far.seed)) (title_body (drawn 1000 (after 2 so_far.seed)) (version_of so_far.edited (1 + drawn 200 (after 1 so_far.seed))));
  edited = so_far.edited ++ (1 + drawn 200 (after 1 so_far.seed)) ∷ [];
  seed = after 2 so_far.seed;
}

abbrev pub and_rebuild : Asked → Asked
and_rebuild so_far = record so_far {
  text = so_far.text ++ (if drawn 4 (after 1 so_far.seed) == 0 then rebuild_text else get_text (codes "/node") 10);
  seed = after 1 so_far.seed;
}

-- by a number from 0 to 9: in seven cases of ten a node's page, in one a page of the listing, in one an edit of a node, and in
-- one, now and then, a rebuild
abbrev pub and_by : ℕ → Asked → Asked
and_by kind so_far =
    if nat_lt kind 7 then and_node_page so_far else
    (if kind == 7 then and_listing_page so_far else
    (if kind == 8 then and_edit so_far else and_rebuild so_far))

abbrev pub and_request : Asked → Asked
and_request so_far = and_by (drawn 10 (after 1 so_far.seed)) (record so_far { seed = after 1 so_far.seed })

-- so many requests
unfoldable pub asked : ℕ → ℕ → Asked
asked zero seed = record { text = []; edited = []; seed = seed }
asked (suc count) seed = and_request (asked count seed)
