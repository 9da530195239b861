-- The tables of keys, with their names as texts.
use Rattle.std.specs.Prelude.{ℕ, List, map, drop}
use Rattle.json_keys.specs.declared.shape.Ask.{Ask}
use Rattle.row_kinds.specs.declared.tables.TheConstants.{SITE, SEQ, TYPE, ROLE, USER, TERM, NODE, MENU, LISTING, BLOCK, SESSION, COMMENT, TALK}

abbrev pub site_row : List (List ℕ × Ask)
site_row = map (λ k. (k.0.now, k.1)) SITE

abbrev pub seq_row : List (List ℕ × Ask)
seq_row = map (λ k. (k.0.now, k.1)) SEQ

abbrev pub type_row : List (List ℕ × Ask)
type_row = map (λ k. (k.0.now, k.1)) TYPE

abbrev pub role_row : List (List ℕ × Ask)
role_row = map (λ k. (k.0.now, k.1)) ROLE

abbrev pub user_row : List (List ℕ × Ask)
user_row = map (λ k. (k.0.now, k.1)) USER

abbrev pub term_row : List (List ℕ × Ask)
term_row = map (λ k. (k.0.now, k.1)) TERM

abbrev pub node_row : List (List ℕ × Ask)
node_row = map (λ k. (k.0.now, k.1)) NODE

abbrev pub menu_row : List (List ℕ × Ask)
menu_row = map (λ k. (k.0.now, k.1)) MENU

abbrev pub listing_row : List (List ℕ × Ask)
listing_row = map (λ k. (k.0.now, k.1)) LISTING

abbrev pub block_row : List (List ℕ × Ask)
block_row = map (λ k. (k.0.now, k.1)) BLOCK

abbrev pub session_row : List (List ℕ × Ask)
session_row = map (λ k. (k.0.now, k.1)) SESSION

abbrev pub comment_row : List (List ℕ × Ask)
comment_row = map (λ k. (k.0.now, k.1)) COMMENT

abbrev pub talk_row : List (List ℕ × Ask)
talk_row = map (λ k. (k.0.now, k.1)) TALK

-- ---- the same without the cell

abbrev pub site_keys : List (List ℕ × Ask)
site_keys = drop 1 site_row

abbrev pub seq_keys : List (List ℕ × Ask)
seq_keys = drop 1 seq_row

abbrev pub type_keys : List (List ℕ × Ask)
type_keys = drop 1 type_row

abbrev pub role_keys : List (List ℕ × Ask)
role_keys = drop 1 role_row

abbrev pub user_keys : List (List ℕ × Ask)
user_keys = drop 1 user_row

abbrev pub node_keys : List (List ℕ × Ask)
node_keys = drop 1 node_row

abbrev pub menu_keys : List (List ℕ × Ask)
menu_keys = drop 1 menu_row

abbrev pub listing_keys : List (List ℕ × Ask)
listing_keys = drop 1 listing_row

abbrev pub block_keys : List (List ℕ × Ask)
block_keys = drop 1 block_row

abbrev pub session_keys : List (List ℕ × Ask)
session_keys = drop 1 session_row

abbrev pub comment_keys : List (List ℕ × Ask)
comment_keys = drop 1 comment_row

abbrev pub talk_keys : List (List ℕ × Ask)
talk_keys = drop 1 talk_row
