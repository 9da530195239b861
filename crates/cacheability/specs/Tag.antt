-- The texts of cache tags (Drupal's Cache API, "Cache tags").
use Rattle.std.specs.Prelude.{ℕ, List, [], ◌++◌, codes, Bool, true, false}
use Rattle.std.specs.Ordering.{nat_cmp}
use Rattle.std.specs.Cmp.Lexicographic.{slice_cmp}
use Rattle.std.specs.declared.cmp.Ordering.{Ordering}
use Rattle.cacheability.specs.declared.tag.Tag.{Tag}
use Rattle.cacheability.specs.declared.tag.Tag.TheVariants as tag
use Rattle.cacheability.specs.Decimal.{decimal}

-- the text of a tag
abbrev pub tag_text : Tag → List ℕ
tag_text tag.Site = codes "config:system.site"
tag_text (tag.NodeType t) = codes "config:node.type." ++ t
tag_text (tag.Role r) = codes "config:user.role." ++ r
tag_text (tag.User u) = codes "user:" ++ decimal u
tag_text (tag.Term t) = codes "taxonomy_term:" ++ decimal t
tag_text tag.TermList = codes "taxonomy_term_list"
tag_text (tag.Node n) = codes "node:" ++ decimal n
tag_text tag.NodeList = codes "node_list"
tag_text (tag.NodeListOf t) = codes "node_list:" ++ t
tag_text (tag.Comment c) = codes "comment:" ++ decimal c
tag_text (tag.CommentList n) = codes "comment_list:" ++ decimal n
tag_text (tag.Menu m) = codes "config:system.menu." ++ m
tag_text (tag.Listing l) = codes "config:views.view." ++ l
tag_text (tag.Block b) = codes "config:block.block." ++ b
tag_text tag.BlockList = codes "config:block_list"
tag_text tag.Rendered = codes "rendered"
tag_text tag.NotFound = codes "4xx-response"

-- where the kind of a tag stands among the kinds, by the order of texts
abbrev pub tag_rank : Tag → ℕ
tag_rank tag.NotFound = 0
tag_rank (tag.Comment c) = 1
tag_rank (tag.CommentList n) = 2
tag_rank (tag.Block b) = 3
tag_rank tag.BlockList = 4
tag_rank (tag.NodeType t) = 5
tag_rank (tag.Menu m) = 6
tag_rank tag.Site = 7
tag_rank (tag.Role r) = 8
tag_rank (tag.Listing l) = 9
tag_rank (tag.Node n) = 10
tag_rank tag.NodeList = 11
tag_rank (tag.NodeListOf t) = 12
tag_rank tag.Rendered = 13
tag_rank (tag.Term t) = 14
tag_rank tag.TermList = 15
tag_rank (tag.User u) = 16

-- the name in a tag, if there is one
abbrev pub tag_name : Tag → List ℕ
tag_name (tag.NodeType t) = t
tag_name (tag.Role r) = r
tag_name (tag.NodeListOf t) = t
tag_name (tag.Menu m) = m
tag_name (tag.Listing l) = l
tag_name (tag.Block b) = b
tag_name _ = []

-- the number in a tag, 0 where there is none
abbrev pub tag_number : Tag → ℕ
tag_number (tag.User u) = u
tag_number (tag.Term t) = t
tag_number (tag.Node n) = n
tag_number (tag.Comment c) = c
tag_number (tag.CommentList n) = n
tag_number _ = 0

-- whether a tag has a number in it
abbrev pub is_numbered : Tag → Bool
is_numbered (tag.User u) = true
is_numbered (tag.Term t) = true
is_numbered (tag.Node n) = true
is_numbered (tag.Comment c) = true
is_numbered (tag.CommentList n) = true
is_numbered _ = false

-- tags are ordered by their texts
abbrev pub tag_cmp : Tag → Tag → Ordering
tag_cmp a b = slice_cmp nat_cmp (tag_text a) (tag_text b)
