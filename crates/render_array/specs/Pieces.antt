-- The fixed pieces of templates.
use Rattle.std.specs.Prelude.{ℕ, List, codes}

unfoldable pub page_start : List ℕ
page_start = codes "<!DOCTYPE html><html lang=\"en\"><head><title>"

unfoldable pub title_between : List ℕ
title_between = codes " | "

unfoldable pub title_end : List ℕ
title_end = codes "</title>"

unfoldable pub header_start : List ℕ
header_start = codes "</head><body><header>"

unfoldable pub header_end : List ℕ
header_end = codes "</header><main><h1>"

unfoldable pub heading_end : List ℕ
heading_end = codes "</h1>"

unfoldable pub main_end : List ℕ
main_end = codes "</main><aside>"

unfoldable pub aside_end : List ℕ
aside_end = codes "</aside><footer>"

unfoldable pub page_end : List ℕ
page_end = codes "</footer></body></html>"

unfoldable pub meta_start : List ℕ
meta_start = codes "<meta name=\"library\" content=\""

unfoldable pub meta_end : List ℕ
meta_end = codes "\">"

unfoldable pub article_start : List ℕ
article_start = codes "<article>"

unfoldable pub article_end : List ℕ
article_end = codes "</article>"

unfoldable pub field_start : List ℕ
field_start = codes "<div class=\"field\">"

unfoldable pub field_between : List ℕ
field_between = codes ": "

unfoldable pub field_end : List ℕ
field_end = codes "</div>"

unfoldable pub denied_title : List ℕ
denied_title = codes "Access denied"

unfoldable pub denied_start : List ℕ
denied_start = codes "<p>You are not authorized to access this page.</p><p>"

unfoldable pub denied_end : List ℕ
denied_end = codes "</p>"

unfoldable pub not_found_title : List ℕ
not_found_title = codes "Page not found"

unfoldable pub not_found_content : List ℕ
not_found_content = codes "<p>The requested page could not be found.</p>"

unfoldable pub paragraph_start : List ℕ
paragraph_start = codes "<p>"

unfoldable pub paragraph_end : List ℕ
paragraph_end = codes "</p>"

unfoldable pub by_start : List ℕ
by_start = codes "<p>By "

unfoldable pub by_between : List ℕ
by_between = codes " on "

unfoldable pub anonymous_name : List ℕ
anonymous_name = codes "Anonymous"

unfoldable pub user_link_start : List ℕ
user_link_start = codes "<a href=\"/user/"

unfoldable pub link_start : List ℕ
link_start = codes "<a href=\""

unfoldable pub link_between : List ℕ
link_between = codes "\">"

unfoldable pub link_end : List ℕ
link_end = codes "</a>"

unfoldable pub terms_start : List ℕ
terms_start = codes "<ul class=\"terms\">"

unfoldable pub term_start : List ℕ
term_start = codes "<li><a href=\"/taxonomy/term/"

unfoldable pub term_end : List ℕ
term_end = codes "</a></li>"

unfoldable pub terms_end : List ℕ
terms_end = codes "</ul>"

unfoldable pub teaser_start : List ℕ
teaser_start = codes "<article><h2><a href=\""

unfoldable pub teaser_end : List ℕ
teaser_end = codes "</a></h2>"

unfoldable pub node_path : List ℕ
node_path = codes "/node/"

unfoldable pub view_start : List ℕ
view_start = codes "<div class=\"view\">"

unfoldable pub view_end : List ℕ
view_end = codes "</div>"

unfoldable pub no_content : List ℕ
no_content = codes "<p>No content.</p>"

unfoldable pub pager_start : List ℕ
pager_start = codes "<nav class=\"pager\">"

unfoldable pub pager_end : List ℕ
pager_end = codes "</nav>"

unfoldable pub page_link_start : List ℕ
page_link_start = codes "<a href=\"?page="

unfoldable pub previous_end : List ℕ
previous_end = codes "\">Previous</a>"

unfoldable pub next_end : List ℕ
next_end = codes "\">Next</a>"

unfoldable pub menu_start : List ℕ
menu_start = codes "<nav><ul>"

unfoldable pub menu_end : List ℕ
menu_end = codes "</ul></nav>"

unfoldable pub item_start : List ℕ
item_start = codes "<li>"

unfoldable pub active_item_start : List ℕ
active_item_start = codes "<li class=\"active\">"

unfoldable pub item_end : List ℕ
item_end = codes "</li>"

unfoldable pub submenu_start : List ℕ
submenu_start = codes "<ul>"

unfoldable pub submenu_end : List ℕ
submenu_end = codes "</ul></li>"

unfoldable pub block_start : List ℕ
block_start = codes "<section class=\"block\">"

unfoldable pub block_end : List ℕ
block_end = codes "</section>"

unfoldable pub label_start : List ℕ
label_start = codes "<h2>"

unfoldable pub label_end : List ℕ
label_end = codes "</h2>"

unfoldable pub hello_start : List ℕ
hello_start = codes "<p>Hello, "

unfoldable pub login_link : List ℕ
login_link = codes "<p><a href=\"/user/login\">Log in</a></p>"

unfoldable pub csrf_start : List ℕ
csrf_start = codes "<p class=\"csrf\">"

unfoldable pub time_start : List ℕ
time_start = codes "<time>"

unfoldable pub time_end : List ℕ
time_end = codes "</time>"

unfoldable pub login_title : List ℕ
login_title = codes "Log in"

unfoldable pub login_form : List ℕ
login_form = codes "<form method=\"post\" action=\"/user/login\"><input name=\"name\"><input name=\"pass\" type=\"password\"><button>Log in</button></form>"

unfoldable pub member_start : List ℕ
member_start = codes "<p>Member since "

unfoldable pub comments_start : List ℕ
comments_start = codes "<section class=\"comments\">"

unfoldable pub comments_end : List ℕ
comments_end = codes "</section>"

unfoldable pub comment_start : List ℕ
comment_start = codes "<article class=\"comment\">"
