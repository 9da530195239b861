-- A path that names something by its form is found by that form.
use Rattle.std.proofs.Common.{ℕ, List, [], ◌∷◌, ◌++◌, ◌≡◌, ◌≢◌, true, false, refl, sym, subst, ap, ◌∙◌, arith, codes, length, drop}
use Rattle.std.specs.Prelude.{Bool, Option, Some, None, ◌&&◌, ◌==◌, nat_eq, nat_lt, option_map, if◌then◌else◌}
use Rattle.std.specs.List.{list_all, starts_with}
use Rattle.std.specs.Str.{IsUtf8, IsAscii, bytes_eq}
use Rattle.std.specs.Str.Parse.{AllDigits, IsNumeral}
use Rattle.std.proofs.lemmas.Fmt.{decimal_is_IsNumeral, IsAscii-from_digits}
use Rattle.std.proofs.lemmas.Str.{IsUtf8-append, IsUtf8-from_ascii}
use Rattle.std.proofs.lemmas.Str.Ascii.{IsAscii-nil, IsAscii-cons}
use Rattle.std.proofs.lemmas.Bool.{and_parts, ltb-true}
use Rattle.std.proofs.lemmas.Str.Parse.{digit_from_value}
use Rattle.std.proofs.lemmas.Slice.Eq.{bytes_eq-Decides, starts_is}
use Rattle.std.proofs.lemmas.Bool.Decides.{Decides-eqb}
use Rattle.matchit.specs.Rows.{param_token}
use Rattle.matchit.specs.Router.{RouteOf}
use Rattle.matchit.specs.Seek.{first, has_slash, step}
use Rattle.matchit.proofs.OnLiterals.{matchit_on_literals}
use Rattle.content_rows.proofs.Ids.{IsIdText, id_told}
use Rattle.content_rows.specs.IdText.{id_of}
use Rattle.content_state.specs.declared.forms.Form.{Form}
use Rattle.content_state.specs.declared.forms.Form.TheVariants as form
use Rattle.content_state.specs.declared.forms.Named.{Named}
use Rattle.content_state.specs.declared.forms.Named.TheVariants as named
use Rattle.content_state.specs.Entities.{id_after, is_json, entity_in, entity_tags}
use Rattle.content_state.specs.Forms.{form_rows, form_found, IsFormOf, named_in, named_as, named_by, page_named_by, led_by, named_tags, tags_by}
use Rattle.cacheability.specs.declared.tag.Tag.{Tag}
use Rattle.cacheability.specs.declared.tag.Tag.TheVariants as tag
use Rattle.content_rows.specs.declared.cell.Cell.{Cell}
use Rattle.content_rows.specs.declared.row.Row.{Row}
use Rattle.content_state.specs.declared.route.Route.{Route}
use Rattle.content_state.specs.declared.route.Route.TheVariants as route
use Rattle.content_state.specs.Route.{found_route, led_to, numbered_tags, route_tags, tag_of_id, json_route, front_path, fronts_json, meant, root_path, route_of, login_path, node_front, term_front, user_front}
use Rattle.content_state.proofs.Literal.{OnlyAt, seek_only}
use Rattle.content_state.proofs.Matched.{steps, is_literal, param_found}

neq_false : (a b : ℕ) → a ≢ b → (a == b) ≡ false
neq_false a b h = grind arith

no_slash : (text : List ℕ) → AllDigits 10 text → has_slash text ≡ false
no_slash [] h = refl
no_slash (b ∷ text) h =
    let digit = digit_from_value b h.0 in
    rw (neq_false b 47 (λ e. absurd (omega arith))) (no_slash text h.1)

-- a digit is neither a parameter nor the `l` of `login`
not_param : (b : ℕ) (text : List ℕ) → AllDigits 10 (b ∷ text) → (256 == b) ≡ false
not_param b text h = let digit = digit_from_value b h.0 in neq_false 256 b (λ e. absurd (omega arith))

not_login : (b : ℕ) (text : List ℕ) → AllDigits 10 (b ∷ text) → (108 == b) ≡ false
not_login b text h = let digit = digit_from_value b h.0 in neq_false 108 b (λ e. absurd (omega arith))

found : (front : List ℕ) (key : RouteOf Form) (b : ℕ) (text : List ℕ)
    → is_literal front form_rows ≡ true → step b (steps front form_rows) ≡ [] → step param_token (steps front form_rows) ≡ ([], key) ∷ [] → AllDigits 10 (b ∷ text)
    → form_found (front ++ b ∷ text) ≡ Some key.value
found front key b text literal other own_row digits =
    ap (option_map (λ route. route.value)) (param_found front form_rows key b text literal other own_row (no_slash (b ∷ text) digits))

node_found : (b : ℕ) (text : List ℕ) → AllDigits 10 (b ∷ text) → form_found (node_front ++ b ∷ text) ≡ Some form.Node
unfolding matchit_on_literals form_rows node_front
node_found b text h = found (codes "/node/") _ b text refl (rw (not_param b text h) refl) refl h

term_found : (b : ℕ) (text : List ℕ) → AllDigits 10 (b ∷ text) → form_found (term_front ++ b ∷ text) ≡ Some form.Term
unfolding matchit_on_literals form_rows term_front
term_found b text h = found (codes "/taxonomy/term/") _ b text refl (rw (not_param b text h) refl) refl h

user_found : (b : ℕ) (text : List ℕ) → AllDigits 10 (b ∷ text) → form_found (user_front ++ b ∷ text) ≡ Some form.User
unfolding matchit_on_literals form_rows user_front
user_found b text h = found (codes "/user/") _ b text refl (rw (not_login b text h, not_param b text h) refl) refl h

pub login_found : form_found login_path ≡ Some form.Login
unfolding matchit_on_literals form_rows login_path
login_found = refl

abbrev IsLogin : RouteOf Form → Type 0
IsLogin row = row.value ≡ form.Login

only_at_login : OnlyAt IsLogin login_path form_rows
unfolding matchit_on_literals form_rows login_path
only_at_login = (λ h. absurd cc, (λ h. absurd cc, (λ h. refl, (λ h. absurd cc, tt))))

login_bytes : list_all (λ b. nat_lt b 256) login_path ≡ true
unfolding login_path
login_bytes = refl

login_of : (path : List ℕ) (found : Option (RouteOf Form)) → first form_rows path ≡ found → option_map (λ (row : RouteOf Form). row.value) found ≡ Some form.Login → path ≡ login_path
login_of path None is h = absurd cc
login_of path (Some row) is h = seek_only IsLogin login_path form_rows path row login_bytes only_at_login is cc

-- the router finds the login form for its own path alone
pub login_only : (path : List ℕ) → form_found path ≡ Some form.Login → path ≡ login_path
login_only path h = login_of path (first form_rows path) refl h

-- ---- a path with a number after a front

record IsNumbered (front path : List ℕ) : Type 0 where
  pub first : ℕ
  pub rest : List ℕ
  pub digits : AllDigits 10 (first ∷ rest)
  pub path_is : path ≡ front ++ first ∷ rest

-- a text that starts with a front is the front and what follows
goes_on : (front path : List ℕ) → starts_with nat_eq path front ≡ true → path ≡ front ++ drop (length front) path
goes_on front path h = (starts_is Decides-eqb path front true (sym h)).0 refl

digits_of_id : (text : List ℕ) (n : ℕ) → IsIdText text n → IsNumeral 10 text
digits_of_id text n is = subst (λ (t : List ℕ). IsNumeral 10 t) (sym is.text_is) (decimal_is_IsNumeral n (omega arith)).0

numbered_by : (front path text : List ℕ) → path ≡ front ++ text → IsNumeral 10 text → IsNumbered front path
numbered_by front path [] h is = absurd (omega arith)
numbered_by front path (b ∷ text) h is = record { first = b; rest = text; digits = is.1; path_is = h }

numbered_at : (front path : List ℕ) (n : ℕ) (here : Bool) → starts_with nat_eq path front ≡ here
    → (if here then id_of (drop (length front) path) else None) ≡ Some n → IsNumbered front path
numbered_at front path n true is h =
    numbered_by front path (drop (length front) path) (goes_on front path is) (digits_of_id _ n (id_told (drop (length front) path) n h))
numbered_at front path n false is h = absurd cc

numbered : (front path : List ℕ) (n : ℕ) → id_after front path ≡ Some n → IsNumbered front path
numbered front path n h = numbered_at front path n (starts_with nat_eq path front) refl h

numbered_utf8 : (front path : List ℕ) → IsUtf8 front → IsNumbered front path → IsUtf8 path
numbered_utf8 front path text is =
    subst IsUtf8 (sym is.path_is) (IsUtf8-append front (is.first ∷ is.rest) text (IsUtf8-from_ascii (is.first ∷ is.rest) (IsAscii-from_digits (is.first ∷ is.rest) is.digits)))

-- ---- what is found

ascii_bytes : (text : List ℕ) → list_all (λ b. nat_lt b 128) text ≡ true → IsAscii text
ascii_bytes [] h = IsAscii-nil
ascii_bytes (b ∷ text) h =
    let both = and_parts (nat_lt b 128) (list_all (λ b. nat_lt b 128) text) h in
    IsAscii-cons b text (ltb-true b 128 both.0) (ascii_bytes text both.1)

ascii_text : (text : List ℕ) → list_all (λ b. nat_lt b 128) text ≡ true → IsUtf8 text
ascii_text text h = IsUtf8-from_ascii text (ascii_bytes text h)

node_text : IsUtf8 node_front
unfolding node_front
node_text = ascii_text (codes "/node/") refl

term_text : IsUtf8 term_front
unfolding term_front
term_text = ascii_text (codes "/taxonomy/term/") refl

user_text : IsUtf8 user_front
unfolding user_front
user_text = ascii_text (codes "/user/") refl

login_text : IsUtf8 login_path
unfolding login_path
login_text = ascii_text (codes "/user/login") refl

-- a path that is no text has no form
pub no_text : (path : List ℕ) → (IsUtf8 path → ⊥) → IsFormOf path None
no_text path wrong = record {
  node = λ n h. absurd (wrong (numbered_utf8 node_front path node_text (numbered node_front path n h)));
  term = λ t h. absurd (wrong (numbered_utf8 term_front path term_text (numbered term_front path t h)));
  user = λ u h. absurd (wrong (numbered_utf8 user_front path user_text (numbered user_front path u h)));
  login = λ h. absurd (wrong (subst IsUtf8 (sym h) login_text));
  login_alone = λ h. absurd cc;
}

-- the router finds the form
found_as : (front path : List ℕ) (form : Form) → ((b : ℕ) (text : List ℕ) → AllDigits 10 (b ∷ text) → form_found (front ++ b ∷ text) ≡ Some form)
    → IsNumbered front path → form_found path ≡ Some form
found_as front path form finds is = subst (λ (p : List ℕ). form_found p ≡ Some form) (sym is.path_is) (finds is.first is.rest is.digits)

pub is_found : (path : List ℕ) → IsFormOf path (form_found path)
is_found path = record {
  node = λ n h. found_as node_front path form.Node node_found (numbered node_front path n h);
  term = λ t h. found_as term_front path form.Term term_found (numbered term_front path t h);
  user = λ u h. found_as user_front path form.User user_found (numbered user_front path u h);
  login = λ h. subst (λ (p : List ℕ). form_found p ≡ Some form.Login) (sym h) login_found;
  login_alone = login_only path;
}

-- ---- what is read by a form

-- what is read by a form, of the numbers of a path
abbrev read_in : Option Form → Option ℕ → Option ℕ → Option ℕ → Option Named
read_in None n t u = None
read_in (Some form.Node) n t u = option_map named.Node n
read_in (Some form.Term) n t u = option_map named.Term t
read_in (Some form.User) n t u = option_map named.User u
read_in (Some form.Login) n t u = Some named.Login

none_named : (found : Option Form) → (found ≡ Some form.Login → ⊥) → read_in found None None None ≡ None
none_named None other = refl
none_named (Some form.Node) other = refl
none_named (Some form.Term) other = refl
none_named (Some form.User) other = refl
none_named (Some form.Login) other = absurd (other refl)

read_is : (found : Option Form) (login : Bool) (n t u : Option ℕ)
    → (login ≡ true → found ≡ Some form.Login)
    → (found ≡ Some form.Login → login ≡ true)
    → ((x : ℕ) → n ≡ Some x → found ≡ Some form.Node)
    → ((x : ℕ) → t ≡ Some x → found ≡ Some form.Term)
    → ((x : ℕ) → u ≡ Some x → found ≡ Some form.User)
    → read_in found n t u ≡ (if login then Some named.Login else named_in n t u)
read_is found true n t u l m a b d = subst (λ (f : Option Form). read_in f n t u ≡ Some named.Login) (sym (l refl)) refl
read_is found false (Some x) t u l m a b d = subst (λ (f : Option Form). read_in f (Some x) t u ≡ Some (named.Node x)) (sym (a x refl)) refl
read_is found false None (Some x) u l m a b d = subst (λ (f : Option Form). read_in f None (Some x) u ≡ Some (named.Term x)) (sym (b x refl)) refl
read_is found false None None (Some x) l m a b d = subst (λ (f : Option Form). read_in f None None (Some x) ≡ Some (named.User x)) (sym (d x refl)) refl
read_is found false None None None l m a b d = none_named found (λ h. let on = m h in absurd cc)

same_reading : (found : Option Form) (path : List ℕ)
    → named_as found path ≡ read_in found (id_after node_front path) (id_after term_front path) (id_after user_front path)
same_reading None path = refl
same_reading (Some form.Node) path = refl
same_reading (Some form.Term) path = refl
same_reading (Some form.User) path = refl
same_reading (Some form.Login) path = refl

pub named_as_found : (path : List ℕ) (found : Option Form) → IsFormOf path found → named_as found path ≡ page_named_by path
named_as_found path found is =
    let read = read_is found (bytes_eq path login_path) (id_after node_front path) (id_after term_front path) (id_after user_front path)
    (λ h. is.login ((bytes_eq-Decides path login_path).0 h)) (λ h. (bytes_eq-Decides path login_path).1 (is.login_alone h)) is.node is.term is.user in
    same_reading found path ∙ read

-- ---- where a path leads that names this

led_in : (rows : List (Cell × Row)) (path : List ℕ) (login : Bool) (n t u : Option ℕ)
    → led_by rows path (if login then Some named.Login else named_in n t u) ≡ (if login then route.Login else found_route rows path n t u)
led_in rows path true n t u = refl
led_in rows path false (Some n) t u = refl
led_in rows path false None (Some t) u = refl
led_in rows path false None None (Some u) = refl
led_in rows path false None None None = refl

either_led : (rows : List (Cell × Row)) (path : List ℕ) (json : Bool) (page : Option Named) (to : Route)
    → led_by rows path page ≡ to
    → led_by rows path (if json then Some (named.Json (entity_in path)) else page) ≡ (if json then json_route rows (entity_in path) else to)
either_led rows path true page to led = refl
either_led rows path false page to led = led

pub led_as_named : (rows : List (Cell × Row)) (path : List ℕ) → led_by rows path (named_by path) ≡ led_to rows path
led_as_named rows path =
    either_led rows path (is_json path) (page_named_by path) _
    (led_in rows path (bytes_eq path login_path) (id_after node_front path) (id_after term_front path) (id_after user_front path))

-- a path names one row at most
tags_in : (found : Option Form) (login : Bool) (n t u : Option ℕ)
    → (login ≡ true → found ≡ Some form.Login)
    → ((x : ℕ) → n ≡ Some x → found ≡ Some form.Node)
    → ((x : ℕ) → t ≡ Some x → found ≡ Some form.Term)
    → ((x : ℕ) → u ≡ Some x → found ≡ Some form.User)
    → named_tags (if login then Some named.Login else named_in n t u) ≡ tag_of_id tag.Node n ++ tag_of_id tag.Term t ++ tag_of_id tag.User u
tags_in found true (Some x) t u l a b d = let p = l refl in let q = a x refl in absurd cc
tags_in found true None (Some x) u l a b d = let p = l refl in let q = b x refl in absurd cc
tags_in found true None None (Some x) l a b d = let p = l refl in let q = d x refl in absurd cc
tags_in found true None None None l a b d = refl
tags_in found false (Some x) (Some y) u l a b d = let p = a x refl in let q = b y refl in absurd cc
tags_in found false (Some x) None (Some y) l a b d = let p = a x refl in let q = d y refl in absurd cc
tags_in found false (Some x) None None l a b d = refl
tags_in found false None (Some x) (Some y) l a b d = let p = b x refl in let q = d y refl in absurd cc
tags_in found false None (Some x) None l a b d = refl
tags_in found false None None (Some x) l a b d = refl
tags_in found false None None None l a b d = refl

either_tags : (path : List ℕ) (json : Bool) (page : Option Named) (tags : List Tag) → named_tags page ≡ tags
    → named_tags (if json then Some (named.Json (entity_in path)) else page) ≡ (if json then entity_tags (entity_in path) else tags)
either_tags path true page tags is = refl
either_tags path false page tags is = is

numbered_as_named : (path : List ℕ) → named_tags (named_by path) ≡ numbered_tags path
numbered_as_named path =
    let is = is_found path in
    either_tags path (is_json path) (page_named_by path) _
    (tags_in (form_found path) (bytes_eq path login_path) (id_after node_front path) (id_after term_front path) (id_after user_front path)
    (λ h. is.login ((bytes_eq-Decides path login_path).0 h)) is.node is.term is.user)

pub tags_as_named : (to : Route) (path : List ℕ) → tags_by to (named_by path) ≡ route_tags to path
tags_as_named (route.Node n) path = refl
tags_as_named (route.Term t) path = refl
tags_as_named (route.User u) path = refl
tags_as_named (route.Listing name) path = refl
tags_as_named (route.Json it) path = refl
tags_as_named route.Login path = refl
tags_as_named route.Nothing path = ap (λ tags. tag.NotFound ∷ tags) (numbered_as_named path)

-- ---- where a path leads, by the path that it stands for

json_front_meant : (rows : List (Cell × Row)) (path : List ℕ) (is_root : Bool)
    → (is_root && is_json (if is_root then front_path rows else path)) ≡ (is_root && is_json (front_path rows))
json_front_meant rows path true = refl
json_front_meant rows path false = refl

pub routed : (rows : List (Cell × Row)) (path : List ℕ)
    → (if bytes_eq path root_path && is_json (meant rows path) then route.Nothing else led_by rows (meant rows path) (named_by (meant rows path))) ≡ route_of rows path
unfolding route_of
routed rows path =
    ap (λ b. if b then route.Nothing else led_by rows (meant rows path) (named_by (meant rows path))) (json_front_meant rows path (bytes_eq path root_path))
    ∙ ap (λ to. if fronts_json rows path then route.Nothing else to) (led_as_named rows (meant rows path))
