-- A canonical target has no `%` and no `?`: it is the path that it asks for.
use Rattle.std.proofs.Common.{ℕ, List, [], ◌∷◌, ◌++◌, ◌≡◌, ◌≢◌, ◌≤◌, ◌<◌, ◌^◌, refl, sym, ◌∙◌, ap, subst, arith, ne_eqb, Bool, true, false, not, ◌&&◌, ◌||◌, ◌==◌, length, get_or, Option, Some, None, All, decimal, IsTrue}
use Rattle.std.specs.Prelude.{position, cond, nat_le, nat_lt, codes}
use Rattle.std.specs.Int.{IsInRange}
use Rattle.std.specs.List.{filter_map, cons_option, list_all, slice_split}
use Rattle.std.specs.Str.{bytes_eq}
use Rattle.std.proofs.lemmas.Bool.{false≢true, eqb-true, eqb-false, false_from_ne_true}
use Rattle.std.proofs.lemmas.Bool.Decides.{nat_tests}
use Rattle.std.proofs.lemmas.Fmt.{decimal_is_IsNumeral}
use Rattle.std.proofs.lemmas.Str.Parse.{digit_at}
use Rattle.std.proofs.lemmas.Slice.Eq.{bytes_eq-Decides}
use Rattle.std.proofs.lemmas.List.Elements.{All-nil, All-cons, All-head, All-tail, All-append, All-from_get_or}
use Rattle.std.proofs.lemmas.List.Folds.{list_all-append}
use Rattle.std.proofs.lemmas.List.Sums.{AllPass-from_list_all, list_all-from_AllPass, position_or_len_is}
use Rattle.percent_encoding.specs.Percent.{percent_decode}
use Rattle.percent_encoding.proofs.PercentLemmas.{percent_decode-nil, percent_decode_not_percent}
use Rattle.content_rows.specs.Kinds.{is_slash, is_something, is_target_byte, is_target, is_reserved, is_path, is_listing_path, none_or}
use Rattle.content_rows.specs.ValidRow.{IsValidRow}
use Rattle.content_rows.specs.declared.cell.Cell.{Cell}
use Rattle.content_rows.specs.declared.cell.Cell.TheVariants as cell
use Rattle.content_rows.specs.declared.row.Row.{Row}
use Rattle.content_rows.specs.declared.row.Row.TheVariants as row
use Rattle.indexed_rows.specs.Rows.{AreValidRows}
use Rattle.content_state.specs.Ask.{is_question, cut_before, path_of}
use Rattle.content_state.specs.Route.{root_path, node_front, term_front, user_front, login_path}
use Rattle.site_targets.specs.Canonical.{user_target, term_target, path_or_number, node_target, listing_target, canonical}

-- neither `%` nor `?`
abbrev is_plain_byte : ℕ → Bool
is_plain_byte b = not (b == 37) && not (b == 63)

abbrev is_plain : List ℕ → Bool
is_plain t = list_all is_plain_byte t

-- ---- a plain text is its own path

plain_parts : (b : Bool) (c : Bool) → (not b && not c) ≡ true → (b ≡ false) × (c ≡ false)
plain_parts false false plain = (refl, refl)
plain_parts false true plain = absurd (false≢true plain)
plain_parts true c plain = absurd (false≢true plain)

not_percent : (b : ℕ) → is_plain_byte b ≡ true → b ≢ 37
not_percent b plain = eqb-false b 37 (plain_parts (b == 37) (b == 63) plain).0

both : (a b : Bool) → (a && b) ≡ true → (a ≡ true) × (b ≡ true)
both true b is = (refl, is)
both false b is = absurd (false≢true is)

decoded : (t : List ℕ) → is_plain t ≡ true → percent_decode t ≡ t
decoded [] plain = percent_decode-nil
decoded (b ∷ t) plain =
    let parts = both (is_plain_byte b) (is_plain t) plain in
    percent_decode_not_percent b t (not_percent b parts.0) ∙ ap (λ l. b ∷ l) (decoded t parts.1)

not_below : (n : ℕ) → nat_lt n n ≡ false
not_below n = grind (arith, nat_tests)

no_question : (t : List ℕ) → is_plain t ≡ true → position is_question t ≡ None
no_question t plain =
    ap (λ i. cond (nat_lt i (length t)) (Some i) None)
    (position_or_len_is is_question t (length t) 0 (omega arith) (λ k within. (plain_parts (get_or t k 0 == 37) (get_or t k 0 == 63) (AllPass-from_list_all is_plain_byte t plain k 0 within)).1) (λ past. absurd (omega arith)))
    ∙ ap (λ b. cond b (Some (length t)) None) (not_below (length t))

pub own_path : (t : List ℕ) → is_plain t ≡ true → path_of t ≡ t
own_path t plain = ap (λ at. percent_decode (cut_before t at)) (no_question t plain) ∙ decoded t plain

-- ---- numbers and paths are plain

weaker : (p q : ℕ → Bool) → ((b : ℕ) → p b ≡ true → q b ≡ true) → (t : List ℕ) → list_all p t ≡ true → list_all q t ≡ true
weaker p q give [] all = refl
weaker p q give (b ∷ t) all =
    let parts = both (p b) (list_all p t) all in ap (λ c. c && list_all q t) (give b parts.0) ∙ weaker p q give t parts.1

-- a byte that passes a test is none that fails it
other : (test : ℕ → Bool) (b c : ℕ) → test b ≡ true → test c ≡ false → (b == c) ≡ false
other test b c passes fails =
    false_from_ne_true (b == c) (λ same. false≢true (sym fails ∙ sym (ap test (eqb-true b c same)) ∙ passes))

neither : (x y : Bool) → x ≡ false → y ≡ false → (not x && not y) ≡ true
neither true y no_x no_y = absurd (false≢true (sym no_x))
neither false true no_x no_y = absurd (false≢true (sym no_y))
neither false false no_x no_y = refl

plain_by : (test : ℕ → Bool) (b : ℕ) → test 37 ≡ false → test 63 ≡ false → test b ≡ true → is_plain_byte b ≡ true
plain_by test b percent question passes =
    neither (b == 37) (b == 63) (other test b 37 passes percent) (other test b 63 passes question)

digit_plain : (b : ℕ) → IsInRange 48 57 b → is_plain_byte b ≡ true
digit_plain b within = neither (b == 37) (b == 63) (ne_eqb b 37 (omega (arith, within))) (ne_eqb b 63 (omega (arith, within)))

decimal_plain : (n : ℕ) → n ≤ 4294967294 → is_plain (decimal n) ≡ true
decimal_plain n small =
    let fits : n < 2 ^ 64 = omega (arith, small) in
    list_all-from_AllPass is_plain_byte (decimal n)
    (All-from_get_or (λ b. is_plain_byte b ≡ true) (decimal n) 0 (λ i within. digit_plain (get_or (decimal n) i 0) (digit_at (decimal n) i (decimal_is_IsNumeral n fits).0.1 within)))

numbered_plain : (front : List ℕ) (n : ℕ) → is_plain front ≡ true → n ≤ 4294967294 → is_plain (front ++ decimal n) ≡ true
numbered_plain front n plain small =
    list_all-append is_plain_byte front (decimal n) ∙ ap (λ b. b && is_plain (decimal n)) plain ∙ decimal_plain n small

target_plain : (t : List ℕ) → is_target t ≡ true → is_plain t ≡ true
target_plain [] is = refl
target_plain (b ∷ t) is =
    let slash = is_slash b in
    let some = nat_le 1 (length t) in
    let few = nat_le (length t) 255 in
    let bytes = list_all is_target_byte t in
    let first = both (slash && some && few && bytes) (list_all is_something (slice_split is_slash t)) is in
    let second = both (slash && some && few) bytes first.0 in
    let third = both (slash && some) few second.0 in
    let fourth = both slash some third.0 in
    ap (λ c. c && is_plain t) (plain_by is_slash b refl refl fourth.0)
    ∙ weaker is_target_byte is_plain_byte (λ c passes. plain_by is_target_byte c refl refl passes) t second.1

path_plain : (t : List ℕ) → is_path t ≡ true → is_plain t ≡ true
path_plain t is = target_plain t (both (is_target t) (not (is_reserved t)) is).0

one_of : (b c : Bool) (G : Type 0) → (b || c) ≡ true → (b ≡ true → G) → (c ≡ true → G) → G
one_of true c G is left right = left refl
one_of false c G is left right = right is

listing_path_plain : (t : List ℕ) → is_listing_path t ≡ true → is_plain t ≡ true
listing_path_plain t is =
    one_of (is_path t) (bytes_eq t (codes "/node")) (is_plain t ≡ true) is (path_plain t)
    (λ same. subst (λ x. is_plain x ≡ true) (sym ((bytes_eq-Decides t (codes "/node")).0 same)) refl)

-- ---- the targets of right rows

abbrev IfPlain : Option (List ℕ) → Type 0
IfPlain None = Unit {0}
IfPlain (Some t) = is_plain t ≡ true

plain_if : (test : List ℕ → Bool) (o : Option (List ℕ)) → ((t : List ℕ) → test t ≡ true → is_plain t ≡ true) → IsTrue (none_or test o) → IfPlain o
plain_if test None give is = tt
plain_if test (Some t) give is = give t is

path_or_number_plain : (n : ℕ) (path : Option (List ℕ)) → n ≤ 4294967294 → IsTrue (none_or is_path path) → is_plain (path_or_number n path) ≡ true
unfolding node_front
path_or_number_plain n None small is = numbered_plain node_front n refl small
path_or_number_plain n (Some path) small is = path_plain path is

user_plain : (e : Cell × Row) → IsValidRow e.0 e.1 → IfPlain (user_target e)
unfolding user_front
user_plain (cell.User u, row.User user) valid = numbered_plain user_front u refl valid.0.1
user_plain _ valid = tt

term_plain : (e : Cell × Row) → IsValidRow e.0 e.1 → IfPlain (term_target e)
unfolding term_front
term_plain (cell.Term t, row.Term term) valid = numbered_plain term_front t refl valid.0.1
term_plain _ valid = tt

node_plain : (e : Cell × Row) → IsValidRow e.0 e.1 → IfPlain (node_target e)
node_plain (cell.Node n, row.Node node) valid = path_or_number_plain n node.path valid.0.1 valid.1.path
node_plain _ valid = tt

listing_plain : (e : Cell × Row) → IsValidRow e.0 e.1 → IfPlain (listing_target e)
listing_plain (cell.Listing name, row.Listing listing) valid = plain_if is_listing_path listing.path listing_path_plain valid.path
listing_plain _ valid = tt

-- the text is the path that it asks for
abbrev pub IsOwnPath : List ℕ → Type 0
IsOwnPath t = path_of t ≡ t

one_more : (o : Option (List ℕ)) (ts : List (List ℕ)) → IfPlain o → All IsOwnPath ts → All IsOwnPath (cons_option o ts)
one_more None ts plain all = all
one_more (Some t) ts plain all = All-cons IsOwnPath t ts (own_path t plain) all

of_rows : (f : Cell × Row → Option (List ℕ)) (rows : List (Cell × Row)) → ((e : Cell × Row) → IsValidRow e.0 e.1 → IfPlain (f e)) → AreValidRows rows → All IsOwnPath (filter_map f rows)
of_rows f [] plain valid = All-nil IsOwnPath
of_rows f (e ∷ rows) plain valid =
    one_more (f e) (filter_map f rows) (plain e (All-head (λ d. IsValidRow d.0 d.1) e rows valid))
    (of_rows f rows plain (All-tail (λ d. IsValidRow d.0 d.1) e rows valid))

-- each canonical target of right rows
pub own_paths : (rows : List (Cell × Row)) → AreValidRows rows → All IsOwnPath (canonical rows)
unfolding root_path login_path
own_paths rows valid =
    let login = login_path ∷ [] in
    let listings = filter_map listing_target rows in
    let nodes = filter_map node_target rows in
    let terms = filter_map term_target rows in
    let users = filter_map user_target rows in
    All-cons IsOwnPath root_path (users ++ (terms ++ (nodes ++ (listings ++ login)))) (own_path root_path refl)
    (All-append IsOwnPath users (terms ++ (nodes ++ (listings ++ login))) (of_rows user_target rows user_plain valid)
    (All-append IsOwnPath terms (nodes ++ (listings ++ login)) (of_rows term_target rows term_plain valid)
    (All-append IsOwnPath nodes (listings ++ login) (of_rows node_target rows node_plain valid)
    (All-append IsOwnPath listings login (of_rows listing_target rows listing_plain valid)
    (All-cons IsOwnPath login_path [] (own_path login_path refl) (All-nil IsOwnPath))))))
