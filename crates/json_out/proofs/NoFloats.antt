-- What is told has no number with a point.
use Rattle.std.proofs.Common.{◌≡◌, ℕ, List, [], ◌∷◌, false, Option, Some, None, refl, arith}
use Rattle.std.specs.Cmp.Lexicographic.{slice_cmp}
use Rattle.std.specs.Ordering.{nat_cmp, match_ordering}
use Rattle.std.specs.declared.cmp.Ordering.{Ordering}
use Rattle.std.specs.declared.cmp.Ordering.TheVariants.{Less, Equal, Greater}
use Rattle.serde_json.specs.Data.{Data, Members, no_members, member, put}
use Rattle.serde_json.specs.Written.{has_float, items_have_float, members_have_float}
use Rattle.access_result.specs.declared.reason.Reason.{Reason}
use Rattle.access_result.specs.Reason.{reason_text}
use Rattle.content_rows.specs.declared.row.FieldValue.{FieldValue}
use Rattle.content_rows.specs.declared.row.Node.{Node}
use Rattle.content_rows.specs.declared.row.Term.{Term}
use Rattle.content_rows.specs.declared.row.User.{User}
use Rattle.row_kinds.specs.Look.{whole_data, text_data, option_data, items_data, texts_onto}
use Rattle.json_out.specs.Told.{node_data, term_data, user_data, href_of, listed_data, listing_data, denied_data}

-- a text has none, whether it is UTF-8 or not
text_has_none : (t : List ℕ) → has_float (text_data t) ≡ false
text_has_none t = grind arith

path_has_none : (path : Option (List ℕ)) → has_float (option_data text_data path) ≡ false
path_has_none None = refl
path_has_none (Some t) = text_has_none t

items_have_none : {X : Type 0} (shown : X → Data) → ((x : X) → has_float (shown x) ≡ false) → (xs : List X) → items_have_float (items_data shown xs) ≡ false
items_have_none shown none [] = refl
items_have_none shown none (x ∷ xs) = rw (none x, items_have_none shown none xs) refl

put_at : (o : Ordering) (k l : List ℕ) (d e : Data) (ms more : Members) → has_float d ≡ false → has_float e ≡ false → members_have_float ms ≡ false → members_have_float more ≡ false
    → members_have_float (match_ordering o (member k d (member l e ms)) (member l d ms) (member l e more)) ≡ false
put_at Less k l d e ms more hd he h hm = rw (hd, he, h) refl
put_at Equal k l d e ms more hd he h hm = rw (hd, h) refl
put_at Greater k l d e ms more hd he h hm = rw (he, hm) refl

first_of : (d : Data) (ms : Members) (k : List ℕ) → members_have_float (member k d ms) ≡ false → (has_float d ≡ false) × (members_have_float ms ≡ false)
first_of d ms k h = (grind arith, grind arith)

put_has_none : (k : List ℕ) (d : Data) (ms : Members) → has_float d ≡ false → members_have_float ms ≡ false → members_have_float (put k d ms) ≡ false
put_has_none k d no_members hd h = rw hd refl
put_has_none k d (member l e ms) hd h =
    let both = first_of e ms l h in
    put_at (slice_cmp nat_cmp k l) k l d e ms (put k d ms) hd both.0 both.1 (put_has_none k d ms hd both.1)

values_have_none : (fields : List FieldValue) (ms : Members) → members_have_float ms ≡ false → members_have_float (texts_onto fields ms) ≡ false
values_have_none [] ms h = h
values_have_none (f ∷ fields) ms h =
    values_have_none fields (put f.name (text_data f.value) ms) (put_has_none f.name (text_data f.value) ms (text_has_none f.value) h)

pub node_has_none : (n : ℕ) (node : Node) (fields : List FieldValue) (terms : List ℕ) → has_float (node_data n node fields terms) ≡ false
node_has_none n node fields terms =
    rw (values_have_none fields no_members refl, path_has_none node.path, items_have_none whole_data (λ t. refl) terms, text_has_none node.title, text_has_none node.node_type) refl

pub term_has_none : (t : ℕ) (term : Term) → has_float (term_data t term) ≡ false
term_has_none t term = rw (text_has_none term.description, text_has_none term.name) refl

pub user_has_none : (u : ℕ) (user : User) → has_float (user_data u user) ≡ false
user_has_none u user = rw (text_has_none user.name) refl

listed_has_none : (e : ℕ × Node) → has_float (listed_data e) ≡ false
listed_has_none e = rw (text_has_none (href_of e.0 e.1.path), text_has_none e.1.title) refl

pub listing_has_none : (nodes : List (ℕ × Node)) (page pages : ℕ) → has_float (listing_data nodes page pages) ≡ false
listing_has_none nodes page pages = rw (items_have_none listed_data listed_has_none nodes) refl

pub denied_has_none : (reason : Reason) → has_float (denied_data reason) ≡ false
denied_has_none reason = rw (text_has_none (reason_text reason)) refl
