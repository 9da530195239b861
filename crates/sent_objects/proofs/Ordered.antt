-- Every object that is read has its members in the order of their keys.
use Rattle.std.proofs.Common.{◌≡◌, ℕ, List, Option, Some, None, option_map, option_and_then, Bool, true, false, refl}
use Rattle.std.specs.Prelude.{unwrap_or, ⊤}
use Rattle.std.specs.Str.{is_utf8}
use Rattle.json.specs.Json as json
use Rattle.json.specs.Json.{value}
use Rattle.json.specs.Lex.{tokens}
use Rattle.serde_json.specs.Data.{Data, null, boolean, number, string, array, object, item, Members, no_members, member, put}
use Rattle.serde_json.specs.Read.{of_json, of_items, of_members, number_of, max_depth, read}
use Rattle.std.specs.Ordering.{match_ordering}
use Rattle.json_keys.specs.Order.{IsInOrder, AllInOrder, ItemsInOrder, MembersInOrder}
use Rattle.sent_objects.specs.Object.{object_if, object_of, object_in, value_of}
use Rattle.sent_objects.proofs.InOrder.{text_cmp, in_order_put, none_in_order}
use Rattle.std.proofs.Common.{Ordering, Less, Equal, Greater}

abbrev OrNothing : {A : Type 0} → (A → Type 0) → Option A → Type 0
OrNothing P None = ⊤
OrNothing P (Some a) = P a

then : {A B : Type 0} (P : A → Type 0) (Q : B → Type 0) (f : A → Option B) (o : Option A) → OrNothing P o → ((a : A) → P a → OrNothing Q (f a)) → OrNothing Q (option_and_then f o)
then P Q f None h more = tt
then P Q f (Some a) h more = more a h

mapped : {A B : Type 0} (P : A → Type 0) (Q : B → Type 0) (f : A → B) (o : Option A) → OrNothing P o → ((a : A) → P a → Q (f a)) → OrNothing Q (option_map f o)
mapped P Q f None h more = tt
mapped P Q f (Some a) h more = more a h

inside_at : (o : Ordering) (k l : List ℕ) (d e : Data) (ms : Members) → AllInOrder d → MembersInOrder (member l e ms) → MembersInOrder (put k d ms)
    → MembersInOrder (match_ordering o (member k d (member l e ms)) (member l d ms) (member l e (put k d ms)))
inside_at Less k l d e ms h all more = (h, all)
inside_at Equal k l d e ms h all more = (h, all.1)
inside_at Greater k l d e ms h all more = (all.0, more)

inside_put : (k : List ℕ) (d : Data) (ms : Members) → AllInOrder d → MembersInOrder ms → MembersInOrder (put k d ms)
inside_put k d no_members h all = (h, tt)
inside_put k d (member l e ms) h all = inside_at (text_cmp k l) k l d e ms h all (inside_put k d ms h all.1)

abbrev BothInOrder : Members → Type 0
BothInOrder ms = IsInOrder ms × MembersInOrder ms

always : {A : Type 0} (o : Option A) → OrNothing (λ a. ⊤) o
always None = tt
always (Some a) = tt

mutual
  of_json_in_order : (j : json.Json) → OrNothing AllInOrder (of_json j)
  of_json_in_order json.null = tt
  of_json_in_order (json.boolean b) = tt
  of_json_in_order (json.number s) = mapped (λ n. ⊤) AllInOrder number (number_of s) (always (number_of s)) (λ n h. tt)
  of_json_in_order (json.string s) = tt
  of_json_in_order (json.array js) = mapped ItemsInOrder AllInOrder array (of_items js) (of_items_in_order js) (λ ds h. h)
  of_json_in_order (json.object ms) = mapped BothInOrder AllInOrder object (of_members ms no_members) (of_members_in_order ms no_members (none_in_order, tt)) (λ xs h. h)

  of_items_in_order : (js : json.Items) → OrNothing ItemsInOrder (of_items js)
  of_items_in_order json.no_items = tt
  of_items_in_order (json.item j js) =
      then AllInOrder ItemsInOrder (λ d. option_map (item d) (of_items js)) (of_json j) (of_json_in_order j)
      (λ d h. mapped ItemsInOrder ItemsInOrder (item d) (of_items js) (of_items_in_order js) (λ ds all. (h, all)))

  of_members_in_order : (js : json.Members) (ms : Members) → BothInOrder ms → OrNothing BothInOrder (of_members js ms)
  of_members_in_order json.no_members ms h = h
  of_members_in_order (json.member k j js) ms h =
      then AllInOrder BothInOrder (λ d. of_members js (put k d ms)) (of_json j) (of_json_in_order j)
      (λ d all. of_members_in_order js (put k d ms) (in_order_put k d ms h.0, inside_put k d ms all h.1))

-- what is read of a text
pub read_in_order : (text : List ℕ) → OrNothing AllInOrder (read text)
read_in_order text =
    let o = option_and_then (λ p. json.if_last p.0 p.1) (value max_depth (tokens text)) in
    then (λ j. ⊤) AllInOrder of_json o (always o) (λ j h. of_json_in_order j)

value_at : (b : Bool) (bytes : List ℕ) → is_utf8 bytes ≡ b → OrNothing AllInOrder (value_of bytes)
value_at true bytes is = rw is (read_in_order bytes)
value_at false bytes is = rw is tt

if_object : (d : Data) → AllInOrder d → OrNothing AllInOrder (object_if d)
if_object null h = tt
if_object (boolean b) h = tt
if_object (number n) h = tt
if_object (string s) h = tt
if_object (array ds) h = tt
if_object (object ms) h = h

or_none : (o : Option Data) → OrNothing AllInOrder o → AllInOrder (unwrap_or o (object no_members))
or_none None h = (none_in_order, tt)
or_none (Some d) h = h

-- the object that bytes are
pub object_in_order : (bytes : List ℕ) → AllInOrder (object_in bytes)
object_in_order bytes =
    or_none (object_of bytes) (then AllInOrder AllInOrder object_if (value_of bytes) (value_at (is_utf8 bytes) bytes refl) if_object)
