-- Nodes: what is let through is right.
use Rattle.std.proofs.Common.{◌≡◌, ◌≤◌, ℕ, [], List, length, map, true, None, IsTrue, refl, sym, subst, codes, lit≤, nat_cmp}
use Rattle.std.specs.Cmp.Lexicographic.{slice_cmp}
use Rattle.std.specs.List.{list_all}
use Rattle.std.specs.List.Sorted.{IsStrictlySortedBy}
use Rattle.std.specs.Prelude.{All}
use Rattle.serde_json.specs.Data.{Data, null, boolean, number, string, array, object, Members, no_members, member}
use Rattle.content_rows.specs.Kinds.{IsMoment, IsId, is_line, is_text, is_path, none_or}
use Rattle.json_keys.specs.Checked.{read_checked}
use Rattle.json_keys.specs.Fault.{ask_fault, is_wanted, members_in, pair_fault, pairs_fault, shape_fault, text_or}
use Rattle.json_keys.specs.Order.{AllInOrder, names_of}
use Rattle.json_keys.specs.declared.shape.Shape.TheVariants as shape
use Rattle.json_keys.proofs.Held.{neither}
use Rattle.row_kinds.specs.Look.{small_in, text_in, option_in, items_in, list_in, texts_in, OrNone}
use Rattle.row_kinds.specs.Rows.{grant_row_in, IsTypedGrantRow}
use Rattle.row_kinds.proofs.Codec.{Between}
use Rattle.row_kinds.proofs.ContentLaws.{grant_rows}
use Rattle.row_kinds.proofs.Fields.{AreTexts, fields, pair_right}
use Rattle.row_kinds.proofs.Keys.{moment, next_id, owner_id, maybe_path, ids}
use Rattle.row_kinds.proofs.Lists.{IsListOf, each_of, some_passes, for_some}
use Rattle.row_kinds.proofs.Objects.{IsPassed, held, good, read_right}
use Rattle.row_kinds.proofs.Strings.{Passes, line, uuid, name_same}
use Rattle.site_commands.specs.Right.{OfBody, IsRightNewNode, IsRightNodePatch}
use Rattle.site_commands.specs.declared.body.FieldChange.{FieldChange}
use Rattle.body_kinds.specs.Bodies.{changes_in, new_node_in, node_patch_in}
use Rattle.body_kinds.specs.Tables.{new_node_keys, node_patch_keys}
use Rattle.body_kinds.proofs.Said.{sent_right, checked_right}

-- ---- fields

no_texts : AreTexts []
unfolding IsStrictlySortedBy
no_texts = record { typed = tt; texts = refl; by_name = tt }

-- a value that is let through, or that takes one away
change_right : (k : List ℕ) (d : Data) → pair_fault k (text_or true d) ≡ None → IsTrue (none_or is_text (option_in text_in d))
change_right k null h = refl
change_right k (string t) h = (pair_right k (string t) h).1
change_right k (boolean b) h = absurd cc
change_right k (number n) h = absurd cc
change_right k (array ds) h = absurd cc
change_right k (object ms) h = absurd cc

pub record AreChanges (changes : List FieldChange) : Type 0 where
  pub texts : IsTrue (list_all (λ (c : FieldChange). none_or is_text c.value) changes)
  pub by_name : IsStrictlySortedBy (slice_cmp nat_cmp) (map (λ (c : FieldChange). c.name) changes)

no_changes : AreChanges []
unfolding IsStrictlySortedBy
no_changes = record { texts = refl; by_name = tt }

texts_right : (ms : Members) → pairs_fault true ms ≡ None → IsTrue (list_all (λ (c : FieldChange). none_or is_text c.value) (changes_in ms))
texts_right no_members h = refl
texts_right (member k d ms) h =
    let both = neither (pair_fault k (text_or true d)) (pairs_fault true ms) h in rw (change_right k d both.0, texts_right ms both.1) refl

names_kept : (ms : Members) → pairs_fault true ms ≡ None → map (λ (c : FieldChange). c.name) (changes_in ms) ≡ names_of ms
names_kept no_members h = refl
names_kept (member k d ms) h =
    let both = neither (pair_fault k (text_or true d)) (pairs_fault true ms) h in
    rw (name_same k (pair_right k (text_or true d) both.0).0, names_kept ms both.1) refl

changes_at : (d : Data) → AllInOrder d → shape_fault (shape.Texts true) d ≡ None → AreChanges (changes_in (members_in d))
changes_at (object ms) o h = record {
  texts = texts_right ms h;
  by_name = subst (IsStrictlySortedBy (slice_cmp nat_cmp)) (sym (names_kept ms h)) o.0;
}
changes_at null o h = absurd cc
changes_at (boolean b) o h = absurd cc
changes_at (number n) o h = absurd cc
changes_at (string s) o h = absurd cc
changes_at (array ds) o h = absurd cc

-- ---- nodes

few_ids : (most : ℕ) (xs : List ℕ) → IsListOf most (Between 1 4294967294) xs → All IsId xs
few_ids most xs g = each_of IsId xs g.1

new_node : (d : Data) → IsPassed ask_fault is_wanted new_node_keys d → IsRightNewNode (new_node_in d)
new_node d p =
    let created_is = sent_right p (codes "created") _ refl moment in
    let fields_is = read_right (λ v. texts_in (members_in v)) AreTexts p (codes "fields") _ refl fields.right no_texts in
    let grants_is = read_right (λ v. list_in grant_row_in (items_in v)) (IsListOf 64 IsTypedGrantRow) p (codes "grants") _ refl grant_rows.right (lit≤ tt, tt) in
    let path_is = read_right (option_in text_in) (OrNone (Passes is_path)) p (codes "path") _ refl maybe_path.right tt in
    let refs_is = read_right (λ v. list_in small_in (items_in v)) (IsListOf 8 (Between 1 4294967294)) p (codes "refs") _ refl (ids 8).right (lit≤ tt, tt) in
    let terms_is = read_right (λ v. list_in small_in (items_in v)) (IsListOf 32 (Between 1 4294967294)) p (codes "terms") _ refl (ids 32).right (lit≤ tt, tt) in
    let title_is = good (held p) (codes "title") _ refl refl (line 255) in
    let uid_is = sent_right p (codes "uid") _ refl owner_id in
    let uuid_is = good (held p) (codes "uuid") _ refl refl uuid in
    record {
      created = for_some (Between 0 4102444800) IsMoment (λ n g. g.1) (new_node_in d).created created_is;
      field_texts = fields_is.texts;
      by_name = fields_is.by_name;
      few_grants = grants_is.0;
      path = some_passes is_path (new_node_in d).path path_is;
      few_refs = refs_is.0;
      refs = each_of IsId (new_node_in d).refs refs_is.1;
      few_terms = terms_is.0;
      terms = each_of IsId (new_node_in d).terms terms_is.1;
      title = title_is;
      uid = for_some (Between 0 4294967294) (λ n. n ≤ 4294967294) (λ n g. g.1) (new_node_in d).uid uid_is;
      uuid = uuid_is;
    }

pub new_node_right : (d : Data) → AllInOrder d → OfBody IsRightNewNode (read_checked new_node_in new_node_keys d)
new_node_right d o = checked_right new_node_in new_node_keys IsRightNewNode d o (new_node d)

node_patch : (d : Data) → IsPassed ask_fault is_wanted node_patch_keys d → IsRightNodePatch (node_patch_in d)
node_patch d p =
    let created_is = sent_right p (codes "created") _ refl moment in
    let fields_is = read_right (λ v. changes_in (members_in v)) AreChanges p (codes "fields") _ refl changes_at no_changes in
    let grants_is = sent_right p (codes "grants") _ refl grant_rows in
    let path_is = sent_right p (codes "path") _ refl maybe_path in
    let refs_is = sent_right p (codes "refs") _ refl (ids 8) in
    let terms_is = sent_right p (codes "terms") _ refl (ids 32) in
    let title_is = sent_right p (codes "title") _ refl (line 255) in
    let uid_is = sent_right p (codes "uid") _ refl owner_id in
    let vid_is = good (held p) (codes "vid") _ refl refl next_id in
    record {
      created = for_some (Between 0 4102444800) IsMoment (λ n g. g.1) (node_patch_in d).created created_is;
      field_texts = fields_is.texts;
      by_name = fields_is.by_name;
      few_grants = for_some (IsListOf 64 IsTypedGrantRow) (λ xs. length xs ≤ 64) (λ xs g. g.0) (node_patch_in d).grants grants_is;
      path = for_some (OrNone (Passes is_path)) (λ path. IsTrue (none_or is_path path)) (some_passes is_path) (node_patch_in d).path path_is;
      few_refs = for_some (IsListOf 8 (Between 1 4294967294)) (λ xs. length xs ≤ 8) (λ xs g. g.0) (node_patch_in d).refs refs_is;
      refs = for_some (IsListOf 8 (Between 1 4294967294)) (All IsId) (few_ids 8) (node_patch_in d).refs refs_is;
      few_terms = for_some (IsListOf 32 (Between 1 4294967294)) (λ xs. length xs ≤ 32) (λ xs g. g.0) (node_patch_in d).terms terms_is;
      terms = for_some (IsListOf 32 (Between 1 4294967294)) (All IsId) (few_ids 32) (node_patch_in d).terms terms_is;
      title = for_some (Passes (is_line 255)) (Passes (is_line 255)) (λ t g. g) (node_patch_in d).title title_is;
      uid = for_some (Between 0 4294967294) (λ n. n ≤ 4294967294) (λ n g. g.1) (node_patch_in d).uid uid_is;
      vid = vid_is.0;
    }

pub node_patch_right : (d : Data) → AllInOrder d → OfBody IsRightNodePatch (read_checked node_patch_in node_patch_keys d)
node_patch_right d o = checked_right node_patch_in node_patch_keys IsRightNodePatch d o (node_patch d)
