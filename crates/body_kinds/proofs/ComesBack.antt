-- What is written of a right body is read back as it.
use Rattle.std.proofs.Common.{◌≡◌, ◌≤◌, ◌<◌, ℕ, List, [], ◌∷◌, length, map, Bool, true, false, Option, None, Some, option_map, IsTrue, refl, ap, codes, All, arith, lit≤, nat_cmp}
use Rattle.std.specs.Cmp.Lexicographic.{slice_cmp}
use Rattle.std.specs.List.{AllByRecursion, list_all}
use Rattle.std.specs.List.Sorted.{IsStrictlySortedBy}
use Rattle.std.proofs.lemmas.Bool.{and_parts}
use Rattle.std.specs.Option.{ForSome}
use Rattle.serde_json.specs.Data.{Data, string, boolean}
use Rattle.content_rows.specs.Kinds.{IsMoment, IsId, is_line, is_text, is_path, none_or}
use Rattle.content_rows.specs.LiteralName.{is_name}
use Rattle.content_rows.specs.declared.row.FieldValue.{FieldValue}
use Rattle.json_keys.specs.Fault.{members_in, pair_fault, pairs_fault, text_or, entry_fault, shape_fault}
use Rattle.json_keys.specs.declared.rule.Rule.{Rule}
use Rattle.json_keys.specs.declared.shape.Entry.TheVariants as entry
use Rattle.json_keys.specs.declared.shape.Form.TheVariants as form
use Rattle.json_keys.specs.declared.shape.Plain.TheVariants as plain
use Rattle.json_keys.specs.declared.shape.Shape.TheVariants as shape
use Rattle.row_kinds.specs.Look.{flag_in, small_in, text_in, option_in, items_in, list_in, texts_in, whole_data, text_data, option_data, name_or_blank, OrNone, IsNameText, IsTypedText}
use Rattle.row_kinds.specs.Rows.{IsTypedGrant, IsTypedGrantRow}
use Rattle.row_kinds.proofs.Codec.{Codec, Between}
use Rattle.row_kinds.proofs.ContentLaws.{grant_rows}
use Rattle.row_kinds.proofs.Fields.{AreTexts, fields}
use Rattle.row_kinds.proofs.Keys.{zero_least, below_top, moment, next_id, owner_id, maybe_path, maybe_id, ids, names}
use Rattle.row_kinds.proofs.Lists.{IsListOf, of_each, of_some_passes, of_for_some}
use Rattle.row_kinds.proofs.Numbers.{flag}
use Rattle.row_kinds.proofs.PeopleLaws.{grants}
use Rattle.row_kinds.proofs.Strings.{Passes, line, body, uuid, name, path, name_same, name_form, body_form, stages}
use Rattle.row_kinds.proofs.Utf8.{text_written}
use Rattle.site_commands.specs.Right.{IsRightNewNode, IsRightNodePatch, IsRightNewTerm, IsRightTermPatch, IsRightNewUser, IsRightUserPatch}
use Rattle.site_commands.specs.declared.body.FieldChange.{FieldChange}
use Rattle.site_commands.specs.declared.body.NewNode.{NewNode}
use Rattle.site_commands.specs.declared.body.NodePatch.{NodePatch}
use Rattle.site_commands.specs.declared.body.NewTerm.{NewTerm}
use Rattle.site_commands.specs.declared.body.TermPatch.{TermPatch}
use Rattle.site_commands.specs.declared.body.NewUser.{NewUser}
use Rattle.site_commands.specs.declared.body.UserPatch.{UserPatch}
use Rattle.body_kinds.specs.Bodies.{changes_in, new_node_in, node_patch_in, new_term_in, term_patch_in, new_user_in, user_patch_in}
use Rattle.body_kinds.specs.Tables.{new_node_keys, node_patch_keys, new_term_keys, term_patch_keys, new_user_keys, user_patch_keys}
use Rattle.body_kinds.specs.Written.{list_data, some_list, some_text, set_flag, some_fields, changes_data, some_changes, new_node_said, node_patch_said, new_term_said, term_patch_said, new_user_said, user_patch_said, ComesBack, IsTypedChange, IsTypedNewNode, IsTypedNodePatch, IsTypedNewUser, IsTypedUserPatch}
use Rattle.body_kinds.proofs.PeopleRight.{empty_text}
use Rattle.body_kinds.proofs.Back.{comes_back, sent_back, whole_back, left_out, sent_is, read_is, SentBack, ReadBack}

-- ---- values whose absence says something

pub no_word : {X : Type 0} (v : Option X) → OrNone (λ _. Unit {0}) v
no_word None = tt
no_word (Some x) = tt

some_text_back : {fault : Data → Option Rule} (Good : List ℕ → Type 0) → Codec (List ℕ) fault text_in text_data Good → (t : List ℕ) → Good t → ReadBack fault text_in (some_text t) t
some_text_back {fault} Good c [] g = left_out fault text_in [] refl
some_text_back {fault} Good c (b ∷ t) g = whole_back c (b ∷ t) g

some_list_back : {X : Type 0} {fault : Data → Option Rule} {of : Data → X} {shown : X → Data} (Good : List X → Type 0) → Codec (List X) fault (λ d. list_in of (items_in d)) (list_data shown) Good
    → (xs : List X) → Good xs → ReadBack fault (λ d. list_in of (items_in d)) (some_list shown xs) xs
some_list_back {X} {fault} {of} {shown} Good c [] g = left_out fault (λ d. list_in of (items_in d)) [] refl
some_list_back {X} {fault} {of} {shown} Good c (x ∷ xs) g = whole_back c (x ∷ xs) g

set_flag_back : {fault : Data → Option Rule} (Good : Bool → Type 0) → Codec Bool fault flag_in boolean Good → (b : Bool) → Good b → ReadBack fault flag_in (set_flag b) b
set_flag_back {fault} Good c true g = whole_back c true g
set_flag_back {fault} Good c false g = left_out fault flag_in false refl

-- ---- terms

pub a_parent_back : (v : Option ℕ) → ForSome v IsId → ReadBack (entry_fault (entry.NullOr (plain.Whole 1 4294967294))) (option_in small_in) (option_map whole_data v) v
a_parent_back None h = left_out (entry_fault (entry.NullOr (plain.Whole 1 4294967294))) (option_in small_in) None refl
a_parent_back (Some id) h = whole_back maybe_id (Some id) (h id refl)

pub new_term_back : (new : NewTerm) → IsRightNewTerm new → ComesBack new_term_in new_term_keys (new_term_said new) new
new_term_back new right =
    let said = new_term_said new in
    let description_back = some_text_back (Passes is_text) body new.description right.description in
    let name_back = whole_back (line 255) new.name right.name in
    let parent_back = a_parent_back new.parent right.parent in
    let status_back = sent_back flag new.status (no_word new.status) in
    let uuid_back = whole_back uuid new.uuid right.uuid in
    let description_is = read_is said (codes "description") _ _ refl description_back in
    let name_is = read_is said (codes "name") _ _ refl name_back in
    let parent_is = read_is said (codes "parent") _ _ refl parent_back in
    let status_is = sent_is said (codes "status") _ _ refl status_back in
    let uuid_is = read_is said (codes "uuid") _ _ refl uuid_back in
    comes_back new_term_in new_term_keys said new (description_back.fine, (name_back.fine, (parent_back.fine, (status_back.fine, (uuid_back.fine, tt))))) refl
    (λ i. record { description = description_is i; name = name_is i; parent = parent_is i; status = status_is i; uuid = uuid_is i })

pub term_patch_back : (patch : TermPatch) → IsRightTermPatch patch → ComesBack term_patch_in term_patch_keys (term_patch_said patch) patch
term_patch_back patch right =
    let said = term_patch_said patch in
    let description_back = sent_back body patch.description (of_for_some (Passes is_text) (Passes is_text) (λ t g. g) patch.description right.description) in
    let name_back = sent_back (line 255) patch.name (of_for_some (Passes (is_line 255)) (Passes (is_line 255)) (λ t g. g) patch.name right.name) in
    let parent_back = sent_back maybe_id patch.parent (of_for_some (λ v. ForSome v IsId) (OrNone (Between 1 4294967294)) (of_for_some IsId (Between 1 4294967294) (λ n g. g)) patch.parent right.parent) in
    let status_back = sent_back flag patch.status (no_word patch.status) in
    let description_is = sent_is said (codes "description") _ _ refl description_back in
    let name_is = sent_is said (codes "name") _ _ refl name_back in
    let parent_is = sent_is said (codes "parent") _ _ refl parent_back in
    let status_is = sent_is said (codes "status") _ _ refl status_back in
    comes_back term_patch_in term_patch_keys said patch (description_back.fine, (name_back.fine, (parent_back.fine, (status_back.fine, tt)))) refl
    (λ i. record { description = description_is i; name = name_is i; parent = parent_is i; status = status_is i })

-- ---- users

both_or_none : {X : Type 0} (P Q : X → Type 0) (v : Option X) → ForSome v P → OrNone Q v → OrNone (λ x. P x × Q x) v
both_or_none P Q None h k = tt
both_or_none P Q (Some x) h k = (h x refl, k)

pub new_user_back : (new : NewUser) → IsRightNewUser new → IsTypedNewUser new → ComesBack new_user_in new_user_keys (new_user_said new) new
new_user_back new right typed =
    let said = new_user_said new in
    let grants_back = some_list_back (IsListOf 64 IsTypedGrant) grants new.grants (right.few_grants, typed.0) in
    let name_back = whole_back (line 60) new.name right.name in
    let pass_back = sent_back (line 128) new.pass (of_for_some (Passes (is_line 128)) (Passes (is_line 128)) (λ t g. g) new.pass right.pass) in
    let roles_back = some_list_back (IsListOf 32 IsNameText) names new.roles (right.few_roles, typed.1) in
    let status_back = sent_back flag new.status (no_word new.status) in
    let uuid_back = whole_back uuid new.uuid right.uuid in
    let grants_is = read_is said (codes "grants") _ _ refl grants_back in
    let name_is = read_is said (codes "name") _ _ refl name_back in
    let pass_is = sent_is said (codes "pass") _ _ refl pass_back in
    let roles_is = read_is said (codes "roles") _ _ refl roles_back in
    let status_is = sent_is said (codes "status") _ _ refl status_back in
    let uuid_is = read_is said (codes "uuid") _ _ refl uuid_back in
    comes_back new_user_in new_user_keys said new
    (grants_back.fine, (name_back.fine, (pass_back.fine, (roles_back.fine, (status_back.fine, (uuid_back.fine, tt)))))) refl
    (λ i. record { grants = grants_is i; name = name_is i; pass = pass_is i; roles = roles_is i; status = status_is i; uuid = uuid_is i })

pub user_patch_back : (patch : UserPatch) → IsRightUserPatch patch → IsTypedUserPatch patch → ComesBack user_patch_in user_patch_keys (user_patch_said patch) patch
user_patch_back patch right typed =
    let said = user_patch_said patch in
    let grants_back = sent_back grants patch.grants (both_or_none (λ xs. length xs ≤ 64) (AllByRecursion IsTypedGrant) patch.grants right.few_grants typed.0) in
    let name_back = sent_back (line 60) patch.name (of_for_some (Passes (is_line 60)) (Passes (is_line 60)) (λ t g. g) patch.name right.name) in
    let pass_back = sent_back (line 128) patch.pass (of_for_some (Passes (is_line 128)) (Passes (is_line 128)) (λ t g. g) patch.pass right.pass) in
    let roles_back = sent_back names patch.roles (both_or_none (λ xs. length xs ≤ 32) (AllByRecursion IsNameText) patch.roles right.few_roles typed.1) in
    let status_back = sent_back flag patch.status (no_word patch.status) in
    let grants_is = sent_is said (codes "grants") _ _ refl grants_back in
    let name_is = sent_is said (codes "name") _ _ refl name_back in
    let pass_is = sent_is said (codes "pass") _ _ refl pass_back in
    let roles_is = sent_is said (codes "roles") _ _ refl roles_back in
    let status_is = sent_is said (codes "status") _ _ refl status_back in
    comes_back user_patch_in user_patch_keys said patch
    (grants_back.fine, (name_back.fine, (pass_back.fine, (roles_back.fine, (status_back.fine, tt))))) refl
    (λ i. record { grants = grants_is i; name = name_is i; pass = pass_is i; roles = roles_is i; status = status_is i })

-- ---- fields

some_fields_back : (fs : List FieldValue) → AreTexts fs → ReadBack (shape_fault (shape.Texts false)) (λ v. texts_in (members_in v)) (some_fields fs) fs
some_fields_back [] g = left_out (shape_fault (shape.Texts false)) (λ v. texts_in (members_in v)) [] refl
some_fields_back (f ∷ fs) g = whole_back fields (f ∷ fs) g

text_pair : (k t : List ℕ) → IsTrue (is_name k) → IsTrue (is_text t) → pair_fault k (string t) ≡ None
text_pair k t n x =
    let named = stages form.Name k (name_form.fine k n) in
    let held = stages form.Body t (body_form.fine t x) in rw (named.0, held.0, named.1, held.1) refl

change_back : (k : List ℕ) (v : Option (List ℕ)) → IsTrue (is_name k) → IsTrue (none_or is_text v)
    → (pair_fault k (text_or true (option_data text_data v)) ≡ None) × (option_in text_in (option_data text_data v) ≡ v)
change_back k None n x = (text_pair k [] n empty_text, refl)
change_back k (Some t) n x = let same = text_written t (body_form.utf8 t x) in (rw same (text_pair k t n x), rw same refl)

abbrev all_texts : List FieldChange → Bool
all_texts changes = list_all (λ (c : FieldChange). none_or is_text c.value) changes

changes_back : (cs : List FieldChange) → AllByRecursion IsTypedChange cs → IsTrue (all_texts cs) → (pairs_fault true (changes_data cs) ≡ None) × (changes_in (changes_data cs) ≡ cs)
changes_back [] typed texts = (refl, refl)
changes_back (c ∷ cs) typed texts =
    let both = and_parts (none_or is_text c.value) (all_texts cs) texts in
    let one = change_back c.name c.value typed.0 both.0 in
    let more = changes_back cs typed.1 both.1 in
    (rw one.0 more.0, λ i. record { name = name_same c.name typed.0 i; value = one.1 i } ∷ more.1 i)

some_changes_back : (cs : List FieldChange) → AllByRecursion IsTypedChange cs → IsTrue (all_texts cs) → ReadBack (shape_fault (shape.Texts true)) (λ v. changes_in (members_in v)) (some_changes cs) cs
some_changes_back [] typed texts = left_out (shape_fault (shape.Texts true)) (λ v. changes_in (members_in v)) [] refl
some_changes_back (c ∷ cs) typed texts = let back = changes_back (c ∷ cs) typed texts in record { fine = back.0; read = back.1 }

-- ---- nodes

a_path_back : (v : Option (List ℕ)) → IsTrue (none_or is_path v) → ReadBack (entry_fault (entry.NullOr (plain.Text form.Path))) (option_in text_in) (option_map text_data v) v
a_path_back None h = left_out (entry_fault (entry.NullOr (plain.Text form.Path))) (option_in text_in) None refl
a_path_back (Some p) h = whole_back maybe_path (Some p) h

pub new_node_back : (kind : List ℕ) (new : NewNode) → IsTrue (is_name kind) → IsRightNewNode new → IsTypedNewNode new → ComesBack new_node_in new_node_keys (new_node_said kind new) new
new_node_back kind new named right typed =
    let said = new_node_said kind new in
    let created_back = sent_back moment new.created (of_for_some IsMoment (Between 0 4102444800) (λ n g. (zero_least, g)) new.created right.created) in
    let fields_back = some_fields_back new.fields (record { typed = typed.0; texts = right.field_texts; by_name = right.by_name }) in
    let grants_back = some_list_back (IsListOf 64 IsTypedGrantRow) grant_rows new.grants (right.few_grants, typed.1) in
    let path_back = a_path_back new.path right.path in
    let promote_back = sent_back flag new.promote (no_word new.promote) in
    let refs_back = some_list_back (IsListOf 8 (Between 1 4294967294)) (ids 8) new.refs (right.few_refs, of_each IsId new.refs right.refs) in
    let status_back = sent_back flag new.status (no_word new.status) in
    let sticky_back = set_flag_back (λ _. Unit {0}) flag new.sticky tt in
    let terms_back = some_list_back (IsListOf 32 (Between 1 4294967294)) (ids 32) new.terms (right.few_terms, of_each IsId new.terms right.terms) in
    let title_back = whole_back (line 255) new.title right.title in
    let kind_back = whole_back name kind named in
    let uid_back = sent_back owner_id new.uid (of_for_some (λ n. n ≤ 4294967294) (Between 0 4294967294) (λ n g. (zero_least, g)) new.uid right.uid) in
    let uuid_back = whole_back uuid new.uuid right.uuid in
    let created_is = sent_is said (codes "created") _ _ refl created_back in
    let fields_is = read_is said (codes "fields") _ _ refl fields_back in
    let grants_is = read_is said (codes "grants") _ _ refl grants_back in
    let path_is = read_is said (codes "path") _ _ refl path_back in
    let promote_is = sent_is said (codes "promote") _ _ refl promote_back in
    let refs_is = read_is said (codes "refs") _ _ refl refs_back in
    let status_is = sent_is said (codes "status") _ _ refl status_back in
    let sticky_is = read_is said (codes "sticky") _ _ refl sticky_back in
    let terms_is = read_is said (codes "terms") _ _ refl terms_back in
    let title_is = read_is said (codes "title") _ _ refl title_back in
    let uid_is = sent_is said (codes "uid") _ _ refl uid_back in
    let uuid_is = read_is said (codes "uuid") _ _ refl uuid_back in
    comes_back new_node_in new_node_keys said new
    (created_back.fine, (fields_back.fine, (grants_back.fine, (path_back.fine, (promote_back.fine, (refs_back.fine, (status_back.fine, (sticky_back.fine, (terms_back.fine, (title_back.fine, (kind_back.fine, (uid_back.fine, (uuid_back.fine, tt))))))))))))) refl
    (λ i. record {
      created = created_is i;
      fields = fields_is i;
      grants = grants_is i;
      path = path_is i;
      promote = promote_is i;
      refs = refs_is i;
      status = status_is i;
      sticky = sticky_is i;
      terms = terms_is i;
      title = title_is i;
      uid = uid_is i;
      uuid = uuid_is i;
    })

pub node_patch_back : (patch : NodePatch) → IsRightNodePatch patch → IsTypedNodePatch patch → ComesBack node_patch_in node_patch_keys (node_patch_said patch) patch
node_patch_back patch right typed =
    let said = node_patch_said patch in
    let created_back = sent_back moment patch.created (of_for_some IsMoment (Between 0 4102444800) (λ n g. (zero_least, g)) patch.created right.created) in
    let fields_back = some_changes_back patch.fields typed.0 right.field_texts in
    let grants_back = sent_back grant_rows patch.grants (both_or_none (λ xs. length xs ≤ 64) (AllByRecursion IsTypedGrantRow) patch.grants right.few_grants typed.1) in
    let path_back = sent_back maybe_path patch.path (of_for_some (λ v. IsTrue (none_or is_path v)) (OrNone (Passes is_path)) (of_some_passes is_path) patch.path right.path) in
    let promote_back = sent_back flag patch.promote (no_word patch.promote) in
    let refs_back = sent_back (ids 8) patch.refs (both_or_none (λ xs. length xs ≤ 8) (AllByRecursion (Between 1 4294967294)) patch.refs right.few_refs (of_for_some (All IsId) (AllByRecursion (Between 1 4294967294)) (of_each IsId) patch.refs right.refs)) in
    let status_back = sent_back flag patch.status (no_word patch.status) in
    let sticky_back = sent_back flag patch.sticky (no_word patch.sticky) in
    let terms_back = sent_back (ids 32) patch.terms (both_or_none (λ xs. length xs ≤ 32) (AllByRecursion (Between 1 4294967294)) patch.terms right.few_terms (of_for_some (All IsId) (AllByRecursion (Between 1 4294967294)) (of_each IsId) patch.terms right.terms)) in
    let title_back = sent_back (line 255) patch.title (of_for_some (Passes (is_line 255)) (Passes (is_line 255)) (λ t g. g) patch.title right.title) in
    let uid_back = sent_back owner_id patch.uid (of_for_some (λ n. n ≤ 4294967294) (Between 0 4294967294) (λ n g. (zero_least, g)) patch.uid right.uid) in
    let vid_back = whole_back next_id patch.vid (right.vid, below_top patch.vid typed.2) in
    let created_is = sent_is said (codes "created") _ _ refl created_back in
    let fields_is = read_is said (codes "fields") _ _ refl fields_back in
    let grants_is = sent_is said (codes "grants") _ _ refl grants_back in
    let path_is = sent_is said (codes "path") _ _ refl path_back in
    let promote_is = sent_is said (codes "promote") _ _ refl promote_back in
    let refs_is = sent_is said (codes "refs") _ _ refl refs_back in
    let status_is = sent_is said (codes "status") _ _ refl status_back in
    let sticky_is = sent_is said (codes "sticky") _ _ refl sticky_back in
    let terms_is = sent_is said (codes "terms") _ _ refl terms_back in
    let title_is = sent_is said (codes "title") _ _ refl title_back in
    let uid_is = sent_is said (codes "uid") _ _ refl uid_back in
    let vid_is = read_is said (codes "vid") _ _ refl vid_back in
    comes_back node_patch_in node_patch_keys said patch
    (created_back.fine, (fields_back.fine, (grants_back.fine, (path_back.fine, (promote_back.fine, (refs_back.fine, (status_back.fine, (sticky_back.fine, (terms_back.fine, (title_back.fine, (uid_back.fine, (vid_back.fine, tt)))))))))))) refl
    (λ i. record {
      created = created_is i;
      fields = fields_is i;
      grants = grants_is i;
      path = path_is i;
      promote = promote_is i;
      refs = refs_is i;
      status = status_is i;
      sticky = sticky_is i;
      terms = terms_is i;
      title = title_is i;
      uid = uid_is i;
      vid = vid_is i;
    })
