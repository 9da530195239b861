-- Content types, terms and nodes: what is let through is right, what is right comes back, and what is let through is
-- written again as it was.
use Rattle.std.proofs.Common.{◌≡◌, List, true, None, is_some, option_map, map, refl, sym, ap, codes}
use Rattle.std.specs.List.{IsDistinct}
use Rattle.std.specs.Str.{bytes_eq}
use Rattle.serde_json.specs.Data.{Data, array}
use Rattle.serde_json.specs.Find.{get}
use Rattle.content_rows.specs.Kinds.{IsId, is_permission, is_path}
use Rattle.content_rows.specs.ValidRow.{IsValidField, IsValidNodeType, IsValidTerm, IsValidNode}
use Rattle.json_keys.specs.Fault.{ask_fault, is_wanted, entry_fault, always, row_fault, columns_of, shape_fault, members_in}
use Rattle.json_keys.specs.Order.{AllInOrder}
use Rattle.json_keys.proofs.Held.{object_fine}
use Rattle.row_kinds.specs.Look.{value_at, with_cell, small_in, option_in, list_in, items_in, items_data, OrNone}
use Rattle.row_kinds.specs.Rows.{grant_row_in, grant_row_data, field_in, field_data, type_in, type_data, term_in, term_data, old_term_data, node_in, node_data, IsTypedField, IsTypedGrantRow, IsTypedNode, IsTypedType}
use Rattle.row_kinds.specs.Tables.{type_row, term_row, node_row, type_keys, node_keys}
use Rattle.row_kinds.proofs.Codec.{Codec, Back, any, Between, ComesBack}
use Rattle.row_kinds.proofs.Fields.{fields}
use Rattle.row_kinds.proofs.Keys.{zero_least, below_top, below_next, gid, next_id, owner_id, moment, maybe_line, maybe_path, maybe_id, ids}
use Rattle.row_kinds.proofs.Lists.{table, IsListOf, each_of, of_each, both_of, weaker, some_passes, of_some_passes, for_some, of_for_some}
use Rattle.row_kinds.proofs.Numbers.{flag}
use Rattle.row_kinds.proofs.Objects.{good, keeps, keeps_sent, read_right, rebuilt, columns_passed, held, IsHeld, IsPassed}
use Rattle.row_kinds.proofs.Strings.{line, body, uuid, name}
use Rattle.content_rows.specs.declared.row.GrantRow.{GrantRow}
use Rattle.content_rows.specs.declared.row.FieldRow.{FieldRow}
use Rattle.content_rows.specs.declared.row.NodeType.{NodeType}
use Rattle.content_rows.specs.declared.row.Term.{Term}
use Rattle.content_rows.specs.declared.row.Node.{Node}
use Rattle.json_keys.specs.declared.shape.Columns.TheVariants as columns
use Rattle.json_keys.specs.declared.shape.Shape.TheVariants as shape

abbrev IsGoodField : FieldRow → Type 0
IsGoodField x = IsValidField x × IsTypedField x

field_right : (d : Data) → AllInOrder d → row_fault columns.Field d ≡ None → IsGoodField (field_in d)
field_right d o h =
    let p = held (columns_passed columns.Field d o h) in
    let edit_is = good p (codes "edit") _ refl refl (maybe_line 128) in
    let label_is = good p (codes "label") _ refl refl (line 64) in
    let name_is = good p (codes "name") _ refl refl name in
    let view_is = good p (codes "view") _ refl refl (maybe_line 128) in (
      record {
        edit = some_passes is_permission (field_in d).edit edit_is;
        label = label_is;
        view = some_passes is_permission (field_in d).view view_is;
      },
      name_is,
    )

field_back : (x : FieldRow) → IsGoodField x → Back (row_fault columns.Field) field_in field_data x
field_back x (v, t) =
    let edit_back = (maybe_line 128).back x.edit (of_some_passes is_permission x.edit v.edit) in
    let label_back = (line 64).back x.label v.label in
    let name_back = name.back x.name t in
    let view_back = (maybe_line 128).back x.view (of_some_passes is_permission x.view v.view) in
    (ap (option_map (λ f. f.1)) (object_fine entry_fault always (columns_of columns.Field) (members_in (field_data x)) (edit_back.0, (label_back.0, (name_back.0, (refl, (refl, (view_back.0, tt)))))) refl), λ i. record { edit = edit_back.1 i; label = label_back.1 i; name = name_back.1 i; owner = x.owner; teaser = x.teaser; view = view_back.1 i })

field_kept : (d : Data) → AllInOrder d → row_fault columns.Field d ≡ None → field_data (field_in d) ≡ d
field_kept d o h =
    let p = columns_passed columns.Field d o h in
    rebuilt p (codes "edit") _ refl refl (members_in (field_data (field_in d))) refl refl (
      keeps p (codes "edit") _ refl refl (maybe_line 128),
      (
        keeps p (codes "label") _ refl refl (line 64),
        (
          keeps p (codes "name") _ refl refl name,
          (
            keeps p (codes "owner") _ refl refl flag,
            (
              keeps p (codes "teaser") _ refl refl flag,
              (keeps p (codes "view") _ refl refl (maybe_line 128), tt),
            ),
          ),
        ),
      ),
    )

field : Codec FieldRow (row_fault columns.Field) field_in field_data IsGoodField
field = record { right = field_right; back = field_back; kept = field_kept }

fields_of_type : Codec (List FieldRow) (shape_fault (shape.Table 32 columns.Field)) (λ d. list_in field_in (items_in d)) (λ xs. array (items_data field_data xs)) (IsListOf 32 IsGoodField)
fields_of_type = table 32 columns.Field field

pub type_right : (d : Data) → IsHeld ask_fault is_wanted type_keys d → IsDistinct bytes_eq (map (λ f. f.name) (type_in d).fields) → IsValidNodeType (type_in d) × IsTypedType (type_in d)
type_right d p once =
    let fields_is = good p (codes "fields") _ refl refl fields_of_type in
    let label_is = good p (codes "label") _ refl refl (line 255) in (
      record {
        few_fields = fields_is.0;
        fields = each_of IsValidField (type_in d).fields (weaker IsGoodField IsValidField (λ f g. g.0) (type_in d).fields fields_is.1);
        label = label_is;
        once = once;
      },
      weaker IsGoodField IsTypedField (λ f g. g.1) (type_in d).fields fields_is.1,
    )

pub type_back : (cell : Data) (x : NodeType) → IsValidNodeType x → IsTypedType x → ComesBack type_row type_in (with_cell cell type_data) x
type_back cell x v t =
    let fields_back = fields_of_type.back x.fields (v.few_fields, both_of IsValidField IsTypedField x.fields (of_each IsValidField x.fields v.fields) t) in
    let label_back = (line 255).back x.label v.label in (
      object_fine ask_fault is_wanted type_row (members_in (with_cell cell type_data x)) (refl, (fields_back.0, (label_back.0, (refl, tt)))) refl,
      λ i. record {
        fields = fields_back.1 i;
        label = label_back.1 i;
        submitted = x.submitted;
      },
    )

pub type_kept : (d : Data) → IsPassed ask_fault is_wanted type_row d → with_cell (value_at (codes "cell") d) type_data (type_in d) ≡ d
type_kept d p =
    rebuilt p (codes "cell") _ refl refl (members_in (with_cell (value_at (codes "cell") d) type_data (type_in d))) refl refl (
      keeps p (codes "cell") _ refl refl any,
      (
        keeps p (codes "fields") _ refl refl fields_of_type,
        (
          keeps p (codes "label") _ refl refl (line 255),
          (keeps p (codes "submitted") _ refl refl flag, tt),
        ),
      ),
    )

pub term_right : (d : Data) → IsPassed ask_fault is_wanted term_row d → IsValidTerm (term_in d)
term_right d p =
    let there = held p in
    let description_is = good there (codes "description") _ refl refl body in
    let name_is = good there (codes "name") _ refl refl (line 255) in
    let parent_is = read_right (option_in small_in) (OrNone (Between 1 4294967294)) p (codes "parent") _ refl maybe_id.right tt in
    let uuid_is = good there (codes "uuid") _ refl refl uuid in
    record {
      description = description_is;
      name = name_is;
      parent = for_some (Between 1 4294967294) IsId (λ n g. g) (term_in d).parent parent_is;
      uuid = uuid_is;
    }

pub term_back : (cell : Data) (x : Term) → IsValidTerm x → ComesBack term_row term_in (with_cell cell term_data) x
term_back cell x v =
    let description_back = body.back x.description v.description in
    let name_back = (line 255).back x.name v.name in
    let parent_back = maybe_id.back x.parent (of_for_some IsId (Between 1 4294967294) (λ n g. g) x.parent v.parent) in
    let uuid_back = uuid.back x.uuid v.uuid in (
      object_fine ask_fault is_wanted term_row (members_in (with_cell cell term_data x)) (refl, (description_back.0, (name_back.0, (parent_back.0, (refl, (uuid_back.0, tt)))))) refl,
      λ i. record {
        description = description_back.1 i;
        name = name_back.1 i;
        parent = parent_back.1 i;
        status = x.status;
        uuid = uuid_back.1 i;
      },
    )

-- a term at the top comes back also where it was written before terms had parents
pub old_term_back : (cell : Data) (x : Term) → IsValidTerm x → x.parent ≡ None → ComesBack term_row term_in (with_cell cell old_term_data) x
old_term_back cell x v top =
    let description_back = body.back x.description v.description in
    let name_back = (line 255).back x.name v.name in
    let uuid_back = uuid.back x.uuid v.uuid in (
      object_fine ask_fault is_wanted term_row (members_in (with_cell cell old_term_data x)) (refl, (description_back.0, (name_back.0, (refl, (uuid_back.0, tt))))) refl,
      λ i. record {
        description = description_back.1 i;
        name = name_back.1 i;
        parent = sym top i;
        status = x.status;
        uuid = uuid_back.1 i;
      },
    )

-- where the key `parent` is there
pub term_kept : (d : Data) → IsPassed ask_fault is_wanted term_row d → is_some (get (codes "parent") d) ≡ true → with_cell (value_at (codes "cell") d) term_data (term_in d) ≡ d
term_kept d p there =
    rebuilt p (codes "cell") _ refl refl (members_in (with_cell (value_at (codes "cell") d) term_data (term_in d))) refl refl (
      keeps p (codes "cell") _ refl refl any,
      (
        keeps p (codes "description") _ refl refl body,
        (
          keeps p (codes "name") _ refl refl (line 255),
          (
            keeps_sent p (codes "parent") _ refl there maybe_id,
            (
              keeps p (codes "status") _ refl refl flag,
              (keeps p (codes "uuid") _ refl refl uuid, tt),
            ),
          ),
        ),
      ),
    )

grant_row_right : (d : Data) → AllInOrder d → row_fault columns.GrantRow d ≡ None → IsTypedGrantRow (grant_row_in d)
grant_row_right d o h =
    let p = held (columns_passed columns.GrantRow d o h) in
    let gid_is = good p (codes "gid") _ refl refl gid in
    let realm_is = good p (codes "realm") _ refl refl name in
    (below_next (grant_row_in d).gid gid_is.1, realm_is)

grant_row_back : (x : GrantRow) → IsTypedGrantRow x → Back (row_fault columns.GrantRow) grant_row_in grant_row_data x
grant_row_back x t =
    let gid_back = gid.back x.gid (zero_least, below_top x.gid t.0) in
    let realm_back = name.back x.realm t.1 in
    (ap (option_map (λ f. f.1)) (object_fine entry_fault always (columns_of columns.GrantRow) (members_in (grant_row_data x)) (refl, (gid_back.0, (realm_back.0, (refl, (refl, tt))))) refl), λ i. record { delete = x.delete; gid = gid_back.1 i; realm = realm_back.1 i; update = x.update; view = x.view })

grant_row_kept : (d : Data) → AllInOrder d → row_fault columns.GrantRow d ≡ None → grant_row_data (grant_row_in d) ≡ d
grant_row_kept d o h =
    let p = columns_passed columns.GrantRow d o h in
    rebuilt p (codes "delete") _ refl refl (members_in (grant_row_data (grant_row_in d))) refl refl (
      keeps p (codes "delete") _ refl refl flag,
      (
        keeps p (codes "gid") _ refl refl gid,
        (
          keeps p (codes "realm") _ refl refl name,
          (
            keeps p (codes "update") _ refl refl flag,
            (keeps p (codes "view") _ refl refl flag, tt),
          ),
        ),
      ),
    )

grant_row : Codec GrantRow (row_fault columns.GrantRow) grant_row_in grant_row_data IsTypedGrantRow
grant_row = record { right = grant_row_right; back = grant_row_back; kept = grant_row_kept }

pub grant_rows : Codec (List GrantRow) (shape_fault (shape.Table 64 columns.GrantRow)) (λ d. list_in grant_row_in (items_in d)) (λ xs. array (items_data grant_row_data xs)) (IsListOf 64 IsTypedGrantRow)
grant_rows = table 64 columns.GrantRow grant_row

pub node_right : (d : Data) → IsHeld ask_fault is_wanted node_keys d → IsValidNode (node_in d) × IsTypedNode (node_in d)
node_right d p =
    let changed_is = good p (codes "changed") _ refl refl moment in
    let created_is = good p (codes "created") _ refl refl moment in
    let fields_is = good p (codes "fields") _ refl refl fields in
    let grants_is = good p (codes "grants") _ refl refl grant_rows in
    let path_is = good p (codes "path") _ refl refl maybe_path in
    let refs_is = good p (codes "refs") _ refl refl (ids 8) in
    let terms_is = good p (codes "terms") _ refl refl (ids 32) in
    let title_is = good p (codes "title") _ refl refl (line 255) in
    let type_is = good p (codes "type") _ refl refl name in
    let uid_is = good p (codes "uid") _ refl refl owner_id in
    let uuid_is = good p (codes "uuid") _ refl refl uuid in
    let vid_is = good p (codes "vid") _ refl refl next_id in (
      record {
        changed = changed_is.1;
        created = created_is.1;
        field_texts = fields_is.texts;
        by_name = fields_is.by_name;
        few_grants = grants_is.0;
        path = some_passes is_path (node_in d).path path_is;
        few_refs = refs_is.0;
        refs = each_of IsId (node_in d).refs refs_is.1;
        few_terms = terms_is.0;
        terms = each_of IsId (node_in d).terms terms_is.1;
        title = title_is;
        uid = uid_is.1;
        uuid = uuid_is;
        vid = vid_is.0;
      },
      (fields_is.typed, grants_is.1, type_is, below_next (node_in d).vid vid_is.1),
    )

pub node_back : (cell : Data) (x : Node) → IsValidNode x → IsTypedNode x → ComesBack node_row node_in (with_cell cell node_data) x
node_back cell x v t =
    let changed_back = moment.back x.changed (zero_least, v.changed) in
    let created_back = moment.back x.created (zero_least, v.created) in
    let fields_back = fields.back x.fields (record { typed = t.0; texts = v.field_texts; by_name = v.by_name }) in
    let grants_back = grant_rows.back x.grants (v.few_grants, t.1) in
    let path_back = maybe_path.back x.path (of_some_passes is_path x.path v.path) in
    let refs_back = (ids 8).back x.refs (v.few_refs, of_each IsId x.refs v.refs) in
    let terms_back = (ids 32).back x.terms (v.few_terms, of_each IsId x.terms v.terms) in
    let title_back = (line 255).back x.title v.title in
    let type_back = name.back x.node_type t.2 in
    let uid_back = owner_id.back x.uid (zero_least, v.uid) in
    let uuid_back = uuid.back x.uuid v.uuid in
    let vid_back = next_id.back x.vid (v.vid, below_top x.vid t.3) in (
      object_fine ask_fault is_wanted node_row (members_in (with_cell cell node_data x)) (refl, (changed_back.0, (created_back.0, (fields_back.0, (grants_back.0, (path_back.0, (refl, (refs_back.0, (refl, (refl, (terms_back.0, (title_back.0, (type_back.0, (uid_back.0, (uuid_back.0, (vid_back.0, tt)))))))))))))))) refl,
      λ i. record {
        changed = changed_back.1 i;
        created = created_back.1 i;
        fields = fields_back.1 i;
        grants = grants_back.1 i;
        path = path_back.1 i;
        promote = x.promote;
        refs = refs_back.1 i;
        status = x.status;
        sticky = x.sticky;
        terms = terms_back.1 i;
        title = title_back.1 i;
        node_type = type_back.1 i;
        uid = uid_back.1 i;
        uuid = uuid_back.1 i;
        vid = vid_back.1 i;
      },
    )

pub node_kept : (d : Data) → IsPassed ask_fault is_wanted node_row d → with_cell (value_at (codes "cell") d) node_data (node_in d) ≡ d
node_kept d p =
    rebuilt p (codes "cell") _ refl refl (members_in (with_cell (value_at (codes "cell") d) node_data (node_in d))) refl refl (
      keeps p (codes "cell") _ refl refl any,
      (
        keeps p (codes "changed") _ refl refl moment,
        (
          keeps p (codes "created") _ refl refl moment,
          (
            keeps p (codes "fields") _ refl refl fields,
            (
              keeps p (codes "grants") _ refl refl grant_rows,
              (
                keeps p (codes "path") _ refl refl maybe_path,
                (
                  keeps p (codes "promote") _ refl refl flag,
                  (
                    keeps p (codes "refs") _ refl refl (ids 8),
                    (
                      keeps p (codes "status") _ refl refl flag,
                      (
                        keeps p (codes "sticky") _ refl refl flag,
                        (
                          keeps p (codes "terms") _ refl refl (ids 32),
                          (
                            keeps p (codes "title") _ refl refl (line 255),
                            (
                              keeps p (codes "type") _ refl refl name,
                              (
                                keeps p (codes "uid") _ refl refl owner_id,
                                (
                                  keeps p (codes "uuid") _ refl refl uuid,
                                  (keeps p (codes "vid") _ refl refl next_id, tt),
                                ),
                              ),
                            ),
                          ),
                        ),
                      ),
                    ),
                  ),
                ),
              ),
            ),
          ),
        ),
      ),
    )
