-- The kinds of rows: what is read of every object, what is written of every row, and what the types of a row's keys say of
-- their values.
use Rattle.std.specs.Prelude.{◌<◌, IsTrue, codes}
use Rattle.std.specs.List.{AllByRecursion}
use Rattle.serde_json.specs.Data.{Data, boolean, array, object, no_members, member}
use Rattle.content_rows.specs.LiteralName.{is_name}
use Rattle.content_rows.specs.declared.row.Grant.{Grant}
use Rattle.content_rows.specs.declared.row.GrantRow.{GrantRow}
use Rattle.content_rows.specs.declared.row.FieldRow.{FieldRow}
use Rattle.content_rows.specs.declared.row.Link.{Link}
use Rattle.content_rows.specs.declared.row.Site.{Site}
use Rattle.content_rows.specs.declared.row.Seq.{Seq}
use Rattle.content_rows.specs.declared.row.NodeType.{NodeType}
use Rattle.content_rows.specs.declared.row.Role.{Role}
use Rattle.content_rows.specs.declared.row.User.{User}
use Rattle.content_rows.specs.declared.row.Term.{Term}
use Rattle.content_rows.specs.declared.row.Node.{Node}
use Rattle.content_rows.specs.declared.row.Menu.{Menu}
use Rattle.content_rows.specs.declared.row.Listing.{Listing}
use Rattle.content_rows.specs.declared.row.Block.{Block}
use Rattle.content_rows.specs.declared.row.Session.{Session}
use Rattle.content_rows.specs.declared.row.Comment.{Comment}
use Rattle.content_rows.specs.declared.row.Talk.{Talk}
use Rattle.json_keys.specs.Fault.{members_in}
use Rattle.row_kinds.specs.Look.{value_at, flag_in, number_in, small_in, text_in, name_in, weight_in, kind_in, region_in, option_in, items_in, list_in, texts_in, whole_data, text_data, weight_data, kind_data, region_data, option_data, items_data, texts_data, OrNone, IsNameText, IsTypedText}

abbrev pub grant_in : Data → Grant
grant_in d = record {
  gid = small_in (value_at (codes "gid") d);
  realm = name_in (value_at (codes "realm") d);
}

abbrev pub grant_data : Grant → Data
grant_data x = object
    (member (codes "gid") (whole_data x.gid)
    (member (codes "realm") (text_data x.realm) no_members))

abbrev pub IsTypedGrant : Grant → Type 0
IsTypedGrant x = (x.gid < 4294967296) × IsTrue (is_name x.realm)

abbrev pub grant_row_in : Data → GrantRow
grant_row_in d = record {
  delete = flag_in (value_at (codes "delete") d);
  gid = small_in (value_at (codes "gid") d);
  realm = name_in (value_at (codes "realm") d);
  update = flag_in (value_at (codes "update") d);
  view = flag_in (value_at (codes "view") d);
}

abbrev pub grant_row_data : GrantRow → Data
grant_row_data x = object
    (member (codes "delete") (boolean x.delete)
    (member (codes "gid") (whole_data x.gid)
    (member (codes "realm") (text_data x.realm)
    (member (codes "update") (boolean x.update)
    (member (codes "view") (boolean x.view) no_members)))))

abbrev pub IsTypedGrantRow : GrantRow → Type 0
IsTypedGrantRow x = (x.gid < 4294967296) × IsTrue (is_name x.realm)

abbrev pub field_in : Data → FieldRow
field_in d = record {
  edit = option_in text_in (value_at (codes "edit") d);
  label = text_in (value_at (codes "label") d);
  name = name_in (value_at (codes "name") d);
  owner = flag_in (value_at (codes "owner") d);
  teaser = flag_in (value_at (codes "teaser") d);
  view = option_in text_in (value_at (codes "view") d);
}

abbrev pub field_data : FieldRow → Data
field_data x = object
    (member (codes "edit") (option_data text_data x.edit)
    (member (codes "label") (text_data x.label)
    (member (codes "name") (text_data x.name)
    (member (codes "owner") (boolean x.owner)
    (member (codes "teaser") (boolean x.teaser)
    (member (codes "view") (option_data text_data x.view) no_members))))))

abbrev pub IsTypedField : FieldRow → Type 0
IsTypedField x = IsTrue (is_name x.name)

abbrev pub link_in : Data → Link
link_in d = record {
  id = name_in (value_at (codes "id") d);
  parent = option_in name_in (value_at (codes "parent") d);
  path = text_in (value_at (codes "path") d);
  title = text_in (value_at (codes "title") d);
  weight = weight_in (value_at (codes "weight") d);
}

abbrev pub link_data : Link → Data
link_data x = object
    (member (codes "id") (text_data x.id)
    (member (codes "parent") (option_data text_data x.parent)
    (member (codes "path") (text_data x.path)
    (member (codes "title") (text_data x.title)
    (member (codes "weight") (weight_data x.weight) no_members)))))

abbrev pub IsTypedLink : Link → Type 0
IsTypedLink x = IsTrue (is_name x.id) × OrNone IsNameText x.parent

abbrev pub site_in : Data → Site
site_in d = record {
  front = text_in (value_at (codes "front") d);
  name = text_in (value_at (codes "name") d);
}

abbrev pub site_data : Site → Data
site_data x = object
    (member (codes "front") (text_data x.front)
    (member (codes "name") (text_data x.name) no_members))

abbrev pub seq_in : Data → Seq
seq_in d = record {
  node = small_in (value_at (codes "node") d);
  term = small_in (value_at (codes "term") d);
  user = small_in (value_at (codes "user") d);
}

abbrev pub seq_data : Seq → Data
seq_data x = object
    (member (codes "node") (whole_data x.node)
    (member (codes "term") (whole_data x.term)
    (member (codes "user") (whole_data x.user) no_members)))

abbrev pub IsTypedSeq : Seq → Type 0
IsTypedSeq x = (x.node < 4294967296) × (x.term < 4294967296) × (x.user < 4294967296)

abbrev pub type_in : Data → NodeType
type_in d = record {
  fields = list_in field_in (items_in (value_at (codes "fields") d));
  label = text_in (value_at (codes "label") d);
  submitted = flag_in (value_at (codes "submitted") d);
}

abbrev pub type_data : NodeType → Data
type_data x = object
    (member (codes "fields") (array (items_data field_data x.fields))
    (member (codes "label") (text_data x.label)
    (member (codes "submitted") (boolean x.submitted) no_members)))

abbrev pub IsTypedType : NodeType → Type 0
IsTypedType x = AllByRecursion IsTypedField x.fields

abbrev pub role_in : Data → Role
role_in d = record {
  admin = flag_in (value_at (codes "admin") d);
  grants = list_in grant_in (items_in (value_at (codes "grants") d));
  label = text_in (value_at (codes "label") d);
  permissions = list_in text_in (items_in (value_at (codes "permissions") d));
}

abbrev pub role_data : Role → Data
role_data x = object
    (member (codes "admin") (boolean x.admin)
    (member (codes "grants") (array (items_data grant_data x.grants))
    (member (codes "label") (text_data x.label)
    (member (codes "permissions") (array (items_data text_data x.permissions)) no_members))))

abbrev pub IsTypedRole : Role → Type 0
IsTypedRole x = AllByRecursion IsTypedGrant x.grants

abbrev pub user_in : Data → User
user_in d = record {
  created = number_in (value_at (codes "created") d);
  digest = option_in text_in (value_at (codes "digest") d);
  grants = list_in grant_in (items_in (value_at (codes "grants") d));
  name = text_in (value_at (codes "name") d);
  roles = list_in name_in (items_in (value_at (codes "roles") d));
  salt = text_in (value_at (codes "salt") d);
  status = flag_in (value_at (codes "status") d);
  uuid = text_in (value_at (codes "uuid") d);
}

abbrev pub user_data : User → Data
user_data x = object
    (member (codes "created") (whole_data x.created)
    (member (codes "digest") (option_data text_data x.digest)
    (member (codes "grants") (array (items_data grant_data x.grants))
    (member (codes "name") (text_data x.name)
    (member (codes "roles") (array (items_data text_data x.roles))
    (member (codes "salt") (text_data x.salt)
    (member (codes "status") (boolean x.status)
    (member (codes "uuid") (text_data x.uuid) no_members))))))))

abbrev pub IsTypedUser : User → Type 0
IsTypedUser x = AllByRecursion IsTypedGrant x.grants × AllByRecursion IsNameText x.roles

abbrev pub term_in : Data → Term
term_in d = record {
  description = text_in (value_at (codes "description") d);
  name = text_in (value_at (codes "name") d);
  parent = option_in small_in (value_at (codes "parent") d);
  status = flag_in (value_at (codes "status") d);
  uuid = text_in (value_at (codes "uuid") d);
}

abbrev pub term_data : Term → Data
term_data x = object
    (member (codes "description") (text_data x.description)
    (member (codes "name") (text_data x.name)
    (member (codes "parent") (option_data whole_data x.parent)
    (member (codes "status") (boolean x.status)
    (member (codes "uuid") (text_data x.uuid) no_members)))))

-- a term as it was written before terms had parents
abbrev pub old_term_data : Term → Data
old_term_data x = object
    (member (codes "description") (text_data x.description)
    (member (codes "name") (text_data x.name)
    (member (codes "status") (boolean x.status)
    (member (codes "uuid") (text_data x.uuid) no_members))))

abbrev pub node_in : Data → Node
node_in d = record {
  changed = number_in (value_at (codes "changed") d);
  created = number_in (value_at (codes "created") d);
  fields = texts_in (members_in (value_at (codes "fields") d));
  grants = list_in grant_row_in (items_in (value_at (codes "grants") d));
  path = option_in text_in (value_at (codes "path") d);
  promote = flag_in (value_at (codes "promote") d);
  refs = list_in small_in (items_in (value_at (codes "refs") d));
  status = flag_in (value_at (codes "status") d);
  sticky = flag_in (value_at (codes "sticky") d);
  terms = list_in small_in (items_in (value_at (codes "terms") d));
  title = text_in (value_at (codes "title") d);
  node_type = name_in (value_at (codes "type") d);
  uid = small_in (value_at (codes "uid") d);
  uuid = text_in (value_at (codes "uuid") d);
  vid = small_in (value_at (codes "vid") d);
}

abbrev pub node_data : Node → Data
node_data x = object
    (member (codes "changed") (whole_data x.changed)
    (member (codes "created") (whole_data x.created)
    (member (codes "fields") (object (texts_data x.fields))
    (member (codes "grants") (array (items_data grant_row_data x.grants))
    (member (codes "path") (option_data text_data x.path)
    (member (codes "promote") (boolean x.promote)
    (member (codes "refs") (array (items_data whole_data x.refs))
    (member (codes "status") (boolean x.status)
    (member (codes "sticky") (boolean x.sticky)
    (member (codes "terms") (array (items_data whole_data x.terms))
    (member (codes "title") (text_data x.title)
    (member (codes "type") (text_data x.node_type)
    (member (codes "uid") (whole_data x.uid)
    (member (codes "uuid") (text_data x.uuid)
    (member (codes "vid") (whole_data x.vid) no_members)))))))))))))))

abbrev pub IsTypedNode : Node → Type 0
IsTypedNode x = AllByRecursion IsTypedText x.fields × AllByRecursion IsTypedGrantRow x.grants × IsTrue (is_name x.node_type) × (x.vid < 4294967296)

abbrev pub menu_in : Data → Menu
menu_in d = record {
  label = text_in (value_at (codes "label") d);
  links = list_in link_in (items_in (value_at (codes "links") d));
}

abbrev pub menu_data : Menu → Data
menu_data x = object
    (member (codes "label") (text_data x.label)
    (member (codes "links") (array (items_data link_data x.links)) no_members))

abbrev pub IsTypedMenu : Menu → Type 0
IsTypedMenu x = AllByRecursion IsTypedLink x.links

abbrev pub listing_in : Data → Listing
listing_in d = record {
  age = option_in small_in (value_at (codes "age") d);
  path = option_in text_in (value_at (codes "path") d);
  promoted = flag_in (value_at (codes "promoted") d);
  recent = option_in small_in (value_at (codes "recent") d);
  term = option_in small_in (value_at (codes "term") d);
  title = text_in (value_at (codes "title") d);
  types = list_in name_in (items_in (value_at (codes "types") d));
}

abbrev pub listing_data : Listing → Data
listing_data x = object
    (member (codes "age") (option_data whole_data x.age)
    (member (codes "path") (option_data text_data x.path)
    (member (codes "promoted") (boolean x.promoted)
    (member (codes "recent") (option_data whole_data x.recent)
    (member (codes "term") (option_data whole_data x.term)
    (member (codes "title") (text_data x.title)
    (member (codes "types") (array (items_data text_data x.types)) no_members)))))))

abbrev pub IsTypedListing : Listing → Type 0
IsTypedListing x = AllByRecursion IsNameText x.types

abbrev pub block_in : Data → Block
block_in d = record {
  age = option_in small_in (value_at (codes "age") d);
  hide = flag_in (value_at (codes "hide") d);
  kind = kind_in (value_at (codes "kind") d);
  label = text_in (value_at (codes "label") d);
  name = option_in name_in (value_at (codes "name") d);
  paths = list_in text_in (items_in (value_at (codes "paths") d));
  region = region_in (value_at (codes "region") d);
  roles = list_in name_in (items_in (value_at (codes "roles") d));
  text = option_in text_in (value_at (codes "text") d);
  weight = weight_in (value_at (codes "weight") d);
}

abbrev pub block_data : Block → Data
block_data x = object
    (member (codes "age") (option_data whole_data x.age)
    (member (codes "hide") (boolean x.hide)
    (member (codes "kind") (kind_data x.kind)
    (member (codes "label") (text_data x.label)
    (member (codes "name") (option_data text_data x.name)
    (member (codes "paths") (array (items_data text_data x.paths))
    (member (codes "region") (region_data x.region)
    (member (codes "roles") (array (items_data text_data x.roles))
    (member (codes "text") (option_data text_data x.text)
    (member (codes "weight") (weight_data x.weight) no_members))))))))))

abbrev pub IsTypedBlock : Block → Type 0
IsTypedBlock x = OrNone IsNameText x.name × AllByRecursion IsNameText x.roles

abbrev pub session_in : Data → Session
session_in d = record {
  expires = number_in (value_at (codes "expires") d);
  uid = small_in (value_at (codes "uid") d);
}

abbrev pub session_data : Session → Data
session_data x = object
    (member (codes "expires") (whole_data x.expires)
    (member (codes "uid") (whole_data x.uid) no_members))

abbrev pub comment_in : Data → Comment
comment_in d = record {
  body = text_in (value_at (codes "body") d);
  created = number_in (value_at (codes "created") d);
  node = small_in (value_at (codes "node") d);
  parent = option_in small_in (value_at (codes "parent") d);
  status = flag_in (value_at (codes "status") d);
  uid = small_in (value_at (codes "uid") d);
  uuid = text_in (value_at (codes "uuid") d);
}

abbrev pub comment_data : Comment → Data
comment_data x = object
    (member (codes "body") (text_data x.body)
    (member (codes "created") (whole_data x.created)
    (member (codes "node") (whole_data x.node)
    (member (codes "parent") (option_data whole_data x.parent)
    (member (codes "status") (boolean x.status)
    (member (codes "uid") (whole_data x.uid)
    (member (codes "uuid") (text_data x.uuid) no_members)))))))

abbrev pub talk_in : Data → Talk
talk_in d = record {
  comment = small_in (value_at (codes "comment") d);
}

abbrev pub talk_data : Talk → Data
talk_data x = object
    (member (codes "comment") (whole_data x.comment) no_members)

abbrev pub IsTypedTalk : Talk → Type 0
IsTypedTalk x = x.comment < 4294967296
