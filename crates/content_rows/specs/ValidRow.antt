-- What makes one row right, by itself. What the type of a key says is not said again: that a machine name is one,
-- and that a number of 32 bits is below 2^32.
use Rattle.std.specs.Prelude.{[], length, Bool, true, false, ◌||◌, ◌≡◌, ◌≤◌, IsTrue, All, is_some, is_none, map}
use Rattle.std.specs.List.{list_all, IsDistinct}
use Rattle.std.specs.List.Sorted.{IsStrictlySortedBy}
use Rattle.std.specs.Option.{ForSome}
use Rattle.std.specs.Ordering.{nat_cmp}
use Rattle.std.specs.Cmp.Lexicographic.{slice_cmp}
use Rattle.std.specs.Str.{bytes_eq}
use Rattle.content_rows.specs.Kinds.{IsMoment, IsId, IsAge, IsSpan, IsWeight, is_line, is_text, is_comment_body, is_uuid, is_permission, is_hex, is_target, is_path, is_listing_path, is_block_path, none_or}
use Rattle.content_rows.specs.MenuTree.{has_its_parent, reaches_top}
use Rattle.content_rows.specs.declared.cell.Cell.{Cell}
use Rattle.content_rows.specs.declared.cell.Cell.TheVariants as cell
use Rattle.content_rows.specs.declared.row.Row.{Row}
use Rattle.content_rows.specs.declared.row.Row.TheVariants as row
use Rattle.content_rows.specs.declared.row.Site.{Site}
use Rattle.content_rows.specs.declared.row.Seq.{Seq}
use Rattle.content_rows.specs.declared.row.FieldRow.{FieldRow}
use Rattle.content_rows.specs.declared.row.NodeType.{NodeType}
use Rattle.content_rows.specs.declared.row.Role.{Role}
use Rattle.content_rows.specs.declared.row.User.{User}
use Rattle.content_rows.specs.declared.row.Term.{Term}
use Rattle.content_rows.specs.declared.row.Node.{Node}
use Rattle.content_rows.specs.declared.row.Link.{Link}
use Rattle.content_rows.specs.declared.row.Menu.{Menu}
use Rattle.content_rows.specs.declared.row.Listing.{Listing}
use Rattle.content_rows.specs.declared.row.BlockKind.{BlockKind}
use Rattle.content_rows.specs.declared.row.BlockKind.TheVariants as kind
use Rattle.content_rows.specs.declared.row.Block.{Block}
use Rattle.content_rows.specs.declared.row.Session.{Session}
use Rattle.content_rows.specs.declared.row.Comment.{Comment}
use Rattle.content_rows.specs.declared.row.Talk.{Talk}

pub record IsValidSite (r : Site) : Type 0 where
  pub front : IsTrue (is_target r.front)
  pub name : IsTrue (is_line 255 r.name)

pub record IsValidSeq (r : Seq) : Type 0 where
  pub node : 1 ≤ r.node
  pub term : 1 ≤ r.term
  pub user : 1 ≤ r.user

pub record IsValidField (f : FieldRow) : Type 0 where
  pub edit : IsTrue (none_or is_permission f.edit)
  pub label : IsTrue (is_line 64 f.label)
  pub view : IsTrue (none_or is_permission f.view)

-- each field's name is there once
pub record IsValidNodeType (r : NodeType) : Type 0 where
  pub few_fields : length r.fields ≤ 32
  pub fields : All IsValidField r.fields
  pub label : IsTrue (is_line 255 r.label)
  pub once : IsDistinct bytes_eq (map (λ f. f.name) r.fields)

pub record IsValidRole (r : Role) : Type 0 where
  pub few_grants : length r.grants ≤ 64
  pub label : IsTrue (is_line 255 r.label)
  pub few_permissions : length r.permissions ≤ 256
  pub permissions : IsTrue (list_all is_permission r.permissions)

-- a user without a digest cannot log in
pub record IsValidUser (r : User) : Type 0 where
  pub created : IsMoment r.created
  pub digest : IsTrue (none_or (is_hex 64) r.digest)
  pub few_grants : length r.grants ≤ 64
  pub name : IsTrue (is_line 60 r.name)
  pub few_roles : length r.roles ≤ 32
  pub salt : IsTrue (is_hex 32 r.salt || bytes_eq r.salt [])
  pub uuid : IsTrue (is_uuid r.uuid)

pub record IsValidTerm (r : Term) : Type 0 where
  pub description : IsTrue (is_text r.description)
  pub name : IsTrue (is_line 255 r.name)
  pub parent : ForSome r.parent IsId
  pub uuid : IsTrue (is_uuid r.uuid)

-- the values of fields are a map: by the bytes of their names, each name once
pub record IsValidNode (r : Node) : Type 0 where
  pub changed : IsMoment r.changed
  pub created : IsMoment r.created
  pub field_texts : IsTrue (list_all (λ f. is_text f.value) r.fields)
  pub by_name : IsStrictlySortedBy (slice_cmp nat_cmp) (map (λ f. f.name) r.fields)
  pub few_grants : length r.grants ≤ 64
  pub path : IsTrue (none_or is_path r.path)
  pub few_refs : length r.refs ≤ 8
  pub refs : All IsId r.refs
  pub few_terms : length r.terms ≤ 32
  pub terms : All IsId r.terms
  pub title : IsTrue (is_line 255 r.title)
  pub uid : r.uid ≤ 4294967294
  pub uuid : IsTrue (is_uuid r.uuid)
  pub vid : 1 ≤ r.vid

pub record IsValidLink (l : Link) : Type 0 where
  pub path : IsTrue (is_target l.path)
  pub title : IsTrue (is_line 255 l.title)
  pub weight : IsWeight l.weight

-- each link's id is there once, each parent is a link of the menu, no link stands under itself, and none is deeper
-- than nine links, itself and the one at the top counted (MenuTreeStorage::MAX_DEPTH of Drupal's Menu API)
pub record IsValidMenu (r : Menu) : Type 0 where
  pub label : IsTrue (is_line 255 r.label)
  pub few_links : length r.links ≤ 256
  pub links : All IsValidLink r.links
  pub once : IsDistinct bytes_eq (map (λ l. l.id) r.links)
  pub parents_present : IsTrue (list_all (has_its_parent r.links) r.links)
  pub no_cycle : IsTrue (list_all (reaches_top (length r.links) r.links) r.links)
  pub shallow : IsTrue (list_all (reaches_top 9 r.links) r.links)

-- an age goes with a span, and with nothing else
pub record IsValidListing (r : Listing) : Type 0 where
  pub age : ForSome r.age IsAge
  pub path : IsTrue (none_or is_listing_path r.path)
  pub recent : ForSome r.recent IsSpan
  pub term : ForSome r.term IsId
  pub title : IsTrue (is_line 255 r.title)
  pub few_types : length r.types ≤ 32
  pub paired : is_none r.age ≡ is_none r.recent

abbrev pub is_clock : BlockKind → Bool
is_clock kind.Clock = true
is_clock _ = false

abbrev pub is_placed_text : BlockKind → Bool
is_placed_text kind.Text = true
is_placed_text _ = false

-- a block of a menu or of a listing
abbrev pub has_name : BlockKind → Bool
has_name kind.Menu = true
has_name kind.Listing = true
has_name _ = false

-- a clock alone has an age, a menu or a listing alone a name, and a text alone a text
pub record IsValidBlock (r : Block) : Type 0 where
  pub age : ForSome r.age IsAge
  pub label : IsTrue (is_line 255 r.label || bytes_eq r.label [])
  pub few_paths : length r.paths ≤ 32
  pub paths : IsTrue (list_all is_block_path r.paths)
  pub few_roles : length r.roles ≤ 32
  pub text : IsTrue (none_or is_text r.text)
  pub weight : IsWeight r.weight
  pub age_paired : is_some r.age ≡ is_clock r.kind
  pub name_paired : is_some r.name ≡ has_name r.kind
  pub text_paired : is_some r.text ≡ is_placed_text r.kind

pub record IsValidSession (r : Session) : Type 0 where
  pub expires : IsMoment r.expires
  pub uid : IsId r.uid

-- that the node, the user and the parent are there, and that the parent is on the same node, other rows say
pub record IsValidComment (r : Comment) : Type 0 where
  pub body : IsTrue (is_comment_body r.body)
  pub created : IsMoment r.created
  pub node : IsId r.node
  pub parent : ForSome r.parent IsId
  pub uid : r.uid ≤ 4294967294
  pub uuid : IsTrue (is_uuid r.uuid)

pub record IsValidTalk (r : Talk) : Type 0 where
  pub comment : 1 ≤ r.comment

-- the row is of the cell's kind, and meets all the rules of that kind
abbrev pub IsValidRow : Cell → Row → Type 0
IsValidRow cell.Site (row.Site r) = IsValidSite r
IsValidRow cell.Seq (row.Seq r) = IsValidSeq r
IsValidRow (cell.NodeType name) (row.NodeType r) = IsValidNodeType r
IsValidRow (cell.Role name) (row.Role r) = IsValidRole r
IsValidRow (cell.User id) (row.User r) = IsId id × IsValidUser r
IsValidRow (cell.Term id) (row.Term r) = IsId id × IsValidTerm r
IsValidRow (cell.Node id) (row.Node r) = IsId id × IsValidNode r
IsValidRow (cell.Menu name) (row.Menu r) = IsValidMenu r
IsValidRow (cell.Listing name) (row.Listing r) = IsValidListing r
IsValidRow (cell.Block name) (row.Block r) = IsValidBlock r
IsValidRow (cell.Session name) (row.Session r) = IsValidSession r
IsValidRow (cell.Comment id) (row.Comment r) = IsId id × IsValidComment r
IsValidRow cell.Talk (row.Talk r) = IsValidTalk r
IsValidRow _ _ = ⊥
