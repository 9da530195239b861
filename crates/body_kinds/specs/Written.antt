-- Bodies of edits as they are written: the keys that say something, in the order of their bytes. A key is left out where its
-- absence says the same.
use Rattle.std.specs.Prelude.{◌≡◌, ℕ, List, [], ◌∷◌, Bool, true, false, Option, Some, None, option_map, codes, IsTrue, ◌<◌}
use Rattle.std.specs.List.{AllByRecursion}
use Rattle.serde_json.specs.Data.{Data, boolean, string, array, object, Members, no_members, member}
use Rattle.json_keys.specs.Checked.{read_checked}
use Rattle.json_keys.specs.declared.checked.Checked.TheVariants as checked
use Rattle.json_keys.specs.declared.shape.Ask.{Ask}
use Rattle.content_rows.specs.LiteralName.{is_name}
use Rattle.content_rows.specs.declared.row.FieldValue.{FieldValue}
use Rattle.content_rows.specs.declared.row.GrantRow.{GrantRow}
use Rattle.row_kinds.specs.Look.{whole_data, text_data, option_data, items_data, texts_data, OrNone, IsNameText, IsTypedText}
use Rattle.row_kinds.specs.Rows.{grant_data, grant_row_data, IsTypedGrant, IsTypedGrantRow}
use Rattle.site_commands.specs.declared.body.FieldChange.{FieldChange}
use Rattle.site_commands.specs.declared.body.NewNode.{NewNode}
use Rattle.site_commands.specs.declared.body.NodePatch.{NodePatch}
use Rattle.site_commands.specs.declared.body.NewTerm.{NewTerm}
use Rattle.site_commands.specs.declared.body.TermPatch.{TermPatch}
use Rattle.site_commands.specs.declared.body.NewUser.{NewUser}
use Rattle.site_commands.specs.declared.body.UserPatch.{UserPatch}
use Rattle.site_commands.specs.declared.body.NewComment.{NewComment}
use Rattle.site_commands.specs.declared.body.CommentPatch.{CommentPatch}

-- keys, each with what it says, where it says something
abbrev pub Said : Type 0
Said = List (List ℕ × Option Data)

abbrev pub and_member : List ℕ → Option Data → Members → Members
and_member k None ms = ms
and_member k (Some d) ms = member k d ms

abbrev pub members_of : Said → Members
members_of [] = no_members
members_of (s ∷ ss) = and_member s.0 s.1 (members_of ss)

-- what is said reads as a body, and breaks no rule
abbrev pub ComesBack : {X : Type 0} → (Data → X) → List (List ℕ × Ask) → Said → X → Type 0
ComesBack of keys said x = read_checked of keys (object (members_of said)) ≡ checked.Right x

-- ---- values

abbrev pub list_data : {X : Type 0} → (X → Data) → List X → Data
list_data shown xs = array (items_data shown xs)

-- a list that has members
abbrev pub some_list : {X : Type 0} → (X → Data) → List X → Option Data
some_list shown [] = None
some_list shown (x ∷ xs) = Some (list_data shown (x ∷ xs))

-- a text that has bytes
abbrev pub some_text : List ℕ → Option Data
some_text [] = None
some_text (b ∷ t) = Some (text_data (b ∷ t))

-- a flag that is set
abbrev pub set_flag : Bool → Option Data
set_flag true = Some (boolean true)
set_flag false = None

-- the values of fields, where there are some
abbrev pub some_fields : List FieldValue → Option Data
some_fields [] = None
some_fields (f ∷ fs) = Some (object (texts_data (f ∷ fs)))

-- what becomes of fields: null takes a value away
abbrev pub changes_data : List FieldChange → Members
changes_data [] = no_members
changes_data (c ∷ cs) = member c.name (option_data text_data c.value) (changes_data cs)

abbrev pub some_changes : List FieldChange → Option Data
some_changes [] = None
some_changes (c ∷ cs) = Some (object (changes_data (c ∷ cs)))

-- ---- bodies

-- a node of a type
abbrev pub new_node_said : List ℕ → NewNode → Said
new_node_said kind new =
    (codes "created", option_map whole_data new.created)
    ∷ (codes "fields", some_fields new.fields)
    ∷ (codes "grants", some_list grant_row_data new.grants)
    ∷ (codes "path", option_map text_data new.path)
    ∷ (codes "promote", option_map boolean new.promote)
    ∷ (codes "refs", some_list whole_data new.refs)
    ∷ (codes "status", option_map boolean new.status)
    ∷ (codes "sticky", set_flag new.sticky)
    ∷ (codes "terms", some_list whole_data new.terms)
    ∷ (codes "title", Some (text_data new.title))
    ∷ (codes "type", Some (text_data kind))
    ∷ (codes "uid", option_map whole_data new.uid)
    ∷ (codes "uuid", Some (text_data new.uuid))
    ∷ []

abbrev pub node_patch_said : NodePatch → Said
node_patch_said patch =
    (codes "created", option_map whole_data patch.created)
    ∷ (codes "fields", some_changes patch.fields)
    ∷ (codes "grants", option_map (list_data grant_row_data) patch.grants)
    ∷ (codes "path", option_map (option_data text_data) patch.path)
    ∷ (codes "promote", option_map boolean patch.promote)
    ∷ (codes "refs", option_map (list_data whole_data) patch.refs)
    ∷ (codes "status", option_map boolean patch.status)
    ∷ (codes "sticky", option_map boolean patch.sticky)
    ∷ (codes "terms", option_map (list_data whole_data) patch.terms)
    ∷ (codes "title", option_map text_data patch.title)
    ∷ (codes "uid", option_map whole_data patch.uid)
    ∷ (codes "vid", Some (whole_data patch.vid))
    ∷ []

abbrev pub new_term_said : NewTerm → Said
new_term_said new =
    (codes "description", some_text new.description)
    ∷ (codes "name", Some (text_data new.name))
    ∷ (codes "parent", option_map whole_data new.parent)
    ∷ (codes "status", option_map boolean new.status)
    ∷ (codes "uuid", Some (text_data new.uuid))
    ∷ []

abbrev pub term_patch_said : TermPatch → Said
term_patch_said patch =
    (codes "description", option_map text_data patch.description)
    ∷ (codes "name", option_map text_data patch.name)
    ∷ (codes "parent", option_map (option_data whole_data) patch.parent)
    ∷ (codes "status", option_map boolean patch.status)
    ∷ []

abbrev pub new_user_said : NewUser → Said
new_user_said new =
    (codes "grants", some_list grant_data new.grants)
    ∷ (codes "name", Some (text_data new.name))
    ∷ (codes "pass", option_map text_data new.pass)
    ∷ (codes "roles", some_list text_data new.roles)
    ∷ (codes "status", option_map boolean new.status)
    ∷ (codes "uuid", Some (text_data new.uuid))
    ∷ []

abbrev pub user_patch_said : UserPatch → Said
user_patch_said patch =
    (codes "grants", option_map (list_data grant_data) patch.grants)
    ∷ (codes "name", option_map text_data patch.name)
    ∷ (codes "pass", option_map text_data patch.pass)
    ∷ (codes "roles", option_map (list_data text_data) patch.roles)
    ∷ (codes "status", option_map boolean patch.status)
    ∷ []

abbrev pub new_comment_said : NewComment → Said
new_comment_said new =
    (codes "body", Some (text_data new.body))
    ∷ (codes "parent", option_map whole_data new.parent)
    ∷ (codes "uuid", Some (text_data new.uuid))
    ∷ []

abbrev pub comment_patch_said : CommentPatch → Said
comment_patch_said patch =
    (codes "body", option_map text_data patch.body) ∷ (codes "status", option_map boolean patch.status) ∷ []

-- ---- what types say of their values

abbrev pub IsTypedChange : FieldChange → Type 0
IsTypedChange c = IsTrue (is_name c.name)

abbrev pub IsTypedNewNode : NewNode → Type 0
IsTypedNewNode new = AllByRecursion IsTypedText new.fields × AllByRecursion IsTypedGrantRow new.grants

abbrev pub IsTypedNodePatch : NodePatch → Type 0
IsTypedNodePatch patch = AllByRecursion IsTypedChange patch.fields × OrNone (AllByRecursion IsTypedGrantRow) patch.grants × (patch.vid < 4294967296)

abbrev pub IsTypedNewUser : NewUser → Type 0
IsTypedNewUser new = AllByRecursion IsTypedGrant new.grants × AllByRecursion IsNameText new.roles

abbrev pub IsTypedUserPatch : UserPatch → Type 0
IsTypedUserPatch patch = OrNone (AllByRecursion IsTypedGrant) patch.grants × OrNone (AllByRecursion IsNameText) patch.roles
