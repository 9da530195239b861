-- A decision about access, as code hands it on.
use Rattle.std.specs.Prelude.{ℕ, List, Option}
use Rattle.std.specs.Option.{IsSome}
use Rattle.content_rows.specs.declared.row.NodeType.{NodeType}
use Rattle.site_access.specs.Access.{field_of_type}
pub use Rattle.site_access.specs.Noting.{decision_of}
pub use Rattle.site_access.specs.Viewing.{is_allowed}

-- a type that is there has a field of that name
abbrev pub HasField : Option NodeType → List ℕ → Type 0
HasField type name = IsSome (field_of_type name type)
