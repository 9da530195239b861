-- The plans of access give the plain answers: whatever a plan gives on a visit is what the votes, the permissions and
-- the owners say.
use Rattle.std.specs.Prelude.{ℕ, List, ◌≡◌}
use Rattle.cacheability.specs.declared.op.Op.{Op}
use Rattle.content_state.specs.declared.element.Library.{Library}
use Rattle.content_state.specs.Context.{Visit}
use Rattle.content_state.specs.Plan.{Piece, Plan, Needs, Made}
use Rattle.site_access.specs.Access.{access_to_node, access_to_create, access_to_found_field, owner_in, field_of}
use Rattle.site_access.specs.Plans.{node_access, create_access, field_access}
use Rattle.indexed_rows.specs.Rows.{node_of}

-- what the plan gives on a visit, if it gives anything, is x
abbrev pub GivesOnly : {A : Type 0} → Plan A → Visit → A → Type 0
GivesOnly {A} p v x = (y : A) (shown : List Piece) (libraries : List Library) (needs : Needs) → Made p v y shown libraries needs → y ≡ x

abbrev pub NodePlanAnswers : Type 0
NodePlanAnswers = (op : Op) (n : ℕ) (v : Visit) → GivesOnly (node_access op n) v (access_to_node v.rows v.viewer op n)

abbrev pub CreatePlanAnswers : Type 0
CreatePlanAnswers = (type : List ℕ) (v : Visit) → GivesOnly (create_access type) v (access_to_create v.rows v.viewer type)

abbrev pub FieldPlanAnswers : Type 0
FieldPlanAnswers = (op : Op) (n : ℕ) (type name : List ℕ) (v : Visit) → GivesOnly (field_access op n type name) v (access_to_found_field v.rows v.viewer op (owner_in (node_of v.rows n)) name (field_of v.rows type name))
