-- What a decision about access depends on is exactly what its plan meets: nothing that is read is left out, and nothing is
-- told that isn't read.
-- https://www.drupal.org/docs/drupal-apis/cache-api/cacheability-of-access-results
use Rattle.std.specs.Prelude.{ℕ, List, ◌≡◌, ◌↔◌, Contains}
use Rattle.cacheability.specs.declared.op.Op.{Op}
use Rattle.cacheability.specs.declared.cacheability.Cacheability.{Cacheability}
use Rattle.indexed_rows.specs.Rows.{node_of}
use Rattle.content_state.specs.Context.{Visit}
use Rattle.content_state.specs.Plan.{Plan}
use Rattle.content_state.specs.Met.{result_of, met}
use Rattle.site_access.specs.Access.{Access, access_to_node, access_to_create, access_to_found_field, owner_in, field_of}
use Rattle.site_access.specs.Plans.{node_access, create_access, field_access}
use Rattle.site_access.specs.Depends.{by_permissions, node_depends, found_field_depends}

-- two lists have the same members
abbrev pub HasSame : {A : Type 0} → List A → List A → Type 0
HasSame {A} xs ys = (x : A) → Contains xs x ↔ Contains ys x

-- on this visit the plan gives the answer x, and what it meets is what x depends on
pub record DecidesExactly (p : Plan Access) (v : Visit) (x : Access) (depends : Cacheability) : Type 0 where
  pub answer : result_of p v ≡ x
  pub tags : HasSame (met p v).tags depends.tags
  pub contexts : HasSame (met p v).contexts depends.contexts
  pub age : (met p v).age ≡ depends.max_age

abbrev pub NodeAccessIsExact : Type 0
NodeAccessIsExact =
    (op : Op) (n : ℕ) (v : Visit)
    → DecidesExactly (node_access op n) v (access_to_node v.rows v.viewer op n) (node_depends v.rows v.viewer op n)

abbrev pub CreateAccessIsExact : Type 0
CreateAccessIsExact =
    (type : List ℕ) (v : Visit) → DecidesExactly (create_access type) v (access_to_create v.rows v.viewer type) by_permissions

abbrev pub FieldAccessIsExact : Type 0
FieldAccessIsExact =
    (op : Op) (n : ℕ) (type name : List ℕ) (v : Visit)
    → DecidesExactly (field_access op n type name) v (access_to_found_field v.rows v.viewer op (owner_in (node_of v.rows n)) name (field_of v.rows type name)) (found_field_depends op n type (field_of v.rows type name))
