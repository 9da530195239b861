-- Exactly what a plan gives and meets on a visit, where each reading of the clock gives the visit's moment.
-- https://www.drupal.org/docs/drupal-apis/render-api/cacheability-of-render-arrays
use Rattle.std.specs.Prelude.{List, [], ◌∷◌, ◌++◌}
use Rattle.cacheability.specs.declared.tag.Tag.{Tag}
use Rattle.cacheability.specs.declared.context.Context.{Context}
use Rattle.cacheability.specs.declared.max_age.MaxAge.{MaxAge}
use Rattle.cacheability.specs.declared.max_age.MaxAge.TheVariants.{Permanent, Seconds}
use Rattle.cacheability.specs.MaxAge.{least}
use Rattle.content_state.specs.declared.element.Hole.{Hole}
use Rattle.content_state.specs.Read.{answer, cover}
use Rattle.content_state.specs.Context.{Visit, value}
use Rattle.content_state.specs.Plan.{Plan, Done, Write, Attach, Reading, Asking, Clock, Part}

-- the tags that cover what was read, the contexts that were asked for, the least age of the readings of the clock, and
-- the places that were left open, in their order
pub record Met : Type 0 where
  pub tags : List Tag
  pub contexts : List Context
  pub age : MaxAge
  pub places : List Hole

abbrev pub met_nothing : Met
met_nothing = record { tags = []; contexts = []; age = Permanent; places = [] }

-- what one reading, one question, one look at the clock and one open place meet
abbrev pub met_tags : List Tag → Met
met_tags tags = record { tags = tags; contexts = []; age = Permanent; places = [] }

abbrev pub met_context : Context → Met
met_context c = record { tags = []; contexts = c ∷ []; age = Permanent; places = [] }

abbrev pub met_age : MaxAge → Met
met_age age = record { tags = []; contexts = []; age = age; places = [] }

abbrev pub met_place : Hole → Met
met_place h = record { tags = []; contexts = []; age = Permanent; places = h ∷ [] }

-- one after the other
abbrev pub met_both : Met → Met → Met
met_both a b =
    record {
      tags = a.tags ++ b.tags;
      contexts = a.contexts ++ b.contexts;
      age = least a.age b.age;
      places = a.places ++ b.places;
    }

-- what the plan gives
abbrev pub result_of : {A : Type 0} → Plan A → Visit → A
result_of (Done a) v = a
result_of (Write bs k) v = result_of k v
result_of (Attach l k) v = result_of k v
result_of (Reading r k) v = result_of (k (answer v.rows r)) v
result_of (Asking c k) v = result_of (k (value v c)) v
result_of (Clock age k) v = result_of (k v.moment) v
result_of (Part h k) v = result_of k v

-- what the plan meets, what its open places meet aside
abbrev pub met : {A : Type 0} → Plan A → Visit → Met
met (Done a) v = met_nothing
met (Write bs k) v = met k v
met (Attach l k) v = met k v
met (Reading r k) v = met_both (met_tags (cover v.rows r)) (met (k (answer v.rows r)) v)
met (Asking c k) v = met_both (met_context c) (met (k (value v c)) v)
met (Clock age k) v = met_both (met_age (Seconds age)) (met (k v.moment) v)
met (Part h k) v = met_both (met_place h) (met k v)
