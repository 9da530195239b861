-- What the bytes of a body say, by what is read of them.
use Rattle.std.specs.Prelude.{ℕ, List, Option, Some, None, option_map, codes}
use Rattle.serde_json.specs.Data.{Data}
use Rattle.sent_objects.specs.Object.{no_object, object_of}
use Rattle.sent_objects.specs.Object.{object_in as told}
use Rattle.site_lists.specs.Paging.{value_in}
use Rattle.edit_paths.specs.declared.media.Reads.{Reads}
use Rattle.edit_paths.specs.declared.media.Reads.TheVariants as reads
use Rattle.edit_bodies.specs.declared.body.Body.{Body}
use Rattle.edit_bodies.specs.declared.body.Body.TheVariants as body
use Rattle.edit_bodies.specs.declared.body.Form.{Form}

-- the first `name` and the first `pass` of a form, decoded
-- https://url.spec.whatwg.org/#application/x-www-form-urlencoded
abbrev pub form_of : List ℕ → Form
form_of bytes = record { name = value_in bytes (codes "name"); pass = value_in bytes (codes "pass") }

-- a form without fields
abbrev pub no_form : Form
no_form = record { name = None; pass = None }

-- the object that a body is; of one that is none an empty one
abbrev pub object_in : Body → Data
object_in (body.Object o) = told o
object_in body.Nothing = no_object
object_in (body.Form f) = no_object

-- the form that a body is; of one that is none an empty one
abbrev pub form_in : Body → Form
form_in (body.Form f) = f
form_in body.Nothing = no_form
form_in (body.Object o) = no_form

-- what a body says: an object, and a form
pub record Sent : Type 0 where
  pub object : Data
  pub form : Form

unfoldable pub sent_of : Body → Sent
sent_of b = record { object = object_in b; form = form_in b }

-- what the bytes of a body say, by what is read of them; none where they are to be an object of JSON and are none
unfoldable pub sent : Reads → List ℕ → Option Sent
sent reads.Nothing bytes = Some (record { object = no_object; form = no_form })
sent reads.Json bytes = option_map (λ d. record { object = d; form = no_form }) (object_of bytes)
sent reads.Form bytes = Some (record { object = no_object; form = form_of bytes })
