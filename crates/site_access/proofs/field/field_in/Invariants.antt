use Rattle.std.proofs.Common.{◌≡◌, drop}
use Rattle.std.specs.List.{find}
use Rattle.std.specs.Str.{bytes_eq}
use Rattle.site_access.specs.Access.{field_in}
use Rattle.site_access.proofs.field.field_in.Given as goal

abbrev pub invariant-fields : goal.invariant-fields
invariant-fields l = find (λ field. bytes_eq field.name l.name) (drop l.field-index l.field-items) ≡ field_in l.node_type l.name
