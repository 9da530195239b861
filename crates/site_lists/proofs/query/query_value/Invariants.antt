use Rattle.std.proofs.Common.{◌≡◌, map}
use Rattle.std.specs.Map.{lookup}
use Rattle.std.specs.Str.{bytes_eq}
use Rattle.form_urlencoded.specs.Form.{decode}
use Rattle.form_urlencoded.specs.Parse.{raw_pairs_left}
use Rattle.site_lists.specs.Paging.{value_in}
use Rattle.site_lists.proofs.query.query_value.Given as goal

-- the value is that among the pairs that are left
abbrev pub invariant-pairs : goal.invariant-pairs
invariant-pairs l =
    value_in l.query l.name
    ≡ lookup (bytes_eq l.name) (map (λ (name, value). (decode name, decode value)) (raw_pairs_left l.own-iterator))
