use Rattle.std.proofs.Common.{◌≡◌, drop}
use Rattle.std.specs.Str.{bytes_eq}
use Rattle.form_urlencoded.specs.Form.{decode}
use Rattle.site_lists.proofs.query.is_named.Given as goal

-- what is left of the name decides
abbrev pub invariant-name : goal.invariant-name
invariant-name l = bytes_eq l.name (decode l.own) ≡ bytes_eq (drop l.wanted-index l.name) (decode l.left)
