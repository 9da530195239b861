use Rattle.std.proofs.Common.{◌≡◌, ◌++◌, map, take}
use Rattle.cacheability.specs.declared.tag.Tag.TheVariants as tag
use Rattle.cache_contexts.proofs.optimising.add_roles.Given as goal

abbrev pub invariant-roles : goal.invariant-roles
invariant-roles l = l.tags.items ≡ l.initial.tags.items ++ map tag.Role (take l.role-index l.roles)
