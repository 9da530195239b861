-- How long something may be kept (Drupal's Cache API, "Cache max-age").
use Rattle.std.specs.Prelude.{min}
use Rattle.cacheability.specs.declared.max_age.MaxAge.{MaxAge}
use Rattle.cacheability.specs.declared.max_age.MaxAge.TheVariants.{Permanent, Seconds}

-- the lesser of two ages; permanent is greater than every number of seconds
abbrev pub least : MaxAge → MaxAge → MaxAge
least Permanent age = age
least (Seconds a) Permanent = Seconds a
least (Seconds a) (Seconds b) = Seconds (min a b)
