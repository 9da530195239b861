-- Three values of access, and how two of them combine: AccessResult::orIf and AccessResult::andIf of Drupal 10.
use Rattle.std.specs.Prelude.{Bool, true, false}
use Rattle.access_result.specs.declared.verdict.Verdict.{Verdict}
use Rattle.access_result.specs.declared.verdict.Verdict.TheVariants.{Allowed, Neutral, Forbidden}

-- forbidden if either is, else allowed if either is, else neutral
abbrev pub or_verdict : Verdict → Verdict → Verdict
or_verdict Forbidden other = Forbidden
or_verdict Allowed Forbidden = Forbidden
or_verdict Allowed Allowed = Allowed
or_verdict Allowed Neutral = Allowed
or_verdict Neutral other = other

-- forbidden if either is, else allowed if both are, else neutral
abbrev pub and_verdict : Verdict → Verdict → Verdict
and_verdict Forbidden other = Forbidden
and_verdict Allowed other = other
and_verdict Neutral Forbidden = Forbidden
and_verdict Neutral Allowed = Neutral
and_verdict Neutral Neutral = Neutral

-- two verdicts are the same
abbrev pub same_verdict : Verdict → Verdict → Bool
same_verdict Allowed Allowed = true
same_verdict Neutral Neutral = true
same_verdict Forbidden Forbidden = true
same_verdict _ _ = false
