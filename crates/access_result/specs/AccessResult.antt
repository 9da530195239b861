-- How two results of deciding about access combine: AccessResult::orIf and AccessResult::andIf of Drupal 10. Whose
-- cacheability the combination has is a rule of this project's own.
use Rattle.std.specs.Prelude.{Option, Some, None}
use Rattle.cacheability.specs.declared.cacheability.Cacheability.{Cacheability}
use Rattle.cacheability.specs.Cacheability.{merged}
use Rattle.access_result.specs.declared.access_result.AccessResult.{AccessResult}
use Rattle.access_result.specs.declared.reason.Reason.{Reason}
use Rattle.access_result.specs.declared.verdict.Verdict.{Verdict}
use Rattle.access_result.specs.declared.verdict.Verdict.TheVariants.{Allowed, Neutral, Forbidden}
use Rattle.access_result.specs.Verdict.{or_verdict, and_verdict}

-- the reason of a result that has this verdict, where that isn't allowed
abbrev pub reason_for : Verdict → AccessResult → Option Reason
reason_for verdict result = reason_of verdict result.verdict result.reason
  where
    reason_of : Verdict → Verdict → Option Reason → Option Reason
    reason_of Neutral Neutral reason = reason
    reason_of Forbidden Forbidden reason = reason
    reason_of _ _ reason = None

-- the first of two reasons, if there is one, else the second
abbrev pub first_reason : Option Reason → Option Reason → Option Reason
first_reason (Some reason) other = Some reason
first_reason None other = other

-- the left's cacheability alone where the left is forbidden, so that the right isn't looked at, else both
abbrev pub combined_cacheability : Verdict → Cacheability → Cacheability → Cacheability
combined_cacheability Forbidden left right = left
combined_cacheability Allowed left right = merged left right
combined_cacheability Neutral left right = merged left right

-- a combination of two results that has this verdict: its reason is that of a side with the same verdict, the left's first
abbrev pub combined : Verdict → AccessResult → AccessResult → AccessResult
combined verdict left right =
    record {
      verdict = verdict;
      reason = first_reason (reason_for verdict left) (reason_for verdict right);
      cacheability = combined_cacheability left.verdict left.cacheability right.cacheability;
    }

abbrev pub or_result : AccessResult → AccessResult → AccessResult
or_result left right = combined (or_verdict left.verdict right.verdict) left right

abbrev pub and_result : AccessResult → AccessResult → AccessResult
and_result left right = combined (and_verdict left.verdict right.verdict) left right
