use Rattle.std.proofs.Common.{◌≡◌, take}
use Rattle.content_rows.proofs.duplicate.ItemsDuplicate.duplicate.Given as goal

-- what has been copied so far
abbrev pub invariant-members : goal.invariant-members
invariant-members g l = l.copies.items ≡ take l.member-index l.member-items
