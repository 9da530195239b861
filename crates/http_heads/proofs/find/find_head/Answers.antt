use Rattle.std.proofs.Common.{Err, [], ap, subst, inr}
use Rattle.std.proofs.lemmas.List.{append-nil}
use Rattle.httparse.specs.Grammar.{HasNoRequest}
use Rattle.http_heads.proofs.Room.{never_exceeds}
use Rattle.http_heads.proofs.find.find_head.Goals as goal

-- the room is enough, so an error means that no continuation makes a head
pub returns-then-ends_in_target : goal.returns-then-ends_in_target
returns-then-ends_in_target c =
    let never = c.in-Err.ensures.invalid (λ e. never_exceeds _ _ c.requires (c.in-Err.ensures.too_many (ap Err e))) in
    (subst HasNoRequest (append-nil c.args.window.now) (never []), inr (c.ends_in_target.ensures.is c.if-ends_in_target.true))

pub returns-else-ends_in_target : goal.returns-else-ends_in_target
returns-else-ends_in_target c =
    let never = c.in-Err.ensures.invalid (λ e. never_exceeds _ _ c.requires (c.in-Err.ensures.too_many (ap Err e))) in
    (never, c.ends_in_target.ensures.is_not c.if-ends_in_target.false)
