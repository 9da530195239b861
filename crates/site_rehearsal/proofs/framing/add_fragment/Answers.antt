use Rattle.std.proofs.Common.{refl, subst}
use Rattle.std.proofs.lemmas.Result.{on_ok_weaker}
use Rattle.site_rehearsal.specs.Visitors.{visit}
use Rattle.site_rehearsal.proofs.Frames.{Told, with_needs, told_open, joins_lazy, joins_fragment}
use Rattle.site_rehearsal.proofs.framing.add_fragment.Goals as goal

pub returns-then-branch : goal.returns-then-branch
returns-then-branch c =
    let r = c.args.visitor.now in
    let mid = with_needs c.args.frame.now c.stays_open.new.cacheability in
    let told = told_open r.state.now (visit r) c.args.fragment.now c.in_ok-stays_open.field-0 c.args.frame.now c.stays_open.new.cacheability refl c.in_ok-stays_open.ensures in
    on_ok_weaker c.leave_open.result (joins_lazy (visit r) r.ask.now.path c.args.fragment.now c.args.frame.now mid _ (subst (λ b. Told (visit r) c.args.fragment.now b c.args.frame.now mid) c.if-branch.true told)) c.leave_open.ensures

pub returns : goal.returns
returns c =
    let r = c.args.visitor.now in
    let mid = with_needs c.args.frame.now c.stays_open.new.cacheability in
    let told = told_open r.state.now (visit r) c.args.fragment.now c.in_ok-stays_open.field-0 c.args.frame.now c.stays_open.new.cacheability refl c.in_ok-stays_open.ensures in
    on_ok_weaker c.add_child.result (joins_fragment (visit r) r.ask.now.path c.args.fragment.now c.in_ok-child.child c.args.frame.now mid _ (subst (λ b. Told (visit r) c.args.fragment.now b c.args.frame.now mid) c.if-branch.false told) c.in_ok-child.ensures) c.add_child.ensures
