use Rattle.std.proofs.Common.{◌∷◌, ◌≡◌, ◌∙◌, sym, ap, subst, true, false, All}
use Rattle.std.specs.List.{filter}
use Rattle.std.specs.Vec.Iter.{into_iter_items}
use Rattle.std.proofs.lemmas.List.Elements.{All-head, All-tail}
use Rattle.site_targets.specs.Open.{is_open, is_open_path}
use Rattle.site_targets.proofs.Passing.{passed_one, passed_none}
use Rattle.site_targets.proofs.PlainTargets.{IsOwnPath}
use Rattle.site_targets.proofs.open.open_among.Goals as goal

pub candidates-preserved-in-Continue-branch-2 : goal.candidates-preserved-in-Continue-branch-2
candidates-preserved-in-Continue-branch-2 c =
    let rows = c.args.state.now.rows in
    let left = into_iter_items c.candidates.target-iterator in
    let next = into_iter_items c.next.new.self in
    let t = c.in-Some.target in
    let split : left ≡ t ∷ next = c.in-Some.ensures.steps.0 in
    let plain : All IsOwnPath (t ∷ next) = subst (All IsOwnPath) split c.candidates.invariant.plain in
    let passes : is_open rows t ≡ true = ap (is_open_path rows) (All-head IsOwnPath t next plain ∙ sym c.as_slice.ensures) ∙ sym c.in_ok-is_open.ensures ∙ c.if-branch.true in
    record {
      so_far = passed_one (is_open rows) c.candidates.passed.items c.push.new.self.items left next (filter (is_open rows) c.args.candidates.items) t split c.in_ok-push.ensures.items passes c.candidates.invariant.so_far;
      plain = All-tail IsOwnPath t next plain;
    }

pub candidates-preserved : goal.candidates-preserved
candidates-preserved c =
    let rows = c.args.state.now.rows in
    let left = into_iter_items c.candidates.target-iterator in
    let next = into_iter_items c.next.new.self in
    let t = c.in-Some.target in
    let split : left ≡ t ∷ next = c.in-Some.ensures.steps.0 in
    let plain : All IsOwnPath (t ∷ next) = subst (All IsOwnPath) split c.candidates.invariant.plain in
    let fails : is_open rows t ≡ false = ap (is_open_path rows) (All-head IsOwnPath t next plain ∙ sym c.as_slice.ensures) ∙ sym c.in_ok-is_open.ensures ∙ c.if-branch.false in
    record {
      so_far = passed_none (is_open rows) c.candidates.passed.items left next (filter (is_open rows) c.args.candidates.items) t split fails c.candidates.invariant.so_far;
      plain = All-tail IsOwnPath t next plain;
    }
