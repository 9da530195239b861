use Rattle.std.proofs.Common.{◌≡◌, ◌∙◌, ap, not, true, false}
use Rattle.std.specs.Vec.Iter.{into_iter_items}
use Rattle.std.proofs.lemmas.Bool.{OnFalse_at}
use Rattle.site_targets.specs.Targets.{each_once}
use Rattle.site_targets.proofs.OnceEach.{is_among, says_new, kept_one, kept_none, set_one, set_same}
use Rattle.site_targets.proofs.once.each_once.Goals as goal

pub texts-preserved-in_ok-push : goal.texts-preserved-in_ok-push
texts-preserved-in_ok-push c =
    let kept = c.texts.once.items in
    let t = c.in-Some.text in
    let key = c.in_ok-copied.field-0 in
    let same : key ≡ t = c.in_ok-copied.ensures ∙ c.as_slice.ensures in
    let new : is_among kept t ≡ false = says_new c.texts.seen kept key t c.in_ok-insert.field-0 c.texts.invariant.seen same c.in_ok-insert.ensures.added ∙ ap not c.if-branch.true in
    record {
      so_far = kept_one kept c.push.new.self.items (into_iter_items c.texts.text-iterator) (into_iter_items c.next.new.self) (each_once c.args.texts.items) t c.in-Some.ensures.steps.0 c.in_ok-push.ensures.items new c.texts.invariant.so_far;
      seen = set_one c.texts.seen c.insert.new.self kept c.push.new.self.items key t same c.in_ok-push.ensures.items c.texts.invariant.seen c.in_ok-insert.ensures.updates.0;
    }

pub texts-preserved : goal.texts-preserved
texts-preserved c =
    let kept = c.texts.once.items in
    let t = c.in-Some.text in
    let key = c.in_ok-copied.field-0 in
    let same : key ≡ t = c.in_ok-copied.ensures ∙ c.as_slice.ensures in
    let there : is_among kept t ≡ true = says_new c.texts.seen kept key t c.in_ok-insert.field-0 c.texts.invariant.seen same c.in_ok-insert.ensures.added ∙ ap not c.if-branch.false in
    record {
      so_far = kept_none kept (into_iter_items c.texts.text-iterator) (into_iter_items c.next.new.self) (each_once c.args.texts.items) t c.in-Some.ensures.steps.0 there c.texts.invariant.so_far;
      seen = set_same c.texts.seen c.insert.new.self kept (OnFalse_at c.if-branch.false c.in_ok-insert.ensures.unchanged) c.texts.invariant.seen;
    }
