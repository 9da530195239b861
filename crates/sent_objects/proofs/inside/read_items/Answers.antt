use Rattle.std.proofs.Common.{◌≡◌, ◌+◌, ◌-◌, ◌<◌, [], ◌∷◌, length, Some, None, refl, sym, ap, ◌∙◌, arith}
use Rattle.std.proofs.lemmas.List.{length-append}
use Rattle.json.specs.Json.{parse_map, after_end_array, items, value}
use Rattle.serde_json.specs.Read.{of_json, of_items, converted}
use Rattle.serde_json.specs.View.{view}
use Rattle.sent_objects.specs.Brief.{first_items, in_list}
use Rattle.sent_objects.proofs.FirstItems.{kept_before, one_more, no_more, all_kept}
use Rattle.sent_objects.proofs.Reading.{item_read, item_refused, items_over, made_of, none_made}
use Rattle.sent_objects.proofs.inside.read_items.Goals as goal

pub items-init : goal.items-init
items-init c =
    let all = converted of_items (items (value c.args.depth) (length c.args.reader.now) c.args.reader.now) in
    (length c.args.reader.now, 257, omega arith, rw c.new-found.ensures.items refl, ap (λ vs. parse_map (kept_before vs 257) all) (sym c.new-found.ensures.items), omega arith)

pub returns-in_err-item-clause-err : goal.returns-in_err-item-clause-err
returns-in_err-item-clause-err c refused =
    let p = value c.args.depth in
    let l = c.items in
    let n = l.invariant.0 in
    let going : (after_end_array l.reader ≡ None) × (c.take_end_array.new.self ≡ l.reader) = grind arith in
    none_made first_items _
    (l.invariant.4 ∙ ap (parse_map (kept_before l.found.items l.invariant.1)) (item_refused p n l.reader going.0 (rw (← going.1) (c.read_value.ensures.err (grind arith)))))

pub items-preserved-in-Continue-branch-2 : goal.items-preserved-in-Continue-branch-2
items-preserved-in-Continue-branch-2 c =
    let p = value c.args.depth in
    let l = c.items in
    let n = l.invariant.0 in
    let more = l.invariant.1 in
    let going : (after_end_array l.reader ≡ None) × (c.take_end_array.new.self ≡ l.reader) = grind arith in
    let done = c.in_ok-item.ensures in
    let v = c.in_ok-item.item in
    let r = c.read_value.new.reader in
    let made = made_of in_list (converted of_json (p l.reader)) (view v) r (rw (← going.1) done.ok) in
    let d = made.0 in
    let less : length r < length l.reader = rw (← going.1) done.shorter in
    let some : 0 < more = omega (arith, l.invariant.3, c.len.ensures) in
    let longer : length c.push.new.found.items ≡ length l.found.items + 1 = rw c.in_ok-push.ensures (length-append l.found.items (v ∷ [])) in
    let turn = item_read p n l.reader r d (omega (arith, l.invariant.2)) going.0 made.1 in (
      n - 1,
      more - 1,
      omega (arith, l.invariant.2),
      omega (arith, l.invariant.3, longer),
      l.invariant.4 ∙ ap (parse_map (kept_before l.found.items more)) turn ∙ one_more l.found.items v d more some made.2 (converted of_items (items p (n - 1) r))
          ∙ ap (λ vs. parse_map (kept_before vs (more - 1)) (converted of_items (items p (n - 1) r))) (sym c.in_ok-push.ensures),
      omega (arith, l.invariant.5),
    )

pub items-preserved : goal.items-preserved
items-preserved c =
    let p = value c.args.depth in
    let l = c.items in
    let n = l.invariant.0 in
    let more = l.invariant.1 in
    let going : (after_end_array l.reader ≡ None) × (c.take_end_array.new.self ≡ l.reader) = grind arith in
    let done = c.in_ok-skip.ensures in
    let r = c.skip.new.reader in
    let d = done.ok.0 in
    let less : length r < length l.reader = rw (← going.1) done.shorter in
    let turn = item_read p n l.reader r d (omega (arith, l.invariant.2)) going.0 (rw (← going.1) done.ok.1) in (
      n - 1,
      more,
      omega (arith, l.invariant.2),
      l.invariant.3,
      l.invariant.4 ∙ ap (parse_map (kept_before l.found.items more)) turn ∙ no_more l.found.items d more (omega (arith, l.invariant.3, c.len.ensures)) (converted of_items (items p (n - 1) r)),
      omega (arith, l.invariant.5),
    )

pub returns-in_err-skip-clause-err : goal.returns-in_err-skip-clause-err
returns-in_err-skip-clause-err c refused =
    let p = value c.args.depth in
    let l = c.items in
    let n = l.invariant.0 in
    let going : (after_end_array l.reader ≡ None) × (c.take_end_array.new.self ≡ l.reader) = grind arith in
    none_made first_items _
    (l.invariant.4 ∙ ap (parse_map (kept_before l.found.items l.invariant.1)) (item_refused p n l.reader going.0 (rw (← going.1) c.in_err-skip.ensures.err)))

pub returns-clause-ok : goal.returns-clause-ok
returns-clause-ok c =
    let p = value c.args.depth in
    let l = c.items in
    let n = l.invariant.0 in
    let r = c.take_end_array.new.self in
    l.invariant.4 ∙ ap (parse_map (kept_before l.found.items l.invariant.1)) (items_over p n l.reader r l.invariant.2 (grind arith))
    ∙ ap (λ ds. Some (ds, r)) (all_kept l.found.items l.invariant.1)
