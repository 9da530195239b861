use Rattle.std.proofs.Common.{◌≡◌, ◌-◌, length, Some, string_bytes, refl, sym, ap, ◌∙◌, arith, rules}
use Rattle.json.specs.Json.{parse_map, read_key, value}
use Rattle.json.proofs.Grammar.{read_key-shorter}
use Rattle.serde_json.specs.Data.{no_members, put}
use Rattle.serde_json.specs.Read.{of_json, converted}
use Rattle.serde_json.specs.View.{view}
use Rattle.sent_objects.specs.Brief.{every, flat_at, pairs, known_members}
use Rattle.sent_objects.proofs.Gathered.{puts, puts_push, gathered}
use Rattle.sent_objects.proofs.InOrder.{in_order_put, none_in_order}
use Rattle.sent_objects.proofs.Known.{added, all_known}
use Rattle.sent_objects.proofs.Reading.{member_read, member_refused, key_refused, members_over, made_of}
use Rattle.sent_objects.proofs.pairs.read_pairs.Goals as goal

pub members-init : goal.members-init
members-init c =
    (length c.args.reader.now, omega arith, (no_members, none_in_order, refl, ap (λ es. puts es no_members) c.new-found.ensures.items), omega arith)

pub returns-in_err-name-clause-err : goal.returns-in_err-name-clause-err
returns-in_err-name-clause-err c refused =
    let p = value c.args.depth in
    let l = c.members in
    let n = l.invariant.0 in
    let full = l.invariant.2.0 in
    l.invariant.2.2 ∙ key_refused p full n l.reader c.in_err-name.ensures.value

pub returns-in_err-member-clause-err : goal.returns-in_err-member-clause-err
returns-in_err-member-clause-err c refused =
    let p = value c.args.depth in
    let l = c.members in
    let n = l.invariant.0 in
    let full = l.invariant.2.0 in
    let k = c.in-Some.name.now in
    let s = c.next_key.new.self in
    let named : read_key l.reader ≡ Some (Some k, s) = grind arith in
    l.invariant.2.2 ∙ member_refused p full n k l.reader s named (c.read_value.ensures.err (grind arith))

pub members-preserved : goal.members-preserved
members-preserved c =
    let p = value c.args.depth in
    let l = c.members in
    let n = l.invariant.0 in
    let full = l.invariant.2.0 in
    let k = c.in-Some.name.now in
    let s = c.next_key.new.self in
    let named : read_key l.reader ≡ Some (Some k, s) = grind arith in
    let done = c.in_ok-member.ensures in
    let v = c.in_ok-member.member in
    let key = c.in_ok-key.key in
    let r = c.read_value.new.reader in
    let made = made_of (flat_at k) (converted of_json (p s)) (view v) r done.ok in
    let d = made.0 in
    let less = read_key-shorter l.reader (Some k) s named in
    let lesser = done.shorter in
    let copied : string_bytes key ≡ k = search rules in
    let added_last : puts c.push.new.found.items no_members ≡ known_members every flat_at (put k d full) =
    ap (λ es. puts es no_members) c.in_ok-push.ensures ∙ puts_push l.found.items key v no_members ∙ ap (λ name. put name (view v) (puts l.found.items no_members)) copied
    ∙ ap (put k (view v)) l.invariant.2.3 ∙ ap (λ x. put k x (known_members every flat_at full)) (sym made.2) ∙ sym (added every flat_at k d full refl l.invariant.2.1) in (
      n - 1,
      omega (arith, l.invariant.1),
      (put k d full, in_order_put k d full l.invariant.2.1, l.invariant.2.2 ∙ member_read p full n k l.reader s r d (omega (arith, l.invariant.1)) named made.1, added_last),
      omega (arith, l.invariant.3),
    )

pub returns-clause-ok : goal.returns-clause-ok
returns-clause-ok c =
    let p = value c.args.depth in
    let l = c.members in
    let n = l.invariant.0 in
    let full = l.invariant.2.0 in
    let s = c.next_key.new.self in
    let m = c.in_ok-in_order.field-0 in
    let seen = gathered l.found.items m c.in_ok-in_order.ensures ∙ l.invariant.2.3 ∙ all_known flat_at full in
    ap (parse_map pairs) (l.invariant.2.2 ∙ members_over p full n l.reader s l.invariant.1 (grind arith)) ∙ ap (λ ms. Some (ms, s)) (sym seen)
