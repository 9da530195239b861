use Rattle.std.proofs.Common.{◌≡◌, ◌-◌, true, false, length, Some, string_bytes, refl, sym, ap, ap₂, ◌∙◌, arith, rules}
use Rattle.json.specs.Json.{parse_map, read_key, value}
use Rattle.json.proofs.Grammar.{read_key-shorter}
use Rattle.serde_json.specs.Data.{no_members, put}
use Rattle.serde_json.specs.Read.{of_json, converted}
use Rattle.serde_json.specs.View.{view, members_view}
use Rattle.sent_objects.specs.Brief.{kept, known_members, with_least, lower}
use Rattle.sent_objects.proofs.InOrder.{in_order_put, none_in_order}
use Rattle.sent_objects.proofs.Known.{added, skipped, completed, lowered, same_least}
use Rattle.sent_objects.proofs.Reading.{member_read, member_refused, key_refused, members_over, made_of}
use Rattle.sent_objects.proofs.members.read_members.Goals as goal

pub members-init : goal.members-init
members-init g c =
    (length c.args.reader.now, omega arith, (no_members, none_in_order, refl, ap members_view c.new-found.ensures.empty, refl), omega arith)

pub returns-in_err-name-clause-err : goal.returns-in_err-name-clause-err
returns-in_err-name-clause-err g c refused =
    let p = value c.args.depth in
    let l = c.members in
    let n = l.invariant.0 in
    let full = l.invariant.2.0 in
    l.invariant.2.2 ∙ key_refused p full n l.reader c.in_err-name.ensures.value

pub returns-in_err-member-clause-err : goal.returns-in_err-member-clause-err
returns-in_err-member-clause-err g c refused =
    let p = value c.args.depth in
    let l = c.members in
    let n = l.invariant.0 in
    let full = l.invariant.2.0 in
    let k = c.in-Some.name.now in
    let s = c.next_key.new.self in
    let named : read_key l.reader ≡ Some (Some k, s) = grind arith in
    l.invariant.2.2 ∙ member_refused p full n k l.reader s named (c.read.ensures.err (grind arith))

pub members-preserved-in_ok-put : goal.members-preserved-in_ok-put
members-preserved-in_ok-put g c =
    let p = value c.args.depth in
    let known = g.T.Member.known in
    let brief = g.T.Member.brief in
    let l = c.members in
    let n = l.invariant.0 in
    let full = l.invariant.2.0 in
    let k = c.in-Some.name.now in
    let s = c.next_key.new.self in
    let named : read_key l.reader ≡ Some (Some k, s) = grind arith in
    let done = c.in_ok-member.ensures in
    let v = c.in_ok-member.member in
    let r = c.read.new.reader in
    let made = made_of (brief k) (converted of_json (p s)) (view v) r done.ok in
    let d = made.0 in
    let less = read_key-shorter l.reader (Some k) s named in
    let lesser = done.shorter in
    let copied : string_bytes c.in_ok-key.key ≡ k = search rules in
    let here : known k ≡ true = sym c.is_known.ensures ∙ c.if-is_known.true in
    let old = known_members known brief full in
    let inserted : members_view c.put.new.found.entries ≡ known_members known brief (put k d full) =
    c.in_ok-put.ensures ∙ ap (λ name. put name (view v) (members_view l.found.entries)) copied ∙ ap (put k (view v)) l.invariant.2.3
    ∙ ap (λ x. put k x old) (sym made.2) ∙ sym (added known brief k d full here l.invariant.2.1) in (
      n - 1,
      omega (arith, l.invariant.1),
      (
        put k d full,
        in_order_put k d full l.invariant.2.1,
        l.invariant.2.2 ∙ member_read p full n k l.reader s r d (omega (arith, l.invariant.1)) named made.1,
        inserted,
        l.invariant.2.4 ∙ sym (same_least known k d full here),
      ),
      omega (arith, l.invariant.3),
    )

pub members-preserved : goal.members-preserved
members-preserved g c =
    let p = value c.args.depth in
    let known = g.T.Member.known in
    let brief = g.T.Member.brief in
    let l = c.members in
    let n = l.invariant.0 in
    let full = l.invariant.2.0 in
    let k = c.in-Some.name.now in
    let s = c.next_key.new.self in
    let named : read_key l.reader ≡ Some (Some k, s) = grind arith in
    let done = c.in_ok-skip.ensures in
    let r = c.skip.new.reader in
    let d = done.ok.0 in
    let less = read_key-shorter l.reader (Some k) s named in
    let lesser = done.shorter in
    let other : known k ≡ false = sym c.is_known.ensures ∙ c.if-is_known.false in (
      n - 1,
      omega (arith, l.invariant.1),
      (
        put k d full,
        in_order_put k d full l.invariant.2.1,
        l.invariant.2.2 ∙ member_read p full n k l.reader s r d (omega (arith, l.invariant.1)) named done.ok.1,
        l.invariant.2.3 ∙ sym (skipped known brief k d full other),
        c.in_ok-least.ensures ∙ ap (λ o. Some (lower o k)) l.invariant.2.4 ∙ sym (lowered known k d full other l.invariant.2.1),
      ),
      omega (arith, l.invariant.3),
    )

pub returns-in_err-skip-clause-err : goal.returns-in_err-skip-clause-err
returns-in_err-skip-clause-err g c refused =
    let p = value c.args.depth in
    let l = c.members in
    let n = l.invariant.0 in
    let full = l.invariant.2.0 in
    let k = c.in-Some.name.now in
    let s = c.next_key.new.self in
    let named : read_key l.reader ≡ Some (Some k, s) = grind arith in
    l.invariant.2.2 ∙ member_refused p full n k l.reader s named c.in_err-skip.ensures.err

pub returns-clause-ok : goal.returns-clause-ok
returns-clause-ok g c =
    let p = value c.args.depth in
    let known = g.T.Member.known in
    let brief = g.T.Member.brief in
    let l = c.members in
    let n = l.invariant.0 in
    let full = l.invariant.2.0 in
    let s = c.next_key.new.self in
    let seen = c.in_ok-with_least.ensures ∙ ap₂ with_least l.invariant.2.4 l.invariant.2.3 ∙ completed known brief full l.invariant.2.1 in
    ap (parse_map (kept known brief)) (l.invariant.2.2 ∙ members_over p full n l.reader s l.invariant.1 (grind arith)) ∙ ap (λ ms. Some (ms, s)) (sym seen)
