use Rattle.std.proofs.Common.{◌≡◌, ◌-◌, ◌<◌, [], ◌∷◌, length, Some, None, refl, ap, ap₂, ◌∙◌, arith}
use Rattle.json.specs.Token.{Token}
use Rattle.json.specs.Json.{parse_map, after_end_array, read_key, items, value}
use Rattle.json.specs.Reads.{token_of}
use Rattle.json.proofs.Grammar.{value_is, read_key-shorter}
use Rattle.serde_json.specs.Data.{null, boolean, number, string, array, object, no_items, item, no_members, put}
use Rattle.serde_json.specs.Read.{of_json, of_items, converted}
use Rattle.serde_json.specs.View.{number_view}
use Rattle.sent_objects.proofs.Reading.{array_opened, object_opened, item_read, item_refused, items_over, member_read, member_refused, key_refused, members_over, mapped_twice, unchanged, on_err}
use Rattle.std.proofs.lemmas.Result.{on_ok_weaker, on_err_weaker}
use Rattle.sent_objects.proofs.skip.+skip.Goals as goal

pub skip-returns-in_err-token-clause-err : goal.skip-returns-in_err-token-clause-err
skip-returns-in_err-token-clause-err t c =
    let empty : c.args.reader.now ≡ [] = grind arith in
    on_err c.from_residual.result (ap (converted of_json) (ap (value c.args.depth) empty ∙ value_is c.args.depth []))

pub skip-returns-then-depth-eq0-clause-err : goal.skip-returns-then-depth-eq0-clause-err
unfolding value
skip-returns-then-depth-eq0-clause-err t c =
    let first : c.args.reader.now ≡ token_of c.in_ok-token.token ∷ c.next.new.self = grind arith in
    let none : c.args.depth ≡ 0 = omega arith in
    ap (converted of_json) (ap₂ value none (first ∙ ap (λ k. token_of k ∷ c.next.new.self) c.in-BeginArray.is))

pub skip-returns-then-depth-eq0-2-clause-err : goal.skip-returns-then-depth-eq0-2-clause-err
unfolding value
skip-returns-then-depth-eq0-2-clause-err t c =
    let first : c.args.reader.now ≡ token_of c.in_ok-token.token ∷ c.next.new.self = grind arith in
    let none : c.args.depth ≡ 0 = omega arith in
    ap (converted of_json) (ap₂ value none (first ∙ ap (λ k. token_of k ∷ c.next.new.self) c.in-BeginObject.is))

pub skip-returns-in-String-clause-ok : goal.skip-returns-in-String-clause-ok
skip-returns-in-String-clause-ok t c =
    let first : c.args.reader.now ≡ token_of c.in_ok-token.token ∷ c.next.new.self = grind arith in
    let is : c.args.reader.now ≡ Token.string c.in-String.field-0.now ∷ c.next.new.self = grind (arith, first) in
    (string c.in-String.field-0.now, ap (converted of_json) (ap (value c.args.depth) is ∙ value_is c.args.depth _))

pub skip-returns-in-Bool-clause-ok : goal.skip-returns-in-Bool-clause-ok
skip-returns-in-Bool-clause-ok t c =
    let first : c.args.reader.now ≡ token_of c.in_ok-token.token ∷ c.next.new.self = grind arith in
    let is : c.args.reader.now ≡ Token.boolean c.in-Bool.field-0 ∷ c.next.new.self = grind (arith, first) in
    (boolean c.in-Bool.field-0, ap (converted of_json) (ap (value c.args.depth) is ∙ value_is c.args.depth _))

pub skip-returns-in-Null-clause-ok : goal.skip-returns-in-Null-clause-ok
skip-returns-in-Null-clause-ok t c =
    let first : c.args.reader.now ≡ token_of c.in_ok-token.token ∷ c.next.new.self = grind arith in
    let is : c.args.reader.now ≡ Token.null ∷ c.next.new.self = grind (arith, first) in
    (null, ap (converted of_json) (ap (value c.args.depth) is ∙ value_is c.args.depth _))

pub skip-returns-in-Some-clause-ok : goal.skip-returns-in-Some-clause-ok
skip-returns-in-Some-clause-ok t c =
    let first : c.args.reader.now ≡ token_of c.in_ok-token.token ∷ c.next.new.self = grind arith in
    let is : c.args.reader.now ≡ Token.number c.in-Number.text.now ∷ c.next.new.self = grind (arith, first) in
    (number (number_view c.in-Some.field-0), ap (converted of_json) (ap (value c.args.depth) is ∙ value_is c.args.depth _) ∙ rw (← c.in-Some.ensures))

pub skip-returns-in-None-clause-err : goal.skip-returns-in-None-clause-err
skip-returns-in-None-clause-err t c =
    let first : c.args.reader.now ≡ token_of c.in_ok-token.token ∷ c.next.new.self = grind arith in
    let is : c.args.reader.now ≡ Token.number c.in-Number.text.now ∷ c.next.new.self = grind (arith, first) in
    ap (converted of_json) (ap (value c.args.depth) is ∙ value_is c.args.depth _) ∙ rw (← c.in-None.ensures)

pub skip-returns-in-EndObject-clause-err : goal.skip-returns-in-EndObject-clause-err
skip-returns-in-EndObject-clause-err t c =
    let first : c.args.reader.now ≡ token_of c.in_ok-token.token ∷ c.next.new.self = grind arith in
    let none : value c.args.depth c.args.reader.now ≡ None = rw (value_is c.args.depth c.args.reader.now, first) (grind arith) in
    ap (converted of_json) none

pub skip-returns-else-depth-eq0-clause-ok : goal.skip-returns-else-depth-eq0-clause-ok
skip-returns-else-depth-eq0-clause-ok t c =
    let first : c.args.reader.now ≡ token_of c.in_ok-token.token ∷ c.next.new.self = grind arith in
    let opened = ap (converted of_json) (ap (value c.args.depth) (first ∙ ap (λ k. token_of k ∷ c.next.new.self) c.in-BeginArray.is)) ∙ array_opened c.args.depth c.next.new.self (omega arith) in
    on_ok_weaker c.skip_items.result (λ h. (array h.0, opened ∙ ap (parse_map array) h.1)) c.skip_items.ensures.ok

pub skip-returns-else-depth-eq0-clause-err : goal.skip-returns-else-depth-eq0-clause-err
skip-returns-else-depth-eq0-clause-err t c =
    let first : c.args.reader.now ≡ token_of c.in_ok-token.token ∷ c.next.new.self = grind arith in
    let opened = ap (converted of_json) (ap (value c.args.depth) (first ∙ ap (λ k. token_of k ∷ c.next.new.self) c.in-BeginArray.is)) ∙ array_opened c.args.depth c.next.new.self (omega arith) in
    on_err_weaker c.skip_items.result (λ h. opened ∙ ap (parse_map array) h) c.skip_items.ensures.err

pub skip-returns-else-depth-eq0-2-clause-ok : goal.skip-returns-else-depth-eq0-2-clause-ok
skip-returns-else-depth-eq0-2-clause-ok t c =
    let first : c.args.reader.now ≡ token_of c.in_ok-token.token ∷ c.next.new.self = grind arith in
    let opened = ap (converted of_json) (ap (value c.args.depth) (first ∙ ap (λ k. token_of k ∷ c.next.new.self) c.in-BeginObject.is)) ∙ object_opened c.args.depth c.next.new.self (omega arith) in
    on_ok_weaker c.skip_members.result (λ h. (object h.0, opened ∙ ap (parse_map object) h.1)) c.skip_members.ensures.ok

pub skip-returns-else-depth-eq0-2-clause-err : goal.skip-returns-else-depth-eq0-2-clause-err
skip-returns-else-depth-eq0-2-clause-err t c =
    let first : c.args.reader.now ≡ token_of c.in_ok-token.token ∷ c.next.new.self = grind arith in
    let opened = ap (converted of_json) (ap (value c.args.depth) (first ∙ ap (λ k. token_of k ∷ c.next.new.self) c.in-BeginObject.is)) ∙ object_opened c.args.depth c.next.new.self (omega arith) in
    on_err_weaker c.skip_members.result (λ h. opened ∙ ap (parse_map object) h) c.skip_members.ensures.err

pub skip_items-items-init : goal.skip_items-items-init
skip_items-items-init t c =
    let all = converted of_items (items (value c.args.depth) (length c.args.reader.now) c.args.reader.now) in
    (length c.args.reader.now, omega arith, ((λ ds. ds), unchanged all), omega arith)

pub skip_items-items-preserved : goal.skip_items-items-preserved
skip_items-items-preserved t c =
    let p = value c.args.depth in
    let l = c.items in
    let n = l.invariant.0 in
    let f = l.invariant.2.0 in
    let going : (after_end_array l.reader ≡ None) × (c.take_end_array.new.self ≡ l.reader) = grind arith in
    let done = c.in_ok-skip.ensures in
    let d = done.ok.0 in
    let r = c.skip.new.reader in
    let less : length r < length l.reader = rw (← going.1) done.shorter in
    let turn = item_read p n l.reader r d (omega (arith, l.invariant.1)) going.0 (rw (← going.1) done.ok.1) in (
      n - 1,
      omega (arith, l.invariant.1),
      ((λ ds. f (item d ds)), l.invariant.2.1 ∙ ap (parse_map f) turn ∙ mapped_twice f (item d) (converted of_items (items p (n - 1) r))),
      omega (arith, l.invariant.3),
    )

pub skip_items-returns-in_err-skip-clause-err : goal.skip_items-returns-in_err-skip-clause-err
skip_items-returns-in_err-skip-clause-err t c =
    let p = value c.args.depth in
    let l = c.items in
    let n = l.invariant.0 in
    let going : (after_end_array l.reader ≡ None) × (c.take_end_array.new.self ≡ l.reader) = grind arith in
    on_err c.from_residual.result (l.invariant.2.1 ∙ ap (parse_map l.invariant.2.0) (item_refused p n l.reader going.0 (rw (← going.1) c.in_err-skip.ensures.err)))

pub skip_items-returns-clause-ok : goal.skip_items-returns-clause-ok
skip_items-returns-clause-ok t c =
    let p = value c.args.depth in
    let l = c.items in
    let n = l.invariant.0 in
    let r = c.take_end_array.new.self in
    (l.invariant.2.0 no_items, l.invariant.2.1 ∙ ap (parse_map l.invariant.2.0) (items_over p n l.reader r l.invariant.1 (grind arith)))

pub skip_members-members-init : goal.skip_members-members-init
skip_members-members-init t c =
    (length c.args.reader.now, omega arith, (no_members, refl), omega arith)

pub skip_members-returns-in_err-next_key-clause-err : goal.skip_members-returns-in_err-next_key-clause-err
skip_members-returns-in_err-next_key-clause-err t c =
    let p = value c.args.depth in
    let l = c.members in
    let n = l.invariant.0 in
    on_err c.from_residual.result (l.invariant.2.1 ∙ key_refused p l.invariant.2.0 n l.reader c.in_err-next_key.ensures.value)

pub skip_members-members-preserved : goal.skip_members-members-preserved
skip_members-members-preserved t c =
    let p = value c.args.depth in
    let l = c.members in
    let n = l.invariant.0 in
    let old = l.invariant.2.0 in
    let k = c.in-Some.field-0.now in
    let s = c.next_key.new.self in
    let named : read_key l.reader ≡ Some (Some k, s) = grind arith in
    let done = c.in_ok-skip.ensures in
    let d = done.ok.0 in
    let r = c.skip.new.reader in
    let less = read_key-shorter l.reader (Some k) s named in
    let lesser = done.shorter in (
      n - 1,
      omega (arith, l.invariant.1),
      (put k d old, l.invariant.2.1 ∙ member_read p old n k l.reader s r d (omega (arith, l.invariant.1)) named done.ok.1),
      omega (arith, l.invariant.3),
    )

pub skip_members-returns-in_err-skip-clause-err : goal.skip_members-returns-in_err-skip-clause-err
skip_members-returns-in_err-skip-clause-err t c =
    let p = value c.args.depth in
    let l = c.members in
    let n = l.invariant.0 in
    let old = l.invariant.2.0 in
    let k = c.in-Some.field-0.now in
    let s = c.next_key.new.self in
    let named : read_key l.reader ≡ Some (Some k, s) = grind arith in
    on_err c.from_residual-in_err-skip.result (l.invariant.2.1 ∙ member_refused p old n k l.reader s named c.in_err-skip.ensures.err)

pub skip_members-returns-clause-ok : goal.skip_members-returns-clause-ok
skip_members-returns-clause-ok t c =
    let p = value c.args.depth in
    let l = c.members in
    let n = l.invariant.0 in
    let old = l.invariant.2.0 in
    (old, l.invariant.2.1 ∙ members_over p old n l.reader c.next_key.new.self l.invariant.1 (grind arith))
