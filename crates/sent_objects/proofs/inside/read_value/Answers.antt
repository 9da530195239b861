use Rattle.std.proofs.Common.{◌≡◌, ◌-◌, [], ◌∷◌, length, Some, None, sym, ap, ap₂, ◌∙◌, arith, rules}
use Rattle.json.specs.Token.{Token}
use Rattle.json.specs.Json.{parse_map, items, members, value}
use Rattle.json.specs.Reads.{token_of}
use Rattle.json.proofs.Grammar.{value_is}
use Rattle.serde_json.specs.Data.{null, boolean, number, string, array, object, no_members}
use Rattle.serde_json.specs.Read.{of_json, of_items, of_members, converted}
use Rattle.serde_json.specs.View.{view, number_view}
use Rattle.serde_json.specs.declared.value.Value.{String, Number, Bool, Null, the_lemmas}
use Rattle.serde_json.proofs.Views.{view-Array, view-Object}
use Rattle.sent_objects.specs.Brief.{inside}
use Rattle.sent_objects.proofs.Reading.{array_opened, object_opened, mapped_twice}
use Rattle.sent_objects.proofs.inside.read_value.Goals as goal

pub returns-in_err-token-clause-err : goal.returns-in_err-token-clause-err
returns-in_err-token-clause-err g c refused =
    let empty : c.args.reader.now ≡ [] = grind arith in
    ap (converted of_json) (ap (value c.args.depth) empty ∙ value_is c.args.depth [])

pub returns-then-depth-eq0-clause-err : goal.returns-then-depth-eq0-clause-err
unfolding value
returns-then-depth-eq0-clause-err g c never =
    let first : c.args.reader.now ≡ token_of c.in_ok-token.token ∷ c.next.new.self = grind arith in
    let none : c.args.depth ≡ 0 = omega arith in
    ap (converted of_json) (ap₂ value none (first ∙ ap (λ k. token_of k ∷ c.next.new.self) c.in-BeginArray.is))

pub returns-then-depth-eq0-2-clause-err : goal.returns-then-depth-eq0-2-clause-err
unfolding value
returns-then-depth-eq0-2-clause-err g c never =
    let first : c.args.reader.now ≡ token_of c.in_ok-token.token ∷ c.next.new.self = grind arith in
    let none : c.args.depth ≡ 0 = omega arith in
    ap (converted of_json) (ap₂ value none (first ∙ ap (λ k. token_of k ∷ c.next.new.self) c.in-BeginObject.is))

pub returns-in_err-items-in-BeginArray-clause-err : goal.returns-in_err-items-in-BeginArray-clause-err
returns-in_err-items-in-BeginArray-clause-err g c refused =
    let first : c.args.reader.now ≡ token_of c.in_ok-token.token ∷ c.next.new.self = grind arith in
    let opened = ap (converted of_json) (ap (value c.args.depth) (first ∙ ap (λ k. token_of k ∷ c.next.new.self) c.in-BeginArray.is)) ∙ array_opened c.args.depth c.next.new.self (omega arith) in
    opened ∙ ap (parse_map array) (c.items.ensures.err (grind arith))

pub returns-in_err-members-in-BeginObject-clause-err : goal.returns-in_err-members-in-BeginObject-clause-err
returns-in_err-members-in-BeginObject-clause-err g c refused =
    let first : c.args.reader.now ≡ token_of c.in_ok-token.token ∷ c.next.new.self = grind arith in
    let opened = ap (converted of_json) (ap (value c.args.depth) (first ∙ ap (λ k. token_of k ∷ c.next.new.self) c.in-BeginObject.is)) ∙ object_opened c.args.depth c.next.new.self (omega arith) in
    opened ∙ ap (parse_map object) (c.members.ensures.err (grind arith))

pub returns-in_ok-from_str-in-String-clause-ok : goal.returns-in_ok-from_str-in-String-clause-ok
returns-in_ok-from_str-in-String-clause-ok g c =
    let keep = parse_map (inside g.T.Inside.of_array g.T.Inside.of_object) in
    let first : c.args.reader.now ≡ token_of c.in_ok-token.token ∷ c.next.new.self = grind arith in
    let is : c.args.reader.now ≡ Token.string c.in-String.text.now ∷ c.next.new.self = grind (arith, first) in
    let seen : view (String c.in_ok-from_str-in-String.field-0) ≡ string c.in-String.text.now = search (rules, the_lemmas) in
    ap (λ o. keep (converted of_json o)) (ap (value c.args.depth) is ∙ value_is c.args.depth _) ∙ ap (λ d. Some (d, c.next.new.self)) (sym seen)

pub returns-in-Bool-clause-ok : goal.returns-in-Bool-clause-ok
returns-in-Bool-clause-ok g c =
    let keep = parse_map (inside g.T.Inside.of_array g.T.Inside.of_object) in
    let first : c.args.reader.now ≡ token_of c.in_ok-token.token ∷ c.next.new.self = grind arith in
    let is : c.args.reader.now ≡ Token.boolean c.in-Bool.flag ∷ c.next.new.self = grind (arith, first) in
    let seen : view (Bool c.in-Bool.flag) ≡ boolean c.in-Bool.flag = search (rules, the_lemmas) in
    ap (λ o. keep (converted of_json o)) (ap (value c.args.depth) is ∙ value_is c.args.depth _) ∙ ap (λ d. Some (d, c.next.new.self)) (sym seen)

pub returns-in-Null-clause-ok : goal.returns-in-Null-clause-ok
returns-in-Null-clause-ok g c =
    let keep = parse_map (inside g.T.Inside.of_array g.T.Inside.of_object) in
    let first : c.args.reader.now ≡ token_of c.in_ok-token.token ∷ c.next.new.self = grind arith in
    let is : c.args.reader.now ≡ Token.null ∷ c.next.new.self = grind (arith, first) in
    let seen : view (Null) ≡ null = search (rules, the_lemmas) in
    ap (λ o. keep (converted of_json o)) (ap (value c.args.depth) is ∙ value_is c.args.depth _) ∙ ap (λ d. Some (d, c.next.new.self)) (sym seen)

pub returns-in-Some-clause-ok : goal.returns-in-Some-clause-ok
returns-in-Some-clause-ok g c =
    let keep = parse_map (inside g.T.Inside.of_array g.T.Inside.of_object) in
    let first : c.args.reader.now ≡ token_of c.in_ok-token.token ∷ c.next.new.self = grind arith in
    let is : c.args.reader.now ≡ Token.number c.in-Number.text.now ∷ c.next.new.self = grind (arith, first) in
    let seen : view (Number c.in-Some.number) ≡ number (number_view c.in-Some.number) = search (rules, the_lemmas) in
    ap (λ o. keep (converted of_json o)) (ap (value c.args.depth) is ∙ value_is c.args.depth _) ∙ rw (← c.in-Some.ensures, seen)

pub returns-in-None-clause-err : goal.returns-in-None-clause-err
returns-in-None-clause-err g c refused =
    let first : c.args.reader.now ≡ token_of c.in_ok-token.token ∷ c.next.new.self = grind arith in
    let is : c.args.reader.now ≡ Token.number c.in-Number.text.now ∷ c.next.new.self = grind (arith, first) in
    ap (converted of_json) (ap (value c.args.depth) is ∙ value_is c.args.depth _) ∙ rw (← c.in-None.ensures)

pub returns-in-EndObject-clause-err : goal.returns-in-EndObject-clause-err
returns-in-EndObject-clause-err g c refused =
    let first : c.args.reader.now ≡ token_of c.in_ok-token.token ∷ c.next.new.self = grind arith in
    let none : value c.args.depth c.args.reader.now ≡ None = rw (value_is c.args.depth c.args.reader.now, first) (grind arith) in
    ap (converted of_json) none

pub returns-in_ok-items-in-BeginArray-clause-ok : goal.returns-in_ok-items-in-BeginArray-clause-ok
returns-in_ok-items-in-BeginArray-clause-ok g c =
    let keep = parse_map (inside g.T.Inside.of_array g.T.Inside.of_object) in
    let first : c.args.reader.now ≡ token_of c.in_ok-token.token ∷ c.next.new.self = grind arith in
    let opened = ap (converted of_json) (ap (value c.args.depth) (first ∙ ap (λ k. token_of k ∷ c.next.new.self) c.in-BeginArray.is)) ∙ array_opened c.args.depth c.next.new.self (omega arith) in
    let all = converted of_items (items (value (c.args.depth - 1)) (length c.next.new.self) c.next.new.self) in
    let found = c.in_ok-items-in-BeginArray in
    ap keep opened ∙ mapped_twice (inside g.T.Inside.of_array g.T.Inside.of_object) array all ∙ sym (mapped_twice array g.T.Inside.of_array all)
    ∙ ap (parse_map array) found.ensures.ok ∙ ap (λ d. Some (d, c.items.new.reader)) (sym (view-Array found.field-0))

pub returns-in_ok-members-in-BeginObject-clause-ok : goal.returns-in_ok-members-in-BeginObject-clause-ok
returns-in_ok-members-in-BeginObject-clause-ok g c =
    let keep = parse_map (inside g.T.Inside.of_array g.T.Inside.of_object) in
    let first : c.args.reader.now ≡ token_of c.in_ok-token.token ∷ c.next.new.self = grind arith in
    let opened = ap (converted of_json) (ap (value c.args.depth) (first ∙ ap (λ k. token_of k ∷ c.next.new.self) c.in-BeginObject.is)) ∙ object_opened c.args.depth c.next.new.self (omega arith) in
    let all = converted (λ ms. of_members ms no_members) (members (value (c.args.depth - 1)) (length c.next.new.self) c.next.new.self) in
    let found = c.in_ok-members-in-BeginObject in
    ap keep opened ∙ mapped_twice (inside g.T.Inside.of_array g.T.Inside.of_object) object all ∙ sym (mapped_twice object g.T.Inside.of_object all)
    ∙ ap (parse_map object) found.ensures.ok ∙ ap (λ d. Some (d, c.members.new.reader)) (sym (view-Object found.field-0))
