use Rattle.std.proofs.Common.{ℕ, List, ◌≡◌, ◌<◌, sym, subst, arith, get_or, ◌∙◌}
use Rattle.std.specs.Fmt.{decimal}
use Rattle.content_rows.proofs.Ids.{IsIdText, id_some, id_none, id_is_utf8, id_begins, id_parses, parsed_is, first_is}
use Rattle.content_rows.proofs.id.id_of.Goals as goal

-- no text of an id begins with `0` or with what is below it
pub returns-then-first-le48 : goal.returns-then-first-le48
returns-then-first-le48 c =
    let first : get_or c.args.text.now 0 0 ≡ c.in-Some.first.now = first_is c.args.text.now c.in-Some.first.now c.in-Some.ensures.value in
    sym (id_none c.args.text.now (λ n is. let above = id_begins c.args.text.now n is in omega arith))

-- each is UTF-8
pub returns-in_default-from_utf8 : goal.returns-in_default-from_utf8
returns-in_default-from_utf8 c =
    sym (id_none c.args.text.now (λ n is. c.in_default-from_utf8.ensures.cases.0 (id_is_utf8 c.args.text.now n is)))

-- each is parsed
pub returns-in_default-parse : goal.returns-in_default-parse
returns-in_default-parse c =
    let same : c.in-Ok.digits.now ≡ c.args.text.now = c.in-Ok.ensures.cases.0 in
    sym (id_none c.args.text.now (λ n is.
    c.in_default-parse.not-Ok n
    (id_parses c.in-Ok.digits.now n c.parse.result (subst (λ (t : List ℕ). IsIdText t n) (sym same) is) c.parse.ensures.value.0)))

pub returns-then-id-le4294967294 : goal.returns-then-id-le4294967294
returns-then-id-le4294967294 c =
    let same : c.in-Ok.digits.now ≡ c.args.text.now = c.in-Ok.ensures.cases.0 in
    let first : get_or c.args.text.now 0 0 ≡ c.in-Some.first.now = first_is c.args.text.now c.in-Some.first.now c.in-Some.ensures.value in
    let above : 48 < get_or c.in-Ok.digits.now 0 0 = subst (λ (t : List ℕ). 48 < get_or t 0 0) (sym same) (omega arith) in
    let is : c.in-Ok.digits.now ≡ decimal c.in-Ok-parse.id =
    parsed_is c.in-Ok.digits.now c.in-Ok-parse.id above c.in-Ok-parse.ensures.value.0 in
    sym (id_some c.args.text.now c.in-Ok-parse.id (record {
      text_is = sym same ∙ is;
      low = c.if-id-ge1.true;
      high = c.if-id-le4294967294.true;
    }))
