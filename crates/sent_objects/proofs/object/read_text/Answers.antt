use Rattle.std.proofs.Common.{◌≡◌, [], ◌∷◌, Some, option_map, is_some, true, false, sym, ap, ◌∙◌, arith, rules}
use Rattle.json.specs.Token.{Token}
use Rattle.json.specs.Lex.{tokens}
use Rattle.serde_json.specs.Data.{object}
use Rattle.serde_json.specs.View.{members_view}
use Rattle.serde_json.proofs.Views.{view-Object}
use Rattle.sent_objects.specs.Brief.{brief, brief_members}
use Rattle.sent_objects.specs.Object.{opens_object}
use Rattle.sent_objects.proofs.Reading.{made_of}
use Rattle.sent_objects.proofs.Texts.{object_read, object_refused, more_after, other_text, members_at, next_some}
use Rattle.sent_objects.proofs.object.read_text.Goals as goal

pub returns-in_err-members-clause-err : goal.returns-in_err-members-clause-err
returns-in_err-members-clause-err c refused =
    let ts = c.takes_brace.new.reader in
    let first : tokens c.args.text.now ≡ Token.begin_object ∷ ts = grind arith in
    object_refused c.args.text.now ts first (c.read_members.ensures.err (grind arith))

pub returns-then-is_some-clause-err : goal.returns-then-is_some-clause-err
returns-then-is_some-clause-err c refused =
    let ts = c.takes_brace.new.reader in
    let first : tokens c.args.text.now ≡ Token.begin_object ∷ ts = grind arith in
    let m = c.in_ok-members.members in
    let made = made_of brief_members (members_at ts) (members_view m.entries) c.read_members.new.reader c.in_ok-members.ensures.ok in
    let is : is_some c.next.result ≡ true = search rules in
    let more = next_some c.next.result c.read_members.new.reader c.next.new.self c.next.ensures.value is in
    more_after c.args.text.now ts made.0 more.0 c.next.new.self first (made.1 ∙ ap (λ r. Some (made.0, r)) more.1)

pub returns-clause-ok : goal.returns-clause-ok
returns-clause-ok c =
    let ts = c.takes_brace.new.reader in
    let first : tokens c.args.text.now ≡ Token.begin_object ∷ ts = grind arith in
    let m = c.in_ok-members.members in
    let made = made_of brief_members (members_at ts) (members_view m.entries) c.read_members.new.reader c.in_ok-members.ensures.ok in
    let over : c.read_members.new.reader ≡ [] = search rules in
    ap (option_map brief) (object_read c.args.text.now ts made.0 first (made.1 ∙ ap (λ r. Some (made.0, r)) over))
    ∙ ap (λ ms. Some (object ms)) made.2 ∙ ap Some (sym (view-Object m))

pub returns-then-not-takes_brace-clause-err : goal.returns-then-not-takes_brace-clause-err
returns-then-not-takes_brace-clause-err c refused =
    let other : opens_object (tokens c.args.text.now) ≡ false = grind arith in
    other_text c.args.text.now other
