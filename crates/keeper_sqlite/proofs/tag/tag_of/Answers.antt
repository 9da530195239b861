use Rattle.std.proofs.Common.{sym}
use Rattle.keeper_sqlite.proofs.TagTexts.{is_word, is_named, is_placed, is_numbered, is_of_comment}
use Rattle.keeper_sqlite.proofs.tag.tag_of.Goals as goal

pub returns-in-Some-clause-told : goal.returns-in-Some-clause-told
returns-in-Some-clause-told c = is_word c.args.text.now c.in-Some.tag (sym c.in-Some.ensures)

pub returns-in-Some-named_tag-clause-told : goal.returns-in-Some-named_tag-clause-told
returns-in-Some-named_tag-clause-told c = is_named c.args.text.now c.in-Some-named_tag.tag (sym c.in-Some-named_tag.ensures)

pub returns-in-Some-placed_tag-clause-told : goal.returns-in-Some-placed_tag-clause-told
returns-in-Some-placed_tag-clause-told c = is_placed c.args.text.now c.in-Some-placed_tag.tag (sym c.in-Some-placed_tag.ensures)

pub returns-in-Some-numbered_tag-clause-told : goal.returns-in-Some-numbered_tag-clause-told
returns-in-Some-numbered_tag-clause-told c = is_numbered c.args.text.now c.in-Some-numbered_tag.tag (sym c.in-Some-numbered_tag.ensures)

pub returns-in-Some-comment_tag-clause-told : goal.returns-in-Some-comment_tag-clause-told
returns-in-Some-comment_tag-clause-told c = is_of_comment c.args.text.now c.in-Some-comment_tag.tag (sym c.in-Some-comment_tag.ensures)
