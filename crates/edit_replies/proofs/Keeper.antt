-- The fixed texts are the replies that they stand for.
use Rattle.std.proofs.Common.{◌≡◌, refl, true, false}
use Rattle.std.specs.Fmt.{digits}
use Rattle.http_heads.specs.Reply.{head_text, version_mark, space, phrase_of, line_end, json_line, length_mark, close_line}
use Rattle.edit_replies.specs.Texts.{keeper_body, keeper_text}
use Rattle.edit_replies.specs.Fixed.{keeper_reply, keeper_closing_reply}

pub keeper_closing_is : keeper_closing_reply ≡ keeper_text true
unfolding digits head_text version_mark space phrase_of line_end json_line length_mark close_line keeper_body keeper_closing_reply
keeper_closing_is = refl

pub keeper_is : keeper_reply ≡ keeper_text false
unfolding digits head_text version_mark space phrase_of line_end json_line length_mark close_line keeper_body keeper_reply
keeper_is = refl
