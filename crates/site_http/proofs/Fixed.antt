-- The fixed texts are the replies that they stand for.
use Rattle.std.proofs.Common.{◌≡◌, refl, true, false}
use Rattle.std.specs.Fmt.{digits}
use Rattle.http_heads.specs.Reply.{head_text, version_mark, space, phrase_of, line_end, json_line, length_mark, close_line}
use Rattle.site_http.specs.Reply.{bad_request, body_too_large, head_too_large, no_coding, memory_body, refusal_with, memory_text}
use Rattle.site_http.specs.Fixed.{bad_request_reply, body_too_large_reply, head_too_large_reply, no_coding_reply, memory_closing_reply, memory_reply}

pub bad_request_is : bad_request_reply ≡ refusal_with 400 bad_request
unfolding digits head_text version_mark space phrase_of line_end json_line length_mark close_line bad_request bad_request_reply
bad_request_is = refl

pub body_too_large_is : body_too_large_reply ≡ refusal_with 413 body_too_large
unfolding digits head_text version_mark space phrase_of line_end json_line length_mark close_line body_too_large body_too_large_reply
body_too_large_is = refl

pub head_too_large_is : head_too_large_reply ≡ refusal_with 431 head_too_large
unfolding digits head_text version_mark space phrase_of line_end json_line length_mark close_line head_too_large head_too_large_reply
head_too_large_is = refl

pub no_coding_is : no_coding_reply ≡ refusal_with 501 no_coding
unfolding digits head_text version_mark space phrase_of line_end json_line length_mark close_line no_coding no_coding_reply
no_coding_is = refl

pub memory_closing_is : memory_closing_reply ≡ memory_text true
unfolding digits head_text version_mark space phrase_of line_end json_line length_mark close_line memory_body memory_closing_reply
memory_closing_is = refl

pub memory_is : memory_reply ≡ memory_text false
unfolding digits head_text version_mark space phrase_of line_end json_line length_mark close_line memory_body memory_reply
memory_is = refl
