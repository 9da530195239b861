-- The status lines of accepted edits are the lines of their codes.
use Rattle.std.proofs.Common.{◌≡◌, refl, codes}
use Rattle.std.specs.Fmt.{digits}
use Rattle.http_heads.specs.Reply.{version_mark, space, phrase_of, line_end, status_text}

pub ok_line_is : codes "HTTP/1.1 200 OK\r\n" ≡ status_text 200
unfolding digits version_mark space phrase_of line_end
ok_line_is = refl

pub created_line_is : codes "HTTP/1.1 201 Created\r\n" ≡ status_text 201
unfolding digits version_mark space phrase_of line_end
created_line_is = refl

pub see_other_line_is : codes "HTTP/1.1 303 See Other\r\n" ≡ status_text 303
unfolding digits version_mark space phrase_of line_end
see_other_line_is = refl
