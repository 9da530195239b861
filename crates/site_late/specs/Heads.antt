-- Heads of the replies of pages.
-- RFC 9110, section 8.3; RFC 9112, section 6.3.
use Rattle.std.specs.Prelude.{ℕ, List, Bool, false, Some, None, if◌then◌else◌}
use Rattle.content_state.specs.Entities.{is_json}
use Rattle.http_heads.specs.declared.reply.CookieOut.TheVariants.{Nothing}
use Rattle.http_heads.specs.declared.reply.Media.{Media}
use Rattle.http_heads.specs.declared.reply.Media.TheVariants.{Html, Json}
use Rattle.http_heads.specs.declared.reply.ReplyHead.{ReplyHead}

-- the media type of what is shown at a path: JSON below `/json/`, and else HTML
abbrev pub media_of : List ℕ → Media
media_of path = if is_json path then Json else Html

-- the head of a page that is sent late: how long it is isn't said, and it ends where the connection does
abbrev pub late_head : Media → ℕ → ℕ → Bool → ReplyHead
late_head media status number closing = record {
  status = status;
  media = media;
  length = None;
  location = None;
  cookie = Nothing;
  allow = false;
  state = Some number;
  close = closing;
}
