-- The replies to edits, whole: their heads and bodies. RFC 9110, sections 10.2.2 (Location) and 15.4.4 (303); RFC 6265,
-- section 4.1 (Set-Cookie); RFC 9110, sections 15.5.1 (400), 15.5.16 (415) and 15.6.4 (503).
use Rattle.std.specs.Prelude.{ℕ, List, length, Bool, false, Option, Some, None, codes}
use Rattle.http_heads.specs.declared.reply.ReplyHead.{ReplyHead}
use Rattle.http_heads.specs.declared.reply.Media.{Media}
use Rattle.http_heads.specs.declared.reply.Media.TheVariants.{Html, Json}
use Rattle.http_heads.specs.declared.reply.CookieOut.{CookieOut}
use Rattle.http_heads.specs.declared.reply.CookieOut.TheVariants.{Nothing, Set, Clear}
use Rattle.http_heads.specs.Reply.{reply_text}
use Rattle.site_commands.specs.declared.answer.Done.{Done}
use Rattle.site_commands.specs.declared.answer.Done.TheVariants as done
use Rattle.site_commands.specs.declared.answer.Refusal.{Refusal}
use Rattle.edit_replies.specs.Bodies.{refusal_status, refusal_body, done_status, done_body}

-- the head of a JSON body of so many bytes, with the number of a state
abbrev pub json_head : ℕ → ℕ → ℕ → Bool → ReplyHead
json_head status size number closing = record {
  status = status;
  media = Json;
  length = Some size;
  location = None;
  cookie = Nothing;
  allow = false;
  state = Some number;
  close = closing;
}

-- the reply of a refused edit, with the number of the state on which it was judged
abbrev pub refused_text : Refusal → ℕ → Bool → List ℕ
refused_text r number closing =
    reply_text (json_head (refusal_status r) (length (refusal_body r)) number closing) (refusal_body r)

-- who logs in is shown the page of the user
abbrev pub done_media : Done → Media
done_media (done.LoggedIn uid token) = Html
done_media _ = Json

abbrev pub done_location : Done → Option ℕ
done_location (done.LoggedIn uid token) = Some uid
done_location _ = None

-- the session that begins, or ends
abbrev pub done_cookie : Done → CookieOut
done_cookie (done.LoggedIn uid token) = Set token
done_cookie done.LoggedOut = Clear
done_cookie _ = Nothing

abbrev pub done_head : Done → ℕ → Bool → ReplyHead
done_head d number closing = record {
  status = done_status d;
  media = done_media d;
  length = Some (length (done_body d));
  location = done_location d;
  cookie = done_cookie d;
  allow = false;
  state = Some number;
  close = closing;
}

-- the reply of an accepted edit, with the number of the state that it made
abbrev pub done_text : Done → ℕ → Bool → List ℕ
done_text d number closing = reply_text (done_head d number closing) (done_body d)

-- ---- what is answered before an edit is judged, or in place of its judgement

unfoldable pub media_body : List ℕ
media_body = codes "{\"code\":\"media\"}"

unfoldable pub bad_json_body : List ℕ
bad_json_body = codes "{\"code\":\"bad-json\"}"

unfoldable pub keeper_body : List ℕ
keeper_body = codes "{\"code\":\"keeper\"}"

-- the reply to a body of a media type that the edit does not take
abbrev pub media_text : ℕ → Bool → List ℕ
media_text number closing = reply_text (json_head 415 (length media_body) number closing) media_body

-- the reply to a body that is no object of JSON
abbrev pub bad_json_text : ℕ → Bool → List ℕ
bad_json_text number closing = reply_text (json_head 400 (length bad_json_body) number closing) bad_json_body

-- the head where what keeps the rows failed: nobody knows yet which state came of the edit, so no number is told
abbrev pub keeper_head : Bool → ReplyHead
keeper_head closing = record {
  status = 503;
  media = Json;
  length = Some (length keeper_body);
  location = None;
  cookie = Nothing;
  allow = false;
  state = None;
  close = closing;
}

-- the reply where what keeps the rows failed
abbrev pub keeper_text : Bool → List ℕ
keeper_text closing = reply_text (keeper_head closing) keeper_body
