use Rattle.std.proofs.Common.{◌≡◌, drop}
use Rattle.http_heads.specs.Cookies.{token_of}
use Rattle.http_heads.specs.Lines.{lines}
use Rattle.http_heads.proofs.fields.session_token.Given as goal

-- no row so far has a token
abbrev pub invariant-rows : goal.invariant-rows
invariant-rows l = token_of (lines l.bytes (drop l.row-index l.rows)) ≡ token_of (lines l.bytes l.rows)
