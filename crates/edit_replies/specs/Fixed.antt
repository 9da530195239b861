-- The replies that are fixed texts, whole.
use Rattle.std.specs.Prelude.{ℕ, List, codes}

unfoldable pub keeper_reply : List ℕ
keeper_reply = codes "HTTP/1.1 503 Service Unavailable\r\nContent-Type: application/json\r\nContent-Length: 17\r\n\r\n{\"code\":\"keeper\"}"

unfoldable pub keeper_closing_reply : List ℕ
keeper_closing_reply = codes "HTTP/1.1 503 Service Unavailable\r\nContent-Type: application/json\r\nContent-Length: 17\r\nConnection: close\r\n\r\n{\"code\":\"keeper\"}"
