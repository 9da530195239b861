-- The replies that are fixed texts, whole.
use Rattle.std.specs.Prelude.{ℕ, List, codes}

unfoldable pub bad_request_reply : List ℕ
bad_request_reply = codes "HTTP/1.1 400 Bad Request\r\nContent-Type: application/json\r\nContent-Length: 22\r\nConnection: close\r\n\r\n{\"code\":\"bad-request\"}"

unfoldable pub body_too_large_reply : List ℕ
body_too_large_reply = codes "HTTP/1.1 413 Payload Too Large\r\nContent-Type: application/json\r\nContent-Length: 25\r\nConnection: close\r\n\r\n{\"code\":\"body-too-large\"}"

unfoldable pub head_too_large_reply : List ℕ
head_too_large_reply = codes "HTTP/1.1 431 Request Header Fields Too Large\r\nContent-Type: application/json\r\nContent-Length: 25\r\nConnection: close\r\n\r\n{\"code\":\"head-too-large\"}"

unfoldable pub no_coding_reply : List ℕ
no_coding_reply = codes "HTTP/1.1 501 Not Implemented\r\nContent-Type: application/json\r\nContent-Length: 20\r\nConnection: close\r\n\r\n{\"code\":\"no-coding\"}"

unfoldable pub memory_closing_reply : List ℕ
memory_closing_reply = codes "HTTP/1.1 507 Insufficient Storage\r\nContent-Type: application/json\r\nContent-Length: 17\r\nConnection: close\r\n\r\n{\"code\":\"memory\"}"

unfoldable pub memory_reply : List ℕ
memory_reply = codes "HTTP/1.1 507 Insufficient Storage\r\nContent-Type: application/json\r\nContent-Length: 17\r\n\r\n{\"code\":\"memory\"}"
