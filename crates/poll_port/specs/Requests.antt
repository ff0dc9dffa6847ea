-- The request of a poll (RFC 1945, section 5; RFC 9112, section 9.6). It asks by HTTP/1.0, so that
-- no reply is due in chunks.
use Rattle.std.specs.Prelude.{ℕ, List, ◌++◌, codes}

-- the request for a path of a host
unfoldable pub request_for : List ℕ → List ℕ → List ℕ
request_for host path =
    codes "GET " ++ path
    ++ codes " HTTP/1.0\r\nHost: " ++ host
    ++ codes "\r\nConnection: close\r\n\r\n"
