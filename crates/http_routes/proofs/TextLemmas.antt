-- Segments and paths that are text, and those that aren't.
use Rattle.std.proofs.Common.{◌≡◌, ℕ, false, List, Option, None, Some, Result, IfOk, arith}
use Rattle.std.specs.Str.{IsUtf8, is_utf8}
use Rattle.std.proofs.lemmas.Str.{is_utf8-from_IsUtf8, IsUtf8-from_is_utf8}
use Rattle.percent_encoding.specs.Percent.{percent_decode}
use Rattle.http_defs.specs.declared.asked.RouteKind.{RouteKind}
use Rattle.http_defs.specs.declared.asked.Query.{Query}
use Rattle.http_defs.specs.declared.asked.Query.TheVariants.{Refused}
use Rattle.http_defs.specs.Routes.{Routing, routes, kind_at}
use Rattle.http_defs.specs.Targets.{text_of, query_at, query_by}

not_utf8 : (bytes : List ℕ) → ¬ (IsUtf8 bytes) → is_utf8 bytes ≡ false
not_utf8 bytes refused = grind (arith, IsUtf8-from_is_utf8)

-- a segment whose escapes stand for a text
pub is_text : (segment decoded text : List ℕ) → decoded ≡ percent_decode segment → IsUtf8 decoded → text ≡ decoded
    → Some text ≡ text_of segment
is_text segment decoded text e is same = grind (arith, is_utf8-from_IsUtf8)

-- and one whose escapes don't
pub no_text : (segment decoded : List ℕ) → decoded ≡ percent_decode segment → ¬ (IsUtf8 decoded) → None ≡ text_of segment
no_text segment decoded e refused = grind (arith, not_utf8)

-- a path that is text is asked by its route
pub by_route : {E : Type 0} (r : Result Query E) (router : Routing) (kind : Option RouteKind) (text path form : List ℕ)
    → router ≡ routes → text ≡ path → IsUtf8 path → kind ≡ kind_at router text
    → IfOk r (λ query. query ≡ query_by kind text form) → IfOk r (λ query. query ≡ query_at path form)
unfolding query_at
by_route r router kind text path form all same is route asks = grind (arith, is_utf8-from_IsUtf8)

-- one that isn't has no route
pub no_route : (path form : List ℕ) → ¬ (IsUtf8 path) → Refused 404 ≡ query_at path form
unfolding query_at
no_route path form refused = grind (arith, not_utf8)
