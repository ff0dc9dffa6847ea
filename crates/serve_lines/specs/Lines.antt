-- The lines that a server writes when it has ended.
use Rattle.std.specs.Prelude.{ℕ, List, ◌++◌, codes}
use Rattle.std.specs.Fmt.{decimal}
use Rattle.serve_lines.specs.declared.lines.FeedNumbers.{FeedNumbers}
use Rattle.serve_lines.specs.declared.lines.ReaderNumbers.{ReaderNumbers}

-- a word and a number
abbrev pub numbered : List ℕ → ℕ → List ℕ
numbered word n = word ++ decimal n

-- `feed <name> accepted <n> refused <n> starved <n> toolong <n> last <n>`
unfoldable pub feed_line : List ℕ → FeedNumbers → List ℕ
feed_line name l =
    codes "feed " ++ name ++ numbered (codes " accepted ") l.accepted
    ++ numbered (codes " refused ") l.refused ++ numbered (codes " starved ") l.starved
    ++ numbered (codes " toolong ") l.too_long ++ numbered (codes " last ") l.last ++ codes "\n"

-- `readers <n> connections <n> responses <n> starved <n>`
unfoldable pub readers_line : ReaderNumbers → List ℕ
readers_line l =
    numbered (codes "readers ") l.readers ++ numbered (codes " connections ") l.connections
    ++ numbered (codes " responses ") l.responses ++ numbered (codes " starved ") l.starved
    ++ codes "\n"
