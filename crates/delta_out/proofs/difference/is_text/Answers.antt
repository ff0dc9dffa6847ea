-- The bytes of a text are UTF-8.
use Rattle.std.proofs.lemmas.Str.{is_utf8-from_IsUtf8}
use Rattle.delta_out.proofs.difference.is_text.Goals as goal

pub returns : goal.returns
returns c = is_utf8-from_IsUtf8 _ c.utf8._text
