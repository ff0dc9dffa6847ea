-- When a text is read and when it is refused.
use Rattle.std.proofs.Common.{◌≡◌, ℕ, List, refl, Bool, true, false}
use Rattle.std.specs.Prelude.{Option, Some, Ok, Err}
use Rattle.std.specs.Str.{IsUtf8, is_utf8}
use Rattle.std.proofs.lemmas.Str.{IsUtf8-from_is_utf8, is_utf8-from_IsUtf8}
use Rattle.rt_types.specs.declared.fault.Kind.{Kind}
use Rattle.rt_types.specs.declared.fault.What.TheVariants.{NotText}
use Rattle.feed_defs.specs.Rows.{fault, as_text}

pub text_read : (kind : Kind) (n : ℕ) (told : Option (List ℕ)) (bytes x : List ℕ) → Some bytes ≡ told → IsUtf8 bytes → x ≡ bytes → as_text kind n told ≡ Ok (Some x)
text_read kind n told bytes x e h same = rw (← e, is_utf8-from_IsUtf8 bytes h, same) refl

pub text_refused : (kind : Kind) (n : ℕ) (told : Option (List ℕ)) (bytes : List ℕ) → Some bytes ≡ told → (IsUtf8 bytes → ⊥) → as_text kind n told ≡ Err (fault NotText kind n)
text_refused kind n told bytes e h = rw (← e) (tested (is_utf8 bytes) refl)
  where
    tested : (b : Bool) → is_utf8 bytes ≡ b → as_text kind n (Some bytes) ≡ Err (fault NotText kind n)
    tested true f = absurd (h (IsUtf8-from_is_utf8 bytes f))
    tested false f = rw f refl
