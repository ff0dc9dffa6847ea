-- Pieces that stand behind one another.
use Rattle.std.proofs.Common.{◌≡◌, ℕ, ◌+◌, ◌<◌, List, [], ◌∷◌, ◌++◌, length, take, Option, refl, sym, ap, ◌∙◌, subst, arith, length-append}
use Rattle.std.specs.Io.KnownBytes.{Appends}
use Rattle.std.proofs.KnownBytes.{Appends-trans}
use Rattle.std.proofs.Math.Seq.{take-append-add}
use Rattle.serve_lines.specs.declared.pieces.Writing.TheVariants.{Cut}
use Rattle.serve_lines.specs.Wrote.{Wrote}

-- the output failed within the piece
pub cut_here : (start before after : Option (List ℕ)) (text bytes : List ℕ) → Appends start before text → (n : ℕ) → n < length bytes → Appends before after (take n bytes) → Wrote Cut start after (text ++ bytes)
cut_here start before after text bytes whole n few front =
    (length text + n, omega (arith, few, length-append text bytes), subst (λ zs. Appends start after zs) (sym (take-append-add text bytes n)) (Appends-trans start before after text (take n bytes) whole front))

-- eight pieces are one, the second of which is known by another name
pub of_eight : (t a b c d e f g h : List ℕ) (b' : List ℕ) → b ≡ b' → (((((((t ++ a) ++ b) ++ c) ++ d) ++ e) ++ f) ++ g) ++ h ≡ t ++ (((((((a ++ b') ++ c) ++ d) ++ e) ++ f) ++ g) ++ h)
of_eight [] a b c d e f g h b' same = ap (λ (zs : List ℕ). ((((((a ++ zs) ++ c) ++ d) ++ e) ++ f) ++ g) ++ h) same
of_eight (x ∷ t) a b c d e f g h b' same = ap (λ (zs : List ℕ). x ∷ zs) (of_eight t a b c d e f g h b' same)

pub of_five : (t a b c d e : List ℕ) → ((((t ++ a) ++ b) ++ c) ++ d) ++ e ≡ t ++ ((((a ++ b) ++ c) ++ d) ++ e)
of_five [] a b c d e = refl
of_five (x ∷ t) a b c d e = ap (λ (zs : List ℕ). x ∷ zs) (of_five t a b c d e)
