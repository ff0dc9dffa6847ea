-- Members that are written one after another.
use Rattle.std.proofs.Common.{◌≡◌, ℕ, List, ◌++◌, Option, ℤ, ap, ◌∙◌, append_assoc}
use Rattle.std.specs.Prelude.{Result, Ok, Err, OnOk}
use Rattle.json.specs.Token.{Token}
use Rattle.board_text_defs.specs.BoardJson.{text_member, number_member}

-- tokens, and behind them those that follow
pub then : {A E : Type 0} (r : Result A E) (old mid new xs ys : List Token) → mid ≡ old ++ xs → OnOk r (new ≡ mid ++ ys) → OnOk r (new ≡ old ++ (xs ++ ys))
then (Ok x) old mid new xs ys here behind = behind ∙ ap (λ ts. ts ++ ys) here ∙ append_assoc old xs ys
then (Err e) old mid new xs ys here behind = tt

-- the same of a member whose text is that of a value
pub text_then : {A E : Type 0} (r : Result A E) (old mid new ts : List Token) (name text value : List ℕ) → text ≡ value → mid ≡ old ++ text_member name text → OnOk r (new ≡ mid ++ ts)
    → OnOk r (new ≡ old ++ (text_member name value ++ ts))
text_then r old mid new ts name text value same here behind = then r old mid new (text_member name value) ts (here ∙ ap (λ text. old ++ text_member name text) same) behind

-- and of a member whose number is that of a value
pub number_then : {A E : Type 0} (r : Result A E) (old mid new ts : List Token) (name : List ℕ) (number value : Option ℤ) → number ≡ value → mid ≡ old ++ number_member name number → OnOk r (new ≡ mid ++ ts)
    → OnOk r (new ≡ old ++ (number_member name value ++ ts))
number_then r old mid new ts name number value same here behind = then r old mid new (number_member name value) ts (here ∙ ap (λ number. old ++ number_member name number) same) behind
