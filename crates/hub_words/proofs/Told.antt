-- What the code answers, by what clap tells.
use Rattle.std.proofs.Common.{◌≡◌, ◌∙◌, true, false, cond, ap, subst, ℕ, List, [], ◌∷◌, map, None, Err, refl, inl, inr}
use Rattle.std.specs.List.{list_any}
use Rattle.clap.specs.Words.{App, fault_of, is_simple_and_free, kind_of, subcommand_rows_of, HasKind, HasMatchesOf}
use Rattle.clap.specs.declared.error.Error.{Error}
use Rattle.clap.specs.declared.parser.matches.ArgMatches.{ArgMatches}
use Rattle.hub_main_defs.specs.Words.{command_of, command_with, is_option}
use Rattle.hub_words.specs.Answer.{IsFaultOf, Parses}
use Rattle.hub_words.specs.Forms.{app_for, command_in, forms}
use Rattle.hub_words.specs.declared.read.WordsFault.{WordsFault}
use Rattle.hub_words.specs.declared.read.WordsFault.TheVariants.{Usage, NoMemory}
use Rattle.hub_words.proofs.Commands.{exact, is_simple_hub}

-- an option makes words none of the commands
pub option_refused : (words : List (List ℕ)) → list_any is_option words ≡ true → command_of words ≡ None
unfolding command_of
option_refused words h = ap (λ b. cond b None (command_with words)) h

pub texts_same : (words : List (List ℕ)) → map (λ w. w) words ≡ words
texts_same [] = refl
texts_same (w ∷ ws) = ap (λ rest. w ∷ rest) (texts_same ws)

-- of matches
pub taken : (app : App) (words texts : List (List ℕ)) (m : ArgMatches) → app ≡ app_for forms → texts ≡ words → list_any is_option words ≡ false
    → (is_simple_and_free app ≡ true → fault_of app texts ≡ []) → HasMatchesOf app texts m → command_in (subcommand_rows_of m) ≡ command_of words
taken app words texts m is same plain kinds matches =
    let Takes : App → List (List ℕ) → Type 0 = λ a ws. (is_simple_and_free a ≡ true → fault_of a ws ≡ []) × HasMatchesOf a ws m in
    let here : Takes (app_for forms) words = subst (λ a. Takes a words) is (subst (λ ws. Takes app ws) same (kinds, matches)) in
    ap command_in (here.1 refl).1 ∙ (exact words plain).taken (here.0 is_simple_hub)

-- of an error
pub refused : (app : App) (words texts : List (List ℕ)) (e : Error) (fault : WordsFault) → app ≡ app_for forms → texts ≡ words → list_any is_option words ≡ false
    → (is_simple_and_free app ≡ true → HasKind (fault_of app texts) e) → IsFaultOf (kind_of e) fault → Parses (command_of words) (Err fault)
refused app words texts e NoMemory is same plain kinds blames = tt
refused app words texts e Usage is same plain kinds blames =
    let Fails : App → List (List ℕ) → Type 0 = λ a ws. is_simple_and_free a ≡ true → HasKind (fault_of a ws) e in
    let here : Fails (app_for forms) words = subst (λ a. Fails a words) is (subst (λ ws. Fails app ws) same kinds) in
    elim (here is_simple_hub) [ inl memory ↦ absurd (blames memory) | inr among ↦ (exact words plain).refused (kind_of e) among ]
