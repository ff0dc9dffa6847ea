-- What asking a spool for its next file does to the messages ahead.
use Rattle.std.proofs.Common.{◌≡◌, ℕ, zero, suc, ◌+◌, ◌-◌, ◌<◌, ◌≤◌, List, [], ◌∷◌, Option, Some, None, length, refl, sym, ap, ◌∙◌, subst, arith}
use Rattle.std.specs.Prelude.{IfSome, IsSomeAnd, replicate}
use Rattle.std.proofs.lemmas.List.{length-replicate}
use Rattle.hub_outside.specs.Files.{file_at}
use Rattle.feed_defs.specs.History.{longest_message}
use Rattle.feed_port.specs.Ports.{Gives, IsDone}
use Rattle.feed_port.specs.Spools.{path_in, by_file, files_from, past_last}
use Rattle.feed_port.specs.Spooling.{spool_ahead}

abbrev pub Store : Type 0
Store = List (List ℕ × List ℕ)

none_left : (files : Store) (folder : List ℕ) (number most : ℕ) → most ≡ 0 → files_from files folder number most ≡ []
unfolding files_from
none_left files folder number zero e = refl
none_left files folder number (suc most) e = absurd (omega (arith, e))

step : (files : Store) (folder : List ℕ) (number most less : ℕ) (found : Option (List ℕ)) → most ≡ suc less → file_at files (path_in folder number) ≡ found
    → files_from files folder number most ≡ by_file found (files_from files folder (number + 1) less)
unfolding files_from
step files folder number most less found e is = ap (files_from files folder number) e ∙ ap (λ f. by_file f (files_from files folder (number + 1) less)) is

pub spool_ended : (folder : List ℕ) (number : ℕ) (files : Option Store) → past_last ≤ number
    → Gives (spool_ahead folder number files) (spool_ahead folder number files) [] × IsDone (spool_ahead folder number files)
spool_ended folder number None past = (tt, tt)
spool_ended folder number (Some files) past = (refl, none_left files folder number (past_last - number) (omega (arith, past)))

module _ (folder : List ℕ) (number : ℕ) (path : List ℕ) (named : path ≡ path_in folder number) where
  here : (files : Store) (found : Option (List ℕ)) → file_at files path ≡ found → file_at files (path_in folder number) ≡ found
  here files found is = ap (file_at files) (sym named) ∙ is

  pub spool_read : (files files' : Option Store) (held : List ℕ) → number < past_last → files' ≡ files
      → IfSome files (λ fs. file_at fs path ≡ Some held)
      → Gives (spool_ahead folder number files) (spool_ahead folder (number + 1) files') (held ∷ [])
  spool_read None files' held within same is = tt
  spool_read (Some files) files' held within same is =
      subst (λ fs. Gives (spool_ahead folder number (Some files)) (spool_ahead folder (number + 1) fs) (held ∷ [])) (sym same)
      (step files folder number (past_last - number) (past_last - (number + 1)) (Some held) (omega (arith, within)) (here files (Some held) is))

  pub spool_absent : (files files' : Option Store) → number < past_last → files' ≡ files → IfSome files (λ fs. file_at fs path ≡ None)
      → Gives (spool_ahead folder number files) (spool_ahead folder number files') [] × IsDone (spool_ahead folder number files')
  spool_absent None files' within same is = (tt, subst (λ fs. IsDone (spool_ahead folder number fs)) (sym same) tt)
  spool_absent (Some files) files' within same is =
      subst (λ fs. Gives (spool_ahead folder number (Some files)) (spool_ahead folder number fs) [] × IsDone (spool_ahead folder number fs)) (sym same)
      (refl, step files folder number (past_last - number) (past_last - (number + 1)) None (omega (arith, within)) (here files None is))

  pub spool_long : (files files' : Option Store) (size : ℕ) → number < past_last → files' ≡ files → longest_message < size
      → IfSome files (λ fs. IsSomeAnd (file_at fs path) (λ bytes. size ≤ length bytes))
      → (item : List ℕ) × (longest_message < length item) × Gives (spool_ahead folder number files) (spool_ahead folder (number + 1) files') (item ∷ [])
  spool_long None files' size within same above is = (replicate size 0, omega (arith, above, length-replicate {A = ℕ} size 0), tt)
  spool_long (Some files) files' size within same above is =
      subst (λ fs. (item : List ℕ) × (longest_message < length item) × Gives (spool_ahead folder number (Some files)) (spool_ahead folder (number + 1) fs) (item ∷ [])) (sym same)
      (by_found (file_at files path) refl is)
    where
      by_found : (found : Option (List ℕ)) → file_at files path ≡ found → IsSomeAnd found (λ bytes. size ≤ length bytes)
          → (item : List ℕ) × (longest_message < length item) × Gives (spool_ahead folder number (Some files)) (spool_ahead folder (number + 1) (Some files)) (item ∷ [])
      by_found None e never = absurd never
      by_found (Some bytes) e long =
          (bytes, omega (arith, above, long), step files folder number (past_last - number) (past_last - (number + 1)) (Some bytes) (omega (arith, within)) (here files (Some bytes) e))
