-- Items made of the numbers of a range, of which the first pass a test.
use Rattle.std.proofs.Common.{◌≡◌, ℕ, zero, suc, ◌+◌, ◌*◌, ◌-◌, ◌<◌, ◌≤◌, Bool, true, false, cond, nat_lt, List, [], ◌∷◌, ◌++◌, map, refl, sym, ap, ◌∙◌, arith, ⊎_elim, add-one, add-zero, zero-mul, suc-mul, mul-le-mul_right, le-mul_of_pos_right}
use Rattle.std.specs.List.{filter, range_with_len, sum_by}
use Rattle.std.specs.Int.{div_ceil}
use Rattle.std.proofs.lemmas.Bool.{cases_lt, lt-ltb, le-ltb}
use Rattle.std.proofs.lemmas.Grind.{div_ceil_times}
use Rattle.std.proofs.lemmas.List.{append-nil}
use Rattle.std.proofs.lemmas.List.FromFn.{map-range_with_len_more, filter_of_map_range_with_len_more, sum_by-map-range_with_len_more}

module _ {X : Type 0} (p : X → Bool) (f : ℕ → X) where
  -- where all pass, all stay
  all_pass : (n : ℕ) → ((x : ℕ) → x < n → p (f x) ≡ true) → filter p (map f (range_with_len 0 n)) ≡ map f (range_with_len 0 n)
  all_pass zero pass = refl
  all_pass (suc n) pass =
      ap (λ k. filter p (map f (range_with_len 0 k))) (sym (add-one n))
      ∙ filter_of_map_range_with_len_more p f 0 n n (omega arith)
      ∙ ap (λ b. filter p (map f (range_with_len 0 n)) ++ cond b (f n ∷ []) []) (pass n (omega arith))
      ∙ ap (λ xs. xs ++ f n ∷ []) (all_pass n (λ x l. pass x (omega (arith, l))))
      ∙ sym (map-range_with_len_more f 0 n n (omega arith))
      ∙ ap (λ k. map f (range_with_len 0 k)) (add-one n)

  -- where none passes from n on, those go
  none_pass : (n m : ℕ) → ((x : ℕ) → n ≤ x → x < n + m → p (f x) ≡ false) → filter p (map f (range_with_len 0 (n + m))) ≡ filter p (map f (range_with_len 0 n))
  none_pass n zero fail = ap (λ k. filter p (map f (range_with_len 0 k))) (add-zero n)
  none_pass n (suc m) fail =
      let more : n + suc m ≡ (n + m) + 1 = omega arith in
      ap (λ k. filter p (map f (range_with_len 0 k))) more
      ∙ filter_of_map_range_with_len_more p f 0 (n + m) (n + m) (omega arith)
      ∙ ap (λ b. filter p (map f (range_with_len 0 (n + m))) ++ cond b (f (n + m) ∷ []) []) (fail (n + m) (omega arith) (omega arith))
      ∙ append-nil (filter p (map f (range_with_len 0 (n + m))))
      ∙ none_pass n m (λ x l h. fail x l (omega (arith, h)))

  pub first_pass : (n total : ℕ) → n ≤ total → ((x : ℕ) → x < n → p (f x) ≡ true) → ((x : ℕ) → n ≤ x → x < total → p (f x) ≡ false)
      → filter p (map f (range_with_len 0 total)) ≡ map f (range_with_len 0 n)
  first_pass n total few pass fail =
      let parts : total ≡ n + (total - n) = omega arith in
      ap (λ k. filter p (map f (range_with_len 0 k))) parts
      ∙ none_pass n (total - n) (λ x l h. fail x l (omega (arith, h)))
      ∙ all_pass n pass

module _ (from step end n : ℕ) (long : 1 ≤ step) (is : n ≡ div_ceil (end - from) step) where
  -- each of the first is below the end
  pub below : (x : ℕ) → x < n → from + x * step < end
  below x l =
      let most : n * step < (end - from) + step = let h = (div_ceil_times (end - from) step (omega (arith, long))).1 in rw is h in
      let near = mul-le-mul_right {m = suc x} {n = n} step (omega (arith, l)) in
      omega (arith, most, near, suc-mul x step)

  -- there are no more of them than seconds
  few : n ≤ end - from
  few = ⊎_elim
      (λ l. absurd (let near = below (end - from) l in let far = le-mul_of_pos_right {m = step} (end - from) (omega (arith, long)) in omega (arith, near, far)))
      (λ l. l)
      (cases_lt (end - from) n)

  -- the starts from a time on, every so many seconds, that lie below the end
  pub starts_below : filter (λ s. nat_lt s end) (map (λ x. from + x * step) (range_with_len 0 (end - from))) ≡ map (λ x. from + x * step) (range_with_len 0 n)
  starts_below =
      let enough : end - from ≤ n * step = let h = (div_ceil_times (end - from) step (omega (arith, long))).0 in rw is h in
      first_pass (λ s. nat_lt s end) (λ x. from + x * step) n (end - from) few
      (λ x l. lt-ltb (from + x * step) end (below x l))
      (λ x l h. let far = mul-le-mul_right {m = n} {n = x} step l in le-ltb (from + x * step) end (omega (arith, enough, far)))

-- as many in all as each has
pub sum_each : {X : Type 0} (size : X → ℕ) (f : ℕ → X) (each n : ℕ) → ((x : ℕ) → size (f x) ≡ each) → sum_by size (map f (range_with_len 0 n)) ≡ n * each
sum_each size f each zero h = sym (zero-mul each)
sum_each size f each (suc n) h =
    ap (λ k. sum_by size (map f (range_with_len 0 k))) (sym (add-one n))
    ∙ sum_by-map-range_with_len_more size f 0 n n (omega arith)
    ∙ ap (λ m. sum_by size (map f (range_with_len 0 n)) + m) (h n)
    ∙ ap (λ m. m + each) (sum_each size f each n h)
    ∙ sym (suc-mul n each)

-- one item more
pub made_more : {X : Type 0} (f : ℕ → X) (n : ℕ) (before after : List X) (item : X) → before ≡ map f (range_with_len 0 n) → item ≡ f n → after ≡ before ++ item ∷ [] → after ≡ map f (range_with_len 0 (n + 1))
made_more f n before after item made is pushed = pushed ∙ ap (λ xs. xs ++ item ∷ []) made ∙ ap (λ x. map f (range_with_len 0 n) ++ x ∷ []) is ∙ sym (map-range_with_len_more f 0 n n (omega arith))
