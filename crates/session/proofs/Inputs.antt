-- An input read up to one byte past the most.
use Rattle.std.proofs.Common.{◌≡◌, ℕ, ◌++◌, List, [], length, take, IfSome, Some, None, Option, sym, ap, ◌∙◌, arith, inl, inr}
use Rattle.std.specs.Option.{option_map}
use Rattle.std.proofs.lemmas.Bool.{cond-true, lt-ltb, cases_lt}
use Rattle.std.proofs.lemmas.List.{take_all, length-take}
use Rattle.session.specs.Transcript.{fitting}

-- what is cut off is of an input that is too long
pub cut_fits : (f : List ℕ → List ℕ) (bs : List ℕ) → fitting (take 32769 bs) (f (take 32769 bs)) ≡ fitting bs (f bs)
cut_fits f bs =
    elim (cases_lt 32768 (length bs)) [
      | inl long ↦ cond-true _ _ _ (lt-ltb 32768 (length (take 32769 bs)) (simp length-take (omega arith))) ∙ sym (cond-true _ _ _ (lt-ltb 32768 (length bs) long))
      | inr short ↦ ap (λ l. fitting l (f l)) (take_all 32769 bs (omega arith))
    ]

pub cut : (known : Option (List ℕ)) (limit : ℕ) (read old : List ℕ) → limit ≡ 32769 → old ≡ [] → IfSome (option_map (take limit) known) (λ xs. read ≡ old ++ xs) → IfSome known (λ bs. read ≡ take 32769 bs)
cut None limit read old at empty h = tt
cut (Some bs) limit read old at empty h = h ∙ (λ i. empty i ++ take (at i) bs)

pub alike : (f : List ℕ → List ℕ) (known : Option (List ℕ)) (read : List ℕ) → IfSome known (λ bs. read ≡ take 32769 bs) → IfSome known (λ bs. fitting read (f read) ≡ fitting bs (f bs))
alike f None read h = tt
alike f (Some bs) read h = ap (λ l. fitting l (f l)) h ∙ cut_fits f bs
