-- Reading the step of a cell.
use Rattle.std.proofs.Common.{◌≡◌, ℕ, ◌%◌, ◌<◌, List, get_or, Some, None, Option, IfSome, sym, ap, ◌∙◌, arith}
use Rattle.std.specs.List.{slice_get}
use Rattle.std.proofs.lemmas.List.{get_or_default}
use Rattle.std.proofs.lemmas.Option.{slice_get-map}
use Rattle.credential.specs.Same.{Credential}
use Rattle.source.specs.declared.sources.Shown.{Shown}
use Rattle.source.specs.Shows.{stated, credential_at}
use Rattle.rules.specs.declared.memberships.Reason.{Reason}
use Rattle.rules.specs.Tables.{no_reason}
use Rattle.rules.specs.Grants.{rests_with}
use Rattle.heads.specs.Enrolled.{BodyIn, AllIn}
use Rattle.walk.specs.declared.reasons.CellStep.{CellStep}
use Rattle.derivation.specs.Trail.{cell_count, cell_if, step_by, step_at, HasReasons}
use Rattle.derivation.proofs.Rests.{credential_in}

stated_at : (xs : List Shown) (i : ℕ) → slice_get (stated xs) i ≡ credential_at xs i
stated_at xs i = slice_get-map (λ s. s.credential) xs i

-- a credential that is shown names what is enrolled
pub body_known : (E : ℕ) (xs : List Shown) (i : ℕ) (o : Option Credential) → AllIn E (stated xs) → o ≡ credential_at xs i → IfSome o (λ c. BodyIn E c.body)
body_known E xs i None known e = tt
body_known E xs i (Some c) known e = (credential_in E (stated xs) i c known (stated_at xs i ∙ sym e)).body

-- the step by the credential that is shown
pub step_shown : (xs : List Shown) (E : ℕ) (reasons : List Reason) (c : ℕ) (d : Reason) → HasReasons (stated xs) E reasons → c < cell_count (stated xs) E → (o : Option Credential) → o ≡ credential_at xs (get_or reasons c d).place → (cells : Option ℕ × Option ℕ)
    → cells ≡ (cell_if (stated xs) E (slice_get (rests_with (c % E) (get_or reasons c d).middle.0 o) 0), cell_if (stated xs) E (slice_get (rests_with (c % E) (get_or reasons c d).middle.0 o) 1))
    → ◌≡◌ {A = CellStep} (record { place = (get_or reasons c d).place; member = record { 0 = c % E }; middle = (get_or reasons c d).middle; first = cells.0; second = cells.1 }) (step_at (stated xs) E reasons c)
step_shown xs E reasons c d has l o shown cells are =
    let y = get_or reasons c d in
    let make : Option ℕ × Option ℕ → CellStep = λ p. record { place = y.place; member = record { 0 = c % E }; middle = y.middle; first = p.0; second = p.1 } in
    let by : Option Credential → CellStep = λ z. make (cell_if (stated xs) E (slice_get (rests_with (c % E) y.middle.0 z) 0), cell_if (stated xs) E (slice_get (rests_with (c % E) y.middle.0 z) 1)) in
    ap make are ∙ ap by (shown ∙ sym (stated_at xs y.place)) ∙ ap (λ w. step_by (stated xs) E w (c % E)) (get_or_default reasons c d no_reason (omega (arith, has.each)))
