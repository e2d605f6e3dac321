-- Rules and look-ups one after another, and what was made of what the last one gave.
use Rattle.std.proofs.Common.{◌≡◌, ℕ, List, Ok, Err, Result, refl, ap, arith}
use Rattle.words.specs.Split.{Placed}
use Rattle.reader.specs.Grammar.{Got, then}
use Rattle.reader.specs.Calls.{and_then}

pub err_ok : {X E A : Type 0} {e : E} {x : X} → ◌≡◌ {A = Result X E} (Err e) (Ok x) → A
err_ok e = absurd (let z : ◌≡◌ {A = ℕ} 0 1 = cc in omega arith)

-- `cc` takes constructors apart, and no tuple
pub got_same : {X : Type 0} (x y : X) (ws vs : List Placed) → ◌≡◌ {A = Got X} (Ok (x, ws)) (Ok (y, vs)) → (x ≡ y) × (ws ≡ vs)
got_same {X} x y ws vs e = let h : ◌≡◌ {A = X × List Placed} (x, ws) (y, vs) = cc in (ap (λ p. p.0) h, ap (λ p. p.1) h)

pub then_then : {X Y Z : Type 0} (g : Got X) (f : X → List Placed → Got Y) (k : Y → List Placed → Got Z) → then (then g f) k ≡ then g (λ x ws. then (f x ws) k)
then_then (Err e) f k = refl
then_then (Ok p) f k = refl

pub then_back : {X Y : Type 0} (g : Got X) (f : X → List Placed → Got Y) (q : Y × List Placed) → then g f ≡ Ok q → (x : X) × (ws : List Placed) × (g ≡ Ok (x, ws)) × (f x ws ≡ Ok q)
then_back (Err e) f q h = err_ok h
then_back (Ok p) f q h = (p.0, p.1, refl, h)

pub then_made : {X Y : Type 0} (g : Got X) (make : X → Y) (y : Y) (rest : List Placed) → then g (λ x ws. Ok (make x, ws)) ≡ Ok (y, rest) → (x : X) × (g ≡ Ok (x, rest)) × (make x ≡ y)
then_made (Err e) make y rest h = err_ok h
then_made (Ok p) make y rest h = let same = got_same (make p.0) y p.1 rest h in (p.0, ap (λ ws. Ok (p.0, ws)) same.1, same.0)

pub and_then_back : {X Y E : Type 0} (r : Result X E) (f : X → Result Y E) (y : Y) → and_then r f ≡ Ok y → (x : X) × (r ≡ Ok x) × (f x ≡ Ok y)
and_then_back (Err e) f y h = err_ok h
and_then_back (Ok x) f y h = (x, refl, h)

pub and_then_made : {X Y E : Type 0} (r : Result X E) (make : X → Y) (y : Y) → and_then r (λ x. Ok (make x)) ≡ Ok y → (x : X) × (r ≡ Ok x) × (make x ≡ y)
and_then_made (Err e) make y h = err_ok h
and_then_made (Ok x) make y h = (x, refl, cc)
