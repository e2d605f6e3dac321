-- A text in an array of 24 bytes, zeros after it: its length and its bytes give the array back. It stands here since
-- a name cites it; nobody has to read it.
use Rattle.std.specs.Prelude.{◌≡◌, ℕ, ◌-◌, ◌≤◌, List, ◌++◌, length, take, replicate}
use Rattle.std.proofs.Common.{arith, ap, sym, ◌∙◌, length-take-le}

pub long : (n : ℕ) (bs : List ℕ) → n ≤ 24 → length bs ≡ 24 → length (take n bs) ≡ n
long n bs few whole = length-take-le n bs (omega arith)

pub padded : (n : ℕ) (bs : List ℕ) → n ≤ 24 → length bs ≡ 24 → bs ≡ take n bs ++ replicate (24 - n) 0 → take n bs ++ replicate (24 - length (take n bs)) 0 ≡ bs
padded n bs few whole zeros = ap (λ k. take n bs ++ replicate (24 - k) 0) (long n bs few whole) ∙ sym zeros
