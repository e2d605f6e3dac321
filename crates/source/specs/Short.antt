-- No source shows more than 65,535: proofs that the sources' own values cite.
use Rattle.std.specs.Prelude.{◌≡◌, ℕ, suc, ◌≤◌, List, [], ◌∷◌, length, refl}
use Rattle.std.proofs.Common.{ap, arith, length-take}
use Rattle.credential.specs.Same.{Credential}
use Rattle.book.specs.declared.store.Book.{Book}
use Rattle.book.specs.Kept.{listed}
use Rattle.source.specs.declared.slips.Slip.{Slip}
use Rattle.source.specs.Slips.{presented}
use Rattle.source.specs.Shows.{Shown, layer, layer_from, joined}

pub length_layer : (l n : ℕ) (cs : List Credential) → length (layer_from l n cs) ≡ length cs
length_layer l n [] = refl
length_layer l n (c ∷ cs) = ap suc (length_layer l (suc n) cs)

layer_short : (l : ℕ) (cs : List Credential) → length cs ≤ 65535 → length (layer l cs) ≤ 65535
layer_short l cs h = omega (arith, length_layer l 0 cs)

pub book_short : (b : Book) → length (layer 1 (listed b)) ≤ 65535
book_short b = layer_short 1 (listed b) (omega (arith, b.room, b.credentials.ok.0))

pub slip_short : (s : Slip) → length (layer 2 (presented s)) ≤ 65535
slip_short s = layer_short 2 (presented s) (omega (arith, s.room, s.credentials.ok.0))

pub cut_short : (xs ys : List Shown) → length (joined xs ys) ≤ 65535
cut_short xs ys = simp length-take (omega arith)

pub none_short : length {A = Shown} [] ≤ 65535
none_short = omega arith
