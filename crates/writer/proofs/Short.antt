-- How long a text can be.
use Rattle.std.proofs.Common.{◌≤◌, length, arith, length-append}
use Rattle.std.proofs.lemmas.Fmt.{length_signed_le}
use Rattle.words.specs.Split.{after}
use Rattle.credential.specs.declared.Record.{Record}
use Rattle.reader.specs.Spelling.{weight_words}
use Rattle.reader.specs.RoundTrip.{Fits32}

-- a number of 32 signed bits has at most 11 bytes
pub weight_short : (w : Record) → Fits32 w → length (after 32 (weight_words w)) ≤ 26
weight_short w fits =
    simp length-append (omega (arith, length_signed_le 10 w.ceiling (omega (arith, fits.0)) (omega (arith, fits.0)), length_signed_le 10 w.distance (omega (arith, fits.1)) (omega (arith, fits.1))))
