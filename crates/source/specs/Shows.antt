-- What a source shows: a list of credentials, each with its origin.
use Rattle.std.specs.Prelude.{◌≡◌, ℕ, suc, List, [], ◌∷◌, ◌++◌, map, take, Option}
use Rattle.std.specs.Option.{option_map}
use Rattle.std.specs.List.{slice_get}
use Rattle.credential.specs.Same.{Credential}
use Rattle.source.specs.declared.sources.Origin.{Origin}
use Rattle.source.specs.declared.sources.Shown.{Shown as CredentialWithOrigin}

abbrev pub Shown : Type 0
Shown = CredentialWithOrigin

-- the credentials that are shown, their origins aside
abbrev pub stated : List Shown → List Credential
stated xs = map (λ s. s.credential) xs

-- the credential and the origin at a place, and nothing past the end
abbrev pub credential_at : List Shown → ℕ → Option Credential
credential_at xs i = option_map (λ s. s.credential) (slice_get xs i)

abbrev pub origin_at : List Shown → ℕ → Option Origin
origin_at xs i = option_map (λ s. s.origin) (slice_get xs i)

-- a layer shows its list in order of place, from 0
abbrev pub layer_from : ℕ → ℕ → List Credential → List Shown
layer_from l n [] = []
layer_from l n (c ∷ cs) = record { credential = c; origin = record { layer = l; place = n } } ∷ layer_from l (suc n) cs

abbrev pub layer : ℕ → List Credential → List Shown
layer l cs = layer_from l 0 cs

-- one list after another, cut after 65,535
abbrev pub joined : List Shown → List Shown → List Shown
joined xs ys = take 65535 (xs ++ ys)

-- however joins are nested, the same list is shown, the cut included
abbrev pub JoinsAssociate : Type 0
JoinsAssociate = (xs ys zs : List Shown) → joined (joined xs ys) zs ≡ joined xs (joined ys zs)
