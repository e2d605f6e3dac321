-- What the rules give: the ways to a membership.
use Rattle.std.specs.Prelude.{ℕ, zero, suc, cond, List, [], ◌∷◌, ◌++◌, map, Option, ◌==◌}
use Rattle.credential.specs.declared.Role.{Role}
use Rattle.credential.specs.declared.RoleName.{RoleName}
use Rattle.credential.specs.declared.Record.{Record}
use Rattle.credential.specs.declared.Body.{Body}
use Rattle.credential.specs.declared.Body.TheVariants.{Member, Delegation, Link, Intersection}
use Rattle.credential.specs.Same.{Credential, same_role}
use Rattle.scale.specs.Scale.{Meaning, full_weight}
use Rattle.rules.specs.declared.memberships.Membership.{Membership}

-- that x belongs to r
abbrev pub belongs : Role → ℕ → Membership
belongs r x = record { role = r; member = record { 0 = x } }

-- the role that k calls t
abbrev pub role_of : ℕ → RoleName → Role
role_of k t = record { entity = record { 0 = k }; name = t }

-- one way to a membership: the place of the credential, the middle of a link (0 otherwise), a weight
-- of its own, and the memberships whose weights are combined with it
pub record Way (S : Type 0) : Type 0 where
  pub place : ℕ
  pub middle : ℕ
  pub weight : Option S
  pub premises : List Membership

abbrev pub way : {S : Type 0} → ℕ → ℕ → Option S → List Membership → Way S
way p k w ps = record { place = p; middle = k; weight = w; premises = ps }

-- 0, 1 and so on, below n
abbrev pub below : ℕ → List ℕ
below zero = []
below (suc n) = below n ++ (n ∷ [])

-- M is the meaning of the scale, and E the number of entities enrolled
module _ {S : Type 0} (M : Meaning S) (E : ℕ) where
  -- what the body of the credential at place p gives its head for the member x:
  -- a membership, X belongs with its weight;
  -- a delegation, each X of B.s, same weight;
  -- a link, each X of C.t for each middle C of B.s, weights combined, in order of middle;
  -- an intersection, an X of both, weights combined
  abbrev pub ways_by : ℕ → Body Record → ℕ → List (Way S)
  ways_by p (Member y w) x = cond (y.0 == x) (way p 0 (M.credential w) [] ∷ []) []
  ways_by p (Delegation b) x = way p 0 (full_weight M) (belongs b x ∷ []) ∷ []
  ways_by p (Link b t) x = map (λ k. way p k (full_weight M) (belongs b k ∷ belongs (role_of k t) x ∷ [])) (below E)
  ways_by p (Intersection b c) x = way p 0 (full_weight M) (belongs b x ∷ belongs c x ∷ []) ∷ []

  -- a credential gives only to its head
  abbrev pub ways_of : ℕ → Credential → Membership → List (Way S)
  ways_of p c q = cond (same_role c.head q.role) (ways_by p c.body q.member.0) []

  abbrev pub ways_from : ℕ → List Credential → Membership → List (Way S)
  ways_from p [] q = []
  ways_from p (c ∷ cs) q = ways_of p c q ++ ways_from (suc p) cs q

  -- all ways to a membership, in order of credential place, then of middle
  abbrev pub ways : List Credential → Membership → List (Way S)
  ways cs = ways_from 0 cs
