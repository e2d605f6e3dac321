-- Bounds on the heads, and on who is enrolled.
use Rattle.std.proofs.Common.{◌≡◌, ℕ, suc, ◌*◌, ◌≤◌, Bool, true, false, cond, List, [], ◌∷◌, length, mul-le-mul_right, arith}
use Rattle.std.proofs.ByRecursion.{All-weaker}
use Rattle.credential.specs.declared.Role.{Role}
use Rattle.credential.specs.declared.Record.{Record}
use Rattle.credential.specs.declared.Body.{Body}
use Rattle.credential.specs.declared.Body.TheVariants.{Member, Delegation, Link, Intersection}
use Rattle.credential.specs.Same.{Credential, same_role}
use Rattle.rules.specs.Cells.{others, heads}
use Rattle.heads.specs.Enrolled.{RoleIn, BodyIn, CredentialIn, AllIn}

others_fewer : (r : Role) (rs : List Role) → length (others r rs) ≤ length rs
others_fewer r [] = omega arith
others_fewer r (a ∷ rs) = by (same_role a r) (others_fewer r rs)
  where
    by : (v : Bool) → length (others r rs) ≤ length rs → length (cond v (others r rs) (a ∷ others r rs)) ≤ suc (length rs)
    by true h = omega arith
    by false h = omega arith

pub heads_fewer : (cs : List Credential) → length (heads cs) ≤ length cs
heads_fewer [] = omega arith
heads_fewer (c ∷ cs) = omega (arith, others_fewer c.head (heads cs), heads_fewer cs)

pub few_cells : (E n : ℕ) (cs : List Credential) → E ≤ 64 → length cs ≤ 512 → n ≡ length (heads cs) → n * E ≤ 32768
few_cells E n cs few short e = let h : n ≤ 512 = omega (arith, heads_fewer cs) in omega (arith, mul-le-mul_right E h)

module _ (E : ℕ) (few : E ≤ 64) where
  pub role_in : (r : Role) → RoleIn E r → RoleIn 64 r
  role_in r h = record { entity = omega (arith, h.entity); name = h.name }

  body_in : (y : Body Record) → BodyIn E y → BodyIn 64 y
  body_in (Member x w) h = omega arith
  body_in (Delegation b) h = role_in b h
  body_in (Link b t) h = (role_in b h.0, h.1)
  body_in (Intersection b c) h = (role_in b h.0, role_in c h.1)

  pub all_in : (cs : List Credential) → AllIn E cs → AllIn 64 cs
  all_in cs h = All-weaker (CredentialIn E) (CredentialIn 64) (λ c k. record { head = role_in c.head k.head; body = body_in c.body k.body }) cs h
