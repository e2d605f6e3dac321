-- Credentials whose numbers are below bounds: of n entities, and of 32 role names.
use Rattle.std.specs.Prelude.{ℕ, ◌<◌, List}
use Rattle.std.specs.List.{AllByRecursion, AllByRecursion-prop}
use Rattle.std.specs.Coded.{×_prop, le_prop}
use Rattle.credential.specs.declared.Role.{Role}
use Rattle.credential.specs.declared.Record.{Record}
use Rattle.credential.specs.declared.Body.{Body}
use Rattle.credential.specs.declared.Body.TheVariants.{Member, Delegation, Link, Intersection}
use Rattle.credential.specs.Same.{Credential}

pub record RoleIn (n : ℕ) (r : Role) : Type 0 where
  pub entity : r.entity.0 < n
  pub name : r.name.0 < 32

abbrev pub BodyIn : ℕ → Body Record → Type 0
BodyIn n (Member x w) = x.0 < n
BodyIn n (Delegation b) = RoleIn n b
BodyIn n (Link b t) = RoleIn n b × (t.0 < 32)
BodyIn n (Intersection b c) = RoleIn n b × RoleIn n c

pub record CredentialIn (n : ℕ) (c : Credential) : Type 0 where
  pub head : RoleIn n c.head
  pub body : BodyIn n c.body

abbrev pub AllIn : ℕ → List Credential → Type 0
AllIn n cs = AllByRecursion (CredentialIn n) cs

-- each of these facts has one proof at most

RoleIn-prop : (n : ℕ) (r : Role) → IsProp (RoleIn n r)
RoleIn-prop n r = hlevel le_prop

BodyIn-prop : (n : ℕ) (b : Body Record) → IsProp (BodyIn n b)
BodyIn-prop n (Member x w) = le_prop
BodyIn-prop n (Delegation b) = RoleIn-prop n b
BodyIn-prop n (Link b t) = ×_prop (RoleIn-prop n b) le_prop
BodyIn-prop n (Intersection b c) = ×_prop (RoleIn-prop n b) (RoleIn-prop n c)

CredentialIn-prop : (n : ℕ) (c : Credential) → IsProp (CredentialIn n c)
CredentialIn-prop n c = hlevel (RoleIn-prop n c.head, BodyIn-prop n c.body)

pub AllIn-prop : (n : ℕ) (cs : List Credential) → IsProp (AllIn n cs)
AllIn-prop n cs = AllByRecursion-prop (CredentialIn n) (CredentialIn-prop n) cs
