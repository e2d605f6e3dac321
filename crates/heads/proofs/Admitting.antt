-- What is not bad has enrolled numbers.
use Rattle.std.proofs.Common.{◌≡◌, ℕ, suc, ◌≤◌, Bool, true, false, cond, not, List, [], ◌∷◌, length, nat_lt, refl, arith}
use Rattle.std.proofs.lemmas.Bool.{and_parts, ltb-true, ltb-false, le-ltb}
use Rattle.credential.specs.declared.Role.{Role}
use Rattle.credential.specs.declared.Record.{Record}
use Rattle.credential.specs.declared.Body.{Body}
use Rattle.credential.specs.declared.Body.TheVariants.{Member, Delegation, Link, Intersection}
use Rattle.credential.specs.Same.{Credential}
use Rattle.scale.specs.Scale.{Meaning}
use Rattle.book.specs.Plain.{first, among, role_enrolled, body_enrolled}
use Rattle.heads.specs.Admitted.{bad}
use Rattle.heads.specs.Enrolled.{RoleIn, BodyIn, CredentialIn, AllIn}

pub not_false : (b : Bool) → not b ≡ false → b ≡ true
not_false true e = refl
not_false false e = cc

module _ {S : Type 0} (M : Meaning S) (E R : ℕ) (few : R ≤ 32) where
  pub role_in : (r : Role) → role_enrolled E R r ≡ true → RoleIn E r
  role_in r h = let k = and_parts _ _ h in let name = ltb-true _ _ k.1 in record { entity = ltb-true _ _ k.0; name = omega (arith, name) }

  body_in : (b : Body Record) → body_enrolled E R b ≡ true → BodyIn E b
  body_in (Member x w) h = ltb-true _ _ h
  body_in (Delegation b) h = role_in b h
  body_in (Link b t) h = let k = and_parts _ _ h in let name = ltb-true _ _ k.1 in (role_in b k.0, omega (arith, name))
  body_in (Intersection b c) h = let k = and_parts _ _ h in (role_in b k.0, role_in c k.1)

  pub good_in : (c : Credential) → bad M E R c ≡ false → CredentialIn E c
  good_in c h =
      let k = and_parts _ _ (and_parts _ _ (not_false _ h)).0 in
      record { head = role_in c.head k.0; body = body_in c.body k.1 }

  pub all_in : (cs : List Credential) → among (bad M E R) cs ≡ false → AllIn E cs
  all_in [] h = tt
  all_in (c ∷ cs) h = by (bad M E R c) refl h (all_in cs)
    where
      by : (v : Bool) → bad M E R c ≡ v → nat_lt (cond v 0 (suc (first (bad M E R) cs))) (suc (length cs)) ≡ false → (among (bad M E R) cs ≡ false → AllIn E cs) → CredentialIn E c × AllIn E cs
      by true e h again = absurd (omega (arith, ltb-false _ _ h))
      by false e h again = (good_in c e, again (le-ltb _ _ (omega (arith, ltb-false _ _ h))))
