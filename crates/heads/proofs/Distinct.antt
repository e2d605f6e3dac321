-- The heads of credentials: none comes twice, and a role that is none has no ways.
use Rattle.std.proofs.Common.{◌≡◌, ℕ, suc, true, false, ◌⊎◌, List, [], ◌∷◌, None, sym, refl, ap, ◌∙◌, inl, inr}
use Rattle.std.specs.Option.{option_map}
use Rattle.scale.specs.Scale.{Meaning}
use Rattle.credential.specs.declared.Role.{Role}
use Rattle.credential.specs.Same.{Credential, same_role}
use Rattle.rules.specs.Ways.{belongs, ways_from}
use Rattle.rules.specs.Cells.{others, heads, number}
use Rattle.heads.proofs.Roles.{which, numbered_first, numbered_later, none_less}

abbrev pub Unrepeated : List Role → Type 0
Unrepeated [] = Unit {0}
Unrepeated (r ∷ rs) = (number rs r ≡ None) × Unrepeated rs

abbrev pub Which : Role → Role → Type 0
Which a b = ((a ≡ b) × (same_role a b ≡ true)) ⊎ ((a ≡ b → ⊥) × (same_role a b ≡ false))

-- the first of others, either way
pub skipped : (r a : Role) (rs : List Role) → same_role a r ≡ true → others r (a ∷ rs) ≡ others r rs
skipped r a rs e = rw e

pub kept : (r a : Role) (rs : List Role) → same_role a r ≡ false → others r (a ∷ rs) ≡ a ∷ others r rs
kept r a rs e = rw e

-- a role that has no number among a ∷ rs is not a, and has none among rs
pub not_first : (a : Role) (rs : List Role) (r : Role) → number (a ∷ rs) r ≡ None → (a ≡ r → ⊥) × (same_role a r ≡ false) × (number rs r ≡ None)
not_first a rs r e = by (which a r)
  where
    by : Which a r → (a ≡ r → ⊥) × (same_role a r ≡ false) × (number rs r ≡ None)
    by (inl p) = cc (numbered_first a rs r p.1)
    by (inr p) = (p.0, p.1, none_less (number rs r) (sym (numbered_later a rs r p.1) ∙ e))

pub none_later : (a : Role) (rs : List Role) (r : Role) → same_role a r ≡ false → number rs r ≡ None → number (a ∷ rs) r ≡ None
none_later a rs r e f = numbered_later a rs r e ∙ ap (option_map suc) f

others_none : (r : Role) (rs : List Role) → number (others r rs) r ≡ None
others_none r [] = refl
others_none r (a ∷ rs) = by (which a r) (others_none r rs)
  where
    by : Which a r → number (others r rs) r ≡ None → number (others r (a ∷ rs)) r ≡ None
    by (inl p) h = rw p.1 h
    by (inr p) h = rw (p.1, p.1, h)

pub others_keeps : (r b : Role) (rs : List Role) → number rs b ≡ None → number (others r rs) b ≡ None
others_keeps r b [] h = refl
others_keeps r b (a ∷ rs) h = by (which a r) (not_first a rs b h) (others_keeps r b rs (not_first a rs b h).2)
  where
    by : Which a r → (a ≡ b → ⊥) × (same_role a b ≡ false) × (number rs b ≡ None) → number (others r rs) b ≡ None → number (others r (a ∷ rs)) b ≡ None
    by (inl p) q k = rw p.1 k
    by (inr p) q k = rw (p.1, q.1, k)

others_unrepeated : (r : Role) (rs : List Role) → Unrepeated rs → Unrepeated (others r rs)
others_unrepeated r [] u = tt
others_unrepeated r (a ∷ rs) u = by (which a r) (others_unrepeated r rs u.1)
  where
    by : Which a r → Unrepeated (others r rs) → Unrepeated (others r (a ∷ rs))
    by (inl p) h = rw p.1 h
    by (inr p) h = rw p.1 (others_keeps r a rs u.0, h)

pub others_back : (b r : Role) (rs : List Role) → (b ≡ r → ⊥) → number (others b rs) r ≡ None → number rs r ≡ None
others_back b r [] n h = refl
others_back b r (a ∷ rs) n h = by (which a b) (which a r) (others_back b r rs n)
  where
    by : Which a b → Which a r → (number (others b rs) r ≡ None → number rs r ≡ None) → number (a ∷ rs) r ≡ None
    by (inl p) (inl q) again = absurd (n (sym p.0 ∙ q.0))
    by (inl p) (inr q) again = rw (q.1, again (rw p.1 at h))
    by (inr p) q again = let f = not_first a (others b rs) r (rw p.1 at h) in rw (f.1, again f.2)

pub heads_unrepeated : (cs : List Credential) → Unrepeated (heads cs)
heads_unrepeated [] = tt
heads_unrepeated (c ∷ cs) = (others_none c.head (heads cs), others_unrepeated c.head (heads cs) (heads_unrepeated cs))

-- what is no head has no ways
pub no_ways : {S : Type 0} (m : Meaning S) (E n : ℕ) (cs : List Credential) (r : Role) (x : ℕ) → number (heads cs) r ≡ None → ways_from m E n cs (belongs r x) ≡ []
no_ways m E n [] r x h = refl
no_ways m E n (c ∷ cs) r x h =
    let f = not_first c.head (others c.head (heads cs)) r h in
    rw f.1 (no_ways m E (suc n) cs r x (others_back c.head r (heads cs) f.0 f.2))
