-- The numbers of the heads, one credential more at a time.
use Rattle.std.proofs.Common.{◌≡◌, ℕ, suc, ◌+◌, Bool, true, false, cond, ◌≢◌, List, [], ◌∷◌, ◌++◌, length, get_or, set, replicate, Some, None, Option, sym, refl, ap, ◌∙◌, subst, ap₂, inl, inr, append-nil, arith, length-append, length-set}
use Rattle.std.specs.Option.{option_map}
use Rattle.std.proofs.lemmas.List.{get_or-set_same, get_or-set_other, get_or-replicate, length-replicate}
use Rattle.credential.specs.declared.Role.{Role}
use Rattle.credential.specs.Same.{Credential, same_role}
use Rattle.rules.specs.Cells.{others, heads, number}
use Rattle.heads.specs.declared.index.HeadIndex.{HeadIndex}
use Rattle.heads.specs.Slots.{slot}
use Rattle.heads.specs.Index.{noted_as, noted, Indexed}
use Rattle.heads.specs.Enrolled.{RoleIn}
use Rattle.heads.proofs.Roles.{which, numbered_later}
use Rattle.heads.proofs.Distinct.{Which, not_first, others_keeps, others_back}

-- the number among some with one put last
pub number_kept : (rs : List Role) (r a : Role) (h : ℕ) → number rs a ≡ Some h → number (rs ++ (r ∷ [])) a ≡ number rs a
number_kept [] r a h e = cc
number_kept (b ∷ rs) r a h e = by (which b a) (number rs a) refl (number_kept rs r a)
  where
    by : Which b a → (n : Option ℕ) → number rs a ≡ n → ((k : ℕ) → number rs a ≡ Some k → number (rs ++ (r ∷ [])) a ≡ number rs a) → number (b ∷ (rs ++ (r ∷ []))) a ≡ number (b ∷ rs) a
    by (inl p) n k again = rw p.1
    by (inr p) None k again = cc (ap (option_map suc) k, numbered_later b rs a p.1)
    by (inr p) (Some j) k again = rw (p.1, again j k)

pub number_last : (rs : List Role) (r a : Role) → number rs a ≡ None → number (rs ++ (r ∷ [])) a ≡ cond (same_role r a) (Some (length rs)) None
number_last [] r a e = refl
number_last (b ∷ rs) r a e =
    let f = not_first b rs a e in
    rw (f.1, number_last rs r a f.2) (push (same_role r a))
  where
    push : (v : Bool) → option_map suc (cond v (Some (length rs)) None) ≡ cond v (Some (suc (length rs))) None
    push true = refl
    push false = refl

others_append : (r : Role) (xs ys : List Role) → others r (xs ++ ys) ≡ others r xs ++ others r ys
others_append r [] ys = refl
others_append r (a ∷ xs) ys = by (same_role a r) (others_append r xs ys)
  where
    by : (v : Bool) → others r (xs ++ ys) ≡ others r xs ++ others r ys → cond v (others r (xs ++ ys)) (a ∷ others r (xs ++ ys)) ≡ cond v (others r xs) (a ∷ others r xs) ++ others r ys
    by true h = h
    by false h = ap (λ zs. a ∷ zs) h

-- the heads with one credential more
pub heads_end : (cs : List Credential) (c : Credential) → heads (cs ++ (c ∷ [])) ≡ noted (heads cs) c.head
heads_end [] c = refl
heads_end (d ∷ cs) c =
    rw (heads_end cs c) (by (which d.head c.head) (which c.head d.head) (number (heads cs) c.head) refl (number (others d.head (heads cs)) c.head) refl)
  where
    by : Which d.head c.head → Which c.head d.head → (n : Option ℕ) → number (heads cs) c.head ≡ n → (k : Option ℕ) → number (others d.head (heads cs)) c.head ≡ k → d.head ∷ others d.head (noted (heads cs) c.head) ≡ noted (d.head ∷ others d.head (heads cs)) c.head
    by (inl p) q (Some h) e k f = rw (e, p.1)
    by (inl p) (inr q) None e k f = absurd (q.0 (sym p.0))
    by (inl p) (inl q) None e k f = rw (e, p.1, others_append, q.1, append-nil)
    by (inr p) (inl q) n e k f = absurd (p.0 (sym q.0))
    by (inr p) (inr q) None e k f = rw (e, p.1, others_keeps d.head c.head (heads cs) e, others_append, q.1)
    by (inr p) (inr q) (Some h) e None f = cc (others_back d.head c.head (heads cs) p.0 f)
    by (inr p) (inr q) (Some h) e (Some j) f = rw (e, p.1, f)

slots_apart : (a b : Role) → RoleIn 64 a → RoleIn 64 b → slot a ≡ slot b → a ≡ b
slots_apart a b ha hb e =
    let n : a.name.0 ≡ b.name.0 = omega (arith, ha.name, hb.name, e) in
    let t : a.entity.0 ≡ b.entity.0 = omega (arith, ha.name, hb.name, e) in
    ap₂ (λ i j. role i j) t n
  where
    role : ℕ → ℕ → Role
    role i j = record { entity = record { 0 = i }; name = record { 0 = j } }

-- an index with nothing in it
pub index_none : (n : ℕ) → n ≡ 2048 → Indexed (record { numbers = replicate n None; count = 0 }) []
index_none n e = record {
  long = length-replicate n None ∙ e;
  right = λ r he hn. get_or-replicate n (slot r) None None (omega arith);
  count = refl;
}

-- a role that has no number is given the next
pub index_more : (index : HeadIndex) (rs : List Role) → Indexed index rs → (r : Role) → RoleIn 64 r → (k : ℕ) → k ≡ slot r → get_or index.numbers k None ≡ None → Indexed (record { numbers = set index.numbers k (Some index.count); count = index.count + 1 }) (noted rs r)
index_more index rs ix r known k here empty = subst (Indexed after) (sym (ap (λ o. noted_as o rs r) absent)) record {
  long = length-set index.numbers k (Some index.count) ∙ ix.long;
  right = λ a he hn. by a (record { entity = he; name = hn }) (which r a) (number rs a) refl;
  count = simp length-append (omega (arith, ix.count));
}
  where
    after : HeadIndex
    after = record { numbers = set index.numbers k (Some index.count); count = index.count + 1 }

    absent : number rs r ≡ None
    absent = sym (ix.right r known.entity known.name) ∙ ap (λ j. get_or index.numbers j None) (sym here) ∙ empty

    by : (a : Role) → RoleIn 64 a → Which r a → (n : Option ℕ) → number rs a ≡ n → get_or (set index.numbers k (Some index.count)) (slot a) None ≡ number (rs ++ (r ∷ [])) a
    by a h (inl p) n q =
        ap (λ j. get_or (set index.numbers k (Some index.count)) j None) (ap slot (sym p.0) ∙ sym here)
        ∙ get_or-set_same index.numbers k (Some index.count) None (omega (arith, here, known.entity, known.name, ix.long))
        ∙ ap Some ix.count
        ∙ sym (rw p.1 at (number_last rs r a (ap (number rs) (sym p.0) ∙ absent)))
    by a h (inr p) n q =
        let other : slot a ≢ k = λ z. p.0 (sym (slots_apart a r h known (z ∙ here))) in
        get_or-set_other index.numbers k (slot a) (Some index.count) None other
        ∙ ix.right a h.entity h.name
        ∙ sym (ends n q)
      where
        ends : (n : Option ℕ) → number rs a ≡ n → number (rs ++ (r ∷ [])) a ≡ number rs a
        ends None q = (rw p.1 at (number_last rs r a q)) ∙ sym q
        ends (Some k) q = number_kept rs r a k q
