-- From what is ruled to what decide promises.
use Rattle.std.proofs.Common.{◌≡◌, ℕ, ◌≤◌, Bool, true, false, cond, ◌||◌, ltb, List, ◌++◌, length, drop, Some, None, Ok, sym, refl, ap, subst, ap₂, arith}
use Rattle.std.proofs.lemmas.Bool.{ltb-false}
use Rattle.credential.specs.declared.Record.{Record}
use Rattle.scale.specs.Scale.{Meaning}
use Rattle.source.specs.Shows.{Shown, stated}
use Rattle.rules.specs.declared.memberships.Membership.{Membership}
use Rattle.decision.specs.declared.verdict.Verdict.{Verdict}
use Rattle.decision.specs.Answers.{refused_for_want_of}
use Rattle.decision.specs.Conditions.{Lists, short, or_else, many_cells, unfit, cramped}
use Rattle.decision.specs.Decided.{Ruled, Decided}

-- where no list is short, each has room
pub roomy : {S : Type 0} (ls : Lists S) (n : ℕ) → false ≡ short ls n → (n ≤ length ls.former) × (n ≤ length ls.latest) × (n ≤ length ls.reasons) × (n ≤ length ls.steps)
roomy ls n e = go (ltb (length ls.former) n) (ltb (length ls.latest) n) (ltb (length ls.reasons) n) (ltb (length ls.steps) n) refl refl refl refl e
  where
    clash : {X : Type 0} → false ≡ true → X
    clash e = absurd (let z : ◌≡◌ {A = ℕ} 0 1 = cc in omega arith)

    go : (a b c d : Bool) → ltb (length ls.former) n ≡ a → ltb (length ls.latest) n ≡ b → ltb (length ls.reasons) n ≡ c → ltb (length ls.steps) n ≡ d → false ≡ (a || (b || (c || d))) → (n ≤ length ls.former) × (n ≤ length ls.latest) × (n ≤ length ls.reasons) × (n ≤ length ls.steps)
    go true b c d p q r s e = clash e
    go false true c d p q r s e = clash e
    go false false true d p q r s e = clash e
    go false false false true p q r s e = clash e
    go false false false false p q r s e = (ltb-false _ _ p, ltb-false _ _ q, ltb-false _ _ r, ltb-false _ _ s)

-- the front of a lent list is written, and all beyond is unchanged
pub fronted : {X : Type 0} (ws vs xs : List X) (need many : ℕ) → ws ≡ vs → need ≡ many → ws ++ drop need xs ≡ vs ++ drop many xs
fronted ws vs xs need many e i = ap₂ (λ a b. a ++ b) e (ap (λ k. drop k xs) i)

module _ {S : Type 0} (M : Meaning S) (E R : ℕ) (xs : List Shown) (goal : Membership) (threshold : Record) (before after : Lists S) (v : Verdict S) (asked : S) where
  pub decided : unfit M E R goal threshold xs ≡ None → false ≡ short before (many_cells E (stated xs)) → M.threshold threshold ≡ Some asked → Ruled M E (stated xs) goal asked before after v → Decided M E R xs goal threshold before after (Ok v)
  decided fit room asks ruled = record {
    refuses =
        let rest : cramped M E R goal threshold xs before ≡ None = ap (λ (b : Bool). cond b (Some (refused_for_want_of 13 (many_cells E (stated xs)))) None) (sym room) in
        sym (ap₂ or_else fit rest);
    keeps = λ e h. absurd (let z : ◌≡◌ {A = ℕ} 0 1 = cc in omega arith);
    rules = λ u h. let same : v ≡ u = cc in subst (λ (w : Verdict S). (a : S) × (M.threshold threshold ≡ Some a) × Ruled M E (stated xs) goal a before after w) same (asked, asks, ruled);
  }
