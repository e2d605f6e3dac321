-- A token and its bytes, both ways.
use Rattle.std.proofs.Common.{◌≡◌, ℕ, suc, ◌^◌, ◌<◌, ◌≤◌, Bool, true, false, cond, ◌&&◌, eqb, ltb, leb, List, [], ◌∷◌, ◌++◌, length, get_or, ℤ, pos, negsuc, Some, None, decimal, Option, sym, refl, ap, ◌∙◌, subst, append-nil, arith, w32, SFits}
use Rattle.std.specs.Str.Parse.{AllDigits}
use Rattle.std.specs.Int.{IsInRange}
use Rattle.std.specs.Fmt.{signed_decimal}
use Rattle.std.proofs.lemmas.Fmt.{digits_decimal, decimal_nonempty}
use Rattle.std.proofs.lemmas.Str.Parse.{digit_from_value, digit_at}
use Rattle.std.proofs.lemmas.Option.{none-some, cond_some}
use Rattle.std.proofs.lemmas.Bool.{false≢true, and_parts, and_from, and_left, and_right, eqb-true, ne_eqb, lt-leb, cond-true, cond-false}
use Rattle.words.specs.Integer.{integer}
use Rattle.words.proofs.Spelling.{own, from_integer, integer_signed}
use Rattle.words.specs.Split.{Placed, split, placed, rejoin, Lacks}
use Rattle.words.proofs.Laws.{split_one, split_front, rejoin_split}
use Rattle.reader.specs.declared.tokens.Sign.{Sign}
use Rattle.reader.specs.declared.tokens.Sign.TheVariants.{Arrow, And, Colon}
use Rattle.book.specs.Names.{entity, role_name, name, name_byte, name_bytes}
use Rattle.reader.specs.Tokens.{Tok, one, role, link, number, mark, sign_of, sign_or_number, single, by_parts, token_of, sign_text, text, Sound, moved}

pub none_some : {X A : Type 0} {x : X} → ◌≡◌ {A = Option X} None (Some x) → A
none_some e = absurd (none-some _ e)

-- a token is t, whose bytes are l
abbrev Is : Tok → List ℕ → Type 0
Is t l = (text t ≡ l) × Sound t

sign_is : (l : List ℕ) (s : Sign) → sign_of l ≡ Some s → sign_text s ≡ l
sign_is [] s e = none_some e
sign_is (b ∷ []) s e = go (eqb b 38) (eqb b 58) refl refl e
  where
    go : (p q : Bool) → eqb b 38 ≡ p → eqb b 58 ≡ q → cond p (Some And) (cond q (Some Colon) None) ≡ Some s → sign_text s ≡ b ∷ []
    go true q f g e = let i : And ≡ s = cc in ap sign_text (sym i) ∙ ap (λ c. c ∷ []) (sym (eqb-true b 38 f))
    go false true f g e = let i : Colon ≡ s = cc in ap sign_text (sym i) ∙ ap (λ c. c ∷ []) (sym (eqb-true b 58 g))
    go false false f g e = none_some e
sign_is (b ∷ c ∷ []) s e =
    let p = cond_some (eqb b 60 && eqb c 45) Arrow s e in
    let q = and_parts (eqb b 60) (eqb c 45) p.0 in
    ap sign_text (sym p.1) ∙ (λ i. sym (eqb-true b 60 q.0) i ∷ sym (eqb-true c 45 q.1) i ∷ [])
sign_is (b ∷ c ∷ d ∷ ds) s e = none_some e

single_text : (n : ℕ) (l : List ℕ) (t : Tok) → single (record { byte = n; text = l }) ≡ Some t → Is t l
single_text n l t e = go (entity l) refl e
  where
    marked : (o : Option Sign) (z : Option ℤ) → sign_of l ≡ o → integer l ≡ z → sign_or_number o z ≡ Some t → Is t l
    marked (Some s) z f g e = let i : mark s ≡ t = cc in subst (λ u. Is u l) i (sign_is l s f, tt)
    marked None (Some z) f g e = let i : number z ≡ t = cc in subst (λ u. Is u l) i (from_integer l (Some z) g)
    marked None None f g e = none_some e

    go : (b : Bool) → entity l ≡ b → cond b (Some (one (record { byte = n; text = l }))) (sign_or_number (sign_of l) (integer l)) ≡ Some t → Is t l
    go true f e = let i : one (record { byte = n; text = l }) ≡ t = cc in subst (λ u. Is u l) i (refl, f)
    go false f e = marked (sign_of l) (integer l) refl refl e

parts_text : (n : ℕ) (ps : List (List ℕ)) (t : Tok) → by_parts (placed n ps) ≡ Some t → Is t (rejoin 46 ps)
parts_text n [] t e = none_some e
parts_text n (a ∷ []) t e = subst (Is t) (sym (append-nil a)) (single_text n a t e)
parts_text n (a ∷ r ∷ []) t e =
    let p = cond_some (entity a && role_name r) _ t e in
    let q = and_parts (entity a) (role_name r) p.0 in
    subst (λ u. Is u (a ++ 46 ∷ (r ++ []))) p.1 (ap (λ l. a ++ 46 ∷ l) (sym (append-nil r)), q)
parts_text n (a ∷ r ∷ s ∷ []) t e =
    let p = cond_some (entity a && (role_name r && role_name s)) _ t e in
    let q = and_parts (entity a) _ p.0 in
    let k = and_parts (role_name r) (role_name s) q.1 in
    subst (λ u. Is u (a ++ 46 ∷ (r ++ 46 ∷ (s ++ [])))) p.1 (ap (λ l. a ++ 46 ∷ (r ++ 46 ∷ l)) (sym (append-nil s)), (q.0, k.0, k.1))
parts_text n (a ∷ r ∷ s ∷ u ∷ us) t e = none_some e

-- the bytes of a word are those of its token
pub token_text : (w : Placed) (t : Tok) → token_of w ≡ Some t → (text t ≡ w.text) × Sound t
token_text w t e = subst (Is t) (rejoin_split 46 w.text) (parts_text w.byte (split 46 w.text) t e)

-- a byte that no name has
lacks_name : (sep : ℕ) → name_byte sep ≡ false → (l : List ℕ) → name_bytes l ≡ true → Lacks sep l
lacks_name sep odd [] h = tt
lacks_name sep odd (b ∷ bs) h =
    let p = and_parts (name_byte b) (name_bytes bs) h in
    (λ e. false≢true (sym odd ∙ ap name_byte (sym e) ∙ p.0), lacks_name sep odd bs p.1)

named : (l : List ℕ) → name l ≡ true → name_bytes l ≡ true
named l h = (and_parts (leb (length l) 24) _ (and_parts (ltb 0 (length l)) _ h).1).1

pub lacks_entity : (sep : ℕ) → name_byte sep ≡ false → (l : List ℕ) → entity l ≡ true → Lacks sep l
lacks_entity sep odd l h = lacks_name sep odd l (named l (and_parts (name l) _ h).0)

pub lacks_role : (sep : ℕ) → name_byte sep ≡ false → (l : List ℕ) → role_name l ≡ true → Lacks sep l
lacks_role sep odd l h = lacks_name sep odd l (named l (and_parts (name l) _ h).0)

lacks_digits : (sep : ℕ) → (IsInRange 48 57 sep → ⊥) → (ds : List ℕ) → AllDigits 10 ds → Lacks sep ds
lacks_digits sep odd [] h = tt
lacks_digits sep odd (c ∷ cs) h = (λ e. odd (subst (IsInRange 48 57) e (digit_from_value c h.0)), lacks_digits sep odd cs h.1)

pub lacks_signed : (sep : ℕ) → (IsInRange 48 57 sep → ⊥) → (45 ≡ sep → ⊥) → (z : ℤ) → SFits w32 z → Lacks sep (signed_decimal z)
lacks_signed sep odd dash (pos n) f = lacks_digits sep odd _ (digits_decimal own n (omega (arith, f.sfits)))
lacks_signed sep odd dash (negsuc n) f = (dash, lacks_digits sep odd _ (digits_decimal own (suc n) (omega (arith, f.sfits))))

first_signed : (z : ℤ) → SFits w32 z → (45 ≤ get_or (signed_decimal z) 0 0) × (get_or (signed_decimal z) 0 0 ≤ 57)
first_signed (pos n) f =
    let fits : n < 2 ^ 64 = omega (arith, f.sfits) in
    let d = digit_at (decimal n) 0 (digits_decimal own n fits) (decimal_nonempty n fits) in
    (omega (arith, d.0), d.1)
first_signed (negsuc n) f = (omega arith, omega arith)

sign_none : (l : List ℕ) → 45 ≤ get_or l 0 0 → get_or l 0 0 ≤ 57 → sign_of l ≡ None
sign_none [] p q = refl
sign_none (b ∷ []) p q = cond-false _ _ _ (ne_eqb b 38 (λ e. omega arith)) ∙ cond-false _ _ _ (ne_eqb b 58 (λ e. omega arith))
sign_none (b ∷ c ∷ []) p q = cond-false _ _ _ (and_left _ _ (ne_eqb b 60 (λ e. omega arith)))
sign_none (b ∷ c ∷ d ∷ ds) p q = refl

not_entity : (l : List ℕ) → get_or l 0 0 ≤ 57 → entity l ≡ false
not_entity l h = and_right (name l) _ (and_left (leb 65 (get_or l 0 0)) _ (lt-leb 65 (get_or l 0 0) (omega arith)))

pub token_forth : (n : ℕ) (t : Tok) → Sound t → token_of (record { byte = n; text = text t }) ≡ Some (moved n t)
token_forth n (one a) h = ap (λ ps. by_parts (placed n ps)) (split_one 46 a.text (lacks_entity 46 refl a.text h)) ∙ cond-true _ _ _ h
token_forth n (role a r) h =
    ap (λ ps. by_parts (placed n ps)) (split_front 46 a.text r.text (lacks_entity 46 refl a.text h.0) ∙ ap (λ l. a.text ∷ l) (split_one 46 r.text (lacks_role 46 refl r.text h.1)))
    ∙ cond-true _ _ _ (and_from _ _ h.0 h.1)
token_forth n (link a r s) h =
    ap (λ ps. by_parts (placed n ps)) (split_front 46 a.text (r.text ++ 46 ∷ s.text) (lacks_entity 46 refl a.text h.0) ∙ ap (λ l. a.text ∷ l) (split_front 46 r.text s.text (lacks_role 46 refl r.text h.1) ∙ ap (λ l. r.text ∷ l) (split_one 46 s.text (lacks_role 46 refl s.text h.2))))
    ∙ cond-true _ _ _ (and_from _ _ h.0 (and_from _ _ h.1 h.2))
token_forth n (number z) h =
    let f = first_signed z h in
    ap (λ ps. by_parts (placed n ps)) (split_one 46 (signed_decimal z) (lacks_signed 46 (λ i. omega arith) (λ e. omega arith) z h))
    ∙ cond-false _ _ _ (not_entity (signed_decimal z) f.1) ∙ (λ i. sign_or_number (sign_none (signed_decimal z) f.0 f.1 i) (integer_signed z h i))
token_forth n (mark Arrow) h = refl
token_forth n (mark And) h = refl
token_forth n (mark Colon) h = refl
