-- Names and their numbers, both ways.
use Rattle.std.proofs.Common.{◌≡◌, ℕ, suc, ◌+◌, ◌<◌, Bool, true, false, cond, ltb, List, [], ◌∷◌, length, get_or, Some, None, Ok, sym, refl, ap, ◌∙◌, subst, arith}
use Rattle.std.specs.Str.{bytes_eq}
use Rattle.std.proofs.lemmas.Slice.Eq.{bytes_eq-Decides}
use Rattle.std.proofs.lemmas.Bool.{and_parts, and_from, ltb-true, cond-true}
use Rattle.words.specs.Split.{Placed}
use Rattle.credential.specs.declared.Role.{Role}
use Rattle.credential.specs.declared.Body.{Body}
use Rattle.credential.specs.declared.Body.TheVariants as body
use Rattle.credential.specs.declared.Claim.{Claim}
use Rattle.book.specs.Names.{entity, role_name}
use Rattle.book.specs.Plain.{Plain, first, among, role_enrolled, body_enrolled, enrolled}
use Rattle.book.proofs.Sound.{SoundNames, Sound}
use Rattle.reader.specs.declared.sentence.RoleText.{RoleText}
use Rattle.reader.specs.declared.sentence.Phrase.{Phrase}
use Rattle.reader.specs.declared.sentence.Phrase.TheVariants.{Member, Delegation, Link, Intersection}
use Rattle.reader.specs.declared.sentence.Sentence.{Sentence}
use Rattle.reader.specs.Sentences.{role_by, phrase_by, sentence_by}
use Rattle.reader.specs.Calls.{and_then, known_by, known, known_role, known_body, known_claim}
use Rattle.reader.specs.Spelling.{named_role, named_body, named, role_word}
use Rattle.reader.proofs.Chains.{err_ok, and_then_back, and_then_made}
use Rattle.reader.proofs.Forth.{at, RoleOk, BodyOk, Good, role_at, body_from, sentence_from}

abbrev plain : Placed → List ℕ
plain w = w.text

-- back: a number that was found is enrolled, and its name is the word

first_passes : {X : Type 0} (p : X → Bool) (xs : List X) (d : X) → first p xs < length xs → p (get_or xs (first p xs) d) ≡ true
first_passes p [] d h = absurd (omega arith)
first_passes p (x ∷ xs) d h = go (p x) refl (first_passes p xs d) h
  where
    go : (b : Bool) → p x ≡ b → (first p xs < length xs → p (get_or xs (first p xs) d) ≡ true) → cond b 0 (suc (first p xs)) < suc (length xs) → p (get_or (x ∷ xs) (cond b 0 (suc (first p xs))) d) ≡ true
    go true e more h = e
    go false e more h = more (omega arith)

known_back : (ws : List (List ℕ)) (w : Placed) (n : ℕ) → known ws w ≡ Ok n → (ltb n (length ws) ≡ true) × (get_or ws n [] ≡ w.text)
known_back ws w n e = go (among (bytes_eq w.text) ws) refl e
  where
    go : (b : Bool) → among (bytes_eq w.text) ws ≡ b → known_by w.byte (cond b (Some (first (bytes_eq w.text) ws)) None) ≡ Ok n → (ltb n (length ws) ≡ true) × (get_or ws n [] ≡ w.text)
    go false there e = err_ok e
    go true there e =
        let is : first (bytes_eq w.text) ws ≡ n = cc in
        subst (λ k. (ltb k (length ws) ≡ true) × (get_or ws k [] ≡ w.text)) is
        (there, sym ((bytes_eq-Decides w.text _).0 (first_passes (bytes_eq w.text) ws [] (ltb-true _ _ there))))

module _ (p : Plain) where
  role_back : (r : RoleText Placed) (q : Role) → known_role p.entities p.role_names r ≡ Ok q → (role_enrolled (length p.entities) (length p.role_names) q ≡ true) × (named_role p q ≡ role_by plain r)
  role_back r q h =
      let a = and_then_back (known p.entities r.entity) (λ e. and_then (known p.role_names r.name) (λ n. Ok (record { entity = record { 0 = e }; name = record { 0 = n } }))) q h in
      let b = and_then_made (known p.role_names r.name) (λ n. record { entity = record { 0 = a.0 }; name = record { 0 = n } }) q a.2 in
      let x = known_back p.entities r.entity a.0 a.1 in
      let y = known_back p.role_names r.name b.0 b.1 in
      subst (λ s. (role_enrolled (length p.entities) (length p.role_names) s ≡ true) × (named_role p s ≡ role_by plain r)) b.2
      (and_from _ _ x.0 y.0, (λ i. record { entity = x.1 i; name = y.1 i }))

  abbrev BodyBack : {W : Type 0} → Phrase Placed W → Body W → Type 0
  BodyBack ph b = (body_enrolled (length p.entities) (length p.role_names) b ≡ true) × (named_body p b ≡ phrase_by plain ph)

  body_back : {W : Type 0} (ph : Phrase Placed W) (b : Body W) → known_body p.entities p.role_names ph ≡ Ok b → BodyBack ph b
  body_back (Member x w) b h =
      let a = and_then_made (known p.entities x) (λ e. body.Member (record { 0 = e }) w) b h in
      let k = known_back p.entities x a.0 a.1 in
      subst (BodyBack (Member x w)) a.2 (k.0, ap (λ l. Member l w) k.1)
  body_back (Delegation r) b h =
      let a = and_then_made (known_role p.entities p.role_names r) body.Delegation b h in
      let k = role_back r a.0 a.1 in
      subst (BodyBack (Delegation r)) a.2 (k.0, ap Delegation k.1)
  body_back (Link r t) b h =
      let a = and_then_back (known_role p.entities p.role_names r) (λ q. and_then (known p.role_names t) (λ n. Ok (body.Link q (record { 0 = n })))) b h in
      let c = and_then_made (known p.role_names t) (λ n. body.Link a.0 (record { 0 = n })) b a.2 in
      let k = role_back r a.0 a.1 in
      let l = known_back p.role_names t c.0 c.1 in
      subst (BodyBack (Link r t)) c.2 (and_from _ _ k.0 l.0, (λ i. Link (k.1 i) (l.1 i)))
  body_back (Intersection r s) b h =
      let a = and_then_back (known_role p.entities p.role_names r) (λ q. and_then (known_role p.entities p.role_names s) (λ u. Ok (body.Intersection q u))) b h in
      let c = and_then_made (known_role p.entities p.role_names s) (body.Intersection a.0) b a.2 in
      let k = role_back r a.0 a.1 in
      let l = role_back s c.0 c.1 in
      subst (BodyBack (Intersection r s)) c.2 (and_from _ _ k.0 l.0, (λ i. Intersection (k.1 i) (l.1 i)))

  pub claim_back : {W : Type 0} (s : Sentence Placed W) (c : Claim W) → known_claim p.entities p.role_names s ≡ Ok c → (enrolled p c ≡ true) × (named p c ≡ sentence_by plain s)
  claim_back s c h =
      let a = and_then_back (known_role p.entities p.role_names s.head) (λ q. and_then (known_body p.entities p.role_names s.body) (λ b. Ok (record { head = q; body = b }))) c h in
      let d = and_then_made (known_body p.entities p.role_names s.body) (λ b. record { head = a.0; body = b }) c a.2 in
      let k = role_back s.head a.0 a.1 in
      let l = body_back s.body d.0 d.1 in
      subst (λ t. (enrolled p t ≡ true) × (named p t ≡ sentence_by plain s)) d.2 (and_from _ _ k.0 l.0, (λ i. record { head = k.1 i; body = l.1 i }))

-- forth: the name of an enrolled number is found at that number

known_forth : (is : List ℕ → Bool) (ws : List (List ℕ)) → SoundNames is ws → (m n : ℕ) → ltb n (length ws) ≡ true → known ws (at m (get_or ws n [])) ≡ Ok n
known_forth is ws h m n lt =
    let own = h.own n (ltb-true _ _ lt) in
    ap (known_by m) (cond-true _ _ _ (ap (λ k. ltb k (length ws)) own ∙ lt) ∙ ap Some own)

-- what a membership carries is good
abbrev pub CarriedOk : {W : Type 0} → (W → Type 0) → Body W → Type 0
CarriedOk ok (body.Member x w) = ok w
CarriedOk ok (body.Delegation b) = Unit {0}
CarriedOk ok (body.Link b t) = Unit {0}
CarriedOk ok (body.Intersection b c) = Unit {0}

module _ (p : Plain) (sound : Sound p) where
  entity_forth : (m n : ℕ) → ltb n (length p.entities) ≡ true → known p.entities (at m (get_or p.entities n [])) ≡ Ok n
  entity_forth = known_forth entity p.entities sound.entities

  name_forth : (m n : ℕ) → ltb n (length p.role_names) ≡ true → known p.role_names (at m (get_or p.role_names n [])) ≡ Ok n
  name_forth = known_forth role_name p.role_names sound.role_names

  role_forth : (m : ℕ) (q : Role) → role_enrolled (length p.entities) (length p.role_names) q ≡ true → known_role p.entities p.role_names (role_at m (named_role p q)) ≡ Ok q
  role_forth m q h =
      let k = and_parts _ _ h in
      let b = named_role p q in
      (λ i. and_then (entity_forth m q.entity.0 k.0 i) (λ e. and_then (name_forth (m + length b.entity + 1) q.name.0 k.1 i) (λ n. Ok (record { entity = record { 0 = e }; name = record { 0 = n } }))))

  body_forth : {W : Type 0} (m : ℕ) (b : Body W) → body_enrolled (length p.entities) (length p.role_names) b ≡ true → known_body p.entities p.role_names (body_from m (named_body p b)) ≡ Ok b
  body_forth m (body.Member x w) h = ap (λ r. and_then r (λ e. Ok (body.Member (record { 0 = e }) w))) (entity_forth m x.0 h)
  body_forth m (body.Delegation b) h = ap (λ r. and_then r (λ q. Ok (body.Delegation q))) (role_forth m b h)
  body_forth m (body.Link b t) h =
      let k = and_parts _ _ h in
      let n = named_role p b in
      (λ i. and_then (role_forth m b k.0 i) (λ q. and_then (name_forth (m + length n.entity + 1 + length n.name + 1) t.0 k.1 i) (λ n. Ok (body.Link q (record { 0 = n })))))
  body_forth m (body.Intersection b c) h =
      let k = and_parts _ _ h in
      (λ i. and_then (role_forth m b k.0 i) (λ q. and_then (role_forth (m + length (role_word (named_role p b)) + 1 + 1 + 1) c k.1 i) (λ u. Ok (body.Intersection q u))))

  pub claim_forth : {W : Type 0} (m : ℕ) (c : Claim W) → enrolled p c ≡ true → known_claim p.entities p.role_names (sentence_from m (named p c)) ≡ Ok c
  claim_forth m c h =
      let k = and_parts _ _ h in
      (λ i. and_then (role_forth m c.head k.0 i) (λ q. and_then (body_forth (m + length (role_word (named_role p c.head)) + 1 + 2 + 1) c.body k.1 i) (λ b. Ok (record { head = q; body = b }))))

  -- the names of enrolled numbers are names
  role_good : (q : Role) → role_enrolled (length p.entities) (length p.role_names) q ≡ true → RoleOk (named_role p q)
  role_good q h = let k = and_parts _ _ h in (sound.entities.each q.entity.0 (ltb-true _ _ k.0), sound.role_names.each q.name.0 (ltb-true _ _ k.1))

  body_good : {W : Type 0} (ok : W → Type 0) (b : Body W) → CarriedOk ok b → body_enrolled (length p.entities) (length p.role_names) b ≡ true → BodyOk ok (named_body p b)
  body_good ok (body.Member x w) c h = (sound.entities.each x.0 (ltb-true _ _ h), c)
  body_good ok (body.Delegation b) c h = role_good b h
  body_good ok (body.Link b t) c h = let k = and_parts _ _ h in (role_good b k.0, sound.role_names.each t.0 (ltb-true _ _ k.1))
  body_good ok (body.Intersection b d) c h = let k = and_parts _ _ h in (role_good b k.0, role_good d k.1)

  pub claim_good : {W : Type 0} (ok : W → Type 0) (c : Claim W) → CarriedOk ok c.body → enrolled p c ≡ true → Good ok (named p c)
  claim_good ok c carried h = let k = and_parts _ _ h in (role_good c.head k.0, body_good ok c.body carried k.1)
