-- What a statement spells is read as that statement.
use Rattle.std.proofs.Common.{◌≡◌, ℕ, ◌+◌, true, List, [], ◌∷◌, ◌++◌, length, ℤ, Some, Ok, codes, sym, refl, ap, ◌∙◌, arith, w32, SFits}
use Rattle.std.specs.Fmt.{signed_decimal}
use Rattle.words.specs.Split.{Placed, placed, rejoin, Lacks, EachLacks}
use Rattle.words.proofs.Laws.{split_only, lacks_append}
use Rattle.credential.specs.declared.Record.{Record}
use Rattle.book.specs.Names.{entity, role_name}
use Rattle.reader.specs.declared.sentence.RoleText.{RoleText}
use Rattle.reader.specs.declared.sentence.Phrase.{Phrase}
use Rattle.reader.specs.declared.sentence.Phrase.TheVariants.{Member, Delegation, Link, Intersection}
use Rattle.reader.specs.declared.sentence.Sentence.{Sentence}
use Rattle.reader.specs.declared.tokens.Sign.TheVariants.{Arrow}
use Rattle.reader.specs.Tokens.{one, role, link, number, token_of}
use Rattle.reader.specs.Grammar.{Command, add, withdraw, present, then, picked, fit, role_in, a_sign, weight_at, second_at, body_by, body_at, statement_at, weighed_at, credential_at, command_at, done, closed, command_line}
use Rattle.reader.specs.Spelling.{dotted, role_word, body_words, statement_words, weight_words, no_words, spelled, spelled_bare}
use Rattle.reader.specs.RoundTrip.{Fits32}
use Rattle.reader.proofs.Chains.{then_then}
use Rattle.reader.proofs.Texts.{token_forth, lacks_entity, lacks_role, lacks_signed}

abbrev pub at : ℕ → List ℕ → Placed
at n l = record { byte = n; text = l }

abbrev pub RoleOk : RoleText (List ℕ) → Type 0
RoleOk r = (entity r.entity ≡ true) × (role_name r.name ≡ true)

-- its names are names, and what a membership carries is good
abbrev pub BodyOk : {W : Type 0} → (W → Type 0) → Phrase (List ℕ) W → Type 0
BodyOk carried (Member x w) = (entity x ≡ true) × carried w
BodyOk carried (Delegation b) = RoleOk b
BodyOk carried (Link b t) = RoleOk b × (role_name t ≡ true)
BodyOk carried (Intersection b c) = RoleOk b × RoleOk c

abbrev pub Good : {W : Type 0} → (W → Type 0) → Sentence (List ℕ) W → Type 0
Good carried s = RoleOk s.head × BodyOk carried s.body

abbrev pub Nothing : Unit {0} → Type 0
Nothing _ = Unit {0}

-- no word has a space
no_space : (l : List ℕ) → entity l ≡ true → Lacks 32 l
no_space l h = lacks_entity 32 refl l h

role_lacks : (b : RoleText (List ℕ)) → RoleOk b → Lacks 32 (role_word b)
role_lacks b h = lacks_append 32 b.entity (46 ∷ b.name) (no_space b.entity h.0) ((λ q. omega arith), lacks_role 32 refl b.name h.1)

number_lacks : (z : ℤ) → SFits w32 z → Lacks 32 (signed_decimal z)
number_lacks z h = lacks_signed 32 (λ i. omega arith) (λ q. omega arith) z h

link_lacks : (b : RoleText (List ℕ)) (t : List ℕ) → RoleOk b → role_name t ≡ true → Lacks 32 (dotted b.entity (dotted b.name t))
link_lacks b t h k =
    lacks_append 32 b.entity (46 ∷ dotted b.name t) (no_space b.entity h.0)
    ((λ q. omega arith), lacks_append 32 b.name (46 ∷ t) (lacks_role 32 refl b.name h.1) ((λ q. omega arith), lacks_role 32 refl t k))

body_lacks : {W : Type 0} (carried : W → List (List ℕ)) (ok : W → Type 0) → ((w : W) → ok w → EachLacks 32 (carried w)) → (b : Phrase (List ℕ) W) → BodyOk ok b → EachLacks 32 (body_words carried b)
body_lacks carried ok lack (Member x w) h = (no_space x h.0, lack w h.1)
body_lacks carried ok lack (Delegation b) h = (role_lacks b h, tt)
body_lacks carried ok lack (Link b t) h = (link_lacks b t h.0 h.1, tt)
body_lacks carried ok lack (Intersection b c) h = (role_lacks b h.0, (((λ q. omega arith), tt), (role_lacks c h.1, tt)))

weight_lacks : (w : Record) → Fits32 w → EachLacks 32 (weight_words w)
weight_lacks w h = (((λ q. omega arith), tt), (number_lacks w.ceiling h.0, (number_lacks w.distance h.1, tt)))

statement_lacks : {W : Type 0} (carried : W → List (List ℕ)) (ok : W → Type 0) → ((w : W) → ok w → EachLacks 32 (carried w)) → (s : Sentence (List ℕ) W) → Good ok s → EachLacks 32 (statement_words carried s)
statement_lacks carried ok lack s h = (role_lacks s.head h.0, (((λ q. omega arith), ((λ q. omega arith), tt)), body_lacks carried ok lack s.body h.1))

-- where the words of a statement stand, the first of them at n
abbrev pub role_at : ℕ → RoleText (List ℕ) → RoleText Placed
role_at n b = record { entity = at n b.entity; name = at (n + length b.entity + 1) b.name }

abbrev pub body_from : {W : Type 0} → ℕ → Phrase (List ℕ) W → Phrase Placed W
body_from n (Member x w) = Member (at n x) w
body_from n (Delegation b) = Delegation (role_at n b)
body_from n (Link b t) = Link (role_at n b) (at (n + length b.entity + 1 + length b.name + 1) t)
body_from n (Intersection b c) = Intersection (role_at n b) (role_at (n + length (role_word b) + 1 + 1 + 1) c)

abbrev pub sentence_from : {W : Type 0} → ℕ → Sentence (List ℕ) W → Sentence Placed W
sentence_from n s = record { head = role_at n s.head; body = body_from (n + length (role_word s.head) + 1 + 2 + 1) s.body }

role_forth : (n : ℕ) (b : RoleText (List ℕ)) → RoleOk b → token_of (at n (role_word b)) ≡ Some (role (at n b.entity) (at (n + length b.entity + 1) b.name))
role_forth n b h = token_forth n (role (at 0 b.entity) (at 0 b.name)) h

link_forth : (n : ℕ) (b : RoleText (List ℕ)) (t : List ℕ) → RoleOk b → role_name t ≡ true → token_of (at n (dotted b.entity (dotted b.name t))) ≡ Some (link (at n b.entity) (at (n + length b.entity + 1) b.name) (at (n + length b.entity + 1 + length b.name + 1) t))
link_forth n b t h k = token_forth n (link (at 0 b.entity) (at 0 b.name) (at 0 t)) (h.0, h.1, k)

member_forth : (end n : ℕ) (x : List ℕ) (rest : List (List ℕ)) → entity x ≡ true → body_at end (placed n (x ∷ rest)) ≡ Ok (Member (at n x) tt, placed (n + length x + 1) rest)
member_forth end n x rest h = ap (λ o. body_by end n o (placed (n + length x + 1) rest)) (token_forth n (one (at 0 x)) h)

second_forth : (end n : ℕ) (b : RoleText Placed) (c : RoleText (List ℕ)) → RoleOk c → second_at end b (placed n (codes "&" ∷ role_word c ∷ [])) ≡ Ok (Intersection b (role_at (n + 1 + 1) c), [])
second_forth end n b c h = ap (λ o. then (picked (role_in o) (n + 1 + 1) []) (λ c ws. Ok (Intersection b c, ws))) (role_forth (n + 1 + 1) c h)

-- a body that is no membership is spelled alike with and without weights
bare_forth : (end n : ℕ) (b : Phrase (List ℕ) (Unit {0})) → BodyOk Nothing b → body_at end (placed n (body_words no_words b)) ≡ Ok (body_from n b, [])
bare_forth end n (Member x w) h = member_forth end n x [] h.0
bare_forth end n (Delegation b) h = ap (λ o. body_by end n o []) (role_forth n b h)
bare_forth end n (Link b t) h = ap (λ o. body_by end n o []) (link_forth n b t h.0 h.1)
bare_forth end n (Intersection b c) h =
    ap (λ o. body_by end n o (placed (n + length (role_word b) + 1) (codes "&" ∷ role_word c ∷ []))) (role_forth n b h.0)
    ∙ second_forth end (n + length (role_word b) + 1) (role_at n b) c h.1

weight_forth : (end n : ℕ) (w : Record) → Fits32 w → weight_at end (placed n (weight_words w)) ≡ Ok (w, [])
weight_forth end n w h = rw (token_forth (n + 1 + 1) (number w.ceiling) h.0, token_forth (n + 1 + 1 + length (signed_decimal w.ceiling) + 1) (number w.distance) h.1)

weighed_forth : (end n : ℕ) (b : Phrase (List ℕ) Record) → BodyOk Fits32 b → then (body_at end (placed n (body_words weight_words b))) (weighed_at end) ≡ Ok (body_from n b, [])
weighed_forth end n (Member x w) h =
    ap (λ g. then g (weighed_at end)) (member_forth end n x (weight_words w) h.0)
    ∙ ap (λ g. then g (λ w ws. Ok (Member (at n x) w, ws))) (weight_forth end (n + length x + 1) w h.1)
weighed_forth end n (Delegation b) h = ap (λ g. then g (weighed_at end)) (bare_forth end n (Delegation b) h)
weighed_forth end n (Link b t) h = ap (λ g. then g (weighed_at end)) (bare_forth end n (Link b t) h)
weighed_forth end n (Intersection b c) h = ap (λ g. then g (weighed_at end)) (bare_forth end n (Intersection b c) h)

-- the words before the body
head_forth : (end n : ℕ) (h : RoleText (List ℕ)) (rest : List (List ℕ)) → RoleOk h → statement_at end (placed n (role_word h ∷ codes "<-" ∷ rest)) ≡ then (body_at end (placed (n + length (role_word h) + 1 + 2 + 1) rest)) (λ b ws. Ok (record { head = role_at n h; body = b }, ws))
head_forth end n h rest ok =
    ap (λ o. then (picked (role_in o) n (placed (n + length (role_word h) + 1) (codes "<-" ∷ rest))) (λ h ws. then (fit (a_sign Arrow) end ws) (λ _ ws. then (body_at end ws) (λ b ws. Ok (record { head = h; body = b }, ws))))) (role_forth n h ok)

credential_forth : (end n : ℕ) (s : Sentence (List ℕ) Record) → Good Fits32 s → credential_at end (placed n (statement_words weight_words s)) ≡ Ok (sentence_from n s, [])
credential_forth end n s h =
    let ws = placed (n + length (role_word s.head) + 1 + 2 + 1) (body_words weight_words s.body) in
    ap (λ g. then g (λ s ws. then (weighed_at end s.body ws) (λ b ws. Ok (record { head = s.head; body = b }, ws)))) (head_forth end n s.head (body_words weight_words s.body) h.0)
    ∙ then_then (body_at end ws) (λ b ws. Ok (record { head = role_at n s.head; body = b }, ws)) (λ s ws. then (weighed_at end s.body ws) (λ b ws. Ok (record { head = s.head; body = b }, ws)))
    ∙ sym (then_then (body_at end ws) (weighed_at end) (λ b ws. Ok (record { head = role_at n s.head; body = b }, ws)))
    ∙ ap (λ g. then g (λ b ws. Ok (record { head = role_at n s.head; body = b }, ws))) (weighed_forth end (n + length (role_word s.head) + 1 + 2 + 1) s.body h.1)

statement_forth : (end n : ℕ) (s : Sentence (List ℕ) (Unit {0})) → Good Nothing s → statement_at end (placed n (statement_words no_words s)) ≡ Ok (sentence_from n s, [])
statement_forth end n s h =
    head_forth end n s.head (body_words no_words s.body) h.0
    ∙ ap (λ g. then g (λ b ws. Ok (record { head = role_at n s.head; body = b }, ws))) (bare_forth end (n + length (role_word s.head) + 1 + 2 + 1) s.body h.1)

-- a statement after a verb v whose rule makes a command of it
weighed_line : (v : List ℕ) → Lacks 32 v → (make : Sentence Placed Record → Command) → ((end : ℕ) (ws : List Placed) → command_at end (at 1 v ∷ ws) ≡ then (credential_at end ws) (λ s ws. Ok (make s, ws))) → (s : Sentence (List ℕ) Record) → Good Fits32 s → command_line (rejoin 32 (v ∷ statement_words weight_words s)) true ≡ Ok (make (sentence_from (1 + length v + 1) s))
weighed_line v lack make rule s h =
    let end = length (rejoin 32 (v ∷ statement_words weight_words s)) + 1 in
    ap (λ l. closed true end (done (command_at end (placed 1 l)))) (split_only 32 v (statement_words weight_words s) (lack, statement_lacks weight_words Fits32 weight_lacks s h))
    ∙ ap (λ g. closed true end (done g)) (rule end (placed (1 + length v + 1) (statement_words weight_words s)) ∙ ap (λ g. then g (λ s ws. Ok (make s, ws))) (credential_forth end (1 + length v + 1) s h))

pub add_forth : (s : Sentence (List ℕ) Record) → Good Fits32 s → command_line (codes "add " ++ spelled s) true ≡ Ok (add (sentence_from 5 s))
add_forth = weighed_line (codes "add") ((λ q. omega arith), ((λ q. omega arith), ((λ q. omega arith), tt))) add (λ end ws. refl)

pub present_forth : (s : Sentence (List ℕ) Record) → Good Fits32 s → command_line (codes "present " ++ spelled s) true ≡ Ok (present (sentence_from 9 s))
present_forth = weighed_line (codes "present") ((λ q. omega arith), ((λ q. omega arith), ((λ q. omega arith), ((λ q. omega arith), ((λ q. omega arith), ((λ q. omega arith), ((λ q. omega arith), tt))))))) present (λ end ws. refl)

pub withdraw_forth : (s : Sentence (List ℕ) (Unit {0})) → Good Nothing s → command_line (codes "withdraw " ++ spelled_bare s) true ≡ Ok (withdraw (sentence_from 10 s))
withdraw_forth s h =
    let end = length (codes "withdraw " ++ spelled_bare s) + 1 in
    ap (λ l. closed true end (done (command_at end (placed 1 l)))) (split_only 32 (codes "withdraw") (statement_words no_words s) (verb_lacks, statement_lacks no_words Nothing (λ w ok. tt) s h))
    ∙ ap (λ g. closed true end (done (then g (λ s ws. Ok (withdraw s, ws))))) (statement_forth end 10 s h)
  where
    verb_lacks : Lacks 32 (codes "withdraw")
    verb_lacks = ((λ q. omega arith), ((λ q. omega arith), ((λ q. omega arith), ((λ q. omega arith), ((λ q. omega arith), ((λ q. omega arith), ((λ q. omega arith), ((λ q. omega arith), tt))))))))
