-- A line is malformed exactly where its words leave the patterns.
use Rattle.std.proofs.Common.{◌≡◌, ℕ, ◌+◌, Bool, true, false, cond, List, [], ◌∷◌, ◌++◌, length, is_some, Some, None, Ok, Err, codes, Option, Result, sym, refl, ap, ◌∙◌}
use Rattle.std.specs.Str.{bytes_eq}
use Rattle.words.specs.Split.{Placed, split, placed}
use Rattle.credential.specs.declared.Record.{Record}
use Rattle.reader.specs.declared.sentence.RoleText.{RoleText}
use Rattle.reader.specs.declared.sentence.Phrase.{Phrase}
use Rattle.reader.specs.declared.sentence.Phrase.TheVariants.{Member, Delegation, Link, Intersection}
use Rattle.reader.specs.declared.sentence.Sentence.{Sentence}
use Rattle.reader.specs.declared.tokens.Sign.TheVariants.{Arrow, And, Colon}
use Rattle.reader.specs.declared.tokens.Verb.{Verb}
use Rattle.reader.specs.declared.tokens.Verb.TheVariants as verb
use Rattle.reader.specs.Tokens.{Tok, one, role, link, number, mark, token_of}
use Rattle.reader.specs.Verbs.{verb_of}
use Rattle.reader.specs.Grammar.{Command, enrol, add, withdraw, present, Got, then, picked, fit, a_role, a_number, a_sign, a_word, just, role_in, weight_at, second_at, body_by, body_at, statement_at, weighed_at, credential_at, command_by, command_at, header_at, done, closed, line_by, command_line, first_line}
use Rattle.reader.specs.declared.faults.Malformed.{Malformed}
use Rattle.reader.specs.declared.sentence.Command as code
use Rattle.reader.specs.Told.{told_command, at_byte}
use Rattle.reader.proofs.Chains.{then_then}
use Rattle.reader.proofs.Verbing.{verb_text, is_verb, verb_test}
use Rattle.reader.specs.Patterns.{Wanted, this, any, ENTITY, ROLE, LINKED, NUMBER, sign, fits, Pattern, patterns, header_patterns, left_of, none, fault, unless_ended, line_fault, fault_of, names_entity, names_linked}

-- g fails where the words ws leave the patterns ps
abbrev Agrees : {X : Type 0} → ℕ → Got X → List Pattern → List Placed → Type 0
Agrees end g ps ws = fault_of (done g) ≡ fault end ps ws

ends : {X : Type 0} (end : ℕ) (x : X) (ws : List Placed) → Agrees end (Ok (x, ws)) ([] ∷ []) ws
ends end x [] = refl
ends end x (w ∷ ws) = refl

-- patterns that all start alike
abbrev starts : Wanted → List Pattern → List Pattern
starts k [] = []
starts k (p ∷ ps) = (k ∷ p) ∷ starts k ps

left_starts : (k : Wanted) (w : Placed) (ps : List Pattern) → left_of w (starts k ps) ≡ cond (fits k w) ps []
left_starts k w [] = go (fits k w)
  where
    go : (b : Bool) → ◌≡◌ {A = List Pattern} [] (cond b [] [])
    go true = refl
    go false = refl
left_starts k w (p ∷ ps) = ap (λ l. cond (fits k w) (p ∷ l) l) (left_starts k w ps) ∙ go (fits k w)
  where
    go : (b : Bool) → cond b (p ∷ cond b ps []) (cond b ps []) ≡ cond b (p ∷ ps) []
    go true = refl
    go false = refl

starts_end : (k : Wanted) (end : ℕ) (ps : List Pattern) → fault end (starts k ps) [] ≡ Some end
starts_end k end [] = refl
starts_end k end (p ∷ ps) = starts_end k end ps

-- the next word is wanted by all patterns
next : {X Y : Type 0} (end : ℕ) (k : Wanted) (pick : Placed → Option X) → ((w : Placed) → fits k w ≡ is_some (pick w)) → (p : Pattern) (ps : List Pattern) (f : X → List Placed → Got Y) → ((x : X) (ws : List Placed) → Agrees end (f x ws) (p ∷ ps) ws) → (ws : List Placed) → Agrees end (then (fit pick end ws) f) (starts k (p ∷ ps)) ws
next end k pick same p ps f more [] = sym (starts_end k end (p ∷ ps))
next {X} end k pick same p ps f more (w ∷ ws) =
    go (pick w) ∙ ap (λ l. cond (none l) (Some w.byte) (fault end l ws)) (ap (λ b. cond b (p ∷ ps) []) (sym (same w)) ∙ sym (left_starts k w (p ∷ ps)))
  where
    go : (o : Option X) → fault_of (done (then (picked o w.byte ws) f)) ≡ cond (none (cond (is_some o) (p ∷ ps) [])) (Some w.byte) (fault end (cond (is_some o) (p ∷ ps) []) ws)
    go None = refl
    go (Some x) = more x ws

-- what is made of a value changes no fault
made : {X Y : Type 0} (g : Got X) (k : X → Y) → fault_of (done (then g (λ x ws. Ok (k x, ws)))) ≡ fault_of (done g)
made (Err e) k = refl
made (Ok (x, [])) k = refl
made (Ok (x, w ∷ ws)) k = refl

weight : (end : ℕ) (ws : List Placed) → Agrees end (weight_at end ws) ((sign Colon ∷ NUMBER ∷ NUMBER ∷ []) ∷ []) ws
weight end ws =
    next end (sign Colon) (a_sign Colon) (λ w. refl) _ [] _
    (λ _ ws. next end NUMBER a_number (λ w. refl) _ [] _
    (λ c ws. next end NUMBER a_number (λ w. refl) _ [] _ (λ d ws. ends end _ ws) ws) ws) ws

-- what follows a body agrees: `carried` after a membership, and nothing after the others
record Follows {X : Type 0} (end : ℕ) (carried : Pattern) (k : Phrase Placed (Unit {0}) → List Placed → Got X) : Type 0 where
  member : (x : Placed) (ws : List Placed) → Agrees end (k (Member x tt) ws) (carried ∷ []) ws
  delegation : (b : RoleText Placed) (ws : List Placed) → Agrees end (k (Delegation b) ws) ([] ∷ []) ws
  linked : (b : RoleText Placed) (t : Placed) (ws : List Placed) → Agrees end (k (Link b t) ws) ([] ∷ []) ws
  intersection : (b c : RoleText Placed) (ws : List Placed) → Agrees end (k (Intersection b c) ws) ([] ∷ []) ws

second : {X : Type 0} (end : ℕ) (carried : Pattern) (k : Phrase Placed (Unit {0}) → List Placed → Got X) → Follows end carried k → (b : RoleText Placed) (ws : List Placed) → Agrees end (then (second_at end b ws) k) ([] ∷ (sign And ∷ ROLE ∷ []) ∷ []) ws
second end carried k h b [] = h.delegation b []
second end carried k h b (w ∷ ws) =
    ap (λ g. fault_of (done g)) (then_then (fit (a_sign And) end (w ∷ ws)) (λ _ ws. then (fit a_role end ws) (λ c ws. Ok (Intersection b c, ws))) k)
    ∙ next end (sign And) (a_sign And) (λ w. refl) _ [] _
    (λ _ ws. ap (λ g. fault_of (done g)) (then_then (fit a_role end ws) (λ c ws. Ok (Intersection b c, ws)) k)
    ∙ next end ROLE a_role (λ w. refl) [] [] _ (λ c ws. h.intersection b c ws) ws) (w ∷ ws)

abbrev bodies : Pattern → List Pattern
bodies carried = (ENTITY ∷ carried) ∷ (ROLE ∷ []) ∷ (LINKED ∷ []) ∷ (ROLE ∷ sign And ∷ ROLE ∷ []) ∷ []

-- what is left of them after a word that names an entity, a role or a linked role
abbrev left_by : Pattern → Bool → Bool → Bool → List Pattern
left_by carried e r l =
    let d = cond r ((sign And ∷ ROLE ∷ []) ∷ []) [] in
    let c = cond l ([] ∷ d) d in
    let b = cond r ([] ∷ c) c in
    cond e (carried ∷ b) b

body : {X : Type 0} (end : ℕ) (carried : Pattern) (k : Phrase Placed (Unit {0}) → List Placed → Got X) → Follows end carried k → (ws : List Placed) → Agrees end (then (body_at end ws) k) (bodies carried) ws
body end carried k h [] = refl
body end carried k h (w ∷ ws) = go (token_of w)
  where
    go : (o : Option Tok) → fault_of (done (then (body_by end w.byte o ws) k)) ≡ cond (none (left_by carried (names_entity o) (is_some (role_in o)) (names_linked o))) (Some w.byte) (fault end (left_by carried (names_entity o) (is_some (role_in o)) (names_linked o)) ws)
    go None = refl
    go (Some (one x)) = h.member x ws
    go (Some (role b s)) = second end carried k h (record { entity = b; name = s }) ws
    go (Some (link b s t)) = h.linked (record { entity = b; name = s }) t ws
    go (Some (number n)) = refl
    go (Some (mark m)) = refl

abbrev sentence : RoleText Placed → Phrase Placed (Unit {0}) → Sentence Placed (Unit {0})
sentence h b = record { head = h; body = b }

statement : {X : Type 0} (end : ℕ) (carried : Pattern) (k : Sentence Placed (Unit {0}) → List Placed → Got X) → ((h : RoleText Placed) → Follows end carried (λ b ws. k (sentence h b) ws)) → (ws : List Placed) → Agrees end (then (statement_at end ws) k) (starts ROLE (starts (sign Arrow) (bodies carried))) ws
statement end carried k follows ws =
    ap (λ g. fault_of (done g)) (then_then (fit a_role end ws) (λ h ws. then (fit (a_sign Arrow) end ws) (λ _ ws. then (body_at end ws) (λ b ws. Ok (sentence h b, ws)))) k)
    ∙ next end ROLE a_role (λ w. refl) _ _ _
    (λ h ws. ap (λ g. fault_of (done g)) (then_then (fit (a_sign Arrow) end ws) (λ _ ws. then (body_at end ws) (λ b ws. Ok (sentence h b, ws))) k)
    ∙ next end (sign Arrow) (a_sign Arrow) (λ w. refl) _ _ _
    (λ _ ws. ap (λ g. fault_of (done g)) (then_then (body_at end ws) (λ b ws. Ok (sentence h b, ws)) k)
    ∙ body end carried (λ b ws. k (sentence h b) ws) (follows h) ws) ws) ws

bare : (end : ℕ) (ws : List Placed) → Agrees end (then (statement_at end ws) (λ s ws. Ok (withdraw s, ws))) (starts ROLE (starts (sign Arrow) (bodies []))) ws
bare end ws =
    statement end [] (λ s ws. Ok (withdraw s, ws))
    (λ h. record { member = λ x ws. ends end _ ws; delegation = λ b ws. ends end _ ws; linked = λ b t ws. ends end _ ws; intersection = λ b c ws. ends end _ ws }) ws

weighed : (end : ℕ) (make : Sentence Placed Record → Command) (ws : List Placed) → Agrees end (then (credential_at end ws) (λ s ws. Ok (make s, ws))) (starts ROLE (starts (sign Arrow) (bodies (sign Colon ∷ NUMBER ∷ NUMBER ∷ [])))) ws
weighed end make ws =
    made (credential_at end ws) make
    ∙ statement end (sign Colon ∷ NUMBER ∷ NUMBER ∷ []) (λ s ws. then (weighed_at end s.body ws) (λ b ws. Ok (record { head = s.head; body = b }, ws)))
    (λ h. record {
      member = λ x ws.
          made (then (weight_at end ws) (λ w ws. Ok (Member x w, ws))) (λ b. record { head = h; body = b })
          ∙ made (weight_at end ws) (λ w. Member x w) ∙ weight end ws;
      delegation = λ b ws. ends end _ ws;
      linked = λ b t ws. ends end _ ws;
      intersection = λ b c ws. ends end _ ws;
    }) ws

left_append : (w : Placed) (ps qs : List Pattern) → left_of w (ps ++ qs) ≡ left_of w ps ++ left_of w qs
left_append w [] qs = refl
left_append w ([] ∷ ps) qs = left_append w ps qs
left_append w ((k ∷ p) ∷ ps) qs = ap (λ l. cond (fits k w) (p ∷ l) l) (left_append w ps qs) ∙ go (fits k w)
  where
    go : (b : Bool) → cond b (p ∷ (left_of w ps ++ left_of w qs)) (left_of w ps ++ left_of w qs) ≡ cond b (p ∷ left_of w ps) (left_of w ps) ++ left_of w qs
    go true = refl
    go false = refl

abbrev enrols : List Pattern
enrols = (any ∷ []) ∷ []

abbrev adds : List Pattern
adds = starts ROLE (starts (sign Arrow) (bodies (sign Colon ∷ NUMBER ∷ NUMBER ∷ [])))

abbrev withdraws : List Pattern
withdraws = starts ROLE (starts (sign Arrow) (bodies []))

-- the patterns of the verb that a word is
abbrev by_verb : Option Verb → List Pattern
by_verb o = cond (is_verb verb.Enrol o) enrols [] ++ (cond (is_verb verb.Add o) adds [] ++ (cond (is_verb verb.Withdraw o) withdraws [] ++ cond (is_verb verb.Present o) adds []))

-- the patterns that start with a verb, of which those left after w are taken
left_verb : (w : Placed) (u : Verb) (ps : List Pattern) → left_of w (starts (this (verb_text u)) ps) ≡ cond (is_verb u (verb_of w.text)) ps []
left_verb w u ps = left_starts (this (verb_text u)) w ps ∙ ap (λ b. cond b ps []) (verb_test w.text u)

left_verbs : (w : Placed) → left_of w patterns ≡ by_verb (verb_of w.text)
left_verbs w =
    let e = starts (this (verb_text verb.Enrol)) enrols in
    let a = starts (this (verb_text verb.Add)) adds in
    let d = starts (this (verb_text verb.Withdraw)) withdraws in
    let p = starts (this (verb_text verb.Present)) adds in
    left_append w e (a ++ (d ++ p))
    ∙ (λ i. left_verb w verb.Enrol enrols i ++ (left_append w a (d ++ p)
    ∙ (λ j. left_verb w verb.Add adds j ++ (left_append w d p ∙ (λ k. left_verb w verb.Withdraw withdraws k ++ left_verb w verb.Present adds k)) j)) i)

command : (end : ℕ) (ws : List Placed) → Agrees end (command_at end ws) patterns ws
command end [] = refl
command end (w ∷ ws) = go (verb_of w.text) ∙ ap (λ l. cond (none l) (Some w.byte) (fault end l ws)) (sym (left_verbs w))
  where
    go : (o : Option Verb) → fault_of (done (command_by end w.byte o ws)) ≡ cond (none (by_verb o)) (Some w.byte) (fault end (by_verb o) ws)
    go None = refl
    go (Some verb.Enrol) = next end any a_word (λ w. refl) [] [] (λ w ws. Ok (enrol w, ws)) (λ w ws. ends end (enrol w) ws) ws
    go (Some verb.Add) = weighed end add ws
    go (Some verb.Withdraw) = bare end ws
    go (Some verb.Present) = weighed end present ws

some_just : (text : List ℕ) (w : Placed) → fits (this text) w ≡ is_some (just text w)
some_just text w = go (bytes_eq w.text text)
  where
    go : (b : Bool) → b ≡ is_some {T = Unit {0}} (cond b (Some (tt {0})) None)
    go true = refl
    go false = refl

header : (end : ℕ) (ws : List Placed) → Agrees end (header_at end ws) header_patterns ws
header end ws =
    next end (this (codes "RTW")) (just (codes "RTW")) (some_just (codes "RTW")) _ [] (λ _ ws. fit (just (codes "0001")) end ws)
    (λ _ ws. sym (made (fit (just (codes "0001")) end ws) (λ x. x))
    ∙ next end (this (codes "0001")) (just (codes "0001")) (some_just (codes "0001")) [] [] (λ x ws. Ok (x, ws)) (λ x ws. ends end x ws) ws) ws

-- a whole line
by_line : {X : Type 0} (ended : Bool) (end : ℕ) (r : Result X ℕ) → fault_of (closed ended end r) ≡ unless_ended ended end (fault_of r)
by_line ended end (Err e) = refl
by_line true end (Ok x) = refl
by_line false end (Ok x) = refl

line : {X : Type 0} (rule : ℕ → List Placed → Got X) (ps : List Pattern) → ((end : ℕ) (ws : List Placed) → Agrees end (rule end ws) ps ws) → (bs : List ℕ) (ended : Bool) → fault_of (line_by rule bs ended) ≡ line_fault ps bs ended
line rule ps agree bs ended =
    let end = length bs + 1 in
    let ws = placed 1 (split 32 bs) in
    by_line ended end (done (rule end ws)) ∙ ap (unless_ended ended end) (agree end ws)

pub command_place : (bs : List ℕ) (ended : Bool) → fault_of (command_line bs ended) ≡ line_fault patterns bs ended
command_place = line command_at patterns command

pub header_place : (bs : List ℕ) (ended : Bool) → fault_of (first_line bs ended) ≡ line_fault header_patterns bs ended
header_place = line header_at header_patterns header

-- the same of what `parse` answers
pub command_placed : (r : Result code.Command Malformed) (bs : List ℕ) (ended : Bool) → at_byte told_command r ≡ command_line bs ended → fault_of (at_byte told_command r) ≡ line_fault patterns bs ended
command_placed r bs ended e = ap fault_of e ∙ command_place bs ended
