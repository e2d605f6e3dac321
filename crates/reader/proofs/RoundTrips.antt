-- Statement lines and statements, both ways.
use Rattle.std.proofs.Common.{◌≡◌, ℕ, Bool, true, List, ◌++◌, Ok, Err, codes, Result, sym, refl, ap, ◌∙◌, arith}
use Rattle.words.specs.Split.{Placed}
use Rattle.credential.specs.declared.Record.{Record}
use Rattle.credential.specs.declared.Body.{Body}
use Rattle.credential.specs.declared.Body.TheVariants as body
use Rattle.credential.specs.declared.Claim.{Claim}
use Rattle.credential.specs.Same.{Credential, Statement}
use Rattle.book.specs.Plain.{Plain, Call, enrolled, fed}
use Rattle.book.specs.Plain as plain
use Rattle.book.proofs.Sound.{fed_sound}
use Rattle.reader.specs.declared.sentence.Sentence.{Sentence}
use Rattle.reader.specs.Grammar.{Command, enrol, add, withdraw, present, command_line}
use Rattle.reader.specs.Calls.{and_then, Act, calls, presents, act_of, faulty, reading, known_claim}
use Rattle.reader.specs.Spelling.{spelled, spelled_bare, named}
use Rattle.reader.specs.RoundTrip.{SpelledBack, Fits32, BodyFits, ReadBack}
use Rattle.reader.proofs.Back.{add_back, withdraw_back, present_back}
use Rattle.reader.proofs.Forth.{Nothing, add_forth, withdraw_forth, present_forth}
use Rattle.reader.proofs.Chains.{err_ok, and_then_back}
use Rattle.reader.proofs.Lookups.{claim_back, claim_forth, claim_good, CarriedOk}

faulty_back : {X : Type 0} (n : ℕ) (r : Result X ℕ) (x : X) → faulty n r ≡ Ok x → r ≡ Ok x
faulty_back n (Ok y) x e = let is : y ≡ x = cc in ap Ok is
faulty_back n (Err b) x e = err_ok e

-- the command of a line that makes a call
command_of : (p : Plain) (bs : List ℕ) (ended : Bool) (act : Act) → reading p bs ended ≡ Ok act → (c : Command) × (command_line bs ended ≡ Ok c) × (act_of p c ≡ Ok act)
command_of p bs ended act e =
    let a = and_then_back (faulty 17 (command_line bs ended)) (λ c. faulty 18 (act_of p c)) act e in
    (a.0, faulty_back 17 (command_line bs ended) a.0 a.1, faulty_back 18 (act_of p a.0) act a.2)

-- another act than the one that was read
clash : {A : Type 0} {x y : Act} → ((x ≡ y) → ◌≡◌ {A = ℕ} 0 1) → ◌≡◌ {A = Result Act ℕ} (Ok x) (Ok y) → A
clash {A} {x} {y} differ e = let same : x ≡ y = cc in absurd (let z = differ same in omega (arith, z))

known_back : {W X : Type 0} (p : Plain) (s : Sentence Placed W) (make : Claim W → X) (x : X) → and_then (known_claim p.entities p.role_names s) (λ c. Ok (make c)) ≡ Ok x → (c : Claim W) × (known_claim p.entities p.role_names s ≡ Ok c) × (◌≡◌ {A = Result X ℕ} (Ok (make c)) (Ok x))
known_back p s make x e = and_then_back (known_claim p.entities p.role_names s) (λ c. Ok (make c)) x e

add_known : (p : Plain) (c : Credential) (cmd : Command) → act_of p cmd ≡ Ok (calls (plain.add c)) → (s : Sentence Placed Record) × (cmd ≡ add s) × (known_claim p.entities p.role_names s ≡ Ok c)
add_known p c (enrol w) e = clash (λ same. cc) e
add_known p c (add s) e = let a = known_back p s (λ c. calls (plain.add c)) _ e in let is : a.0 ≡ c = let t = a.2 in cc in (s, refl, a.1 ∙ ap Ok is)
add_known p c (withdraw s) e = let a = known_back p s (λ c. calls (plain.withdraw c)) _ e in clash (λ same. cc) a.2
add_known p c (present s) e = let a = known_back p s presents _ e in clash (λ same. cc) a.2

withdraw_known : (p : Plain) (c : Statement) (cmd : Command) → act_of p cmd ≡ Ok (calls (plain.withdraw c)) → (s : Sentence Placed (Unit {0})) × (cmd ≡ withdraw s) × (known_claim p.entities p.role_names s ≡ Ok c)
withdraw_known p c (enrol w) e = clash (λ same. cc) e
withdraw_known p c (add s) e = let a = known_back p s (λ c. calls (plain.add c)) _ e in clash (λ same. cc) a.2
withdraw_known p c (withdraw s) e = let a = known_back p s (λ c. calls (plain.withdraw c)) _ e in let is : a.0 ≡ c = let t = a.2 in cc in (s, refl, a.1 ∙ ap Ok is)
withdraw_known p c (present s) e = let a = known_back p s presents _ e in clash (λ same. cc) a.2

present_known : (p : Plain) (c : Credential) (cmd : Command) → act_of p cmd ≡ Ok (presents c) → (s : Sentence Placed Record) × (cmd ≡ present s) × (known_claim p.entities p.role_names s ≡ Ok c)
present_known p c (enrol w) e = clash (λ same. cc) e
present_known p c (add s) e = let a = known_back p s (λ c. calls (plain.add c)) _ e in clash (λ same. cc) a.2
present_known p c (withdraw s) e = let a = known_back p s (λ c. calls (plain.withdraw c)) _ e in clash (λ same. cc) a.2
present_known p c (present s) e = let a = known_back p s presents _ e in let is : a.0 ≡ c = let t = a.2 in cc in (s, refl, a.1 ∙ ap Ok is)

pub spelled_back : (p : Plain) (bs : List ℕ) (ended : Bool) → SpelledBack p bs ended
spelled_back p bs ended = record { added = added; withdrawn = withdrawn; presented = presented }
  where
    added : (c : Credential) → reading p bs ended ≡ Ok (calls (plain.add c)) → (enrolled p c ≡ true) × (bs ≡ codes "add " ++ spelled (named p c))
    added c e =
        let a = command_of p bs ended (calls (plain.add c)) e in
        let k = add_known p c a.0 a.2 in
        let n = claim_back p k.0 c k.2 in
        (n.0, (add_back bs ended k.0 (a.1 ∙ ap Ok k.1)).0 ∙ ap (λ s. codes "add " ++ spelled s) (sym n.1))

    withdrawn : (s : Statement) → reading p bs ended ≡ Ok (calls (plain.withdraw s)) → (enrolled p s ≡ true) × (bs ≡ codes "withdraw " ++ spelled_bare (named p s))
    withdrawn c e =
        let a = command_of p bs ended (calls (plain.withdraw c)) e in
        let k = withdraw_known p c a.0 a.2 in
        let n = claim_back p k.0 c k.2 in
        (n.0, (withdraw_back bs ended k.0 (a.1 ∙ ap Ok k.1)).0 ∙ ap (λ s. codes "withdraw " ++ spelled_bare s) (sym n.1))

    presented : (c : Credential) → reading p bs ended ≡ Ok (presents c) → (enrolled p c ≡ true) × (bs ≡ codes "present " ++ spelled (named p c))
    presented c e =
        let a = command_of p bs ended (presents c) e in
        let k = present_known p c a.0 a.2 in
        let n = claim_back p k.0 c k.2 in
        (n.0, (present_back bs ended k.0 (a.1 ∙ ap Ok k.1)).0 ∙ ap (λ s. codes "present " ++ spelled s) (sym n.1))

carried : (b : Body Record) → BodyFits b → CarriedOk Fits32 b
carried (body.Member x w) h = h
carried (body.Delegation b) h = h
carried (body.Link b t) h = h
carried (body.Intersection b c) h = h

uncarried : (b : Body (Unit {0})) → CarriedOk Nothing b
uncarried (body.Member x w) = tt
uncarried (body.Delegation b) = tt
uncarried (body.Link b t) = tt
uncarried (body.Intersection b c) = tt

pub read_back : (past : List Call) → ReadBack (fed past)
read_back past = record { added = added; withdrawn = withdrawn; presented = presented }
  where
    added : (c : Credential) → BodyFits c.body → enrolled (fed past) c ≡ true → reading (fed past) (codes "add " ++ spelled (named (fed past) c)) true ≡ Ok (calls (plain.add c))
    added c fits h =
        let p = fed past in
        let sound = fed_sound past in
        ap (λ r. and_then (faulty 17 r) (λ c. faulty 18 (act_of p c))) (add_forth (named p c) (claim_good p sound Fits32 c (carried c.body fits) h))
        ∙ ap (λ r. faulty 18 (and_then r (λ c. Ok (calls (plain.add c))))) (claim_forth p sound 5 c h)

    withdrawn : (s : Statement) → enrolled (fed past) s ≡ true → reading (fed past) (codes "withdraw " ++ spelled_bare (named (fed past) s)) true ≡ Ok (calls (plain.withdraw s))
    withdrawn c h =
        let p = fed past in
        let sound = fed_sound past in
        ap (λ r. and_then (faulty 17 r) (λ c. faulty 18 (act_of p c))) (withdraw_forth (named p c) (claim_good p sound Nothing c (uncarried c.body) h))
        ∙ ap (λ r. faulty 18 (and_then r (λ c. Ok (calls (plain.withdraw c))))) (claim_forth p sound 10 c h)

    presented : (c : Credential) → BodyFits c.body → enrolled (fed past) c ≡ true → reading (fed past) (codes "present " ++ spelled (named (fed past) c)) true ≡ Ok (presents c)
    presented c fits h =
        let p = fed past in
        let sound = fed_sound past in
        ap (λ r. and_then (faulty 17 r) (λ c. faulty 18 (act_of p c))) (present_forth (named p c) (claim_good p sound Fits32 c (carried c.body fits) h))
        ∙ ap (λ r. faulty 18 (and_then r (λ c. Ok (presents c)))) (claim_forth p sound 9 c h)
