-- A statement that is read was spelled so.
use Rattle.std.proofs.Common.{◌≡◌, ℕ, ◌+◌, Bool, true, false, cond, List, [], ◌∷◌, ◌++◌, length, ℤ, Some, None, Ok, Err, codes, Option, Result, sym, refl, ap, ◌∙◌, subst, append-nil}
use Rattle.std.specs.Fmt.{signed_decimal}
use Rattle.words.specs.Split.{Placed, split, placed, rejoin}
use Rattle.words.proofs.Laws.{rejoin_split}
use Rattle.credential.specs.declared.Record.{Record}
use Rattle.reader.specs.declared.sentence.RoleText.{RoleText}
use Rattle.reader.specs.declared.sentence.Phrase.{Phrase}
use Rattle.reader.specs.declared.sentence.Phrase.TheVariants.{Member, Delegation, Link, Intersection}
use Rattle.reader.specs.declared.sentence.Sentence.{Sentence}
use Rattle.reader.specs.declared.tokens.Sign.{Sign}
use Rattle.reader.specs.declared.tokens.Sign.TheVariants.{Arrow, And, Colon}
use Rattle.reader.specs.declared.tokens.Verb.{Verb}
use Rattle.reader.specs.declared.tokens.Verb.TheVariants as verb
use Rattle.reader.specs.Sentences.{role_by, phrase_by, sentence_by}
use Rattle.reader.specs.Tokens.{Tok, one, role, link, number, mark, token_of, text, sign_text, Sound}
use Rattle.reader.specs.Verbs.{verb_of}
use Rattle.reader.specs.Grammar.{Command, enrol, add, withdraw, present, Got, then, picked, fit, role_in, number_in, same_sign, sign_in, a_role, a_number, a_sign, a_word, weight_at, second_at, body_by, body_at, statement_at, weighed_at, credential_at, command_by, command_at, done, closed, command_line}
use Rattle.reader.specs.Spelling.{dotted, role_word, body_words, statement_words, weight_words, no_words, spelled, spelled_bare}
use Rattle.reader.specs.RoundTrip.{Fits32}
use Rattle.reader.proofs.Forth.{RoleOk, BodyOk, Good, Nothing}
use Rattle.reader.proofs.Chains.{err_ok, got_same, then_back, then_made}
use Rattle.reader.proofs.Texts.{none_some, token_text}
use Rattle.reader.proofs.Verbing.{verb_back}

abbrev plain : Placed → List ℕ
plain w = w.text

abbrev texts : List Placed → List (List ℕ)
texts [] = []
texts (w ∷ ws) = w.text ∷ texts ws

texts_placed : (n : ℕ) (l : List (List ℕ)) → texts (placed n l) ≡ l
texts_placed n [] = refl
texts_placed n (w ∷ ws) = ap (λ l. w ∷ l) (texts_placed (n + length w + 1) ws)

-- the words ws are those of x, and then those of rest
abbrev Took : List Placed → List (List ℕ) → List Placed → Type 0
Took ws words rest = texts ws ≡ words ++ texts rest

-- a word that was fit has the text of its token
fit_back : {X : Type 0} (pick : Option Tok → Option X) → pick None ≡ None → (want : X → Tok) → ((t : Tok) (x : X) → pick (Some t) ≡ Some x → want x ≡ t) → (end : ℕ) (ws : List Placed) (x : X) (rest : List Placed) → fit (λ w. pick (token_of w)) end ws ≡ Ok (x, rest) → Took ws (text (want x) ∷ []) rest × Sound (want x)
fit_back pick none want is end [] x rest e = err_ok e
fit_back {X} pick none want is end (w ∷ ws) x rest e = go (token_of w) refl e
  where
    taken : (o : Option X) (t : Tok) → token_of w ≡ Some t → pick (Some t) ≡ o → picked o w.byte ws ≡ Ok (x, rest) → Took (w ∷ ws) (text (want x) ∷ []) rest × Sound (want x)
    taken None t f g e = err_ok e
    taken (Some y) t f g e =
        let same = got_same y x ws rest e in
        let k = token_text w t f in
        let meant = is t x (g ∙ ap Some same.0) in
        ((λ i. (sym k.0 ∙ ap text (sym meant)) i ∷ texts (same.1 i)), subst Sound (sym meant) k.1)

    go : (o : Option Tok) → token_of w ≡ o → picked (pick o) w.byte ws ≡ Ok (x, rest) → Took (w ∷ ws) (text (want x) ∷ []) rest × Sound (want x)
    go None f e = err_ok (sym (ap (λ o. picked o w.byte ws) none) ∙ e)
    go (Some t) f e = taken (pick (Some t)) t f refl e

abbrev role_tok : RoleText Placed → Tok
role_tok r = role r.entity r.name

role_back : (t : Tok) (r : RoleText Placed) → role_in (Some t) ≡ Some r → role_tok r ≡ t
role_back (one a) r e = none_some e
role_back (role a n) r e = let same : record { entity = a; name = n } ≡ r = cc in ap role_tok (sym same)
role_back (link a n s) r e = none_some e
role_back (number n) r e = none_some e
role_back (mark s) r e = none_some e

number_back : (t : Tok) (z : ℤ) → number_in (Some t) ≡ Some z → number z ≡ t
number_back (one a) z e = none_some e
number_back (role a r) z e = none_some e
number_back (link a r s) z e = none_some e
number_back (number n) z e = let same : n ≡ z = cc in ap number (sym same)
number_back (mark s) z e = none_some e

same_back : (t s : Sign) (u : Unit {0}) → cond (same_sign t s) (Some (tt {0})) None ≡ Some u → mark s ≡ mark t
same_back Arrow Arrow u e = refl
same_back Arrow And u e = none_some e
same_back Arrow Colon u e = none_some e
same_back And Arrow u e = none_some e
same_back And And u e = refl
same_back And Colon u e = none_some e
same_back Colon Arrow u e = none_some e
same_back Colon And u e = none_some e
same_back Colon Colon u e = refl

sign_back : (s : Sign) (t : Tok) (u : Unit {0}) → sign_in s (Some t) ≡ Some u → mark s ≡ t
sign_back s (one a) u e = none_some e
sign_back s (role a r) u e = none_some e
sign_back s (link a r t) u e = none_some e
sign_back s (number n) u e = none_some e
sign_back s (mark t) u e = same_back t s u e

a_role_back : (end : ℕ) (ws : List Placed) (r : RoleText Placed) (rest : List Placed) → fit a_role end ws ≡ Ok (r, rest) → Took ws (role_word (role_by plain r) ∷ []) rest × RoleOk (role_by plain r)
a_role_back = fit_back role_in refl role_tok role_back

a_number_back : (end : ℕ) (ws : List Placed) (z : ℤ) (rest : List Placed) → fit a_number end ws ≡ Ok (z, rest) → Took ws (signed_decimal z ∷ []) rest × Sound (number z)
a_number_back = fit_back number_in refl number number_back

a_sign_back : (s : Sign) (end : ℕ) (ws : List Placed) (u : Unit {0}) (rest : List Placed) → fit (a_sign s) end ws ≡ Ok (u, rest) → Took ws (sign_text s ∷ []) rest
a_sign_back s end ws u rest e = (fit_back (sign_in s) refl (λ _. mark s) (sign_back s) end ws u rest e).0

weight_back : (end : ℕ) (ws : List Placed) (w : Record) (rest : List Placed) → weight_at end ws ≡ Ok (w, rest) → Took ws (weight_words w) rest × Fits32 w
weight_back end ws w rest e =
    let a = then_back (fit (a_sign Colon) end ws) (λ _ ws. then (fit a_number end ws) (λ c ws. then (fit a_number end ws) (λ d ws. Ok (record { ceiling = c; distance = d }, ws)))) (w, rest) e in
    let b = then_back (fit a_number end a.1) (λ c ws. then (fit a_number end ws) (λ d ws. Ok (record { ceiling = c; distance = d }, ws))) (w, rest) a.3 in
    let c = then_made (fit a_number end b.1) (λ d. record { ceiling = b.0; distance = d }) w rest b.3 in
    let x = a_sign_back Colon end ws a.0 a.1 a.2 in
    let y = a_number_back end a.1 b.0 b.1 b.2 in
    let z = a_number_back end b.1 c.0 rest c.1 in
    subst (λ v. Took ws (weight_words v) rest × Fits32 v) c.2
    (x ∙ ap (λ l. codes ":" ∷ l) (y.0 ∙ ap (λ l. signed_decimal b.0 ∷ l) z.0), (y.1, z.1))

-- a bare body that was read: its words, a membership's without what it carries
abbrev BodyTook : List Placed → Phrase Placed (Unit {0}) → List Placed → Type 0
BodyTook ws b rest = Took ws (body_words no_words (phrase_by plain b)) rest × BodyOk Nothing (phrase_by plain b)

second_back : (end : ℕ) (b : RoleText Placed) (w : Placed) (ws : List Placed) (q : Phrase Placed (Unit {0})) (rest : List Placed) → role_word (role_by plain b) ≡ w.text → RoleOk (role_by plain b) → second_at end b ws ≡ Ok (q, rest) → BodyTook (w ∷ ws) q rest
second_back end b w [] q rest is ok e =
    let same = got_same (Delegation b) q [] rest e in
    subst (λ p. BodyTook (w ∷ []) p rest) same.0 ((λ i. sym is i ∷ texts (same.1 i)), ok)
second_back end b w (v ∷ ws) q rest is ok e =
    let m = then_back (fit (a_sign And) end (v ∷ ws)) (λ _ ws. then (fit a_role end ws) (λ c ws. Ok (Intersection b c, ws))) (q, rest) e in
    let r = then_made (fit a_role end m.1) (Intersection b) q rest m.3 in
    let x = a_sign_back And end (v ∷ ws) m.0 m.1 m.2 in
    let y = a_role_back end m.1 r.0 rest r.1 in
    subst (λ p. BodyTook (w ∷ v ∷ ws) p rest) r.2
    ((λ i. sym is i ∷ (x ∙ ap (λ l. codes "&" ∷ l) y.0) i), (ok, y.1))

body_back : (end : ℕ) (ws : List Placed) (q : Phrase Placed (Unit {0})) (rest : List Placed) → body_at end ws ≡ Ok (q, rest) → BodyTook ws q rest
body_back end [] q rest e = err_ok e
body_back end (w ∷ ws) q rest e = go (token_of w) refl e
  where
    go : (o : Option Tok) → token_of w ≡ o → body_by end w.byte o ws ≡ Ok (q, rest) → BodyTook (w ∷ ws) q rest
    go None f e = err_ok e
    go (Some (one x)) f e =
        let k = token_text w (one x) f in
        let same = got_same (Member x tt) q ws rest e in
        subst (λ p. BodyTook (w ∷ ws) p rest) same.0 ((λ i. sym k.0 i ∷ texts (same.1 i)), (k.1, tt))
    go (Some (role b s)) f e = let k = token_text w (role b s) f in second_back end (record { entity = b; name = s }) w ws q rest k.0 k.1 e
    go (Some (link b s t)) f e =
        let k = token_text w (link b s t) f in
        let same = got_same (Link (record { entity = b; name = s }) t) q ws rest e in
        subst (λ p. BodyTook (w ∷ ws) p rest) same.0 ((λ i. sym k.0 i ∷ texts (same.1 i)), ((k.1.0, k.1.1), k.1.2))
    go (Some (number z)) f e = err_ok e
    go (Some (mark m)) f e = err_ok e

-- the weight that follows it
weighed_back : (end : ℕ) (all : List Placed) (b : Phrase Placed (Unit {0})) (ws : List Placed) (q : Phrase Placed Record) (rest : List Placed) → BodyTook all b ws → weighed_at end b ws ≡ Ok (q, rest) → Took all (body_words weight_words (phrase_by plain q)) rest × BodyOk Fits32 (phrase_by plain q)
weighed_back end all (Member x u) ws q rest h e =
    let a = then_made (weight_at end ws) (Member x) q rest e in
    let k = weight_back end ws a.0 rest a.1 in
    subst (λ p. Took all (body_words weight_words (phrase_by plain p)) rest × BodyOk Fits32 (phrase_by plain p)) a.2
    (h.0 ∙ ap (λ l. x.text ∷ l) k.0, (h.1.0, k.1))
weighed_back end all (Delegation b) ws q rest h e =
    let same = got_same (Delegation b) q ws rest e in
    subst (λ p. Took all (body_words weight_words (phrase_by plain p)) rest × BodyOk Fits32 (phrase_by plain p)) same.0 (h.0 ∙ ap (λ l. role_word (role_by plain b) ∷ texts l) same.1, h.1)
weighed_back end all (Link b t) ws q rest h e =
    let same = got_same (Link b t) q ws rest e in
    subst (λ p. Took all (body_words weight_words (phrase_by plain p)) rest × BodyOk Fits32 (phrase_by plain p)) same.0 (h.0 ∙ ap (λ l. dotted b.entity.text (dotted b.name.text t.text) ∷ texts l) same.1, h.1)
weighed_back end all (Intersection b c) ws q rest h e =
    let same = got_same (Intersection b c) q ws rest e in
    subst (λ p. Took all (body_words weight_words (phrase_by plain p)) rest × BodyOk Fits32 (phrase_by plain p)) same.0 (h.0 ∙ ap (λ l. role_word (role_by plain b) ∷ codes "&" ∷ role_word (role_by plain c) ∷ texts l) same.1, h.1)

-- a statement that was read: its head, its arrow and its body
record StatementTook (ws : List Placed) (s : Sentence Placed (Unit {0})) (rest : List Placed) : Type 0 where
  mid : List Placed
  front : texts ws ≡ role_word (role_by plain s.head) ∷ codes "<-" ∷ texts mid
  head : RoleOk (role_by plain s.head)
  body : BodyTook mid s.body rest

statement_back : (end : ℕ) (ws : List Placed) (s : Sentence Placed (Unit {0})) (rest : List Placed) → statement_at end ws ≡ Ok (s, rest) → StatementTook ws s rest
statement_back end ws s rest e =
    let a = then_back (fit a_role end ws) (λ h ws. then (fit (a_sign Arrow) end ws) (λ _ ws. then (body_at end ws) (λ b ws. Ok (record { head = h; body = b }, ws)))) (s, rest) e in
    let b = then_back (fit (a_sign Arrow) end a.1) (λ _ ws. then (body_at end ws) (λ b ws. Ok (record { head = a.0; body = b }, ws))) (s, rest) a.3 in
    let d = then_made (body_at end b.1) (λ q. record { head = a.0; body = q }) s rest b.3 in
    let x = a_role_back end ws a.0 a.1 a.2 in
    let y = a_sign_back Arrow end a.1 b.0 b.1 b.2 in
    subst (λ t. StatementTook ws t rest) d.2
    (record { mid = b.1; front = x.0 ∙ ap (λ l. role_word (role_by plain a.0) ∷ l) y; head = x.1; body = body_back end b.1 d.0 rest d.1 })

-- a whole statement
bare_back : (ws : List Placed) (s : Sentence Placed (Unit {0})) → StatementTook ws s [] → (texts ws ≡ statement_words no_words (sentence_by plain s)) × Good Nothing (sentence_by plain s)
bare_back ws s h =
    (h.front ∙ ap (λ l. role_word (role_by plain s.head) ∷ codes "<-" ∷ l) (h.body.0 ∙ append-nil _), (h.head, h.body.1))

credential_back : (end : ℕ) (ws : List Placed) (s : Sentence Placed Record) → credential_at end ws ≡ Ok (s, []) → (texts ws ≡ statement_words weight_words (sentence_by plain s)) × Good Fits32 (sentence_by plain s)
credential_back end ws s e =
    let a = then_back (statement_at end ws) (λ t ws. then (weighed_at end t.body ws) (λ b ws. Ok (record { head = t.head; body = b }, ws))) (s, []) e in
    let b = then_made (weighed_at end a.0.body a.1) (λ b. record { head = a.0.head; body = b }) s [] a.3 in
    let h = statement_back end ws a.0 a.1 a.2 in
    let k = weighed_back end h.mid a.0.body a.1 b.0 [] h.body b.1 in
    subst (λ t. (texts ws ≡ statement_words weight_words (sentence_by plain t)) × Good Fits32 (sentence_by plain t)) b.2
    (h.front ∙ ap (λ l. role_word (role_by plain a.0.head) ∷ codes "<-" ∷ l) (k.0 ∙ append-nil _), (h.head, k.1))

-- what is known of the words of a command
abbrev CommandTook : List Placed → Command → Type 0
CommandTook ws (enrol w) = Unit {0}
CommandTook ws (add s) = (texts ws ≡ codes "add" ∷ statement_words weight_words (sentence_by plain s)) × Good Fits32 (sentence_by plain s)
CommandTook ws (withdraw s) = (texts ws ≡ codes "withdraw" ∷ statement_words no_words (sentence_by plain s)) × Good Nothing (sentence_by plain s)
CommandTook ws (present s) = (texts ws ≡ codes "present" ∷ statement_words weight_words (sentence_by plain s)) × Good Fits32 (sentence_by plain s)

command_back : (end : ℕ) (ws : List Placed) (c : Command) → command_at end ws ≡ Ok (c, []) → CommandTook ws c
command_back end [] c e = err_ok e
command_back end (w ∷ ws) c e = go (verb_of w.text) refl e
  where
    go : (o : Option Verb) → verb_of w.text ≡ o → command_by end w.byte o ws ≡ Ok (c, []) → CommandTook (w ∷ ws) c
    go None f e = err_ok e
    go (Some verb.Enrol) f e = subst (CommandTook (w ∷ ws)) (then_made (fit a_word end ws) enrol c [] e).2 tt
    go (Some verb.Add) f e =
        let a = then_made (credential_at end ws) add c [] e in
        let k = credential_back end ws a.0 a.1 in
        subst (CommandTook (w ∷ ws)) a.2 ((λ i. verb_back w.text verb.Add f i ∷ k.0 i), k.1)
    go (Some verb.Withdraw) f e =
        let a = then_made (statement_at end ws) withdraw c [] e in
        let k = bare_back ws a.0 (statement_back end ws a.0 [] a.1) in
        subst (CommandTook (w ∷ ws)) a.2 ((λ i. verb_back w.text verb.Withdraw f i ∷ k.0 i), k.1)
    go (Some verb.Present) f e =
        let a = then_made (credential_at end ws) present c [] e in
        let k = credential_back end ws a.0 a.1 in
        subst (CommandTook (w ∷ ws)) a.2 ((λ i. verb_back w.text verb.Present f i ∷ k.0 i), k.1)

only_back : {X : Type 0} (g : Got X) (x : X) → done g ≡ Ok x → g ≡ Ok (x, [])
only_back (Err e) x h = err_ok h
only_back (Ok (y, [])) x h = let same : y ≡ x = cc in ap (λ z. Ok (z, [])) same
only_back (Ok (y, w ∷ ws)) x h = err_ok h

closed_back : {X : Type 0} (ended : Bool) (end : ℕ) (r : Result X ℕ) (x : X) → closed ended end r ≡ Ok x → r ≡ Ok x
closed_back ended end (Err e) x h = err_ok h
closed_back true end (Ok y) x h = h
closed_back false end (Ok y) x h = err_ok h

line_back : (bs : List ℕ) (ended : Bool) (c : Command) → command_line bs ended ≡ Ok c → CommandTook (placed 1 (split 32 bs)) c
line_back bs ended c e =
    let end = length bs + 1 in
    command_back end (placed 1 (split 32 bs)) c (only_back (command_at end (placed 1 (split 32 bs))) c (closed_back ended end _ c e))

-- the words joined again are the line
joined : (bs : List ℕ) (words : List (List ℕ)) → texts (placed 1 (split 32 bs)) ≡ words → bs ≡ rejoin 32 words
joined bs words e = sym (rejoin_split 32 bs) ∙ ap (rejoin 32) (sym (texts_placed 1 (split 32 bs)) ∙ e)

pub add_back : (bs : List ℕ) (ended : Bool) (s : Sentence Placed Record) → command_line bs ended ≡ Ok (add s) → (bs ≡ codes "add " ++ spelled (sentence_by plain s)) × Good Fits32 (sentence_by plain s)
add_back bs ended s e = let k = line_back bs ended (add s) e in (joined bs _ k.0, k.1)

pub withdraw_back : (bs : List ℕ) (ended : Bool) (s : Sentence Placed (Unit {0})) → command_line bs ended ≡ Ok (withdraw s) → (bs ≡ codes "withdraw " ++ spelled_bare (sentence_by plain s)) × Good Nothing (sentence_by plain s)
withdraw_back bs ended s e = let k = line_back bs ended (withdraw s) e in (joined bs _ k.0, k.1)

pub present_back : (bs : List ℕ) (ended : Bool) (s : Sentence Placed Record) → command_line bs ended ≡ Ok (present s) → (bs ≡ codes "present " ++ spelled (sentence_by plain s)) × Good Fits32 (sentence_by plain s)
present_back bs ended s e = let k = line_back bs ended (present s) e in (joined bs _ k.0, k.1)
