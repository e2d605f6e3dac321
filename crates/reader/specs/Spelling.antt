-- How a statement is spelled: words, joined by single spaces.
use Rattle.std.specs.Prelude.{ℕ, List, [], ◌∷◌, ◌++◌, codes, slice_index_or}
use Rattle.std.specs.Fmt.{signed_decimal}
use Rattle.words.specs.Split.{rejoin}
use Rattle.credential.specs.declared.Role.{Role}
use Rattle.credential.specs.declared.Record.{Record}
use Rattle.credential.specs.declared.Body.{Body}
use Rattle.credential.specs.declared.Body.TheVariants as body
use Rattle.credential.specs.declared.Claim.{Claim}
use Rattle.book.specs.Plain.{Plain}
use Rattle.reader.specs.declared.sentence.RoleText.{RoleText}
use Rattle.reader.specs.declared.sentence.Phrase.{Phrase}
use Rattle.reader.specs.declared.sentence.Phrase.TheVariants.{Member, Delegation, Link, Intersection}
use Rattle.reader.specs.declared.sentence.Sentence.{Sentence}

-- two names with a dot between them
abbrev pub dotted : List ℕ → List ℕ → List ℕ
dotted a r = a ++ 46 ∷ r

abbrev pub role_word : RoleText (List ℕ) → List ℕ
role_word b = dotted b.entity b.name

-- a membership ends in what it carries
abbrev pub body_words : {W : Type 0} → (W → List (List ℕ)) → Phrase (List ℕ) W → List (List ℕ)
body_words carried (Member x w) = x ∷ carried w
body_words carried (Delegation b) = role_word b ∷ []
body_words carried (Link b t) = dotted b.entity (dotted b.name t) ∷ []
body_words carried (Intersection b c) = role_word b ∷ codes "&" ∷ role_word c ∷ []

abbrev pub statement_words : {W : Type 0} → (W → List (List ℕ)) → Sentence (List ℕ) W → List (List ℕ)
statement_words carried s = role_word s.head ∷ codes "<-" ∷ body_words carried s.body

abbrev pub weight_words : Record → List (List ℕ)
weight_words w = codes ":" ∷ signed_decimal w.ceiling ∷ signed_decimal w.distance ∷ []

abbrev pub no_words : Unit {0} → List (List ℕ)
no_words _ = []

-- a statement as an add line spells it, and as a withdraw line does
abbrev pub spelled : Sentence (List ℕ) Record → List ℕ
spelled s = rejoin 32 (statement_words weight_words s)

abbrev pub spelled_bare : Sentence (List ℕ) (Unit {0}) → List ℕ
spelled_bare s = rejoin 32 (statement_words no_words s)

-- a claim by the names of its numbers
abbrev pub named_role : Plain → Role → RoleText (List ℕ)
named_role p r = record { entity = slice_index_or p.entities r.entity.0 []; name = slice_index_or p.role_names r.name.0 [] }

abbrev pub named_body : {W : Type 0} → Plain → Body W → Phrase (List ℕ) W
named_body p (body.Member x w) = Member (slice_index_or p.entities x.0 []) w
named_body p (body.Delegation b) = Delegation (named_role p b)
named_body p (body.Link b t) = Link (named_role p b) (slice_index_or p.role_names t.0 [])
named_body p (body.Intersection b c) = Intersection (named_role p b) (named_role p c)

abbrev pub named : {W : Type 0} → Plain → Claim W → Sentence (List ℕ) W
named p c = record { head = named_role p c.head; body = named_body p c.body }
