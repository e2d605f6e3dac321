-- A statement as it is written, its names told in another way.
use Rattle.reader.specs.declared.sentence.RoleText.{RoleText}
use Rattle.reader.specs.declared.sentence.Phrase.{Phrase}
use Rattle.reader.specs.declared.sentence.Phrase.TheVariants.{Member, Delegation, Link, Intersection}
use Rattle.reader.specs.declared.sentence.Sentence.{Sentence}

module _ {N M : Type 0} (f : N → M) where
  abbrev pub role_by : RoleText N → RoleText M
  role_by r = record { entity = f r.entity; name = f r.name }

  abbrev pub phrase_by : {W : Type 0} → Phrase N W → Phrase M W
  phrase_by (Member x w) = Member (f x) w
  phrase_by (Delegation b) = Delegation (role_by b)
  phrase_by (Link b t) = Link (role_by b) (f t)
  phrase_by (Intersection b c) = Intersection (role_by b) (role_by c)

  abbrev pub sentence_by : {W : Type 0} → Sentence N W → Sentence M W
  sentence_by s = record { head = role_by s.head; body = phrase_by s.body }
