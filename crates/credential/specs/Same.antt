-- When two credentials are the same statement.
use Rattle.std.specs.Prelude.{Bool, false, ◌&&◌, ◌==◌}
use Rattle.credential.specs.declared.Role.{Role}
use Rattle.credential.specs.declared.Record.{Record}
use Rattle.credential.specs.declared.Body.{Body}
use Rattle.credential.specs.declared.Body.TheVariants.{Member, Delegation, Link, Intersection}
use Rattle.credential.specs.declared.Claim.{Claim}

-- a statement with its weight, and one without
abbrev pub Credential : Type 0
Credential = Claim Record

abbrev pub Statement : Type 0
Statement = Claim (Unit {0})

abbrev pub body_of : Body Record → Body (Unit {0})
body_of (Member x w) = Member x tt
body_of (Delegation b) = Delegation b
body_of (Link b t) = Link b t
body_of (Intersection b c) = Intersection b c

-- what a credential states, its weight aside
abbrev pub statement_of : Credential → Statement
statement_of c = record { head = c.head; body = body_of c.body }

abbrev pub same_role : Role → Role → Bool
same_role a b = a.entity.0 == b.entity.0 && a.name.0 == b.name.0

abbrev pub same_body : Body (Unit {0}) → Body (Unit {0}) → Bool
same_body (Member x w) (Member y v) = x.0 == y.0
same_body (Member x w) (Delegation c) = false
same_body (Member x w) (Link c u) = false
same_body (Member x w) (Intersection c d) = false
same_body (Delegation b) (Member y v) = false
same_body (Delegation b) (Delegation c) = same_role b c
same_body (Delegation b) (Link c u) = false
same_body (Delegation b) (Intersection c d) = false
same_body (Link b t) (Member y v) = false
same_body (Link b t) (Delegation c) = false
same_body (Link b t) (Link c u) = same_role b c && t.0 == u.0
same_body (Link b t) (Intersection c d) = false
same_body (Intersection a b) (Member y v) = false
same_body (Intersection a b) (Delegation c) = false
same_body (Intersection a b) (Link c u) = false
same_body (Intersection a b) (Intersection c d) = same_role a c && same_role b d

-- whether a credential is this statement: head and body agree, in order, weights aside
abbrev pub says : Statement → Credential → Bool
says s c = same_role c.head s.head && same_body (body_of c.body) s.body
