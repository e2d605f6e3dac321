-- A register's names alone: for the inner functions of write.
use Rattle.std.specs.Prelude.{[]}
use Rattle.book.specs.declared.store.Register.{Register}
use Rattle.book.specs.Plain.{Plain}
use Rattle.book.specs.Kept.{entities, role_names}

-- how a credential is named does not depend on the credentials in force
abbrev pub names_only : Register → Plain
names_only g = record { entities = entities g; role_names = role_names g; credentials = [] }
