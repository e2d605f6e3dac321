-- How many role names a register has room for.
use Rattle.std.proofs.Common.{◌≤◌, length, arith}
use Rattle.book.specs.declared.store.Register.{Register}
use Rattle.book.specs.Kept.{role_names}

pub few_role_names : (g : Register) → length (role_names g) ≤ 32
few_role_names g = omega (arith, g.role_names.room.1, g.role_names.names.ok.0)
