-- When a way earned an entry its weight, and where reasons lead.
use Rattle.std.specs.Prelude.{◌≡◌, ℕ, ◌<◌, List}
use mathlib.Core.List.{Memᴰ}
use Rattle.credential.specs.Same.{Credential}
use Rattle.scale.specs.Scale.{Meaning}
use Rattle.rules.specs.declared.memberships.Membership.{Membership}
use Rattle.rules.specs.Ways.{Way, ways}
use Rattle.rules.specs.Tables.{weight_by, table, Settled}

module _ {S : Type 0} (M : Meaning S) (E : ℕ) (cs : List Credential) (n : ℕ) where
  -- the way w gave q the weight that it has after n rounds, in the round that first gave it: the one
  -- after `before`
  pub record Earned (q : Membership) (w : Way S) : Type 0 where
    pub listed : Memᴰ w (ways M E cs q)
    pub before : ℕ
    pub within : before < n
    pub gave : weight_by M (table M E cs before) w ≡ table M E cs n q
    pub not_yet : table M E cs before q ≡ table M E cs n q → ⊥

  -- from a membership settled, by the ways that are named, to one that it rests on
  pub data Leads (why : Membership → Way S) : Membership → Membership → Type 0 where
    to_premise : {q p : Membership} → Settled M E cs n q → Memᴰ p (why q).premises → Leads why q p
    onward : {q r p : Membership} → Leads why q r → Leads why r p → Leads why q p
