-- Clients without a link, by what is kept of them.
use Rattle.std.proofs.Common.{◌≡◌, false, refl}
use Rattle.client_turns.specs.declared.member.Member.{Member}
use Rattle.client_turns.specs.declared.member.Member.TheVariants.{Near, Far}
use Rattle.client_turns.specs.Members.{holds_link, is_linked}

pub free_near : (x : Member) → is_linked x ≡ false → holds_link x ≡ false
free_near (Near x) is = refl
free_near (Far x) is = absurd cc
