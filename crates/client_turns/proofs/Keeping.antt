-- What steps of one session keep of the clients of all others.
use Rattle.std.proofs.Common.{◌≡◌, ℕ, zero, suc, ◌+◌, ◌<◌, ◌≤◌, Bool, true, false, not, List, [], ◌∷◌, ◌++◌, Option, Some, refl, sym, ap, subst, ◌∙◌, arith}
use Rattle.std.specs.Prelude.{◌≢◌, slice_get, slice_set}
use Rattle.std.proofs.lemmas.Bool.{true≢false}
use Rattle.zodb_core.specs.HubState.{HubState}
use Rattle.connection_view.specs.Views.{View}
use Rattle.connection_view.specs.Views as views
use Rattle.hub_carrier.specs.Ends.{machine_at}
use Rattle.local_loads.specs.Local.{MayBeTold}
use Rattle.remote_loads.specs.Standing.{Stands}
use Rattle.zeo_client.specs.Taking.{ClientState}
use Rattle.zeo_desk.specs.Desks.{DeskState}
use Rattle.local_loads.specs.declared.told.Told.{Told}
use Rattle.client_turns.specs.declared.member.Member.{Member}
use Rattle.client_turns.specs.declared.member.Member.TheVariants.{Near, Far}
use Rattle.client_turns.specs.declared.linked.LinkedClient.{LinkedClient}
use Rattle.client_turns.specs.Clients as clients
use Rattle.client_turns.specs.Members.{IsClientOf, IsFarOf, IsMemberOf, holds_link, session_of, without_link}
use Rattle.client_turns.specs.Others.{KeepsOthers}
use Rattle.client_turns.specs.Standing.{AreClientsOf, RiseBelow}
use Rattle.client_turns.proofs.Placing.{IsClientAt, client_at, member_session}

-- what is kept of local clients, and of those with a link to another session
pub record IsKept {R F : Type 0} (n : ℕ) (old new : HubState R F) : Type 0 where
  pub near : (last : Option Told) (told known : View) → MayBeTold last old told known → MayBeTold last new told known
  pub far : (k : ℕ) → k ≢ n → (d : DeskState) (x : ClientState) (told : views.Client) → Stands (machine_at old) k d x told → Stands (machine_at new) k d x told

pub others_kept : {R F : Type 0} (n : ℕ) (old new : HubState R F) → KeepsOthers n old new → IsKept n old new
others_kept n old new keeps = record { near = keeps.near; far = keeps.far }

-- ---- one client

module _ {R F : Type 0} (n : ℕ) (old new : HubState R F) (keeps : IsKept n old new) where
  near_kept : (x : _) (c : clients.Client) → IsClientOf old x c → IsClientOf new x c
  near_kept x c is = record { name = is.name; session = is.session; local = is.local; told = is.told; may = keeps.near x.told is.told.told is.told.known is.may; transaction = is.transaction }

  far_kept : (b : Bool) (x : LinkedClient) (c : clients.Client) → (x.session ≡ n → b ≡ true) → IsFarOf old b x c → IsFarOf new b x c
  far_kept true x c free is = is
  far_kept false x c free is = record {
    name = is.name;
    session = is.session;
    told = is.told;
    linked = is.linked;
    stands = keeps.far x.session (λ same. true≢false (sym (free same))) x.desk x.client is.told is.stands;
    transaction = is.transaction;
  }

  -- a client that has no link to this session
  pub member_kept : (x : Member) (c : clients.Client) → (session_of x ≡ n → holds_link x ≡ false) → IsMemberOf old x c → IsMemberOf new x c
  member_kept (Near x) c free is = near_kept x c is
  member_kept (Far x) c free is = far_kept x.is_lost x.client c (λ same. lost x.is_lost (free same)) is
    where
      lost : (b : Bool) → not b ≡ false → b ≡ true
      lost true is = refl
      lost false is = absurd cc

  -- ---- all clients

  -- whose sessions are later
  pub above_kept : (low count : ℕ) (xs : List Member) (cs : List clients.Client) → n < low → RiseBelow low count cs → AreClientsOf old xs cs → AreClientsOf new xs cs
  above_kept low count [] [] up rise are = tt
  above_kept low count [] (c ∷ cs) up rise are = absurd are
  above_kept low count (x ∷ xs) [] up rise are = absurd are
  above_kept low count (x ∷ xs) (c ∷ cs) up rise are =
      let from = rise.0 in
      let number : c.session ≡ session_of x = member_session old x c are.0 in (
        member_kept x c (λ same. absurd (omega (arith, up, from, number, same))) are.0,
        above_kept (c.session + 1) count xs cs (omega (arith, up, from)) rise.2 are.1,
      )

  -- of which none has this session
  pub none_kept : (low count : ℕ) (xs : List Member) (cs : List clients.Client) → count ≤ n → RiseBelow low count cs → AreClientsOf old xs cs → AreClientsOf new xs cs
  none_kept low count [] [] up rise are = tt
  none_kept low count [] (c ∷ cs) up rise are = absurd are
  none_kept low count (x ∷ xs) [] up rise are = absurd are
  none_kept low count (x ∷ xs) (c ∷ cs) up rise are =
      let below = rise.1 in
      let number : c.session ≡ session_of x = member_session old x c are.0 in
      (member_kept x c (λ same. absurd (omega (arith, up, below, number, same))) are.0, none_kept (c.session + 1) count xs cs up rise.2 are.1)

  rise_at : (low count : ℕ) (cs : List clients.Client) (at : ℕ) (c : clients.Client) → RiseBelow low count cs → slice_get cs at ≡ Some c → low ≤ c.session
  rise_at low count [] at c rise there = absurd cc
  rise_at low count (d ∷ cs) zero c rise there = subst (λ (z : clients.Client). low ≤ z.session) (same d c there) rise.0
    where
      same : (a b : clients.Client) → Some a ≡ Some b → a ≡ b
      same a b e = cc
  rise_at low count (d ∷ cs) (suc at) c rise there =
      let from = rise.0 in
      let later = rise_at (d.session + 1) count cs at c rise.2 there in
      omega (arith, from, later)

  -- of which the one at a place has this session, and no link that is known
  pub all_kept : (low count : ℕ) (xs : List Member) (cs : List clients.Client) (at : ℕ) (x : Member) → RiseBelow low count cs → AreClientsOf old xs cs → slice_get xs at ≡ Some x → session_of x ≡ n → holds_link x ≡ false → AreClientsOf new xs cs
  all_kept low count [] [] at x rise are there number free = tt
  all_kept low count [] (c ∷ cs) at x rise are there number free = absurd are
  all_kept low count (y ∷ xs) [] at x rise are there number free = absurd are
  all_kept low count (y ∷ xs) (c ∷ cs) zero x rise are there number free =
      let same : y ≡ x = same_kept y x there in
      let session : c.session ≡ session_of y = member_session old y c are.0 in
      let is : session_of y ≡ n = ap session_of same ∙ number in (
        member_kept y c (λ e. ap holds_link same ∙ free) are.0,
        above_kept (c.session + 1) count xs cs (omega (arith, session, is)) rise.2 are.1,
      )
    where
      same_kept : (a b : Member) → Some a ≡ Some b → a ≡ b
      same_kept a b e = cc
  all_kept low count (y ∷ xs) (c ∷ cs) (suc at) x rise are there number free =
      let d : IsClientAt old cs at x = client_at old xs cs at x are.1 there in
      let later = rise_at (c.session + 1) count cs at d.client rise.2 d.there in
      let session : c.session ≡ session_of y = member_session old y c are.0 in
      let its : d.client.session ≡ session_of x = member_session old x d.client d.is in (
        member_kept y c (λ e. absurd (omega (arith, later, session, its, number, e))) are.0,
        all_kept (c.session + 1) count xs cs at x rise.2 are.1 there number free,
      )

  -- and of which the one at a place, of this session, is another
  pub set_kept : (low count : ℕ) (xs : List Member) (cs : List clients.Client) (at : ℕ) (c d : clients.Client) (y : Member) → RiseBelow low count cs → AreClientsOf old xs cs → slice_get cs at ≡ Some c → c.session ≡ n → IsMemberOf new y d
      → AreClientsOf new (slice_set xs at y) (slice_set cs at d)
  set_kept low count [] [] at c d y rise are there number is = tt
  set_kept low count [] (e ∷ cs) at c d y rise are there number is = absurd are
  set_kept low count (x ∷ xs) [] at c d y rise are there number is = absurd are
  set_kept low count (x ∷ xs) (e ∷ cs) zero c d y rise are there number is =
      let same : e.session ≡ n = ap (λ (z : clients.Client). z.session) (same_client e c there) ∙ number in
      (is, above_kept (e.session + 1) count xs cs (omega (arith, same)) rise.2 are.1)
    where
      same_client : (a b : clients.Client) → Some a ≡ Some b → a ≡ b
      same_client a b e = cc
  set_kept low count (x ∷ xs) (e ∷ cs) (suc at) c d y rise are there number is =
      let later = rise_at (e.session + 1) count cs at c rise.2 there in
      let session : e.session ≡ session_of x = member_session old x e are.0 in (
        member_kept x e (λ same. absurd (omega (arith, later, session, number, same))) are.0,
        set_kept (e.session + 1) count xs cs at c d y rise.2 are.1 there number is,
      )

-- ---- a client whose link isn't known any more

known_of : {R F : Type 0} (h : HubState R F) (b : Bool) (x : LinkedClient) (c : clients.Client) → IsFarOf h b x c → IsFarOf h true x c
known_of h true x c is = is
known_of h false x c is = (is.name, is.session, (is.told.known, is.linked))

pub member_lost : {R F : Type 0} (h : HubState R F) (x : Member) (c : clients.Client) → IsMemberOf h x c → IsMemberOf h (without_link x) c
member_lost h (Near x) c is = is
member_lost h (Far x) c is = known_of h x.is_lost x.client c is

pub lost_holds : (x : Member) → holds_link (without_link x) ≡ false
lost_holds (Near x) = refl
lost_holds (Far x) = refl

-- ---- sessions

-- a client with the same session in the place of another
pub rise_set : (low count : ℕ) (cs : List clients.Client) (at : ℕ) (c d : clients.Client) → slice_get cs at ≡ Some c → d.session ≡ c.session → RiseBelow low count cs → RiseBelow low count (slice_set cs at d)
rise_set low count [] at c d there same rise = absurd cc
rise_set low count (e ∷ cs) zero c d there same rise =
    let is : d.session ≡ e.session = same ∙ ap (λ (z : clients.Client). z.session) (sym (same_client e c there)) in
    let from = rise.0 in
    let below = rise.1 in
    (omega (arith, from, is), omega (arith, below, is), subst (λ (k : ℕ). RiseBelow (k + 1) count cs) (sym is) rise.2)
  where
    same_client : (a b : clients.Client) → Some a ≡ Some b → a ≡ b
    same_client a b e = cc
rise_set low count (e ∷ cs) (suc at) c d there same rise = (rise.0, rise.1, rise_set (e.session + 1) count cs at c d there same rise.2)

-- one more, with the next number
pub rise_more : (low count : ℕ) (cs : List clients.Client) (d : clients.Client) → low ≤ count → d.session ≡ count → RiseBelow low count cs → RiseBelow low (count + 1) (cs ++ d ∷ [])
rise_more low count [] d up number rise = (omega (arith, up, number), omega (arith, number), tt)
rise_more low count (c ∷ cs) d up number rise =
    let below = rise.1 in
    (rise.0, omega (arith, below), rise_more (c.session + 1) count cs d (omega (arith, below)) number rise.2)
