-- Clients by their places.
use Rattle.std.proofs.Common.{◌≡◌, Bool, true, false, ℕ, zero, suc, ◌<◌, ◌+◌, not, cond, get_or, nat_lt, if◌then◌else◌, List, [], ◌∷◌, ◌++◌, length, Some, None, refl, sym, ap, subst, ◌∙◌, arith}
use Rattle.std.specs.Prelude.{bytes_eq, slice_get, slice_set}
use Rattle.std.specs.List.{position, prefix_len}
use Rattle.zodb_core.specs.HubState.{HubState}
use Rattle.client_turns.specs.declared.member.Member.{Member}
use Rattle.client_turns.specs.declared.member.Member.TheVariants.{Near, Far}
use Rattle.client_turns.specs.Clients.{place_of_client}
use Rattle.client_turns.specs.Clients as clients
use Rattle.client_turns.specs.Members.{IsClientOf, IsFarOf, IsMemberOf, is_linked, name_of, session_of}
use Rattle.client_turns.specs.declared.client.Client.{Client}
use Rattle.client_turns.specs.declared.linked.LinkedClient.{LinkedClient}
use Rattle.connection_view.specs.Views.{View}
use Rattle.client_turns.specs.Standing.{AreClientsOf}

-- its name and its session are those that are kept
pub member_name : {R F : Type 0} (h : HubState R F) (x : Member) (c : clients.Client) → IsMemberOf h x c → c.name ≡ name_of x
member_name h (Near x) c is = is.name
member_name h (Far x) c is = by_lost x.is_lost is
  where
    by_lost : (b : Bool) → IsFarOf h b x.client c → c.name ≡ x.client.name
    by_lost false is = is.name
    by_lost true is = is.0

pub member_session : {R F : Type 0} (h : HubState R F) (x : Member) (c : clients.Client) → IsMemberOf h x c → c.session ≡ session_of x
member_session h (Near x) c is = is.session
member_session h (Far x) c is = by_lost x.is_lost is
  where
    by_lost : (b : Bool) → IsFarOf h b x.client c → c.session ≡ x.client.session
    by_lost false is = is.session
    by_lost true is = is.1

-- the client at a place, as it is kept
pub record IsKeptAt {R F : Type 0} (h : HubState R F) (xs : List Member) (at : ℕ) (c : clients.Client) : Type 0 where
  pub kept : Member
  pub there : slice_get xs at ≡ Some kept
  pub is : IsMemberOf h kept c

pub kept_at : {R F : Type 0} (h : HubState R F) (xs : List Member) (cs : List clients.Client) (at : ℕ) (c : clients.Client) → AreClientsOf h xs cs → slice_get cs at ≡ Some c → IsKeptAt h xs at c
kept_at h [] [] at c are there = absurd cc
kept_at h [] (d ∷ cs) at c are there = absurd are
kept_at h (x ∷ xs) [] at c are there = absurd are
kept_at h (x ∷ xs) (d ∷ cs) zero c are there = record { kept = x; there = refl; is = subst (IsMemberOf h x) (same_client d c there) are.0 }
  where
    same_client : (a b : clients.Client) → Some a ≡ Some b → a ≡ b
    same_client a b e = cc
kept_at h (x ∷ xs) (d ∷ cs) (suc at) c are there =
    let k : IsKeptAt h xs at c = kept_at h xs cs at c are.1 there in
    record { kept = k.kept; there = k.there; is = k.is }

-- a client in the place of another
pub set_at : {R F : Type 0} (h : HubState R F) (xs : List Member) (cs : List clients.Client) (at : ℕ) (x : Member) (c : clients.Client) → AreClientsOf h xs cs → IsMemberOf h x c → AreClientsOf h (slice_set xs at x) (slice_set cs at c)
set_at h [] [] at x c are is = tt
set_at h [] (d ∷ cs) at x c are is = absurd are
set_at h (y ∷ xs) [] at x c are is = absurd are
set_at h (y ∷ xs) (d ∷ cs) zero x c are is = (is, are.1)
set_at h (y ∷ xs) (d ∷ cs) (suc at) x c are is = (are.0, set_at h xs cs at x c are.1 is)

-- as many are kept as there are
pub same_length : {R F : Type 0} (h : HubState R F) (xs : List Member) (cs : List clients.Client) → AreClientsOf h xs cs → length xs ≡ length cs
same_length h [] [] are = refl
same_length h [] (d ∷ cs) are = absurd are
same_length h (x ∷ xs) [] are = absurd are
same_length h (x ∷ xs) (d ∷ cs) are = ap suc (same_length h xs cs are.1)

-- a client behind the others
pub push_at : {R F : Type 0} (h : HubState R F) (xs : List Member) (cs : List clients.Client) (x : Member) (c : clients.Client) → AreClientsOf h xs cs → IsMemberOf h x c → AreClientsOf h (xs ++ x ∷ []) (cs ++ c ∷ [])
push_at h [] [] x c are is = (is, tt)
push_at h [] (d ∷ cs) x c are is = absurd are
push_at h (y ∷ xs) [] x c are is = absurd are
push_at h (y ∷ xs) (d ∷ cs) x c are is = (are.0, push_at h xs cs x c are.1 is)

-- the client that is kept at a place, as it is in the moment
pub record IsClientAt {R F : Type 0} (h : HubState R F) (cs : List clients.Client) (at : ℕ) (x : Member) : Type 0 where
  pub client : clients.Client
  pub there : slice_get cs at ≡ Some client
  pub is : IsMemberOf h x client

pub client_at : {R F : Type 0} (h : HubState R F) (xs : List Member) (cs : List clients.Client) (at : ℕ) (x : Member) → AreClientsOf h xs cs → slice_get xs at ≡ Some x → IsClientAt h cs at x
client_at h [] [] at x are there = absurd cc
client_at h [] (d ∷ cs) at x are there = absurd are
client_at h (y ∷ xs) [] at x are there = absurd are
client_at h (y ∷ xs) (d ∷ cs) zero x are there = record { client = d; there = refl; is = subst (λ (z : Member). IsMemberOf h z d) (same_kept y x there) are.0 }
  where
    same_kept : (a b : Member) → Some a ≡ Some b → a ≡ b
    same_kept a b e = cc
client_at h (y ∷ xs) (d ∷ cs) (suc at) x are there =
    let k : IsClientAt h cs at x = client_at h xs cs at x are.1 there in
    record { client = k.client; there = k.there; is = k.is }

passed : {R F : Type 0} (h : HubState R F) (xs : List Member) (cs : List clients.Client) (name : List ℕ) → AreClientsOf h xs cs
    → prefix_len (λ (x : Member). not (bytes_eq (name_of x) name)) xs ≡ prefix_len (λ (c : clients.Client). not (bytes_eq c.name name)) cs
passed h [] [] name are = refl
passed h [] (d ∷ cs) name are = absurd are
passed h (x ∷ xs) [] name are = absurd are
passed h (x ∷ xs) (d ∷ cs) name are =
    ap (λ (n : List ℕ). cond (not (bytes_eq n name)) (1 + prefix_len (λ (y : Member). not (bytes_eq (name_of y) name)) xs) 0) (sym (member_name h x d are.0))
    ∙ ap (λ (k : ℕ). cond (not (bytes_eq d.name name)) (1 + k) 0) (passed h xs cs name are.1)

-- the first client of a name stands at one place
pub same_place : {R F : Type 0} (h : HubState R F) (xs : List Member) (cs : List clients.Client) (name : List ℕ) → AreClientsOf h xs cs → position (λ (x : Member). bytes_eq (name_of x) name) xs ≡ place_of_client name cs
same_place h xs cs name are =
    ap (λ (k : ℕ). if nat_lt k (length xs) then Some k else None) (passed h xs cs name are)
    ∙ ap (λ (n : ℕ). if nat_lt (prefix_len (λ (c : clients.Client). not (bytes_eq c.name name)) cs) n then Some (prefix_len (λ (c : clients.Client). not (bytes_eq c.name name)) cs) else None) (same_length h xs cs are)

-- where there is one, at a place, there is a client
pub there_at : (xs : List Member) (at : ℕ) → at < length xs → (x : Member) × (slice_get xs at ≡ Some x)
there_at [] at within = absurd (omega arith)
there_at (x ∷ xs) zero within = (x, refl)
there_at (x ∷ xs) (suc at) within = there_at xs at (omega (arith, within))

-- the client that stands at a place is the one that is read there
pub same_at : (xs : List Member) (at : ℕ) (x y : Member) → slice_get xs at ≡ Some x → y ≡ get_or xs at y → y ≡ x
same_at [] at x y there read = absurd cc
same_at (z ∷ xs) zero x y there read = read ∙ same z x there
  where
    same : (a b : Member) → Some a ≡ Some b → a ≡ b
    same a b e = cc
same_at (z ∷ xs) (suc at) x y there read = same_at xs at x y there read

-- and so it is the one there
pub some_at : (xs : List Member) (at : ℕ) (y : Member) → at < length xs → y ≡ get_or xs at y → Some y ≡ slice_get xs at
some_at xs at y within read =
    let x : (z : Member) × (slice_get xs at ≡ Some z) = there_at xs at within in
    ap (λ (z : Member). Some z) (same_at xs at x.0 y x.1 read) ∙ sym x.1

-- a local client at a place, as it is kept
pub record IsNearAt {R F : Type 0} (h : HubState R F) (xs : List Member) (at : ℕ) (c : clients.Client) : Type 0 where
  pub kept : Client
  pub there : slice_get xs at ≡ Some (Near kept)
  pub is : IsClientOf h kept c

pub near_at : {R F : Type 0} (h : HubState R F) (xs : List Member) (cs : List clients.Client) (at : ℕ) (c : clients.Client) → AreClientsOf h xs cs → slice_get cs at ≡ Some c → c.standing ≡ clients.Local → IsNearAt h xs at c
near_at {R} {F} h xs cs at c are there local = by_kept k.kept k.there k.is
  where
    k : IsKeptAt h xs at c
    k = kept_at h xs cs at c are there

    never : (v : View) → c.standing ≡ clients.Linked v → ⊥
    never v linked = other (sym local ∙ linked)
      where
        other : clients.Local ≡ clients.Linked v → ⊥
        other e = absurd cc

    by_lost : (b : Bool) (x : LinkedClient) → IsFarOf h b x c → ⊥
    by_lost false x is = never is.told.known is.linked
    by_lost true x is = never is.2.0 is.2.1

    by_kept : (x : Member) → slice_get xs at ≡ Some x → IsMemberOf h x c → IsNearAt h xs at c
    by_kept (Near x) there is = record { kept = x; there = there; is = is }
    by_kept (Far x) there is = absurd (by_lost x.is_lost x.client is)

-- so it has no link
pub near_there : {R F : Type 0} (h : HubState R F) (xs : List Member) (cs : List clients.Client) (at : ℕ) (c : clients.Client) (x : Member) → AreClientsOf h xs cs → slice_get cs at ≡ Some c → c.standing ≡ clients.Local → slice_get xs at ≡ Some x → is_linked x ≡ false
near_there h xs cs at c x are there local is =
    let k : IsNearAt h xs at c = near_at h xs cs at c are there local in
    ap is_linked (same x (Near k.kept) (sym is ∙ k.there))
  where
    same : (a b : Member) → Some a ≡ Some b → a ≡ b
    same a b e = cc
