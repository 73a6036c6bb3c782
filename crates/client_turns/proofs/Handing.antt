-- What a line of a client does to the hub, by what may be at its link.
use Rattle.std.proofs.Common.{◌≡◌, ◌<◌, ℕ, Bool, false, List, length, Option, Some, sym, subst}
use Rattle.std.specs.Prelude.{slice_get}
use Rattle.zb_ids.specs.declared.stamp.Stamp.{Stamp}
use Rattle.zb_model.specs.declared.data.Transaction.{Transaction}
use Rattle.zb_script.specs.declared.line.Line.{Line}
use Rattle.zodb_core.specs.HubState.{HubState}
use Rattle.zodb_core.specs.Machine.{Machine, Rules}
use Rattle.zodb_core.specs.Outcomes.{NoMemory, StepOutcome}
use Rattle.client_turns.specs.declared.member.FarClient.{FarClient}
use Rattle.client_turns.specs.declared.member.Member.{Member}
use Rattle.client_turns.specs.declared.member.Member.TheVariants.{Far}
use Rattle.client_turns.specs.Linked.{MayStand}
use Rattle.client_turns.specs.Members.{far}
use Rattle.client_turns.specs.Standing.{ClientsState, KeepsHub, LeavesHub, MayBeThere, MayStandFor}
use Rattle.client_turns.proofs.Framed.{starved_leaves}
use Rattle.client_turns.proofs.Placing.{IsClientAt, client_at, there_at}

-- what holds where less is told holds where more is
pub keeps_told : {R F : Type 0} (told more lasts : Type 0) (stands : List ℕ → List Transaction → Type 0) (packs : Bool) (may : Machine → List ℕ → Type 0) (o : StepOutcome) (old new : HubState R F) → (more → told) → KeepsHub told lasts stands packs may o old new
    → KeepsHub more lasts stands packs may o old new
keeps_told told more lasts stands packs may o old new less keeps = record {
  resolver = keeps.resolver;
  refs = keeps.refs;
  later = keeps.later;
  cause = keeps.cause;
  broken = keeps.broken;
  side = keeps.side;
  moments = λ on tells whole m is leaves. keeps.moments on (less tells) whole m is leaves;
}

abbrev pub HubLeft : {R F : Type 0} → Type 0 → Type 0 → (List ℕ → List Transaction → Type 0) → Rules → Member → Line → StepOutcome → HubState R F → HubState R F → Type 0
HubLeft told lasts stands rules x l o old new = LeavesHub (told × MayBeThere old x) lasts stands rules (Some x) l o old new

-- a local client's line needs nothing at a link
pub near_left : {R F : Type 0} (told lasts : Type 0) (stands : List ℕ → List Transaction → Type 0) (rules : Rules) (x : Member) (l : Line) (o : StepOutcome) (old new : HubState R F) → LeavesHub told lasts stands rules (Some x) l o old new → HubLeft told lasts stands rules x l o old new
near_left told lasts stands rules x l o old new leaves = keeps_told told (told × MayBeThere old x) lasts stands _ _ o old new (λ both. both.0) leaves

-- that of one with a link needs that some client may be there
pub far_left : {R F : Type 0} (told lasts : Type 0) (stands : List ℕ → List Transaction → Type 0) (rules : Rules) (x : FarClient) (l : Line) (o : StepOutcome) (old new : HubState R F) → x.is_lost ≡ false → LeavesHub (told × MayStand old x.client) lasts stands rules (Some (far x.client)) l o old new
    → HubLeft told lasts stands rules (Far x) l o old new
far_left {R} {F} told lasts stands rules x l o old new held leaves =
    subst (λ (b : Bool). HubLeft told lasts stands rules (Far (record { client = x.client; is_lost = b })) l o old new) (sym held)
    (keeps_told (told × MayStand old x.client) (told × MayBeThere old (far x.client)) lasts stands _ _ o old new (λ both. (both.0, (both.1.1.told, both.1.1.stands))) leaves)

pub lost_left : {R F : Type 0} (told lasts : Type 0) (stands : List ℕ → List Transaction → Type 0) (rules : Rules) (x : Member) (l : Line) (h : HubState R F) → HubLeft told lasts stands rules x l NoMemory h h
lost_left told lasts stands rules x l h = near_left told lasts stands rules x l NoMemory h h (starved_leaves told lasts stands rules (Some x) l h)

-- of the client at a place, where the clients stand for some moment
pub asked_hub : {R F : Type 0} (told lasts : Type 0) (stands : List ℕ → List Transaction → Type 0) (rules : Rules) (l : Line) (o : StepOutcome) (old : ClientsState R F) (left : Option (List Stamp)) (new : HubState R F) (at : ℕ) → at < length old.clients
    → ((x : Member) → slice_get old.clients at ≡ Some x → HubLeft told lasts stands rules x l o old.hub new) → LeavesHub (told × MayStandFor old left) lasts stands rules (slice_get old.clients at) l o old.hub new
asked_hub told lasts stands rules l o old left new at within leaves =
    let x : (y : Member) × (slice_get old.clients at ≡ Some y) = there_at old.clients at within in
    subst (λ (y : Option Member). LeavesHub (told × MayStandFor old left) lasts stands rules y l o old.hub new) (sym x.1)
    (keeps_told (told × MayBeThere old.hub x.0) (told × MayStandFor old left) lasts stands _ _ o old.hub new
    (λ both. let c : IsClientAt old.hub both.1.0.clients at x.0 = client_at old.hub old.clients both.1.0.clients at x.0 both.1.1.clients x.1 in (both.0, (c.client, c.is))) (leaves x.0 x.1))

-- and so whatever needs less
pub stands_hub : {R F : Type 0} (told lasts : Type 0) (stands : List ℕ → List Transaction → Type 0) (rules : Rules) (x : Option Member) (l : Line) (o : StepOutcome) (old : ClientsState R F) (left : Option (List Stamp)) (new : HubState R F) → LeavesHub told lasts stands rules x l o old.hub new
    → LeavesHub (told × MayStandFor old left) lasts stands rules x l o old.hub new
stands_hub told lasts stands rules x l o old left new leaves = keeps_told told (told × MayStandFor old left) lasts stands _ _ o old.hub new (λ both. both.0) leaves
