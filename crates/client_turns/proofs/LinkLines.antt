-- What any line of a client with a link leaves over a carrier to a hub, as its turn says.
use Rattle.std.proofs.Common.{◌≡◌, ℕ, Bool, false, List, Option, Some, ap, subst}
use Rattle.zb_ids.specs.declared.stamp.Stamp.{Stamp}
use Rattle.zb_model.specs.declared.data.Transaction.{Transaction}
use Rattle.zb_model.specs.Rules.{MergeRules}
use Rattle.zb_answers.specs.declared.answer.Answer.{Answer}
use Rattle.zb_script.specs.declared.line.Line.{Line}
use Rattle.zb_script.specs.declared.line.Line.TheVariants as line
use Rattle.zodb_core.specs.HubState.{HubState, rules_of}
use Rattle.hub_carrier.specs.declared.trouble.Trouble.{Trouble}
use Rattle.hub_carrier.specs.declared.trouble.Trouble.TheVariants as trouble
use Rattle.connection_view.specs.declared.connection.Connection.{Connection}
use Rattle.hub_carrier.specs.Ends.{StepsThere, end_at, machine_at}
use Rattle.hub_carrier.specs.Later.{IsLaterEnd}
use Rattle.hub_carrier.specs.LaterLaws.{later_is}
use Rattle.client_turns.specs.declared.linked.LinkedClient.{LinkedClient}
use Rattle.client_turns.specs.Lines.{outcome_of_answer}
use Rattle.client_turns.specs.Linked.{MayStand, TakesLinked}
use Rattle.client_turns.specs.Members.{far}
use Rattle.client_turns.specs.OverCarrier.{CalledOver, LineOver, called, uncalled}
use Rattle.client_turns.specs.Settling.{settled}
use Rattle.client_turns.specs.Standing.{LeavesHub}
use Rattle.client_turns.proofs.LinkEnds.{LinkEnd, link_end}
use Rattle.client_turns.proofs.LinkHub.{linked_hub}
use Rattle.client_turns.proofs.LinkLaws as laws
use Rattle.client_turns.proofs.LinkPuts.{put_law}
use Rattle.client_turns.proofs.LinkReading.{get_law, load_law}
use Rattle.client_turns.proofs.LinkVotes.{undo_law, vote_law}

-- a line over these ends is one over those
over_at : {R F : Type 0} (told lasts : Type 0) (stands : List ℕ → List Transaction → Type 0) (rules_in : R → MergeRules) (named_in : F → List ℕ → Option (List ℕ)) (a c b d : LinkEnd R F) (k x j y : Connection) → a ≡ c → b ≡ d → k ≡ x → j ≡ y → (l : Line) (raw : Answer)
    → LineOver told (λ n q r s u. StepsThere told lasts stands rules_in named_in n q r s u) (λ e. machine_at e.hub) l k a raw j b → LineOver told (λ n q r s u. StepsThere told lasts stands rules_in named_in n q r s u) (λ e. machine_at e.hub) l x c raw y d
over_at {R} {F} told lasts stands rules_in named_in a c b d k x j y begins ends from to l raw over =
    let Over : Connection → LinkEnd R F → Connection → LinkEnd R F → Type 0 = λ z s w u. LineOver told (λ n q r s u. StepsThere told lasts stands rules_in named_in n q r s u) (λ e. machine_at e.hub) l z s raw w u in
    subst (λ (s : LinkEnd R F). Over x s y d) begins (subst (λ (u : LinkEnd R F). Over x a y u) ends (subst (λ (z : Connection). Over z a y b) from (subst (λ (w : Connection). Over k a w b) to over)))

module _ {R F : Type 0} (told lasts : Type 0) (stands : List ℕ → List Transaction → Type 0) (rules_in : R → MergeRules) (named_in : F → List ℕ → Option (List ℕ)) (x y : LinkedClient) (h g : HubState R F) (before after : Option (List Stamp)) (packs : Bool) (t : Trouble) (name : y.name ≡ x.name) (number : y.session ≡ x.session) where
  abbrev Over : Line → Answer → Type 0
  Over l raw = CalledOver told (λ n q r s u. StepsThere told lasts stands rules_in named_in n q r s u) (λ e. machine_at e.hub) l x.connection (link_end (end_at h before false trouble.NoFault) x) raw y.connection (link_end (end_at g after packs t) y)

  abbrev Takes : Line → Answer → Type 0
  Takes l given = TakesLinked told (rules_of rules_in named_in h) l given h g x y before after

  called_takes : (l : Line) (raw given : Answer) → Over l raw → given ≡ settled raw t → Takes l given
  called_takes line.Begin raw given o is = laws.begin_law told lasts stands rules_in named_in x y h g before after packs t name number raw given o is
  called_takes (line.Load oid) raw given o is = load_law told lasts stands rules_in named_in x y h g before after packs t name number oid raw given o is
  called_takes (line.Get oid) raw given o is = get_law told lasts stands rules_in named_in x y h g before after packs t name number oid raw given o is
  called_takes (line.Store oid base bytes) raw given o is = laws.store_law told lasts stands rules_in named_in x y h g before after packs t name number oid base bytes raw given o is
  called_takes (line.Put oid bytes) raw given o is = put_law told lasts stands rules_in named_in x y h g before after packs t name number oid bytes raw given o is
  called_takes (line.Check oid serial) raw given o is = laws.check_law told lasts stands rules_in named_in x y h g before after packs t name number oid serial raw given o is
  called_takes (line.Delete oid base) raw given o is = laws.delete_law told lasts stands rules_in named_in x y h g before after packs t name number oid base raw given o is
  called_takes line.Savepoint raw given o is = laws.savepoint_law told lasts stands rules_in named_in x y h g before after packs t name number raw given o is
  called_takes (line.Rollback n) raw given o is = laws.rollback_law told lasts stands rules_in named_in x y h g before after packs t name number n raw given o is
  called_takes (line.Vote user description) raw given o is = vote_law told lasts stands rules_in named_in x y h g before after packs t name number user description raw given o is
  called_takes (line.Undo user description tids) raw given o is = undo_law told lasts stands rules_in named_in x y h g before after packs t name number user description tids raw given o is
  called_takes line.Finish raw given o is = laws.finish_law told lasts stands rules_in named_in x y h g before after packs t name number raw given o is
  called_takes line.Abort raw given o is = laws.abort_law told lasts stands rules_in named_in x y h g before after packs t name number raw given o is
  called_takes line.Deliver raw given o is = laws.deliver_law told lasts stands rules_in named_in x y h g before after packs t name number raw given o is
  called_takes _ raw given o is = absurd o

  pub linked_takes : (l : Line) (raw given : Answer) → LineOver told (λ n q r s u. StepsThere told lasts stands rules_in named_in n q r s u) (λ e. machine_at e.hub) l x.connection (link_end (end_at h before false trouble.NoFault) x) raw y.connection (link_end (end_at g after packs t) y)
      → given ≡ settled raw t → Takes l given
  linked_takes l raw given (uncalled starved same kept) is = laws.uncalled_law told lasts stands rules_in named_in x y h g before after packs t name number l raw given starved kept is
  linked_takes l raw given (called o) is = called_takes l raw given o is

-- ---- for a caller, who knows the parts

pub linked_takes_at : {R F : Type 0} (told lasts : Type 0) (stands : List ℕ → List Transaction → Type 0) (rules_in : R → MergeRules) (named_in : F → List ℕ → Option (List ℕ)) (x y : LinkedClient) (h g : HubState R F) (before after : Option (List Stamp)) (packs : Bool) (t : Trouble) (a b : LinkEnd R F) (k j : Connection)
    → a ≡ link_end (end_at h before false trouble.NoFault) x → b ≡ link_end (end_at g after packs t) y → k ≡ x.connection → j ≡ y.connection → y.name ≡ x.name → y.session ≡ x.session
    → (l : Line) (raw given : Answer) → LineOver told (λ n q r s u. StepsThere told lasts stands rules_in named_in n q r s u) (λ e. machine_at e.hub) l k a raw j b → given ≡ settled raw t → TakesLinked told (rules_of rules_in named_in h) l given h g x y before after
linked_takes_at {R} {F} told lasts stands rules_in named_in x y h g before after packs t a b k j begins ends from to name number l raw given over is =
    linked_takes told lasts stands rules_in named_in x y h g before after packs t name number l raw given (over_at told lasts stands rules_in named_in a (link_end (end_at h before false trouble.NoFault) x) b (link_end (end_at g after packs t) y) k x.connection j y.connection begins ends from to l raw over) is

pub linked_hub_at : {R F : Type 0} (told lasts : Type 0) (stands : List ℕ → List Transaction → Type 0) (rules_in : R → MergeRules) (named_in : F → List ℕ → Option (List ℕ)) (x y : LinkedClient) (h g : HubState R F) (before after : Option (List Stamp)) (packs : Bool) (t : Trouble) (a b : LinkEnd R F) (k j : Connection)
    → a ≡ link_end (end_at h before false trouble.NoFault) x → b ≡ link_end (end_at g after packs t) y → k ≡ x.connection → j ≡ y.connection
    → (l : Line) (raw given : Answer) → LineOver told (λ n q r s u. StepsThere told lasts stands rules_in named_in n q r s u) (λ e. machine_at e.hub) l k a raw j b → given ≡ settled raw t → IsLaterEnd lasts a.there b.there
    → LeavesHub (told × MayStand h x) lasts stands (rules_of rules_in named_in h) (Some (far x)) l (outcome_of_answer given) h g
linked_hub_at {R} {F} told lasts stands rules_in named_in x y h g before after packs t a b k j begins ends from to l raw given over is later =
    linked_hub told lasts stands rules_in named_in x y h g before after packs t l raw given (over_at told lasts stands rules_in named_in a (link_end (end_at h before false trouble.NoFault) x) b (link_end (end_at g after packs t) y) k x.connection j y.connection begins ends from to l raw over) is
    (later_is lasts a.there b.there (end_at h before false trouble.NoFault) (end_at g after packs t) (ap (λ (z : LinkEnd R F). z.there) begins) (ap (λ (z : LinkEnd R F). z.there) ends) later)
