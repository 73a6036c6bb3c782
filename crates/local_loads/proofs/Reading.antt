-- What a load of the hub says of a view.
use Rattle.std.proofs.Common.{◌≡◌, ℕ, ◌≤◌, Bool, true, false, not, List, Option, Some, None, refl, sym, ap, ◌∙◌}
use Rattle.std.specs.Option.{option_and_then, option_or}
use Rattle.zb_ids.specs.declared.stamp.Stamp.{Stamp}
use Rattle.zb_model.specs.declared.data.Content.{Content}
use Rattle.zb_model.specs.declared.data.Content.TheVariants.{Held, Absent}
use Rattle.zb_model.specs.declared.data.Transaction.{Transaction}
use Rattle.zb_model.specs.declared.refusal.Refusal.TheVariants as refusal
use Rattle.zb_model.specs.Database.{ObjectRevision, revision_below}
use Rattle.zb_model.specs.Queries.{end_of, found_as, found_below, found_of}
use Rattle.zb_model.specs.Rules.{MergeRules}
use Rattle.zodb_core.specs.declared.reply.Reply.TheVariants as reply
use Rattle.zodb_core.specs.declared.request.Request.TheVariants as request
use Rattle.zodb_core.specs.HubState.{HubState}
use Rattle.zodb_core.specs.Machine.{Machine, is_open_in, switches_of}
use Rattle.zodb_core.specs.Steps.{Stepped, loaded, refuse_if, replied, unless_early}
use Rattle.connection_view.specs.Loading.{IsLoaded}
use Rattle.connection_view.specs.declared.loads.Loaded.TheVariants as answer
use Rattle.connection_view.specs.Views.{Server, View, read_as, read_below, read_from}
use Rattle.local_loads.specs.declared.told.Told.{Told}
use Rattle.local_loads.specs.Local.{MayBeTold, server_of}
use Rattle.local_loads.specs.LocalLaws.{machine_of, server_whole, stands_for}
use Rattle.local_loads.specs.Making.{IsHubStep}

-- ---- a load of a machine

-- a reply with a record
held_content : (m : Machine) (oid serial : ℕ) (bytes : List ℕ) (end : Option ℕ) (upto : ℕ) (s : ℕ) (c : Content) (e : Option ℕ)
    → reply.Loaded serial bytes end upto ≡ loaded m oid (found_as c s e) → read_as s c ≡ Some (serial, bytes)
held_content m oid serial bytes end upto s (Held b) e is = cc
held_content m oid serial bytes end upto s Absent e is = absurd cc

held_found : (m : Machine) (oid serial : ℕ) (bytes : List ℕ) (end : Option ℕ) (upto : ℕ) (r : Option ObjectRevision) (e : Option ℕ)
    → reply.Loaded serial bytes end upto ≡ loaded m oid (found_of r e) → option_and_then read_from r ≡ Some (serial, bytes)
held_found m oid serial bytes end upto None e is = absurd cc
held_found m oid serial bytes end upto (Some r) e is = held_content m oid serial bytes end upto r.serial r.content e is

-- a reply without one
none_content : (m : Machine) (oid o packed s : ℕ) (c : Content) (e : Option ℕ) → reply.Nothing o packed ≡ loaded m oid (found_as c s e) → (packed ≡ switches_of m.journal) × (read_as s c ≡ None)
none_content m oid o packed s (Held b) e is = absurd cc
none_content m oid o packed s Absent e is = (cc, refl)

none_found : (m : Machine) (oid o packed : ℕ) (r : Option ObjectRevision) (e : Option ℕ) → reply.Nothing o packed ≡ loaded m oid (found_of r e) → (packed ≡ switches_of m.journal) × (option_and_then read_from r ≡ None)
none_found m oid o packed None e is = (cc, refl)
none_found m oid o packed (Some r) e is = none_content m oid o packed r.serial r.content e is

-- a session that isn't open gets neither
held_reply : (b : Bool) (m : Machine) (oid front serial : ℕ) (bytes : List ℕ) (end : Option ℕ) (upto : ℕ)
    → reply.Loaded serial bytes end upto ≡ (unless_early (option_or (refuse_if b refusal.NotOpen) None) m (replied m (loaded m oid (found_below oid front m.list)))).reply → read_below oid front m.list ≡ Some (serial, bytes)
held_reply true m oid front serial bytes end upto is = absurd cc
held_reply false m oid front serial bytes end upto is = held_found m oid serial bytes end upto (revision_below oid front m.list) (end_of oid front m.list) is

none_reply : (b : Bool) (m : Machine) (oid front o packed : ℕ)
    → reply.Nothing o packed ≡ (unless_early (option_or (refuse_if b refusal.NotOpen) None) m (replied m (loaded m oid (found_below oid front m.list)))).reply → (packed ≡ switches_of m.journal) × (read_below oid front m.list ≡ None)
none_reply true m oid front o packed is = absurd cc
none_reply false m oid front o packed is = none_found m oid o packed (revision_below oid front m.list) (end_of oid front m.list) is

-- ---- a load of a hub

module _ {R F : Type 0} (told lasts : Type 0) (stands : List ℕ → List Transaction → Type 0) (rules : R → MergeRules) (named : F → List ℕ → Option (List ℕ)) (n oid front : ℕ) (old new : HubState R F) (before after : Option (List Stamp)) (last : Option Told) (v known : View) (tells : told) (may : MayBeTold last old v known) where
  pub held_loaded : (serial : ℕ) (bytes : List ℕ) (end : Option ℕ) (upto : ℕ) → IsHubStep told lasts stands rules named n (request.LoadBefore oid front) (reply.Loaded serial bytes end upto) old new before after → front ≤ v.front
      → IsLoaded oid front v (server_of old) (answer.Held serial bytes)
  held_loaded serial bytes end upto step low = by_old old.store.broken refl
    where
      by_old : (b : Bool) → old.store.broken ≡ b → read_below oid front v.list ≡ Some (serial, bytes)
      by_old true broke = absurd (never (step.failed broke).0)
        where
          never : reply.Loaded serial bytes end upto ≡ reply.Refused refusal.NotOpen → ⊥
          never is = absurd cc
      by_old false whole =
          let made = step.step tells (machine_of old) (stands_for old) in
          let found : read_below oid front old.store.list ≡ Some (serial, bytes) =
          held_reply (not (is_open_in (machine_of old).sessions n)) (machine_of old) oid front serial bytes end upto (ap (λ (x : Stepped). x.reply) made.made.cause) in
          may.later.held oid front (serial, bytes) low
          (ap (λ (s : Server). read_below oid front s.list) (server_whole old (machine_of old) (stands_for old) whole) ∙ found)

  pub none_loaded : (o packed : ℕ) → IsHubStep told lasts stands rules named n (request.LoadBefore oid front) (reply.Nothing o packed) old new before after → front ≤ v.front
      → IsLoaded oid front v (server_of old) (answer.Nothing packed)
  none_loaded o packed step low = by_old old.store.broken refl
    where
      by_old : (b : Bool) → old.store.broken ≡ b → IsLoaded oid front v (server_of old) (answer.Nothing packed)
      by_old true broke = absurd (never (step.failed broke).0)
        where
          never : reply.Nothing o packed ≡ reply.Refused refusal.NotOpen → ⊥
          never is = absurd cc
      by_old false whole =
          let made = step.step tells (machine_of old) (stands_for old) in
          let server = server_whole old (machine_of old) (stands_for old) whole in
          let both : (packed ≡ switches_of old.journal) × (read_below oid front old.store.list ≡ None) =
          none_reply (not (is_open_in (machine_of old).sessions n)) (machine_of old) oid front o packed (ap (λ (x : Stepped). x.reply) made.made.cause) in
          let none : read_below oid front (server_of old).list ≡ None = ap (λ (s : Server). read_below oid front s.list) server ∙ both.1 in
          (both.0 ∙ sym (ap (λ (s : Server). s.switches) server), may.later.switches, none, λ still. sym (may.later.same still oid front low) ∙ none)
