-- How a client opens its session, and how it is closed.
use Rattle.std.proofs.Common.{◌≡◌, ℕ, zero, suc, ◌+◌, ◌≤◌, ◌<◌, Bool, true, false, List, [], ◌∷◌, ◌++◌, length, Option, Some, None, Result, Err, nat_lt, refl, sym, ap, subst, ◌∙◌, arith, inl}
use Rattle.std.specs.Prelude.{◌≢◌, bytes_eq, slice_get}
use Rattle.std.specs.List.{position}
use Rattle.std.specs.Option.{option_map, option_map_or}
use Rattle.std.proofs.lemmas.Bool.{lt-ltb, le-ltb}
use Rattle.zb_ids.specs.declared.stamp.Stamp.{Stamp}
use Rattle.zb_model.specs.declared.refusal.Refusal.TheVariants as refusal
use Rattle.zb_answers.specs.declared.answer.Answer.TheVariants as answer
use Rattle.zodb_core.specs.declared.reply.Reply.{Reply}
use Rattle.zodb_core.specs.declared.request.Request.TheVariants as request
use Rattle.zb_model.specs.Stores.{StoreState}
use Rattle.zodb_core.specs.HubState.{HubState, StandsForMachine, counts_of, pack_with, vote_of_hub}
use Rattle.zodb_core.specs.Machine.{Machine, MachineSession, Rules, front_of, is_open_in, new_session, with_session}
use Rattle.zodb_core.specs.Sound.{IsPackWithin}
use Rattle.zb_model.specs.declared.data.Transaction.{Transaction}
use Rattle.zb_model.specs.declared.refusal.Refusal.{Refusal}
use Rattle.connection_view.specs.Works.{Work}
use Rattle.connection_view.specs.Connections.{Between, work_of}
use Rattle.connection_view.specs.Views.{Later, Server, View, no_object, view_of}
use Rattle.connection_view.specs.Views as views
use Rattle.local_loads.specs.declared.told.Told.{Told}
use Rattle.local_loads.specs.Local as local
use Rattle.local_loads.specs.Local.{MayBeTold, WritesLater, first_view}
use Rattle.local_loads.specs.LocalLaws.{opened_may}
use Rattle.client_turns.specs.declared.client.Client.{Client}
use Rattle.client_turns.specs.declared.member.Member.{Member}
use Rattle.client_turns.specs.declared.member.Member.TheVariants.{Near}
use Rattle.client_turns.specs.Clients as seen
use Rattle.client_turns.specs.Laws.{IsSoundMoment, KnowsUpTo}
use Rattle.client_turns.specs.Members.{IsOpenAs, name_of, session_of}
use Rattle.hub_carrier.specs.EndLaws.{known_at, stands_at}
use Rattle.hub_carrier.specs.Ends.{machine_at}
use Rattle.std.proofs.lemmas.Bool.{true≢false}
use Rattle.zb_base.specs.Lists.{each_more}
use Rattle.zeo_cache.specs.Intervals.{Intervals}
use Rattle.zeo_serving.specs.declared.standing.Standing.{Standing}
use Rattle.zeo_serving.specs.KnowLaws.{stays}
use Rattle.zeo_serving.specs.OtherLaws.{IsOther}
use Rattle.zeo_serving.specs.Serving.{IsServed, MayBeServed}
use Rattle.zeo_serving.specs.ServingLaws.{served_on}
use Rattle.zodb_core.specs.Sound.{IsSoundMachine}
use Rattle.zodb_core.specs.SoundLaws.{opened_sound}
use Rattle.client_turns.proofs.Following.{FollowsLine, opened_moment}
use Rattle.client_turns.proofs.Keeping.{IsKept, none_kept, rise_more}
use Rattle.remote_loads.specs.KnownLaws.{known_may}
use Rattle.client_turns.specs.declared.errors.TurnError.{TurnError}
use Rattle.client_turns.specs.Clients.{Local, Moment, place_of_client}
use Rattle.client_turns.specs.Lines.{answer_of, end_of}
use Rattle.client_turns.specs.Standing.{AreClientsOf, ClientsState, ClosesAs, LeadsTo, OrStarved, RiseBelow, StandsForMoment}
use Rattle.client_turns.specs.Steps.{IsStepAt}
use Rattle.client_turns.specs.Turns.{IsClosingAt, IsOpening, Opening, opened, opened_if}
use Rattle.client_turns.proofs.One.{sessions_of}
use Rattle.client_turns.proofs.Placing.{IsClientAt, client_at, member_session, push_at, same_place}

-- ---- one session more

get_more : (xs : List MachineSession) (x : MachineSession) (k : ℕ) → k ≢ length xs → slice_get (xs ++ x ∷ []) k ≡ slice_get xs k
get_more [] x zero apart = absurd (apart refl)
get_more [] x (suc k) apart = refl
get_more (y ∷ xs) x zero apart = refl
get_more (y ∷ xs) x (suc k) apart = get_more xs x k (λ same. apart (ap suc same))

-- each other session is served as before
session_other : (m : Machine) (k : ℕ) → k ≢ length m.sessions → IsOther m (with_session m) k
session_other m k apart = record { told = ap (λ (o : Option MachineSession). option_map_or (λ x. x.told) o 0) (get_more m.sessions (new_session m) k apart); moves = stays refl refl; vote = λ v e s. e }

session_serves : (m : Machine) (k : ℕ) (z : Standing) (entries : Intervals) (c : views.Client) → k ≢ length m.sessions → MayBeServed m k z entries c → MayBeServed (with_session m) k z entries c
session_serves m k z entries c apart may = by_failed m.failed refl
  where
    closed : is_open_in (with_session m).sessions k ≡ is_open_in m.sessions k
    closed = ap (λ (o : Option MachineSession). option_map_or (λ x. x.is_open) o false) (get_more m.sessions (new_session m) k apart)

    by_failed : (b : Bool) → m.failed ≡ b → MayBeServed (with_session m) k z entries c
    by_failed true broke =
        record { at = may.at; sound = may.sound; served = may.served; whole = λ is. absurd (true≢false (sym broke ∙ is)); shut = λ is. closed ∙ may.shut is; front = may.front; switches = may.switches }
    by_failed false whole =
        let at : may.at ≡ m = may.whole whole in
        let sound : IsSoundMachine m = subst (λ (x : Machine). IsSoundMachine x) at may.sound in
        let served : IsServed m k z entries c = subst (λ (x : Machine). IsServed x k z entries c) at may.served in
        record {
          at = with_session m;
          sound = opened_sound m sound;
          served = served_on m (with_session m) k sound (session_other m k apart) z entries c served;
          whole = λ is. refl;
          shut = λ broke. absurd (true≢false (sym broke ∙ whole));
          front = may.front;
          switches = may.switches;
        }

server_stays : {R F : Type 0} (old new : HubState R F) → new.store ≡ old.store → old.journal ≡ new.journal → old.greatest ≡ new.greatest → local.server_of new ≡ local.server_of old
server_stays old new store journal greatest =
    ap (λ (s : StoreState). local.server_unless s.broken s.list new.journal new.greatest) store
    ∙ ap (λ j. local.server_unless old.store.broken old.store.list j new.greatest) (sym journal)
    ∙ ap (λ (g : ℕ). local.server_unless old.store.broken old.store.list old.journal g) (sym greatest)

may_stay : {R F : Type 0} (last : Option Told) (old new : HubState R F) (told known : View) → new.store.broken ≡ old.store.broken → local.server_of new ≡ local.server_of old
    → (new.store.broken ≡ false → WritesLater new.store.list (option_map (vote_of_hub new.store.voted) new.vote))
    → (new.store.broken ≡ false → IsPackWithin new.store.list (pack_with new.store (length new.journal) new.pack)) → MayBeTold last old told known → MayBeTold last new told known
may_stay last old new told known broken server votes within may = record {
  last = may.last;
  front = may.front;
  switches = may.switches;
  later = subst (λ (s : Server). Later told (view_of s)) (sym server) may.later;
  known = λ whole. subst (λ (s : Server). Later known (view_of s)) (sym server) (may.known (sym broken ∙ whole));
  votes = votes;
  within = within;
}

-- What the opening of a session leaves: the hub stands for the machine with one session more, and its store is as it was.
pub record Opens {R F : Type 0} (m : Moment) (old new : HubState R F) : Type 0 where
  pub stood : StandsForMachine new (with_session m.machine)
  pub votes : new.store.broken ≡ false → WritesLater new.store.list (option_map (vote_of_hub new.store.voted) new.vote)
  pub within : new.store.broken ≡ false → IsPackWithin new.store.list (pack_with new.store (length new.journal) new.pack)
  pub kept : IsKept (length old.sessions) old new

pub session_opens : {R F : Type 0} (m : Moment) (old new : HubState R F) → StandsForMachine old m.machine → WritesLater m.machine.list m.machine.vote → IsPackWithin m.machine.list m.machine.pack
    → ((n : Machine) → StandsForMachine old n → StandsForMachine new (with_session n)) → new.store ≡ old.store → Opens m old new
session_opens {R} {F} m old new hub vote within_list opens store = record {
  stood = stood;
  votes = votes;
  within = within;
  kept = record {
    near = λ last told known may. may_stay last old new told known (ap (λ (s : StoreState). s.broken) store) (server_stays old new store (sym hub.journal ∙ stood.journal) (sym hub.greatest ∙ stood.greatest)) votes within may;
    far = λ k apart d x told there. record {
      served = known_may (with_session (machine_at old)) (machine_at new) k x.held.standing x.held.cache.entries told (known_at new (with_session (machine_at old)) (opens (machine_at old) (stands_at old)))
          (session_serves (machine_at old) k x.held.standing x.held.cache.entries told (λ same. apart (same ∙ sessions_of old (machine_at old) (stands_at old))) there.served);
      rest = there.rest;
    };
  };
}
  where
    stood : StandsForMachine new (with_session m.machine)
    stood = opens m.machine hub

    votes : new.store.broken ≡ false → WritesLater new.store.list (option_map (vote_of_hub new.store.voted) new.vote)
    votes whole = subst (WritesLater new.store.list) (stood.vote whole) (subst (λ (l : List Transaction). WritesLater l m.machine.vote) (stood.list whole) vote)

    within : new.store.broken ≡ false → IsPackWithin new.store.list (pack_with new.store (length new.journal) new.pack)
    within whole = subst (IsPackWithin new.store.list) stood.pack (subst (λ (l : List Transaction). IsPackWithin l m.machine.pack) (stood.list whole) within_list)

-- ---- a local client

pub too_many : {R F : Type 0} (seen : ClientsState R F) (left : Option (List Stamp)) (m : Moment) (name : List ℕ) (count : ℕ) → StandsForMoment seen left m → count ≡ 64 → length seen.hub.sessions ≡ 64
    → record { answer = answer.Refused (refusal.TooManySessions count); moment = m } ≡ opened m name Local
too_many seen left m name count stands full none =
    let n : length m.machine.sessions ≡ 64 = sessions_of seen.hub m.machine stands.hub ∙ none in
    let never : nat_lt (length m.machine.sessions) 64 ≡ false = le-ltb (length m.machine.sessions) 64 (omega (arith, n)) in
    ap (λ (k : ℕ). let o : Opening = record { answer = answer.Refused (refusal.TooManySessions k); moment = m } in o) (full ∙ sym n)
    ∙ sym (ap (λ (b : Bool). opened_if b m name Local) never)

opens : (m : Moment) (name : List ℕ) (n : ℕ) → n ≡ length m.machine.sessions → length m.machine.sessions < 64
    → IsOpening m name (answer.Opened n) (record { machine = with_session m.machine; clients = m.clients ++ record { name = name; session = n; transaction = None; standing = Local } ∷ []; stamps = m.stamps; counts = m.counts })
opens m name n number room =
    ap (λ (k : ℕ). let o : Opening = record { answer = answer.Opened k; moment = record { machine = with_session m.machine; clients = m.clients ++ record { name = name; session = k; transaction = None; standing = Local } ∷ []; stamps = m.stamps; counts = m.counts } } in o) number
    ∙ sym (ap (λ (b : Bool). opened_if b m name Local) (lt-ltb (length m.machine.sessions) 64 room))

pub one_more : (xs : List MachineSession) (x : MachineSession) → length (xs ++ x ∷ []) ≡ length xs + 1
one_more [] x = omega arith
one_more (y ∷ xs) x = let r = one_more xs x in omega (arith, r)

-- a moment with one client more, of the next session
pub opened_moves : (m : Moment) (name : List ℕ) (s : seen.Standing) → IsSoundMoment m → ((v : View) → s ≡ seen.Linked v → v.front ≤ front_of m.machine.list) → nat_lt (length m.machine.sessions) 64 ≡ true → IsSoundMoment (opened m name s).moment
opened_moves m name s sound known room =
    let follows : FollowsLine m (opened_if true m name s).moment = opened_moment m name s true sound in
    subst (λ (b : Bool). IsSoundMoment (opened_if b m name s).moment) (sym room) (record {
      machine = follows.machine.sound;
      formed = follows.formed;
      known = each_more (λ (c : seen.Client). KnowsUpTo (front_of m.machine.list) c.standing) m.clients (record { name = name; session = length m.machine.sessions; transaction = None; standing = s }) sound.known (knows_at s known);
    })
  where
    knows_at : (s : seen.Standing) → ((v : View) → s ≡ seen.Linked v → v.front ≤ front_of m.machine.list) → KnowsUpTo (front_of m.machine.list) s
    knows_at seen.Local known = tt
    knows_at (seen.Linked v) known = known v refl

pub open_leads : {R F : Type 0} (m : Moment) (name : List ℕ) (n : ℕ) (x : Client) (old new : ClientsState R F) (left : Option (List Stamp)) → StandsForMoment old left m → n ≡ length old.hub.sessions → length old.hub.sessions < 64
    → ((k : Machine) → StandsForMachine old.hub k → StandsForMachine new.hub (with_session k)) → new.hub.store ≡ old.hub.store → new.clients ≡ old.clients ++ Near x ∷ [] → x.name ≡ name → x.session ≡ n → x.told ≡ None
    → ((told : views.Client) → ((oid : ℕ) → told.voted oid ≡ false) → Between x.connection told) → work_of x.connection ≡ Err refusal.NoTransaction
    → LeadsTo (OrStarved (IsOpening m name) m (answer.Opened n)) new left
open_leads {R} {F} m name n x old new left stands number room hub store pushed named numbered untold between none =
    let all : length m.machine.sessions ≡ length old.hub.sessions = sessions_of old.hub m.machine stands.hub in
    let o : Opens m old.hub new.hub = session_opens m old.hub new.hub stands.hub stands.vote stands.within hub store in
    let told : views.Client = record { told = first_view; own = no_object; voted = no_object; known = view_of (local.server_of new.hub) } in
    let d : seen.Client = record { name = name; session = n; transaction = None; standing = seen.Local } in
    let is_room : nat_lt (length m.machine.sessions) 64 ≡ true = lt-ltb (length m.machine.sessions) 64 (omega (arith, all, room)) in
    let now : Moment = record { machine = with_session m.machine; clients = m.clients ++ d ∷ []; stamps = m.stamps; counts = m.counts } in
    let line : IsOpening m name (answer.Opened n) now = opens m name n (number ∙ sym all) (omega (arith, all, room)) in
    record {
      now = now;
      holds = inl line;
      stands = record {
        hub = o.stood;
        vote = stands.vote;
        within = stands.within;
        clients = subst (λ (xs : List Member). AreClientsOf new.hub xs (m.clients ++ d ∷ [])) (sym pushed)
            (push_at new.hub old.clients m.clients (Near x) d
            (none_kept (length old.hub.sessions) old.hub new.hub o.kept 0 (length m.machine.sessions) old.clients m.clients (omega (arith, all)) stands.apart stands.clients)
            (record {
              name = sym named;
              session = sym numbered;
              local = refl;
              told = told;
              may = subst (λ (l : Option Told). MayBeTold l new.hub first_view (view_of (local.server_of new.hub))) (sym untold) (opened_may new.hub o.votes o.within);
              transaction = subst (λ (w : Result Work Refusal). IsOpenAs x.connection told w None) (sym none) (refl, between told (λ oid. refl));
            }));
        apart = rises m n d (number ∙ sym all) stands.apart;
        sound = subst IsSoundMoment (sym (ap (λ (z : Opening). z.moment) line)) (opened_moves m name seen.Local stands.sound (λ v is. never v is) is_room);
        counts = stands.counts ∙ ap counts_of (sym store);
        stamps = stands.stamps;
      };
    }
  where
    never : (v : View) → seen.Local ≡ seen.Linked v → v.front ≤ front_of m.machine.list
    never v is = absurd cc

    rises : (m : Moment) (n : ℕ) (d : seen.Client) → d.session ≡ length m.machine.sessions → RiseBelow 0 (length m.machine.sessions) m.clients → RiseBelow 0 (length (with_session m.machine).sessions) (m.clients ++ d ∷ [])
    rises m n d number apart = subst (λ (k : ℕ). RiseBelow 0 k (m.clients ++ d ∷ [])) (sym (one_more m.machine.sessions (new_session m.machine))) (rise_more 0 (length m.machine.sessions) m.clients d (omega arith) number apart)

-- ---- closing

pub close_none : {R F : Type 0} (rules : Rules) (m : Moment) (name : List ℕ) (seen : ClientsState R F) (left : Option (List Stamp)) → StandsForMoment seen left m
    → None ≡ position (λ (x : Member). bytes_eq (name_of x) name) seen.clients → LeadsTo (ClosesAs rules m (place_of_client name m.clients) None) seen left
close_none rules m name seen left stands none =
    let none_here : None ≡ place_of_client name m.clients = none ∙ same_place seen.hub seen.clients m.clients name stands.clients in
    subst (λ (at : Option ℕ). LeadsTo (ClosesAs rules m at None) seen left) none_here (record { now = m; holds = (refl, refl); stands = stands })

pub close_done : {R F : Type 0} (rules : Rules) (m : Moment) (name : List ℕ) (at : ℕ) (x : Member) (r : Reply) (ended : Option TurnError) (old new : ClientsState R F) (before after : Option (List Stamp)) → StandsForMoment old before m
    → Some at ≡ position (λ (x : Member). bytes_eq (name_of x) name) old.clients → slice_get old.clients at ≡ Some x → LeadsTo (IsStepAt rules m (session_of x) request.Close r) new after → ended ≡ end_of (answer_of r)
    → LeadsTo (ClosesAs rules m (place_of_client name m.clients) ended) new after
close_done rules m name at x r ended old new before after stands place there leads ends =
    let here : Some at ≡ place_of_client name m.clients = place ∙ same_place old.hub old.clients m.clients name stands.clients in
    let c : IsClientAt old.hub m.clients at x = client_at old.hub old.clients m.clients at x stands.clients there in
    let number : session_of x ≡ c.client.session = sym (member_session old.hub x c.client c.is) in
    let closing : IsClosingAt rules m at r leads.now = (c.client, c.there, subst (λ (k : ℕ). IsStepAt rules m k request.Close r leads.now) number leads.holds) in
    subst (λ (o : Option ℕ). LeadsTo (ClosesAs rules m o ended) new after) here (record { now = leads.now; holds = (r, closing, ends); stands = leads.stands })
