-- How a line, and a turn, lead from one moment to another.
use Rattle.std.proofs.Common.{◌≡◌, ℕ, ◌<◌, Bool, true, false, not, List, length, Option, Some, None, Ok, Err, refl, sym, ap, subst, ◌∙◌, inl, inr}
use Rattle.std.specs.Prelude.{bytes_eq, slice_get}
use Rattle.std.specs.List.{position}
use Rattle.std.specs.Option.{option_or}
use Rattle.zb_ids.specs.declared.stamp.Stamp.{Stamp}
use Rattle.zb_model.specs.declared.refusal.Refusal.{Refusal}
use Rattle.zb_model.specs.declared.refusal.Refusal.TheVariants as refusal
use Rattle.zb_answers.specs.declared.answer.Answer.{Answer}
use Rattle.zb_answers.specs.declared.answer.Answer.TheVariants as answer
use Rattle.zb_script.specs.declared.line.Line.{Line}
use Rattle.zb_script.specs.declared.line.Line.TheVariants as line
use Rattle.zb_script.specs.declared.line.Turn.{Turn}
use Rattle.zodb_core.specs.declared.request.Request.{Request}
use Rattle.zodb_core.specs.HubState.{sessions_with}
use Rattle.zodb_core.specs.Machine.{MachineSession, Rules, is_open_in}
use Rattle.zodb_core.specs.Steps.{refuse_if}
use Rattle.client_turns.specs.declared.member.Member.{Member}
use Rattle.client_turns.specs.Members.{name_of, session_of}
use Rattle.client_turns.specs.declared.errors.TurnError.{TurnError}
use Rattle.client_turns.specs.declared.errors.TurnError.TheVariants as error
use Rattle.client_turns.specs.Clients.{Changes, Moment, changes_of, place_of_client}
use Rattle.client_turns.specs.Clients as seen
use Rattle.client_turns.specs.Lines.{end_of, is_delivery, request_of}
use Rattle.client_turns.specs.Refusing.{IsFittingLine, connection_refusal, line_refusal, opening_in}
use Rattle.client_turns.specs.Asking.{plain_request}
use Rattle.client_turns.specs.Standing.{ClientsState, ClosesAs, ClosesIf, IsLineOpen, IsCutOf, IsOpenLineOf, IsStepOf, LeadsTo, MayAskAt, OrCut, OrStarved, StandsForMoment}
use Rattle.client_turns.specs.Turns.{IsCutAt, IsCutLine, IsCutOpening, IsLinkOpening, by_link, by_opening, by_step, IsBroken, IsClosed, IsClosing, IsLine, IsLineAt, IsLineNamed, IsLineOf, IsLineUnless, IsOpening, IsStepLine, IsTurn, by_closing, by_line, by_memory}
use Rattle.client_turns.proofs.One.{short_open}
use Rattle.client_turns.proofs.Placing.{IsClientAt, client_at, member_session, same_place, there_at}

same_client : (a b : seen.Client) → Some a ≡ Some b → a ≡ b
same_client a b e = cc

-- ---- a line of the client at a place

-- an open session refuses nothing by itself
open_refusal : (m : Moment) (c : seen.Client) (l : Line) → is_open_in m.machine.sessions c.session ≡ true → connection_refusal m.machine c l ≡ line_refusal (changes_of c) l
open_refusal m c l may = ap (λ (b : Bool). option_or (refuse_if (not b) refusal.NotOpen) (line_refusal (changes_of c) l)) may

closed_refusal : (m : Moment) (c : seen.Client) (l : Line) → is_open_in m.machine.sessions c.session ≡ false → connection_refusal m.machine c l ≡ Some refusal.NotOpen
closed_refusal m c l may = ap (λ (b : Bool). option_or (refuse_if (not b) refusal.NotOpen) (line_refusal (changes_of c) l)) may

or_line : (rules : Rules) (m : Moment) (at : ℕ) (c : seen.Client) (l : Line) (a : Answer) (now : Moment) → slice_get m.clients at ≡ Some c → is_open_in m.machine.sessions c.session ≡ true → IsLineOpen rules m at c l a now → OrStarved (IsLineAt rules m at l) m a now
or_line rules m at c l a now there may (inl line) = inl (c, there, subst (λ (o : Option Refusal). IsLineUnless rules m at c l o a now) (sym (open_refusal m c l may)) line)
or_line rules m at c l a now there may (inr starved) = inr starved

-- of an open session
pub line_opened : {R F : Type 0} (rules : Rules) (m : Moment) (at : ℕ) (l : Line) (a : Answer) (new : ClientsState R F) (after : Option (List Stamp)) → MayAskAt m at → LeadsTo (OrCut (IsOpenLineOf rules m at l) (IsCutOf rules m at l) a) new after
    → LeadsTo (OrCut (OrStarved (IsLineAt rules m at l) m) (IsCutOf rules m at l) a) new after
line_opened rules m at l a new after may leads = record { now = leads.now; holds = by_either leads.holds; stands = leads.stands }
  where
    by_either : OrCut (IsOpenLineOf rules m at l) (IsCutOf rules m at l) a leads.now → OrCut (OrStarved (IsLineAt rules m at l) m) (IsCutOf rules m at l) a leads.now
    by_either (inl line) = inl (or_line rules m at line.0 l a leads.now line.1 (ap (λ (c : seen.Client). is_open_in m.machine.sessions c.session) (same_client line.0 may.0 (sym line.1 ∙ may.1)) ∙ may.2) line.2)
    by_either (inr cut) = inr cut

-- a line that is no cut
pub uncut : {R F : Type 0} (Q : Answer → Moment → Type 0) (cut : Moment → Type 0) (a : Answer) (new : ClientsState R F) (after : Option (List Stamp)) → LeadsTo (Q a) new after → LeadsTo (OrCut Q cut a) new after
uncut Q cut a new after leads = record { now = leads.now; holds = inl leads.holds; stands = leads.stands }

-- what the client at a place asks
pub asked_leads : {R F : Type 0} (rules : Rules) (m : Moment) (at : ℕ) (l : Line) (a : Answer) (new : ClientsState R F) (after : Option (List Stamp)) → LeadsTo (λ now. (c : seen.Client) × (slice_get m.clients at ≡ Some c) × OrCut (IsLineOpen rules m at c l) (IsCutAt rules m c l) a now) new after
    → LeadsTo (OrCut (IsOpenLineOf rules m at l) (IsCutOf rules m at l) a) new after
asked_leads rules m at l a new after leads = record { now = leads.now; holds = by_either leads.holds.2; stands = leads.stands }
  where
    by_either : OrCut (IsLineOpen rules m at leads.holds.0 l) (IsCutAt rules m leads.holds.0 l) a leads.now → OrCut (IsOpenLineOf rules m at l) (IsCutOf rules m at l) a leads.now
    by_either (inl line) = inl (leads.holds.0, leads.holds.1, line)
    by_either (inr cut) = inr (cut.0, (leads.holds.0, leads.holds.1, cut.1))

-- the client at a place, and what its session is
pub record IsSessionAt {R F : Type 0} (m : Moment) (at : ℕ) (old : ClientsState R F) : Type 0 where
  pub client : seen.Client
  pub there : slice_get m.clients at ≡ Some client
  pub kept : Member
  pub kept_there : slice_get old.clients at ≡ Some kept
  pub session : client.session ≡ session_of kept

pub session_there : {R F : Type 0} (m : Moment) (at : ℕ) (old : ClientsState R F) (before : Option (List Stamp)) → StandsForMoment old before m → at < length old.clients → IsSessionAt m at old
session_there m at old before stood within =
    let kept : (x : Member) × (slice_get old.clients at ≡ Some x) = there_at old.clients at within in
    let k : IsClientAt old.hub m.clients at kept.0 = client_at old.hub old.clients m.clients at kept.0 stood.clients kept.1 in
    record { client = k.client; there = k.there; kept = kept.0; kept_there = kept.1; session = member_session old.hub kept.0 k.client k.is }

-- a session that is open, as the hub says
pub opened_there : {R F : Type 0} (m : Moment) (at n : ℕ) (b : Bool) (old : ClientsState R F) (before : Option (List Stamp)) → StandsForMoment old before m → at < length old.clients → ((x : Member) → slice_get old.clients at ≡ Some x → n ≡ session_of x)
    → b ≡ is_open_in (sessions_with old.hub.store.broken old.hub.sessions) n → (k : IsSessionAt m at old) × (is_open_in m.machine.sessions k.client.session ≡ b)
opened_there m at n b old before stood within session is =
    let k : IsSessionAt m at old = session_there m at old before stood within in
    (k, ap (λ (s : List MachineSession). is_open_in s k.client.session) stood.hub.sessions ∙ ap (λ (z : ℕ). is_open_in (sessions_with old.hub.store.broken old.hub.sessions) z) (k.session ∙ sym (session k.kept k.kept_there)) ∙ sym is)

pub line_closed : {R F : Type 0} (rules : Rules) (m : Moment) (at n : ℕ) (l : Line) (old : ClientsState R F) (before : Option (List Stamp)) → StandsForMoment old before m → at < length old.clients → ((x : Member) → slice_get old.clients at ≡ Some x → n ≡ session_of x)
    → false ≡ is_open_in (sessions_with old.hub.store.broken old.hub.sessions) n → LeadsTo (OrStarved (IsLineAt rules m at l) m (answer.Refused refusal.NotOpen)) old before
line_closed rules m at n l old before stood within session is =
    let k : (k : IsSessionAt m at old) × (is_open_in m.machine.sessions k.client.session ≡ false) = opened_there m at n false old before stood within session is in
    record {
      now = m;
      holds = inl (k.0.client, k.0.there, subst (λ (o : Option Refusal). IsLineUnless rules m at k.0.client l o (answer.Refused refusal.NotOpen) m) (sym (closed_refusal m k.0.client l k.1)) (refl, refl));
      stands = stood;
    }

pub may_ask : {R F : Type 0} (m : Moment) (at n : ℕ) (old : ClientsState R F) (before : Option (List Stamp)) → StandsForMoment old before m → at < length old.clients → ((x : Member) → slice_get old.clients at ≡ Some x → n ≡ session_of x)
    → true ≡ is_open_in (sessions_with old.hub.store.broken old.hub.sessions) n → MayAskAt m at
may_ask m at n old before stood within session is =
    let k : (k : IsSessionAt m at old) × (is_open_in m.machine.sessions k.client.session ≡ true) = opened_there m at n true old before stood within session is in
    (k.0.client, k.0.there, k.1)

-- ---- a line of an open session that its connection doesn't answer

plain_free : (l : Line) (q : Request) (s : seen.Standing) (ch : Option Changes) → plain_request l ≡ Some q → (line_refusal ch l ≡ None) × (request_of s ch l ≡ Some q) × (is_delivery l ≡ false)
plain_free line.New q s ch is = (refl, is, refl)
plain_free (line.History oid) q s ch is = (refl, is, refl)
plain_free line.UndoLog q s ch is = (refl, is, refl)
plain_free (line.Pack tid collect) q s ch is = (refl, is, refl)
plain_free (line.PackBegin tid collect) q s ch is = (refl, is, refl)
plain_free line.PackTurn q s ch is = (refl, is, refl)
plain_free line.Close q s ch is = (refl, is, refl)
plain_free _ q s ch is = absurd cc

pub line_step : {R F : Type 0} (rules : Rules) (m : Moment) (at : ℕ) (l : Line) (q : Request) (a : Answer) (new : ClientsState R F) (after : Option (List Stamp)) → Some q ≡ plain_request l → LeadsTo (IsStepOf rules m at q a) new after → LeadsTo (IsOpenLineOf rules m at l a) new after
line_step rules m at l q a new after is leads =
    let free = plain_free l q leads.holds.0.standing (changes_of leads.holds.0) (sym is) in
    record { now = leads.now; holds = (leads.holds.0, leads.holds.1, short_open rules m at leads.holds.0 l a leads.now q leads.holds.2 free.0 free.1 (subst (λ (d : Bool). IsStepLine rules m at leads.holds.0 d q a leads.now) (sym free.2) leads.holds.3)); stands = leads.stands }

-- ---- a line of a client, by its name

line_by_name : (rules : Rules) (m : Moment) (name : List ℕ) (l : Line) (a : Answer) (now : Moment) → opening_in l ≡ None → IsLineOf rules m (place_of_client name m.clients) l a now → IsLine rules m name l a now
line_by_name rules m name l a now opened is = subst (λ (opens : Option Bool). IsLineNamed opens rules m name l a now) (sym opened) is

named_result : (rules : Rules) (m : Moment) (name : List ℕ) (at : ℕ) (l : Line) (a : Answer) (now : Moment) → opening_in l ≡ None → Some at ≡ place_of_client name m.clients
    → OrCut (OrStarved (IsLineAt rules m at l) m) (IsCutOf rules m at l) a now → OrCut (OrStarved (IsLine rules m name l) m) (IsCutLine rules m name l) a now
named_result rules m name at l a now opened place (inl (inl is)) = inl (inl (line_by_name rules m name l a now opened (subst (λ (o : Option ℕ). IsLineOf rules m o l a now) place is)))
named_result rules m name at l a now opened place (inl (inr starved)) = inl (inr starved)
named_result rules m name at l a now opened place (inr (said, (c, there, cut))) = inr (said, by_step at c (sym place) there cut)

pub line_found : {R F : Type 0} (rules : Rules) (m : Moment) (name : List ℕ) (at : ℕ) (l : Line) (result : Answer) (old new : ClientsState R F) (before after : Option (List Stamp)) → StandsForMoment old before m
    → opening_in l ≡ None → Some at ≡ position (λ (x : Member). bytes_eq (name_of x) name) old.clients → LeadsTo (OrCut (OrStarved (IsLineAt rules m at l) m) (IsCutOf rules m at l) result) new after
    → LeadsTo (OrCut (OrStarved (IsLine rules m name l) m) (IsCutLine rules m name l) result) new after
line_found rules m name at l result old new before after stands opened place leads = record {
  now = leads.now;
  holds = named_result rules m name at l result leads.now opened (place ∙ same_place old.hub old.clients m.clients name stands.clients) leads.holds;
  stands = leads.stands;
}

pub line_missing : {R F : Type 0} (rules : Rules) (m : Moment) (name : List ℕ) (l : Line) (old : ClientsState R F) (before : Option (List Stamp)) → StandsForMoment old before m
    → opening_in l ≡ None → None ≡ position (λ (x : Member). bytes_eq (name_of x) name) old.clients → LeadsTo (OrCut (OrStarved (IsLine rules m name l) m) (IsCutLine rules m name l) (answer.Refused refusal.NotOpen)) old before
line_missing rules m name l old before stands opened place = record {
  now = m;
  holds = inl (inl (line_by_name rules m name l (answer.Refused refusal.NotOpen) m opened
      (subst (λ (o : Option ℕ). IsLineOf rules m o l (answer.Refused refusal.NotOpen) m) (place ∙ same_place old.hub old.clients m.clients name stands.clients) (refl, refl))));
  stands = stands;
}

line_opened_by : (rules : Rules) (m : Moment) (name : List ℕ) (l : Line) (a : Answer) (now : Moment) → opening_in l ≡ Some false → OrStarved (IsOpening m name) m a now → OrStarved (IsLine rules m name l) m a now
line_opened_by rules m name l a now opened (inl is) = inl (subst (λ (opens : Option Bool). IsLineNamed opens rules m name l a now) (sym opened) is)
line_opened_by rules m name l a now opened (inr starved) = inr starved

pub line_opens : {R F : Type 0} (rules : Rules) (m : Moment) (name : List ℕ) (l : Line) (result : Answer) (new : ClientsState R F) (left : Option (List Stamp)) → opening_in l ≡ Some false
    → LeadsTo (OrStarved (IsOpening m name) m result) new left → LeadsTo (OrCut (OrStarved (IsLine rules m name l) m) (IsCutLine rules m name l) result) new left
line_opens rules m name l result new left is leads = record {
  now = leads.now;
  holds = inl (line_opened_by rules m name l result leads.now is leads.holds);
  stands = leads.stands;
}

-- over a link
line_linked_by : (rules : Rules) (m : Moment) (name : List ℕ) (l : Line) (a : Answer) (now : Moment) → opening_in l ≡ Some true → OrCut (OrStarved (IsLinkOpening rules m name) m) (IsCutOpening rules m) a now
    → OrCut (OrStarved (IsLine rules m name l) m) (IsCutLine rules m name l) a now
line_linked_by rules m name l a now opened (inl (inl is)) = inl (inl (subst (λ (opens : Option Bool). IsLineNamed opens rules m name l a now) (sym opened) is))
line_linked_by rules m name l a now opened (inl (inr starved)) = inl (inr starved)
line_linked_by rules m name l a now opened (inr (said, cut)) = inr (said, by_opening opened cut)

pub line_links : {R F : Type 0} (rules : Rules) (m : Moment) (name : List ℕ) (l : Line) (result : Answer) (new : ClientsState R F) (left : Option (List Stamp)) → opening_in l ≡ Some true
    → LeadsTo (OrCut (OrStarved (IsLinkOpening rules m name) m) (IsCutOpening rules m) result) new left → LeadsTo (OrCut (OrStarved (IsLine rules m name l) m) (IsCutLine rules m name l) result) new left
line_links rules m name l result new left is leads = record { now = leads.now; holds = line_linked_by rules m name l result leads.now is leads.holds; stands = leads.stands }

-- ---- a turn

pub unclosed : {R F : Type 0} (rules : Rules) (m : Moment) (name : List ℕ) (b : Bool) (seen : ClientsState R F) (left : Option (List Stamp)) → b ≡ false → StandsForMoment seen left m → LeadsTo (ClosesIf rules m name b None) seen left
unclosed rules m name false seen left is stands = record { now = m; holds = (refl, refl); stands = stands }
unclosed rules m name true seen left is stands = absurd cc

pub closes_last : {R F : Type 0} (rules : Rules) (m : Moment) (name : List ℕ) (b : Bool) (ended : Option TurnError) (seen : ClientsState R F) (left : Option (List Stamp)) → b ≡ true
    → LeadsTo (ClosesAs rules m (place_of_client name m.clients) ended) seen left → LeadsTo (ClosesIf rules m name b ended) seen left
closes_last rules m name true ended seen left is leads = record { now = leads.now; holds = leads.holds; stands = leads.stands }
closes_last rules m name false ended seen left is leads = absurd cc

module _ (rules : Rules) (m : Moment) (t : Turn) where
  closed : (behind now : Moment) (at : Option ℕ) → ClosesAs rules behind at None now → IsClosed rules behind at now
  closed behind now None closes = closes.1
  closed behind now (Some n) closes = (closes.0, closes.1, sym closes.2)

  closing_of : (behind now : Moment) (last : Bool) → ClosesIf rules behind t.client last None now → IsClosing rules behind t.client last now
  closing_of behind now false closes = closes.1
  closing_of behind now true closes = closed behind now (place_of_client t.client behind.clients) closes

  broken_at : (a : Answer) (behind now : Moment) (at : Option ℕ) (why : TurnError) → IsLine rules m t.client t.line a behind → None ≡ end_of a → at ≡ place_of_client t.client behind.clients
      → ClosesAs rules behind at (Some why) now → IsBroken rules m t true why now
  broken_at a behind now None why line ends place closes = absurd cc
  broken_at a behind now (Some n) why line ends place closes = by_closing a behind n closes.0 refl line (sym ends) (sym place) closes.1 (sym closes.2)

  broken_of : (a : Answer) (behind now : Moment) (last : Bool) (why : TurnError) → IsLine rules m t.client t.line a behind → None ≡ end_of a → ClosesIf rules behind t.client last (Some why) now → IsBroken rules m t last why now
  broken_of a behind now false why line ends closes = absurd cc
  broken_of a behind now true why line ends closes = broken_at a behind now (place_of_client t.client behind.clients) why line ends refl closes

module _ (rules : Rules) (m : Moment) (t : Turn) (last : Bool) where
  starved_end : (a : Answer) (why : TurnError) → a ≡ answer.Refused refusal.Memory → Some why ≡ end_of a → why ≡ error.Memory
  starved_end a why is ends = same_error why error.Memory (ends ∙ ap end_of is)
    where
      same_error : (x y : TurnError) → Some x ≡ Some y → x ≡ y
      same_error x y e = cc

  ends_by : (a : Answer) (why : TurnError) (now : Moment) → OrCut (OrStarved (IsLine rules m t.client t.line) m) (IsCutLine rules m t.client t.line) a now → Some why ≡ end_of a → IsBroken rules m t last why now
  ends_by a why now (inl (inl line)) ends = by_line a line (sym ends)
  ends_by a why now (inl (inr starved)) ends = by_memory (starved_end a why starved.0 ends) starved.1
  ends_by a why now (inr cut) ends = by_link (starved_end a why cut.0 ends) cut.1

  pub turn_broken : {R F : Type 0} (a : Answer) (why : TurnError) (new : ClientsState R F) (after : Option (List Stamp)) → LeadsTo (OrCut (OrStarved (IsLine rules m t.client t.line) m) (IsCutLine rules m t.client t.line) a) new after → Some why ≡ end_of a
      → LeadsTo (IsTurn rules m t last (Err why)) new after
  turn_broken a why new after leads ends = record { now = leads.now; holds = ends_by a why leads.now leads.holds ends; stands = leads.stands }

-- a line that doesn't end the run wasn't starved
pub line_whole_of : (rules : Rules) (m : Moment) (t : Turn) (a : Answer) (now : Moment) → OrCut (OrStarved (IsLine rules m t.client t.line) m) (IsCutLine rules m t.client t.line) a now → None ≡ end_of a → IsLine rules m t.client t.line a now
line_whole_of rules m t a now line ends = by_either line
  where
    no_end : None ≡ Some error.Memory → ⊥
    no_end e = absurd cc

    by_either : OrCut (OrStarved (IsLine rules m t.client t.line) m) (IsCutLine rules m t.client t.line) a now → IsLine rules m t.client t.line a now
    by_either (inl (inl line)) = line
    by_either (inl (inr starved)) = absurd (no_end (ends ∙ ap end_of starved.0))
    by_either (inr cut) = absurd (no_end (ends ∙ ap end_of cut.0))

module _ {R F : Type 0} (rules rules' : Rules) (m : Moment) (t : Turn) (last : Bool) (a : Answer) (mid new : ClientsState R F) (between after : Option (List Stamp)) where
  pub turn_done : IsFittingLine t.line → LeadsTo (OrCut (OrStarved (IsLine rules m t.client t.line) m) (IsCutLine rules m t.client t.line) a) mid between → None ≡ end_of a → rules' ≡ rules
      → ((b : Moment) → StandsForMoment mid between b → LeadsTo (ClosesIf rules' b t.client last None) new after) → LeadsTo (IsTurn rules m t last (Ok a)) new after
  turn_done fits leads ends alike close =
      let closes : LeadsTo (ClosesIf rules leads.now t.client last None) new after = subst (λ (x : Rules). LeadsTo (ClosesIf x leads.now t.client last None) new after) alike (close leads.now leads.stands) in
      record {
        now = closes.now;
        holds = record { fits = fits; behind = leads.now; line = line_whole_of rules m t a leads.now leads.holds ends; whole = sym ends; closing = closing_of rules m t leads.now closes.now last closes.holds };
        stands = closes.stands;
      }

  pub turn_cut : (why : TurnError) → LeadsTo (OrCut (OrStarved (IsLine rules m t.client t.line) m) (IsCutLine rules m t.client t.line) a) mid between → None ≡ end_of a → rules' ≡ rules
      → ((b : Moment) → StandsForMoment mid between b → LeadsTo (ClosesIf rules' b t.client last (Some why)) new after) → LeadsTo (IsTurn rules m t last (Err why)) new after
  turn_cut why leads ends alike close =
      let closes : LeadsTo (ClosesIf rules leads.now t.client last (Some why)) new after = subst (λ (x : Rules). LeadsTo (ClosesIf x leads.now t.client last (Some why)) new after) alike (close leads.now leads.stands) in
      record { now = closes.now; holds = broken_of rules m t a leads.now closes.now last why (line_whole_of rules m t a leads.now leads.holds ends) ends closes.holds; stands = closes.stands }

-- ---- lines that nothing cut

pub closed_uncut : {R F : Type 0} (rules : Rules) (m : Moment) (at n : ℕ) (l : Line) (old : ClientsState R F) (before : Option (List Stamp)) → StandsForMoment old before m → at < length old.clients → ((x : Member) → slice_get old.clients at ≡ Some x → n ≡ session_of x)
    → false ≡ is_open_in (sessions_with old.hub.store.broken old.hub.sessions) n → LeadsTo (OrCut (OrStarved (IsLineAt rules m at l) m) (IsCutOf rules m at l) (answer.Refused refusal.NotOpen)) old before
closed_uncut rules m at n l old before stood within session is =
    uncut (OrStarved (IsLineAt rules m at l) m) (IsCutOf rules m at l) (answer.Refused refusal.NotOpen) old before (line_closed rules m at n l old before stood within session is)

pub step_uncut : {R F : Type 0} (rules : Rules) (m : Moment) (at : ℕ) (l : Line) (q : Request) (a : Answer) (new : ClientsState R F) (after : Option (List Stamp)) → Some q ≡ plain_request l → LeadsTo (IsStepOf rules m at q a) new after
    → LeadsTo (OrCut (IsOpenLineOf rules m at l) (IsCutOf rules m at l) a) new after
step_uncut rules m at l q a new after is leads = uncut (IsOpenLineOf rules m at l) (IsCutOf rules m at l) a new after (line_step rules m at l q a new after is leads)

pub tree_uncut : {R F : Type 0} (rules : Rules) (m : Moment) (at : ℕ) (l k : Line) (a : Answer) (new : ClientsState R F) (after : Option (List Stamp)) → k ≡ l → LeadsTo (IsOpenLineOf rules m at l a) new after
    → LeadsTo (OrCut (IsOpenLineOf rules m at k) (IsCutOf rules m at k) a) new after
tree_uncut rules m at l k a new after same leads =
    uncut (IsOpenLineOf rules m at k) (IsCutOf rules m at k) a new after (subst (λ (z : Line). LeadsTo (IsOpenLineOf rules m at z a) new after) (sym same) leads)
