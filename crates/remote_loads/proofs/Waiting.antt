-- Calls that aren't answered, and what they leave of a desk.
use Rattle.std.proofs.Common.{◌≡◌, ◌⊎◌, inl, inr, ℕ, ◌<◌, ◌≤◌, ◌^◌, Bool, true, false, cond, List, [], ◌∷◌, ◌++◌, map, Option, Some, None, length, refl, sym, ap, subst, ◌∙◌, arith, append_assoc, append-nil}
use Rattle.std.specs.Prelude.{All, nat_eq, nat_lt, ◌&&◌}
use Rattle.std.specs.List.{AllByRecursion, IsDistinct, sum_by}
use Rattle.std.proofs.lemmas.Bool.{and_from, eqb-false, le-ltb, lt-ltb, ne_eqb}
use Rattle.std.proofs.lemmas.List.Elements.{All-head, All-tail}
use Rattle.std.proofs.lemmas.List.Sums.{sum_by-append, sum_by-cons}
use Rattle.zb_model.specs.declared.data.Content.{Content}
use Rattle.zb_model.specs.declared.data.Content.TheVariants.{Held, Absent}
use Rattle.zb_model.specs.declared.pending.PendingCheck.{PendingCheck}
use Rattle.zb_model.specs.declared.pending.PendingStore.{PendingStore}
use Rattle.zb_model.specs.Database.{IsRecord}
use Rattle.commit_phases.specs.Pending.{excess_with, length_of_content, object_limit, size_of_stores, transaction_limit, with_pending}
use Rattle.zodb_core.specs.declared.reply.Reply.{Reply}
use Rattle.zodb_core.specs.declared.request.Request.{Request}
use Rattle.zodb_core.specs.declared.request.Request.TheVariants as request
use Rattle.connection_view.specs.Loading.{AreVotable}
use Rattle.zeo_frames.specs.Frames.{frames}
use Rattle.zeo_messages.specs.declared.call.Call.{Call}
use Rattle.zeo_messages.specs.declared.call.Call.TheVariants as calls
use Rattle.zeo_messages.specs.declared.message.Message.TheVariants.{Asked}
use Rattle.zeo_messages.specs.Calls.{HoldsCall, fits_call, is_filled, is_short}
use Rattle.zeo_messages.specs.Messages.{payload_of}
use Rattle.zeo_reading.specs.Reading.{AreReadBack}
use Rattle.zeo_desk.specs.declared.asked.Asked.TheVariants as asked
use Rattle.zeo_desk.specs.declared.next.Next.TheVariants.{Send}
use Rattle.zeo_desk.specs.Desks.{DeskState, Turn, asks, begun, called, keeps_still, stored, taken, unless_refused, votes, waiting, with_check, with_store}
use Rattle.zeo_client.specs.Asking.{call_frame, call_frames, check_call, next_number, number_behind, store_call, vote_calls}
use Rattle.remote_loads.specs.Making.{AreHeld}
use Rattle.remote_loads.specs.Served.{Does, DoesFront, Serves, ServesFront, begins, done, goes_on, serves_none, serves_on}
use Rattle.remote_loads.proofs.BrokenCall.{call_taken, front_sent}
use Rattle.remote_loads.proofs.Called.{next_low}
use Rattle.remote_loads.proofs.OneCall.{none_one, was_sent}

-- ---- frames

-- the payloads of calls that follow one another behind the number of one
abbrev pub payloads_behind : ℕ → List Call → List (List ℕ)
payloads_behind number [] = []
payloads_behind number (call ∷ rest) = payload_of (Asked (next_number number) call) ∷ payloads_behind (next_number number) rest

pub frames_spelled : (number : ℕ) (made : List Call) → call_frames number made ≡ frames (payloads_behind number made)
frames_spelled number [] = refl
frames_spelled number (call ∷ rest) = ap (λ (text : List ℕ). call_frame (next_number number) call ++ text) (frames_spelled (next_number number) rest)

-- ---- one call that isn't answered

-- it may be sent, and leaves the desk so
pub record IsSilent (d : DeskState) (call : Call) (left : DeskState) : Type 0 where
  pub held : HoldsCall call
  pub row : fits_call call ≡ true
  pub names : (number : ℕ) → called d number call ≡ keeps_still left
  pub registered : left.registered ≡ d.registered

-- the desk as it is left
abbrev pub stilled : DeskState → DeskState
stilled d = record d { awaited = None }

-- ---- several

-- calls, one after another, none of which is answered
abbrev pub Waits : DeskState → List Call → DeskState → Type 0
Waits d [] left = left ≡ d
Waits d (call ∷ rest) left = (mid : DeskState) × IsSilent d call mid × Waits (stilled mid) rest left

pub waits_twice : (first second : List Call) (d mid left : DeskState) → Waits d first mid → Waits mid second left → Waits d (first ++ second) left
waits_twice [] second d mid left one two = subst (λ (k : DeskState). Waits k second left) one two
waits_twice (call ∷ first) second d mid left one two = (one.0, one.1, waits_twice first second (stilled one.0) mid left one.2 two)

module _ {S : Type 0} (steps : Request → Reply → S → S → Type 0) (read_back : AreReadBack) where
  module _ (d mid : DeskState) (number : ℕ) (call : Call) (registered : d.registered ≡ true) (silent : IsSilent d call mid) where
    takes : taken d (payload_of (Asked (next_number number) call)) ≡ Some (keeps_still mid)
    takes = call_taken read_back d (next_number number) call registered (next_low number) silent.held silent.row ∙ ap (λ (t : Turn). Some t) (silent.names (next_number number))

    turn_is : (payload : List ℕ) (turn : Turn) → payload ≡ payload_of (Asked (next_number number) call) → taken d payload ≡ Some turn → turn ≡ keeps_still mid
    turn_is payload turn head was = let e : ◌≡◌ {A = Option Turn} (Some turn) (Some (keeps_still mid)) = sym was ∙ ap (λ (x : List ℕ). taken d x) head ∙ takes in cc

  serves_on_still : (d mid : DeskState) (number : ℕ) (call : Call) → d.registered ≡ true → IsSilent d call mid → (ps rest : List (List ℕ)) (before now : S) (out : List (List ℕ)) (left : DeskState)
      → Serves steps d ps before out left now → ps ≡ payload_of (Asked (next_number number) call) ∷ rest → Serves steps (stilled mid) rest before out left now
  serves_on_still _ mid number call registered silent _ rest _ _ _ _ (done d s) is = absurd (none_one steps (payload_of (Asked (next_number number) call)) rest is)
  serves_on_still _ mid number call registered silent _ rest _ _ _ _ (goes_on d between left payload more turn s middle behind frames out was does serves) is =
      let head : payload ≡ payload_of (Asked (next_number number) call) = cc in
      let tail : more ≡ rest = cc in
      let same : turn ≡ keeps_still mid = turn_is d mid number call registered silent payload turn head was in
      let still : Does steps (stilled mid) (Send []) s frames between middle = subst (λ (t : Turn). Does steps t.desk t.next s frames between middle) same does in
      let sent = was_sent steps (stilled mid) between (Send []) s middle frames [] still refl in
      let all : Serves steps (stilled mid) rest s out left behind =
      subst (λ (k : DeskState). Serves steps k rest s out left behind) sent.desk
      (subst (λ (x : S). Serves steps between rest x out left behind) sent.state
      (subst (λ (ps : List (List ℕ)). Serves steps between ps middle out left behind) tail serves)) in
      subst (λ (fs : List (List ℕ)). Serves steps (stilled mid) rest s (fs ++ out) left behind) (sym sent.frames_are) all

  -- nothing more is done, or the rest is begun
  abbrev pub Stays : DeskState → List (List ℕ) → S → DeskState → S → Type 0
  Stays d rest before left now = ((left.registered ≡ true) × (now ≡ before)) ⊎ ServesFront steps d rest before left now

  front_on_still : (d mid : DeskState) (number : ℕ) (call : Call) → d.registered ≡ true → IsSilent d call mid → (ps rest : List (List ℕ)) (before now : S) (left : DeskState)
      → ServesFront steps d ps before left now → ps ≡ payload_of (Asked (next_number number) call) ∷ rest → Stays (stilled mid) rest before left now
  front_on_still _ mid number call registered silent _ rest _ _ _ (serves_none d ps s) is = inl (registered, refl)
  front_on_still _ mid number call registered silent _ rest _ _ _ (begins d left payload more turn s behind was does) is =
      let head : payload ≡ payload_of (Asked (next_number number) call) = cc in
      let same : turn ≡ keeps_still mid = turn_is d mid number call registered silent payload turn head was in
      let still : DoesFront steps (stilled mid) (Send []) s left behind = subst (λ (t : Turn). DoesFront steps t.desk t.next s left behind) same does in
      let sent = front_sent steps (stilled mid) left (Send []) s behind [] still refl in
      inl (ap (λ (k : DeskState). k.registered) sent.desk ∙ silent.registered ∙ registered, sent.state)
  front_on_still _ mid number call registered silent _ rest _ _ _ (serves_on d between left payload more turn s middle behind frames was does serves) is =
      let head : payload ≡ payload_of (Asked (next_number number) call) = cc in
      let tail : more ≡ rest = cc in
      let same : turn ≡ keeps_still mid = turn_is d mid number call registered silent payload turn head was in
      let still : Does steps (stilled mid) (Send []) s frames between middle = subst (λ (t : Turn). Does steps t.desk t.next s frames between middle) same does in
      let sent = was_sent steps (stilled mid) between (Send []) s middle frames [] still refl in
      inr (subst (λ (k : DeskState). ServesFront steps k rest s left behind) sent.desk
      (subst (λ (x : S). ServesFront steps between rest x left behind) sent.state
      (subst (λ (ps : List (List ℕ)). ServesFront steps between ps middle left behind) tail serves)))

  pub serves_waits : (made more : List Call) (number : ℕ) (d kept left : DeskState) (before now : S) (out : List (List ℕ)) → d.registered ≡ true → Waits d made kept
      → Serves steps d (payloads_behind number (made ++ more)) before out left now → Serves steps kept (payloads_behind (number_behind number made) more) before out left now
  serves_waits [] more number d kept left before now out registered waits serves = subst (λ (k : DeskState). Serves steps k (payloads_behind number more) before out left now) (sym waits) serves
  serves_waits (call ∷ made) more number d kept left before now out registered waits serves =
      serves_waits made more (next_number number) (stilled waits.0) kept left before now out (waits.1.registered ∙ registered) waits.2
      (serves_on_still d waits.0 number call registered waits.1 (payloads_behind number (call ∷ made ++ more)) (payloads_behind (next_number number) (made ++ more)) before now out left serves refl)

  pub front_waits : (made more : List Call) (number : ℕ) (d kept left : DeskState) (before now : S) → d.registered ≡ true → Waits d made kept
      → ServesFront steps d (payloads_behind number (made ++ more)) before left now → Stays kept (payloads_behind (number_behind number made) more) before left now
  front_waits [] more number d kept left before now registered waits serves = inr (subst (λ (k : DeskState). ServesFront steps k (payloads_behind number more) before left now) (sym waits) serves)
  front_waits (call ∷ made) more number d kept left before now registered waits serves =
      by_front (front_on_still d waits.0 number call registered waits.1 (payloads_behind number (call ∷ made ++ more)) (payloads_behind (next_number number) (made ++ more)) before now left serves refl)
      (λ rest. front_waits made more (next_number number) (stilled waits.0) kept left before now (waits.1.registered ∙ registered) waits.2 rest)
    where
      by_front : Stays (stilled waits.0) (payloads_behind (next_number number) (made ++ more)) before left now
          → (ServesFront steps (stilled waits.0) (payloads_behind (next_number number) (made ++ more)) before left now → Stays kept (payloads_behind (number_behind (next_number number) made) more) before left now)
          → Stays kept (payloads_behind (number_behind (next_number number) made) more) before left now
      by_front (inl none) on = inl none
      by_front (inr rest) on = on rest

-- ---- what waits for a vote

apart_there : (this : ℕ) (first rest : List PendingStore) (p : PendingStore) → AllByRecursion (λ y. nat_eq this y ≡ false) (map (λ q. q.oid) (first ++ p ∷ rest)) → nat_eq this p.oid ≡ false
apart_there this [] rest p all = all.0
apart_there this (q ∷ first) rest p all = apart_there this first rest p all.1

-- a store of an object that none of the others is of goes behind them
pending_behind : (first rest : List PendingStore) (p : PendingStore) → IsDistinct nat_eq (map (λ q. q.oid) (first ++ p ∷ rest)) → with_pending first p ≡ first ++ p ∷ []
unfolding IsDistinct
pending_behind [] rest p distinct = refl
pending_behind (q ∷ first) rest p distinct =
    let apart : nat_eq q.oid p.oid ≡ false = apart_there q.oid first rest p distinct.0 in
    let is : nat_eq p.oid q.oid ≡ false = ne_eqb p.oid q.oid (λ same. eqb-false q.oid p.oid apart (sym same)) in
    ap (λ (b : Bool). cond b (record { oid = q.oid; base = q.base; content = p.content } ∷ first) (q ∷ with_pending first p)) is ∙ ap (λ (xs : List PendingStore). q ∷ xs) (pending_behind first rest p distinct.1)

-- and no length passes a limit
no_excess : (first rest : List PendingStore) (p : PendingStore) → AreVotable (first ++ p ∷ rest) → length_of_content p.content ≤ 2 ^ 24 → excess_with first p ≡ None
no_excess first rest p votable short =
    let size : PendingStore → ℕ = λ q. length_of_content q.content in
    let behind : with_pending first p ≡ first ++ p ∷ [] = pending_behind first rest p votable.distinct in
    let a = sum_by-append size first (p ∷ []) in
    let b = sum_by-append size first (p ∷ rest) in
    let c = sum_by-cons size p rest in
    let d = sum_by-cons size p [] in
    let w = votable.within in
    let fits : sum_by size (first ++ p ∷ []) ≤ 2 ^ 26 = omega (arith, a, b, c, d, w) in
    let all : size_of_stores (with_pending first p) ≤ transaction_limit = subst (λ (xs : List PendingStore). size_of_stores xs ≤ transaction_limit) (sym behind) fits in
    ap (λ (x : Bool). cond x (Some (length_of_content p.content)) (cond (nat_lt transaction_limit (size_of_stores (with_pending first p))) (Some (size_of_stores (with_pending first p))) None)) (le-ltb object_limit (length_of_content p.content) short)
    ∙ ap (λ (x : Bool). let o : Option ℕ = cond x (Some (size_of_stores (with_pending first p))) None in o) (le-ltb transaction_limit (size_of_stores (with_pending first p)) all)

-- ---- the desk of a vote

-- a desk whose client has registered, with these texts, and of which nothing was refused: so much waits there
pub record HasWaiting (d : DeskState) (user description : List ℕ) (stores : List PendingStore) (checks : List PendingCheck) : Type 0 where
  pub registered : d.registered ≡ true
  pub by_user : d.user ≡ user
  pub described : d.description ≡ description
  pub extended : d.extension ≡ []
  pub has_stores : d.stores ≡ stores
  pub has_checks : d.checks ≡ checks
  pub refused : d.refused ≡ None

filled_is : (bytes : List ℕ) → 0 < length bytes → is_filled bytes ≡ true
filled_is [] some = absurd (omega (arith, some))
filled_is (b ∷ bytes) some = refl

module _ (d : DeskState) (user description : List ℕ) where
  -- one more store waits
  module _ (first rest : List PendingStore) (oid base : ℕ) (has : HasWaiting d user description first []) where
    abbrev it : Content → PendingStore
    it content = record { oid = oid; base = base; content = content }

    kept : (content : Content) → AreVotable (first ++ it content ∷ rest) → length_of_content content ≤ 2 ^ 24 → HasWaiting (stilled (with_store d (it content))) user description (first ++ it content ∷ []) []
    kept content votable short = record {
      registered = has.registered;
      by_user = has.by_user;
      described = has.described;
      extended = has.extended;
      has_stores = ap (λ (xs : List PendingStore). with_pending xs (it content)) has.has_stores ∙ pending_behind first rest (it content) votable.distinct;
      has_checks = has.has_checks;
      refused = has.refused;
    }

    excess_none : (content : Content) → AreVotable (first ++ it content ∷ rest) → length_of_content content ≤ 2 ^ 24 → excess_with d.stores (it content) ≡ None
    excess_none content votable short = ap (λ (xs : List PendingStore). excess_with xs (it content)) has.has_stores ∙ no_excess first rest (it content) votable short

    store_silent : (content : Content) → AreVotable (first ++ it content ∷ rest) → length_of_content content ≤ 2 ^ 24 → IsRecord content → HoldsCall (store_call (it content)) → IsSilent d (store_call (it content)) (with_store d (it content))
    store_silent (Held bytes) votable short some held = record {
      held = held;
      row = and_from (is_filled bytes) (nat_lt (length bytes) (2 ^ 32)) (filled_is bytes some) (lt-ltb (length bytes) (2 ^ 32) (omega (arith, short)));
      names = λ number.
          ap (λ (o : Option ℕ). keeps_still (unless_refused o d (stored d (it (Held bytes)) (excess_with d.stores (it (Held bytes)))))) has.refused
          ∙ ap (λ (o : Option ℕ). keeps_still (stored d (it (Held bytes)) o)) (excess_none (Held bytes) votable short);
      registered = refl;
    }
    store_silent Absent votable short some held = record {
      held = held;
      row = refl;
      names = λ number. ap (λ (o : Option ℕ). keeps_still (unless_refused o d (with_store d (it Absent)))) has.refused;
      registered = refl;
    }

  -- one more check
  module _ (stores : List PendingStore) (first : List PendingCheck) (c : PendingCheck) (has : HasWaiting d user description stores first) where
    check_silent : HoldsCall (check_call c) → IsSilent d (check_call c) (with_check d c)
    check_silent held = record { held = held; row = refl; names = λ number. ap (λ (o : Option ℕ). keeps_still (unless_refused o d (with_check d c))) has.refused; registered = refl }

    checked : HasWaiting (stilled (with_check d c)) user description stores (first ++ c ∷ [])
    checked = record {
      registered = has.registered;
      by_user = has.by_user;
      described = has.described;
      extended = has.extended;
      has_stores = has.has_stores;
      has_checks = ap (λ (xs : List PendingCheck). xs ++ c ∷ []) has.has_checks;
      refused = has.refused;
    }

-- calls that leave so much waiting
pub record WaitsFor (d : DeskState) (made : List Call) (user description : List ℕ) (stores : List PendingStore) (checks : List PendingCheck) : Type 0 where
  pub left : DeskState
  pub waits : Waits d made left
  pub has : HasWaiting left user description stores checks

abbrev pub EachHeld : {T : Type 0} → (T → Call) → List T → Type 0
EachHeld call items = AllByRecursion (λ x. HoldsCall (call x)) items

held_first : (first last : List Call) → AreHeld (first ++ last) → AreHeld first
held_first [] last held = tt
held_first (call ∷ first) last held = (held.0, held_first first last held.1)

held_last : (first last : List Call) → AreHeld (first ++ last) → AreHeld last
held_last [] last held = held
held_last (call ∷ first) last held = held_last first last held.1

each_held : {T : Type 0} (call : T → Call) (items : List T) → AreHeld (map call items) → EachHeld call items
each_held call [] held = tt
each_held call (x ∷ items) held = (held.0, each_held call items held.1)

stores_wait : (first rest : List PendingStore) (d : DeskState) (user description : List ℕ) → HasWaiting d user description first [] → AreVotable (first ++ rest) → All (λ p. IsRecord p.content) rest → All (λ p. length_of_content p.content ≤ 2 ^ 24) rest
    → EachHeld store_call rest → WaitsFor d (map store_call rest) user description (first ++ rest) []
stores_wait first [] d user description has votable filled short held = record { left = d; waits = refl; has = subst (λ (xs : List PendingStore). HasWaiting d user description xs []) (sym (append-nil first)) has }
stores_wait first (p ∷ rest) d user description has votable filled short held =
    let small : length_of_content p.content ≤ 2 ^ 24 = All-head (λ (q : PendingStore). length_of_content q.content ≤ 2 ^ 24) p rest short in
    let again : (first ++ p ∷ []) ++ rest ≡ first ++ p ∷ rest = append_assoc first (p ∷ []) rest in
    let one = store_silent d user description first rest p.oid p.base has p.content votable small (All-head (λ (q : PendingStore). IsRecord q.content) p rest filled) held.0 in
    let more = stores_wait (first ++ p ∷ []) rest (stilled (with_store d p)) user description (kept d user description first rest p.oid p.base has p.content votable small)
    (subst (λ (xs : List PendingStore). AreVotable xs) (sym again) votable) (All-tail (λ (q : PendingStore). IsRecord q.content) p rest filled)
    (All-tail (λ (q : PendingStore). length_of_content q.content ≤ 2 ^ 24) p rest short) held.1 in
    record { left = more.left; waits = (with_store d p, one, more.waits); has = subst (λ (xs : List PendingStore). HasWaiting more.left user description xs []) again more.has }

checks_wait : (stores : List PendingStore) (first rest : List PendingCheck) (d : DeskState) (user description : List ℕ) → HasWaiting d user description stores first → EachHeld check_call rest
    → WaitsFor d (map check_call rest) user description stores (first ++ rest)
checks_wait stores first [] d user description has held = record { left = d; waits = refl; has = subst (λ (xs : List PendingCheck). HasWaiting d user description stores xs) (sym (append-nil first)) has }
checks_wait stores first (c ∷ rest) d user description has held =
    let more = checks_wait stores (first ++ c ∷ []) rest (stilled (with_check d c)) user description (checked d user description stores first c has) held.1 in
    record {
      left = more.left;
      waits = (with_check d c, check_silent d user description stores first c has held.0, more.waits);
      has = subst (λ (xs : List PendingCheck). HasWaiting more.left user description stores xs) (append_assoc first (c ∷ []) rest) more.has;
    }

short_is : (text : List ℕ) → length text ≤ 65535 → is_short text ≡ true
short_is text short = lt-ltb (length text) 65536 (omega (arith, short))

-- the calls of a vote but the last
abbrev pub before_vote : List ℕ → List ℕ → List PendingStore → List PendingCheck → List Call
before_vote user description stores checks = calls.TpcBegin user description [] ∷ (map store_call stores ++ map check_call checks)

pub vote_waits : (d : DeskState) (user description : List ℕ) (stores : List PendingStore) (checks : List PendingCheck) → d.registered ≡ true → length user ≤ 65535 → length description ≤ 65535 → AreVotable stores
    → AreHeld (vote_calls user description stores checks) → WaitsFor d (before_vote user description stores checks) user description stores checks
vote_waits d user description stores checks registered short_user short_description votable all =
    let both : AreHeld (map store_call stores ++ map check_call checks) = held_first (map store_call stores ++ map check_call checks) (calls.Vote ∷ []) all.1 in
    let held : EachHeld store_call stores = each_held store_call stores (held_first (map store_call stores) (map check_call checks) both) in
    let checked_held : EachHeld check_call checks = each_held check_call checks (held_last (map store_call stores) (map check_call checks) both) in
    let texts : IsSilent d (calls.TpcBegin user description []) (begun d user description []) = record {
      held = tt;
      row = and_from (is_short user) (is_short description && is_short []) (short_is user short_user) (and_from (is_short description) (is_short []) (short_is description short_description) refl);
      names = λ number. refl;
      registered = refl;
    } in
    let has : HasWaiting (stilled (begun d user description [])) user description [] [] =
    record { registered = registered; by_user = refl; described = refl; extended = refl; has_stores = refl; has_checks = refl; refused = refl } in
    let one = stores_wait [] stores (stilled (begun d user description [])) user description has votable votable.filled votable.short held in
    let two = checks_wait stores [] checks one.left user description one.has checked_held in
    record { left = two.left; waits = (begun d user description [], texts, waits_twice (map store_call stores) (map check_call checks) (stilled (begun d user description [])) one.left two.left one.waits two.waits); has = two.has }

-- and what the vote behind them asks for
pub vote_named : (d : DeskState) (user description : List ℕ) (stores : List PendingStore) (checks : List PendingCheck) (number : ℕ) → HasWaiting d user description stores checks
    → called d number calls.Vote ≡ asks d number asked.Other (request.Vote user description [] (record { stores = stores; checks = checks }))
vote_named d user description stores checks number has =
    ap (λ (o : Option ℕ). votes d number o) has.refused
    ∙ ap (λ (t : List ℕ). asks d number asked.Other (request.Vote t d.description d.extension (waiting d))) has.by_user
    ∙ ap (λ (t : List ℕ). asks d number asked.Other (request.Vote user t d.extension (waiting d))) has.described
    ∙ ap (λ (t : List ℕ). asks d number asked.Other (request.Vote user description t (waiting d))) has.extended
    ∙ ap (λ (xs : List PendingStore). asks d number asked.Other (request.Vote user description [] (record { stores = xs; checks = d.checks }))) has.has_stores
    ∙ ap (λ (xs : List PendingCheck). asks d number asked.Other (request.Vote user description [] (record { stores = stores; checks = xs }))) has.has_checks

pub number_last : (number : ℕ) (made : List Call) (call : Call) → number_behind number (made ++ call ∷ []) ≡ next_number (number_behind number made)
number_last number [] call = refl
number_last number (c ∷ made) call = number_last (next_number number) made call
