-- How clients stand behind a line: as they stood, or one knows the list as it stands.
use Rattle.std.proofs.Common.{Bool, Err, List, None, Ok, Option, Result, Some, [], ap, arith, cond, false, inl, inr, length, nat_lt, refl, subst, suc, sym, true, zero, ℕ, ◌+◌, ◌++◌, ◌∙◌, ◌∷◌, ◌≡◌, ◌≤◌, ◌⊎◌, if◌then◌else◌}
use Rattle.std.specs.Prelude.{bytes_eq, not, slice_get, slice_set}
use Rattle.std.specs.List.{AllByRecursion, prefix_len}
use Rattle.std.specs.Option.{option_map}
use Rattle.std.proofs.lemmas.Bool.{le-ltb, lt-ltb, ltb-false, ltb-true}
use Rattle.zb_base.specs.Lists.{each_more}
use Rattle.zb_model.specs.declared.pending.PendingStore.{PendingStore}
use Rattle.zb_model.specs.declared.refusal.Refusal.{Refusal}
use Rattle.zb_answers.specs.declared.answer.Answer.{Answer}
use Rattle.zb_script.specs.declared.line.Line.{Line}
use Rattle.zb_script.specs.declared.line.Line.TheVariants as line
use Rattle.zb_script.specs.declared.tree_call.TreeCall.{TreeCall}
use Rattle.commit_phases.specs.Pending.{pending_of}
use Rattle.tree_attempts.specs.declared.attempt.Made.{Made}
use Rattle.zodb_core.specs.declared.reply.Reply.{Reply}
use Rattle.zodb_core.specs.declared.reply.Reply.TheVariants as reply
use Rattle.zodb_core.specs.declared.request.Request.{Request}
use Rattle.zodb_core.specs.Machine.{Machine, Rules, front_of, session_limit}
use Rattle.connection_view.specs.Views.{View}
use Rattle.client_turns.specs.Clients.{Client, Linked, Local, Moment, OpenTransaction, Standing, client_found, client_named, has_name, place_of_client, with_transaction}
use Rattle.client_turns.specs.Laws.{KnowsUpTo}
use Rattle.client_turns.specs.Lines.{Changed, asking_excess, client_left, client_told, is_committed, is_delivery, known_behind, outcome_of_result, request_of, standing_behind, with_changes}
use Rattle.client_turns.specs.Refusing.{connection_refusal}
use Rattle.client_turns.specs.DrawLaws.{LeavesCall, call_leaves}
use Rattle.client_turns.specs.Clients.{changes_of}
use Rattle.client_turns.specs.Steps.{IsChange}
use Rattle.client_turns.specs.Trees.{IsTreeEnd, IsTreeLine, operation_of}
use Rattle.client_turns.specs.TurnLaws.{Opens, by_name, told_list}
use Rattle.client_turns.specs.Turns.{IsClosed, IsClosing, IsGet, IsLine, IsLineOf, IsLineTaken, IsLineUnless, IsOutside, IsOwnLine, IsPut, IsStepLine, IsStepUnless, IsTold, IsWithin, fronts_behind, opened, opened_if}

-- ---- one client

-- A client as a line leaves it: it has its name and its session, and a local one stays so. What it knows behind a link is what it knew, or has this front.
pub record IsLeftAs (front : ℕ) (c d : Client) : Type 0 where
  pub name : d.name ≡ c.name
  pub session : d.session ≡ c.session
  pub near : c.standing ≡ Local → d.standing ≡ Local
  pub known : (v : View) → d.standing ≡ Linked v → (c.standing ≡ Linked v) ⊎ (v.front ≡ front)

left_alike : (front : ℕ) (c d : Client) → d.name ≡ c.name → d.session ≡ c.session → d.standing ≡ c.standing → IsLeftAs front c d
left_alike front c d named numbered stands = record { name = named; session = numbered; near = λ near. stands ∙ near; known = λ v linked. inl (sym stands ∙ linked) }

pub same_view : (a b : View) → Linked a ≡ Linked b → a ≡ b
same_view a b is = cc

known_so : (m : Machine) (known : View) (r : Reply) → (known_behind m known r ≡ known) ⊎ ((known_behind m known r).front ≡ front_of m.list)
known_so m known (reply.Front front news switches) = inr refl
known_so m known (reply.Committed tid) = inr refl
known_so m known _ = inl refl

stands_so : (m : Machine) (s : Standing) (r : Reply) (v : View) → standing_behind m s r ≡ Linked v → (s ≡ Linked v) ⊎ (v.front ≡ front_of m.list)
stands_so m Local r v is = absurd cc
stands_so m (Linked known) r v is = by_known (known_so m known r)
  where
    by_known : (known_behind m known r ≡ known) ⊎ ((known_behind m known r).front ≡ front_of m.list) → (Linked known ≡ Linked v) ⊎ (v.front ≡ front_of m.list)
    by_known (inl same) = inl (ap (λ (x : View). Linked x) (sym same) ∙ is)
    by_known (inr front) = inr (ap (λ (x : View). x.front) (sym (same_view (known_behind m known r) v is)) ∙ front)

local_behind : (m : Machine) (s : Standing) (r : Reply) → s ≡ Local → standing_behind m s r ≡ Local
local_behind m Local r near = refl
local_behind m (Linked known) r near = absurd cc

told_left : (d : Bool) (m : Machine) (c : Client) (r : Reply) → IsLeftAs (front_of m.list) c (client_told m r (client_left d m c r))
told_left false m c r = record { name = refl; session = refl; near = local_behind m c.standing r; known = stands_so m c.standing r }
told_left true m c r = record { name = refl; session = refl; near = local_behind m c.standing r; known = stands_so m c.standing r }

-- ---- all clients

-- clients behind a line: the same, or one is another, or there is one more
pub data ClientsGo (front : ℕ) (cs ds : List Client) : Type 0 where
  stay : ds ≡ cs → ClientsGo front cs ds
  changed : (at : ℕ) (c d : Client) → slice_get cs at ≡ Some c → IsLeftAs front c d → ds ≡ slice_set cs at d → ClientsGo front cs ds
  joined : (d : Client) → ((v : View) → d.standing ≡ Linked v → v.front ≡ front) → ds ≡ cs ++ d ∷ [] → ClientsGo front cs ds

go_to : (front : ℕ) (cs ds es : List Client) → ds ≡ cs → ClientsGo front ds es → ClientsGo front cs es
go_to front cs ds es same goes = subst (λ (xs : List Client). ClientsGo front xs es) same goes

pub told_clients : (rules : Rules) (b t : Moment) (n count : ℕ) → IsTold rules count b n t → t.clients ≡ b.clients
told_clients rules b t n zero told = ap (λ (x : Moment). x.clients) told
told_clients rules b t n (suc count) (r, next, step, rest) = told_clients rules next t n count rest ∙ step.clients

change_goes : (front : ℕ) (m now : Moment) (at : ℕ) (c : Client) (t : OpenTransaction) (w : Changed) (a : Answer) → slice_get m.clients at ≡ Some c → IsChange m at c t w a now → ClientsGo front m.clients now.clients
change_goes front m now at c t w a there is = changed at c (with_changes c t w.changes) there (left_alike front c (with_changes c t w.changes) refl refl refl) (ap (λ (x : Moment). x.clients) is.1)

get_goes : (front : ℕ) (m now : Moment) (v : OpenTransaction) (oid : ℕ) (o : Option PendingStore) (a : Answer) → IsGet m v oid o a now → ClientsGo front m.clients now.clients
get_goes front m now v oid None a is = stay (ap (λ (x : Moment). x.clients) is.1.rest)
get_goes front m now v oid (Some p) a is = stay (ap (λ (x : Moment). x.clients) is.1)

put_goes : (front : ℕ) (m now : Moment) (at : ℕ) (c : Client) (t : OpenTransaction) (oid : ℕ) (bytes : List ℕ) (o : Option PendingStore) (a : Answer) → slice_get m.clients at ≡ Some c → IsPut m at c t oid bytes o a now → ClientsGo front m.clients now.clients
put_goes front m now at c t oid bytes None a there is =
    let same : is.1.clients ≡ m.clients = ap (λ (x : Moment). x.clients) is.2.rest in
    go_to front m.clients is.1.clients now.clients same (change_goes front is.1 now at c t _ a (ap (λ (xs : List Client). slice_get xs at) same ∙ there) is.3)
put_goes front m now at c t oid bytes (Some p) a there is = change_goes front m now at c t _ a there is

pub end_goes : (front : ℕ) (b now : Moment) (at : ℕ) (c : Client) (t : OpenTransaction) (result : Result Made Refusal) (a : Answer) → slice_get b.clients at ≡ Some c → IsTreeEnd b at c t result a now → ClientsGo front b.clients now.clients
end_goes front b now at c t (Ok made) a there (inl change) = change_goes front b now at c t _ a there change
end_goes front b now at c t (Ok made) a there (inr starved) = stay (ap (λ (x : Moment). x.clients) starved.1)
end_goes front b now at c t (Err why) a there refused = stay (ap (λ (x : Moment). x.clients) refused.1)

tree_goes : (front : ℕ) (m now : Moment) (at : ℕ) (c : Client) (t : OpenTransaction) (root : ℕ) (call : TreeCall) (a : Answer) → slice_get m.clients at ≡ Some c → IsTreeLine m at c t root call a now → ClientsGo front m.clients now.clients
tree_goes front m now at c t root call a there is =
    let leaves : LeavesCall m (outcome_of_result is.result) is.behind = call_leaves m c.session t root (operation_of call) is.result is.behind is.ends in
    go_to front m.clients is.behind.clients now.clients leaves.clients (end_goes front is.behind now at c t is.result a (ap (λ (xs : List Client). slice_get xs at) leaves.clients ∙ there) is.end)

within_goes : (front : ℕ) (m now : Moment) (at : ℕ) (c : Client) (t : OpenTransaction) (l : Line) (a : Answer) → slice_get m.clients at ≡ Some c → IsWithin m at c t l a now → ClientsGo front m.clients now.clients
within_goes front m now at c t (line.Load oid) a there is = stay (ap (λ (x : Moment). x.clients) is.1.rest)
within_goes front m now at c t (line.Get oid) a there is = get_goes front m now t oid (pending_of t.changes.pending.stores oid) a is
within_goes front m now at c t (line.Store oid base bytes) a there is = change_goes front m now at c t _ a there is
within_goes front m now at c t (line.Put oid bytes) a there is = put_goes front m now at c t oid bytes (pending_of t.changes.pending.stores oid) a there is
within_goes front m now at c t (line.Check oid serial) a there is = change_goes front m now at c t _ a there is
within_goes front m now at c t (line.Delete oid base) a there is = change_goes front m now at c t _ a there is
within_goes front m now at c t line.Savepoint a there is = change_goes front m now at c t _ a there is
within_goes front m now at c t (line.Rollback number) a there is = change_goes front m now at c t _ a there is
within_goes front m now at c t (line.Tree root call) a there is = tree_goes front m now at c t root call a there is
within_goes front m now at c t _ a there is = stay (ap (λ (x : Moment). x.clients) is.1)

outside_goes : (front : ℕ) (m now : Moment) (at : ℕ) (c : Client) (s : Standing) (a : Answer) → slice_get m.clients at ≡ Some c → IsOutside m at c s a now → ClientsGo front m.clients now.clients
outside_goes front m now at c Local a there is = stay (ap (λ (x : Moment). x.clients) is.1)
outside_goes front m now at c (Linked known) a there is = changed at c (with_transaction c _) there (left_alike front c (with_transaction c _) refl refl refl) (ap (λ (x : Moment). x.clients) is.1)

own_goes : (front : ℕ) (m now : Moment) (at : ℕ) (c : Client) (t : Option OpenTransaction) (l : Line) (a : Answer) → slice_get m.clients at ≡ Some c → IsOwnLine m at c t l a now → ClientsGo front m.clients now.clients
own_goes front m now at c None l a there is = outside_goes front m now at c c.standing a there is
own_goes front m now at c (Some t) l a there is = within_goes front m now at c t l a there is

pub step_goes : (rules : Rules) (m now : Moment) (at : ℕ) (c : Client) (d : Bool) (q : Request) (a : Answer) → slice_get m.clients at ≡ Some c → IsStepLine rules m at c d q a now → ClientsGo (front_of now.machine.list) m.clients now.clients
step_goes rules m now at c d q a there is =
    let same : is.told.clients ≡ m.clients = told_clients rules is.behind is.told c.session (fronts_behind (is_committed is.reply) c.standing) is.front ∙ is.step.clients in
    let left : Client = client_told is.told.machine is.reply (client_left d is.told.machine c is.reply) in
    go_to (front_of now.machine.list) m.clients is.told.clients now.clients same
    (changed at c left (ap (λ (xs : List Client). slice_get xs at) same ∙ there)
    (subst (λ (x : Machine). IsLeftAs (front_of x.list) c left) (sym (ap (λ (x : Moment). x.machine) is.left)) (told_left d is.told.machine c is.reply))
    (ap (λ (x : Moment). x.clients) is.left))

long_goes : (rules : Rules) (m now : Moment) (at : ℕ) (c : Client) (d : Bool) (q : Request) (e : Option ℕ) (a : Answer) → slice_get m.clients at ≡ Some c → IsStepUnless rules m at c d q e a now → ClientsGo (front_of now.machine.list) m.clients now.clients
long_goes rules m now at c d q None a there is = step_goes rules m now at c d q a there is
long_goes rules m now at c d q (Some n) a there is = stay (ap (λ (x : Moment). x.clients) is.1)

taken_goes : (rules : Rules) (m now : Moment) (at : ℕ) (c : Client) (l : Line) (q : Option Request) (a : Answer) → slice_get m.clients at ≡ Some c → IsLineTaken rules m at c l q a now → ClientsGo (front_of now.machine.list) m.clients now.clients
taken_goes rules m now at c l (Some q) a there is = long_goes rules m now at c (is_delivery l) q (asking_excess c.standing q) a there is
taken_goes rules m now at c l None a there is = own_goes (front_of now.machine.list) m now at c c.transaction l a there is

pub unless_goes : (rules : Rules) (m now : Moment) (at : ℕ) (c : Client) (l : Line) (r : Option Refusal) (a : Answer) → slice_get m.clients at ≡ Some c → IsLineUnless rules m at c l r a now → ClientsGo (front_of now.machine.list) m.clients now.clients
unless_goes rules m now at c l (Some why) a there is = stay (ap (λ (x : Moment). x.clients) is.1)
unless_goes rules m now at c l None a there is = taken_goes rules m now at c l (request_of c.standing (changes_of c) l) a there is

line_of_goes : (rules : Rules) (m now : Moment) (at : Option ℕ) (l : Line) (a : Answer) → IsLineOf rules m at l a now → ClientsGo (front_of now.machine.list) m.clients now.clients
line_of_goes rules m now None l a is = stay (ap (λ (x : Moment). x.clients) is.1)
line_of_goes rules m now (Some at) l a is = unless_goes rules m now at is.0 l (connection_refusal m.machine is.0 l) a is.1 is.2

opened_goes : (m : Moment) (name : List ℕ) (s : Standing) (b : Bool) → ((v : View) → s ≡ Linked v → v.front ≡ front_of m.machine.list) → ClientsGo (front_of m.machine.list) m.clients (opened_if b m name s).moment.clients
opened_goes m name s true known = joined (record { name = name; session = length m.machine.sessions; transaction = None; standing = s }) known refl
opened_goes m name s false known = stay refl

opened_front : (m : Moment) (name : List ℕ) (s : Standing) (b : Bool) → (opened_if b m name s).moment.machine.list ≡ m.machine.list
opened_front m name s true = refl
opened_front m name s false = refl

opening_goes : (rules : Rules) (m now : Moment) (name : List ℕ) (a : Answer) → Opens rules m name a now → ClientsGo (front_of now.machine.list) m.clients now.clients
opening_goes rules m now name a is =
    let n : ℕ = length m.machine.sessions in
    let room : Bool = nat_lt n session_limit in
    let begun : Moment = (opened m name is.standing).moment in
    let front : front_of now.machine.list ≡ front_of m.machine.list = ap front_of (told_list rules begun now n is.count is.fronts ∙ opened_front m name is.standing room) in
    subst (λ (f : ℕ). ClientsGo f m.clients now.clients) (sym front)
    (subst (ClientsGo (front_of m.machine.list) m.clients) (sym (told_clients rules begun now n is.count is.fronts))
    (opened_goes m name is.standing room (λ v linked. ap (λ (x : View). x.front) (is.is_new v linked))))

pub line_clients : (rules : Rules) (m now : Moment) (name : List ℕ) (l : Line) (a : Answer) → IsLine rules m name l a now → ClientsGo (front_of now.machine.list) m.clients now.clients
line_clients rules m now name l a is =
    by_name rules m now name l a (ClientsGo (front_of now.machine.list) m.clients now.clients) (opening_goes rules m now name a) (line_of_goes rules m now (place_of_client name m.clients) l a) is

closed_clients : (rules : Rules) (m now : Moment) (at : Option ℕ) → IsClosed rules m at now → now.clients ≡ m.clients
closed_clients rules m now None is = ap (λ (x : Moment). x.clients) is
closed_clients rules m now (Some at) is = is.1.2.clients

pub closing_clients : (rules : Rules) (m now : Moment) (name : List ℕ) (last : Bool) → IsClosing rules m name last now → now.clients ≡ m.clients
closing_clients rules m now name false is = ap (λ (x : Moment). x.clients) is
closing_clients rules m now name true is = closed_clients rules m now (place_of_client name m.clients) is

-- ---- what is known is no newer than the list

knows : (front : ℕ) (s : Standing) → ((v : View) → s ≡ Linked v → v.front ≤ front) → KnowsUpTo front s
knows front Local known = tt
knows front (Linked v) known = known v refl

pub known_up_to : (front : ℕ) (s : Standing) → KnowsUpTo front s → (v : View) → s ≡ Linked v → v.front ≤ front
known_up_to front Local up v is = absurd cc
known_up_to front (Linked w) up v is = subst (λ (x : View). x.front ≤ front) (same_view w v is) up

later_known : (low front : ℕ) (s : Standing) → low ≤ front → KnowsUpTo low s → KnowsUpTo front s
later_known low front Local up known = tt
later_known low front (Linked v) up known = omega (arith, up, known)

abbrev pub AllKnow : ℕ → List Client → Type 0
AllKnow front cs = AllByRecursion (λ c. KnowsUpTo front c.standing) cs

pub all_later : (low front : ℕ) (cs : List Client) → low ≤ front → AllKnow low cs → AllKnow front cs
all_later low front [] up all = tt
all_later low front (c ∷ cs) up all = (later_known low front c.standing up all.0, all_later low front cs up all.1)

left_knows : (low front : ℕ) (c d : Client) → low ≤ front → IsLeftAs front c d → KnowsUpTo low c.standing → KnowsUpTo front d.standing
left_knows low front c d up left known = knows front d.standing (λ v linked. by_known v (left.known v linked))
  where
    by_known : (v : View) → (c.standing ≡ Linked v) ⊎ (v.front ≡ front) → v.front ≤ front
    by_known v (inl same) = omega (arith, up, known_up_to low c.standing known v same)
    by_known v (inr is) = omega (arith, is)

pub same_client : (a b : Client) → Some a ≡ Some b → a ≡ b
same_client a b e = cc

set_knows : (low front : ℕ) (cs : List Client) (at : ℕ) (c d : Client) → low ≤ front → slice_get cs at ≡ Some c → IsLeftAs front c d → AllKnow low cs → AllKnow front (slice_set cs at d)
set_knows low front [] at c d up there left all = tt
set_knows low front (e ∷ cs) zero c d up there left all =
    (left_knows low front c d up left (subst (λ (x : Client). KnowsUpTo low x.standing) (same_client e c there) all.0), all_later low front cs up all.1)
set_knows low front (e ∷ cs) (suc at) c d up there left all = (later_known low front e.standing up all.0, set_knows low front cs at c d up there left all.1)

-- behind a line that leaves a front which isn't lower
pub go_knows : (low front : ℕ) (cs ds : List Client) → low ≤ front → ClientsGo front cs ds → AllKnow low cs → AllKnow front ds
go_knows low front cs ds up (stay is) all = subst (AllKnow front) (sym is) (all_later low front cs up all)
go_knows low front cs ds up (changed at c d there left is) all = subst (AllKnow front) (sym is) (set_knows low front cs at c d up there left all)
go_knows low front cs ds up (joined d known is) all =
    subst (AllKnow front) (sym is) (each_more (λ (c : Client). KnowsUpTo front c.standing) cs d (all_later low front cs up all) (knows front d.standing (λ v linked. omega (arith, known v linked))))

-- ---- what the client of a name knows

-- what a client knows behind a link isn't below a front
abbrev pub KnowsFrom : ℕ → Option Client → Type 0
KnowsFrom low None = Unit {0}
KnowsFrom low (Some c) = (v : View) → c.standing ≡ Linked v → low ≤ v.front

-- the place of the first client of a name, and that client, by the list
abbrev pub first_place : List ℕ → List Client → Option ℕ
first_place name [] = None
first_place name (c ∷ cs) = cond (has_name name c) (Some 0) (option_map suc (first_place name cs))

abbrev pub first_of : List ℕ → List Client → Option Client
first_of name [] = None
first_of name (c ∷ cs) = cond (has_name name c) (Some c) (first_of name cs)

place_behind : (name : List ℕ) (c : Client) (cs : List Client) (b : Bool) (k : ℕ) → (if nat_lt k (length cs) then Some k else None) ≡ first_place name cs
    → (if nat_lt (cond (not b) (1 + k) 0) (length (c ∷ cs)) then Some (cond (not b) (1 + k) 0) else None) ≡ cond b (Some 0) (option_map suc (first_place name cs))
place_behind name c cs true k rest = ap (λ (b : Bool). if b then Some 0 else None) (lt-ltb 0 (length (c ∷ cs)) (omega arith))
place_behind name c cs false k rest =
    let one : suc k ≡ 1 + k = omega arith in
    subst (λ (n : ℕ). (if nat_lt n (length (c ∷ cs)) then Some n else None) ≡ option_map suc (first_place name cs)) one (by_room (nat_lt k (length cs)) refl rest)
  where
    by_room : (b : Bool) → nat_lt k (length cs) ≡ b → (if b then Some k else None) ≡ first_place name cs → (if nat_lt (suc k) (length (c ∷ cs)) then Some (suc k) else None) ≡ option_map suc (first_place name cs)
    by_room true is rest =
        let more : nat_lt (suc k) (length (c ∷ cs)) ≡ true = lt-ltb (suc k) (length (c ∷ cs)) (omega (arith, ltb-true k (length cs) is)) in
        subst (λ (b : Bool). (if b then Some (suc k) else None) ≡ option_map suc (first_place name cs)) (sym more) (ap (option_map suc) rest)
    by_room false is rest =
        let more : nat_lt (suc k) (length (c ∷ cs)) ≡ false = le-ltb (suc k) (length (c ∷ cs)) (omega (arith, ltb-false k (length cs) is)) in
        subst (λ (b : Bool). (if b then Some (suc k) else None) ≡ option_map suc (first_place name cs)) (sym more) (ap (option_map suc) rest)

place_first : (name : List ℕ) (cs : List Client) → place_of_client name cs ≡ first_place name cs
place_first name [] = refl
place_first name (c ∷ cs) = place_behind name c cs (has_name name c) (prefix_len (λ (d : Client). not (has_name name d)) cs) (place_first name cs)

found_behind : (c : Client) (cs : List Client) (o : Option ℕ) → client_found (c ∷ cs) (option_map suc o) ≡ client_found cs o
found_behind c cs None = refl
found_behind c cs (Some k) = refl

found_first : (name : List ℕ) (cs : List Client) → client_found cs (first_place name cs) ≡ first_of name cs
found_first name [] = refl
found_first name (c ∷ cs) = by_name (has_name name c) (found_behind c cs (first_place name cs) ∙ found_first name cs)
  where
    by_name : (b : Bool) → client_found (c ∷ cs) (option_map suc (first_place name cs)) ≡ first_of name cs → client_found (c ∷ cs) (cond b (Some 0) (option_map suc (first_place name cs))) ≡ cond b (Some c) (first_of name cs)
    by_name true rest = refl
    by_name false rest = rest

pub named_first : (name : List ℕ) (cs : List Client) → client_named name cs ≡ first_of name cs
named_first name cs = ap (client_found cs) (place_first name cs) ∙ found_first name cs

left_from : (low front : ℕ) (c d : Client) → low ≤ front → IsLeftAs front c d → KnowsFrom low (Some c) → KnowsFrom low (Some d)
left_from low front c d up left from v linked = by_known (left.known v linked)
  where
    by_known : (c.standing ≡ Linked v) ⊎ (v.front ≡ front) → low ≤ v.front
    by_known (inl same) = from v same
    by_known (inr is) = omega (arith, up, is)

behind_name : (P : Option Client → Type 0) (e : Client) (b : Bool) (o p : Option Client) → (P o → P p) → P (cond b (Some e) o) → P (cond b (Some e) p)
behind_name P e true o p rest from = from
behind_name P e false o p rest from = rest from

set_from : (name : List ℕ) (low front : ℕ) (cs : List Client) (at : ℕ) (c d : Client) → low ≤ front → slice_get cs at ≡ Some c → IsLeftAs front c d → KnowsFrom low (first_of name cs) → KnowsFrom low (first_of name (slice_set cs at d))
set_from name low front [] at c d up there left from = tt
set_from name low front (e ∷ cs) zero c d up there left from =
    by_name (has_name name e) (ap (λ (n : List ℕ). bytes_eq n name) (left.name ∙ ap (λ (x : Client). x.name) (sym (same_client e c there)))) from
  where
    by_name : (b : Bool) → has_name name d ≡ b → KnowsFrom low (cond b (Some e) (first_of name cs)) → KnowsFrom low (cond (has_name name d) (Some d) (first_of name cs))
    by_name true is from = rw is (left_from low front c d up left (subst (λ (x : Client). KnowsFrom low (Some x)) (same_client e c there) from))
    by_name false is from = rw is from
set_from name low front (e ∷ cs) (suc at) c d up there left from = behind_name (KnowsFrom low) e (has_name name e) (first_of name cs) (first_of name (slice_set cs at d)) (set_from name low front cs at c d up there left) from

more_from : (name : List ℕ) (low : ℕ) (cs : List Client) (d : Client) → KnowsFrom low (Some d) → KnowsFrom low (first_of name cs) → KnowsFrom low (first_of name (cs ++ d ∷ []))
more_from name low [] d new from = by_name (has_name name d)
  where
    by_name : (b : Bool) → KnowsFrom low (cond b (Some d) None)
    by_name true = new
    by_name false = tt
more_from name low (e ∷ cs) d new from = behind_name (KnowsFrom low) e (has_name name e) (first_of name cs) (first_of name (cs ++ d ∷ [])) (more_from name low cs d new) from

first_goes : (name : List ℕ) (low front : ℕ) (cs ds : List Client) → low ≤ front → ClientsGo front cs ds → KnowsFrom low (first_of name cs) → KnowsFrom low (first_of name ds)
first_goes name low front cs ds up (stay is) from = subst (λ (xs : List Client). KnowsFrom low (first_of name xs)) (sym is) from
first_goes name low front cs ds up (changed at c d there left is) from = subst (λ (xs : List Client). KnowsFrom low (first_of name xs)) (sym is) (set_from name low front cs at c d up there left from)
first_goes name low front cs ds up (joined d known is) from =
    subst (λ (xs : List Client). KnowsFrom low (first_of name xs)) (sym is) (more_from name low cs d (λ v linked. omega (arith, up, known v linked)) from)

-- what the client of a name knows stays as high, behind a line that leaves a list with a front as high
pub named_goes : (name : List ℕ) (low front : ℕ) (cs ds : List Client) → low ≤ front → ClientsGo front cs ds → KnowsFrom low (client_named name cs) → KnowsFrom low (client_named name ds)
named_goes name low front cs ds up goes from =
    subst (KnowsFrom low) (sym (named_first name ds)) (first_goes name low front cs ds up goes (subst (KnowsFrom low) (named_first name cs) from))

-- the client in the place of the first one of a name is the first one of its name
same_place : (a b : ℕ) → Some a ≡ Some b → a ≡ b
same_place a b e = cc

set_first : (name : List ℕ) (cs : List Client) (at : ℕ) (d : Client) → first_place name cs ≡ Some at → has_name name d ≡ true → first_of name (slice_set cs at d) ≡ Some d
set_first name [] at d place has = absurd cc
set_first name (e ∷ cs) at d place has = by_name (has_name name e) refl place (λ k is. set_first name cs k d is has)
  where
    by_place : (o : Option ℕ) → has_name name e ≡ false → first_place name cs ≡ o → option_map suc o ≡ Some at → ((k : ℕ) → first_place name cs ≡ Some k → first_of name (slice_set cs k d) ≡ Some d) → first_of name (slice_set (e ∷ cs) at d) ≡ Some d
    by_place None not is place rest = absurd cc
    by_place (Some k) not is place rest =
        subst (λ (n : ℕ). first_of name (slice_set (e ∷ cs) n d) ≡ Some d) (same_place (suc k) at place)
        (ap (λ (b : Bool). cond b (Some e) (first_of name (slice_set cs k d))) not ∙ rest k is)

    by_name : (b : Bool) → has_name name e ≡ b → cond b (Some 0) (option_map suc (first_place name cs)) ≡ Some at → ((k : ℕ) → first_place name cs ≡ Some k → first_of name (slice_set cs k d) ≡ Some d) → first_of name (slice_set (e ∷ cs) at d) ≡ Some d
    by_name true is place rest =
        subst (λ (n : ℕ). first_of name (slice_set (e ∷ cs) n d) ≡ Some d) (same_place 0 at place) (ap (λ (b : Bool). cond b (Some d) (first_of name cs)) has)
    by_name false is place rest = by_place (first_place name cs) is refl place rest

place_has : (name : List ℕ) (cs : List Client) (at : ℕ) (c : Client) → first_place name cs ≡ Some at → slice_get cs at ≡ Some c → has_name name c ≡ true
place_has name [] at c place there = absurd cc
place_has name (e ∷ cs) at c place there = by_name (has_name name e) refl place (λ k is stands. place_has name cs k c is stands)
  where
    by_place : (o : Option ℕ) → first_place name cs ≡ o → option_map suc o ≡ Some at → ((k : ℕ) → first_place name cs ≡ Some k → slice_get cs k ≡ Some c → has_name name c ≡ true) → has_name name c ≡ true
    by_place None is place rest = absurd cc
    by_place (Some k) is place rest = rest k is (ap (slice_get (e ∷ cs)) (same_place (suc k) at place) ∙ there)

    by_name : (b : Bool) → has_name name e ≡ b → cond b (Some 0) (option_map suc (first_place name cs)) ≡ Some at → ((k : ℕ) → first_place name cs ≡ Some k → slice_get cs k ≡ Some c → has_name name c ≡ true) → has_name name c ≡ true
    by_name true is place rest = subst (λ (x : Client). has_name name x ≡ true) (same_client e c (ap (slice_get (e ∷ cs)) (same_place 0 at place) ∙ there)) is
    by_name false is place rest = by_place (first_place name cs) refl place rest

pub named_set : (name : List ℕ) (cs : List Client) (at : ℕ) (c d : Client) → place_of_client name cs ≡ Some at → slice_get cs at ≡ Some c → d.name ≡ c.name → client_named name (slice_set cs at d) ≡ Some d
named_set name cs at c d place there same =
    let first : first_place name cs ≡ Some at = sym (place_first name cs) ∙ place in
    named_first name (slice_set cs at d) ∙ set_first name cs at d first (ap (λ (n : List ℕ). bytes_eq n name) same ∙ place_has name cs at c first there)

pub named_at : (name : List ℕ) (cs : List Client) (at : ℕ) (c : Client) → place_of_client name cs ≡ Some at → slice_get cs at ≡ Some c → client_named name cs ≡ Some c
named_at name cs at c place there = ap (client_found cs) place ∙ there
