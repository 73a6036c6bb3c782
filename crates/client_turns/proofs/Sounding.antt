-- Lines lead from a sound moment to a sound one, and their clients keep their sessions.
use Rattle.std.proofs.Common.{◌≡◌, ℕ, zero, suc, ◌+◌, Bool, List, [], ◌∷◌, ◌++◌, length, Option, Some, Result, Ok, Err, refl, sym, ap, subst, ◌∙◌, arith, inl, inr}
use Rattle.std.specs.Prelude.{IfSome, slice_get, slice_set}
use Rattle.std.specs.Option.{option_map}
use Rattle.std.specs.List.{AllByRecursion}
use Rattle.zb_model.specs.declared.refusal.Refusal.{Refusal}
use Rattle.zb_answers.specs.declared.answer.Answer.{Answer}
use Rattle.zb_script.specs.declared.line.Line.{Line}
use Rattle.zodb_core.specs.declared.reply.Reply.{Reply}
use Rattle.zodb_core.specs.declared.request.Request.{Request}
use Rattle.zodb_core.specs.Machine.{Machine, Rules, front_of}
use Rattle.zodb_core.specs.Sound.{IsSoundMachine, IsWellFormedRequest}
use Rattle.client_turns.specs.Clients.{Client, Moment, OpenTransaction, changes_of}
use Rattle.client_turns.specs.Laws.{AreFormed, Follows, IsFormedClient, IsSoundMoment}
use Rattle.client_turns.specs.Refusing.{IsFittingLine}
use Rattle.client_turns.specs.Standing.{IsLineOpen, OrCut, RiseBelow}
use Rattle.client_turns.specs.Steps.{IsReadAt, IsStepAt}
use Rattle.client_turns.specs.Trees.{IsTreeEnd}
use Rattle.tree_attempts.specs.declared.attempt.Made.{Made}
use Rattle.client_turns.specs.Turns.{IsCutAt, IsLineUnless, IsStepLine}
use Rattle.client_turns.proofs.Following.{FollowsLine, asked_formed, at_formed, follows_twice, front_up, HasPutBytes, step_follows, step_line_follows, tree_end_formed, told_follows, unless_follows}
use Rattle.client_turns.proofs.Keeping.{rise_set}
use Rattle.client_turns.proofs.Standings.{AllKnow, ClientsGo, all_later, changed, end_goes, go_knows, joined, stay, step_goes, told_clients, unless_goes}

-- a sound moment that another led to, whose clients stand as they stood, but for one of them, or one more
pub record MovesOn (m now : Moment) : Type 0 where
  pub sound : IsSoundMoment now
  pub clients : ClientsGo (front_of now.machine.list) m.clients now.clients

-- nothing was done
pub same_moves : (m now : Moment) → IsSoundMoment m → now ≡ m → MovesOn m now
same_moves m now sound is = subst (MovesOn m) (sym is) (record { sound = sound; clients = stay refl })

-- nothing but to the machine
pub machine_moves : (m now : Moment) → IsSoundMoment m → Follows m.machine now.machine → now.clients ≡ m.clients → MovesOn m now
machine_moves m now sound follows clients = record {
  sound = record {
    machine = follows.sound;
    formed = subst (AllByRecursion IsFormedClient) (sym clients) sound.formed;
    known = subst (AllKnow (front_of now.machine.list)) (sym clients) (all_later (front_of m.machine.list) (front_of now.machine.list) m.clients (front_up m.machine now.machine follows) sound.known);
  };
  clients = stay clients;
}

-- ---- a step, a read

pub step_moves : (rules : Rules) (m : Moment) (n : ℕ) (q : Request) (r : Reply) (now : Moment) → IsSoundMoment m → IsWellFormedRequest q → IsStepAt rules m n q r now → MovesOn m now
step_moves rules m n q r now sound formed step = machine_moves m now sound (step_follows rules m n q r now sound.machine formed step) step.clients

pub read_moves : (m : Moment) (t : OpenTransaction) (oid : ℕ) (result : Result (ℕ × List ℕ) Refusal) (now : Moment) → IsSoundMoment m → IsReadAt m t oid result now → MovesOn m now
read_moves m t oid result now sound read =
    subst (MovesOn m) (sym read.rest) (record { sound = record { machine = sound.machine; formed = sound.formed; known = sound.known }; clients = stay refl })

-- ---- a line

pub line_moves : (rules : Rules) (m now : Moment) (at : ℕ) (c : Client) (l : Line) (r : Option Refusal) (a : Answer) → IsSoundMoment m → slice_get m.clients at ≡ Some c → IsFittingLine l → IsLineUnless rules m at c l r a now → MovesOn m now
line_moves rules m now at c l r a sound there fits is =
    let follows : FollowsLine m now = unless_follows rules m now at c l r a sound there fits is in
    let clients : ClientsGo (front_of now.machine.list) m.clients now.clients = unless_goes rules m now at c l r a there is in
    record {
      sound = record {
        machine = follows.machine.sound;
        formed = follows.formed;
        known = go_knows (front_of m.machine.list) (front_of now.machine.list) m.clients now.clients (front_up m.machine now.machine follows.machine) clients sound.known;
      };
      clients = clients;
    }

-- a line that is one step
pub step_line_moves : (rules : Rules) (m now : Moment) (at : ℕ) (c : Client) (d : Bool) (q : Request) (a : Answer) → IsSoundMoment m → slice_get m.clients at ≡ Some c → IsWellFormedRequest q → IsStepLine rules m at c d q a now → MovesOn m now
step_line_moves rules m now at c d q a sound there formed is =
    let follows : FollowsLine m now = step_line_follows rules m now at c d q a sound there formed is in
    let clients : ClientsGo (front_of now.machine.list) m.clients now.clients = step_goes rules m now at c d q a there is in
    record {
      sound = record {
        machine = follows.machine.sound;
        formed = follows.formed;
        known = go_knows (front_of m.machine.list) (front_of now.machine.list) m.clients now.clients (front_up m.machine now.machine follows.machine) clients sound.known;
      };
      clients = clients;
    }

pub cut_moves : (rules : Rules) (m now : Moment) (c : Client) (l : Line) → IsSoundMoment m → IsFormedClient c → IsCutAt rules m c l now → MovesOn m now
cut_moves rules m now c l sound formed is =
    let cut = is.cut in
    let first : Follows m.machine cut.behind.machine = step_follows rules m c.session is.request cut.reply cut.behind sound.machine (asked_formed c.standing (changes_of c) l is.request formed is.asks) cut.step in
    machine_moves m now sound (follows_twice m.machine cut.behind.machine now.machine first (told_follows rules cut.behind now c.session cut.count first.sound cut.fronts))
    (told_clients rules cut.behind now c.session cut.count cut.fronts ∙ cut.step.clients)

pub open_moves : (rules : Rules) (m now : Moment) (at : ℕ) (c : Client) (l : Line) (a : Answer) → IsSoundMoment m → slice_get m.clients at ≡ Some c → IsFittingLine l → OrCut (IsLineOpen rules m at c l) (IsCutAt rules m c l) a now → MovesOn m now
open_moves rules m now at c l a sound there fits (inl (inl line)) = line_moves rules m now at c l _ a sound there fits line
open_moves rules m now at c l a sound there fits (inl (inr starved)) = same_moves m now sound starved.1
open_moves rules m now at c l a sound there fits (inr cut) = cut_moves rules m now c l sound (at_formed m.clients at c sound.formed there) cut.1

-- what a call on a tree puts
end_machine : (b now : Moment) (at : ℕ) (c : Client) (t : OpenTransaction) (result : Result Made Refusal) (a : Answer) → IsTreeEnd b at c t result a now → now.machine ≡ b.machine
end_machine b now at c t (Ok made) a (inl change) = ap (λ (x : Moment). x.machine) change.1
end_machine b now at c t (Ok made) a (inr starved) = ap (λ (x : Moment). x.machine) starved.1
end_machine b now at c t (Err why) a refused = ap (λ (x : Moment). x.machine) refused.1

pub end_moves : (b now : Moment) (at : ℕ) (c : Client) (t : OpenTransaction) (result : Result Made Refusal) (a : Answer) → IsSoundMoment b → slice_get b.clients at ≡ Some c → c.transaction ≡ Some t → HasPutBytes result → IsTreeEnd b at c t result a now → MovesOn b now
end_moves b now at c t result a sound there begun puts end =
    let same : now.machine ≡ b.machine = end_machine b now at c t result a end in
    let front : front_of now.machine.list ≡ front_of b.machine.list = ap (λ (x : Machine). front_of x.list) same in
    let clients : ClientsGo (front_of now.machine.list) b.clients now.clients = end_goes (front_of now.machine.list) b now at c t result a there end in
    let formed : AreFormed t.changes = subst (λ (o : Option OpenTransaction). IfSome (option_map (λ (u : OpenTransaction). u.changes) o) AreFormed) begun (at_formed b.clients at c sound.formed there) in
    record {
      sound = record {
        machine = subst IsSoundMachine (sym same) sound.machine;
        formed = tree_end_formed b now at c t result a sound.formed formed puts end;
        known = go_knows (front_of b.machine.list) (front_of now.machine.list) b.clients now.clients (omega (arith, front)) clients sound.known;
      };
      clients = clients;
    }

-- ---- sessions

longer : (cs : List Client) (d : Client) → length (cs ++ d ∷ []) ≡ length cs → ⊥
longer [] d is = absurd (omega (arith, is))
longer (c ∷ cs) d is = longer cs d (omega (arith, is))

-- as many clients have the sessions that they had
pub go_rises : (front count : ℕ) (cs ds : List Client) → ClientsGo front cs ds → length ds ≡ length cs → RiseBelow 0 count cs → RiseBelow 0 count ds
go_rises front count cs ds (stay is) same rise = subst (RiseBelow 0 count) (sym is) rise
go_rises front count cs ds (changed at c d there left is) same rise = subst (RiseBelow 0 count) (sym is) (rise_set 0 count cs at c d there left.session rise)
go_rises front count cs ds (joined d known is) same rise = absurd (longer cs d (subst (λ (xs : List Client). length xs ≡ length cs) is same))

pub set_length : (cs : List Client) (at : ℕ) (d : Client) → length (slice_set cs at d) ≡ length cs
set_length [] at d = refl
set_length (c ∷ cs) zero d = refl
set_length (c ∷ cs) (suc at) d = ap suc (set_length cs at d)
