-- A step of another session, however it ends, is one of the moves that keep a session and its client. For the proofs of those who serve clients.
use Rattle.std.proofs.Common.{◌≡◌, ℕ, zero, suc, ◌<◌, List, [], ◌∷◌, map, Option, Some, None, Bool, true, false, cond, refl, ap, ◌∙◌, subst}
use Rattle.std.specs.Prelude.{slice_get, slice_set}
use Rattle.std.specs.Option.{option_map_or}
use Rattle.std.specs.Ordering.{nat_cmp}
use Rattle.std.specs.FinSet.{FinSet}
use Rattle.std.proofs.lemmas.Option.{same_Some}
use Rattle.zb_model.specs.declared.data.Transaction.{Transaction}
use Rattle.zb_model.specs.Database.{newest_tid}
use Rattle.zb_model.specs.Packing.{packed_by}
use Rattle.zodb_core.specs.declared.request.Request.{Request}
use Rattle.zodb_core.specs.Machine.{Machine, MachineSession, MachineVote, Rules, holds_vote, told_of}
use Rattle.zodb_core.specs.Outcomes.{StepOutcome, closed_session, failed, machine_left}
use Rattle.zodb_core.specs.Sound.{IsPackWithin, IsSoundMachine, VotesLater}
use Rattle.zodb_core.specs.SoundLaws.{sound_later}
use Rattle.zodb_core.specs.StepCases.{PackCases, StepCases, by_ending, pack_part}
use Rattle.zodb_core.specs.Steps.{Stepped, switched, with_vote, without_pack, without_session, without_vote}
use Rattle.zeo_serving.specs.KnowLaws.{OtherMoves, commits, packs, stays}

-- what a step of another session does, as a session sees it
pub record IsOther (m now : Machine) (n : ℕ) : Type 0 where
  pub told : told_of n now.sessions ≡ told_of n m.sessions
  pub moves : OtherMoves m now n
  pub vote : (v : MachineVote) → now.vote ≡ Some v → v.session ≡ n → m.vote ≡ Some v

-- ---- sessions

get_other : (xs : List MachineSession) (i n : ℕ) (x : MachineSession) → (i ≡ n → ⊥) → slice_get (slice_set xs i x) n ≡ slice_get xs n
get_other [] i n x ne = refl
get_other (y ∷ xs) zero zero x ne = absurd (ne refl)
get_other (y ∷ xs) zero (suc n) x ne = refl
get_other (y ∷ xs) (suc i) zero x ne = refl
get_other (y ∷ xs) (suc i) (suc n) x ne = get_other xs i n x (λ e. ne (ap suc e))

told_other : (xs : List MachineSession) (i n : ℕ) (x : MachineSession) → (i ≡ n → ⊥) → told_of n (slice_set xs i x) ≡ told_of n xs
told_other xs i n x ne = ap (λ (o : Option MachineSession). option_map_or (λ y. y.told) o 0) (get_other xs i n x ne)

told_closed : (xs : List MachineSession) (n : ℕ) → told_of n (map closed_session xs) ≡ told_of n xs
told_closed [] n = refl
told_closed (y ∷ xs) zero = refl
told_closed (y ∷ xs) (suc n) = told_closed xs n

-- ---- steps

abbrev no_vote : Option MachineVote
no_vote = None

pub none_held : (v : MachineVote) → no_vote ≡ Some v → ⊥
none_held v e = absurd cc

-- the same but for the pack and the greatest number
abbrev pub StaysAs : Machine → Machine → Type 0
StaysAs m now = (now.list ≡ m.list) × (now.journal ≡ m.journal) × (now.sessions ≡ m.sessions) × (now.vote ≡ m.vote)

module _ (m : Machine) (n : ℕ) where
  pub as_it_was : (now : Machine) → StaysAs m now → IsOther m now n
  as_it_was now same = record { told = ap (told_of n) same.2; moves = stays same.0 same.1; vote = λ v e s. subst (λ (o : Option MachineVote). o ≡ Some v) same.3 e }

  pub same : IsOther m m n
  same = as_it_was m (refl, refl, refl, refl)

  pub packless : IsOther m (without_pack m) n
  packless = as_it_was (without_pack m) (refl, refl, refl, refl)

  pub packed_other : (t : ℕ) (keep : FinSet nat_cmp) → t < newest_tid m.list → IsOther m (switched m t (packed_by t keep m.list)).machine n
  packed_other t keep below = record { told = refl; moves = packs t keep below refl refl; vote = λ v e s. e }

  pub failed_other : IsOther m (failed m) n
  failed_other = record { told = told_closed m.sessions n; moves = stays refl refl; vote = λ v e s. absurd (none_held v e) }

  pub voteless : (b : Bool) → IsOther m (record m { vote = cond b None m.vote }) n
  voteless true = record { told = refl; moves = stays refl refl; vote = λ v e s. absurd (none_held v e) }
  voteless false = record { told = refl; moves = stays refl refl; vote = λ v e s. e }

  module _ (other : ℕ) (ne : other ≡ n → ⊥) where
    voted : (writes : Option Transaction) → IsOther m (with_vote m other writes) n
    voted writes = record { told = refl; moves = stays refl refl; vote = λ v e s. absurd (ne (ap (λ (x : MachineVote). x.session) (same_Some (record { session = other; writes = writes }) v e) ∙ s)) }

    cases : (q : Request) → VotesLater m.list m.vote → IsPackWithin m.list m.pack → StepCases (λ s. IsOther m s.machine n) m other q
    cases q later within = record {
      refused = λ r is. same;
      full = λ count. same;
      spent = same;
      told = record { told = told_other m.sessions other n _ ne; moves = stays refl refl; vote = λ v e s. e };
      found = λ oid f. same;
      numbers = λ count. as_it_was _ (refl, refl, refl, refl);
      nothing = voted None;
      written = λ texts changes tid each above bounded. voted (Some _);
      emptied = record { told = refl; moves = stays refl refl; vote = λ v e s. absurd (none_held v e) };
      committed = λ v t is of. record { told = refl; moves = commits other t ne (later v t is of) refl refl; vote = λ w e s. absurd (none_held w e) };
      dropped = voteless (holds_vote other m.vote);
      listed = λ revisions. same;
      logged = λ lines. same;
      begun = λ is t collects none below. as_it_was _ (refl, refl, refl, refl);
      marking = λ is p count there. as_it_was _ (refl, refl, refl, refl);
      marked = λ is p keep there. as_it_was _ (refl, refl, refl, refl);
      copying = λ is p k copied count there copying. as_it_was _ (refl, refl, refl, refl);
      copied = λ is p k copied count there copying. as_it_was _ (refl, refl, refl, refl);
      lost = λ is r answers. packless;
      packed = λ is t keep free below. packed_other t keep (below within);
      last = same;
      since = λ tid changes. same;
      closed = record { told = told_other m.sessions other n _ ne; moves = stays refl refl; vote = (voteless (holds_vote other m.vote)).vote };
    }

    -- a step of another session, however it ends
    pub left_other : (rules : Rules) (q : Request) (stamp : ℕ) (o : StepOutcome) → IsSoundMachine m → IsOther m (machine_left rules m other q stamp o) n
    left_other rules q stamp o sound = by_ending (λ x. IsOther m x n) rules m other q stamp o same packless failed_other (cases q (sound_later m sound) sound.within)

-- a request on a pack moves so too, whichever session makes it
pub pack_cases : (m : Machine) (n by : ℕ) (named : List ℕ → Option (List ℕ)) (q : Request) → IsPackWithin m.list m.pack → PackCases (λ s. IsOther m s.machine n) named m by q
pack_cases m n by named q within = record {
  refused = λ r is. same m n;
  begun = λ t collects none below. as_it_was m n _ (refl, refl, refl, refl);
  marking = λ p count there. as_it_was m n _ (refl, refl, refl, refl);
  marked = λ p there none. as_it_was m n _ (refl, refl, refl, refl);
  copying = λ p k copied count there copying. as_it_was m n _ (refl, refl, refl, refl);
  copied = λ p k copied count there copying. as_it_was m n _ (refl, refl, refl, refl);
  lost = λ r answers. packless m n;
  packed = λ g goal free below. packed_other m n g.tid _ (below within);
}
