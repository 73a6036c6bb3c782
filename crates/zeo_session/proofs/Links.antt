-- A link that is read and served, piece by piece.
use Rattle.std.proofs.Common.{◌≡◌, ℕ, arith, List, [], ◌∷◌, ◌++◌, Option, None, Some, Result, Ok, Err, length, ap, sym, ◌∙◌, refl, subst, append-nil, append_assoc}
use Rattle.std.specs.Io.KnownBytes.{Consumes, IsAtEnd, Keeps}
use Rattle.std.proofs.KnownBytes.{Consumes-nil, Consumes-trans}
use Rattle.zb_base.specs.Counts.{Rose}
use Rattle.zb_model.specs.declared.data.Transaction.{Transaction}
use Rattle.zodb_core.specs.declared.reply.Reply.{Reply}
use Rattle.zodb_core.specs.declared.request.Request.{Request}
use Rattle.zodb_core.specs.Machine.{Rules}
use Rattle.zodb_core.specs.Outcomes.{FaultCounts}
use Rattle.zeo_frames.specs.declared.error.FrameError.{FrameError}
use Rattle.zeo_frames.specs.declared.error.FrameError.TheVariants as frame_error
use Rattle.zeo_frames.specs.Frames.{GoesOn, HasCome, Reading}
use Rattle.zeo_desk.specs.Desks.{DeskState, new_desk}
use Rattle.hub_shared.specs.Seats.{Known}
use Rattle.zeo_session.specs.declared.ending.SessionEnd.{SessionEnd}
use Rattle.zeo_session.specs.declared.ending.SessionEnd.TheVariants.{Ended, LinkFault, FrameTooLong, Memory}
use Rattle.zeo_session.specs.Served.{Asks, Progress, started}
use Rattle.zeo_session.specs.Serving.{AreTaken, CountsFaults, HasComeOn, HasComeSo, HasServedAll, HasServedSoFar, HasTaken, HasTakenAll, IsEndOf}
use Rattle.zeo_session.proofs.Serves.{feed_failed, feed_gave, feed_none, none_taken, over_behind, over_by, taken_more, taken_on}

-- ---- pieces that are read

-- so much came of a link, of which all but its last bytes was fed
pub record ReadsFront (came : List ℕ) (given : List (List ℕ)) (unread left : Option (List ℕ)) (fresh : List ℕ) (frames : Reading) : Type 0 where
  pub more : List ℕ
  pub reads : Consumes unread left (more ++ fresh)
  pub come : HasComeSo (came ++ more) given frames

module _ (came : List ℕ) (given : List (List ℕ)) (unread : Option (List ℕ)) where
  pub none_read : (frames : Reading) → HasComeSo came given frames → ReadsFront came given unread unread [] frames
  none_read frames come = record { more = []; reads = Consumes-nil unread; come = subst (λ (bs : List ℕ). HasComeSo bs given frames) (sym (append-nil came)) come }

  module _ (left : Option (List ℕ)) (fresh : List ℕ) (old new : Reading) (front : ReadsFront came given unread left fresh old) where
    -- what came with the bytes that were fed
    abbrev Fed : List (List ℕ) → Type 0
    Fed given = HasCome ((came ++ front.more) ++ fresh) given new

    regroup : (came ++ front.more) ++ fresh ≡ came ++ (front.more ++ fresh)
    regroup = append_assoc came front.more fresh

    pub came_payloads : (payloads : List (List ℕ)) → Fed (given ++ payloads) → GoesOn payloads new.ended → HasComeOn came given unread left new (Ok payloads)
    came_payloads payloads fed on = record {
      more = front.more ++ fresh;
      reads = front.reads;
      come = subst (λ (bs : List ℕ). HasComeSo bs (given ++ payloads) new) regroup (feed_gave (came ++ front.more) fresh given payloads new fed on);
    }

    pub came_no_more : (error : FrameError) (end : SessionEnd) → Fed (given ++ []) → new.ended ≡ Some error → (error ≡ frame_error.Memory → end ≡ Memory)
        → ((excess : ℕ) → error ≡ frame_error.FrameTooLong excess → end ≡ FrameTooLong) → HasComeOn came given unread left new (Err end)
    came_no_more error end fed ended memory long = record {
      more = front.more ++ fresh;
      reads = front.reads;
      come = subst (λ (bs : List ℕ). IsEndOf bs given left end) regroup (feed_failed (came ++ front.more) fresh given old new left error end front.come fed ended memory long);
    }

    -- no payload came with them, and a read
    module _ (payloads : List (List ℕ)) (none : payloads ≡ []) (fed : Fed (given ++ payloads)) (on : GoesOn payloads new.ended) where
      pub came_more : (next : Option (List ℕ)) (piece : List ℕ) → Consumes left next piece → ReadsFront came given unread next piece new
      came_more next piece reads = record {
        more = front.more ++ fresh;
        reads = Consumes-trans unread left next (front.more ++ fresh) piece front.reads reads;
        come = subst (λ (bs : List ℕ). HasComeSo bs given new) regroup
            (subst (λ (ps : List (List ℕ)). HasComeSo ((came ++ front.more) ++ fresh) ps new) (ap (λ (ps : List (List ℕ)). given ++ ps) none ∙ append-nil given)
            (feed_gave (came ++ front.more) fresh given payloads new fed on));
      }

      pub came_end : (next : Option (List ℕ)) (piece : List ℕ) → piece ≡ [] → Consumes left next piece → IsAtEnd next → HasComeOn came given unread next new (Err Ended)
      came_end next piece nothing reads at =
          let end = feed_none (came ++ front.more) fresh given payloads new none fed on in
          record {
            more = front.more ++ fresh;
            reads = subst (Consumes unread next) (ap (λ (bs : List ℕ). (front.more ++ fresh) ++ bs) nothing ∙ append-nil (front.more ++ fresh))
                (Consumes-trans unread left next (front.more ++ fresh) piece front.reads reads);
            come = subst (λ (bs : List ℕ). IsEndOf bs given next Ended) regroup (record { rest = new.rest; cut = end.1; is = (end.0, at) });
          }

      pub came_fault : (next : Option (List ℕ)) → Consumes left next [] → HasComeOn came given unread next new (Err LinkFault)
      came_fault next reads =
          let end = feed_none (came ++ front.more) fresh given payloads new none fed on in
          record {
            more = front.more ++ fresh;
            reads = subst (Consumes unread next) (append-nil (front.more ++ fresh)) (Consumes-trans unread left next (front.more ++ fresh) [] front.reads reads);
            come = subst (λ (bs : List ℕ). IsEndOf bs given next LinkFault) regroup (record { rest = new.rest; cut = end.1; is = end.0 });
          }

pub kept_none : (left next : Option (List ℕ)) → Keeps left next → Consumes left next []
kept_none None next kept = tt
kept_none (Some xs) None kept = absurd kept
kept_none (Some xs) (Some ys) kept = sym kept

-- what ended the session with a link fault let the count rise
pub fault_rose : {E : Type 0} (before now : ℕ) (r : Result E SessionEnd) (end : SessionEnd) → r ≡ Err end → CountsFaults before now r → end ≡ LinkFault → Rose before now
fault_rose {E = E} before now r end is counts = (subst (λ (q : Result E SessionEnd). CountsFaults before now q) is counts).fault

pub none_left : {A : Type 0} (xs : List A) → length xs ≡ 0 → xs ≡ []
none_left [] none = refl
none_left (x ∷ xs) none = absurd (omega arith)

module _ (told : Type 0) (rules : Rules) (list : List Transaction) (counts : FaultCounts) where
  abbrev Steps : Request → Reply → Progress → Progress → Type 0
  Steps = Asks told rules list counts

  -- ---- messages that are served

  -- the messages before those that are left were served
  pub record TakesFront (s : Progress) (w : Known) (d desk : DeskState) (payloads rest : List (List ℕ)) (before after : Option (List ℕ)) : Type 0 where
    pub done : List (List ℕ)
    pub split : done ++ rest ≡ payloads
    pub behind : Progress
    pub knows : behind.known ≡ w
    pub taken : AreTaken Steps d desk done s behind before after

  pub none_served : (s : Progress) (w : Known) (d : DeskState) (payloads : List (List ℕ)) (before : Option (List ℕ)) → s.known ≡ w → TakesFront s w d d payloads payloads before before
  none_served s w d payloads before knows = record { done = []; split = refl; behind = s; knows = knows; taken = none_taken Steps d s before }

  module _ (s : Progress) (v w : Known) (d desk left : DeskState) (payloads : List (List ℕ)) (payload : List ℕ) (rest : List (List ℕ)) (a b c : Option (List ℕ)) where
    pub one_served : {E : Type 0} (ok : E) → TakesFront s v d desk payloads (payload ∷ rest) a b
        → ((t : Progress) → t.known ≡ v → HasTaken told rules list counts t w desk left payload b c (Ok ok)) → TakesFront s w d left payloads rest a c
    one_served ok front all =
        let one = all front.behind front.knows in
        record {
          done = front.done ++ payload ∷ [];
          split = append_assoc front.done (payload ∷ []) rest ∙ front.split;
          behind = one.behind;
          knows = one.knows;
          taken = taken_more Steps d desk left front.done payload s front.behind one.behind a b c front.taken one.taken;
        }

    pub one_stopped : {E : Type 0} (end : SessionEnd) → TakesFront s v d desk payloads (payload ∷ rest) a b
        → ((t : Progress) → t.known ≡ v → HasTaken {E = E} told rules list counts t w desk left payload b c (Err end)) → HasTakenAll {E = E} told rules list counts s w d left payloads a c (Err end)
    one_stopped {E = E} end front all =
        let one = all front.behind front.knows in
        record {
          behind = one.behind;
          knows = one.knows;
          taken = record {
            done = front.done;
            payload = payload;
            rest = rest;
            split = sym front.split;
            desk = desk;
            between = front.behind;
            middle = b;
            front = front.taken;
            short = one.taken;
          };
        }

  -- the same of the next item of a list, whose bytes were handed on
  module _ {E : Type 0} (s : Progress) (v w : Known) (d desk left : DeskState) (payloads items rest : List (List ℕ)) (payload bytes : List ℕ) (a b c : Option (List ℕ)) (r : Result E SessionEnd)
      (next : items ≡ payload ∷ rest) (same : bytes ≡ payload) (front : TakesFront s v d desk payloads items a b)
      (all : (t : Progress) → t.known ≡ v → HasTaken told rules list counts t w desk left bytes b c r) where
    front_is : TakesFront s v d desk payloads (payload ∷ rest) a b
    front_is = subst (λ (ps : List (List ℕ)). TakesFront s v d desk payloads ps a b) next front

    all_is : (q : Result E SessionEnd) → r ≡ q → (t : Progress) → t.known ≡ v → HasTaken told rules list counts t w desk left payload b c q
    all_is q is t knows =
        subst (λ (x : Result E SessionEnd). HasTaken told rules list counts t w desk left payload b c x) is
        (subst (λ (bs : List ℕ). HasTaken told rules list counts t w desk left bs b c r) same (all t knows))

    pub next_served : (ok : E) → r ≡ Ok ok → TakesFront s w d left payloads rest a c
    next_served ok is = one_served s v w d desk left payloads payload rest a b c {E = E} ok front_is (all_is (Ok ok) is)

    pub next_stopped : (end : SessionEnd) → r ≡ Err end → HasTakenAll {E = E} told rules list counts s w d left payloads a c (Err end)
    next_stopped end is = one_stopped s v w d desk left payloads payload rest a b c {E = E} end front_is (all_is (Err end) is)

  pub all_served : {E : Type 0} (ok : E) (s : Progress) (w : Known) (d desk : DeskState) (payloads rest : List (List ℕ)) (a b : Option (List ℕ)) → rest ≡ []
      → TakesFront s w d desk payloads rest a b → HasTakenAll told rules list counts s w d desk payloads a b (Ok ok)
  all_served ok s w d desk payloads rest a b none front = record {
    behind = front.behind;
    knows = front.knows;
    taken = subst (λ (ps : List (List ℕ)). AreTaken Steps d desk ps s front.behind a b) (sym (append-nil front.done) ∙ (ap (λ (ps : List (List ℕ)). front.done ++ ps) (sym none) ∙ front.split)) front.taken;
  }

  -- ---- a whole link

  pub link_begun : (v : Known) (frames : Reading) (unread before : Option (List ℕ)) → HasComeSo [] [] frames → HasServedSoFar told rules list counts v v new_desk frames unread unread before before
  link_begun v frames unread before come = record {
    came = [];
    given = [];
    behind = started v;
    reads = Consumes-nil unread;
    come = come;
    knows = refl;
    taken = none_taken Steps new_desk (started v) before;
  }

  module _ (v w : Known) (desk : DeskState) (frames : Reading) (unread left before between : Option (List ℕ)) (so : HasServedSoFar told rules list counts v w desk frames unread left before between) where
    -- no memory for the first piece
    pub link_over : (end : SessionEnd) (new : Reading) (next : Option (List ℕ)) → HasComeOn so.came so.given left next new (Err end)
        → HasServedAll told rules list counts end v w unread next before between
    link_over end new next on = record {
      behind = so.behind;
      knows = so.knows;
      served = over_behind Steps (so.came ++ on.more) so.given desk (started v) so.behind unread next before between end
          (Consumes-trans unread left next so.came on.more so.reads on.reads) on.come so.taken;
    }

    module _ {E : Type 0} (payloads : List (List ℕ)) (new : Reading) (next after : Option (List ℕ)) (x : Known) (behind : DeskState) (on : HasComeOn so.came so.given left next new (Ok payloads)) where
      pub link_stopped : (r : Result E SessionEnd) (end : SessionEnd) → r ≡ Err end → ((t : Progress) → t.known ≡ w → HasTakenAll told rules list counts t x desk behind payloads between after r)
          → HasServedAll told rules list counts end v x unread next before after
      link_stopped r end is all =
          let it = subst (λ (q : Result E SessionEnd). HasTakenAll told rules list counts so.behind x desk behind payloads between after q) is (all so.behind so.knows) in
          record {
            behind = it.behind;
            knows = it.knows;
            served = over_by Steps (so.came ++ on.more) so.given payloads new desk (started v) so.behind it.behind unread next before between after end
                (Consumes-trans unread left next so.came on.more so.reads on.reads) on.come so.taken it.taken;
          }

      pub link_on : (r : Result E SessionEnd) (ok : E) → r ≡ Ok ok → ((t : Progress) → t.known ≡ w → HasTakenAll told rules list counts t x desk behind payloads between after r)
          → HasServedSoFar told rules list counts v x behind new unread next before after
      link_on r ok is all =
          let it = subst (λ (q : Result E SessionEnd). HasTakenAll told rules list counts so.behind x desk behind payloads between after q) is (all so.behind so.knows) in
          record {
            came = so.came ++ on.more;
            given = so.given ++ payloads;
            behind = it.behind;
            reads = Consumes-trans unread left next so.came on.more so.reads on.reads;
            come = on.come;
            knows = it.knows;
            taken = taken_on Steps new_desk desk behind so.given payloads (started v) so.behind it.behind before between after so.taken it.taken;
          }

  -- no memory for a piece
  pub link_unread : (v : Known) (unread before : Option (List ℕ)) → HasServedAll told rules list counts Memory v v unread unread before before
  link_unread v unread before = record {
    behind = started v;
    knows = refl;
    served = over_behind Steps [] [] new_desk (started v) (started v) unread unread before before Memory (Consumes-nil unread)
        (record { rest = []; cut = record { spelled = refl; within = tt }; is = tt }) (none_taken Steps new_desk (started v) before);
  }
