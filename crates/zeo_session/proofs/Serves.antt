-- Messages that are served one after another.
use Rattle.std.proofs.Common.{◌≡◌, ◌≢◌, ℕ, List, [], ◌∷◌, ◌++◌, Option, Some, None, ap, sym, ◌∙◌, refl, subst, append-nil, append_assoc, inl, inr}
use Rattle.std.specs.Io.KnownBytes.{Appends, Consumes}
use Rattle.std.specs.List.{concat, AllByRecursion}
use Rattle.std.proofs.KnownBytes.{Appends-nil, Appends-trans}
use Rattle.std.proofs.lemmas.Grind.{flat_map-append}
use Rattle.std.proofs.lemmas.List.Folds.{concat-append}
use Rattle.zodb_core.specs.declared.reply.Reply.{Reply}
use Rattle.zodb_core.specs.declared.request.Request.{Request}
use Rattle.zeo_frames.specs.declared.error.FrameError.{FrameError}
use Rattle.zeo_frames.specs.declared.error.FrameError.TheVariants as frame_error
use Rattle.zeo_frames.specs.Frames.{AreCut, GoesOn, HasCome, IsUnfinished, IsWithinLimit, Reading, frame, frames}
use Rattle.zeo_desk.specs.Desks.{DeskState, new_desk}
use Rattle.zeo_session.specs.declared.ending.SessionEnd.{SessionEnd}
use Rattle.zeo_session.specs.declared.ending.SessionEnd.TheVariants.{FrameTooLong, Memory}
use Rattle.zeo_session.specs.Served.{HasServed, Progress, Serves, done, goes_on}
use Rattle.zeo_session.specs.Serving.{AreSent, AreStopped, AreTaken, HasComeSo, IsEndOf}

-- ---- bytes that are cut into frames

all_of_front : (xs ys : List (List ℕ)) → AllByRecursion IsWithinLimit (xs ++ ys) → AllByRecursion IsWithinLimit xs
all_of_front [] ys all = tt
all_of_front (x ∷ xs) ys all = (all.0, all_of_front xs ys all.1)

-- a payload and those behind it may stand in the rest
pub cut_front : (came : List ℕ) (given front more : List (List ℕ)) (payload rest : List ℕ) → AreCut came (given ++ (front ++ payload ∷ more)) rest
    → AreCut came (given ++ front) (frame payload ++ (frames more ++ rest))
cut_front came given front more payload rest cut =
    let split : given ++ (front ++ payload ∷ more) ≡ (given ++ front) ++ payload ∷ more = sym (append_assoc given front (payload ∷ more)) in
    record {
      spelled = cut.spelled ∙ (ap (λ (ps : List (List ℕ)). frames ps ++ rest) split ∙ (ap (λ (bs : List ℕ). bs ++ rest) (flat_map-append frame (given ++ front) (payload ∷ more))
          ∙ (append_assoc (frames (given ++ front)) (frame payload ++ frames more) rest ∙ ap (λ (bs : List ℕ). frames (given ++ front) ++ bs) (append_assoc (frame payload) (frames more) rest))));
      within = all_of_front (given ++ front) (payload ∷ more) (subst (AllByRecursion IsWithinLimit) split cut.within);
    }

-- more bytes stand in the rest
pub cut_on : (came piece : List ℕ) (given : List (List ℕ)) (rest : List ℕ) → AreCut came given rest → AreCut (came ++ piece) given (rest ++ piece)
cut_on came piece given rest cut = record {
  spelled = ap (λ (bs : List ℕ). bs ++ piece) cut.spelled ∙ append_assoc (frames given) rest piece;
  within = cut.within;
}

-- where memory was not wanting, the bytes that came are cut
pub cut_of : (came : List ℕ) (given : List (List ℕ)) (reading : Reading) → HasComeSo came given reading → (rest : List ℕ) × AreCut came given rest
cut_of came given reading come = by_end reading.ended come.0 come.1
  where
    by_end : (ended : Option FrameError) → HasCome came given (record { rest = reading.rest; ended = ended }) → ended ≢ Some frame_error.Memory → (rest : List ℕ) × AreCut came given rest
    by_end None come ne = (reading.rest, come.cut)
    by_end (Some (frame_error.FrameTooLong excess)) come ne = (come.rest, come.cut)
    by_end (Some frame_error.Memory) come ne = absurd (ne refl)

-- ---- a feed

-- payloads came, or none, and then no length above the limit stands there
pub feed_gave : (came piece : List ℕ) (given payloads : List (List ℕ)) (new : Reading) → HasCome (came ++ piece) (given ++ payloads) new → GoesOn payloads new.ended
    → HasComeSo (came ++ piece) (given ++ payloads) new
feed_gave came piece given payloads new come on = (come, λ is. not_memory new.ended on is)
  where
    not_memory : (ended : Option FrameError) → GoesOn payloads ended → ended ≢ Some frame_error.Memory
    not_memory None on is = cc
    not_memory (Some (frame_error.FrameTooLong excess)) on is = cc
    not_memory (Some frame_error.Memory) on is = absurd on

pub feed_none : (came piece : List ℕ) (given payloads : List (List ℕ)) (new : Reading) → payloads ≡ [] → HasCome (came ++ piece) (given ++ payloads) new → GoesOn payloads new.ended
    → IsUnfinished new.rest × AreCut (came ++ piece) given new.rest
feed_none came piece given payloads new none come on =
    by_end new.ended (subst (λ (ps : List (List ℕ)). HasCome (came ++ piece) ps new) (ap (λ (ps : List (List ℕ)). given ++ ps) none ∙ append-nil given) come) on
  where
    by_end : (ended : Option FrameError) → HasCome (came ++ piece) given (record { rest = new.rest; ended = ended }) → GoesOn payloads ended
        → IsUnfinished new.rest × AreCut (came ++ piece) given new.rest
    by_end None come on = (come.more, come.cut)
    by_end (Some (frame_error.FrameTooLong excess)) come on = absurd (on none)
    by_end (Some frame_error.Memory) come on = absurd on

-- a feed failed
pub feed_failed : (came piece : List ℕ) (given : List (List ℕ)) (old new : Reading) (left : Option (List ℕ)) (error : FrameError) (end : SessionEnd)
    → HasComeSo came given old → HasCome (came ++ piece) (given ++ []) new → new.ended ≡ Some error
    → (error ≡ frame_error.Memory → end ≡ Memory) → ((excess : ℕ) → error ≡ frame_error.FrameTooLong excess → end ≡ FrameTooLong)
    → IsEndOf (came ++ piece) given left end
feed_failed came piece given old new left (frame_error.FrameTooLong excess) end before come ended memory long =
    let here : HasCome (came ++ piece) given (record { rest = new.rest; ended = Some (frame_error.FrameTooLong excess) }) =
    subst (λ (e : Option FrameError). HasCome (came ++ piece) given (record { rest = new.rest; ended = e })) ended
    (subst (λ (ps : List (List ℕ)). HasCome (came ++ piece) ps new) (append-nil given) come) in
    subst (IsEndOf (came ++ piece) given left) (sym (long excess refl)) (record { rest = here.rest; cut = here.cut; is = (excess, here.long) })
feed_failed came piece given old new left frame_error.Memory end before come ended memory long =
    let cut = cut_of came given old before in
    subst (IsEndOf (came ++ piece) given left) (sym (memory refl)) (record { rest = cut.0 ++ piece; cut = cut_on came piece given cut.0 cut.1; is = tt })

-- ---- messages

module _ (steps : Request → Reply → Progress → Progress → Type 0) where
  serves_on : (d between left : DeskState) (ps qs : List (List ℕ)) (s middle behind : Progress) (fs gs : List (List ℕ))
      → Serves steps d ps s fs between middle → Serves steps between qs middle gs left behind → Serves steps d (ps ++ qs) s (fs ++ gs) left behind
  serves_on _ _ left _ qs _ _ behind _ gs (done d s) again = again
  serves_on _ _ left _ qs _ _ behind _ gs (goes_on d first between p ps turn s second middle frames more takes does rest) again =
      subst (λ (bs : List (List ℕ)). Serves steps d (p ∷ (ps ++ qs)) s bs left behind) (sym (append_assoc frames more gs))
      (goes_on d first left p (ps ++ qs) turn s second behind frames (more ++ gs) takes does (serves_on first between left ps qs second middle behind more gs rest again))

  pub none_taken : (d : DeskState) (s : Progress) (a : Option (List ℕ)) → AreTaken steps d d [] s s a a
  none_taken d s a = record { frames = []; serves = done d s; sent = Appends-nil a }

  pub taken_on : (d between left : DeskState) (ps qs : List (List ℕ)) (s middle behind : Progress) (a b c : Option (List ℕ))
      → AreTaken steps d between ps s middle a b → AreTaken steps between left qs middle behind b c → AreTaken steps d left (ps ++ qs) s behind a c
  taken_on d between left ps qs s middle behind a b c one other = record {
    frames = one.frames ++ other.frames;
    serves = serves_on d between left ps qs s middle behind one.frames other.frames one.serves other.serves;
    sent = subst (Appends a c) (sym (concat-append one.frames other.frames)) (Appends-trans a b c (concat one.frames) (concat other.frames) one.sent other.sent);
  }

  one_taken : (d left : DeskState) (p : List ℕ) (s t : Progress) (a b : Option (List ℕ)) → AreSent steps d left p s t a b → AreTaken steps d left (p ∷ []) s t a b
  one_taken d left p s t a b (fs, served, sent) = record {
    frames = fs;
    serves = subst (λ (bs : List (List ℕ)). Serves steps d (p ∷ []) s bs left t) (append-nil fs)
        (goes_on d left left p [] served.turn s t t fs [] served.takes served.does (done left t));
    sent = sent;
  }

  pub taken_more : (d between left : DeskState) (ps : List (List ℕ)) (p : List ℕ) (s middle behind : Progress) (a b c : Option (List ℕ))
      → AreTaken steps d between ps s middle a b → AreSent steps between left p middle behind b c → AreTaken steps d left (ps ++ p ∷ []) s behind a c
  taken_more d between left ps p s middle behind a b c one sent = taken_on d between left ps (p ∷ []) s middle behind a b c one (one_taken between left p middle behind b c sent)

  -- ---- the end

  -- a message ended it
  pub over_by : (came : List ℕ) (given payloads : List (List ℕ)) (reading : Reading) (desk : DeskState) (s t behind : Progress) (unread left a b c : Option (List ℕ)) (end : SessionEnd)
      → Consumes unread left came → HasComeSo came (given ++ payloads) reading → AreTaken steps new_desk desk given s t a b → AreStopped steps desk payloads t behind b c end
      → HasServed steps end s behind unread left a c
  over_by came given payloads reading desk s t behind unread left a b c end reads come before stopped =
      let cut = cut_of came (given ++ payloads) reading come in
      let both = taken_on new_desk desk stopped.desk given stopped.done s t stopped.between a b stopped.middle before stopped.front in
      let at = cut_front came given stopped.done stopped.rest stopped.payload cut.0 (subst (λ (ps : List (List ℕ)). AreCut came (given ++ ps) cut.0) stopped.split cut.1) in
      record {
        came = came;
        reads = reads;
        payloads = given ++ stopped.done;
        rest = frame stopped.payload ++ (frames stopped.rest ++ cut.0);
        cut = at;
        desk = stopped.desk;
        between = stopped.between;
        frames = both.frames;
        serves = both.serves;
        middle = stopped.middle;
        sent = both.sent;
        ends = inr (record { payload = stopped.payload; more = frames stopped.rest ++ cut.0; next = refl; short = stopped.short });
      }

  -- the link ended it
  pub over_behind : (came : List ℕ) (given : List (List ℕ)) (desk : DeskState) (s t : Progress) (unread left a b : Option (List ℕ)) (end : SessionEnd)
      → Consumes unread left came → IsEndOf came given left end → AreTaken steps new_desk desk given s t a b → HasServed steps end s t unread left a b
  over_behind came given desk s t unread left a b end reads at before = record {
    came = came;
    reads = reads;
    payloads = given;
    rest = at.rest;
    cut = at.cut;
    desk = desk;
    between = t;
    frames = before.frames;
    serves = before.serves;
    middle = b;
    sent = before.sent;
    ends = inl (record { rest_is = at.is; same = refl; none = Appends-nil b });
  }
