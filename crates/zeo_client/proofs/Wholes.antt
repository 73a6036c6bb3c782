-- Messages that come whole are given and heard.
use Rattle.std.proofs.Common.{◌≡◌, ◌≢◌, ◌⊎◌, inl, inr, ℕ, ◌<◌, Bool, true, false, cond, List, [], ◌∷◌, ◌++◌, map, length, Option, Some, None, Result, Ok, Err, refl, sym, ap, subst, ◌∙◌, arith}
use Rattle.std.specs.Prelude.{IsTrue}
use Rattle.std.specs.List.{AllByRecursion}
use Rattle.std.proofs.lemmas.List.{append-nil}
use Rattle.zeo_frames.specs.declared.error.FrameError.{FrameError}
use Rattle.zeo_frames.specs.declared.error.FrameError.TheVariants as frame
use Rattle.zeo_frames.specs.Frames.{AreCut, GoesOn, HasCome, IsGoing, IsWithinLimit, Reading, frames, payloads_of}
use Rattle.zeo_frames.specs.Laws.{AreCutOneWay}
use Rattle.zeo_messages.specs.declared.call.Call.{Call}
use Rattle.zeo_messages.specs.declared.message.Message.{Message}
use Rattle.zeo_messages.specs.Messages.{payload_of}
use Rattle.zeo_reading.specs.Reading.{AreReadBack, message_in}
use Rattle.zeo_client.specs.declared.error.ClientError.{ClientError}
use Rattle.zeo_client.specs.declared.error.ClientError.TheVariants as error
use Rattle.zeo_client.specs.Hearing.{Held, IsHeard}
use Rattle.zeo_client.specs.Rows.{if_it_may, may_come}
use Rattle.zeo_client.specs.Taking.{ClientState, IsCut, IsFedIf, IsPieceTaken, Takes, TakesIfCut, ahead, bad, coming, error_of, starved, taken, taken_all}
use Rattle.zeo_client.specs.Whole.{AreCutShort, AreHeard, HearsFront, HearsMessages, MayBeSent, WholePiecesAreHeard, ready}

-- ---- payloads

none_some : (message : Message) → (let o : Option Message = None in o) ≡ Some message → ⊥
none_some message is = absurd cc

module _ (read_back : AreReadBack) (number : ℕ) (last : Option Call) where
  comes : (message : Message) → MayBeSent number last message → coming number last (payload_of message) ≡ Some message
  comes message sent =
      ap (if_it_may number last) (read_back message sent.held sent.row) ∙ ap (λ (b : Bool). cond b (Some message) None) sent.may

  heard_none : (messages : List Message) (held : Held) → HearsFront last messages held held
  heard_none [] held = refl
  heard_none (m ∷ messages) held = inl refl

  -- no memory, and some first messages were heard; or all were given and heard
  abbrev Heard : List Message → Held → Result (List Message) ClientError → Held → Type 0
  Heard messages old result new = ((result ≡ Err error.Memory) × HearsFront last messages old new) ⊎ ((result ≡ Ok messages) × HearsMessages last messages old new)

  pub are_heard : (messages : List Message) (old new : Held) (result : Result (List Message) ClientError) → AllByRecursion (MayBeSent number last) messages → Takes number last (map payload_of messages) old result new
      → Heard messages old result new
  are_heard [] old _ _ sent (taken_all _) = inr (refl, refl)
  are_heard [] old _ _ sent (starved _ _) = inl (refl, refl)
  are_heard (m ∷ messages) old _ _ sent (starved _ _) = inl (refl, inl refl)
  are_heard (m ∷ messages) old _ _ sent (bad _ _ _ none) = absurd (none_some m (sym none ∙ comes m sent.0))
  are_heard (m ∷ messages) old new _ sent (taken _ _ message _ behind _ result is heard takes) = first (are_heard messages behind new result sent.1 takes)
    where
      same : message ≡ m
      same = let e : ◌≡◌ {A = Option Message} (Some message) (Some m) = sym is ∙ comes m sent.0 in cc

      here : IsHeard last m old behind
      here = subst (λ (x : Message). IsHeard last x old behind) same heard

      first : Heard messages behind result new → Heard (m ∷ messages) old (ahead message result) new
      first (inl none) = inl (ap (ahead message) none.0, inr (behind, here, none.1))
      first (inr all) = inr (
        ap (ahead message) all.0 ∙ ap (λ (x : Message). let r : Result (List Message) ClientError = Ok (x ∷ messages) in r) same,
        (behind, here, all.1),
      )

-- ---- pieces

nothing_came : HasCome [] [] ready
nothing_came = record { cut = record { spelled = refl; within = tt }; more = inl (omega arith) }

all_came : (payloads : List (List ℕ)) → AllByRecursion IsWithinLimit payloads → HasCome (frames payloads) payloads ready
all_came payloads within = record { cut = record { spelled = sym (append-nil (frames payloads)); within = within }; more = inl (omega arith) }

none_ended : (e : FrameError) → (let o : Option FrameError = None in o) ≡ Some e → ⊥
none_ended e is = absurd cc

long_memory : (n : ℕ) → (let o : Option FrameError = Some (frame.FrameTooLong n) in o) ≡ Some frame.Memory → ⊥
long_memory n is = absurd cc

goes_unless : (payloads : List (List ℕ)) (ended : Option FrameError) → GoesOn payloads ended → ended ≢ Some frame.Memory
goes_unless payloads ended goes is = subst (λ (o : Option FrameError). GoesOn payloads o) is goes

payloads_within : (number : ℕ) (last : Option Call) (messages : List Message) → AllByRecursion (MayBeSent number last) messages → AllByRecursion IsWithinLimit (map payload_of messages)
payloads_within number last [] sent = tt
payloads_within number last (m ∷ messages) sent = (sent.0.within, payloads_within number last messages sent.1)

module _ (one_way : AreCutOneWay) (read_back : AreReadBack) (messages : List Message) (old new : ClientState) (result : Result (List Message) ClientError) (sent : AllByRecursion (MayBeSent old.number old.last) messages) (clear : old.reading ≡ ready) where
  payloads : List (List ℕ)
  payloads = map payload_of messages

  within : AllByRecursion IsWithinLimit (map payload_of messages)
  within = payloads_within old.number old.last messages sent

  -- and where all were heard, no byte is left over
  abbrev HeardWhole : ClientState → Type 0
  HeardWhole now =
      ((result ≡ Err error.Memory) × HearsFront old.last messages old.held now.held) ⊎ ((now.reading ≡ ready) × ((result ≡ Ok messages) × HearsMessages old.last messages old.held now.held))

  by_cut : (came : Result (List (List ℕ)) FrameError) (now : ClientState) → IsCut old.reading (frames (map payload_of messages)) came now.reading → TakesIfCut old.number old.last came old.held result now.held → HeardWhole now
  by_cut (Err frame.Memory) now cut takes = inl (takes.0, subst (λ (h : Held). HearsFront old.last messages old.held h) (sym takes.1) (heard_none read_back old.number old.last messages old.held))
  by_cut (Err (frame.FrameTooLong n)) now cut takes =
      let come : HasCome (frames (map payload_of messages)) [] now.reading = cut.come [] [] (subst (λ (r : Reading). HasCome [] [] r) (sym clear) nothing_came) in
      let ended : now.reading.ended ≡ Some (frame.FrameTooLong n) = cut.err in
      let same = one_way (frames (map payload_of messages)) [] (map payload_of messages) now.reading ready come (all_came (map payload_of messages) within) (λ is. long_memory n (sym ended ∙ is)) (none_ended frame.Memory) in
      absurd (none_ended (frame.FrameTooLong n) (sym (ap (λ (r : Reading). r.ended) same.1) ∙ ended))
  by_cut (Ok given) now cut takes =
      let come : HasCome (frames (map payload_of messages)) given now.reading = cut.come [] [] (subst (λ (r : Reading). HasCome [] [] r) (sym clear) nothing_came) in
      let same = one_way (frames (map payload_of messages)) given (map payload_of messages) now.reading ready come (all_came (map payload_of messages) within) (goes_unless given now.reading.ended cut.ok) (none_ended frame.Memory) in
      by_heard same.1 (are_heard read_back old.number old.last messages old.held now.held result sent (subst (λ (ps : List (List ℕ)). Takes old.number old.last ps old.held result now.held) same.0 takes))
    where
      by_heard : now.reading ≡ ready → Heard read_back old.number old.last messages old.held result now.held → HeardWhole now
      by_heard left (inl none) = inl none
      by_heard left (inr all) = inr (left, all)

  by_piece : IsPieceTaken old (frames (map payload_of messages)) result new → AreCutShort messages old result new ⊎ AreHeard messages old result new
  by_piece is = all_of (by_cut is.taken.payloads (record new { ended = old.ended }) is.taken.cut is.taken.taken)
    where
      ended : (r : Result (List Message) ClientError) → result ≡ r → new.ended ≡ error_of r
      ended r given = is.ended ∙ ap (λ (x : Result (List Message) ClientError). error_of x) given

      all_of : HeardWhole new → AreCutShort messages old result new ⊎ AreHeard messages old result new
      all_of (inl none) = inl (record { given = none.0; heard = none.1; ended = ended (Err error.Memory) none.0 })
      all_of (inr all) = inr (record {
        given = all.1.0;
        heard = all.1.1;
        reading = all.0;
        ended = ended (Ok messages) all.1.0;
        number = is.taken.same.0;
        last = is.taken.same.1;
      })

pub whole_pieces : AreCutOneWay → AreReadBack → WholePiecesAreHeard
whole_pieces one_way read_back messages old new result sent clear open_so fed =
    by_piece one_way read_back messages old new result sent clear (subst (λ (e : Option ClientError). IsFedIf e old (frames (map payload_of messages)) result new) open_so fed)
